-- What a gateway does next is one, where its targets' answers are.
use Rattle.std.proofs.Common.{◌≡◌, ◌+◌, ◌⊎◌, ℕ, List, [], ◌∷◌, ◌++◌, Bool, true, false, Result, Ok}
use Rattle.std.proofs.Common.{refl, sym, ◌∙◌, ap, subst, inl, inr, append_assoc, append-nil}
use Rattle.std.specs.Prelude.{not, ◌||◌, cond}
use Rattle.ssh_rules.specs.Run.{who}
use Rattle.ssh_rules.specs.World.{World}
use Rattle.ssh_gateway.specs.declared.deciding.Verdict.{Verdict}
use Rattle.ssh_gateway.specs.declared.deciding.Verdict.TheVariants.{Prohibited, Unreachable, Granted}
use Rattle.ssh_gateway.specs.declared.switchboard.Asking.{Asking}
use Rattle.ssh_gateway.specs.declared.switchboard.Connection.{Connection}
use Rattle.ssh_gateway.specs.declared.targets.Arrived.{Arrived}
use Rattle.ssh_gateway.specs.declared.targets.Arrived.TheVariants as arrived
use Rattle.ssh_gateway.specs.declared.targets.TargetCall.{TargetCall}
use Rattle.ssh_gateway.specs.declared.targets.TargetCall.TheVariants as call
use Rattle.ssh_gateway.specs.declared.targets.TargetFault.{TargetFault}
use Rattle.ssh_gateway.specs.Board.{Board}
use Rattle.ssh_gateway.specs.Choosing.{Permits, Source, Decides, Sends, Ends, Closes, Waits, IsChosen}
use Rattle.ssh_gateway.specs.Choosing.{IsFirst, AreIdle, allows, is_prohibited, connects, heeded}
use Rattle.ssh_gateway.specs.Choosing.{is_over, may_send, most, silence, silences, to_decide}

-- the first of these calls is answered so: a read by what its connection gives, a connect by whether
-- its host is reached
abbrev pub IsFirstSo : (gives : ℕ → Arrived) → (reaches : (host : List ℕ) → (port : ℕ) → Bool)
    → List TargetCall → Type 0
IsFirstSo gives reaches [] = Unit {0}
IsFirstSo gives reaches (call.Read id size answer ∷ more) =
    (size ≡ most) → answer ≡ Ok (gives id)
IsFirstSo gives reaches (call.Connect id host port answer ∷ more) =
    answer ≡ Ok (reaches host port)
IsFirstSo gives reaches (_ ∷ more) = Unit {0}

-- ---- the connections

-- what is done for a connection whose target gave this
abbrev found : (earlier : List Connection) → (one : Connection) → (later : List Connection) → Arrived
    → Source
found earlier one later (arrived.Bytes bytes) = Sends earlier one later bytes
found earlier one later arrived.End = Ends earlier one later
found earlier one later arrived.Nothing = Waits

abbrev looked_at : (may over : Bool) → (gives : ℕ → Arrived) → (earlier : List Connection)
    → (one : Connection) → (later : List Connection) → (rest : Source) → Source
looked_at true over gives earlier one later rest = found earlier one later (gives one.id)
looked_at false true gives earlier one later rest = Closes earlier one later
looked_at false false gives earlier one later rest = rest

-- what is done for the first connection for which something is to be done
abbrev looked : World → (gives : ℕ → Arrived) → (earlier : List Connection) → List Connection → Source
looked w gives earlier [] = Waits
looked w gives earlier (one ∷ later) =
    looked_at (may_send w one) (is_over one) gives earlier one later
    (looked w gives (earlier ++ one ∷ []) later)

not_over : (may over : Bool) → (may || not over) ≡ true → may ≡ false → over ≡ false
not_over true over e f = absurd (let z : true ≡ false = f in cc)
not_over false true e f = absurd (let z : false ≡ true = e in cc)
not_over false false e f = refl

silent : (w : World) (one : Connection) → may_send w one ≡ false → silence w one ≡ []
silent w one is = ap (λ b. cond b (call.Read one.id most (Ok arrived.Nothing) ∷ []) []) is

-- a target answered so
abbrev gave : Arrived → Result Arrived TargetFault
gave what = Ok what

abbrev reached : Bool → Result Bool TargetFault
reached made = Ok made

same_answer : (a b : Arrived) → gave a ≡ gave b → a ≡ b
same_answer a b e = cc

module _ (gives : ℕ → Arrived) (reaches : (host : List ℕ) → (port : ℕ) → Bool)
    (never : (id : ℕ) → gives id ≡ arrived.Nothing → ⊥) where
  -- one that is idle was not read
  idle_unread : (w : World) (one : Connection) (more : List TargetCall) (may : Bool)
      → may_send w one ≡ may → IsFirstSo gives reaches (silence w one ++ more) → may ≡ false
  idle_unread w one more false is e = refl
  idle_unread w one more true is e =
      let read : silence w one ≡ call.Read one.id most (Ok arrived.Nothing) ∷ [] =
      ap (λ b. cond b (call.Read one.id most (Ok arrived.Nothing) ∷ []) []) is in
      let so : (most ≡ most) → gave arrived.Nothing ≡ gave (gives one.id) =
      subst (λ l. IsFirstSo gives reaches (l ++ more)) read e in
      absurd (never one.id (sym (same_answer arrived.Nothing (gives one.id) (so refl))))

  -- connections that are idle are passed over, and were not read
  passed_over : (w : World) (before earlier later : List Connection) (more : List TargetCall)
      → AreIdle w earlier → IsFirstSo gives reaches (silences w earlier ++ more)
      → (looked w gives before (earlier ++ later) ≡ looked w gives (before ++ earlier) later)
      × (silences w earlier ≡ [])
  passed_over w before [] later more idle e =
      (ap (λ l. looked w gives l later) (sym (append-nil before)), refl)
  passed_over w before (one ∷ earlier) later more idle e =
      let all : IsFirstSo gives reaches (silence w one ++ (silences w earlier ++ more)) =
      subst (IsFirstSo gives reaches) (append_assoc (silence w one) (silences w earlier) more) e in
      let may : may_send w one ≡ false =
      idle_unread w one (silences w earlier ++ more) (may_send w one) refl all in
      let over : is_over one ≡ false = not_over (may_send w one) (is_over one) idle.0 may in
      let quiet : silence w one ≡ [] = silent w one may in
      let rest = passed_over w (before ++ one ∷ []) earlier later more idle.1
      (subst (λ l. IsFirstSo gives reaches (l ++ (silences w earlier ++ more))) quiet all) in
      let next = looked w gives (before ++ one ∷ []) (earlier ++ later) in
      let here : looked w gives before (one ∷ (earlier ++ later)) ≡ next =
      ap (λ b. looked_at b (is_over one) gives before one (earlier ++ later) next) may
      ∙ ap (λ b. looked_at false b gives before one (earlier ++ later) next) over in (
        here ∙ (rest.0
            ∙ ap (λ l. looked w gives l later) (append_assoc before (one ∷ []) earlier)),
        ap (λ l. l ++ silences w earlier) quiet ∙ rest.1,
      )

  -- what was read of one that may send is what it gives
  read_so : (w : World) (board : Board) (earlier : List Connection) (one : Connection)
      (later : List Connection) (what : Arrived) (calls : List TargetCall)
      → IsFirst w board earlier one later → may_send w one ≡ true
      → calls ≡ silences w earlier ++ call.Read one.id most (Ok what) ∷ []
      → IsFirstSo gives reaches calls
      → (looked w gives [] (heeded w board) ≡ found earlier one later what)
      × (calls ≡ call.Read one.id most (Ok what) ∷ [])
  read_so w board earlier one later what calls first may is e =
      let read = call.Read one.id most (Ok what) ∷ [] in
      let all : IsFirstSo gives reaches (silences w earlier ++ read) =
      subst (IsFirstSo gives reaches) is e in
      let passed = passed_over w [] earlier (one ∷ later) read first.2 all in
      let alone : (most ≡ most) → gave what ≡ gave (gives one.id) =
      subst (λ l. IsFirstSo gives reaches (l ++ read)) passed.1 all in
      let given : gives one.id ≡ what = sym (same_answer what (gives one.id) (alone refl)) in (
        ap (looked w gives []) first.1 ∙ (passed.0
            ∙ (ap (λ b. looked_at b (is_over one) gives earlier one later
            (looked w gives (earlier ++ one ∷ []) later)) may
            ∙ ap (found earlier one later) given)),
        is ∙ ap (λ l. l ++ read) passed.1,
      )

  -- the calls that were made for a source, where no open is to be decided
  abbrev calls_for : Source → List TargetCall
  calls_for (Decides asked verdict) = []
  calls_for (Sends earlier one later bytes) =
      call.Read one.id most (Ok (arrived.Bytes bytes)) ∷ []
  calls_for (Ends earlier one later) = call.Read one.id most (Ok arrived.End) ∷ []
  calls_for (Closes earlier one later) = []
  calls_for Waits = []

  -- an open is decided, or the source is the one that is found
  abbrev IsSettled : Permits → World → Board → Source → List TargetCall → Type 0
  IsSettled permits w board source calls =
      ((asked : Asking) × (verdict : Verdict) × (source ≡ Decides asked verdict)
      × IsChosen permits w board (Decides asked verdict) calls)
      ⊎ ((to_decide w board ≡ []) × (source ≡ looked w gives [] (heeded w board))
      × (calls ≡ calls_for source))

  settled_so : (permits : Permits) (w : World) (board : Board) (source : Source)
      (calls : List TargetCall) → IsChosen permits w board source calls
      → IsFirstSo gives reaches calls → IsSettled permits w board source calls
  settled_so permits w board (Decides asked verdict) calls h e = inl (asked, verdict, refl, h)
  settled_so permits w board (Sends earlier one later bytes) calls h e =
      let so = read_so w board earlier one later (arrived.Bytes bytes) calls h.0 h.1 h.2 e in
      inr (h.0.0, sym so.0, so.1)
  settled_so permits w board (Ends earlier one later) calls h e =
      let so = read_so w board earlier one later arrived.End calls h.0 h.1 h.2 e in
      inr (h.0.0, sym so.0, so.1)
  settled_so permits w board (Closes earlier one later) calls h e =
      let first = h.0 in
      let all : IsFirstSo gives reaches (silences w earlier ++ []) =
      subst (IsFirstSo gives reaches) (h.3 ∙ sym (append-nil (silences w earlier))) e in
      let passed = passed_over w [] earlier (one ∷ later) [] first.2 all in
      let rest = looked w gives (earlier ++ one ∷ []) later in
      let here : looked w gives earlier (one ∷ later) ≡ Closes earlier one later =
      ap (λ b. looked_at b (is_over one) gives earlier one later rest) h.1
      ∙ ap (λ b. looked_at false b gives earlier one later rest) h.2 in
      inr (
        first.0,
        sym (ap (looked w gives []) first.1 ∙ (passed.0 ∙ here)),
        h.3 ∙ passed.1,
      )
  settled_so permits w board Waits calls h e =
      let all = heeded w board in
      let so : IsFirstSo gives reaches (silences w all ++ []) =
      subst (IsFirstSo gives reaches) (h.2 ∙ sym (append-nil (silences w all))) e in
      let passed = passed_over w [] all [] [] h.1 so in
      inr (
        h.0,
        sym (ap (looked w gives []) (sym (append-nil all)) ∙ passed.0),
        h.2 ∙ passed.1,
      )

  -- an open
  same_verdict : (id : ℕ) (asked : Asking) (verdict other : Verdict)
      → is_prohibited verdict ≡ is_prohibited other
      → IsFirstSo gives reaches (connects id asked verdict)
      → IsFirstSo gives reaches (connects id asked other) → verdict ≡ other
  same_verdict id asked Prohibited Prohibited p e f = refl
  same_verdict id asked Unreachable Unreachable p e f = refl
  same_verdict id asked Granted Granted p e f = refl
  same_verdict id asked Unreachable Granted p e f =
      absurd (let z : reached false ≡ reached true = e ∙ sym f in cc)
  same_verdict id asked Granted Unreachable p e f =
      absurd (let z : reached true ≡ reached false = e ∙ sym f in cc)
  same_verdict id asked Prohibited Unreachable p e f = absurd (let z : true ≡ false = p in cc)
  same_verdict id asked Prohibited Granted p e f = absurd (let z : true ≡ false = p in cc)
  same_verdict id asked Unreachable Prohibited p e f = absurd (let z : false ≡ true = p in cc)
  same_verdict id asked Granted Prohibited p e f = absurd (let z : false ≡ true = p in cc)

  none_waits : (waiting : List Asking) (asked : Asking) (later : List Asking) → waiting ≡ []
      → waiting ≡ asked ∷ later → ⊥
  none_waits waiting asked later e f = cc

  same_asked : (waiting : List Asking) (a b : Asking) (xs ys : List Asking) → waiting ≡ a ∷ xs
      → waiting ≡ b ∷ ys → a ≡ b
  same_asked waiting a b xs ys e f = cc

  decided_once : (permits : Permits) (w : World) (board : Board) (a b : Asking) (v u : Verdict)
      (xs ys : List TargetCall) → IsChosen permits w board (Decides a v) xs
      → IsChosen permits w board (Decides b u) ys → IsFirstSo gives reaches xs
      → IsFirstSo gives reaches ys → (Decides a v ≡ Decides b u) × (xs ≡ ys)
  decided_once permits w board a b v u xs ys h k e f =
      let asked : a ≡ b = same_asked (to_decide w board) a b h.0 k.0 h.1 k.1 in
      let id = board.last_id + 1 in
      let other : is_prohibited u ≡ not (allows permits (who w.user) a) =
      k.2 ∙ ap (λ one. not (allows permits (who w.user) one)) (sym asked) in
      let calls : ys ≡ connects id a u = k.3 ∙ ap (λ one. connects id one u) (sym asked) in
      let verdict : v ≡ u = same_verdict id a v u (h.2 ∙ sym other)
      (subst (IsFirstSo gives reaches) h.3 e) (subst (IsFirstSo gives reaches) calls f) in (
        ap (λ one. Decides one v) asked ∙ ap (Decides b) verdict,
        h.3 ∙ (ap (connects id a) verdict ∙ sym calls),
      )

  settled_once : (permits : Permits) (w : World) (board : Board) (a b : Source)
      (xs ys : List TargetCall) → IsFirstSo gives reaches xs → IsFirstSo gives reaches ys
      → IsSettled permits w board a xs → IsSettled permits w board b ys → (a ≡ b) × (xs ≡ ys)
  settled_once permits w board a b xs ys e f (inl h) (inl k) =
      let one = decided_once permits w board h.0 k.0 h.1 k.1 xs ys h.3 k.3 e f in
      (h.2 ∙ (one.0 ∙ sym k.2), one.1)
  settled_once permits w board a b xs ys e f (inl h) (inr k) =
      absurd (none_waits (to_decide w board) h.0 h.3.0 k.0 h.3.1)
  settled_once permits w board a b xs ys e f (inr h) (inl k) =
      absurd (none_waits (to_decide w board) k.0 k.3.0 h.0 k.3.1)
  settled_once permits w board a b xs ys e f (inr h) (inr k) =
      let one : a ≡ b = h.1 ∙ sym k.1 in (one, h.2 ∙ (ap calls_for one ∙ sym k.2))

  pub chosen_once : (permits : Permits) (w : World) (board : Board) (a b : Source)
      (xs ys : List TargetCall) → IsChosen permits w board a xs → IsChosen permits w board b ys
      → IsFirstSo gives reaches xs → IsFirstSo gives reaches ys → (a ≡ b) × (xs ≡ ys)
  chosen_once permits w board a b xs ys h k e f = settled_once permits w board a b xs ys e f
      (settled_so permits w board a xs h e) (settled_so permits w board b ys k f)
