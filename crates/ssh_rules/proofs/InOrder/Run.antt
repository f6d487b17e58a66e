-- Replies to this side's global requests are taken in the order of the requests, by induction over
-- a run (RFC 4254 section 4).
use Rattle.std.proofs.Common.{◌≡◌, ◌⊎◌, ◌≤◌, ◌+◌, ◌||◌, ℕ, List, [], ◌∷◌, ◌++◌, Bool, true}
use Rattle.std.proofs.Common.{false, cond, Option, Some, None, Result, refl, sym, ◌∙◌, ap, subst}
use Rattle.std.proofs.Common.{inl, inr, arith, append_assoc}
use Rattle.std.specs.Prelude.{length, flat_map, if◌then◌else◌, option_to_list, IfSome}
use Rattle.std.specs.List.{list_any}
use Rattle.std.proofs.lemmas.List.{append-nil, length-append}
use Rattle.std.proofs.lemmas.List.Folds.{list_any-append}
use Rattle.std.proofs.lemmas.Grind.{flat_map-append}
use Rattle.std.proofs.Math.Bool.{or-false}
use Rattle.ssh_link.specs.declared.frame.InputKind.{InputKind}
use Rattle.ssh_link.specs.declared.frame.InputKind.TheVariants as input
use Rattle.ssh_link.specs.declared.notice.Notice.{Notice}
use Rattle.ssh_auth.specs.Plan.{Plan, Finish, Event, Follows, after}
use Rattle.ssh_auth.specs.Publickey.{Acceptance}
use Rattle.ssh_rules.specs.declared.error.RunError.{RunError}
use Rattle.ssh_rules.specs.declared.outstanding.Outstanding.{Outstanding}
use Rattle.ssh_rules.specs.Account.{Closes}
use Rattle.ssh_rules.specs.Acts.{acts}
use Rattle.ssh_rules.specs.Answered.{how_many}
use Rattle.ssh_rules.specs.InOrder.{awaits_by, awaits_outside, awaits_within, awaits_in, was_refused}
use Rattle.ssh_rules.specs.InOrder.{replied_in, replies_told, told_in_event, with_notice}
use Rattle.ssh_rules.specs.InOrder.{is_own_reply}
use Rattle.ssh_rules.specs.InOrder.{replies_to_own, InOrder, IsNextInOrder}
use Rattle.ssh_rules.specs.Outcome.{Outcome, Goes}
use Rattle.ssh_rules.specs.Replied.{events_of}
use Rattle.ssh_rules.specs.Rows.{notes}
use Rattle.ssh_rules.specs.Run.{Turn, Run, Owes, finish_input, asks_for_keys}
use Rattle.ssh_rules.specs.World.{Settings, World, opening_world}
use Rattle.ssh_rules.proofs.Authorised.Run.{AllWalk, last_walks}
use Rattle.ssh_rules.proofs.Ledger.Inputs.{run_front}
use Rattle.ssh_rules.proofs.Authorised.Guards.{Walks, follows_walks}
use Rattle.ssh_rules.proofs.Measure.Calls.{one_if}
use Rattle.ssh_rules.proofs.InOrder.Commands.{AreUnlent}
use Rattle.ssh_rules.proofs.InOrder.Acts.{Waits, unlent_none, unlent_both, within_front}
use Rattle.ssh_rules.proofs.InOrder.Inputs.{parts_of, finish_handed, IsPlain}
use Rattle.ssh_rules.proofs.InOrder.Inputs.{IsSettling, Settles, kind_is}
use Rattle.ssh_rules.proofs.InOrder.Untold.{input_tells, walks_untold}

-- ---- an input

-- what waited and what is asked is what is settled, which is told, and what waits from now on
record Took {E F : Type 0} (w mid : World) (kind : InputKind) (events : List (Event E F)) : Type 0
  where
    pub gone : List Outstanding
    pub is : w.globals.outstanding ++ (awaits_outside kind events ++ awaits_within events)
        ≡ gone ++ mid.globals.outstanding
    pub says : replies_told events ≡ flat_map with_notice gone
    pub few : length gone ≤ one_if (is_own_reply kind)

-- frames behind ask nothing
outside_front : {E F : Type 0} (kind : InputKind) (xs ys : List (Event E F)) →
    list_any was_refused ys ≡ false → awaits_outside kind (xs ++ ys) ≡ awaits_outside kind xs
outside_front (input.Command ticket one) xs ys none =
    ap (λ b. if b then [] else awaits_by one)
    (list_any-append was_refused xs ys ∙ ap (λ b. list_any was_refused xs || b) none
    ∙ or-false (list_any was_refused xs))
outside_front kind xs ys none = refl

plain_took : {E F : Type 0} (w mid : World) (kind : InputKind) (ticked : Bool)
    (first : Plan Outcome) (events : List (Event E F)) → IsPlain E F w kind first →
    Follows (after first (finish_input ticked)) events (Goes mid) → Took w mid kind events
plain_took {E} {F} w mid kind ticked first events plain f =
    let p = parts_of first (finish_input ticked) events (Goes mid) f in
    let waiting = w.globals.outstanding
    ++ (awaits_outside kind p.early ++ awaits_within p.early) in
    let d = finish_handed waiting ticked p.between p.rest (Goes mid)
    (plain.asks p.early p.between p.first) p.second in
    let outside : awaits_outside kind events ≡ awaits_outside kind p.early =
    ap (awaits_outside kind) p.is ∙ outside_front kind p.early p.rest d.unrefused in
    let within : awaits_within events ≡ awaits_within p.early =
    ap awaits_within p.is ∙ within_front p.early p.rest d.none d.unlent in
    record {
      gone = [];
      is = ap (λ l. w.globals.outstanding ++ (l ++ awaits_within events)) outside
          ∙ ap (λ l. w.globals.outstanding ++ (awaits_outside kind p.early ++ l)) within
          ∙ sym d.same;
      says = walks_untold (after first (finish_input ticked)) events
          (input_tells ticked first plain.tells)
          (follows_walks (after first (finish_input ticked)) events (Goes mid) f);
      few = omega arith;
    }

-- what a reply is told by
record Noted {E F : Type 0} (v : World) (note : Option Notice) (events : List (Event E F))
    (outcome : Outcome) : Type 0 where
  pub same : Waits v.globals.outstanding outcome
  pub unlent : AreUnlent events
  pub says : replies_told events ≡ flat_map replied_in (option_to_list note)

noted : {E F : Type 0} (v : World) (note : Option Notice) (events : List (Event E F))
    (outcome : Outcome) → Follows (acts (notes note) v) events outcome →
    Noted v note events outcome
noted v None [] outcome f =
    let is : Goes v ≡ outcome = cc in
    record { same = subst (Waits v.globals.outstanding) is refl; unlent = tt; says = refl }
noted v None (event ∷ events) outcome f = absurd f
noted v (Some notice) [] outcome f = absurd (cc)
noted v (Some notice) (event ∷ []) outcome f =
    let is : Goes v ≡ outcome = let e = f.1 in cc in
    subst (λ x. Noted v (Some notice) (x ∷ []) outcome) (sym f.0)
    (record {
      same = subst (Waits v.globals.outstanding) is refl;
      unlent = (refl, tt);
      says = refl;
    })
noted v (Some notice) (event ∷ other ∷ events) outcome f = absurd f.1

-- a reply settles the oldest
settling_took : {E F : Type 0} (w mid : World) (payload : List ℕ) (ticked : Bool)
    (first : Plan Outcome) (events : List (Event E F)) → IsSettling w payload first →
    Follows (after first (finish_input ticked)) events (Goes mid) →
    Took w mid (input.Payload payload) events
settling_took w mid payload ticked first events s f =
    let p = parts_of first (finish_input ticked) events (Goes mid) f in
    let n = noted s.v s.note p.early p.between
    (subst (λ q. Follows q p.early p.between) s.is p.first) in
    let d = finish_handed s.v.globals.outstanding ticked p.between p.rest (Goes mid) n.same
    p.second in
    let none : awaits_within events ≡ [] =
    ap awaits_within p.is
    ∙ unlent_none (p.early ++ p.rest) (unlent_both p.early p.rest n.unlent d.unlent) in
    let one : one_if (is_own_reply (input.Payload payload)) ≡ 1 = ap one_if s.reply in
    record {
      gone = s.first ∷ [];
      is = ap (λ l. w.globals.outstanding ++ l) none ∙ append-nil w.globals.outstanding
          ∙ s.waited ∙ ap (λ l. s.first ∷ l) (sym (d.same ∙ s.left));
      says = ap replies_told p.is ∙ flat_map-append told_in_event p.early p.rest
          ∙ ap (λ l. l ++ replies_told p.rest) n.says
          ∙ ap (λ l. flat_map replied_in (option_to_list s.note) ++ l) d.untold
          ∙ append-nil (flat_map replied_in (option_to_list s.note)) ∙ s.says
          ∙ sym (append-nil (with_notice s.first));
      few = omega (arith, one);
    }

settles_took : {E F : Type 0} (w mid : World) (kind : InputKind) (ticked : Bool)
    (first : Plan Outcome) (events : List (Event E F)) → Settles w kind first →
    Follows (after first (finish_input ticked)) events (Goes mid) → Took w mid kind events
settles_took w mid (input.Payload payload) ticked first events s f =
    settling_took w mid payload ticked first events s f
settles_took w mid kind ticked first events s f = absurd s

either_took : {E F : Type 0} (w mid : World) (kind : InputKind) (ticked : Bool)
    (first : Plan Outcome) (events : List (Event E F)) →
    IsPlain E F w kind first ⊎ Settles w kind first →
    Follows (after first (finish_input ticked)) events (Goes mid) → Took w mid kind events
either_took w mid kind ticked first events (inl plain) f =
    plain_took w mid kind ticked first events plain f
either_took w mid kind ticked first events (inr s) f =
    settles_took w mid kind ticked first events s f

turn_took : {E F : Type 0} (accepts : Acceptance) (w mid : World) (turn : Turn E F)
    (plan : Plan Outcome) → Owes accepts w turn.input plan →
    Follows plan turn.events (Goes mid) → Took w mid turn.input.kind turn.events
turn_took {E} {F} accepts w mid turn plan o f =
    either_took w mid turn.input.kind (asks_for_keys turn.input.kind) o.0 turn.events
    (kind_is E F accepts w turn.input.moment turn.input.kind o.0 o.1)
    (subst (λ p. Follows p turn.events (Goes mid)) o.2 f)

-- ---- a run

-- what was asked so far is what is settled, which was told, and what waits
record Ordered (asks says : List Outstanding) (count : ℕ) (w : World) : Type 0 where
  pub settled : List Outstanding
  pub is : asks ≡ settled ++ w.globals.outstanding
  pub told_of : says ≡ flat_map with_notice settled
  pub few : length settled ≤ count

counts : (b : Bool) (n m k : ℕ) → n + one_if b + k ≡ m → n + cond b (k + 1) k ≡ m
counts true n m k h = omega (arith, h)
counts false n m k h = omega (arith, h)

turn_ordered : {E F : Type 0} (asks says : List Outstanding) (count : ℕ) (w mid : World)
    (turn : Turn E F) → Took w mid turn.input.kind turn.events → Ordered asks says count w →
    Ordered (asks ++ awaits_in turn) (says ++ replies_told turn.events)
    (count + one_if (replies_to_own turn)) mid
turn_ordered asks says count w mid turn t o =
    let both = length-append o.settled t.gone in
    let some = o.few in
    let more = t.few in
    record {
      settled = o.settled ++ t.gone;
      is = ap (λ l. l ++ awaits_in turn) o.is
          ∙ append_assoc o.settled w.globals.outstanding (awaits_in turn)
          ∙ ap (λ l. o.settled ++ l) t.is
          ∙ sym (append_assoc o.settled t.gone mid.globals.outstanding);
      told_of = ap (λ l. l ++ replies_told turn.events) o.told_of
          ∙ ap (λ l. flat_map with_notice o.settled ++ l) t.says
          ∙ sym (flat_map-append with_notice o.settled t.gone);
      few = omega (arith, both, some, more);
    }

run_ordered : {E F : Type 0} (accepts : Acceptance) (asks says : List Outstanding) (count : ℕ)
    (w : World) (turns : List (Turn E F)) (world : World) → Run accepts w turns world →
    Ordered asks says count w →
    Ordered (asks ++ flat_map awaits_in turns) (says ++ replies_told (events_of turns))
    (count + how_many replies_to_own turns) world
run_ordered accepts asks says count w [] world run o = record {
  settled = o.settled;
  is = append-nil asks ∙ o.is ∙ ap (λ (v : World). o.settled ++ v.globals.outstanding) (sym run);
  told_of = append-nil says ∙ o.told_of;
  few = let some = o.few in omega (arith, some);
}
run_ordered accepts asks says count w (turn ∷ turns) world run o =
    let t = run.1 in
    let more = run_ordered accepts (asks ++ awaits_in turn) (says ++ replies_told turn.events)
    (count + one_if (replies_to_own turn)) run.0 turns world run.2
    (turn_ordered asks says count w run.0 turn (turn_took accepts w run.0 turn t.0 t.1 t.2) o) in
    let few = more.few in
    let count_is = counts (replies_to_own turn) count
    (count + one_if (replies_to_own turn) + how_many replies_to_own turns)
    (how_many replies_to_own turns) refl in
    record {
      settled = more.settled;
      is = sym (append_assoc asks (awaits_in turn) (flat_map awaits_in turns)) ∙ more.is;
      told_of = ap (λ l. says ++ l)
          (flat_map-append told_in_event turn.events (events_of turns))
          ∙ sym (append_assoc says (replies_told turn.events)
          (replies_told (events_of turns))) ∙ more.told_of;
      few = omega (arith, few, count_is);
    }

-- after each of its inputs
pub in_order : {E F : Type 0} (accepts : Acceptance) (settings : Settings) (turns : List (Turn E F))
    (world : World) → Run accepts (opening_world settings) turns world →
    (earlier later : List (Turn E F)) → turns ≡ earlier ++ later → InOrder accepts settings earlier
in_order accepts settings turns world run earlier later is =
    let front = run_front accepts (opening_world settings) earlier later world
    (subst (λ ts. Run accepts (opening_world settings) ts world) is run) in
    let o = run_ordered accepts [] [] 0 (opening_world settings) earlier front.0 front.1
    (record { settled = []; is = refl; told_of = refl; few = omega arith }) in
    let few = o.few in
    record {
      world = front.0;
      run = front.1;
      settled = o.settled;
      queued = o.is;
      told = o.told_of;
      replied = omega (arith, few);
    }

-- ---- one more input

none_next : {E F : Type 0} (w : World) (turn : Turn E F) → replies_told turn.events ≡ [] →
    IsNextInOrder w turn
none_next w turn none = (
  flat_map with_notice w.globals.outstanding,
  ap (λ l. l ++ flat_map with_notice w.globals.outstanding) (sym none),
)

first_next : {E F : Type 0} (w : World) (turn : Turn E F) (first : Outstanding)
    (later : List Outstanding) → w.globals.outstanding ≡ first ∷ later →
    replies_told turn.events ≡ with_notice first → IsNextInOrder w turn
first_next w turn first later is says = (
  flat_map with_notice later,
  ap (flat_map with_notice) is ∙ ap (λ l. l ++ flat_map with_notice later) (sym says),
)

-- as far as it came, it told of the oldest or of none
note_walks : {E F : Type 0} (v : World) (ticked : Bool) (note : Option Notice)
    (events : List (Event E F)) →
    Walks (after (acts (notes note) v) (finish_input ticked)) events →
    (replies_told events ≡ []) ⊎ (replies_told events ≡ flat_map replied_in (option_to_list note))
note_walks v ticked None events walks =
    inl (walks_untold (after (acts [] v) (finish_input ticked)) events
    (input_tells ticked (acts [] v) tt) walks)
note_walks v ticked (Some notice) [] walks = inl refl
note_walks v ticked (Some notice) (event ∷ events) walks =
    inr (ap (λ x. told_in_event x ++ replies_told events) walks.0
    ∙ ap (λ l. replied_in notice ++ l)
    (walks_untold (finish_input ticked (Goes v)) events
    (input_tells ticked (Finish (Goes v)) tt) walks.1))

said_next : {E F : Type 0} (w : World) (turn : Turn E F) (first : Outstanding)
    (later : List Outstanding) (says : List Outstanding) →
    w.globals.outstanding ≡ first ∷ later → says ≡ with_notice first →
    (replies_told turn.events ≡ []) ⊎ (replies_told turn.events ≡ says) → IsNextInOrder w turn
said_next w turn first later says is so (inl none) = none_next w turn none
said_next w turn first later says is so (inr one) = first_next w turn first later is (one ∙ so)

settling_next : {E F : Type 0} (w : World) (turn : Turn E F) (ticked : Bool) (payload : List ℕ)
    (plan : Plan Outcome) → IsSettling w payload plan →
    Walks (after plan (finish_input ticked)) turn.events → IsNextInOrder w turn
settling_next w turn ticked payload plan s walks =
    said_next w turn s.first s.later (flat_map replied_in (option_to_list s.note)) s.waited s.says
    (note_walks s.v ticked s.note turn.events
    (subst (λ p. Walks (after p (finish_input ticked)) turn.events) s.is walks))

kind_next : {E F : Type 0} (w : World) (turn : Turn E F) (ticked : Bool) (kind : InputKind)
    (plan : Plan Outcome) → IsPlain E F w kind plan ⊎ Settles w kind plan →
    Walks (after plan (finish_input ticked)) turn.events → IsNextInOrder w turn
kind_next w turn ticked kind plan (inl plain) walks =
    none_next w turn
    (walks_untold (after plan (finish_input ticked)) turn.events
    (input_tells ticked plan plain.tells) walks)
kind_next w turn ticked (input.Payload payload) plan (inr s) walks =
    settling_next w turn ticked payload plan s walks
kind_next w turn ticked kind plan (inr s) walks = absurd s

walk_next : {E F : Type 0} (accepts : Acceptance) (w : World) (last : Option (Turn E F)) →
    AllWalk accepts w (option_to_list last) → IfSome last (IsNextInOrder w)
walk_next accepts w None all = tt
walk_next {E} {F} accepts w (Some turn) (plan, owes, walks, next, taken) =
    kind_next w turn (asks_for_keys turn.input.kind) turn.input.kind owes.0
    (kind_is E F accepts w turn.input.moment turn.input.kind owes.0 owes.1)
    (subst (λ p. Walks p turn.events) owes.2 walks)

-- and what the last input tells is in order
pub last_in_order : {E F : Type 0} (accepts : Acceptance) (world : World) (count max : ℕ)
    (last : Option (Turn E F)) (rose : Type 0) (result : Result (Unit {0}) (RunError E F)) →
    Closes accepts world count max last rose result → IfSome last (IsNextInOrder world)
last_in_order accepts world count max last rose result closes =
    walk_next accepts world last (last_walks accepts world count max last rose result closes)
