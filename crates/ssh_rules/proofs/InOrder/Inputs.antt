-- What an input asks waits behind what waited, and a reply takes the oldest one (RFC 4254 section
-- 4).
use Rattle.std.proofs.Common.{◌≡◌, ◌⊎◌, ℕ, List, [], ◌∷◌, ◌++◌, map, Bool, true}
use Rattle.std.proofs.Common.{false, cond, Option, refl, sym, ◌∙◌, ap, subst}
use Rattle.std.proofs.Common.{inl, inr, Ok, None, ◌||◌}
use Rattle.std.specs.Prelude.{drop, flat_map, if◌then◌else◌, option_to_list}
use Rattle.std.specs.List.{list_any}
use Rattle.std.proofs.lemmas.List.{append-nil}
use Rattle.ssh_link.specs.Frames.{Frame}
use Rattle.ssh_link.specs.declared.command.Command.{Command}
use Rattle.ssh_link.specs.declared.command.Command.TheVariants as command
use Rattle.ssh_link.specs.declared.frame.InputKind.{InputKind}
use Rattle.ssh_link.specs.declared.frame.InputKind.TheVariants as input
use Rattle.ssh_link.specs.declared.link.TraceEntry.TheVariants.{Noticed, Sent, Answered}
use Rattle.ssh_link.specs.declared.notice.Notice.{Notice}
use Rattle.ssh_link.specs.declared.open_answer.OpenAnswer.{OpenAnswer}
use Rattle.ssh_link.specs.declared.outcome.CommandOutcome.{CommandOutcome}
use Rattle.ssh_link.specs.declared.outcome.CommandOutcome.TheVariants.{Accepted, Opened, Refused}
use Rattle.ssh_link.specs.declared.kex.KexCall.TheVariants as kex
use Rattle.ssh_auth.specs.Plan.{Plan, Finish, Ask, Tell, Event, Stepped, Told, Follows, after}
use Rattle.ssh_auth.specs.Publickey.{Acceptance}
use Rattle.ssh_rules.specs.declared.messages.Spoken.TheVariants as spoken
use Rattle.ssh_rules.specs.declared.outstanding.Outstanding.{Outstanding}
use Rattle.ssh_rules.specs.declared.outstanding.Outstanding.TheVariants.{Keepalive}
use Rattle.ssh_rules.specs.declared.exchange.Passage.{Passage}
use Rattle.ssh_rules.specs.Acts.{Turns, Is_over, Stops, tell_all, done, acts, frames_given}
use Rattle.ssh_rules.specs.Acts.{Beginning, moved}
use Rattle.ssh_rules.specs.Effect.{Effect, Brings, effect, said}
use Rattle.ssh_rules.specs.InOrder.{awaits_by, awaits_outside, awaits_within, was_refused}
use Rattle.ssh_rules.specs.InOrder.{replied_in, replies_told, with_notice, is_own_reply}
use Rattle.ssh_rules.specs.InOrder.{recorded, refuses_at, told_in_event}
use Rattle.ssh_rules.specs.Outcome.{Outcome, Goes, Ends, Fails, Keepalive_timeout}
use Rattle.ssh_rules.specs.OwnMessages.{keepalive}
use Rattle.ssh_rules.specs.Reading.{Said, Connection}
use Rattle.ssh_rules.specs.Rows.{row, notes, exchange_acts}
use Rattle.ssh_rules.specs.Run.{OwesKind, command_row, finish_input, handed_on, going_out}
use Rattle.ssh_rules.specs.Run.{goes_unless_ended, begins, is_due}
use Rattle.ssh_rules.specs.Ticks.{inactivity_acts, is_too_many, one_more, ticked}
use Rattle.ssh_rules.specs.World.{World, circumstances, hears}
use Rattle.ssh_rules.specs.World.{settled_first}
use Rattle.ssh_rules.proofs.Measure.Rows.{OfRead}
use Rattle.ssh_rules.proofs.Plans.Passing.{payload_so}
use Rattle.ssh_rules.proofs.InOrder.Commands.{Asks, effect_asks, AreUnlent}
use Rattle.ssh_rules.proofs.InOrder.Acts.{Waits, RefuseNone, calling_waits}
use Rattle.ssh_rules.proofs.InOrder.Rows.{SaysNoReply, row_waits, exchange_calling}
use Rattle.ssh_rules.proofs.InOrder.Untold.{TellsNone, row_tells, command_tells, tick_tells}
use Rattle.ssh_rules.proofs.InOrder.Untold.{calling_tell}
use Rattle.ssh_rules.proofs.Read.Wanting.{BytesSay, payload_says}

-- ---- the end of an input

-- a plan, and then the one that its outcome leads to
pub record Parts {E F : Type 0} (plan : Plan Outcome) (later : Outcome → Plan Outcome)
    (events : List (Event E F)) (outcome : Outcome) : Type 0 where
  pub early : List (Event E F)
  pub rest : List (Event E F)
  pub between : Outcome
  pub is : events ≡ early ++ rest
  pub first : Follows plan early between
  pub second : Follows (later between) rest outcome

parts_more : {E F : Type 0} (plan next : Plan Outcome) (later : Outcome → Plan Outcome)
    (event : Event E F) (events : List (Event E F)) (outcome : Outcome)
    (p : Parts next later events outcome) → Follows plan (event ∷ p.early) p.between →
    Parts plan later (event ∷ events) outcome
parts_more plan next later event events outcome p f = record {
  early = event ∷ p.early;
  rest = p.rest;
  between = p.between;
  is = ap (λ l. event ∷ l) p.is;
  first = f;
  second = p.second;
}

pub parts_of : {E F : Type 0} (plan : Plan Outcome) (later : Outcome → Plan Outcome)
    (events : List (Event E F)) (outcome : Outcome) → Follows (after plan later) events outcome →
    Parts plan later events outcome
parts_of (Finish between) later events outcome f = record {
  early = [];
  rest = events;
  between = between;
  is = refl;
  first = refl;
  second = f;
}
parts_of (Ask question next) later [] outcome f = absurd (cc)
parts_of (Ask question next) later (event ∷ events) outcome f =
    let p = parts_of (next f.0) later events outcome f.2 in
    parts_more (Ask question next) (next f.0) later event events outcome p (f.0, f.1, p.first)
parts_of (Tell entry next) later [] outcome f = absurd (cc)
parts_of (Tell entry next) later (event ∷ events) outcome f =
    let p = parts_of next later events outcome f.1 in
    parts_more (Tell entry next) next later event events outcome p (f.0, p.first)

-- the frames are handed on, and nothing else happens
pub record Handed {E F : Type 0} (waiting : List Outstanding) (events : List (Event E F))
    (outcome : Outcome) : Type 0 where
  pub same : Waits waiting outcome
  pub unlent : AreUnlent events
  pub none : RefuseNone events
  pub unrefused : list_any was_refused events ≡ false
  pub untold : replies_told events ≡ []

none_handed : {E F : Type 0} (waiting : List Outstanding) (final : Outcome)
    (events : List (Event E F)) (outcome : Outcome) → Waits waiting final →
    Follows (Finish final) events outcome → Handed waiting events outcome
none_handed waiting final [] outcome h f =
    let same : final ≡ outcome = cc in
    record {
      same = subst (Waits waiting) same h;
      unlent = tt;
      none = λ place. refl;
      unrefused = refl;
      untold = refl;
    }
none_handed waiting final (event ∷ events) outcome h f = absurd f

-- one more event that is no callback, no refusal and no notice
handed_more : {E F : Type 0} (waiting : List Outstanding) (event : Event E F)
    (events : List (Event E F)) (outcome : Outcome) → recorded event ≡ [] →
    ((place : ℕ) → refuses_at place event ≡ false) → was_refused event ≡ false →
    told_in_event event ≡ [] → Handed waiting events outcome →
    Handed waiting (event ∷ events) outcome
handed_more waiting event events outcome unlent none unrefused untold h = record {
  same = h.same;
  unlent = (unlent, h.unlent);
  none = λ place. ap (λ b. b || list_any (refuses_at place) events) (none place) ∙ h.none place;
  unrefused = ap (λ b. b || list_any was_refused events) unrefused ∙ h.unrefused;
  untold = ap (λ l. l ++ replies_told events) untold ∙ h.untold;
}

frames_handed : {E F : Type 0} (waiting : List Outstanding) (frames : List Frame)
    (next : Plan Outcome) (events : List (Event E F)) (outcome : Outcome) →
    Follows (tell_all (map Sent frames) next) events outcome →
    ((rest : List (Event E F)) → Follows next rest outcome → Handed waiting rest outcome) →
    Handed waiting events outcome
frames_handed waiting [] next events outcome f k = k events f
frames_handed waiting (frame ∷ frames) next [] outcome f k = absurd (cc)
frames_handed waiting (frame ∷ frames) next (event ∷ events) outcome f k =
    subst (λ x. Handed waiting (x ∷ events) outcome) (sym f.0)
    (handed_more waiting (Told (Sent frame)) events outcome refl (λ place. refl) refl refl
    (frames_handed waiting frames next events outcome f.1 k))

-- this side begins an exchange of keys, or does not
begins_handed : {E F : Type 0} (waiting : List Outstanding) (due : Bool) (w : World)
    (events : List (Event E F)) (outcome : Outcome) → w.globals.outstanding ≡ waiting →
    Follows (acts (begins due) w) events outcome → Handed waiting events outcome
begins_handed waiting false w events outcome h f = none_handed waiting (Goes w) events outcome h f
begins_handed waiting true w [] outcome h f = absurd (cc)
begins_handed waiting true w (event ∷ events) outcome h f =
    let v = moved Beginning f.0 w in
    subst (λ x. Handed waiting (x ∷ events) outcome) (sym f.1)
    (handed_more waiting (Stepped (kex.Begun (Ok f.0))) events outcome refl (λ place. refl) refl
    refl
    (frames_handed waiting (frames_given (f.0 ∷ [])) (Finish (Goes v)) events outcome f.2
    (λ rest g. none_handed waiting (Goes v) rest outcome h g)))

ends_handed : {E F : Type 0} (waiting : List Outstanding) (ended due : Bool) (w : World)
    (events : List (Event E F)) (outcome : Outcome) → w.globals.outstanding ≡ waiting →
    Follows (cond ended (Finish (Ends w)) (acts (begins due) w)) events outcome →
    Handed waiting events outcome
ends_handed waiting true due w events outcome h f =
    none_handed waiting (Ends w) events outcome tt f
ends_handed waiting false due w events outcome h f =
    begins_handed waiting due w events outcome h f

pub finish_handed : {E F : Type 0} (waiting : List Outstanding) (ticked : Bool)
    (between : Outcome) (events : List (Event E F)) (outcome : Outcome) → Waits waiting between →
    Follows (finish_input ticked between) events outcome → Handed waiting events outcome
finish_handed waiting ticked (Goes w) events outcome h f =
    let v = handed_on w in
    frames_handed waiting (going_out w) (goes_unless_ended ticked v) events outcome f
    (λ rest g. ends_handed waiting v.disconnected (is_due ticked v) v rest outcome h g)
finish_handed waiting ticked (Ends w) events outcome h f =
    let v = handed_on w in
    frames_handed waiting (going_out w) (Finish (Ends v)) events outcome f
    (λ rest g. none_handed waiting (Ends v) rest outcome tt g)
finish_handed waiting ticked (Fails why) events outcome h f =
    none_handed waiting (Fails why) events outcome tt f

-- ---- inputs that settle nothing

-- behind what waited waits what is asked
abbrev pub AsksSo : {E F : Type 0} → World → InputKind → List (Event E F) → Outcome → Type 0
AsksSo w kind events outcome =
    Waits (w.globals.outstanding ++ (awaits_outside kind events ++ awaits_within events)) outcome

answered_so : {E F : Type 0} (w v : World) (ticket : ℕ) (one : Command) (done_so : CommandOutcome)
    (notices : List Notice) (events : List (Event E F)) (outcome : Outcome) →
    Asks w.globals.outstanding (awaits_by one) (Brings notices done_so v) →
    Follows (Tell (Answered ticket done_so) (Finish (Goes v))) events outcome →
    AsksSo w (input.Command ticket one) events outcome
answered_so w v ticket one done_so notices [] outcome a f = absurd (cc)
answered_so w v ticket one done_so notices (event ∷ other ∷ events) outcome a f = absurd f.1
answered_so w v ticket one Accepted notices (event ∷ []) outcome a f =
    let same : Goes v ≡ outcome = let e = f.1 in cc in
    subst (λ x. AsksSo w (input.Command ticket one) (x ∷ []) outcome) (sym f.0)
    (subst (Waits (w.globals.outstanding ++ (awaits_by one ++ []))) same
    (a.1 ∙ ap (λ l. w.globals.outstanding ++ l) (sym (append-nil (awaits_by one)))))
answered_so w v ticket one (Opened channel) notices (event ∷ []) outcome a f =
    let same : Goes v ≡ outcome = let e = f.1 in cc in
    subst (λ x. AsksSo w (input.Command ticket one) (x ∷ []) outcome) (sym f.0)
    (subst (Waits (w.globals.outstanding ++ (awaits_by one ++ []))) same
    (a.1 ∙ ap (λ l. w.globals.outstanding ++ l) (sym (append-nil (awaits_by one)))))
answered_so w v ticket one (Refused why) notices (event ∷ []) outcome a f =
    let same : Goes v ≡ outcome = let e = f.1 in cc in
    subst (λ x. AsksSo w (input.Command ticket one) (x ∷ []) outcome) (sym f.0)
    (subst (Waits (w.globals.outstanding ++ [])) same
    (a.1 ∙ sym (append-nil w.globals.outstanding)))

noticed_so : {E F : Type 0} (w : World) (ticket : ℕ) (one : Command) (notices : List Notice)
    (plan : Plan Outcome) (events : List (Event E F)) (outcome : Outcome) →
    Follows (tell_all (map Noticed notices) plan) events outcome →
    ((rest : List (Event E F)) → Follows plan rest outcome →
    AsksSo w (input.Command ticket one) rest outcome) →
    AsksSo w (input.Command ticket one) events outcome
noticed_so w ticket one [] plan events outcome f k = k events f
noticed_so w ticket one (notice ∷ notices) plan [] outcome f k = absurd (cc)
noticed_so w ticket one (notice ∷ notices) plan (event ∷ events) outcome f k =
    subst (λ x. AsksSo w (input.Command ticket one) (x ∷ events) outcome) (sym f.0)
    (noticed_so w ticket one notices plan events outcome f.1 k)

effect_so : {E F : Type 0} (w : World) (ticket : ℕ) (one : Command) (does : Effect)
    (events : List (Event E F)) (outcome : Outcome) →
    Asks w.globals.outstanding (awaits_by one) does →
    Follows (done does (λ done_so v. Tell (Answered ticket done_so) (Finish (Goes v)))) events
    outcome → AsksSo w (input.Command ticket one) events outcome
effect_so w ticket one (Brings notices done_so v) events outcome a f =
    noticed_so w ticket one notices (Tell (Answered ticket done_so) (Finish (Goes v))) events
    outcome f (λ rest g. answered_so w v ticket one done_so notices rest outcome a g)

tick_step : {E F : Type 0} (w : World) (many : Bool) (events : List (Event E F))
    (outcome : Outcome) →
    Follows (acts (if many then Stops Keepalive_timeout ∷ []
    else Turns (λ v. said keepalive (ticked v)) ∷ []) w) events outcome →
    AsksSo w input.KeepaliveTick events outcome
tick_step w true [] outcome f =
    let same : Fails Keepalive_timeout ≡ outcome = cc in
    subst (Waits (w.globals.outstanding ++ Keepalive ∷ [])) same tt
tick_step w true (event ∷ events) outcome f = absurd f
tick_step w false [] outcome f =
    let same : Goes (said keepalive (ticked w)) ≡ outcome = cc in
    subst (Waits (w.globals.outstanding ++ Keepalive ∷ [])) same refl
tick_step w false (event ∷ events) outcome f = absurd f

-- ---- what an input settles

-- such a plan tells of no reply, and what it asks waits behind what waited
pub record IsPlain (E F : Type 0) (w : World) (kind : InputKind)
    (plan : Plan Outcome) : Type 0 where
  pub asks : (events : List (Event E F)) (outcome : Outcome) → Follows plan events outcome
      → AsksSo w kind events outcome
  pub tells : TellsNone plan

-- .. and such a one tells of a reply to the oldest, which waits no longer, and nothing else
pub record IsSettling (w : World) (payload : List ℕ) (plan : Plan Outcome) : Type 0 where
  pub v : World
  pub note : Option Notice
  pub first : Outstanding
  pub later : List Outstanding
  pub is : plan ≡ acts (notes note) v
  pub waited : w.globals.outstanding ≡ first ∷ later
  pub left : v.globals.outstanding ≡ later
  pub says : flat_map replied_in (option_to_list note) ≡ with_notice first
  pub reply : is_own_reply (input.Payload payload) ≡ true

abbrev pub Settles : World → InputKind → Plan Outcome → Type 0
Settles w (input.Payload payload) plan = IsSettling w payload plan
Settles w _ plan = ⊥

reply_or_not : (said : Said) →
    SaysNoReply said ⊎ ((note : Option Notice) × (said ≡ Connection (spoken.Settles note)))
reply_or_not (Connection (spoken.Settles note)) = inr (note, refl)
reply_or_not (Connection _) = inl tt
reply_or_not _ = inl tt

settles_so : (w : World) (payload : List ℕ) (note : Option Notice) →
    OfRead (BytesSay w payload) (Connection (spoken.Settles note)) → (moment : ℕ) →
    IsSettling w payload (row w moment (Connection (spoken.Settles note)))
settles_so w payload note q moment = record {
  v = settled_first w;
  note = note;
  first = q.1.0;
  later = q.1.1;
  is = refl;
  waited = q.1.2;
  left = ap (drop 1) q.1.2;
  says = q.1.3;
  reply = q.0;
}

said_is : (E F : Type 0) (w : World) (moment : ℕ) (payload : List ℕ) (said : Said) →
    OfRead (BytesSay w payload) said →
    SaysNoReply said ⊎ ((note : Option Notice) × (said ≡ Connection (spoken.Settles note))) →
    IsPlain E F w (input.Payload payload) (row w moment said)
    ⊎ Settles w (input.Payload payload) (row w moment said)
said_is E F w moment payload said q (inl none) = inl (record {
  asks = λ events outcome f. row_waits w moment said events outcome none f;
  tells = row_tells w moment said none;
})
said_is E F w moment payload said q (inr is) =
    inr (subst (λ s. IsSettling w payload (row w moment s)) (sym is.1)
    (settles_so w payload is.0 (subst (OfRead (BytesSay w payload)) is.1 q) moment))

command_plain : (E F : Type 0) (w : World) (ticket : ℕ) (one : Command) →
    IsPlain E F w (input.Command ticket one) (command_row w ticket one)
command_plain E F w ticket one = record {
  asks = λ events outcome f. effect_so w ticket one (effect w one) events outcome
      (effect_asks None w one) f;
  tells = command_tells w ticket one;
}

-- an answer to an open asks nothing
either_none : (b : Bool) (P : List Outstanding → Type 0) →
    P (if b then [] else []) → P []
either_none true P h = h
either_none false P h = h

unasked_so : {E F : Type 0} (w : World) (ticket : ℕ) (answer : OpenAnswer)
    (events : List (Event E F)) (outcome : Outcome) →
    AsksSo w (input.Command ticket (command.Answer answer)) events outcome →
    AsksSo w (input.OpenReply ticket answer) events outcome
unasked_so w ticket answer events outcome h =
    either_none (list_any was_refused events)
    (λ l. Waits (w.globals.outstanding ++ (l ++ awaits_within events)) outcome) h

reply_plain : (E F : Type 0) (w : World) (ticket : ℕ) (answer : OpenAnswer) →
    IsPlain E F w (input.OpenReply ticket answer) (command_row w ticket (command.Answer answer))
reply_plain E F w ticket answer = record {
  asks = λ events outcome f. unasked_so w ticket answer events outcome
      (effect_so w ticket (command.Answer answer) (effect w (command.Answer answer)) events outcome
      (effect_asks None w (command.Answer answer)) f);
  tells = command_tells w ticket (command.Answer answer);
}

-- that the peer was heard changes nothing of what waits
heard_is : (E F : Type 0) (w : World) (payload : List ℕ) (plan : Plan Outcome) →
    IsPlain E F (hears payload w) (input.Payload payload) plan
    ⊎ IsSettling (hears payload w) payload plan →
    IsPlain E F w (input.Payload payload) plan ⊎ IsSettling w payload plan
heard_is E F w payload plan (inl h) = inl (record { asks = h.asks; tells = h.tells })
heard_is E F w payload plan (inr h) = inr (record {
  v = h.v;
  note = h.note;
  first = h.first;
  later = h.later;
  is = h.is;
  waited = h.waited;
  left = h.left;
  says = h.says;
  reply = h.reply;
})

-- what goes to the exchange of keys asks and settles nothing
exchange_plain : (E F : Type 0) (w : World) (payload : List ℕ) (at : Passage) →
    IsPlain E F w (input.Payload payload) (acts (exchange_acts payload at) (hears payload w))
exchange_plain E F w payload at =
    let v = hears payload w in
    record {
      asks = λ events outcome f. calling_waits (exchange_acts payload at) v events outcome
          (exchange_calling payload at) f;
      tells = calling_tell (exchange_acts payload at) v (exchange_calling payload at);
    }

pub kind_is : (E F : Type 0) (accepts : Acceptance) (w : World) (moment : ℕ) (kind : InputKind)
    (plan : Plan Outcome) → OwesKind accepts w moment kind plan →
    IsPlain E F w kind plan ⊎ Settles w kind plan
kind_is E F accepts w moment input.End plan o = inl (record {
  asks = λ events outcome f. calling_waits (Is_over ∷ []) w events outcome tt
      (subst (λ p. Follows p events outcome) o f);
  tells = subst TellsNone (sym o) tt;
})
kind_is E F accepts w moment (input.Payload payload) plan o =
    let v = hears payload w in
    payload_so accepts v moment payload plan
    (λ p. IsPlain E F w (input.Payload payload) p ⊎ IsSettling w payload p) o
    (λ said says. heard_is E F w payload (row v moment said)
    (said_is E F v moment payload said
    (payload_says (circumstances accepts v.settings moment) v payload said says)
    (reply_or_not said)))
    (λ at. inl (exchange_plain E F w payload at))
kind_is E F accepts w moment (input.Command ticket one) plan o =
    inl (subst (IsPlain E F w (input.Command ticket one)) (sym o) (command_plain E F w ticket one))
kind_is E F accepts w moment (input.OpenReply ticket answer) plan o =
    inl (subst (IsPlain E F w (input.OpenReply ticket answer)) (sym o)
    (reply_plain E F w ticket answer))
kind_is E F accepts w moment input.KeepaliveTick plan o =
    inl (subst (IsPlain E F w input.KeepaliveTick) (sym o) (record {
      asks = λ events outcome f. tick_step w
          (is_too_many w.settings.config (one_more w.keepalives)) events outcome f;
      tells = tick_tells w;
    }))
kind_is E F accepts w moment input.InactivityTick plan o = inl (record {
  asks = λ events outcome f. calling_waits inactivity_acts w events outcome tt
      (subst (λ p. Follows p events outcome) o f);
  tells = subst TellsNone (sym o) tt;
})
kind_is E F accepts w moment input.RekeyTick plan o = inl (record {
  asks = λ events outcome f. calling_waits [] w events outcome tt
      (subst (λ p. Follows p events outcome) o f);
  tells = subst TellsNone (sym o) tt;
})
