-- Plans in which nothing of the connection comes before an answer that accepts a user.
use Rattle.std.proofs.Common.{◌≡◌, ◌⊎◌, ℕ, List, [], ◌∷◌, ◌++◌, map, Some, None, Ok, refl, sym, ◌∙◌}
use Rattle.std.proofs.Common.{ap, subst, inl, inr, Bool, true, false, cond, arith}
use Rattle.std.specs.Prelude.{◌≤◌, nat_lt, filter}
use Rattle.std.proofs.lemmas.Bool.{and_parts, ltb-true}
use Rattle.ssh_link.specs.Frames.{Frame}
use Rattle.ssh_link.specs.declared.frame.InputKind.{InputKind}
use Rattle.ssh_link.specs.declared.link.TraceEntry.{TraceEntry}
use Rattle.ssh_link.specs.declared.link.TraceEntry.TheVariants.{Sent}
use Rattle.ssh_auth.specs.declared.auth.Auth.{Auth}
use Rattle.ssh_auth.specs.declared.auth.Auth.TheVariants.{Accept}
use Rattle.ssh_auth.specs.declared.auth_request.Principal.{Principal}
use Rattle.ssh_auth.specs.declared.call.Call.{Call}
use Rattle.ssh_auth.specs.declared.question.Question.{Question}
use Rattle.ssh_auth.specs.declared.question.Question.TheVariants.{Admits}
use Rattle.ssh_auth.specs.declared.question.Question.TheVariants as ask
use Rattle.ssh_auth.specs.Calls.{admission_call}
use Rattle.ssh_auth.specs.Plan.{Plan, Finish, Ask, Tell, Answer, Answered, OutsideError, Refused}
use Rattle.ssh_auth.specs.Plan.{Event, Called, Stepped, Told}
use Rattle.ssh_auth.specs.Plan.{asked_in, Reaches, Follows, Begins, Breaks, after}
use Rattle.ssh_auth.specs.Publickey.{Circumstances}
use Rattle.ssh_auth.specs.Was.{Was, Banner_so, Admitted_so, Lent_so, Judged_so, Listened_so}
use Rattle.ssh_auth.specs.Was.{Adjusted_so, Done_so, was, asked_of, question_of}
use Rattle.ssh_auth.proofs.Back.{admitted_back, asked_so, refused_so}
use Rattle.ssh_channels.specs.Lines.{Lines, all_go_on, each_goes_on, numbers, handed, hands_on}
use Rattle.ssh_rules.specs.declared.state.EncryptedState.{EncryptedState}
use Rattle.ssh_rules.specs.declared.state.EncryptedState.TheVariants.{WaitingAuthServiceRequest}
use Rattle.ssh_rules.specs.declared.state.EncryptedState.TheVariants.{WaitingAuthRequest}
use Rattle.ssh_rules.specs.declared.exchange.Keys.{Keys}
use Rattle.ssh_rules.specs.Acts.{Act, Exchanges, Exchanging, Beginning, Stepping, acts, tell_all}
use Rattle.ssh_rules.specs.Acts.{exchange_question, payloads_given, frames_given, moved}
use Rattle.ssh_rules.specs.Authorised.{IsRequestOf, IsAdmitted, IsAcceptingSo, IsAccepting}
use Rattle.ssh_rules.specs.Authorised.{AsksConnection, IsOfChannel}
use Rattle.ssh_rules.specs.Authorised.{NeedsUser}
use Rattle.ssh_rules.specs.Exchange.{is_of_transport}
use Rattle.ssh_rules.specs.Layout.{at_once}
use Rattle.ssh_rules.specs.Outcome.{Outcome, Goes, Ends, Fails}
use Rattle.ssh_rules.specs.Run.{handed_on, finish_input, goes_unless_ended, going_out, begins}
use Rattle.ssh_rules.specs.Run.{is_due}
use Rattle.ssh_rules.specs.World.{World, keyed, lined, is_held}
use Rattle.ssh_rules.proofs.Plans.Emptied.{nothing_left}
use Rattle.ssh_rules.proofs.Plans.Passing.{moved_so}

-- ---- worlds before a user is accepted

-- no frame of these is a channel's
abbrev pub AreLow : List Frame → Type 0
AreLow [] = Unit {0}
AreLow (frame ∷ frames) = (IsOfChannel frame → ⊥) × AreLow frames

-- no user is accepted, and whoever is bound is so named
abbrev pub IsBefore : (named : List ℕ → Type 0) → EncryptedState → Type 0
IsBefore named (WaitingAuthServiceRequest sent accepted) = Unit {0}
IsBefore named (WaitingAuthRequest auth) = (principal : Principal) → auth.bound ≡ Some principal
    → named principal.user
IsBefore named _ = ⊥

-- and there is no channel, no open that waits for its answer, and no written frame of a channel
abbrev pub IsClear : (named : List ℕ → Type 0) → World → Type 0
IsClear named w = IsBefore named w.user.state × (w.channels.lines.entries ≡ [])
    × (w.channels.opens ≡ [])
    × AreLow w.channels.lines.written

-- the user whom the last request named, where this input comes after these names
abbrev pub NamesLast : (named : List ℕ → Type 0) → InputKind → List ℕ → Type 0
NamesLast named kind user = IsRequestOf user kind ⊎ (((other : List ℕ) → IsRequestOf other kind → ⊥)
    × named user)

-- ---- plans

-- the answer accepts, and then this holds
abbrev pub AcceptsWhere : Type 0 → Auth → Type 0
AcceptsWhere holds Accept = holds
AcceptsWhere holds _ = ⊥

-- the answer accepts such a user, and of a key or a certificate the signature was accepted
abbrev pub Accepts : Circumstances → (named : List ℕ → Type 0) → InputKind → (question : Question)
    → Answer question → Type 0
Accepts given named kind (Admits admission) answer =
    AcceptsWhere (IsAdmitted given named kind admission) answer
Accepts given named kind _ answer = ⊥

-- the handler is asked it, and not the exchange of keys
abbrev pub AsksHandler : Question → Type 0
AsksHandler ask.Begins = ⊥
AsksHandler (ask.Steps payload) = ⊥
AsksHandler _ = Unit {0}

-- a question of the connection that the handler is asked
abbrev pub AsksUser : Question → Type 0
AsksUser question = AsksConnection question × AsksHandler question

-- a frame of a channel
abbrev pub NeedsEntry : TraceEntry → Type 0
NeedsEntry (Sent frame) = IsOfChannel frame
NeedsEntry _ = ⊥

-- a user was accepted, or the world that it comes to is one before that
abbrev pub GuardedOutcome : (named : List ℕ → Type 0) → Type 0 → Outcome → Type 0
GuardedOutcome named accepted (Goes world) = accepted ⊎ IsClear named world
GuardedOutcome named accepted (Ends world) = accepted ⊎ AreLow world.channels.lines.written
GuardedOutcome named accepted (Fails fault) = Unit {0}

abbrev pub Guarded : Circumstances → (named : List ℕ → Type 0) → Type 0 → InputKind → Plan Outcome
    → Type 0
Guarded given named accepted kind (Finish outcome) = GuardedOutcome (NamesLast named kind) accepted
    outcome
Guarded given named accepted kind (Ask question next) = (AsksUser question → accepted)
    × ((answer : Answer question) → Guarded given named (accepted ⊎ Accepts given named kind
    question answer) kind (next answer))
Guarded given named accepted kind (Tell entry next) = (NeedsEntry entry → accepted)
    × Guarded given named accepted kind next

pub either : {A B C : Type 0} → (A → C) → (B → C) → A ⊎ B → C
either f g (inl a) = f a
either f g (inr b) = g b

-- ---- once a user is accepted, every plan is such

outcome_accepted : (named : List ℕ → Type 0) (a : Type 0) (outcome : Outcome) → a
    → GuardedOutcome named a outcome
outcome_accepted named a (Goes world) x = inl x
outcome_accepted named a (Ends world) x = inl x
outcome_accepted named a (Fails fault) x = tt

pub plan_accepted : (given : Circumstances) (named : List ℕ → Type 0) (a : Type 0)
    (kind : InputKind) (plan : Plan Outcome) →
    a → Guarded given named a kind plan
plan_accepted given named a kind (Finish outcome) x = outcome_accepted (NamesLast named kind) a
    outcome x
plan_accepted given named a kind (Ask question next) x = (
  λ q. x,
  λ answer. plan_accepted given named (a ⊎ Accepts given named kind question answer) kind
      (next answer) (inl x),
)
plan_accepted given named a kind (Tell entry next) x =
    (λ n. x, plan_accepted given named a kind next x)

-- ---- frames are handed on

pub low_told : (given : Circumstances) (named : List ℕ → Type 0) (a : Type 0) (kind : InputKind)
    (frames : List Frame)
    (next : Plan Outcome) → AreLow frames → Guarded given named a kind next →
    Guarded given named a kind (tell_all (map Sent frames) next)
low_told given named a kind [] next low h = h
low_told given named a kind (frame ∷ frames) next low h = (
  λ n. absurd (low.0 n),
  low_told given named a kind frames next low.1 h,
)

-- ---- the exchange of keys

-- a message of the transport layer is no channel's
transport_low : (payload : List ℕ) → is_of_transport payload ≡ true →
    IsOfChannel (at_once payload) → ⊥
transport_low [] is h = absurd (cc)
transport_low (number ∷ fields) is h =
    let few = ltb-true number 50 (and_parts (nat_lt 0 number) (nat_lt number 50) is).1 in
    let same : number ≡ h.0 = let e = h.2 in cc in
    let many = subst (λ m. 90 ≤ m) (sym same) h.3 in
    omega (arith, few, many)

given_step : (b : Bool) (payload : List ℕ) (payloads : List (List ℕ)) →
    is_of_transport payload ≡ b → AreLow (frames_given payloads) →
    AreLow (map at_once (cond b (payload ∷ filter is_of_transport payloads)
    (filter is_of_transport payloads)))
given_step true payload payloads is h = (transport_low payload is, h)
given_step false payload payloads is h = h

-- what an exchange gives
given_low : (payloads : List (List ℕ)) → AreLow (frames_given payloads)
given_low [] = tt
given_low (payload ∷ payloads) =
    given_step (is_of_transport payload) payload payloads refl (given_low payloads)

-- where there is no channel, none goes on
none_goes_on : (l : Lines) → l.entries ≡ [] → all_go_on l ≡ l
none_goes_on l none = ap (λ es. each_goes_on (numbers es) l) none

lines_clear : (named : List ℕ → Type 0) (w : World) (keys : Keys) → IsClear named w →
    IsClear named (keyed keys (lined all_go_on w))
lines_clear named w keys clear =
    let same = none_goes_on w.channels.lines clear.1 in (
      clear.0,
      ap (λ l. l.entries) same ∙ clear.1,
      clear.2,
      subst (λ l. AreLow l.written) (sym same) clear.3,
    )

moved_clear : (named : List ℕ → Type 0) (asked : Exchanging)
    (answer : Answer (exchange_question asked)) (w : World) → IsClear named w →
    IsClear named (moved asked answer w)
moved_clear named asked answer w clear =
    moved_so (IsClear named) asked answer w
    (λ keys. (clear.0, clear.1, clear.2, clear.3)) (λ keys. lines_clear named w keys clear)

asks_none : (asked : Exchanging) → AsksUser (exchange_question asked) → ⊥
asks_none Beginning h = h.1
asks_none (Stepping payload) h = h.1

-- a step of an exchange, and what follows
pub exchange_guarded : (given : Circumstances) (named : List ℕ → Type 0) (a : Type 0)
    (kind : InputKind) (asked : Exchanging) (later : List Act) (w : World) →
    IsClear (NamesLast named kind) w →
    ((b : Type 0) (v : World) → IsClear (NamesLast named kind) v →
    Guarded given named b kind (acts later v)) →
    Guarded given named a kind (acts (Exchanges asked ∷ later) w)
exchange_guarded given named a kind asked later w clear k = (
  λ q. absurd (asks_none asked q),
  λ answer.
      let b = a ⊎ Accepts given named kind (exchange_question asked) answer in
      let v = moved asked answer w in
      low_told given named b kind (frames_given (payloads_given asked answer)) (acts later v)
      (given_low (payloads_given asked answer))
      (k b v (moved_clear (NamesLast named kind) asked answer w clear)),
)

-- ---- the end of an input

pub handed_low : (held : Bool) (l : Lines) → AreLow l.written → AreLow (handed held l)
handed_low true l low = tt
handed_low false l low = low

hands_none : (held : Bool) (l : Lines) → l.entries ≡ [] → (hands_on held l).entries ≡ []
hands_none true l none = none
hands_none false l none = none

hands_low : (held : Bool) (l : Lines) → AreLow l.written → AreLow (hands_on held l).written
hands_low true l low = low
hands_low false l low = tt

pub handed_clear : (named : List ℕ → Type 0) (w : World) → IsClear named w →
    IsClear named (handed_on w)
handed_clear named w clear = (
  clear.0,
  hands_none (is_held w) w.channels.lines clear.1,
  clear.2,
  hands_low (is_held w) w.channels.lines clear.3,
)

pub begins_guarded : (given : Circumstances) (named : List ℕ → Type 0) (a : Type 0)
    (kind : InputKind) (w : World) (due : Bool) → IsClear (NamesLast named kind) w →
    Guarded given named a kind (acts (begins due) w)
begins_guarded given named a kind w true clear =
    exchange_guarded given named a kind Beginning [] w clear (λ b v c. inr c)
begins_guarded given named a kind w false clear = inr clear

ends_guarded : (given : Circumstances) (named : List ℕ → Type 0) (a : Type 0) (kind : InputKind)
    (w : World) (ended due : Bool) → IsClear (NamesLast named kind) w →
    Guarded given named a kind (cond ended (Finish (Ends w)) (acts (begins due) w))
ends_guarded given named a kind w true due clear = inr clear.3
ends_guarded given named a kind w false due clear =
    begins_guarded given named a kind w due clear

finished_guarded : (given : Circumstances) (named : List ℕ → Type 0) (a : Type 0) (kind : InputKind)
    (ticked : Bool) (outcome : Outcome) →
    GuardedOutcome (NamesLast named kind) a outcome → Guarded given named a kind
    (finish_input ticked outcome)
finished_guarded given named a kind ticked (Goes world) (inl x) = plan_accepted given named a kind
    (finish_input ticked (Goes world)) x
finished_guarded given named a kind ticked (Goes world) (inr clear) =
    let v = handed_on world in
    low_told given named a kind (going_out world) (goes_unless_ended ticked v)
    (handed_low (is_held world) world.channels.lines clear.3)
    (ends_guarded given named a kind v v.disconnected (is_due ticked v)
    (handed_clear (NamesLast named kind) world clear))
finished_guarded given named a kind ticked (Ends world) (inl x) = plan_accepted given named a kind
    (finish_input ticked (Ends world)) x
finished_guarded given named a kind ticked (Ends world) (inr low) =
    low_told given named a kind (going_out world) (Finish (Ends (handed_on world)))
    (handed_low (is_held world) world.channels.lines low)
    (inr (hands_low (is_held world) world.channels.lines low))
finished_guarded given named a kind ticked (Fails fault) h = tt

pub input_guarded : (given : Circumstances) (named : List ℕ → Type 0) (a : Type 0)
    (kind : InputKind) (ticked : Bool) (plan : Plan Outcome) →
    Guarded given named a kind plan →
    Guarded given named a kind (after plan (finish_input ticked))
input_guarded given named a kind ticked (Finish outcome) h =
    finished_guarded given named a kind ticked outcome h
input_guarded given named a kind ticked (Ask question next) h = (
  h.0,
  λ answer. input_guarded given named (a ⊎ Accepts given named kind question answer) kind ticked
      (next answer) (h.1 answer),
)
input_guarded given named a kind ticked (Tell entry next) h =
    (h.0, input_guarded given named a kind ticked next h.1)

-- ---- what came of such a plan

-- these are the first events of the plan; the last may be an answer that was an error
abbrev pub Walks : {E F : Type 0} → Plan Outcome → List (Event E F) → Type 0
Walks plan [] = Unit {0}
Walks (Finish outcome) (event ∷ events) = ⊥
Walks {E} {F} (Ask question next) (event ∷ events) =
    ((answer : Answer question) × Answered question answer event × Walks (next answer) events)
    ⊎ ((error : OutsideError E F) × Refused question error event × (events ≡ []))
Walks (Tell entry next) (event ∷ events) = (event ≡ Told entry) × Walks next events

-- a call among these events accepts a user
abbrev pub SomeAccepts : {E F : Type 0} → Circumstances → (named : List ℕ → Type 0) → InputKind
    → List (Event E F) → Type 0
SomeAccepts given named kind [] = ⊥
SomeAccepts given named kind (Called call ∷ events) = IsAccepting given named kind call
    ⊎ SomeAccepts given named kind events
SomeAccepts given named kind (_ ∷ events) = SomeAccepts given named kind events

-- what follows of an answer that accepts follows of this one
where_accepted : (P : Auth → Type 0) (holds : Type 0) (answer : Auth) → (holds → P Accept)
    → AcceptsWhere holds answer → P answer
where_accepted P holds Accept f h = f h
where_accepted P holds _ f h = absurd h

-- an accepting answer makes an accepting call
accepting : {E F : Type 0} (given : Circumstances) (named : List ℕ → Type 0) (kind : InputKind)
    (question : Question)
    (answer : Answer question) (call : Call E) → Answered {F = F} question answer (Called call) →
    Accepts given named kind question answer → IsAccepting given named kind call
accepting {E} {F} given named kind (Admits admission) answer call is h =
    let P : Auth → Type 0 = λ x. IsAcceptingSo {E = E} given named kind
    (Admitted_so admission (Ok x)) in
    let made : call ≡ admission_call admission (Ok answer) = cc in
    subst (IsAcceptingSo given named kind)
    (sym (ap was made ∙ admitted_back E admission (Ok answer)))
    (where_accepted P (IsAdmitted given named kind admission) answer (λ k. k) h)
accepting given named kind _ answer call is h = absurd h

-- an event that is no call accepts nobody
silent : {E F : Type 0} (given : Circumstances) (named : List ℕ → Type 0) (kind : InputKind)
    (question : Question)
    (answer : Answer question) (event : Event E F) → Answered question answer event →
    ((call : Call E) → event ≡ Called call → ⊥) → Accepts given named kind question answer → ⊥
silent given named kind (Admits admission) answer event is none h =
    none (admission_call admission (Ok answer)) is
silent given named kind _ answer event is none h = h

accepts_now : {E F : Type 0} (given : Circumstances) (named : List ℕ → Type 0) (kind : InputKind)
    (question : Question)
    (answer : Answer question) (event : Event E F) (events : List (Event E F))
    → Answered question answer event →
    Accepts given named kind question answer → SomeAccepts given named kind (event ∷ events)
accepts_now {E} {F} given named kind question answer (Called call) events is h =
    inl (accepting {E = E} {F = F} given named kind question answer call is h)
accepts_now given named kind question answer (Stepped step) events is h =
    absurd (silent given named kind question answer (Stepped step) is (λ call e. cc) h)
accepts_now given named kind question answer (Told entry) events is h =
    absurd (silent given named kind question answer (Told entry) is (λ call e. cc) h)

accepts_later : {E F : Type 0} (given : Circumstances) (named : List ℕ → Type 0) (kind : InputKind)
    (event : Event E F)
    (events : List (Event E F)) → SomeAccepts given named kind events → SomeAccepts given named kind
    (event ∷ events)
accepts_later given named kind (Called call) events h = inr h
accepts_later given named kind (Stepped step) events h = h
accepts_later given named kind (Told entry) events h = h

-- a call is of the handler
call_user : {E : Type 0} (so : Was E) → AsksConnection (question_of so) → AsksUser (question_of so)
call_user (Banner_so answer) h = absurd h
call_user (Admitted_so admission answer) h = absurd h
call_user (Lent_so lent answer commands) h = (h, tt)
call_user (Judged_so judged answer commands) h = (h, tt)
call_user (Listened_so address port port_after answer commands) h = (h, tt)
call_user (Adjusted_so channel current answer) h = (h, tt)
call_user (Done_so place outcome answer) h = (h, tt)

-- what an event of a question needs is what the question needs
asks_user : {E F : Type 0} (question : Question) (event : Event E F)
    → asked_in event ≡ Some question
    → NeedsUser event →
    AsksUser question
asks_user question (Called call) is needs =
    let e : Some (asked_of call) ≡ Some question = is in
    let same : asked_of call ≡ question = cc in
    subst AsksUser same (call_user (was call) needs)
asks_user question (Stepped step) is needs = absurd needs
asks_user question (Told entry) is needs = absurd (let e : None ≡ Some question = is in cc)

told_user : (E F : Type 0) (entry : TraceEntry) → NeedsUser {E = E} {F = F} (Told entry)
    → NeedsEntry entry
told_user E F (Sent frame) needs = needs
told_user E F _ needs = absurd needs

pub asked_event : {E F : Type 0} (question : Question) (next : Answer question → Plan Outcome)
    (event : Event E F)
    (events : List (Event E F)) → Walks (Ask question next) (event ∷ events) → asked_in event
    ≡ Some question
asked_event question next event events (inl h) = asked_so question h.0 event h.1
asked_event question next event events (inr h) = refused_so question h.0 event h.1

-- what needs a user has an accepting call before it
pub walks_guarded : {E F : Type 0} (given : Circumstances) (named : List ℕ → Type 0) (a : Type 0)
    (kind : InputKind)
    (plan : Plan Outcome) (past : List (Event E F)) (event : Event E F) (more : List (Event E F)) →
    Guarded given named a kind plan → Walks plan (past ++ event ∷ more) → NeedsUser event → a
    ⊎ SomeAccepts given named kind past
walks_guarded given named a kind (Finish outcome) [] event more g w needs = absurd w
walks_guarded given named a kind (Ask question next) [] event more g w needs =
    inl (g.0 (asks_user question event (asked_event question next event more w) needs))
walks_guarded {E} {F} given named a kind (Tell entry next) [] event more g w needs =
    inl (g.0 (told_user E F entry (subst NeedsUser w.0 needs)))
walks_guarded given named a kind (Finish outcome) (x ∷ past) event more g w needs = absurd w
walks_guarded given named a kind (Ask question next) (x ∷ past) event more g (inl w) needs =
    either (either (λ y. inl y) (λ y. inr (accepts_now given named kind question w.0 x past w.1 y)))
    (λ y. inr (accepts_later given named kind x past y))
    (walks_guarded given named (a ⊎ Accepts given named kind question w.0) kind (next w.0) past
    event more (g.1 w.0) w.2 needs)
walks_guarded given named a kind (Ask question next) (x ∷ past) event more g (inr w) needs =
    absurd (nothing_left past event more w.2)
walks_guarded given named a kind (Tell entry next) (x ∷ past) event more g w needs =
    either (λ y. inl y) (λ y. inr (accepts_later given named kind x past y))
    (walks_guarded given named a kind next past event more g.1 w.1 needs)

outcome_weak : (named : List ℕ → Type 0) (a b : Type 0) (outcome : Outcome) → (a → b)
    → GuardedOutcome named a outcome →
    GuardedOutcome named b outcome
outcome_weak named a b (Goes world) f h = either (λ x. inl (f x)) (λ x. inr x) h
outcome_weak named a b (Ends world) f h = either (λ x. inl (f x)) (λ x. inr x) h
outcome_weak named a b (Fails fault) f h = tt

-- and so has the world that it came to, or it is one before that
pub follows_guarded : {E F : Type 0} (given : Circumstances) (named : List ℕ → Type 0) (a : Type 0)
    (kind : InputKind)
    (plan : Plan Outcome) (events : List (Event E F)) (outcome : Outcome) → Guarded given named a
    kind plan →
    Follows plan events outcome → GuardedOutcome (NamesLast named kind)
    (a ⊎ SomeAccepts given named kind events) outcome
follows_guarded given named a kind plan [] outcome g h =
    outcome_weak (NamesLast named kind) a (a ⊎ ⊥) outcome (λ x. inl x)
    (subst (Guarded given named a kind) h g)
follows_guarded given named a kind (Finish other) (event ∷ events) outcome g h = absurd h
follows_guarded given named a kind (Ask question next) (event ∷ events) outcome g h =
    outcome_weak (NamesLast named kind) ((a ⊎ Accepts given named kind question h.0)
    ⊎ SomeAccepts given named kind events)
    (a ⊎ SomeAccepts given named kind (event ∷ events)) outcome
    (either (either (λ y. inl y) (λ y. inr (accepts_now given named kind question h.0 event events
    h.1 y)))
    (λ y. inr (accepts_later given named kind event events y)))
    (follows_guarded given named (a ⊎ Accepts given named kind question h.0) kind (next h.0) events
    outcome (g.1 h.0) h.2)
follows_guarded given named a kind (Tell entry next) (event ∷ events) outcome g h =
    outcome_weak (NamesLast named kind) (a ⊎ SomeAccepts given named kind events)
    (a ⊎ SomeAccepts given named kind (event ∷ events)) outcome
    (either (λ y. inl y) (λ y. inr (accepts_later given named kind event events y)))
    (follows_guarded given named a kind next events outcome g.1 h.1)

-- ---- how a plan is walked

reaches_walks : {E F : Type 0} (plan rest : Plan Outcome) (events : List (Event E F))
    → Reaches plan events rest → Walks plan events
reaches_walks plan rest [] h = tt
reaches_walks (Finish outcome) rest (event ∷ events) h = absurd h
reaches_walks (Ask question next) rest (event ∷ events) h =
    inl (h.0, h.1, reaches_walks (next h.0) rest events h.2)
reaches_walks (Tell entry next) rest (event ∷ events) h = (h.0, reaches_walks next rest events h.1)

pub begins_walks : {E F : Type 0} (plan : Plan Outcome) (events : List (Event E F))
    → Begins plan events → Walks plan events
begins_walks plan events h = reaches_walks plan h.0 events h.1

pub follows_walks : {E F : Type 0} (plan : Plan Outcome) (events : List (Event E F))
    (outcome : Outcome) →
    Follows plan events outcome → Walks plan events
follows_walks plan events outcome h = reaches_walks plan (Finish outcome) events h

refused_walks : {E F : Type 0} (plan : Plan Outcome) (question : Question) (next : Answer question
    → Plan Outcome)
    (before : List (Event E F)) (last : Event E F) (error : OutsideError E F)
    → Reaches plan before (Ask question next) →
    Refused question error last → Walks plan (before ++ last ∷ [])
refused_walks plan question next [] last error r h = subst (λ p. Walks p (last ∷ [])) (sym r)
    (inr (error, h, refl))
refused_walks (Finish outcome) question next (event ∷ before) last error r h = absurd r
refused_walks (Ask other later) question next (event ∷ before) last error r h =
    inl (r.0, r.1, refused_walks (later r.0) question next before last error r.2 h)
refused_walks (Tell entry later) question next (event ∷ before) last error r h =
    (r.0, refused_walks later question next before last error r.1 h)

pub breaks_walks : {E F : Type 0} (plan : Plan Outcome) (events : List (Event E F))
    (error : OutsideError E F) →
    Breaks plan events error → Walks plan events
breaks_walks plan events error h =
    subst (Walks plan) (sym h.is) (refused_walks plan h.question h.next h.before h.last error
    h.reaches h.refused)
