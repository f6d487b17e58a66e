-- A plan whose questions are answered alike has one list of events and one end.
use Rattle.std.proofs.Common.{◌≡◌, ◌≢◌, ◌⊎◌, List, [], ◌∷◌, ◌++◌, Option, Some, None, Result, Ok}
use Rattle.std.proofs.Common.{Err, refl, sym, ◌∙◌, ap, subst, inl, inr, append-nil, append_assoc}
use Rattle.std.specs.Prelude.{option_map}
use Rattle.ssh_link.specs.declared.kex.KexCall.{KexCall}
use Rattle.ssh_link.specs.declared.kex.KexCall.TheVariants as kex
use Rattle.ssh_auth.specs.declared.question.Question.{Question}
use Rattle.ssh_auth.specs.declared.question.Question.TheVariants as ask
use Rattle.ssh_auth.specs.Plan.{Answer, Answered, Refused, OutsideError, Handler_error}
use Rattle.ssh_auth.specs.Plan.{Exchange_error, Plan, Finish, Ask, Tell, Event, Called, Stepped}
use Rattle.ssh_auth.specs.Plan.{Told, asked_in, Reaches, Follows, Breaks}
use Rattle.ssh_auth.specs.Was.{Was, Banner_so, Admitted_so, Lent_so, Judged_so, Listened_so}
use Rattle.ssh_auth.specs.Was.{Adjusted_so, Done_so, was}
use Rattle.ssh_auth.proofs.Back.{admitted_back, lent_back, judged_back, asked_so, refused_so}
use Rattle.ssh_auth.proofs.Back.{answered_once}
use Rattle.ssh_rules.specs.Outcome.{Outcome, Fails, Starved}
use Rattle.ssh_rules.specs.Once.{AreAnsweredAlike}
use Rattle.ssh_rules.specs.Short.{IsShortOf}
use Rattle.ssh_rules.proofs.Determined.Shorter.{ends_as}

-- ---- the error that an event answers

abbrev err_of : {T E : Type 0} → Result T E → Option E
err_of (Ok value) = None
err_of (Err error) = Some error

abbrev error_was : {E : Type 0} → Was E → Option E
error_was (Banner_so answer) = err_of answer
error_was (Admitted_so admission answer) = err_of answer
error_was (Lent_so lent answer commands) = err_of answer
error_was (Judged_so judged answer commands) = err_of answer
error_was (Listened_so address port port_after answer commands) = err_of answer
error_was (Adjusted_so channel current answer) = err_of answer
error_was (Done_so place outcome answer) = err_of answer

abbrev error_in_step : {F : Type 0} → KexCall F → Option F
error_in_step (kex.Begun answer) = err_of answer
error_in_step (kex.Stepped payload answer) = err_of answer

abbrev error_by : {E F : Type 0} → Was E → Option (OutsideError E F)
error_by one = option_map Handler_error (error_was one)

abbrev error_in : {E F : Type 0} → Event E F → Option (OutsideError E F)
error_in (Called call) = error_by (was call)
error_in (Stepped step) = option_map Exchange_error (error_in_step step)
error_in (Told entry) = None

-- an answer is none
no_error : {E F : Type 0} (question : Question) (answer : Answer question) (event : Event E F)
    → Answered question answer event → error_in event ≡ None
no_error ask.Banner answer event h = ap error_in h
no_error {E} {F} (ask.Admits admission) answer event h =
    ap error_in h ∙ ap (error_by {F = F}) (admitted_back E admission (Ok answer))
no_error {E} {F} (ask.Lends lent) answer event h =
    ap error_in h ∙ ap (error_by {F = F}) (lent_back E lent (Ok tt) answer)
no_error {E} {F} (ask.Judges judged) answer event h =
    ap error_in h
    ∙ ap (error_by {F = F}) (judged_back E judged (Ok answer.granted) answer.commands)
no_error (ask.Listens address port) answer event h = ap error_in h
no_error (ask.Adjusts channel current) answer event h = ap error_in h
no_error (ask.Done place outcome) answer event h = ap error_in h
no_error ask.Begins answer event h = ap error_in h
no_error (ask.Steps payload) answer event h = ap error_in h

-- a refusal is the one by which it refuses
that_error : {E F : Type 0} (question : Question) (error : OutsideError E F) (event : Event E F)
    → Refused question error event → error_in event ≡ Some error
that_error ask.Banner (Handler_error e) event h = ap error_in h
that_error {E} {F} (ask.Admits admission) (Handler_error e) event h =
    ap error_in h ∙ ap (error_by {F = F}) (admitted_back E admission (Err e))
that_error {E} {F} (ask.Lends lent) (Handler_error e) event h =
    ap error_in h.1 ∙ ap (error_by {F = F}) (lent_back E lent (Err e) h.0)
that_error {E} {F} (ask.Judges judged) (Handler_error e) event h =
    ap error_in h.1 ∙ ap (error_by {F = F}) (judged_back E judged (Err e) h.0)
that_error (ask.Listens address port) (Handler_error e) event h = ap error_in h.2
that_error (ask.Adjusts channel current) (Handler_error e) event h = ap error_in h
that_error (ask.Done place outcome) (Handler_error e) event h = ap error_in h
that_error ask.Begins (Exchange_error f) event h = ap error_in h
that_error (ask.Steps payload) (Exchange_error f) event h = ap error_in h
that_error ask.Begins (Handler_error e) event h = absurd h
that_error (ask.Steps payload) (Handler_error e) event h = absurd h
that_error ask.Banner (Exchange_error f) event h = absurd h
that_error (ask.Admits admission) (Exchange_error f) event h = absurd h
that_error (ask.Lends lent) (Exchange_error f) event h = absurd h
that_error (ask.Judges judged) (Exchange_error f) event h = absurd h
that_error (ask.Listens address port) (Exchange_error f) event h = absurd h
that_error (ask.Adjusts channel current) (Exchange_error f) event h = absurd h
that_error (ask.Done place outcome) (Exchange_error f) event h = absurd h

none_or_some : {A : Type 0} (one : Option A) (a : A) → one ≡ None → one ≡ Some a → ⊥
none_or_some one a h k = let z = sym h ∙ k in cc

some_once : {A : Type 0} (one : Option A) (a b : A) → one ≡ Some a → one ≡ Some b → a ≡ b
some_once one a b h k = let z = sym h ∙ k in cc

-- ---- a whole walk along a plan

-- these are all events of the plan, and this comes of them: its outcome, or the error that was
-- answered last
abbrev pub Comes : {E F : Type 0} → Plan Outcome → List (Event E F)
    → Result Outcome (OutsideError E F) → Type 0
Comes plan events (Ok outcome) = Follows plan events outcome
Comes plan events (Err error) = Breaks plan events error

-- the same, event by event
abbrev GoesOn : {E F : Type 0} → (question : Question) → Event E F → (Answer question → Type 0)
    → List (Event E F) → Result Outcome (OutsideError E F) → Type 0
GoesOn {E} {F} question event next events end =
    ((answer : Answer question) × Answered question answer event × next answer)
    ⊎ ((error : OutsideError E F) × Refused question error event × (events ≡ [])
    × (end ≡ Err error))

abbrev pub Walks : {E F : Type 0} → Plan Outcome → List (Event E F)
    → Result Outcome (OutsideError E F) → Type 0
Walks (Finish outcome) [] end = end ≡ Ok outcome
Walks (Ask question next) (event ∷ events) end = GoesOn question event
    (λ answer. Walks (next answer) events end) events end
Walks (Tell entry next) (event ∷ events) end = (event ≡ Told entry) × Walks next events end
Walks _ _ end = ⊥

walks : {E F : Type 0} (plan : Plan Outcome) (earlier later : List (Event E F))
    (rest : Plan Outcome) (end : Result Outcome (OutsideError E F)) → Reaches plan earlier rest
    → Walks rest later end → Walks plan (earlier ++ later) end
walks plan [] later rest end h w = subst (λ p. Walks p later end) (sym h) w
walks (Finish outcome) (event ∷ earlier) later rest end h w = absurd h
walks (Ask question next) (event ∷ earlier) later rest end h w =
    inl (h.0, h.1, walks (next h.0) earlier later rest end h.2 w)
walks (Tell entry next) (event ∷ earlier) later rest end h w =
    (h.0, walks next earlier later rest end h.1 w)

pub walked : {E F : Type 0} (plan : Plan Outcome) (events : List (Event E F))
    (end : Result Outcome (OutsideError E F)) → Comes plan events end → Walks plan events end
walked plan events (Ok outcome) h = subst (λ e. Walks plan e (Ok outcome)) (append-nil events)
    (walks plan events [] (Finish outcome) (Ok outcome) h refl)
walked plan events (Err error) h =
    subst (λ e. Walks plan e (Err error)) (sym h.is) (walks plan h.before (h.last ∷ [])
    (Ask h.question h.next) (Err error) h.reaches (inr (error, h.refused, refl, refl)))

-- ---- of a plan that is short of another

-- memory was not wanting
abbrev pub IsFed : {E F : Type 0} → Result Outcome (OutsideError E F) → Type 0
IsFed (Ok (Fails Starved)) = ⊥
IsFed _ = Unit {0}

fed_as : {E F : Type 0} (end : Result Outcome (OutsideError E F)) (outcome : Outcome)
    → IsFed end → end ≡ Ok outcome → outcome ≢ Fails Starved
fed_as end outcome fed e starved = subst IsFed (e ∙ ap Ok starved) fed

-- a walk along it is one along the other
pub walks_longer : {E F : Type 0} (plan other : Plan Outcome) (events : List (Event E F))
    (end : Result Outcome (OutsideError E F)) → IsFed end → IsShortOf plan other
    → Walks plan events end → Walks other events end
walks_longer (Finish outcome) other [] end fed s w = subst (λ p. Walks p [] end)
    (sym (ends_as outcome other (fed_as end outcome fed w) s)) w
walks_longer (Finish outcome) other (event ∷ events) end fed s w = absurd w
walks_longer (Ask question next) other [] end fed s w = absurd w
walks_longer (Ask question next) other (event ∷ events) end fed s (inl w) =
    subst (λ p. Walks p (event ∷ events) end) (sym s.1)
    (inl (w.0, w.1, walks_longer (next w.0) (s.0 w.0) events end fed (s.2 w.0) w.2))
walks_longer (Ask question next) other (event ∷ events) end fed s (inr w) =
    subst (λ p. Walks p (event ∷ events) end) (sym s.1) (inr w)
walks_longer (Tell entry next) other [] end fed s w = absurd w
walks_longer (Tell entry next) other (event ∷ events) end fed s w =
    subst (λ p. Walks p (event ∷ events) end) (sym s.1)
    (w.0, walks_longer next s.0 events end fed s.2 w.1)

-- ---- events that are answered alike

-- the first ones, to one question
alike_first : {E F : Type 0} (x y : Event E F) (xs ys : List (Event E F)) (question : Question)
    → AreAnsweredAlike (x ∷ xs) (y ∷ ys) → asked_in x ≡ Some question
    → asked_in y ≡ Some question → x ≡ y
alike_first x y xs ys question alike h k = alike [] xs ys x y question refl refl h k

-- either way
pub alike_back : {E F : Type 0} (xs ys : List (Event E F)) → AreAnsweredAlike xs ys
    → AreAnsweredAlike ys xs
alike_back xs ys alike past later rest event other question h k a b =
    sym (alike past rest later other event question k h b a)

-- behind the same ones, the others
pub alike_later : {E F : Type 0} (same xs ys : List (Event E F))
    → AreAnsweredAlike (same ++ xs) (same ++ ys) → AreAnsweredAlike xs ys
alike_later same xs ys alike past later rest event other question h k =
    alike (same ++ past) later rest event other question
    (ap (λ l. same ++ l) h ∙ sym (append_assoc same past (event ∷ later)))
    (ap (λ l. same ++ l) k ∙ sym (append_assoc same past (other ∷ rest)))

alike_rest : {E F : Type 0} (x y : Event E F) (xs ys : List (Event E F)) → x ≡ y
    → AreAnsweredAlike (x ∷ xs) (y ∷ ys) → AreAnsweredAlike xs ys
alike_rest x y xs ys e alike = alike_later (x ∷ []) xs ys
    (subst (λ z. AreAnsweredAlike (x ∷ xs) (z ∷ ys)) (sym e) alike)

-- ---- one walk

-- the same events, and the same end
abbrev Same : {E F : Type 0} → (xs ys : List (Event E F))
    → (o p : Result Outcome (OutsideError E F)) → Type 0
Same xs ys o p = (xs ≡ ys) × (o ≡ p)

events_once : {E F : Type 0} (x y : Event E F) (xs ys : List (Event E F)) → x ≡ y → xs ≡ ys
    → x ∷ xs ≡ y ∷ ys
events_once x y xs ys e f = cc

-- what was asked in an event, answered or refused
asked_now : {E F : Type 0} (question : Question) (next : Answer question → Type 0)
    (event : Event E F) (events : List (Event E F)) (end : Result Outcome (OutsideError E F))
    → GoesOn question event next events end → asked_in event ≡ Some question
asked_now question next event events end (inl u) = asked_so question u.0 event u.1
asked_now question next event events end (inr u) = refused_so question u.0 event u.1

one_way : {E F : Type 0} (question : Question) (next : Answer question → Plan Outcome)
    (x y : Event E F) (xs ys : List (Event E F)) (o p : Result Outcome (OutsideError E F))
    → x ≡ y → ((answer : Answer question) → Walks (next answer) xs o → Walks (next answer) ys p
    → Same xs ys o p) → GoesOn question x (λ answer. Walks (next answer) xs o) xs o
    → GoesOn question y (λ answer. Walks (next answer) ys p) ys p → Same (x ∷ xs) (y ∷ ys) o p
one_way question next x y xs ys o p same later (inl u) (inl v) =
    let e : u.0 ≡ v.0 = answered_once question u.0 v.0 y
    (subst (Answered question u.0) same u.1) v.1 in
    let more = later u.0 u.2 (subst (λ z. Walks (next z) ys p) (sym e) v.2) in
    (events_once x y xs ys same more.0, more.1)
one_way question next x y xs ys o p same later (inl u) (inr v) =
    absurd (none_or_some (error_in x) v.0 (no_error question u.0 x u.1)
    (ap error_in same ∙ that_error question v.0 y v.1))
one_way question next x y xs ys o p same later (inr u) (inl v) =
    absurd (none_or_some (error_in x) u.0 (ap error_in same ∙ no_error question v.0 y v.1)
    (that_error question u.0 x u.1))
one_way question next x y xs ys o p same later (inr u) (inr v) =
    let e : u.0 ≡ v.0 = some_once (error_in x) u.0 v.0 (that_error question u.0 x u.1)
    (ap error_in same ∙ that_error question v.0 y v.1) in
    (events_once x y xs ys same (u.2 ∙ sym v.2), u.3 ∙ (ap Err e ∙ sym v.3))

-- two walks along a plan are one, where their events, and what follows them, are answered alike
pub one_walk : {E F : Type 0} (plan : Plan Outcome) (xs ys more others : List (Event E F))
    (o p : Result Outcome (OutsideError E F)) → Walks plan xs o → Walks plan ys p
    → AreAnsweredAlike (xs ++ more) (ys ++ others) → Same xs ys o p
one_walk (Finish outcome) [] [] more others o p h k alike = (refl, h ∙ sym k)
one_walk (Finish outcome) [] (y ∷ ys) more others o p h k alike = absurd k
one_walk (Finish outcome) (x ∷ xs) ys more others o p h k alike = absurd h
one_walk (Ask question next) [] ys more others o p h k alike = absurd h
one_walk (Ask question next) (x ∷ xs) [] more others o p h k alike = absurd k
one_walk (Ask question next) (x ∷ xs) (y ∷ ys) more others o p h k alike =
    let e : x ≡ y = alike_first x y (xs ++ more) (ys ++ others) question alike
    (asked_now question (λ answer. Walks (next answer) xs o) x xs o h)
    (asked_now question (λ answer. Walks (next answer) ys p) y ys p k) in
    one_way question next x y xs ys o p e
    (λ answer h k. one_walk (next answer) xs ys more others o p h k
    (alike_rest x y (xs ++ more) (ys ++ others) e alike)) h k
one_walk (Tell entry next) [] ys more others o p h k alike = absurd h
one_walk (Tell entry next) (x ∷ xs) [] more others o p h k alike = absurd k
one_walk (Tell entry next) (x ∷ xs) (y ∷ ys) more others o p h k alike =
    let e : x ≡ y = h.0 ∙ sym k.0 in
    let rest = one_walk next xs ys more others o p h.1 k.1
    (alike_rest x y (xs ++ more) (ys ++ others) e alike) in
    (events_once x y xs ys e rest.0, rest.1)
