-- A run whose last input was valid, and in which no fault of the link rose, ends well or by want of
-- memory or inputs.
use Rattle.std.proofs.Common.{◌≡◌, ℕ, List, [], ◌∷◌, ◌++◌, Option, Some, None, Result, Ok, Err}
use Rattle.std.proofs.Common.{subst, arith}
use Rattle.std.specs.Prelude.{IfSome}
use Rattle.ssh_link.specs.Faults.{Rose}
use Rattle.ssh_link.specs.declared.frame.InputKind.{InputKind}
use Rattle.ssh_auth.specs.declared.question.Question.{Question}
use Rattle.ssh_auth.specs.declared.question.Question.TheVariants as ask
use Rattle.ssh_auth.specs.Plan.{Plan, Finish, Ask, Tell, Answer, answered, Refused as Refuses}
use Rattle.ssh_auth.specs.Plan.{Handler_error, Event, Called, Stepped, Told}
use Rattle.ssh_auth.specs.Plan.{Exchange_error, calls_in, steps_in, Reaches, Breaks, after}
use Rattle.ssh_auth.specs.Publickey.{Acceptance}
use Rattle.ssh_auth.specs.Was.{Admitted_so, Lent_so, Judged_so}
use Rattle.ssh_auth.proofs.Back.{admitted_back, lent_back, judged_back}
use Rattle.ssh_rules.specs.declared.error.RunError.{RunError}
use Rattle.ssh_rules.specs.declared.error.RunError.TheVariants as error
use Rattle.ssh_rules.specs.Account.{Closes}
use Rattle.ssh_rules.specs.Outcome.{Fault, Encoding, Inconsistent, Key, Unsupported}
use Rattle.ssh_rules.specs.Outcome.{Channels_full, Pending, Starved, Outcome, Fails}
use Rattle.ssh_rules.specs.Outcome.{Keepalive_timeout, Inactivity_timeout}
use Rattle.ssh_rules.specs.Run.{Turn, asks_for_keys}
use Rattle.ssh_rules.specs.Cause.{cause_of, IsCaused}
use Rattle.ssh_rules.specs.Valid.{IsFineAnswer, IsFineSo, AreFine, AreUnrefused, IsValid}
use Rattle.ssh_rules.specs.Valid.{IsComplete}
use Rattle.ssh_rules.specs.World.{World}
use Rattle.ssh_rules.proofs.Plans.Acting.{PlanComes, input_comes}
use Rattle.ssh_rules.proofs.Complete.Rows.{IsNoFault, kind_fine}

-- what a call that is fine was answered, and the calls after it
fine_answer : {E F : Type 0} (kind : InputKind) (question : Question) (answer : Answer question)
    (events : List (Event E F)) →
    AreFine kind (calls_in (answered question answer ∷ events)) → IsFineAnswer kind question answer
    × AreFine kind (calls_in events)
fine_answer kind ask.Banner answer events h = h
fine_answer {E} {F} kind (ask.Admits admission) answer events h =
    (subst (IsFineSo {E = E} kind) (admitted_back E admission (Ok answer)) h.0, h.1)
fine_answer kind (ask.Lends lent) commands events h = (tt, h.1)
fine_answer kind (ask.Judges judged) answer events h = (tt, h.1)
fine_answer kind (ask.Listens address port) answer events h = h
fine_answer kind (ask.Adjusts channel current) answer events h = (tt, h.1)
fine_answer kind (ask.Done place outcome) answer events h = (tt, h.1)
fine_answer kind ask.Begins answer events h = (tt, h)
fine_answer kind (ask.Steps payload) answer events h = (tt, h)

follows_fine : {E F : Type 0} (kind : InputKind) (plan : Plan Outcome) (events : List (Event E F))
    (fault : Fault) →
    PlanComes (IsFineAnswer kind) IsNoFault plan → AreFine kind (calls_in events)
    → Reaches plan events (Finish (Fails fault)) →
    fault ≡ Starved
follows_fine kind plan [] fault s fine h = subst (PlanComes (IsFineAnswer kind) IsNoFault) h s
follows_fine kind (Finish outcome) (event ∷ events) fault s fine h = absurd h
follows_fine kind (Ask question next) (event ∷ events) fault s fine h =
    let k = fine_answer kind question h.0 events (subst (λ e. AreFine kind (calls_in (e ∷ events)))
    h.1 fine) in
    follows_fine kind (next h.0) events fault (s h.0 k.0) k.1 h.2
follows_fine kind (Tell entry next) (event ∷ events) fault s fine h =
    follows_fine kind next events fault s (subst (λ e. AreFine kind (calls_in (e ∷ events))) h.0
    fine) h.1

-- a call that answered an error is not fine
error_not_fine : {E F : Type 0} (kind : InputKind) (question : Question) (e : E) (event : Event E F)
    → Refuses question (Handler_error e) event → AreFine kind (calls_in (event ∷ [])) → ⊥
error_not_fine {E} {F} kind ask.Banner e event is fine = let f =
    subst (λ x. AreFine {E = E} kind (calls_in (x ∷ []))) is fine in f.0
error_not_fine {E} {F} kind (ask.Admits admission) e event is fine =
    let f = subst (λ x. AreFine {E = E} kind (calls_in (x ∷ []))) is fine in
    let g : IsFineSo {E = E} kind (Admitted_so admission (Err e)) =
    subst (IsFineSo {E = E} kind) (admitted_back E admission (Err e)) f.0 in
    g
error_not_fine {E} {F} kind (ask.Lends lent) e event is fine =
    let f = subst (λ x. AreFine {E = E} kind (calls_in (x ∷ []))) is.1 fine in
    let g : IsFineSo {E = E} kind (Lent_so lent (Err e) is.0) =
    subst (IsFineSo {E = E} kind) (lent_back E lent (Err e) is.0) f.0 in
    g
error_not_fine {E} {F} kind (ask.Judges judged) e event is fine =
    let f = subst (λ x. AreFine {E = E} kind (calls_in (x ∷ []))) is.1 fine in
    let g : IsFineSo {E = E} kind (Judged_so judged (Err e) is.0) =
    subst (IsFineSo {E = E} kind) (judged_back E judged (Err e) is.0) f.0 in
    g
error_not_fine {E} {F} kind (ask.Listens address port) e event is fine =
    let f = subst (λ x. AreFine {E = E} kind (calls_in (x ∷ []))) is.2 fine in f.0
error_not_fine {E} {F} kind (ask.Adjusts channel current) e event is fine =
    let f = subst (λ x. AreFine {E = E} kind (calls_in (x ∷ []))) is fine in f.0
error_not_fine {E} {F} kind (ask.Done place outcome) e event is fine =
    let f = subst (λ x. AreFine {E = E} kind (calls_in (x ∷ []))) is fine in f.0
error_not_fine kind ask.Begins e event is fine = is
error_not_fine kind (ask.Steps payload) e event is fine = is

-- the calls behind others are fine
later_fine : {E F : Type 0} (kind : InputKind) (before : List (Event E F)) (last : Event E F) →
    AreFine kind (calls_in (before ++ last ∷ [])) → AreFine kind (calls_in (last ∷ []))
later_fine kind [] last fine = fine
later_fine kind (Called call ∷ before) last fine = later_fine kind before last fine.1
later_fine kind (Stepped step ∷ before) last fine = later_fine kind before last fine
later_fine kind (Told entry ∷ before) last fine = later_fine kind before last fine

-- where each call was fine, none answered an error
fine_not_broken : {E F : Type 0} (kind : InputKind) (plan : Plan Outcome)
    (events : List (Event E F))
    (e : E) →
    AreFine kind (calls_in events) → Breaks plan events (Handler_error e) → ⊥
fine_not_broken kind plan events e fine b =
    error_not_fine kind b.question e b.last b.refused
    (later_fine kind b.before b.last (subst (λ l. AreFine kind (calls_in l)) b.is fine))

-- where the exchange refused nothing, none of its answers was an error
refused_step : {E F : Type 0} (question : Question) (e : F) (event : Event E F) →
    Refuses question (Exchange_error e) event → AreUnrefused (steps_in (event ∷ [])) → ⊥
refused_step {E} {F} ask.Begins e event is fine =
    let f = subst (λ x. AreUnrefused (steps_in {E = E} {F = F} (x ∷ []))) is fine in
    absurd (let g = f.0 in cc)
refused_step {E} {F} (ask.Steps payload) e event is fine =
    let f = subst (λ x. AreUnrefused (steps_in {E = E} {F = F} (x ∷ []))) is fine in
    absurd (let g = f.0 in cc)
refused_step question e event is fine = absurd is

later_unrefused : {E F : Type 0} (before : List (Event E F)) (last : Event E F) →
    AreUnrefused (steps_in (before ++ last ∷ [])) → AreUnrefused (steps_in (last ∷ []))
later_unrefused [] last fine = fine
later_unrefused (Called call ∷ before) last fine = later_unrefused before last fine
later_unrefused (Stepped step ∷ before) last fine = later_unrefused before last fine.1
later_unrefused (Told entry ∷ before) last fine = later_unrefused before last fine

unrefused_not_broken : {E F : Type 0} (plan : Plan Outcome) (events : List (Event E F)) (e : F) →
    AreUnrefused (steps_in events) → Breaks plan events (Exchange_error e) → ⊥
unrefused_not_broken plan events e fine b =
    refused_step b.question e b.last b.refused
    (later_unrefused b.before b.last (subst (λ l. AreUnrefused (steps_in l)) b.is fine))

-- which errors a valid input may come to
fine_error : {E F : Type 0} (kind : InputKind) (plan : Plan Outcome) (events : List (Event E F))
    (rose : Type 0) (e : RunError E F) →
    (rose → ⊥) → PlanComes (IsFineAnswer kind) IsNoFault plan → AreFine kind (calls_in events) →
    AreUnrefused (steps_in events) → IsCaused (cause_of e) plan rose events → IsComplete (Err e)
fine_error kind plan events rose error.NoMemory none s fine unrefused h = tt
fine_error kind plan events rose error.LinkFault none s fine unrefused h = none h.0
fine_error kind plan events rose error.InputLimit none s fine unrefused h = tt
fine_error kind plan events rose (error.Encoding why) none s fine unrefused h =
    let k = follows_fine kind plan events (Encoding why) s fine h in cc
fine_error kind plan events rose error.Inconsistent none s fine unrefused h =
    let k = follows_fine kind plan events Inconsistent s fine h in cc
fine_error kind plan events rose (error.Key why) none s fine unrefused h =
    let k = follows_fine kind plan events (Key why) s fine h in cc
fine_error kind plan events rose error.UnsupportedAuthMethod none s fine unrefused h =
    let k = follows_fine kind plan events Unsupported s fine h in cc
fine_error kind plan events rose (error.Handler e) none s fine unrefused h = fine_not_broken kind
    plan events
    e fine h
fine_error kind plan events rose (error.Kex e) none s fine unrefused h =
    unrefused_not_broken plan events e unrefused h
fine_error kind plan events rose error.ChannelsFull none s fine unrefused h =
    let k = follows_fine kind plan events Channels_full s fine h in cc
fine_error kind plan events rose error.KeepaliveTimeout none s fine unrefused h =
    let k = follows_fine kind plan events Keepalive_timeout s fine h in cc
fine_error kind plan events rose error.InactivityTimeout none s fine unrefused h =
    let k = follows_fine kind plan events Inactivity_timeout s fine h in cc
fine_error kind plan events rose error.Pending none s fine unrefused h =
    let k = follows_fine kind plan events Pending s fine h in cc

closed_fine : {E F : Type 0} (accepts : Acceptance) (w : World) (count max : ℕ)
    (last : Option (Turn E F)) (rose : Type 0)
    (result : Result (Unit {0}) (RunError E F)) → (rose → ⊥) → IfSome last (IsValid accepts w) →
    Closes accepts w count max last rose result → IsComplete result
closed_fine accepts w count max last rose (Ok done) none v c = tt
closed_fine accepts w count max None rose (Err error.NoMemory) none v c = tt
closed_fine accepts w count max None rose (Err error.InputLimit) none v c = tt
closed_fine accepts w count max None rose (Err error.LinkFault) none v c = none c.0
closed_fine accepts w count max None rose (Err _) none v c = absurd c
closed_fine accepts w count max (Some turn) rose (Err e) none v c =
    let o = c.2 in
    fine_error turn.input.kind o.0 turn.events rose e none
    (rw o.1.2 (input_comes (IsFineAnswer turn.input.kind) IsNoFault
    (asks_for_keys turn.input.kind) o.1.0 (λ x. (λ y. (tt, tt), λ y. y, λ keys y. y))
    (kind_fine accepts w turn.input.moment turn.input.kind o.1.0 v.0 o.1.1))) v.1 v.2 o.2

not_rose : (before after : ℕ) → after ≡ before → Rose before after → ⊥
not_rose before after same rose = let lifted : Rose before before = subst (Rose before) same rose in
    omega (arith, lifted)

-- a run is complete
pub complete : {E F : Type 0} (accepts : Acceptance) (w : World) (count max : ℕ)
    (last : Option (Turn E F)) (faults faults_after : ℕ)
    (result : Result (Unit {0}) (RunError E F)) → Closes accepts w count max last
    (Rose faults faults_after) result →
    faults_after ≡ faults → IfSome last (IsValid accepts w) → IsComplete result
complete accepts w count max last faults faults_after result c same v =
    closed_fine accepts w count max last (Rose faults faults_after) result
    (λ rose. not_rose faults faults_after same rose) v c

-- a fault of the link is answered only where its count rose
pub link_fault : {E F : Type 0} (accepts : Acceptance) (w : World) (count max : ℕ)
    (last : Option (Turn E F)) (rose : Type 0) →
    Closes {E = E} {F = F} accepts w count max last rose (Err error.LinkFault) → rose
link_fault accepts w count max None rose c = c.0
link_fault accepts w count max (Some turn) rose c = c.2.2.0
