-- Commands, from what they do to what is told of them.
use Rattle.std.proofs.Common.{◌≡◌, ℕ, map, Result, Ok, Err, refl, sym, subst}
use Rattle.std.specs.Prelude.{option_to_list}
use Rattle.ssh_link.specs.declared.link.TraceEntry.TheVariants.{Noticed}
use Rattle.ssh_link.specs.declared.outcome.CommandOutcome.{CommandOutcome}
use Rattle.ssh_link.specs.declared.outcome.CommandOutcome.TheVariants.{Accepted, Opened, Refused}
use Rattle.ssh_auth.specs.declared.call.Call.TheVariants.{CommandDone}
use Rattle.ssh_auth.specs.declared.question.Question.TheVariants.{Done}
use Rattle.ssh_auth.specs.Plan.{Plan}
use Rattle.ssh_serving.specs.declared.commands.Done.{Done as Made}
use Rattle.ssh_rules.specs.declared.error.RunError.{RunError}
use Rattle.ssh_rules.specs.declared.error.RunError.TheVariants as error
use Rattle.ssh_serving.specs.declared.server.Server.{Server}
use Rattle.ssh_rules.specs.World.{World}
use Rattle.ssh_rules.specs.Heard.{Heard, IsCalled}
use Rattle.ssh_rules.specs.Outcome.{Outcome}
use Rattle.ssh_rules.specs.Effect.{Effect}
use Rattle.ssh_rules.specs.Acts.{done, tell_all, tell_done}
use Rattle.ssh_rules.specs.Cause.{Puts}
use Rattle.ssh_serving.specs.Serve.{Refines, Serves, HasEffect}
use Rattle.ssh_serving.proofs.Serving.{asked, asked_in_vain, served_both, starves}

told_done : {E F : Type 0} (place : ℕ) (outcome : CommandOutcome) (next : Plan Outcome)
    (a b : Heard E F) (w : World)
    (session : Server) → (outcome ≡ Accepted → ⊥) → Refines session w → Puts (Done place outcome) a
    b (Ok tt) →
    Serves (tell_done place outcome next) (λ (_ : Unit {0}) _. next) a b session (Ok tt)
told_done place Accepted next a b w session n r h = absurd (n refl)
told_done place (Opened channel) next a b w session n r h =
    asked (Done place (Opened channel)) tt (λ _. next) a b w session r h
told_done place (Refused why) next a b w session n r h =
    asked (Done place (Refused why)) tt (λ _. next) a b w session r h

told_in_vain : {E F : Type 0} (place : ℕ) (outcome : CommandOutcome) (next : Plan Outcome)
    (a b : Heard E F) (session : Server) (e : E) →
    (outcome ≡ Accepted → ⊥) → Puts (Done place outcome) a b (Err e) →
    Serves (tell_done place outcome next) (λ (_ : Unit {0}) _. next) a b session
    (Err (error.Handler e))
told_in_vain place Accepted next a b session e n h = absurd (n refl)
told_in_vain place (Opened channel) next a b session e n h =
    asked_in_vain {T = Unit {0}} (Done place (Opened channel)) (λ _. next) (λ _ _. next) a b session
    e h
told_in_vain place (Refused why) next a b session e n h =
    asked_in_vain {T = Unit {0}} (Done place (Refused why)) (λ _. next) (λ _ _. next) a b session e
    h

-- the handler was told what came of a command, or answered an error
pub told_so : {E F : Type 0} (place : ℕ) (outcome : CommandOutcome) (next : Plan Outcome)
    (a b : Heard E F) (w : World)
    (session : Server) → (outcome ≡ Accepted → ⊥) → Refines session w →
    IsCalled {T = Unit {0}} a b (Ok tt) (CommandDone place outcome (Ok tt)) →
    Serves (tell_done place outcome next) (λ (_ : Unit {0}) _. next) a b session (Ok tt)
told_so place outcome next a b w session n r h =
    told_done place outcome next a b w session n r (CommandDone place outcome (Ok tt), refl, h)

pub not_told_so : {E F : Type 0} (place : ℕ) (outcome : CommandOutcome) (next : Plan Outcome)
    (a b : Heard E F)
    (session : Server) (e : E) → (outcome ≡ Accepted → ⊥) →
    IsCalled {T = Unit {0}} a b (Err e) (CommandDone place outcome (Err e)) →
    Serves (tell_done place outcome next) (λ (_ : Unit {0}) _. next) a b session
    (Err (error.Handler e))
not_told_so place outcome next a b session e n h =
    told_in_vain place outcome next a b session e n (CommandDone place outcome (Err e), refl, h)

-- a command was done, its notice was given, and then the next
pub commanded : {T E F : Type 0} (does : Effect) (next : CommandOutcome → World → Plan Outcome)
    (finish : T → World → Plan Outcome)
    (made : Made) (a b c : Heard E F) (session session' : Server)
    (result : Result T (RunError E F)) →
    HasEffect {E = E} {F = F} does session (Ok made) →
    ((w : World) → Refines session w → (later : Plan Outcome) →
    Serves (tell_all (map Noticed (option_to_list made.notice)) later) (λ (_ : Unit {0}) _. later) a
    b session (Ok tt)) →
    ((w : World) → Refines session w → Serves (next made.outcome w) finish b c session' result) →
    Serves (done does next) finish a c session' result
commanded does next finish made a b c session session' result h g k =
    let then = next made.outcome h.0 in
    subst (λ d. Serves (done d next) finish a c session' result) (sym h.1)
    (served_both tt (tell_all (map Noticed (option_to_list made.notice)) then) (λ (_ : Unit {0}) _.
    then) finish a b c session
    session' result (g h.0 h.2 then) (λ _ _. k h.0 h.2))

-- .. or its notice was not
pub not_noticed : {T E F : Type 0} (does : Effect) (next : CommandOutcome → World → Plan Outcome)
    (finish : T → World → Plan Outcome)
    (made : Made) (a b : Heard E F) (session session' : Server) (e : RunError E F)
    → HasEffect {E = E} {F = F} does session (Ok made) →
    ((w : World) → Refines session w → (later : Plan Outcome) →
    Serves (tell_all (map Noticed (option_to_list made.notice)) later) (λ (_ : Unit {0}) _. later) a
    b session (Err e)) →
    Serves {T = T} (done does next) finish a b session' (Err e)
not_noticed {T} does next finish made a b session session' e h g =
    subst (λ d. Serves {T = T} (done d next) finish a b session' (Err e)) (sym h.1)
    (g h.0 h.2 (next made.outcome h.0))

-- .. or it was not done
pub not_done : {T E F : Type 0} (does : Effect) (next : CommandOutcome → World → Plan Outcome)
    (finish : T → World → Plan Outcome)
    (a : Heard E F) (session session' : Server) (e : RunError E F)
    → HasEffect {E = E} {F = F} does session
    (Err e) →
    Serves {T = T} (done does next) finish a a session' (Err e)
not_done does next finish a session session' error.NoMemory h = starves (done does next) finish a
    session'
not_done does next finish a session session' error.LinkFault h = absurd h
not_done does next finish a session session' error.InputLimit h = absurd h
not_done does next finish a session session' (error.Encoding why) h = absurd h
not_done does next finish a session session' error.Inconsistent h = absurd h
not_done does next finish a session session' (error.Key why) h = absurd h
not_done does next finish a session session' error.UnsupportedAuthMethod h = absurd h
not_done does next finish a session session' (error.Handler e) h = absurd h
not_done does next finish a session session' (error.Kex e) h = absurd h
not_done does next finish a session session' error.ChannelsFull h = absurd h
not_done does next finish a session session' error.KeepaliveTimeout h = absurd h
not_done does next finish a session session' error.InactivityTimeout h = absurd h
not_done does next finish a session session' error.Pending h = absurd h
