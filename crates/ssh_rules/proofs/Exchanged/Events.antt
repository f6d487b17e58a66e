-- By what happens in an input an exchange of keys runs, or none, as the world says.
use Rattle.std.proofs.Common.{◌≡◌, ◌==◌, ◌&&◌, ◌+◌, ℕ, List, [], ◌∷◌, map, Bool, true}
use Rattle.std.proofs.Common.{false, not, refl, sym, ◌∙◌, subst, Option, None}
use Rattle.std.specs.Prelude.{bytes_eq, codes, if◌then◌else◌}
use Rattle.ssh_link.specs.declared.command.Command.{Command}
use Rattle.ssh_link.specs.declared.command.Command.TheVariants as command
use Rattle.ssh_link.specs.declared.frame.InputKind.{InputKind}
use Rattle.ssh_link.specs.declared.frame.InputKind.TheVariants as input
use Rattle.ssh_link.specs.declared.link.TraceEntry.{TraceEntry}
use Rattle.ssh_link.specs.declared.link.TraceEntry.TheVariants.{Noticed, Sent, Answered}
use Rattle.ssh_link.specs.declared.outcome.CommandOutcome.{CommandOutcome}
use Rattle.ssh_link.specs.declared.outcome.CommandOutcome.TheVariants.{Accepted, Opened, Refused}
use Rattle.ssh_auth.specs.declared.auth_request.AuthRequest.{AuthRequest}
use Rattle.ssh_auth.specs.declared.question.Question.{Question}
use Rattle.ssh_auth.specs.declared.question.Question.TheVariants as ask
use Rattle.ssh_auth.specs.Plan.{Plan, Finish, Ask, Tell, Answer, after}
use Rattle.ssh_auth.specs.Publickey.{Acceptance}
use Rattle.ssh_auth.specs.Verdict.{AuthOutcome, Replies, verdict as verdict_on, response_verdict}
use Rattle.ssh_auth.specs.Verdict as auth
use Rattle.ssh_rules.specs.declared.exchange.ExchangeState.{ExchangeState}
use Rattle.ssh_rules.specs.declared.exchange.ExchangeState.TheVariants.{Idle, Own, Both}
use Rattle.ssh_rules.specs.declared.exchange.Passage.{Passage}
use Rattle.ssh_rules.specs.declared.exchange.Passage.TheVariants.{Begins, Steps, Barred, Late}
use Rattle.ssh_rules.specs.declared.exchange.Passage.TheVariants.{Passes}
use Rattle.ssh_rules.specs.declared.state.EncryptedState.{EncryptedState}
use Rattle.ssh_rules.specs.declared.state.EncryptedState.TheVariants.{WaitingAuthRequest}
use Rattle.ssh_rules.specs.Acts.{Act, Notes, Calls, Judges_by, Listens_by, Adjusts_by, Turns}
use Rattle.ssh_rules.specs.Acts.{Is_over, Stops, Exchanges, Beginning, Stepping, tell_all}
use Rattle.ssh_rules.specs.Acts.{tell_done, done, done_all, acts, moved, payloads_given}
use Rattle.ssh_rules.specs.Acts.{frames_given, gives, steps_on}
use Rattle.ssh_rules.specs.Effect.{Effect, Brings, effect, effect_at}
use Rattle.ssh_rules.specs.Exchange.{is_running, joined, early_with, passage_of}
use Rattle.ssh_rules.specs.Outcome.{Outcome, Goes, Ends, Fails}
use Rattle.ssh_rules.specs.Reading.{Said, Service, Request, Response}
use Rattle.ssh_rules.specs.Rows.{row, owed, greets, is_short, replied, concluded, where_waiting}
use Rattle.ssh_rules.specs.Rows.{exchange_acts}
use Rattle.ssh_rules.specs.Run.{OwesKind, OwesPassed, command_row, passage}
use Rattle.ssh_rules.specs.Ticks.{keepalive_acts, is_too_many, one_more}
use Rattle.ssh_rules.specs.World.{World, hears, waits_for, ChannelRequest}
use Rattle.ssh_rules.proofs.Plans.Acting.{EffectComes}
use Rattle.ssh_rules.proofs.Plans.Verdicts.{EndsSo, IsBeside, verdict_beside, response_beside}
use Rattle.ssh_rules.proofs.Exchanged.Rows.{AreUntouched, IsRunning, same_runs, effect_runs}
use Rattle.ssh_rules.proofs.Exchanged.Rows.{owed_untouched, replied_untouched, greets_untouched}

-- an exchange runs once this was answered
abbrev pub runs_then : (question : Question) → Answer question → (running : Bool) → Bool
runs_then ask.Begins payload running = true
runs_then (ask.Steps payload) step running = running && not step.done
runs_then question answer running = running

-- whatever is answered, one runs in the world that the plan comes to as the answers say
abbrev pub Runs : (running : Bool) → Plan Outcome → Type 0
Runs running (Finish (Goes w)) = IsRunning running w
Runs running (Finish (Ends w)) = IsRunning running w
Runs running (Finish (Fails why)) = Unit {0}
Runs running (Ask question next) = (answer : Answer question)
    → Runs (runs_then question answer running) (next answer)
Runs running (Tell entry next) = Runs running next

-- ---- acts

pub tells_run : (running : Bool) (entries : List TraceEntry) (next : Plan Outcome) →
    Runs running next → Runs running (tell_all entries next)
tells_run running [] next h = h
tells_run running (entry ∷ entries) next h = tells_run running entries next h

told_runs : (running : Bool) (place : ℕ) (outcome : CommandOutcome) (next : Plan Outcome) →
    Runs running next → Runs running (tell_done place outcome next)
told_runs running place Accepted next h = h
told_runs running place (Opened channel) next h = λ _. h
told_runs running place (Refused why) next h = λ _. h

one_runs : (running : Bool) (does : Effect) (next : CommandOutcome → World → Plan Outcome) →
    EffectComes (IsRunning running) does →
    ((outcome : CommandOutcome) (world : World) → IsRunning running world
    → Runs running (next outcome world)) → Runs running (done does next)
one_runs running (Brings notices outcome world) next k h =
    tells_run running (map Noticed notices) (next outcome world) (h outcome world k)

all_run : (at : Option ChannelRequest) (running : Bool) (place : ℕ) (commands : List Command)
    (w : World)
    (next : World → Plan Outcome) → IsRunning running w →
    ((world : World) → IsRunning running world → Runs running (next world)) →
    Runs running (done_all at place commands w next)
all_run at running place [] w next h k = k w h
all_run at running place (one ∷ commands) w next h k =
    one_runs running (effect_at at w one) (λ outcome world. tell_done place outcome
    (done_all at (place + 1) commands world next)) (effect_runs at running w one h)
    (λ outcome world r. told_runs running place outcome
    (done_all at (place + 1) commands world next)
    (all_run at running (place + 1) commands world next r k))

pub acts_run : (running : Bool) (now : List Act) (w : World) → AreUntouched now →
    IsRunning running w → Runs running (acts now w)
acts_run running [] w a h = h
acts_run running (Notes notice ∷ later) w a h = acts_run running later w a h
acts_run running (Calls at lent ∷ later) w a h = λ commands.
    all_run at running 0 commands w (acts later) h (λ v k. acts_run running later v a k)
acts_run running (Judges_by at judged by ∷ later) w a h = λ answer.
    all_run at running 0 answer.commands w (λ v. acts later (by answer.granted v)) h
    (λ v k. acts_run running later (by answer.granted v) a.1
    (same_runs running v (by answer.granted v) (a.0 answer.granted v) k))
acts_run running (Listens_by address port by ∷ later) w a h = λ answer.
    all_run None running 0 answer.commands w (λ v. acts later (by answer.granted answer.port v)) h
    (λ v k. acts_run running later (by answer.granted answer.port v) a.1
    (same_runs running v (by answer.granted answer.port v) (a.0 answer.granted answer.port v) k))
acts_run running (Adjusts_by channel current by ∷ later) w a h = λ window.
    acts_run running later (by window w) a.1 (same_runs running w (by window w) (a.0 window w) h)
acts_run running (Exchanges asked ∷ later) w a h = absurd a
acts_run running (Turns by ∷ later) w a h =
    acts_run running later (by w) a.1 (same_runs running w (by w) (a.0 w) h)
acts_run running (Is_over ∷ later) w a h = h
acts_run running (Stops why ∷ later) w a h = tt

-- ---- rows

verdict_runs : (running : Bool) (plan : Plan AuthOutcome) (later : AuthOutcome → Plan Outcome) →
    EndsSo IsBeside plan → ((outcome : AuthOutcome) → Runs running (later outcome)) →
    Runs running (after plan later)
verdict_runs running (Finish outcome) later e h = h outcome
verdict_runs running (Ask (ask.Admits admission) next) later e h = λ answer.
    verdict_runs running (next answer) later (e.1 answer) h
verdict_runs running (Ask other next) later e h = absurd e.0
verdict_runs running (Tell entry next) later e h = absurd e

concluded_run : (running : Bool) (w : World) (moment : ℕ) (requested : Bool)
    (outcome : AuthOutcome) → IsRunning running w →
    Runs running (concluded w moment requested outcome)
concluded_run running w moment requested (Replies reply v state) h =
    let u = waits_for (WaitingAuthRequest state) w in
    acts_run running (replied u moment requested reply v) u
    (replied_untouched u moment requested reply v) h
concluded_run running w moment requested (auth.Fails fault) h = tt

asked_run : (running : Bool) (state : EncryptedState) (next : AuthRequest → Plan AuthOutcome)
    (w : World) (moment : ℕ) (requested : Bool) →
    ((auth : AuthRequest) → EndsSo IsBeside (next auth)) → IsRunning running w →
    Runs running (where_waiting state (λ auth. after (next auth) (concluded w moment requested))
    (acts [] w))
asked_run running (WaitingAuthRequest auth) next w moment requested e h =
    verdict_runs running (next auth) (concluded w moment requested) (e auth)
    (λ outcome. concluded_run running w moment requested outcome h)
asked_run running _ next w moment requested e h = h

service_run : (running : Bool) (w : World) (b : Bool) → IsRunning running w → Runs running
    (if b then Ask ask.Banner (λ message. acts (greets message) w) else acts [] w)
service_run running w true h = λ message.
    acts_run running (greets message) w (greets_untouched message (is_short message) refl) h
service_run running w false h = h

row_runs : (running : Bool) (w : World) (moment : ℕ) (said : Said) → IsRunning running w →
    Runs running (row w moment said)
row_runs running w moment (Service name) h =
    service_run running w (bytes_eq name (codes "ssh-userauth")) h
row_runs running w moment (Request asked) h =
    asked_run running w.user.state (λ auth. verdict_on auth asked) w moment true
    (verdict_beside asked) h
row_runs running w moment (Response responded) h =
    asked_run running w.user.state (λ auth. response_verdict auth responded) w moment
    w.user.requested (response_beside responded) h
row_runs running w moment said h = acts_run running (owed w said) w (owed_untouched w said) h

command_runs : (running : Bool) (w : World) (ticket : ℕ) (one : Command) → IsRunning running w →
    Runs running (command_row w ticket one)
command_runs running w ticket one h =
    one_runs running (effect w one) (λ outcome world. Tell (Answered ticket outcome)
    (Finish (Goes world))) (effect_runs None running w one h) (λ outcome world k. k)

tick_step : (running : Bool) (w : World) (many : Bool) →
    is_too_many w.settings.config (one_more w.keepalives) ≡ many → IsRunning running w →
    Runs running (acts (keepalive_acts w) w)
tick_step running w true is h = rw is tt
tick_step running w false is h = rw is h

-- ---- the exchange

joined_step : (b : Bool) (exchange : ExchangeState) → is_running exchange ≡ true →
    is_running (if b then Both else exchange) ≡ true
joined_step true exchange h = refl
joined_step false exchange h = h

joined_on : (payload : List ℕ) (exchange : ExchangeState) → is_running exchange ≡ true →
    is_running (joined payload exchange) ≡ true
joined_on [] exchange h = h
joined_on (number ∷ fields) exchange h = joined_step (number == 20) exchange h

-- it goes on until a step is done
step_runs : (payload : List ℕ) (done : Bool) (w : World) → IsRunning true w →
    IsRunning (true && not done) (steps_on payload done w)
step_runs payload true w h = refl
step_runs payload false w h = joined_on payload w.keys.exchange h

stepped_runs : (payload : List ℕ) (w : World) → IsRunning true w →
    Runs true (acts (Exchanges (Stepping payload) ∷ []) w)
stepped_runs payload w h = λ step.
    tells_run (true && not step.done)
    (map Sent (frames_given (payloads_given (Stepping payload) step)))
    (Finish (Goes (moved (Stepping payload) step w)))
    (step_runs payload step.done (gives (frames_given step.frames) w) h)

exchange_runs : (running : Bool) (payload : List ℕ) (at : Passage) (w : World) →
    (at ≡ Steps → IsRunning true w) → IsRunning running w →
    Runs running (acts (exchange_acts payload at) w)
exchange_runs running payload Begins w steps h = λ answer.
    let v = moved Beginning answer w in
    tells_run true (map Sent (frames_given (payloads_given Beginning answer)))
    (acts (Exchanges (Stepping payload) ∷ []) v) (stepped_runs payload v refl)
exchange_runs running payload Steps w steps h =
    subst (λ b. Runs b (acts (Exchanges (Stepping payload) ∷ []) w)) (sym (steps refl) ∙ h)
    (stepped_runs payload w (steps refl))
exchange_runs running payload Barred w steps h = tt
exchange_runs running payload Late w steps h = tt
exchange_runs running payload Passes w steps h = h

-- a payload is a step only where one runs
idle_step : (b : Bool) → (if b then Begins else Passes) ≡ Steps → ⊥
idle_step true is = absurd (cc)
idle_step false is = absurd (cc)

steps_in_one : (exchange : ExchangeState) (window : ℕ) (payload : List ℕ) →
    passage_of exchange window payload ≡ Steps → is_running exchange ≡ true
steps_in_one exchange window [] is = absurd (cc)
steps_in_one Idle window (number ∷ fields) is = absurd (idle_step (number == 20) is)
steps_in_one (Own early) window (number ∷ fields) is = refl
steps_in_one Both window (number ∷ fields) is = refl

-- ---- inputs

passed_runs : (running : Bool) (accepts : Acceptance) (w : World) (moment : ℕ)
    (payload : List ℕ) (plan : Plan Outcome) (at : Passage) → passage w payload ≡ at →
    OwesPassed at accepts w moment payload plan → IsRunning running w → Runs running plan
passed_runs running accepts w moment payload plan Passes is o h =
    rw o.2 (row_runs running w moment o.0 h)
passed_runs running accepts w moment payload plan Begins is o h =
    rw o (exchange_runs running payload Begins w (λ e. absurd (cc)) h)
passed_runs running accepts w moment payload plan Steps is o h =
    rw o (exchange_runs running payload Steps w
    (λ e. steps_in_one w.keys.exchange w.settings.config.window_size payload is) h)
passed_runs running accepts w moment payload plan Barred is o h = rw o tt
passed_runs running accepts w moment payload plan Late is o h = rw o tt

-- the bytes that come are counted, and an exchange that runs goes on
pub early_same : (payload : List ℕ) (exchange : ExchangeState) →
    is_running (early_with payload exchange) ≡ is_running exchange
early_same payload Idle = refl
early_same payload (Own early) = refl
early_same payload Both = refl

pub kind_runs : (running : Bool) (accepts : Acceptance) (w : World) (moment : ℕ)
    (kind : InputKind) (plan : Plan Outcome) → OwesKind accepts w moment kind plan →
    IsRunning running w → Runs running plan
kind_runs running accepts w moment input.End plan o h = rw o h
kind_runs running accepts w moment (input.Payload payload) plan o h =
    let v = hears payload w in
    passed_runs running accepts v moment payload plan (passage v payload) refl o
    (early_same payload w.keys.exchange ∙ h)
kind_runs running accepts w moment (input.Command ticket one) plan o h =
    rw o (command_runs running w ticket one h)
kind_runs running accepts w moment (input.OpenReply ticket answer) plan o h =
    rw o (command_runs running w ticket (command.Answer answer) h)
kind_runs running accepts w moment input.KeepaliveTick plan o h =
    rw o (tick_step running w (is_too_many w.settings.config (one_more w.keepalives)) refl h)
kind_runs running accepts w moment input.InactivityTick plan o h = rw o tt
kind_runs running accepts w moment input.RekeyTick plan o h = rw o h
