-- An exchange of keys ends in the exchange's own acts alone, and where it ended none runs any more
-- before the frames of its input are handed on (RFC 4253 section 7.3).
use Rattle.std.proofs.Common.{◌≡◌, ◌||◌, ◌+◌, ℕ, List, [], ◌∷◌, map, Bool, true, false}
use Rattle.std.proofs.Common.{refl, ◌∙◌, ap, subst, Option, None}
use Rattle.std.specs.Prelude.{bytes_eq, codes, if◌then◌else◌}
use Rattle.ssh_link.specs.declared.command.Command.{Command}
use Rattle.ssh_link.specs.declared.command.Command.TheVariants as command
use Rattle.ssh_link.specs.declared.frame.InputKind.{InputKind}
use Rattle.ssh_link.specs.declared.frame.InputKind.TheVariants as input
use Rattle.ssh_link.specs.declared.link.TraceEntry.{TraceEntry}
use Rattle.ssh_link.specs.declared.link.TraceEntry.TheVariants.{Noticed, Sent, Answered}
use Rattle.ssh_link.specs.declared.outcome.CommandOutcome.{CommandOutcome}
use Rattle.ssh_link.specs.declared.outcome.CommandOutcome.TheVariants.{Accepted, Opened, Refused}
use Rattle.ssh_auth.specs.declared.auth_request.AuthRequest.{AuthRequest}
use Rattle.ssh_auth.specs.declared.question.Question.{Question}
use Rattle.ssh_auth.specs.declared.question.Question.TheVariants as ask
use Rattle.ssh_auth.specs.Plan.{Plan, Finish, Ask, Tell, Answer, Event, Follows, after, answered}
use Rattle.ssh_auth.specs.Publickey.{Acceptance}
use Rattle.ssh_auth.specs.Verdict.{AuthOutcome, Replies, verdict as verdict_on, response_verdict}
use Rattle.ssh_auth.specs.Verdict as auth
use Rattle.ssh_rules.specs.declared.exchange.Passage.{Passage}
use Rattle.ssh_rules.specs.declared.exchange.Passage.TheVariants as passage
use Rattle.ssh_rules.specs.declared.state.EncryptedState.{EncryptedState}
use Rattle.ssh_rules.specs.declared.state.EncryptedState.TheVariants.{WaitingAuthRequest}
use Rattle.ssh_rules.specs.Acts.{Act, Notes, Calls, Judges_by, Listens_by, Adjusts_by, Turns}
use Rattle.ssh_rules.specs.Acts.{Is_over, Stops, Exchanges, Beginning, Stepping, tell_all}
use Rattle.ssh_rules.specs.Acts.{tell_done, done, done_all, acts, moved, payloads_given}
use Rattle.ssh_rules.specs.Acts.{frames_given, gives, steps_on}
use Rattle.ssh_rules.specs.Effect.{Effect, Brings, effect, effect_at}
use Rattle.ssh_rules.specs.Exchanged.{is_renewal, ends_exchange}
use Rattle.ssh_rules.specs.Outcome.{Outcome, Goes}
use Rattle.ssh_rules.specs.Reading.{Said, Service, Request, Response}
use Rattle.ssh_rules.specs.Rows.{row, owed, greets, is_short, replied, concluded, where_waiting}
use Rattle.ssh_rules.specs.Rows.{exchange_acts}
use Rattle.ssh_rules.specs.Run.{OwesKind, command_row}
use Rattle.ssh_rules.specs.Ticks.{keepalive_acts, is_too_many, one_more}
use Rattle.ssh_rules.specs.World.{World, hears, waits_for, ChannelRequest}
use Rattle.ssh_rules.proofs.Plans.Passing.{payload_so}
use Rattle.ssh_rules.proofs.Plans.Verdicts.{EndsSo, IsBeside, verdict_beside, response_beside}
use Rattle.ssh_rules.proofs.Exchanged.Rows.{AreUntouched, IsRunning, owed_untouched}
use Rattle.ssh_rules.proofs.Exchanged.Rows.{replied_untouched, greets_untouched}

-- the new keys are in use once this was answered
abbrev pub renews_by : (question : Question) → Answer question → Bool
renews_by (ask.Steps payload) step = step.done
renews_by question answer = false

-- whatever is answered, where an exchange ended in the plan, or before it, this holds of the world
-- that it goes on in
abbrev pub Renews : (holds : World → Type 0) → (ended : Bool) → Plan Outcome → Type 0
Renews holds ended (Finish (Goes w)) = ended ≡ true → holds w
Renews holds ended (Finish outcome) = Unit {0}
Renews holds ended (Ask question next) = (answer : Answer question)
    → Renews holds (renews_by question answer || ended) (next answer)
Renews holds ended (Tell entry next) = Renews holds ended next

-- ---- acts

pub tells_renew : (holds : World → Type 0) (ended : Bool) (entries : List TraceEntry)
    (next : Plan Outcome) → Renews holds ended next → Renews holds ended (tell_all entries next)
tells_renew holds ended [] next h = h
tells_renew holds ended (entry ∷ entries) next h = tells_renew holds ended entries next h

-- before the frames of an input are handed on none ended, or none runs then
abbrev pub RenewsIdle : Plan Outcome → Type 0
RenewsIdle plan = Renews (IsRunning false) false plan

unended : (w : World) → false ≡ true → IsRunning false w
unended w is = absurd (cc)

told_renews : (place : ℕ) (outcome : CommandOutcome) (next : Plan Outcome) → RenewsIdle next
    → RenewsIdle (tell_done place outcome next)
told_renews place Accepted next h = h
told_renews place (Opened channel) next h = λ _. h
told_renews place (Refused why) next h = λ _. h

one_renews : (does : Effect) (next : CommandOutcome → World → Plan Outcome)
    → ((outcome : CommandOutcome) (world : World) → RenewsIdle (next outcome world))
    → RenewsIdle (done does next)
one_renews (Brings notices outcome world) next h =
    tells_renew (IsRunning false) false (map Noticed notices) (next outcome world)
    (h outcome world)

all_renew : (at : Option ChannelRequest) (place : ℕ) (commands : List Command) (w : World)
    (next : World → Plan Outcome) → ((world : World) → RenewsIdle (next world))
    → RenewsIdle (done_all at place commands w next)
all_renew at place [] w next h = h w
all_renew at place (one ∷ commands) w next h =
    one_renews (effect_at at w one) (λ outcome world. tell_done place outcome
    (done_all at (place + 1) commands world next))
    (λ outcome world. told_renews place outcome (done_all at (place + 1) commands world next)
    (all_renew at (place + 1) commands world next h))

acts_renew : (now : List Act) (w : World) → AreUntouched now → RenewsIdle (acts now w)
acts_renew [] w a = unended w
acts_renew (Notes notice ∷ later) w a = acts_renew later w a
acts_renew (Calls at lent ∷ later) w a = λ commands.
    all_renew at 0 commands w (acts later) (λ v. acts_renew later v a)
acts_renew (Judges_by at judged by ∷ later) w a = λ answer.
    all_renew at 0 answer.commands w (λ v. acts later (by answer.granted v))
    (λ v. acts_renew later (by answer.granted v) a.1)
acts_renew (Listens_by address port by ∷ later) w a = λ answer.
    all_renew None 0 answer.commands w (λ v. acts later (by answer.granted answer.port v))
    (λ v. acts_renew later (by answer.granted answer.port v) a.1)
acts_renew (Adjusts_by channel current by ∷ later) w a = λ window.
    acts_renew later (by window w) a.1
acts_renew (Exchanges asked ∷ later) w a = absurd a
acts_renew (Turns by ∷ later) w a = acts_renew later (by w) a.1
acts_renew (Is_over ∷ later) w a = tt
acts_renew (Stops why ∷ later) w a = tt

-- ---- rows

verdict_renews : (plan : Plan AuthOutcome) (later : AuthOutcome → Plan Outcome)
    → EndsSo IsBeside plan → ((outcome : AuthOutcome) → RenewsIdle (later outcome))
    → RenewsIdle (after plan later)
verdict_renews (Finish outcome) later e h = h outcome
verdict_renews (Ask (ask.Admits admission) next) later e h = λ answer.
    verdict_renews (next answer) later (e.1 answer) h
verdict_renews (Ask other next) later e h = absurd e.0
verdict_renews (Tell entry next) later e h = absurd e

concluded_renews : (w : World) (moment : ℕ) (requested : Bool) (outcome : AuthOutcome)
    → RenewsIdle (concluded w moment requested outcome)
concluded_renews w moment requested (Replies reply v state) =
    let u = waits_for (WaitingAuthRequest state) w in
    acts_renew (replied u moment requested reply v) u (replied_untouched u moment requested reply v)
concluded_renews w moment requested (auth.Fails fault) = tt

asked_renews : (state : EncryptedState) (next : AuthRequest → Plan AuthOutcome) (w : World)
    (moment : ℕ) (requested : Bool) → ((auth : AuthRequest) → EndsSo IsBeside (next auth))
    → RenewsIdle (where_waiting state (λ auth. after (next auth) (concluded w moment requested))
    (acts [] w))
asked_renews (WaitingAuthRequest auth) next w moment requested e =
    verdict_renews (next auth) (concluded w moment requested) (e auth)
    (concluded_renews w moment requested)
asked_renews _ next w moment requested e = unended w

service_renews : (w : World) (b : Bool)
    → RenewsIdle (if b then Ask ask.Banner (λ message. acts (greets message) w) else acts [] w)
service_renews w true = λ message.
    acts_renew (greets message) w (greets_untouched message (is_short message) refl)
service_renews w false = unended w

row_renews : (w : World) (moment : ℕ) (said : Said) → RenewsIdle (row w moment said)
row_renews w moment (Service name) = service_renews w (bytes_eq name (codes "ssh-userauth"))
row_renews w moment (Request asked) =
    asked_renews w.user.state (λ auth. verdict_on auth asked) w moment true (verdict_beside asked)
row_renews w moment (Response responded) =
    asked_renews w.user.state (λ auth. response_verdict auth responded) w moment w.user.requested
    (response_beside responded)
row_renews w moment said = acts_renew (owed w said) w (owed_untouched w said)

command_renews : (w : World) (ticket : ℕ) (one : Command) → RenewsIdle (command_row w ticket one)
command_renews w ticket one =
    one_renews (effect w one) (λ outcome world. Tell (Answered ticket outcome)
    (Finish (Goes world))) (λ outcome world. unended world)

tick_renews : (w : World) (many : Bool)
    → is_too_many w.settings.config (one_more w.keepalives) ≡ many
    → RenewsIdle (acts (keepalive_acts w) w)
tick_renews w true is = rw is tt
tick_renews w false is = rw is (unended w)

-- ---- the exchange

step_renews : (payload : List ℕ) (done : Bool) (w : World) → (done || false) ≡ true
    → IsRunning false (steps_on payload done w)
step_renews payload true w is = refl
step_renews payload false w is = absurd (cc)

stepped_renews : (payload : List ℕ) (w : World)
    → RenewsIdle (acts (Exchanges (Stepping payload) ∷ []) w)
stepped_renews payload w = λ step.
    tells_renew (IsRunning false) (step.done || false)
    (map Sent (frames_given (payloads_given (Stepping payload) step)))
    (Finish (Goes (moved (Stepping payload) step w)))
    (step_renews payload step.done (gives (frames_given step.frames) w))

exchange_renews : (payload : List ℕ) (at : Passage) (w : World)
    → RenewsIdle (acts (exchange_acts payload at) w)
exchange_renews payload passage.Begins w = λ answer.
    let v = moved Beginning answer w in
    tells_renew (IsRunning false) false
    (map Sent (frames_given (payloads_given Beginning answer)))
    (acts (Exchanges (Stepping payload) ∷ []) v) (stepped_renews payload v)
exchange_renews payload passage.Steps w = stepped_renews payload w
exchange_renews payload passage.Barred w = tt
exchange_renews payload passage.Late w = tt
exchange_renews payload passage.Passes w = unended w

-- ---- inputs

pub kind_renews : (accepts : Acceptance) (w : World) (moment : ℕ) (kind : InputKind)
    (plan : Plan Outcome) → OwesKind accepts w moment kind plan → RenewsIdle plan
kind_renews accepts w moment input.End plan o = rw o tt
kind_renews accepts w moment (input.Payload payload) plan o =
    let v = hears payload w in
    payload_so accepts v moment payload plan RenewsIdle o (λ said says. row_renews v moment said)
    (λ at. exchange_renews payload at v)
kind_renews accepts w moment (input.Command ticket one) plan o = rw o (command_renews w ticket one)
kind_renews accepts w moment (input.OpenReply ticket answer) plan o =
    rw o (command_renews w ticket (command.Answer answer))
kind_renews accepts w moment input.KeepaliveTick plan o =
    rw o (tick_renews w (is_too_many w.settings.config (one_more w.keepalives)) refl)
kind_renews accepts w moment input.InactivityTick plan o = rw o tt
kind_renews accepts w moment input.RekeyTick plan o = rw o (unended w)

-- ---- events

answered_renews : (E F : Type 0) (question : Question) (answer : Answer question)
    → is_renewal (answered {E = E} {F = F} question answer) ≡ renews_by question answer
answered_renews E F ask.Banner answer = refl
answered_renews E F (ask.Admits admission) answer = refl
answered_renews E F (ask.Lends lent) answer = refl
answered_renews E F (ask.Judges judged) answer = refl
answered_renews E F (ask.Listens address port) answer = refl
answered_renews E F (ask.Adjusts channel current) answer = refl
answered_renews E F (ask.Done place outcome) answer = refl
answered_renews E F ask.Begins answer = refl
answered_renews E F (ask.Steps payload) answer = refl

moved_last : (a b c : Bool) → ((a || b) || c) ≡ true → (b || (a || c)) ≡ true
moved_last true true c h = refl
moved_last true false c h = refl
moved_last false b c h = h

-- where one ended in these events, it holds of the world that was come to
pub follows_renew : {E F : Type 0} (holds : World → Type 0) (ended : Bool) (plan : Plan Outcome)
    (events : List (Event E F)) (mid : World) → Renews holds ended plan
    → Follows plan events (Goes mid) → (ends_exchange events || ended) ≡ true → holds mid
follows_renew holds ended plan [] mid h f is = subst (Renews holds ended) f h is
follows_renew holds ended (Finish other) (event ∷ events) mid h f is = absurd f
follows_renew {E} {F} holds ended (Ask question next) (event ∷ events) mid h f is =
    let by = renews_by question f.0 in
    let same : is_renewal event ≡ by = ap is_renewal f.1 ∙ answered_renews E F question f.0 in
    follows_renew holds (by || ended) (next f.0) events mid (h f.0) f.2
    (moved_last by (ends_exchange events) ended
    (subst (λ b. ((b || ends_exchange events) || ended) ≡ true) same is))
follows_renew {E} {F} holds ended (Tell entry next) (event ∷ events) mid h f is =
    follows_renew holds ended next events mid h f.1
    (subst (λ e. (ends_exchange {E = E} {F = F} (e ∷ events) || ended) ≡ true) f.0 is)
