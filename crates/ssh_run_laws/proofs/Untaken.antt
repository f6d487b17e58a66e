-- The link is told of no input in the midst of one.
use Rattle.std.proofs.Common.{◌≡◌, ◌+◌, ℕ, List, [], ◌∷◌, map, Bool, true, false, cond, Option}
use Rattle.std.proofs.Common.{None, sym, subst}
use Rattle.std.specs.Prelude.{bytes_eq, codes, if◌then◌else◌}
use Rattle.ssh_link.specs.Frames.{Frame}
use Rattle.ssh_link.specs.declared.command.Command.{Command}
use Rattle.ssh_link.specs.declared.command.Command.TheVariants as command
use Rattle.ssh_link.specs.declared.frame.Input.{Input}
use Rattle.ssh_link.specs.declared.frame.InputKind.{InputKind}
use Rattle.ssh_link.specs.declared.frame.InputKind.TheVariants as input
use Rattle.ssh_link.specs.declared.link.TraceEntry.{TraceEntry}
use Rattle.ssh_link.specs.declared.link.TraceEntry.TheVariants.{Took, Sent, Noticed, Answered}
use Rattle.ssh_link.specs.declared.notice.Notice.{Notice}
use Rattle.ssh_link.specs.declared.outcome.CommandOutcome.{CommandOutcome}
use Rattle.ssh_link.specs.declared.outcome.CommandOutcome.TheVariants.{Accepted, Opened, Refused}
use Rattle.ssh_auth.specs.declared.auth_request.AuthRequest.{AuthRequest}
use Rattle.ssh_auth.specs.declared.question.Question.TheVariants.{Banner}
use Rattle.ssh_auth.specs.Plan.{Plan, Finish, Ask, Tell, Answer, Event}
use Rattle.ssh_auth.specs.Plan.{Called, Stepped, Told, Follows, after, told_in}
use Rattle.ssh_auth.specs.Publickey.{Acceptance}
use Rattle.ssh_auth.specs.Verdict.{AuthOutcome, Replies, verdict as verdict_on, response_verdict}
use Rattle.ssh_auth.specs.Verdict as auth
use Rattle.ssh_rules.specs.declared.state.EncryptedState.{EncryptedState}
use Rattle.ssh_rules.specs.declared.state.EncryptedState.TheVariants.{WaitingAuthRequest}
use Rattle.ssh_rules.specs.Acts.{Act, Notes, Calls, Judges_by, Listens_by, Adjusts_by, Turns}
use Rattle.ssh_rules.specs.Acts.{Is_over, Stops, Exchanges}
use Rattle.ssh_rules.specs.Acts.{acts, done, done_all, frames_given}
use Rattle.ssh_rules.specs.Acts.{moved, payloads_given, tell_all, tell_done}
use Rattle.ssh_rules.specs.Effect.{Brings, Effect, effect, effect_at}
use Rattle.ssh_rules.specs.Outcome.{Outcome, Goes, Ends, Fails}
use Rattle.ssh_rules.specs.Reading.{Said, Service, Request, Response}
use Rattle.ssh_rules.specs.Rows.{where_waiting, concluded, exchange_acts, greets, owed}
use Rattle.ssh_rules.specs.Rows.{replied, row}
use Rattle.ssh_rules.specs.Run.{Owes, OwesKind, asks_for_keys, begins, command_row, finish_input}
use Rattle.ssh_rules.specs.Run.{going_out, goes_unless_ended, handed_on, is_due}
use Rattle.ssh_rules.specs.Ticks.{keepalive_acts}
use Rattle.ssh_rules.specs.declared.request.ChannelRequest.{ChannelRequest}
use Rattle.ssh_rules.specs.World.{World, hears, waits_for}
use Rattle.ssh_rules.proofs.Ledger.Inputs.{never_told}
use Rattle.ssh_rules.proofs.Plans.Passing.{payload_so}
use Rattle.ssh_rules.proofs.Plans.Verdicts.{EndsSo, IsBeside, verdict_beside, response_beside}

abbrev pub IsUntaken : TraceEntry → Type 0
IsUntaken (Took commands replies taken) = ⊥
IsUntaken _ = Unit {0}

abbrev pub AllUntaken : List TraceEntry → Type 0
AllUntaken [] = Unit {0}
AllUntaken (entry ∷ entries) = IsUntaken entry × AllUntaken entries

-- the plan tells of no input that is taken
abbrev TakesNone : {A : Type 0} → Plan A → Type 0
TakesNone (Finish outcome) = Unit {0}
TakesNone (Ask question next) = (answer : Answer question) → TakesNone (next answer)
TakesNone (Tell entry next) = IsUntaken entry × TakesNone next

frames_none : (frames : List Frame) (next : Plan Outcome) → TakesNone next
    → TakesNone (tell_all (map Sent frames) next)
frames_none [] next h = h
frames_none (frame ∷ frames) next h = (tt, frames_none frames next h)

notices_none : (notices : List Notice) (next : Plan Outcome) → TakesNone next
    → TakesNone (tell_all (map Noticed notices) next)
notices_none [] next h = h
notices_none (notice ∷ notices) next h = (tt, notices_none notices next h)

told_none : (place : ℕ) (came : CommandOutcome) (next : Plan Outcome) → TakesNone next
    → TakesNone (tell_done place came next)
told_none place Accepted next h = h
told_none place (Opened channel) next h = λ _. h
told_none place (Refused why) next h = λ _. h

one_none : (does : Effect) (next : CommandOutcome → World → Plan Outcome)
    → ((came : CommandOutcome) (v : World) → TakesNone (next came v)) → TakesNone (done does next)
one_none (Brings notices came v) next h = notices_none notices (next came v) (h came v)

all_none : (at : Option ChannelRequest) (place : ℕ) (commands : List Command) (w : World)
    (next : World → Plan Outcome) → ((v : World) → TakesNone (next v))
    → TakesNone (done_all at place commands w next)
all_none at place [] w next h = h w
all_none at place (one ∷ commands) w next h =
    one_none (effect_at at w one) (λ came v. tell_done place came
    (done_all at (place + 1) commands v next))
    (λ came v. told_none place came (done_all at (place + 1) commands v next)
    (all_none at (place + 1) commands v next h))

acts_none : (now : List Act) (w : World) → TakesNone (acts now w)
acts_none [] w = tt
acts_none (Notes notice ∷ later) w = (tt, acts_none later w)
acts_none (Calls at lent ∷ later) w = λ commands.
    all_none at 0 commands w (acts later) (λ v. acts_none later v)
acts_none (Judges_by at judged by ∷ later) w = λ answer.
    all_none at 0 answer.commands w (λ v. acts later (by answer.granted v))
    (λ v. acts_none later (by answer.granted v))
acts_none (Listens_by address port by ∷ later) w = λ answer.
    all_none None 0 answer.commands w (λ v. acts later (by answer.granted answer.port v))
    (λ v. acts_none later (by answer.granted answer.port v))
acts_none (Adjusts_by channel current by ∷ later) w = λ window. acts_none later (by window w)
acts_none (Exchanges asked ∷ later) w = λ answer.
    frames_none (frames_given (payloads_given asked answer)) (acts later (moved asked answer w))
    (acts_none later (moved asked answer w))
acts_none (Turns by ∷ later) w = acts_none later (by w)
acts_none (Is_over ∷ later) w = tt
acts_none (Stops why ∷ later) w = tt

-- ---- rows

verdict_none : (plan : Plan AuthOutcome) (later : AuthOutcome → Plan Outcome)
    → EndsSo IsBeside plan → ((o : AuthOutcome) → TakesNone (later o))
    → TakesNone (after plan later)
verdict_none (Finish o) later e h = h o
verdict_none (Ask question next) later e h = λ answer. verdict_none (next answer) later (e.1 answer)
    h
verdict_none (Tell entry next) later e h = absurd e

concluded_none : (w : World) (moment : ℕ) (requested : Bool) (o : AuthOutcome)
    → TakesNone (concluded w moment requested o)
concluded_none w moment requested (Replies reply v state) =
    let u = waits_for (WaitingAuthRequest state) w in
    acts_none (replied u moment requested reply v) u
concluded_none w moment requested (auth.Fails fault) = tt

asked_none : (state : EncryptedState) (next : AuthRequest → Plan AuthOutcome) (w : World)
    (moment : ℕ) (requested : Bool) → ((auth : AuthRequest) → EndsSo IsBeside (next auth))
    → TakesNone (where_waiting state (λ auth. after (next auth) (concluded w moment requested))
    (acts [] w))
asked_none (WaitingAuthRequest auth) next w moment requested e =
    verdict_none (next auth) (concluded w moment requested) (e auth)
    (λ o. concluded_none w moment requested o)
asked_none _ next w moment requested e = tt

service_none : (w : World) (b : Bool)
    → TakesNone (if b then Ask Banner (λ message. acts (greets message) w) else acts [] w)
service_none w true = λ message. acts_none (greets message) w
service_none w false = tt

row_none : (w : World) (moment : ℕ) (said : Said) → TakesNone (row w moment said)
row_none w moment (Service name) = service_none w (bytes_eq name (codes "ssh-userauth"))
row_none w moment (Request asked) =
    asked_none w.user.state (λ auth. verdict_on auth asked) w moment true (verdict_beside asked)
row_none w moment (Response responded) =
    asked_none w.user.state (λ auth. response_verdict auth responded) w moment w.user.requested
    (response_beside responded)
row_none w moment said = acts_none (owed w said) w

command_none : (w : World) (ticket : ℕ) (one : Command) → TakesNone (command_row w ticket one)
command_none w ticket one =
    one_none (effect w one) (λ came v. Tell (Answered ticket came) (Finish (Goes v)))
    (λ came v. (tt, tt))

kind_none : (accepts : Acceptance) (w : World) (moment : ℕ) (kind : InputKind)
    (plan : Plan Outcome) → OwesKind accepts w moment kind plan → TakesNone plan
kind_none accepts w moment input.End plan o = rw o tt
kind_none accepts w moment (input.Payload payload) plan o =
    let v = hears payload w in
    payload_so accepts v moment payload plan TakesNone o (λ said says. row_none v moment said)
    (λ at. acts_none (exchange_acts payload at) v)
kind_none accepts w moment (input.Command ticket one) plan o = rw o (command_none w ticket one)
kind_none accepts w moment (input.OpenReply ticket answer) plan o =
    rw o (command_none w ticket (command.Answer answer))
kind_none accepts w moment input.KeepaliveTick plan o = rw o (acts_none (keepalive_acts w) w)
kind_none accepts w moment input.InactivityTick plan o = rw o tt
kind_none accepts w moment input.RekeyTick plan o = rw o tt

-- ---- the end of an input

ended_none : (w : World) (ended due : Bool)
    → TakesNone (cond ended (Finish (Ends w)) (acts (begins due) w))
ended_none w true due = tt
ended_none w false due = acts_none (begins due) w

finish_none : (ticked : Bool) (outcome : Outcome) → TakesNone (finish_input ticked outcome)
finish_none ticked (Goes w) =
    let v = handed_on w in
    frames_none (going_out w) (goes_unless_ended ticked v)
    (ended_none v v.disconnected (is_due ticked v))
finish_none ticked (Ends w) = frames_none (going_out w) (Finish (Ends (handed_on w))) tt
finish_none ticked (Fails why) = tt

input_none : (ticked : Bool) (plan : Plan Outcome) → TakesNone plan
    → TakesNone (after plan (finish_input ticked))
input_none ticked (Finish outcome) h = finish_none ticked outcome
input_none ticked (Ask question next) h = λ answer. input_none ticked (next answer) (h answer)
input_none ticked (Tell entry next) h = (h.0, input_none ticked next h.1)

-- ---- events

follows_none : {E F : Type 0} (plan : Plan Outcome) (events : List (Event E F)) (outcome : Outcome)
    → TakesNone plan → Follows plan events outcome → AllUntaken (told_in events)
follows_none plan [] outcome h f = tt
follows_none (Finish other) (event ∷ events) outcome h f = absurd f
follows_none (Ask question next) (Called call ∷ events) outcome h f =
    follows_none (next f.0) events outcome (h f.0) f.2
follows_none (Ask question next) (Stepped step ∷ events) outcome h f =
    follows_none (next f.0) events outcome (h f.0) f.2
follows_none {E} {F} (Ask question next) (Told entry ∷ events) outcome h f =
    absurd (never_told {E = E} {F = F} question f.0 entry f.1)
follows_none (Tell entry next) (Called call ∷ events) outcome h f = absurd (let e = f.0 in cc)
follows_none (Tell entry next) (Stepped step ∷ events) outcome h f = absurd (let e = f.0 in cc)
follows_none (Tell entry next) (Told told ∷ events) outcome h f =
    let same : entry ≡ told = let e = f.0 in cc in
    (subst IsUntaken same h.0, follows_none next events outcome h.1 f.1)

pub owed_untaken : {E F : Type 0} (accepts : Acceptance) (w : World) (taken : Input)
    (plan : Plan Outcome) (events : List (Event E F)) (outcome : Outcome)
    → Owes accepts w taken plan → Follows plan events outcome → AllUntaken (told_in events)
owed_untaken accepts w taken plan events outcome o f =
    follows_none plan events outcome
    (subst TakesNone (sym o.2) (input_none (asks_for_keys taken.kind) o.0
    (kind_none accepts w taken.moment taken.kind o.0 o.1))) f
