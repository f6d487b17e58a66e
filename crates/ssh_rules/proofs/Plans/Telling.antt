-- What a row tells is no frame but those that the exchange of keys gives, each at once, once and in
-- order: other frames are handed on at the end of an input.
use Rattle.std.proofs.Common.{◌≡◌, ◌+◌, ℕ, List, [], ◌∷◌, map, Bool, true, false, cond, None, refl}
use Rattle.std.proofs.Common.{sym, subst, Option}
use Rattle.std.specs.Prelude.{bytes_eq, codes, drop, filter, if◌then◌else◌}
use Rattle.ssh_link.specs.Frames.{Frame}
use Rattle.ssh_link.specs.declared.command.Command.{Command}
use Rattle.ssh_link.specs.declared.command.Command.TheVariants as command
use Rattle.ssh_link.specs.declared.frame.InputKind.{InputKind}
use Rattle.ssh_link.specs.declared.frame.InputKind.TheVariants as input
use Rattle.ssh_link.specs.declared.link.TraceEntry.{TraceEntry}
use Rattle.ssh_link.specs.declared.link.TraceEntry.TheVariants.{Noticed, Sent}
use Rattle.ssh_link.specs.declared.notice.Notice.{Notice}
use Rattle.ssh_link.specs.declared.outcome.CommandOutcome.{CommandOutcome}
use Rattle.ssh_link.specs.declared.outcome.CommandOutcome.TheVariants.{Accepted, Opened, Refused}
use Rattle.ssh_auth.specs.declared.auth_request.AuthRequest.{AuthRequest}
use Rattle.ssh_auth.specs.declared.question.Question.{Question}
use Rattle.ssh_auth.specs.declared.question.Question.TheVariants as ask
use Rattle.ssh_auth.specs.Plan.{Plan, Finish, Ask, Tell, Answer, after}
use Rattle.ssh_auth.specs.Publickey.{Acceptance}
use Rattle.ssh_auth.specs.Verdict.{AuthOutcome, verdict as verdict_on, response_verdict}
use Rattle.ssh_auth.specs.Verdict as verdicts
use Rattle.ssh_rules.specs.declared.state.EncryptedState.{EncryptedState}
use Rattle.ssh_rules.specs.declared.state.EncryptedState.TheVariants.{WaitingAuthRequest}
use Rattle.ssh_rules.specs.Acts.{Act, Notes, Calls, Adjusts_by, Turns, Is_over, Stops, tell_all}
use Rattle.ssh_rules.specs.Acts.{tell_done, done, done_all, acts, Judges_by, Listens_by}
use Rattle.ssh_rules.specs.Acts.{Exchanges, Exchanging, Beginning, Stepping, exchange_question}
use Rattle.ssh_rules.specs.Acts.{payloads_given, frames_given, moved}
use Rattle.ssh_rules.specs.Effect.{Effect, Brings, effect, effect_at}
use Rattle.ssh_rules.specs.Exchange.{is_of_transport}
use Rattle.ssh_rules.specs.Layout.{at_once}
use Rattle.ssh_rules.specs.Outcome.{Outcome}
use Rattle.ssh_rules.specs.Reading.{Said, Service, Request, Response}
use Rattle.ssh_rules.specs.Rows.{row, owed, exchange_acts, greets, replied, concluded, where_waiting}
use Rattle.ssh_rules.specs.Run.{OwesKind, command_row}
use Rattle.ssh_rules.specs.Ticks.{keepalive_acts}
use Rattle.ssh_rules.specs.World.{World, hears, waits_for, ChannelRequest}
use Rattle.ssh_rules.proofs.Plans.Passing.{payload_so}
use Rattle.ssh_rules.proofs.Plans.Verdicts.{EndsSo, IsBeside, verdict_beside, response_beside}

-- a frame of an exchange of keys: it is on no channel, and its number is 1 to 49
abbrev pub IsExchanged : Frame → Type 0
IsExchanged frame = (frame.channel ≡ None) × (is_of_transport frame.payload ≡ true)

-- it is no frame but one of an exchange
abbrev pub IsUnsent : TraceEntry → Type 0
IsUnsent (Sent frame) = IsExchanged frame
IsUnsent _ = Unit {0}

-- whatever is answered, the link is told no other frame
abbrev pub SendsNone : Plan Outcome → Type 0
SendsNone (Finish outcome) = Unit {0}
SendsNone (Ask question next) = (answer : Answer question) → SendsNone (next answer)
SendsNone (Tell entry next) = IsUnsent entry × SendsNone next

-- the payloads that the exchange gives by an answer
abbrev pub given_at : (question : Question) → Answer question → List (List ℕ)
given_at ask.Begins payload = payload ∷ []
given_at (ask.Steps payload) step = step.frames
given_at _ answer = []

-- its frames that were not handed on yet, once this was told
abbrev pub unsent_told : (unsent : List Frame) → TraceEntry → List Frame
unsent_told unsent (Sent frame) = drop 1 unsent
unsent_told unsent _ = unsent

-- this is told in its turn, where these were not handed on yet
abbrev pub IsToldInTurn : (holding : Bool) → (unsent : List Frame) → TraceEntry → Type 0
IsToldInTurn holding (first ∷ later) entry = entry ≡ Sent first
IsToldInTurn holding [] (Sent frame) = holding ≡ false
IsToldInTurn holding [] _ = Unit {0}

-- whatever is answered, these frames and those that the exchange gives are told, each in its turn,
-- and no other one
abbrev pub Sends : (unsent : List Frame) → Plan Outcome → Type 0
Sends unsent (Finish outcome) = unsent ≡ []
Sends unsent (Ask question next) = (unsent ≡ [])
    × ((answer : Answer question) → Sends (frames_given (given_at question answer)) (next answer))
Sends unsent (Tell entry next) = IsToldInTurn true unsent entry
    × Sends (unsent_told unsent entry) next

-- and so where all were handed on
abbrev pub SendsGiven : Plan Outcome → Type 0
SendsGiven plan = Sends [] plan

-- ---- the frames of an exchange

abbrev AreExchanged : List Frame → Type 0
AreExchanged [] = Unit {0}
AreExchanged (frame ∷ frames) = IsExchanged frame × AreExchanged frames

given_step : (b : Bool) (payload : List ℕ) (payloads : List (List ℕ)) →
    is_of_transport payload ≡ b → AreExchanged (frames_given payloads) →
    AreExchanged (map at_once (cond b (payload ∷ filter is_of_transport payloads)
    (filter is_of_transport payloads)))
given_step true payload payloads is h = ((refl, is), h)
given_step false payload payloads is h = h

given_exchanged : (payloads : List (List ℕ)) → AreExchanged (frames_given payloads)
given_exchanged [] = tt
given_exchanged (payload ∷ payloads) =
    given_step (is_of_transport payload) payload payloads refl (given_exchanged payloads)

later_exchanged : (unsent : List Frame) (entry : TraceEntry) → AreExchanged unsent →
    AreExchanged (unsent_told unsent entry)
later_exchanged [] (Sent frame) a = tt
later_exchanged (first ∷ later) (Sent frame) a = a.1
later_exchanged unsent entry a = a

told_exchanged : (unsent : List Frame) (entry : TraceEntry) → AreExchanged unsent →
    IsToldInTurn true unsent entry → IsUnsent entry
told_exchanged (first ∷ later) entry a h = subst IsUnsent (sym h) a.0
told_exchanged [] (Sent frame) a h = absurd (let no : true ≡ false = h in cc)
told_exchanged [] entry a h = tt

sends_none : (unsent : List Frame) (plan : Plan Outcome) → AreExchanged unsent →
    Sends unsent plan → SendsNone plan
sends_none unsent (Finish outcome) a h = tt
sends_none unsent (Ask question next) a h = λ answer.
    sends_none (frames_given (given_at question answer)) (next answer)
    (given_exchanged (given_at question answer)) (h.1 answer)
sends_none unsent (Tell entry next) a h = (
  told_exchanged unsent entry a h.0,
  sends_none (unsent_told unsent entry) next (later_exchanged unsent entry a) h.1,
)

-- ---- acts

noted : (notices : List Notice) (next : Plan Outcome) → SendsGiven next
    → SendsGiven (tell_all (map Noticed notices) next)
noted [] next h = h
noted (notice ∷ notices) next h = (tt, noted notices next h)

told_done : (place : ℕ) (outcome : CommandOutcome) (next : Plan Outcome) → SendsGiven next
    → SendsGiven (tell_done place outcome next)
told_done place Accepted next h = h
told_done place (Opened channel) next h = (refl, λ answer. h)
told_done place (Refused why) next h = (refl, λ answer. h)

one_done : (does : Effect) (next : CommandOutcome → World → Plan Outcome) →
    ((outcome : CommandOutcome) (world : World) → SendsGiven (next outcome world))
    → SendsGiven (done does next)
one_done (Brings notices outcome world) next h = noted notices (next outcome world) (h outcome world)

all_done : (at : Option ChannelRequest) (place : ℕ) (commands : List Command) (w : World)
    (next : World → Plan Outcome) → ((world : World) → SendsGiven (next world)) →
    SendsGiven (done_all at place commands w next)
all_done at place [] w next h = h w
all_done at place (command ∷ commands) w next h =
    one_done (effect_at at w command) (λ outcome world. tell_done place outcome
    (done_all at (place + 1) commands world next))
    (λ outcome world. told_done place outcome (done_all at (place + 1) commands world next)
    (all_done at (place + 1) commands world next h))

-- what an exchange gives
frames_sent : (frames : List Frame) (next : Plan Outcome) → SendsGiven next
    → Sends frames (tell_all (map Sent frames) next)
frames_sent [] next h = h
frames_sent (frame ∷ frames) next h = (refl, frames_sent frames next h)

step_sent : (asked : Exchanging) (answer : Answer (exchange_question asked))
    (next : Plan Outcome) → SendsGiven next →
    Sends (frames_given (given_at (exchange_question asked) answer))
    (tell_all (map Sent (frames_given (payloads_given asked answer))) next)
step_sent Beginning payload next h = frames_sent (frames_given (payload ∷ [])) next h
step_sent (Stepping payload) step next h = frames_sent (frames_given step.frames) next h

pub acts_given : (now : List Act) (w : World) → SendsGiven (acts now w)
acts_given [] w = refl
acts_given (Notes notice ∷ later) w = (tt, acts_given later w)
acts_given (Calls at lent ∷ later) w = (
  refl,
  λ commands. all_done at 0 commands w (acts later) (λ world. acts_given later world),
)
acts_given (Judges_by at judged by ∷ later) w = (
  refl,
  λ answer. all_done at 0 answer.commands w (λ world. acts later (by answer.granted world))
      (λ world. acts_given later (by answer.granted world)),
)
acts_given (Listens_by address port by ∷ later) w = (
  refl,
  λ answer. all_done None 0 answer.commands w
      (λ world. acts later (by answer.granted answer.port world))
      (λ world. acts_given later (by answer.granted answer.port world)),
)
acts_given (Adjusts_by channel current by ∷ later) w =
    (refl, λ window. acts_given later (by window w))
acts_given (Exchanges asked ∷ later) w = (
  refl,
  λ answer. step_sent asked answer (acts later (moved asked answer w))
      (acts_given later (moved asked answer w)),
)
acts_given (Turns by ∷ later) w = acts_given later (by w)
acts_given (Is_over ∷ later) w = refl
acts_given (Stops why ∷ later) w = refl

pub acts_send_none : (now : List Act) (w : World) → SendsNone (acts now w)
acts_send_none now w = sends_none [] (acts now w) tt (acts_given now w)

-- ---- rows

-- a verdict tells nothing
verdict_given : (plan : Plan AuthOutcome) (later : AuthOutcome → Plan Outcome)
    → EndsSo IsBeside plan → ((outcome : AuthOutcome) → SendsGiven (later outcome))
    → SendsGiven (after plan later)
verdict_given (Finish outcome) later e h = h outcome
verdict_given (Ask (ask.Admits admission) next) later e h =
    (refl, λ answer. verdict_given (next answer) later (e.1 answer) h)
verdict_given (Ask other next) later e h = absurd e.0
verdict_given (Tell entry next) later e h = absurd e

concluded_given : (w : World) (moment : ℕ) (requested : Bool) (outcome : AuthOutcome)
    → SendsGiven (concluded w moment requested outcome)
concluded_given w moment requested (verdicts.Replies reply v state) =
    let u = waits_for (WaitingAuthRequest state) w in
    acts_given (replied u moment requested reply v) u
concluded_given w moment requested (verdicts.Fails fault) = refl

state_given : (state : EncryptedState) (next : AuthRequest → Plan AuthOutcome) (w : World)
    (moment : ℕ) (requested : Bool) → ((auth : AuthRequest) → EndsSo IsBeside (next auth)) →
    SendsGiven (where_waiting state (λ auth. after (next auth) (concluded w moment requested))
    (acts [] w))
state_given (WaitingAuthRequest auth) next w moment requested e =
    verdict_given (next auth) (concluded w moment requested) (e auth)
    (concluded_given w moment requested)
state_given _ next w moment requested e = refl

service_given : (w : World) (b : Bool)
    → SendsGiven (if b then Ask ask.Banner (λ message. acts (greets message) w) else acts [] w)
service_given w true = (refl, λ message. acts_given (greets message) w)
service_given w false = refl

pub row_given : (w : World) (moment : ℕ) (said : Said) → SendsGiven (row w moment said)
row_given w moment (Service name) = service_given w (bytes_eq name (codes "ssh-userauth"))
row_given w moment (Request asked) =
    state_given w.user.state (λ auth. verdict_on auth asked) w moment true (verdict_beside asked)
row_given w moment (Response said) =
    state_given w.user.state (λ auth. response_verdict auth said) w moment w.user.requested
    (response_beside said)
row_given w moment said = acts_given (owed w said) w

pub command_given : (w : World) (ticket : ℕ) (commanded : Command)
    → SendsGiven (command_row w ticket commanded)
command_given w ticket commanded =
    one_done (effect w commanded) _ (λ outcome world. (tt, refl))

pub kind_given : (accepts : Acceptance) (w : World) (moment : ℕ) (kind : InputKind)
    (plan : Plan Outcome) → OwesKind accepts w moment kind plan → SendsGiven plan
kind_given accepts w moment input.End plan o = rw o refl
kind_given accepts w moment (input.Payload payload) plan o =
    let v = hears payload w in
    payload_so accepts v moment payload plan SendsGiven o (λ said says. row_given v moment said)
    (λ passage. acts_given (exchange_acts payload passage) v)
kind_given accepts w moment (input.Command ticket commanded) plan o =
    rw o (command_given w ticket commanded)
kind_given accepts w moment (input.OpenReply ticket answer) plan o =
    rw o (command_given w ticket (command.Answer answer))
kind_given accepts w moment input.KeepaliveTick plan o =
    rw o (acts_given (keepalive_acts w) w)
kind_given accepts w moment input.InactivityTick plan o = rw o refl
kind_given accepts w moment input.RekeyTick plan o = rw o refl

pub kind_silent : (accepts : Acceptance) (w : World) (moment : ℕ) (kind : InputKind)
    (plan : Plan Outcome) → OwesKind accepts w moment kind plan → SendsNone plan
kind_silent accepts w moment kind plan o =
    sends_none [] plan tt (kind_given accepts w moment kind plan o)
