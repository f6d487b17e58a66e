-- No row but a reply to this side's requests tells of one (RFC 4254 section 4).
use Rattle.std.proofs.Common.{◌≡◌, ◌+◌, ℕ, List, [], ◌∷◌, ◌++◌, map, Bool, true, false, Some}
use Rattle.std.proofs.Common.{cond}
use Rattle.std.proofs.Common.{refl, ◌∙◌, ap, inl, inr, Option, None}
use Rattle.std.specs.Prelude.{bytes_eq, codes, if◌then◌else◌}
use Rattle.ssh_link.specs.Frames.{Frame}
use Rattle.ssh_link.specs.declared.command.Command.{Command}
use Rattle.ssh_link.specs.declared.link.TraceEntry.TheVariants.{Noticed, Sent, Answered}
use Rattle.ssh_link.specs.declared.notice.Notice.{Notice}
use Rattle.ssh_link.specs.declared.outcome.CommandOutcome.{CommandOutcome}
use Rattle.ssh_link.specs.declared.outcome.CommandOutcome.TheVariants.{Accepted, Opened, Refused}
use Rattle.ssh_auth.specs.declared.auth_request.AuthRequest.{AuthRequest}
use Rattle.ssh_auth.specs.declared.question.Question.{Question}
use Rattle.ssh_auth.specs.declared.question.Question.TheVariants.{Banner}
use Rattle.ssh_auth.specs.Plan.{Plan, Finish, Ask, Tell, Answer, Event, Called, Stepped, Told}
use Rattle.ssh_auth.specs.Plan.{asked_in, after}
use Rattle.ssh_auth.specs.Verdict.{AuthOutcome, Replies, verdict as verdict_on, response_verdict}
use Rattle.ssh_auth.specs.Verdict as auth
use Rattle.ssh_auth.proofs.Back.{asked_so, refused_so}
use Rattle.ssh_rules.specs.declared.outstanding.Outstanding.{Outstanding}
use Rattle.ssh_rules.specs.declared.state.EncryptedState.{EncryptedState}
use Rattle.ssh_rules.specs.declared.state.EncryptedState.TheVariants.{WaitingAuthRequest}
use Rattle.ssh_rules.specs.Acts.{Act, Notes, Calls, Judges_by, Listens_by, Adjusts_by, Turns}
use Rattle.ssh_rules.specs.Acts.{Is_over, Stops, tell_all, tell_done, done, done_all, acts}
use Rattle.ssh_rules.specs.Acts.{Exchanges, payloads_given, frames_given, moved}
use Rattle.ssh_rules.specs.Effect.{Effect, Brings, effect, effect_at}
use Rattle.ssh_rules.specs.InOrder.{awaits_by, told_in_entry, told_in_event, replies_told}
use Rattle.ssh_rules.specs.Outcome.{Outcome, Goes, Ends, Fails}
use Rattle.ssh_rules.specs.Reading.{Said, Service, Request, Response}
use Rattle.ssh_rules.specs.Rows.{row, owed, greets, is_short, replied, concluded, where_waiting}
use Rattle.ssh_rules.specs.Run.{command_row, finish_input, handed_on, goes_unless_ended}
use Rattle.ssh_rules.specs.Run.{going_out, begins, is_due}
use Rattle.ssh_rules.specs.Ticks.{keepalive_acts, is_too_many, one_more}
use Rattle.ssh_rules.specs.World.{World, waits_for, ChannelRequest}
use Rattle.ssh_rules.proofs.Authorised.Guards.{Walks}
use Rattle.ssh_rules.proofs.InOrder.Commands.{AreBeside, Asks, asks_beside, effect_asks}
use Rattle.ssh_rules.proofs.InOrder.Acts.{AreApart, AreCalling}
use Rattle.ssh_rules.proofs.InOrder.Rows.{SaysNoReply, owed_calling, replied_calling}
use Rattle.ssh_rules.proofs.InOrder.Rows.{greets_calling}
use Rattle.ssh_rules.proofs.Plans.Verdicts.{EndsSo, IsBeside, verdict_beside, response_beside}

-- whatever is answered, the link is told of no reply to this side's requests
abbrev pub TellsNone : {O : Type 0} → Plan O → Type 0
TellsNone (Finish outcome) = Unit {0}
TellsNone (Ask question next) = (answer : Answer question) → TellsNone (next answer)
TellsNone (Tell entry next) = (told_in_entry entry ≡ []) × TellsNone next

-- ---- acts

noted : (notices : List Notice) (next : Plan Outcome) → AreBeside notices → TellsNone next →
    TellsNone (tell_all (map Noticed notices) next)
noted [] next b h = h
noted (notice ∷ notices) next b h = (b.0, noted notices next b.1 h)

told_done : (place : ℕ) (outcome : CommandOutcome) (next : Plan Outcome) → TellsNone next →
    TellsNone (tell_done place outcome next)
told_done place Accepted next h = h
told_done place (Opened channel) next h = λ _. h
told_done place (Refused why) next h = λ _. h

one_done : (waiting asked : List Outstanding) (does : Effect)
    (next : CommandOutcome → World → Plan Outcome) → Asks waiting asked does →
    ((outcome : CommandOutcome) (world : World) → TellsNone (next outcome world)) →
    TellsNone (done does next)
one_done waiting asked (Brings notices outcome world) next a h =
    noted notices (next outcome world) (asks_beside waiting asked notices outcome world a)
    (h outcome world)

all_done : (at : Option ChannelRequest) (place : ℕ) (commands : List Command) (w : World)
    (next : World → Plan Outcome) → ((world : World) → TellsNone (next world)) →
    TellsNone (done_all at place commands w next)
all_done at place [] w next h = h w
all_done at place (one ∷ commands) w next h =
    one_done w.globals.outstanding (awaits_by one) (effect_at at w one)
    (λ outcome world. tell_done place outcome (done_all at (place + 1) commands world next))
    (effect_asks at w one)
    (λ outcome world. told_done place outcome (done_all at (place + 1) commands world next)
    (all_done at (place + 1) commands world next h))

-- frames are no notices
frames_tell : (frames : List Frame) (next : Plan Outcome) → TellsNone next →
    TellsNone (tell_all (map Sent frames) next)
frames_tell [] next h = h
frames_tell (frame ∷ frames) next h = (refl, frames_tell frames next h)

apart_tell : (now : List Act) (w : World) → AreApart now → TellsNone (acts now w)
apart_tell [] w a = tt
apart_tell (Notes notice ∷ later) w a = (a.0, apart_tell later w a.1)
apart_tell (Adjusts_by channel current by ∷ later) w a = λ window.
    apart_tell later (by window w) a.1
apart_tell (Turns by ∷ later) w a = apart_tell later (by w) a.1
apart_tell (Is_over ∷ later) w a = tt
apart_tell (Stops why ∷ later) w a = tt
apart_tell (Calls at lent ∷ later) w a = absurd a
apart_tell (Judges_by at judged by ∷ later) w a = absurd a
apart_tell (Listens_by address port by ∷ later) w a = absurd a
apart_tell (Exchanges asked ∷ later) w a = absurd a

pub calling_tell : (now : List Act) (w : World) → AreCalling now → TellsNone (acts now w)
calling_tell [] w a = tt
calling_tell (Notes notice ∷ later) w a = (a.0, calling_tell later w a.1)
calling_tell (Calls at lent ∷ later) w a = λ commands.
    all_done at 0 commands w (acts later) (λ world. apart_tell later world a)
calling_tell (Judges_by at judged by ∷ later) w a = λ answer.
    all_done at 0 answer.commands w (λ world. acts later (by answer.granted world))
    (λ world. apart_tell later (by answer.granted world) a.1)
calling_tell (Listens_by address port by ∷ later) w a = λ answer.
    all_done None 0 answer.commands w (λ world. acts later (by answer.granted answer.port world))
    (λ world. apart_tell later (by answer.granted answer.port world) a.1)
calling_tell (Adjusts_by channel current by ∷ later) w a = λ window.
    calling_tell later (by window w) a.1
calling_tell (Exchanges asked ∷ later) w a = λ answer.
    frames_tell (frames_given (payloads_given asked answer)) (acts later (moved asked answer w))
    (calling_tell later (moved asked answer w) a)
calling_tell (Turns by ∷ later) w a = calling_tell later (by w) a.1
calling_tell (Is_over ∷ later) w a = tt
calling_tell (Stops why ∷ later) w a = tt

-- ---- rows

verdict_tells : (plan : Plan AuthOutcome) (later : AuthOutcome → Plan Outcome) →
    EndsSo IsBeside plan → ((outcome : AuthOutcome) → TellsNone (later outcome)) →
    TellsNone (after plan later)
verdict_tells (Finish outcome) later e h = h outcome
verdict_tells (Ask question next) later e h = λ answer.
    verdict_tells (next answer) later (e.1 answer) h
verdict_tells (Tell entry next) later e h = absurd e

concluded_tells : (w : World) (moment : ℕ) (requested : Bool) (outcome : AuthOutcome) →
    TellsNone (concluded w moment requested outcome)
concluded_tells w moment requested (Replies reply v state) =
    let u = waits_for (WaitingAuthRequest state) w in
    calling_tell (replied u moment requested reply v) u
    (replied_calling u moment requested reply v)
concluded_tells w moment requested (auth.Fails fault) = tt

asked_tells : (state : EncryptedState) (next : AuthRequest → Plan AuthOutcome) (w : World)
    (moment : ℕ) (requested : Bool) → ((auth : AuthRequest) → EndsSo IsBeside (next auth)) →
    TellsNone (where_waiting state (λ auth. after (next auth) (concluded w moment requested))
    (acts [] w))
asked_tells (WaitingAuthRequest auth) next w moment requested e =
    verdict_tells (next auth) (concluded w moment requested) (e auth)
    (concluded_tells w moment requested)
asked_tells _ next w moment requested e = tt

service_tells : (w : World) (b : Bool) →
    TellsNone (if b then Ask Banner (λ message. acts (greets message) w) else acts [] w)
service_tells w true = λ message.
    calling_tell (greets message) w (greets_calling message (is_short message) refl)
service_tells w false = tt

pub row_tells : (w : World) (moment : ℕ) (said : Said) → SaysNoReply said →
    TellsNone (row w moment said)
row_tells w moment (Service name) is = service_tells w (bytes_eq name (codes "ssh-userauth"))
row_tells w moment (Request asked) is =
    asked_tells w.user.state (λ auth. verdict_on auth asked) w moment true (verdict_beside asked)
row_tells w moment (Response responded) is =
    asked_tells w.user.state (λ auth. response_verdict auth responded) w moment w.user.requested
    (response_beside responded)
row_tells w moment said is = calling_tell (owed w said) w (owed_calling w said is)

pub command_tells : (w : World) (ticket : ℕ) (one : Command) →
    TellsNone (command_row w ticket one)
command_tells w ticket one =
    one_done w.globals.outstanding (awaits_by one) (effect w one)
    (λ outcome world. Tell (Answered ticket outcome) (Finish (Goes world))) (effect_asks None w one)
    (λ outcome world. (refl, tt))

tick_step : (w : World) (many : Bool) → is_too_many w.settings.config (one_more w.keepalives) ≡ many
    → TellsNone (acts (keepalive_acts w) w)
tick_step w true is = rw is tt
tick_step w false is = rw is tt

pub tick_tells : (w : World) → TellsNone (acts (keepalive_acts w) w)
tick_tells w = tick_step w (is_too_many w.settings.config (one_more w.keepalives)) refl

-- ---- inputs

begins_tell : (due : Bool) (w : World) → TellsNone (acts (begins due) w)
begins_tell true w = λ payload. frames_tell (frames_given (payload ∷ [])) _ tt
begins_tell false w = tt

ends_tell : (ended due : Bool) (w : World) →
    TellsNone (cond ended (Finish (Ends w)) (acts (begins due) w))
ends_tell true due w = tt
ends_tell false due w = begins_tell due w

finish_tells : (ticked : Bool) (outcome : Outcome) → TellsNone (finish_input ticked outcome)
finish_tells ticked (Goes w) =
    let v = handed_on w in
    frames_tell (going_out w) (goes_unless_ended ticked v)
    (ends_tell v.disconnected (is_due ticked v) v)
finish_tells ticked (Ends w) = frames_tell (going_out w) (Finish (Ends (handed_on w))) tt
finish_tells ticked (Fails why) = tt

pub input_tells : (ticked : Bool) (plan : Plan Outcome) → TellsNone plan →
    TellsNone (after plan (finish_input ticked))
input_tells ticked (Finish outcome) h = finish_tells ticked outcome
input_tells ticked (Ask question next) h = λ answer. input_tells ticked (next answer) (h answer)
input_tells ticked (Tell entry next) h = (h.0, input_tells ticked next h.1)

-- ---- events

-- a call is no notice
asked_untold : {E F : Type 0} (question : Question) (event : Event E F) →
    asked_in event ≡ Some question → told_in_event event ≡ []
asked_untold question (Called call) is = refl
asked_untold question (Stepped step) is = refl
asked_untold question (Told entry) is = absurd (cc)

pub walks_untold : {E F : Type 0} (plan : Plan Outcome) (events : List (Event E F)) →
    TellsNone plan → Walks plan events → replies_told events ≡ []
walks_untold plan [] h w = refl
walks_untold (Finish outcome) (event ∷ events) h w = absurd w
walks_untold (Ask question next) (event ∷ events) h (inl w) =
    ap (λ l. l ++ replies_told events)
    (asked_untold question event (asked_so question w.0 event w.1))
    ∙ walks_untold (next w.0) events (h w.0) w.2
walks_untold (Ask question next) (event ∷ events) h (inr w) =
    ap (λ l. l ++ replies_told events)
    (asked_untold question event (refused_so question w.0 event w.1))
    ∙ ap replies_told w.2
walks_untold (Tell entry next) (event ∷ events) h w =
    ap (λ x. told_in_event x ++ replies_told events) w.0 ∙ ap (λ l. l ++ replies_told events) h.0
    ∙ walks_untold next events h.1 w.1
