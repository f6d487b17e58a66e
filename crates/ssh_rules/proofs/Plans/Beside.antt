-- What does not depend on channels, nor on the user, holds through each row and each command of a
-- channel.
use Rattle.std.proofs.Common.{◌≡◌, ℕ, List, [], ◌∷◌, Option, Some, None, Bool, true, false}
use Rattle.std.proofs.Common.{refl, ◌==◌}
use Rattle.std.specs.Prelude.{length, bytes_eq, codes, if◌then◌else◌}
use Rattle.ssh_link.specs.declared.command.Command.{Command}
use Rattle.ssh_link.specs.declared.command.Command.TheVariants as command
use Rattle.ssh_link.specs.declared.open_answer.OpenAnswer.{OpenAnswer}
use Rattle.ssh_wire.specs.declared.open_failure.ChannelOpenFailure.{ChannelOpenFailure}
use Rattle.ssh_auth.specs.declared.auth_step.AuthVerdict.TheVariants as verdict
use Rattle.ssh_auth.specs.declared.auth_request.AuthRequest.{AuthRequest}
use Rattle.ssh_auth.specs.declared.question.Question.TheVariants.{Banner}
use Rattle.ssh_auth.specs.Plan.{Plan, Ask, after}
use Rattle.ssh_auth.specs.Verdict.{AuthOutcome, Replies, verdict as verdict_on, response_verdict}
use Rattle.ssh_auth.specs.Verdict as auth
use Rattle.ssh_channels.specs.Entry.{Entry}
use Rattle.ssh_channels.specs.Does.{coming_of}
use Rattle.ssh_channels.specs.Lines.{find, next_number, takes_in, aims}
use Rattle.ssh_channels.specs.declared.adjusted.Adjusted.{Adjusted}
use Rattle.ssh_channels.specs.declared.adjusted.Adjusted.TheVariants.{Dropped, Kept, Granted}
use Rattle.ssh_channels.specs.declared.chunk.Chunk.{Chunk}
use Rattle.ssh_wire.specs.declared.channel_id.ChannelId.{ChannelId}
use Rattle.ssh_rules.specs.declared.state.EncryptedState.{EncryptedState}
use Rattle.ssh_rules.specs.declared.state.EncryptedState.TheVariants.{WaitingAuthRequest}
use Rattle.ssh_rules.specs.Acts.{Act, acts}
use Rattle.ssh_rules.specs.Effect.{done_by, done_apart, decides_open}
use Rattle.ssh_rules.specs.Effect.{decides, fails_open, failure_of, is_too_long, opens_at}
use Rattle.ssh_rules.specs.Effect.{opens, opens_or_not, requests_on, refuses}
use Rattle.ssh_rules.specs.OwnOpens.{OwnOpen, open_payload}
use Rattle.ssh_rules.specs.Opening.{Opening}
use Rattle.ssh_rules.specs.Types.{handling}
use Rattle.ssh_rules.specs.declared.handling.Handling.{Handling}
use Rattle.ssh_rules.specs.declared.handling.Handling.TheVariants.{Asks, Unsupported, Unknown, GivenUp}
use Rattle.ssh_wire.specs.declared.open.OpenChannelMessage.{OpenChannelMessage}
use Rattle.ssh_wire.specs.declared.open.ChannelOpenConfirmation.{ChannelOpenConfirmation}
use Rattle.ssh_rules.specs.Opens.{opening_of}
use Rattle.ssh_rules.specs.Outcome.{Fault, Encoding, Inconsistent, Starved, Channels_full}
use Rattle.ssh_rules.specs.Outcome.{Fails}
use Rattle.ssh_rules.specs.declared.messages.Spoken.{Spoken}
use Rattle.ssh_rules.specs.declared.messages.Spoken.TheVariants as spoken
use Rattle.ssh_rules.specs.Reading.{Said, Disconnect, Over_cap, Service, Request}
use Rattle.ssh_rules.specs.Reading.{Response, Open, Agreed, Unread, Connection, Unfit}
use Rattle.ssh_rules.specs.Reading.{Without_packets}
use Rattle.ssh_rules.specs.Rows.{spoken_acts, failure_acts, confirmation_acts}
use Rattle.ssh_rules.specs.Rows.{row, owed, greets, is_short, replied, concluded, where_waiting}
use Rattle.ssh_rules.specs.Rows.{on_entry, on_confirmed, data_told, open_acts, fault_of}
use Rattle.ssh_wire.specs.declared.error.WireError.TheVariants as wire
use Rattle.ssh_rules.specs.Layout.{at_once}
use Rattle.ssh_rules.specs.World.{World, waits_for, lined, writes, is_there, is_waiting}
use Rattle.ssh_rules.specs.World.{wants_global, settles_global, target_on}
use Rattle.ssh_rules.specs.World.{ChannelRequest, request_at, settles_one}
use Rattle.ssh_rules.proofs.Plans.Acting.{PlanComes, EffectComes, Law, ActsCome, acts_come}
use Rattle.ssh_rules.proofs.Plans.Acting.{comes_then}
use Rattle.ssh_rules.proofs.Plans.Apart.{either, forward_comes, asked_comes}
use Rattle.ssh_rules.proofs.Plans.Apart.{unknown_comes, settles_comes, given_up_comes}
use Rattle.ssh_rules.specs.OwnRequests.{OwnRequest, request_payload, xon_xoff, exit_status}
use Rattle.ssh_rules.specs.OwnRequests.{exit_signal}
use Rattle.ssh_link.specs.declared.outcome.Refusal.TheVariants.{TooLong}
use Rattle.ssh_channels.specs.Layout.{as_uint32}

-- nothing is owed where no channel is there, or none that both sides agreed to
agreed_come : (of : Law) (w : World) (confirmed : Bool) (owes : List Act) → ActsCome of owes w →
    ActsCome of (on_confirmed confirmed owes) w
agreed_come of w true owes h = h
agreed_come of w false owes h = tt

pub on_come : (of : Law) (w : World) (e : Option Entry) (owes : Entry → List Act) →
    ((e : Entry) → ActsCome of (owes e) w) → ActsCome of (on_entry e owes) w
on_come of w None owes h = tt
on_come of w (Some e) owes h = agreed_come of w e.confirmed (owes e) (h e)

-- what is said ends no run
abbrev pub IsOther : Said → Type 0
IsOther Disconnect = ⊥
IsOther Over_cap = ⊥
IsOther _ = Unit {0}

-- ---- commands

-- what depends on what is fixed, on whether the connection was ended and on the keys, and on
-- nothing else
module _ (holds : World → Type 0)
    (same : (w v : World) → v.settings ≡ w.settings → v.disconnected ≡ w.disconnected
    → v.keys ≡ w.keys → holds w → holds v)
  where
    fails_beside : (number : ℕ) (payload : List ℕ) (w : World) (long : Bool)
        → is_too_long payload ≡ long → holds w
        → EffectComes holds (fails_open number payload w)
    fails_beside number payload w true is h = rw is h
    fails_beside number payload w false is h = rw is (same w _ refl refl refl h)

    decides_beside : (number : ℕ) (opening : Opening) (reason : Option ChannelOpenFailure)
        (texts : Option (List ℕ × List ℕ)) (w : World) → holds w
        → EffectComes holds (decides number opening reason texts w)
    decides_beside number opening None texts w h = same w _ refl refl refl h
    decides_beside number opening (Some reason) texts w h =
        fails_beside number (failure_of opening reason texts) w
        (is_too_long (failure_of opening reason texts)) refl h

    answers_beside : (answer : OpenAnswer) (opening : Option Opening) (w : World) → holds w
        → EffectComes holds (decides_open answer opening w)
    answers_beside answer None w h = h
    answers_beside answer (Some opening) w h =
        decides_beside answer.channel.0 opening answer.rejection answer.texts w h

    opened_beside : (number : Option ℕ) (asked : OwnOpen) (w : World) → holds w
        → EffectComes holds (opens_at number asked w)
    opened_beside None asked w h = h
    opened_beside (Some n) asked w h = same w _ refl refl refl h

    opens_beside : (asked : OwnOpen) (w : World) (long : Bool)
        → is_too_long (open_payload asked 0 w.settings.config.window_size
        w.settings.config.maximum_packet_size) ≡ long → holds w
        → EffectComes holds (opens asked w)
    opens_beside asked w true is h = rw is h
    opens_beside asked w false is h =
        rw is (opened_beside (next_number w.channels.lines) asked w h)

    pub opens_or_not_beside : (asked : Option OwnOpen) (w : World) → holds w
        → EffectComes holds (opens_or_not asked w)
    opens_or_not_beside None w h = h
    opens_or_not_beside (Some asked) w h =
        opens_beside asked w (is_too_long (open_payload asked 0 w.settings.config.window_size
        w.settings.config.maximum_packet_size)) refl h

    requested_beside : (long : Bool) (e : Option Entry) (channel : ChannelId)
        (asked : OwnRequest) (w : World) → holds w
        → EffectComes holds
        (if long then refuses TooLong w else requests_on e channel asked w)
    requested_beside true e channel asked w h = h
    requested_beside false None channel asked w h = h
    requested_beside false (Some e) channel asked w h = same w _ refl refl refl h

    pub settles_beside : (payload : List ℕ) (w : World) → holds w
        → holds (settles_global payload w)
    settles_beside payload w h =
        either holds w.globals.wanted (writes (at_once payload ∷ []) (wants_global false w)) w
        (same w _ refl refl refl h) h

    -- where it holds through this command, if it is of no channel
    pub done_beside : (at : Option ChannelRequest) (w : World) (commanded : Command) → holds w
        → EffectComes holds (done_apart w commanded)
        → EffectComes holds (done_by at w commanded)
    done_beside at w (command.Data channel bytes) h k = same w _ refl refl refl h
    done_beside at w (command.ExtendedData channel code bytes) h k = same w _ refl refl refl h
    done_beside at w (command.Eof channel) h k = same w _ refl refl refl h
    done_beside at w (command.Close channel) h k = same w _ refl refl refl h
    done_beside at w (command.ChannelSuccess channel) h k = same w _ refl refl refl h
    done_beside at w (command.ChannelFailure channel) h k = same w _ refl refl refl h
    done_beside at w (command.XonXoff channel client_can_do) h k =
        requested_beside (is_too_long (request_payload 0 (xon_xoff client_can_do)))
        (find channel.0 w.channels.lines.entries) channel (xon_xoff client_can_do) w h
    done_beside at w (command.ExitStatus channel status) h k =
        requested_beside (is_too_long (request_payload 0 (exit_status status)))
        (find channel.0 w.channels.lines.entries) channel (exit_status status) w h
    done_beside at w (command.ExitSignal channel signal core message language) h k =
        let asked = exit_signal signal core message language in
        requested_beside (is_too_long (request_payload 0 asked))
        (find channel.0 w.channels.lines.entries) channel asked w h
    done_beside at w (command.Answer answer) h k =
        answers_beside answer (opening_of answer.channel.0 w) w h
    done_beside at w other h k = k

-- ---- rows

-- a law on such a thing; faults are such outcomes
module _ (law : Law)
    (same : (w v : World) → v.settings ≡ w.settings → v.disconnected ≡ w.disconnected
    → v.keys ≡ w.keys → law.holds w → law.holds v)
    (fault : (why : Fault) → law.comes (Fails why))
  where
    told_beside : (adjusted : Adjusted) (channel : ChannelId) (piece : Chunk) (target : ℕ)
        (w : World) → law.holds w → ActsCome law (data_told adjusted channel piece target) w
    told_beside Dropped channel piece target w h = tt
    told_beside Kept channel piece target w h = λ world k. tt
    told_beside (Granted amount) channel piece target w h = λ window. (
      either law.holds (window == 0) w (lined (aims channel.0 (as_uint32 window)) w) h
          (same w _ refl refl refl h),
      λ world k. tt,
    )

    open_beside : (number : Option ℕ) (message : OpenChannelMessage) (does : Handling) (w : World)
        → law.holds w → ActsCome law (open_acts number message does) w
    open_beside None message (Asks type) w h = fault Channels_full
    open_beside None message GivenUp w h = fault Channels_full
    open_beside None message Unsupported w h = fault Channels_full
    open_beside None message Unknown w h = fault Channels_full
    open_beside (Some number) message (Asks type) w h = (same w _ refl refl refl h, λ world k. tt)
    open_beside (Some number) message GivenUp w h = (same w _ refl refl refl h, tt)
    open_beside (Some number) message Unsupported w h = (same w _ refl refl refl h, tt)
    open_beside (Some number) message Unknown w h = (same w _ refl refl refl h, tt)

    failure_beside : (w : World) (there waiting : Bool) (channel : ChannelId)
        (why : ChannelOpenFailure) → law.holds w
        → ActsCome law (failure_acts there waiting channel why) w
    failure_beside w there true channel why h = (same w _ refl refl refl h, tt)
    failure_beside w true false channel why h = fault Inconsistent
    failure_beside w false false channel why h = tt

    confirmation_beside : (w : World) (waiting : Bool) (message : ChannelOpenConfirmation)
        → law.holds w → ActsCome law (confirmation_acts waiting message) w
    confirmation_beside w true message h = (same w _ refl refl refl h, λ world k. tt)
    confirmation_beside w false message h = fault Inconsistent

    spoken_beside : (w : World) (said : Spoken) → law.holds w → ActsCome law (spoken_acts w said) w
    spoken_beside w spoken.Nothing h = tt
    spoken_beside w (spoken.Grant channel amount) h =
        on_come law w (find channel.0 w.channels.lines.entries) _
        (λ e. (same w _ refl refl refl h, λ world k. tt))
    spoken_beside w (spoken.Data channel piece) h =
        let came = coming_of (length piece.bytes) (target_on channel.0 w)
        (find channel.0 w.channels.lines.entries) in
        let v = lined (takes_in channel.0 (length piece.bytes) (target_on channel.0 w)) w in
        let k : law.holds v = same w v refl refl refl h in
        (k, told_beside came channel piece (target_on channel.0 w) v k)
    spoken_beside w (spoken.Tells channel message happening) h =
        on_come law w (find channel.0 w.channels.lines.entries) _ (λ e. λ world k. tt)
    spoken_beside w (spoken.Close channel) h =
        on_come law w (find channel.0 w.channels.lines.entries) _
        (λ e. (same w _ refl refl refl h, λ world k. tt))
    spoken_beside w (spoken.Failed channel reason) h =
        failure_beside w (is_there w channel.0) (is_waiting w channel.0) channel reason h
    spoken_beside w (spoken.Requests channel wanted message happening) h =
        (same w _ refl refl refl h, λ world k. tt)
    spoken_beside w (spoken.RequestsAgent channel wanted) h = (
      same w _ refl refl refl h,
      λ granted world k. (
        either law.holds world.disconnected world
            (lined (settles_one (request_at channel wanted w).place channel.0 granted) world) k
            (same world _ refl refl refl k),
        tt,
      ),
    )
    spoken_beside w (spoken.RequestsUnknown channel wanted) h =
        (same w _ refl refl refl h, (same w _ refl refl refl h, tt))
    spoken_beside w (spoken.RequestsForward wanted address port) h =
        forward_comes law (λ b v k. same v _ refl refl refl k) (settles_beside law.holds same)
        (λ v k. same v _ refl refl refl k) w wanted address port h
    spoken_beside w (spoken.RequestsGlobally wanted judged) h =
        asked_comes law (λ b v k. same v _ refl refl refl k) (settles_beside law.holds same)
        (λ v k. same v _ refl refl refl k) w wanted judged h
    spoken_beside w (spoken.RequestsGloballyUnknown wanted) h =
        unknown_comes law (λ b v k. same v _ refl refl refl k) (settles_beside law.holds same)
        (λ v k. same v _ refl refl refl k) w wanted h
    spoken_beside w (spoken.GivesUpSessions wanted) h =
        given_up_comes law (λ b v k. same v _ refl refl refl k) (settles_beside law.holds same)
        (λ v k. same v _ refl refl refl k) w wanted (same w _ refl refl refl h)
    spoken_beside w (spoken.Settles told) h =
        settles_comes law (λ b v k. same v _ refl refl refl k) (settles_beside law.holds same)
        (λ v k. same v _ refl refl refl k) w told h
    spoken_beside w spoken.Inconsistent h = fault Inconsistent

    owed_beside : (w : World) (said : Said) → IsOther said → law.holds w
        → ActsCome law (owed w said) w
    owed_beside w (Open message) is h =
        open_beside (next_number w.channels.lines) message
        (handling w.channels.no_more_sessions message.typ) w h
    owed_beside w (Agreed message) is h =
        confirmation_beside w (is_waiting w message.recipient_channel) message h
    owed_beside w Unread is h = fault Starved
    owed_beside w (Connection said) is h = spoken_beside w said h
    owed_beside w Disconnect is h = absurd is
    owed_beside w Over_cap is h = absurd is
    owed_beside w (Unfit why) is h = fault (Encoding why)
    owed_beside w Without_packets is h = fault Inconsistent
    owed_beside w _ is h = tt

    concluded_beside : (w : World) (moment : ℕ) (requested : Bool) (outcome : AuthOutcome)
        → law.holds w → PlanComes law.such law.comes (concluded w moment requested outcome)
    concluded_beside w moment requested (Replies reply verdict.Accepted state) h =
        acts_come law (replied w moment requested reply verdict.Accepted)
        (waits_for (WaitingAuthRequest state) w) (same w _ refl refl refl h)
        (same w _ refl refl refl h, λ world k. tt)
    concluded_beside w moment requested (Replies reply (verdict.Rejected none_method) state) h =
        law.goes _ (same w _ refl refl refl h)
    concluded_beside w moment requested (Replies reply verdict.Continued state) h =
        law.goes _ (same w _ refl refl refl h)
    concluded_beside w moment requested (auth.Fails why) h = fault (fault_of why)

    asked_beside : (state : EncryptedState) (next : AuthRequest → Plan AuthOutcome) (w : World)
        (moment : ℕ) (requested : Bool) → law.holds w
        → PlanComes law.such law.comes
        (where_waiting state (λ auth. after (next auth) (concluded w moment requested)) (acts [] w))
    asked_beside (WaitingAuthRequest auth) next w moment requested h =
        comes_then law.such law.comes (next auth) (concluded w moment requested)
        (λ outcome. concluded_beside w moment requested outcome h)
    asked_beside _ next w moment requested h = law.goes w h

    greets_beside : (w : World) (message : Option (List ℕ)) (short : Bool)
        → is_short message ≡ short → law.holds w
        → PlanComes law.such law.comes (acts (greets message) w)
    greets_beside w message true is h = rw is (law.goes _ (same w _ refl refl refl h))
    greets_beside w message false is h = rw is (fault (Encoding wire.TooLong))

    service_beside : (w : World) (b : Bool) → law.holds w
        → PlanComes law.such law.comes
        (if b then Ask Banner (λ message. acts (greets message) w) else acts [] w)
    service_beside w true h = λ message s. greets_beside w message (is_short message) refl h
    service_beside w false h = law.goes w h

    pub row_beside : (w : World) (moment : ℕ) (said : Said) → IsOther said → law.holds w
        → PlanComes law.such law.comes (row w moment said)
    row_beside w moment (Service name) is h = service_beside w
        (bytes_eq name (codes "ssh-userauth")) h
    row_beside w moment (Request asked) is h =
        asked_beside w.user.state (λ auth. verdict_on auth asked) w moment true h
    row_beside w moment (Response responded) is h =
        asked_beside w.user.state (λ auth. response_verdict auth responded) w moment
        w.user.requested h
    row_beside w moment said is h = acts_come law (owed w said) w h (owed_beside w said is h)
