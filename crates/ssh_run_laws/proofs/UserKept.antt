-- Nothing but authentication changes which user was let in (RFC 4252 section 5).
use Rattle.std.proofs.Common.{◌≡◌, ℕ, List, [], ◌∷◌, Option, Some, None, Bool, true, false}
use Rattle.std.proofs.Common.{refl, ◌==◌}
use Rattle.std.specs.Prelude.{length, if◌then◌else◌}
use Rattle.ssh_link.specs.declared.command.Command.{Command}
use Rattle.ssh_link.specs.declared.command.Command.TheVariants as command
use Rattle.ssh_link.specs.declared.open_answer.OpenAnswer.{OpenAnswer}
use Rattle.ssh_wire.specs.declared.open_failure.ChannelOpenFailure.{ChannelOpenFailure}
use Rattle.ssh_channels.specs.Entry.{Entry}
use Rattle.ssh_channels.specs.Does.{coming_of}
use Rattle.ssh_channels.specs.Lines.{find, next_number, takes_in, aims}
use Rattle.ssh_channels.specs.declared.adjusted.Adjusted.{Adjusted}
use Rattle.ssh_channels.specs.declared.adjusted.Adjusted.TheVariants.{Dropped, Kept, Granted}
use Rattle.ssh_channels.specs.declared.chunk.Chunk.{Chunk}
use Rattle.ssh_wire.specs.declared.channel_id.ChannelId.{ChannelId}
use Rattle.ssh_rules.specs.Effect.{done_by, done_apart, decides_open}
use Rattle.ssh_rules.specs.Effect.{decides, fails_open, failure_of, is_too_long, opens_at}
use Rattle.ssh_rules.specs.Effect.{opens, opens_or_not, requests_on, refuses}
use Rattle.ssh_rules.specs.OwnOpens.{OwnOpen, open_payload}
use Rattle.ssh_rules.specs.Opening.{Opening}
use Rattle.ssh_rules.specs.Types.{handling}
use Rattle.ssh_rules.specs.declared.handling.Handling.{Handling}
use Rattle.ssh_rules.specs.declared.handling.Handling.TheVariants.{Asks, Unsupported, Unknown, GivenUp}
use Rattle.ssh_wire.specs.declared.open.OpenChannelMessage.{OpenChannelMessage}
use Rattle.ssh_wire.specs.declared.open.ChannelOpenConfirmation.{ChannelOpenConfirmation}
use Rattle.ssh_rules.specs.Opens.{opening_of}
use Rattle.ssh_rules.specs.Outcome.{Fault, Encoding, Inconsistent, Starved, Channels_full}
use Rattle.ssh_rules.specs.Outcome.{Fails}
use Rattle.ssh_rules.specs.declared.messages.Spoken.{Spoken}
use Rattle.ssh_rules.specs.declared.messages.Spoken.TheVariants as spoken
use Rattle.ssh_rules.specs.Reading.{Said, Disconnect, Over_cap}
use Rattle.ssh_rules.specs.Reading.{Open, Agreed, Unread, Connection, Unfit}
use Rattle.ssh_rules.specs.Reading.{Without_packets}
use Rattle.ssh_rules.specs.Rows.{spoken_acts, failure_acts, confirmation_acts}
use Rattle.ssh_rules.specs.Rows.{owed}
use Rattle.ssh_rules.specs.Rows.{data_told, open_acts}
use Rattle.ssh_rules.specs.Layout.{at_once}
use Rattle.ssh_rules.specs.World.{World, lined, writes, is_there, is_waiting}
use Rattle.ssh_rules.specs.World.{wants_global, settles_global, target_on}
use Rattle.ssh_rules.specs.declared.request.ChannelRequest.{ChannelRequest}
use Rattle.ssh_rules.specs.World.{request_at, settles_one}
use Rattle.ssh_rules.proofs.Plans.Acting.{EffectComes, Law, ActsCome}
use Rattle.ssh_rules.proofs.Plans.Apart.{either, forward_comes, asked_comes}
use Rattle.ssh_rules.proofs.Plans.Apart.{unknown_comes, settles_comes, given_up_comes}
use Rattle.ssh_rules.specs.OwnRequests.{OwnRequest, request_payload, xon_xoff, exit_status}
use Rattle.ssh_rules.specs.OwnRequests.{exit_signal}
use Rattle.ssh_link.specs.declared.outcome.Refusal.TheVariants.{TooLong}
use Rattle.ssh_channels.specs.Layout.{as_uint32}
use Rattle.ssh_rules.proofs.Plans.Beside.{on_come}

-- what is said ends no run
abbrev pub IsOther : Said → Type 0
IsOther Disconnect = ⊥
IsOther Over_cap = ⊥
IsOther _ = Unit {0}

-- ---- commands

-- what depends on the user alone
module _ (holds : World → Type 0)
    (same : (w v : World) → v.user ≡ w.user → holds w → holds v)
  where
    fails_kept : (number : ℕ) (payload : List ℕ) (w : World) (long : Bool)
        → is_too_long payload ≡ long → holds w
        → EffectComes holds (fails_open number payload w)
    fails_kept number payload w true is h = rw is h
    fails_kept number payload w false is h = rw is (same w _ refl h)

    decides_kept : (number : ℕ) (opening : Opening) (reason : Option ChannelOpenFailure)
        (texts : Option (List ℕ × List ℕ)) (w : World) → holds w
        → EffectComes holds (decides number opening reason texts w)
    decides_kept number opening None texts w h = same w _ refl h
    decides_kept number opening (Some reason) texts w h =
        fails_kept number (failure_of opening reason texts) w
        (is_too_long (failure_of opening reason texts)) refl h

    answers_kept : (answer : OpenAnswer) (opening : Option Opening) (w : World) → holds w
        → EffectComes holds (decides_open answer opening w)
    answers_kept answer None w h = h
    answers_kept answer (Some opening) w h =
        decides_kept answer.channel.0 opening answer.rejection answer.texts w h

    opened_kept : (number : Option ℕ) (asked : OwnOpen) (w : World) → holds w
        → EffectComes holds (opens_at number asked w)
    opened_kept None asked w h = h
    opened_kept (Some n) asked w h = same w _ refl h

    opens_kept : (asked : OwnOpen) (w : World) (long : Bool)
        → is_too_long (open_payload asked 0 w.settings.config.window_size
        w.settings.config.maximum_packet_size) ≡ long → holds w
        → EffectComes holds (opens asked w)
    opens_kept asked w true is h = rw is h
    opens_kept asked w false is h =
        rw is (opened_kept (next_number w.channels.lines) asked w h)

    pub opens_or_not_kept : (asked : Option OwnOpen) (w : World) → holds w
        → EffectComes holds (opens_or_not asked w)
    opens_or_not_kept None w h = h
    opens_or_not_kept (Some asked) w h =
        opens_kept asked w (is_too_long (open_payload asked 0 w.settings.config.window_size
        w.settings.config.maximum_packet_size)) refl h

    requested_kept : (long : Bool) (e : Option Entry) (channel : ChannelId)
        (asked : OwnRequest) (w : World) → holds w
        → EffectComes holds
        (if long then refuses TooLong w else requests_on e channel asked w)
    requested_kept true e channel asked w h = h
    requested_kept false None channel asked w h = h
    requested_kept false (Some e) channel asked w h = same w _ refl h

    pub settles_kept : (payload : List ℕ) (w : World) → holds w
        → holds (settles_global payload w)
    settles_kept payload w h =
        either holds w.globals.wanted (writes (at_once payload ∷ []) (wants_global false w)) w
        (same w _ refl h) h

    -- where it holds through this command, if it is of no channel
    pub done_kept : (at : Option ChannelRequest) (w : World) (commanded : Command) → holds w
        → EffectComes holds (done_apart w commanded)
        → EffectComes holds (done_by at w commanded)
    done_kept at w (command.Data channel bytes) h k = same w _ refl h
    done_kept at w (command.ExtendedData channel code bytes) h k = same w _ refl h
    done_kept at w (command.Eof channel) h k = same w _ refl h
    done_kept at w (command.Close channel) h k = same w _ refl h
    done_kept at w (command.ChannelSuccess channel) h k = same w _ refl h
    done_kept at w (command.ChannelFailure channel) h k = same w _ refl h
    done_kept at w (command.XonXoff channel client_can_do) h k =
        requested_kept (is_too_long (request_payload 0 (xon_xoff client_can_do)))
        (find channel.0 w.channels.lines.entries) channel (xon_xoff client_can_do) w h
    done_kept at w (command.ExitStatus channel status) h k =
        requested_kept (is_too_long (request_payload 0 (exit_status status)))
        (find channel.0 w.channels.lines.entries) channel (exit_status status) w h
    done_kept at w (command.ExitSignal channel signal core message language) h k =
        let asked = exit_signal signal core message language in
        requested_kept (is_too_long (request_payload 0 asked))
        (find channel.0 w.channels.lines.entries) channel asked w h
    done_kept at w (command.Answer answer) h k =
        answers_kept answer (opening_of answer.channel.0 w) w h
    done_kept at w other h k = k

-- ---- rows

-- a law on such a thing; faults are such outcomes
module _ (law : Law)
    (same : (w v : World) → v.user ≡ w.user → law.holds w → law.holds v)
    (fault : (why : Fault) → law.comes (Fails why))
  where
    told_kept : (adjusted : Adjusted) (channel : ChannelId) (piece : Chunk) (target : ℕ)
        (w : World) → law.holds w → ActsCome law (data_told adjusted channel piece target) w
    told_kept Dropped channel piece target w h = tt
    told_kept Kept channel piece target w h = λ world k. tt
    told_kept (Granted amount) channel piece target w h = λ window. (
      either law.holds (window == 0) w (lined (aims channel.0 (as_uint32 window)) w) h
          (same w _ refl h),
      λ world k. tt,
    )

    open_kept : (number : Option ℕ) (message : OpenChannelMessage) (does : Handling) (w : World)
        → law.holds w → ActsCome law (open_acts number message does) w
    open_kept None message (Asks type) w h = fault Channels_full
    open_kept None message GivenUp w h = fault Channels_full
    open_kept None message Unsupported w h = fault Channels_full
    open_kept None message Unknown w h = fault Channels_full
    open_kept (Some number) message (Asks type) w h = (same w _ refl h, λ world k. tt)
    open_kept (Some number) message GivenUp w h = (same w _ refl h, tt)
    open_kept (Some number) message Unsupported w h = (same w _ refl h, tt)
    open_kept (Some number) message Unknown w h = (same w _ refl h, tt)

    failure_kept : (w : World) (there waiting : Bool) (channel : ChannelId)
        (why : ChannelOpenFailure) → law.holds w
        → ActsCome law (failure_acts there waiting channel why) w
    failure_kept w there true channel why h = (same w _ refl h, tt)
    failure_kept w true false channel why h = fault Inconsistent
    failure_kept w false false channel why h = tt

    confirmation_kept : (w : World) (waiting : Bool) (message : ChannelOpenConfirmation)
        → law.holds w → ActsCome law (confirmation_acts waiting message) w
    confirmation_kept w true message h = (same w _ refl h, λ world k. tt)
    confirmation_kept w false message h = fault Inconsistent

    spoken_kept : (w : World) (said : Spoken) → law.holds w → ActsCome law (spoken_acts w said) w
    spoken_kept w spoken.Nothing h = tt
    spoken_kept w (spoken.Grant channel amount) h =
        on_come law w (find channel.0 w.channels.lines.entries) _
        (λ e. (same w _ refl h, λ world k. tt))
    spoken_kept w (spoken.Data channel piece) h =
        let came = coming_of (length piece.bytes) (target_on channel.0 w)
        (find channel.0 w.channels.lines.entries) in
        let v = lined (takes_in channel.0 (length piece.bytes) (target_on channel.0 w)) w in
        let k : law.holds v = same w v refl h in
        (k, told_kept came channel piece (target_on channel.0 w) v k)
    spoken_kept w (spoken.Tells channel message happening) h =
        on_come law w (find channel.0 w.channels.lines.entries) _ (λ e. λ world k. tt)
    spoken_kept w (spoken.Close channel) h =
        on_come law w (find channel.0 w.channels.lines.entries) _
        (λ e. (same w _ refl h, λ world k. tt))
    spoken_kept w (spoken.Failed channel reason) h =
        failure_kept w (is_there w channel.0) (is_waiting w channel.0) channel reason h
    spoken_kept w (spoken.Requests channel wanted message happening) h =
        (same w _ refl h, λ world k. tt)
    spoken_kept w (spoken.RequestsAgent channel wanted) h = (
      same w _ refl h,
      λ granted world k. (
        either law.holds world.disconnected world
            (lined (settles_one (request_at channel wanted w).place channel.0 granted) world) k
            (same world _ refl k),
        tt,
      ),
    )
    spoken_kept w (spoken.RequestsUnknown channel wanted) h =
        (same w _ refl h, (same w _ refl h, tt))
    spoken_kept w (spoken.RequestsForward wanted address port) h =
        forward_comes law (λ b v k. same v _ refl k) (settles_kept law.holds same)
        (λ v k. same v _ refl k) w wanted address port h
    spoken_kept w (spoken.RequestsGlobally wanted judged) h =
        asked_comes law (λ b v k. same v _ refl k) (settles_kept law.holds same)
        (λ v k. same v _ refl k) w wanted judged h
    spoken_kept w (spoken.RequestsGloballyUnknown wanted) h =
        unknown_comes law (λ b v k. same v _ refl k) (settles_kept law.holds same)
        (λ v k. same v _ refl k) w wanted h
    spoken_kept w (spoken.GivesUpSessions wanted) h =
        given_up_comes law (λ b v k. same v _ refl k) (settles_kept law.holds same)
        (λ v k. same v _ refl k) w wanted (same w _ refl h)
    spoken_kept w (spoken.Settles told) h =
        settles_comes law (λ b v k. same v _ refl k) (settles_kept law.holds same)
        (λ v k. same v _ refl k) w told h
    spoken_kept w spoken.Inconsistent h = fault Inconsistent

    pub owed_kept : (w : World) (said : Said) → IsOther said → law.holds w
        → ActsCome law (owed w said) w
    owed_kept w (Open message) is h =
        open_kept (next_number w.channels.lines) message
        (handling w.channels.no_more_sessions message.typ) w h
    owed_kept w (Agreed message) is h =
        confirmation_kept w (is_waiting w message.recipient_channel) message h
    owed_kept w Unread is h = fault Starved
    owed_kept w (Connection said) is h = spoken_kept w said h
    owed_kept w Disconnect is h = absurd is
    owed_kept w Over_cap is h = absurd is
    owed_kept w (Unfit why) is h = fault (Encoding why)
    owed_kept w Without_packets is h = fault Inconsistent
    owed_kept w _ is h = tt
