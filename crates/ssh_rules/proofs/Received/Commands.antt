-- What was passed on a number, and the room there, are no more than was granted in a world; a
-- command keeps that, with what is told of it (RFC 4254 section 5.2).
use Rattle.std.proofs.Common.{◌≡◌, ◌≤◌, ◌==◌, ℕ, suc, List, [], ◌∷◌, ◌++◌, Bool, true}
use Rattle.std.proofs.Common.{false, cond, Option, Some, None, is_some, refl, sym, ◌∙◌, ap, subst}
use Rattle.std.proofs.Common.{arith}
use Rattle.std.specs.Prelude.{if◌then◌else◌}
use Rattle.ssh_wire.specs.declared.channel_id.ChannelId.{ChannelId}
use Rattle.ssh_wire.specs.declared.open_failure.ChannelOpenFailure.{ChannelOpenFailure}
use Rattle.ssh_wire.specs.Messages.{written, request_success, request_failure}
use Rattle.ssh_link.specs.Frames.{Frame}
use Rattle.ssh_link.specs.declared.command.Command.{Command}
use Rattle.ssh_link.specs.declared.command.Command.TheVariants as command
use Rattle.ssh_link.specs.declared.link.TraceEntry.{TraceEntry}
use Rattle.ssh_link.specs.declared.notice.Notice.{Notice}
use Rattle.ssh_link.specs.declared.notice.Notice.TheVariants.{Ready}
use Rattle.ssh_link.specs.declared.open_answer.OpenAnswer.{OpenAnswer}
use Rattle.ssh_link.specs.declared.outcome.CommandOutcome.{CommandOutcome}
use Rattle.ssh_link.specs.declared.outcome.CommandOutcome.TheVariants.{Opened}
use Rattle.ssh_link.specs.declared.outcome.Refusal.{Refusal}
use Rattle.ssh_link.specs.declared.outcome.Refusal.TheVariants.{TooLong}
use Rattle.ssh_channels.specs.declared.chunk.DataKind.TheVariants.{Plain, Extended}
use Rattle.ssh_channels.specs.Entry.{Entry, opened, asked}
use Rattle.ssh_channels.specs.Layout.{chunk, on_channel}
use Rattle.ssh_channels.specs.Lines.{Lines, find, added, adds_with, joins, asks, next_number}
use Rattle.ssh_channels.specs.Lines.{drops_pending}
use Rattle.ssh_channels.specs.Lines.{write}
use Rattle.ssh_channels.specs.Sent.{is_tagged, is_opening}
use Rattle.ssh_channels.proofs.Booked.{next_absent}
use Rattle.ssh_channels.proofs.Listed.{one_number, find_new, find_beside}
use Rattle.ssh_rules.specs.Effect.{Effect, Brings, effect_at, refused_for, refused_or, done_by}
use Rattle.ssh_rules.specs.Effect.{done_apart, decides_open, said, decides, fails_open, failure_of}
use Rattle.ssh_rules.specs.Effect.{is_too_long, opens_at, opens, opens_or_not, requests_on}
use Rattle.ssh_rules.specs.Effect.{refuses, confirms, sends}
use Rattle.ssh_rules.specs.Layout.{at_once}
use Rattle.ssh_rules.specs.Opening.{Opening}
use Rattle.ssh_rules.specs.Opens.{opening_of, decided, confirmation_frame, failure_frame}
use Rattle.ssh_rules.specs.OwnMessages.{OwnMessage, forward_request, cancel, keepalive, ping, debug}
use Rattle.ssh_rules.specs.OwnMessages.{disconnect_message}
use Rattle.ssh_rules.specs.OwnOpens.{OwnOpen, own_open_of, open_payload, open_frame}
use Rattle.ssh_rules.specs.OwnRequests.{OwnRequest, request_payload, xon_xoff, exit_status}
use Rattle.ssh_rules.specs.OwnRequests.{exit_signal}
use Rattle.ssh_rules.specs.Received.{passed_done, passed_noticed, added_by}
use Rattle.ssh_rules.specs.World.{World, ChannelRequest, in_exchange, lined, writes, settles_for}
use Rattle.ssh_rules.specs.World.{wants_global, settles_global}
use Rattle.ssh_rules.proofs.Plans.Acting.{EffectComes}
use Rattle.ssh_rules.proofs.Plans.Apart.{either, sent_comes}
use Rattle.ssh_rules.proofs.Received.Granting.{Roomy, AreGranted, fewer_granted, room_of, lifted, grown}
use Rattle.ssh_rules.proofs.Received.Granting.{grown_by, grown_both, unopened}
use Rattle.ssh_rules.proofs.Received.Granting.{written_room, data_room, eof_room, close_room, reply_room}
use Rattle.ssh_rules.proofs.Ledger.Commands.{Kept}
use Rattle.ssh_rules.proofs.Ledger.Pending.{IsReserved}
use Rattle.ssh_rules.proofs.Plans.Requested.{for_kept}
use Rattle.ssh_rules.proofs.Ledger.Waiting.{found_waiting}

-- ---- worlds

-- rooms began as large as this window
abbrev pub InRoom : (number window passed grew : ℕ) → World → Type 0
InRoom number window passed grew w =
    (w.settings.config.window_size ≡ window)
    × Roomy number passed window grew w.channels.lines

-- where less was passed
pub less_room : (n window passed less grew : ℕ) (w : World) → less ≤ passed →
    InRoom n window passed grew w → InRoom n window less grew w
less_room n window passed less grew w low h =
    let lines = w.channels.lines in (
      h.0,
      fewer_granted passed less (room_of (find n lines.entries))
          (grown_by n window grew lines.written) low h.1,
    )

-- ---- what is told

less_step : (b : Bool) (passed : ℕ) → cond b 0 passed ≤ passed
less_step true passed = omega arith
less_step false passed = omega arith

pub done_low : (n passed : ℕ) (outcome : CommandOutcome) → passed_done n passed outcome ≤ passed
done_low n passed (Opened channel) = less_step (n == channel.0) passed
done_low n passed _ = omega arith

pub noticed_low : (n passed : ℕ) (notice : Notice) → passed_noticed n passed notice ≤ passed
noticed_low n passed (Ready channel window packet) = less_step (n == channel.0) passed
noticed_low n passed _ = omega arith

-- after each of these notices
abbrev pub passed_through : (number passed : ℕ) → List Notice → ℕ
passed_through number passed [] = passed
passed_through number passed (notice ∷ notices) =
    passed_through number (passed_noticed number passed notice) notices

pub through_low : (n passed : ℕ) (notices : List Notice) →
    passed_through n passed notices ≤ passed
through_low n passed [] = omega arith
through_low n passed (notice ∷ notices) =
    let first = noticed_low n passed notice in
    let later = through_low n (passed_noticed n passed notice) notices in
    omega (arith, first, later)

-- so it is in the world that a command leads to, once it was told what came of it
abbrev pub EffectRooms : (number window passed grew : ℕ) → Effect → Type 0
EffectRooms number window passed grew (Brings notices outcome world) =
    InRoom number window
    (passed_done number (passed_through number passed notices) outcome) grew world

of_world : (n window passed grew : ℕ) (does : Effect) →
    EffectComes (InRoom n window passed grew) does → EffectRooms n window passed grew does
of_world n window passed grew (Brings notices outcome world) h =
    let through = through_low n passed notices in
    let done = done_low n (passed_through n passed notices) outcome in
    less_room n window passed (passed_done n (passed_through n passed notices) outcome) grew world
    (omega (arith, through, done)) h

-- ---- a channel that begins

-- it has the room of the first window, and nothing was passed on it
begun_room : (b : Bool) (n window passed grew : ℕ) (e : Entry) (frame : Frame) (l : Lines) →
    (n == e.number) ≡ b → find e.number l.entries ≡ None → e.room ≡ window →
    is_tagged n frame.channel ≡ b → is_opening frame.payload ≡ true →
    Roomy n passed window grew l →
    AreGranted (cond b 0 passed) (room_of (find n (added e l.entries)))
    (grown_by n window grew (l.written ++ frame ∷ []))
begun_room true n window passed grew e frame l t free room tagged opens h =
    let here : room_of (find n (added e l.entries)) ≡ suc e.room =
    ap (λ m. room_of (find m (added e l.entries))) (one_number n e.number t)
    ∙ ap room_of (find_new e l.entries free) in
    let g = grown_by n window grew l.written in
    let both = grown_both n window grew l.written (frame ∷ []) in
    let begun : grown n window g frame ≡ suc window =
    ap (λ c. cond c (cond (is_opening frame.payload) (suc window)
    (lifted g (added_by frame))) g) tagged
    ∙ ap (λ o. cond o (suc window) (lifted g (added_by frame))) opens in
    (omega (arith, here, both, begun, room), omega arith)
begun_room false n window passed grew e frame l t free room tagged opens h =
    let there = ap room_of (find_beside n e l.entries t) in
    let g = grown_by n window grew l.written in
    let both = grown_both n window grew l.written (frame ∷ []) in
    let same : grown n window g frame ≡ g =
    ap (λ c. cond c (cond (is_opening frame.payload) (suc window)
    (lifted g (added_by frame))) g) tagged in
    let first = h.0 in
    let second = h.1 in
    (omega (arith, there, both, same, first), omega (arith, both, same, second))

-- an open of the peer's is accepted
confirms_room : (n window passed grew number : ℕ) (opening : Opening) (w : World) →
    find number w.channels.lines.entries ≡ None → InRoom n window passed grew w →
    EffectRooms n window passed grew (confirms number opening w)
confirms_room n window passed grew number opening w free h =
    let lines = w.channels.lines in
    let room = w.settings.config.window_size in
    let packet = w.settings.config.maximum_packet_size in
    let e = opened number opening.peer opening.window room opening.packet packet in
    let frame = confirmation_frame number opening.peer room packet in
    let more : Lines = write (frame ∷ []) (joins e lines) in
    let is : adds_with frame e lines ≡ more = ap (λ o. cond (is_some o) lines more) free in (
      h.0,
      subst (Roomy n (cond (n == number) 0 passed) window grew) (sym is)
          (begun_room (n == number) n window passed grew e frame lines refl free h.0 refl refl
          h.1),
    )

-- this side's open draws a number
opened_room : (n window passed grew : ℕ) (number : Option ℕ) (own : OwnOpen) (w : World) →
    next_number w.channels.lines ≡ number → InRoom n window passed grew w →
    EffectRooms n window passed grew (opens_at number own w)
opened_room n window passed grew None own w is h = h
opened_room n window passed grew (Some number) own w is h =
    let lines = w.channels.lines in
    let room = w.settings.config.window_size in
    let packet = w.settings.config.maximum_packet_size in
    let frame = open_frame own number room packet in (
      h.0,
      subst (λ o. Roomy n (cond (n == number) 0 passed) window grew
          (write (frame ∷ []) (asks room packet o lines))) (sym is)
          (begun_room (n == number) n window passed grew (asked number room packet) frame lines refl
          (next_absent number lines is) h.0 refl refl h.1),
    )

-- ---- commands

module _ (n window passed grew : ℕ)
  where
    pub writes_room : (frame : Frame) (w : World) → is_opening frame.payload ≡ false
        → InRoom n window passed grew w → InRoom n window passed grew (writes (frame ∷ []) w)
    writes_room frame w is h = (
      h.0,
      written_room n passed window grew (frame ∷ []) w.channels.lines
          (unopened n frame is, tt) h.1,
    )

    pub said_room : (message : OwnMessage) (w : World) → InRoom n window passed grew w
        → InRoom n window passed grew (said message w)
    said_room message w h = (
      h.0,
      written_room n passed window grew (at_once message.payload ∷ []) w.channels.lines (refl, tt)
          h.1,
    )

    pub settles_room : (payload : List ℕ) (w : World) → InRoom n window passed grew w
        → InRoom n window passed grew (settles_global payload w)
    settles_room payload w h =
        either (InRoom n window passed grew) w.globals.wanted
        (writes (at_once payload ∷ []) (wants_global false w)) w (
          h.0,
          written_room n passed window grew (at_once payload ∷ []) w.channels.lines (refl, tt) h.1,
        ) h

    fails_room : (number : ℕ) (payload : List ℕ) (w : World) (long : Bool)
        → is_too_long payload ≡ long → is_opening payload ≡ false
        → InRoom n window passed grew w
        → EffectRooms n window passed grew (fails_open number payload w)
    fails_room number payload w true is unlike h = rw is h
    fails_room number payload w false is unlike h =
        rw is (writes_room (failure_frame number payload)
        (lined (drops_pending number) (decided number w)) unlike h)

    decides_room : (past : List TraceEntry) (number : ℕ) (opening : Opening)
        (reason : Option ChannelOpenFailure) (texts : Option (List ℕ × List ℕ)) (w : World)
        → opening_of number w ≡ Some opening → Kept past w → InRoom n window passed grew w
        → EffectRooms n window passed grew (decides number opening reason texts w)
    decides_room past number opening None texts w is kept h =
        let waits = found_waiting 0 number (IsReserved w.channels.lines) w.channels.opens opening
        kept.waiting is in
        confirms_room n window passed grew number opening w waits.0.0 h
    decides_room past number opening (Some reason) texts w is kept h =
        fails_room number (failure_of opening reason texts) w
        (is_too_long (failure_of opening reason texts)) refl refl h

    answers_room : (past : List TraceEntry) (answer : OpenAnswer) (opening : Option Opening)
        (w : World) → opening_of answer.channel.0 w ≡ opening → Kept past w
        → InRoom n window passed grew w
        → EffectRooms n window passed grew (decides_open answer opening w)
    answers_room past answer None w is kept h = h
    answers_room past answer (Some opening) w is kept h =
        decides_room past answer.channel.0 opening answer.rejection answer.texts w is kept h

    opens_room : (own : OwnOpen) (w : World) (long : Bool)
        → is_too_long (open_payload own 0 w.settings.config.window_size
        w.settings.config.maximum_packet_size) ≡ long → InRoom n window passed grew w
        → EffectRooms n window passed grew (opens own w)
    opens_room own w true is h = rw is h
    opens_room own w false is h =
        rw is (opened_room n window passed grew (next_number w.channels.lines) own w refl h)

    or_not_room : (own : Option OwnOpen) (w : World) → InRoom n window passed grew w
        → EffectRooms n window passed grew (opens_or_not own w)
    or_not_room None w h = h
    or_not_room (Some own) w h = opens_room own w
        (is_too_long (open_payload own 0 w.settings.config.window_size
        w.settings.config.maximum_packet_size)) refl h

    requested_room : (long : Bool) (o : Option Entry) (channel : ChannelId) (own : OwnRequest)
        (w : World) → InRoom n window passed grew w
        → EffectRooms n window passed grew
        (if long then refuses TooLong w else requests_on o channel own w)
    requested_room true o channel own w h = h
    requested_room false None channel own w h = h
    requested_room false (Some e) channel own w h =
        writes_room (on_channel channel.0 (request_payload e.peer own)) w refl h

    sent_room : (message : OwnMessage) (w : World) → InRoom n window passed grew w
        → EffectRooms n window passed grew (sends message w)
    sent_room message w h =
        of_world n window passed grew (sends message w)
        (sent_comes (InRoom n window passed grew) message w h (said_room message w h))

    apart_room : (w : World) (one : Command) → InRoom n window passed grew w
        → EffectRooms n window passed grew (done_apart w one)
    apart_room w (command.TcpipForward address port reply) h =
        sent_room (forward_request address port reply) w h
    apart_room w (command.CancelTcpipForward address port reply) h =
        sent_room (cancel address port reply) w h
    apart_room w command.Keepalive h = sent_room keepalive w h
    apart_room w (command.Ping slot) h = sent_room (ping slot) w h
    apart_room w command.RequestSuccess h = settles_room (written request_success tt) w h
    apart_room w command.RequestFailure h = settles_room (written request_failure tt) w h
    apart_room w (command.Debug always message language) h =
        sent_room (debug always message language) w h
    apart_room w (command.Disconnect reason description language) h =
        sent_room (disconnect_message reason description language) w h
    apart_room w other h = or_not_room (own_open_of other) w h

    settled_room : (at : Option ChannelRequest) (channel : ℕ) (success : Bool) (w : World)
        → InRoom n window passed grew w
        → InRoom n window passed grew (lined (settles_for at channel success) w)
    settled_room at channel success w h = (
      h.0,
      for_kept (Roomy n passed window grew) channel success w.channels.lines
          (reply_room n passed window grew channel success w.channels.lines) at h.1,
    )

    done_room : (at : Option ChannelRequest) (past : List TraceEntry) (w : World) (one : Command)
        → Kept past w → InRoom n window passed grew w
        → EffectRooms n window passed grew (done_by at w one)
    done_room at past w (command.Data channel bytes) kept h = (
      h.0,
      data_room n passed window grew channel.0 (chunk Plain bytes) (in_exchange w)
          w.channels.lines h.1,
    )
    done_room at past w (command.ExtendedData channel code bytes) kept h = (
      h.0,
      data_room n passed window grew channel.0 (chunk (Extended code) bytes) (in_exchange w)
          w.channels.lines h.1,
    )
    done_room at past w (command.Eof channel) kept h =
        (h.0, eof_room n passed window grew channel.0 w.channels.lines h.1)
    done_room at past w (command.Close channel) kept h =
        (h.0, close_room n passed window grew channel.0 w.channels.lines h.1)
    done_room at past w (command.ChannelSuccess channel) kept h =
        settled_room at channel.0 true w h
    done_room at past w (command.ChannelFailure channel) kept h =
        settled_room at channel.0 false w h
    done_room at past w (command.XonXoff channel client_can_do) kept h =
        requested_room (is_too_long (request_payload 0 (xon_xoff client_can_do)))
        (find channel.0 w.channels.lines.entries) channel (xon_xoff client_can_do) w h
    done_room at past w (command.ExitStatus channel status) kept h =
        requested_room (is_too_long (request_payload 0 (exit_status status)))
        (find channel.0 w.channels.lines.entries) channel (exit_status status) w h
    done_room at past w (command.ExitSignal channel signal core message language) kept h =
        let own = exit_signal signal core message language in
        requested_room (is_too_long (request_payload 0 own))
        (find channel.0 w.channels.lines.entries) channel own w h
    done_room at past w (command.Answer answer) kept h =
        answers_room past answer (opening_of answer.channel.0 w) w refl kept h
    done_room at past w other kept h = apart_room w other h

    refused_room : (why : Option Refusal) (w : World) (does : Effect)
        → InRoom n window passed grew w → EffectRooms n window passed grew does
        → EffectRooms n window passed grew (refused_or why w does)
    refused_room None w does h k = k
    refused_room (Some why) w does h k = h

    pub effect_room : (at : Option ChannelRequest) (past : List TraceEntry) (w : World)
        (one : Command) → Kept past w → InRoom n window passed grew w
        → EffectRooms n window passed grew (effect_at at w one)
    effect_room at past w one kept h =
        refused_room (refused_for w.disconnected w one) w (done_by at w one) h
        (done_room at past w one kept h)
