-- What a measure counts in a world: no command makes more of it, and no row but an open of the
-- peer's and a request (RFC 4254 section 5).
use Rattle.std.proofs.Common.{◌≡◌, ◌≤◌, ◌+◌, ◌||◌, ℕ, List, [], ◌∷◌, Bool, true, false}
use Rattle.std.proofs.Common.{is_some}
use Rattle.std.proofs.Common.{Option, Some, None, cond, refl, ap, arith, ◌==◌}
use Rattle.std.specs.Prelude.{length, if◌then◌else◌}
use Rattle.ssh_wire.specs.declared.channel_id.ChannelId.{ChannelId}
use Rattle.ssh_wire.specs.declared.open.ChannelOpenConfirmation.{ChannelOpenConfirmation}
use Rattle.ssh_wire.specs.declared.open_failure.ChannelOpenFailure.{ChannelOpenFailure}
use Rattle.ssh_link.specs.Frames.{Frame}
use Rattle.ssh_link.specs.declared.command.Command.{Command}
use Rattle.ssh_link.specs.declared.command.Command.TheVariants as command
use Rattle.ssh_link.specs.declared.notice.Notice.{Notice}
use Rattle.ssh_link.specs.declared.open_answer.OpenAnswer.{OpenAnswer}
use Rattle.ssh_channels.specs.declared.adjusted.Adjusted.{Adjusted}
use Rattle.ssh_channels.specs.declared.adjusted.Adjusted.TheVariants.{Dropped, Kept, Granted}
use Rattle.ssh_channels.specs.declared.chunk.Chunk.{Chunk}
use Rattle.ssh_channels.specs.declared.chunk.DataKind.TheVariants.{Plain, Extended}
use Rattle.ssh_channels.specs.Does.{coming_of}
use Rattle.ssh_channels.specs.Entry.{Entry, opened}
use Rattle.ssh_channels.specs.Layout.{chunk, on_channel, as_uint32}
use Rattle.ssh_channels.specs.Lines.{Lines, find, takes_data, takes_eof, takes_close, peer_closes}
use Rattle.ssh_channels.specs.Lines.{takes_grant, takes_in, takes_reply, aims, confirms, fails}
use Rattle.ssh_channels.specs.Lines.{joins}
use Rattle.ssh_channels.specs.Lines.{drops_pending, asks_next, next_number, write, all_go_on}
use Rattle.ssh_rules.specs.declared.messages.Spoken.{Spoken}
use Rattle.ssh_rules.specs.declared.messages.Spoken.TheVariants as spoken
use Rattle.ssh_rules.specs.GlobalReplied.{is_global_reply}
use Rattle.ssh_rules.specs.Effect.{effect_at, refused_for, done_by, decides_open, said}
use Rattle.ssh_rules.specs.Effect.{decides, fails_open, failure_of, is_too_long, opens_at}
use Rattle.ssh_rules.specs.Effect.{opens, opens_or_not, requests_on, refuses}
use Rattle.std.specs.Prelude.{if◌then◌else◌}
use Rattle.ssh_link.specs.declared.outcome.Refusal.TheVariants.{TooLong}
use Rattle.ssh_rules.specs.Layout.{at_once}
use Rattle.ssh_rules.specs.Opening.{Opening}
use Rattle.ssh_rules.specs.Opens.{opening_of, decided, confirmation_frame, failure_frame}
use Rattle.ssh_rules.specs.Outcome.{Outcome, Goes, Ends, Fails}
use Rattle.ssh_rules.specs.OwnMessages.{OwnMessage}
use Rattle.ssh_rules.specs.OwnOpens.{OwnOpen, open_payload, open_frame}
use Rattle.ssh_rules.specs.OwnRequests.{OwnRequest, request_payload, xon_xoff, exit_status}
use Rattle.ssh_rules.specs.OwnRequests.{exit_signal}
use Rattle.ssh_rules.specs.Rows.{spoken_acts}
use Rattle.ssh_rules.specs.Rows.{data_told, aims_at}
use Rattle.ssh_rules.specs.Rows.{failure_acts, confirmation_acts}
use Rattle.ssh_rules.specs.Rows.{global_reply, bound_to, gives_up_sessions}
use Rattle.ssh_rules.specs.World.{World, lined, writes, is_there, is_waiting, target_on}
use Rattle.ssh_rules.specs.World.{ChannelRequest, request_at, wants_if, settles_one, settles_for}
use Rattle.ssh_rules.specs.World.{awaits, wants_global, settles_global, settled_first}
use Rattle.ssh_rules.specs.World.{unless_ended, in_exchange}
use Rattle.ssh_rules.proofs.Plans.Acting.{EffectComes, Law, ActsCome, IsRekeyed}
use Rattle.ssh_rules.proofs.Plans.Apart.{either, refused_comes, own_comes, notes_come}
use Rattle.ssh_rules.proofs.Measure.Calls.{Measure, AreSilent, LinesOwe, lines_owe, how_many_one}
use Rattle.ssh_rules.proofs.Measure.Calls.{IsNoReply, aims_owe}
use Rattle.ssh_rules.proofs.Measure.Calls.{written_owe, data_owe, eof_owe, close_owe, peer_close_owe}
use Rattle.ssh_rules.proofs.Measure.Calls.{grant_owe, adjust_owe, confirmed_owe, failed_owe}
use Rattle.ssh_rules.proofs.Measure.Calls.{joined_owe, asked_owe, reply_owe, all_owe}
use Rattle.ssh_rules.proofs.Plans.Settled.{Anything, any_built, Any_command}
use Rattle.ssh_rules.proofs.Plans.Beside.{on_come}
use Rattle.ssh_rules.proofs.Plans.Requested.{one_kept, for_kept}

-- ---- worlds

-- so many frames were written and not handed on, or may still come
abbrev pub owing : Measure → World → ℕ
owing of w =
    lines_owe of w.channels.lines + of.waiting w.channels.opens + of.globally w.globals.wanted

abbrev pub OwesUpTo : Measure → (k : ℕ) → World → Type 0
OwesUpTo of k w = owing of w ≤ k

abbrev pub ComesUpTo : Measure → (k : ℕ) → Outcome → Type 0
ComesUpTo of k (Goes w) = OwesUpTo of k w
ComesUpTo of k (Ends w) = OwesUpTo of k w
ComesUpTo of k (Fails fault) = Unit {0}

-- the channels change, and no more of them may come
pub lined_upto : (of : Measure) (k : ℕ) (change : Lines → Lines) (w : World) →
    LinesOwe of (lines_owe of w.channels.lines) (change w.channels.lines) → OwesUpTo of k w →
    OwesUpTo of k (lined change w)
lined_upto of k change w c h = omega (arith, c, h)

pub same_lines : (of : Measure) (l : Lines) → LinesOwe of (lines_owe of l) l
same_lines of l = omega arith

pub writes_upto : (of : Measure) (k : ℕ) (frames : List Frame) (w : World) →
    AreSilent of.such frames → OwesUpTo of k w → OwesUpTo of k (writes frames w)
writes_upto of k frames w silent h =
    lined_upto of k (write frames) w
    (written_owe of _ frames w.channels.lines silent (same_lines of w.channels.lines)) h

-- a reply is settled, of this request or as the callback of one says
module _ (of : Measure) (k m : ℕ) (success : Bool) (w : World) (h : OwesUpTo of k w) where
  abbrev NoMore : Lines → Type 0
  NoMore = LinesOwe of (lines_owe of w.channels.lines)

  reply_so : (place : Option ℕ) → NoMore w.channels.lines
      → NoMore (takes_reply m place success w.channels.lines)
  reply_so place = reply_owe of _ m place success w.channels.lines

  pub one_upto : (place : Option ℕ) → OwesUpTo of k (lined (settles_one place m success) w)
  one_upto place = lined_upto of k (settles_one place m success) w
      (one_kept NoMore m success w.channels.lines reply_so place (same_lines of w.channels.lines)) h

  pub for_upto : (at : Option ChannelRequest) → OwesUpTo of k (lined (settles_for at m success) w)
  for_upto at = lined_upto of k (settles_for at m success) w
      (for_kept NoMore m success w.channels.lines reply_so at (same_lines of w.channels.lines)) h

-- ---- commands

-- an open is answered by one frame, and waits no longer
answered_upto : (of : Measure) (k m : ℕ) (opening : Opening) (payload : List ℕ)
    (change : Lines → Lines) (w : World) → IsNoReply (failure_frame m payload) →
    LinesOwe of (lines_owe of w.channels.lines) (change w.channels.lines) →
    opening_of m w ≡ Some opening → OwesUpTo of k w →
    OwesUpTo of k (writes (failure_frame m payload ∷ []) (lined change (decided m w)))
answered_upto of k m opening payload change w unlike c is h =
    let one = how_many_one of.such (change w.channels.lines).written (failure_frame m payload) in
    let left = of.answered m payload opening w.channels.opens unlike is in
    omega (arith, one, left, c, h)

fails_upto : (of : Measure) (k m : ℕ) (payload : List ℕ) (opening : Opening) (w : World)
    (long : Bool) → is_too_long payload ≡ long → IsNoReply (failure_frame m payload) →
    opening_of m w ≡ Some opening → OwesUpTo of k w →
    EffectComes (OwesUpTo of k) (fails_open m payload w)
fails_upto of k m payload opening w true is unlike o h = rw is h
fails_upto of k m payload opening w false is unlike o h =
    rw is (answered_upto of k m opening payload (drops_pending m) w unlike
    (same_lines of w.channels.lines) o h)

-- so is one that is accepted, whose channel comes with it
comes_upto : (b : Bool) (of : Measure) (k m : ℕ) (opening : Opening) (payload : List ℕ)
    (e : Entry) (w : World) → IsNoReply (failure_frame m payload) → e.replies ≡ [] →
    opening_of m w ≡ Some opening → OwesUpTo of k w →
    OwesUpTo of k (lined (λ l. cond b l (write (failure_frame m payload ∷ []) (joins e l)))
    (decided m w))
comes_upto true of k m opening payload e w unlike none is h =
    let left = of.answered m payload opening w.channels.opens unlike is in
    omega (arith, left, h)
comes_upto false of k m opening payload e w unlike none is h =
    answered_upto of k m opening payload (joins e) w unlike
    (joined_owe of _ e w.channels.lines none (same_lines of w.channels.lines)) is h

decides_upto : (of : Measure) (k m : ℕ) (opening : Opening) (reason : Option ChannelOpenFailure)
    (texts : Option (List ℕ × List ℕ)) (w : World) → opening_of m w ≡ Some opening →
    OwesUpTo of k w →
    EffectComes (OwesUpTo of k) (decides m opening reason texts w)
decides_upto of k m opening None texts w is h =
    let room = w.settings.config.window_size in
    let packet = w.settings.config.maximum_packet_size in
    comes_upto (is_some (find m w.channels.lines.entries)) of k m opening
    (confirmation_frame m opening.peer room packet).payload
    (opened m opening.peer opening.window room opening.packet packet) w (refl, refl) refl is h
decides_upto of k m opening (Some reason) texts w is h =
    fails_upto of k m (failure_of opening reason texts) opening w
    (is_too_long (failure_of opening reason texts)) refl (refl, refl) is h

answers_upto : (of : Measure) (k : ℕ) (answer : OpenAnswer) (opening : Option Opening)
    (w : World) →
    opening_of answer.channel.0 w ≡ opening → OwesUpTo of k w →
    EffectComes (OwesUpTo of k) (decides_open answer opening w)
answers_upto of k answer None w is h = h
answers_upto of k answer (Some opening) w is h =
    decides_upto of k answer.channel.0 opening answer.rejection answer.texts w is h

opened_upto : (of : Measure) (k : ℕ) (drawn : Option ℕ) (asked : OwnOpen) (w : World) →
    OwesUpTo of k w →
    EffectComes (OwesUpTo of k) (opens_at drawn asked w)
opened_upto of k None asked w h = h
opened_upto of k (Some n) asked w h =
    let room = w.settings.config.window_size in
    let packet = w.settings.config.maximum_packet_size in
    let frame = open_frame asked n room packet in
    writes_upto of k (frame ∷ []) (lined (asks_next room packet) w)
    (of.other frame refl (refl, refl), tt)
    (lined_upto of k (asks_next room packet) w
    (asked_owe of _ room packet (next_number w.channels.lines) w.channels.lines
    (same_lines of w.channels.lines)) h)

opens_upto : (of : Measure) (k : ℕ) (asked : OwnOpen) (w : World) (long : Bool) →
    is_too_long (open_payload asked 0 w.settings.config.window_size
    w.settings.config.maximum_packet_size) ≡ long → OwesUpTo of k w →
    EffectComes (OwesUpTo of k) (opens asked w)
opens_upto of k asked w true is h = rw is h
opens_upto of k asked w false is h =
    rw is (opened_upto of k (next_number w.channels.lines) asked w h)

opens_or_not_upto : (of : Measure) (k : ℕ) (asked : Option OwnOpen) (w : World) →
    OwesUpTo of k w → EffectComes (OwesUpTo of k) (opens_or_not asked w)
opens_or_not_upto of k None w h = h
opens_or_not_upto of k (Some asked) w h = opens_upto of k asked w
    (is_too_long (open_payload asked 0 w.settings.config.window_size
    w.settings.config.maximum_packet_size)) refl h

-- a request of this side's is neither an answer nor a reply
requested_upto : (of : Measure) (k : ℕ) (long : Bool) (o : Option Entry) (channel : ChannelId)
    (asked : OwnRequest) (w : World) → OwesUpTo of k w →
    EffectComes (OwesUpTo of k)
    (if long then refuses TooLong w else requests_on o channel asked w)
requested_upto of k true o channel asked w h = h
requested_upto of k false None channel asked w h = h
requested_upto of k false (Some e) channel asked w h =
    let frame = on_channel channel.0 (request_payload e.peer asked) in
    writes_upto of k (frame ∷ []) w (of.other frame refl (refl, refl), tt) h

-- a message of no channel that is no reply to a global request
pub said_upto : (of : Measure) (k : ℕ) (message : OwnMessage) (w : World) →
    is_global_reply (at_once message.payload) ≡ false → OwesUpTo of k w →
    OwesUpTo of k (said message w)
said_upto of k message w unlike h =
    let frame = at_once message.payload in
    writes_upto of k (frame ∷ []) (record (awaits message.awaited w) {
      disconnected = w.disconnected || message.ends;
    }) (of.untagged frame refl unlike, tt) h

-- a global request's reply that is wanted is sent, and then none is wanted
settled_step : (b : Bool) (of : Measure) (k : ℕ) (payload : List ℕ) (w : World) →
    w.globals.wanted ≡ b → OwesUpTo of k w →
    OwesUpTo of k (cond b (writes (at_once payload ∷ []) (wants_global false w)) w)
settled_step true of k payload w is h =
    let one = how_many_one of.such w.channels.lines.written (at_once payload) in
    let paid = of.settled payload in
    let same : of.globally w.globals.wanted ≡ of.globally true = ap of.globally is in
    omega (arith, one, paid, same, h)
settled_step false of k payload w is h = h

settles_upto : (of : Measure) (k : ℕ) (payload : List ℕ) (w : World) → OwesUpTo of k w
    → OwesUpTo of k (settles_global payload w)
settles_upto of k payload w h = settled_step w.globals.wanted of k payload w refl h

-- .. where the connection was not ended
ended_upto : (of : Measure) (k : ℕ) (payload : List ℕ) (w : World) → OwesUpTo of k w
    → OwesUpTo of k (unless_ended (settles_global payload) w)
ended_upto of k payload w h =
    either (OwesUpTo of k) w.disconnected w (settles_global payload w) h
    (settles_upto of k payload w h)

done_upto : (at : Option ChannelRequest) (of : Measure) (k : ℕ) (w : World)
    (commanded : Command) → OwesUpTo of k w → EffectComes (OwesUpTo of k) (done_by at w commanded)
done_upto at of k w (command.Data channel bytes) h =
    lined_upto of k (takes_data channel.0 (chunk Plain bytes) (in_exchange w)) w
    (data_owe of _ channel.0 (chunk Plain bytes) (in_exchange w) w.channels.lines
    (same_lines of w.channels.lines)) h
done_upto at of k w (command.ExtendedData channel code bytes) h =
    lined_upto of k (takes_data channel.0 (chunk (Extended code) bytes) (in_exchange w)) w
    (data_owe of _ channel.0 (chunk (Extended code) bytes) (in_exchange w) w.channels.lines
    (same_lines of w.channels.lines)) h
done_upto at of k w (command.Eof channel) h =
    lined_upto of k (takes_eof channel.0) w
    (eof_owe of _ channel.0 w.channels.lines (same_lines of w.channels.lines)) h
done_upto at of k w (command.Close channel) h =
    lined_upto of k (takes_close channel.0) w
    (close_owe of _ channel.0 w.channels.lines (same_lines of w.channels.lines)) h
done_upto at of k w (command.ChannelSuccess channel) h =
    for_upto of k channel.0 true w h at
done_upto at of k w (command.ChannelFailure channel) h =
    for_upto of k channel.0 false w h at
done_upto at of k w (command.XonXoff channel client_can_do) h =
    requested_upto of k (is_too_long (request_payload 0 (xon_xoff client_can_do)))
    (find channel.0 w.channels.lines.entries) channel (xon_xoff client_can_do) w h
done_upto at of k w (command.ExitStatus channel status) h =
    requested_upto of k (is_too_long (request_payload 0 (exit_status status)))
    (find channel.0 w.channels.lines.entries) channel (exit_status status) w h
done_upto at of k w (command.ExitSignal channel signal core message language) h =
    let asked = exit_signal signal core message language in
    requested_upto of k (is_too_long (request_payload 0 asked))
    (find channel.0 w.channels.lines.entries) channel asked w h
done_upto at of k w (command.Answer answer) h =
    answers_upto of k answer (opening_of answer.channel.0 w) w refl h
done_upto at of k w other h =
    own_comes (OwesUpTo of k) (said_upto of k) (settles_upto of k) (opens_or_not_upto of k) w
    other h

pub effect_upto : (at : Option ChannelRequest) (of : Measure) (k : ℕ) (w : World)
    (commanded : Command) → OwesUpTo of k w → EffectComes (OwesUpTo of k) (effect_at at w commanded)
effect_upto at of k w commanded h =
    refused_comes (OwesUpTo of k) (refused_for w.disconnected w commanded) w
    (done_by at w commanded) h (done_upto at of k w commanded h)

abbrev pub law : Measure → (k : ℕ) → Law
law of k = record {
  such = Anything;
  comes = ComesUpTo of k;
  holds = OwesUpTo of k;
  built = Any_command;
  goes = λ w h. h;
  lends = λ lent commands s. any_built commands;
  judges = λ judged answer s. any_built answer.commands;
  listens = λ address port answer s. any_built answer.commands;
  keeps = λ at w command h b. effect_upto at of k w command h;
}

-- an exchange of keys makes no more of them
pub exchanged_upto : (of : Measure) (k : ℕ) (w : World) → OwesUpTo of k w
    → IsRekeyed (OwesUpTo of k) w
exchanged_upto of k w h = (
  λ keys later. h,
  λ keys. lined_upto of k all_go_on w
      (all_owe of _ w.channels.lines (same_lines of w.channels.lines)) h,
)

-- ---- messages of channels

aims_upto : (of : Measure) (k : ℕ) (channel : ChannelId) (window : ℕ) (w : World) →
    OwesUpTo of k w → OwesUpTo of k (aims_at channel window w)
aims_upto of k channel window w h =
    let change = aims channel.0 (as_uint32 window) in
    either (OwesUpTo of k) (window == 0) w (lined change w) h
    (lined_upto of k change w
    (aims_owe of _ channel.0 (as_uint32 window) w.channels.lines (same_lines of w.channels.lines)) h)

told_upto : (of : Measure) (k : ℕ) (adjusted : Adjusted) (channel : ChannelId) (piece : Chunk)
    (target : ℕ) (w : World) → OwesUpTo of k w →
    ActsCome (law of k) (data_told adjusted channel piece target) w
told_upto of k Dropped channel piece target w h = tt
told_upto of k Kept channel piece target w h = λ world j. tt
told_upto of k (Granted amount) channel piece target w h =
    λ window. (aims_upto of k channel window w h, λ world j. tt)

failure_upto : (of : Measure) (k : ℕ) (w : World) (there waiting : Bool) (channel : ChannelId)
    (why : ChannelOpenFailure) → OwesUpTo of k w →
    ActsCome (law of k) (failure_acts there waiting channel why) w
failure_upto of k w there true channel why h = (
  lined_upto of k (fails channel.0) w
      (failed_owe of _ channel.0 w.channels.lines (same_lines of w.channels.lines)) h,
  tt,
)
failure_upto of k w true false channel why h = tt
failure_upto of k w false false channel why h = tt

pub confirmation_upto : (of : Measure) (k : ℕ) (w : World) (waiting : Bool)
    (message : ChannelOpenConfirmation) → OwesUpTo of k w →
    ActsCome (law of k) (confirmation_acts waiting message) w
confirmation_upto of k w true message h = (
  lined_upto of k (confirms message.recipient_channel message.sender_channel
      message.initial_window_size message.maximum_packet_size) w
      (confirmed_owe of _ message.recipient_channel message.sender_channel
      message.initial_window_size message.maximum_packet_size w.channels.lines
      (same_lines of w.channels.lines)) h,
  λ world j. tt,
)
confirmation_upto of k w false message h = tt

-- what is so of a request on a channel, and of a global one, by whether it wants a reply, and of a
-- reply to one of this side's, by what it tells
pub record Claims : Type 1 where
  pub on : ChannelId → Bool → Type 0
  pub globally : Bool → Type 0
  pub settles : Option Notice → Type 0

-- this is so of what was read, where it was one of these
abbrev pub OfRequest : Claims → Spoken → Type 0
OfRequest so (spoken.Requests channel wanted message happening) = so.on channel wanted
OfRequest so (spoken.RequestsAgent channel wanted) = so.on channel wanted
OfRequest so (spoken.RequestsUnknown channel wanted) = so.on channel wanted
OfRequest so (spoken.RequestsForward wanted address port) = so.globally wanted
OfRequest so (spoken.RequestsGlobally wanted judged) = so.globally wanted
OfRequest so (spoken.RequestsGloballyUnknown wanted) = so.globally wanted
OfRequest so (spoken.GivesUpSessions wanted) = so.globally wanted
OfRequest so (spoken.Settles told) = so.settles told
OfRequest so _ = Unit {0}

pub of_every : (so : Claims) (said : Spoken) →
    ((channel : ChannelId) (wanted : Bool) → so.on channel wanted) →
    ((wanted : Bool) → so.globally wanted) → ((told : Option Notice) → so.settles told) →
    OfRequest so said
of_every so (spoken.Requests channel wanted message happening) f g h = f channel wanted
of_every so (spoken.RequestsAgent channel wanted) f g h = f channel wanted
of_every so (spoken.RequestsUnknown channel wanted) f g h = f channel wanted
of_every so (spoken.RequestsForward wanted address port) f g h = g wanted
of_every so (spoken.RequestsGlobally wanted judged) f g h = g wanted
of_every so (spoken.RequestsGloballyUnknown wanted) f g h = g wanted
of_every so (spoken.GivesUpSessions wanted) f g h = g wanted
of_every so (spoken.Settles told) f g h = h told
of_every so _ f g h = tt

pub weaker : (so other : Claims) (said : Spoken) →
    ((channel : ChannelId) (wanted : Bool) → so.on channel wanted → other.on channel wanted) →
    ((wanted : Bool) → so.globally wanted → other.globally wanted) →
    ((told : Option Notice) → so.settles told → other.settles told) →
    OfRequest so said → OfRequest other said
weaker so other (spoken.Requests channel wanted message happening) f g h is = f channel wanted is
weaker so other (spoken.RequestsAgent channel wanted) f g h is = f channel wanted is
weaker so other (spoken.RequestsUnknown channel wanted) f g h is = f channel wanted is
weaker so other (spoken.RequestsForward wanted address port) f g h is = g wanted is
weaker so other (spoken.RequestsGlobally wanted judged) f g h is = g wanted is
weaker so other (spoken.RequestsGloballyUnknown wanted) f g h is = g wanted is
weaker so other (spoken.GivesUpSessions wanted) f g h is = g wanted is
weaker so other (spoken.Settles told) f g h is = h told is
weaker so other _ f g h is = tt

-- after a request no more than so many may come
abbrev pub RequestOwes : Measure → (k : ℕ) → World → Claims
RequestOwes of k w = record {
  on = λ channel wanted. OwesUpTo of k (lined (wants_if wanted channel.0) w);
  globally = λ wanted. OwesUpTo of k (wants_global wanted w);
  settles = λ told. Unit {0};
}

pub spoken_upto : (of : Measure) (k : ℕ) (w : World) (said : Spoken) →
    OfRequest (RequestOwes of k w) said → OwesUpTo of k w →
    ActsCome (law of k) (spoken_acts w said) w
spoken_upto of k w spoken.Nothing q h = tt
spoken_upto of k w (spoken.Grant channel amount) q h =
    on_come (law of k) w (find channel.0 w.channels.lines.entries) _
    (λ e. (
      lined_upto of k (takes_grant channel.0 amount) w
          (grant_owe of _ channel.0 amount w.channels.lines (same_lines of w.channels.lines)) h,
      λ world j. tt,
    ))
spoken_upto of k w (spoken.Data channel piece) q h =
    let target = target_on channel.0 w in
    let came = coming_of (length piece.bytes) target (find channel.0 w.channels.lines.entries) in
    let change = takes_in channel.0 (length piece.bytes) target in
    let kept = lined_upto of k change w
    (adjust_owe of _ channel.0 (length piece.bytes) target w.channels.lines
    (same_lines of w.channels.lines)) h in
    (kept, told_upto of k came channel piece target (lined change w) kept)
spoken_upto of k w (spoken.Tells channel message happening) q h =
    on_come (law of k) w (find channel.0 w.channels.lines.entries) _ (λ e. λ world j. tt)
spoken_upto of k w (spoken.Close channel) q h =
    on_come (law of k) w (find channel.0 w.channels.lines.entries) _
    (λ e. (
      lined_upto of k (peer_closes channel.0) w
          (peer_close_owe of _ channel.0 w.channels.lines (same_lines of w.channels.lines)) h,
      λ world j. tt,
    ))
spoken_upto of k w (spoken.Failed channel reason) q h =
    failure_upto of k w (is_there w channel.0) (is_waiting w channel.0) channel reason h
spoken_upto of k w (spoken.Requests channel wanted message happening) q h = (q, λ world j. tt)
spoken_upto of k w (spoken.RequestsAgent channel wanted) q h =
    let place = (request_at channel wanted w).place in (
      q,
      λ granted world j. (
        either (OwesUpTo of k) world.disconnected world
            (lined (settles_one place channel.0 granted) world) j
            (one_upto of k channel.0 granted world j place),
        tt,
      ),
    )
spoken_upto of k w (spoken.RequestsUnknown channel wanted) q h =
    let asked = lined (wants_if wanted channel.0) w in
    (q, (one_upto of k channel.0 false asked q (request_at channel wanted w).place, tt))
spoken_upto of k w (spoken.RequestsForward wanted address port) q h = (
  q,
  λ granted bound world j. (
    ended_upto of k (global_reply granted (bound_to port bound)) world j,
    tt,
  ),
)
spoken_upto of k w (spoken.RequestsGlobally wanted judged) q h =
    (q, λ granted world j. (ended_upto of k (global_reply granted None) world j, tt))
spoken_upto of k w (spoken.RequestsGloballyUnknown wanted) q h =
    (q, (settles_upto of k (global_reply false None) (wants_global wanted w) q, tt))
spoken_upto of k w (spoken.GivesUpSessions wanted) q h =
    let asked = wants_global wanted (gives_up_sessions w) in
    (h, (q, (settles_upto of k (global_reply true None) asked q, tt)))
spoken_upto of k w (spoken.Settles told) q h = (h, notes_come (law of k) told (settled_first w))
spoken_upto of k w spoken.Inconsistent q h = tt
