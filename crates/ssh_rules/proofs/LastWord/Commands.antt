-- No call of the table writes a DISCONNECT, and no command but the one that asks for it (RFC 4253
-- section 11.1).
use Rattle.std.proofs.Common.{◌≡◌, ◌-◌, ◌||◌, ℕ, List, [], ◌∷◌, ◌++◌, map, Bool}
use Rattle.std.proofs.Common.{true, false, not, cond, Option, Some, None, refl}
use Rattle.std.specs.Prelude.{is_some, if◌then◌else◌}
use Rattle.ssh_wire.specs.declared.channel_id.ChannelId.{ChannelId}
use Rattle.ssh_wire.specs.declared.open_failure.ChannelOpenFailure.{ChannelOpenFailure}
use Rattle.ssh_wire.specs.Messages.{written, request_success}
use Rattle.ssh_wire.specs.Messages.{request_failure}
use Rattle.ssh_link.specs.Frames.{Frame}
use Rattle.ssh_link.specs.declared.command.Command.{Command}
use Rattle.ssh_link.specs.declared.command.Command.TheVariants as command
use Rattle.ssh_link.specs.declared.open_answer.OpenAnswer.{OpenAnswer}
use Rattle.ssh_link.specs.declared.outcome.Refusal.TheVariants.{TooLong}
use Rattle.ssh_channels.specs.declared.adjusted.Adjusted.{Adjusted}
use Rattle.ssh_channels.specs.declared.adjusted.Adjusted.TheVariants.{Dropped, Kept, Granted}
use Rattle.ssh_channels.specs.declared.chunk.Chunk.{Chunk}
use Rattle.ssh_channels.specs.declared.chunk.DataKind.{DataKind}
use Rattle.ssh_channels.specs.declared.chunk.DataKind.TheVariants.{Plain, Extended}
use Rattle.ssh_channels.specs.Cut.{piece_limit, cut, left_of}
use Rattle.ssh_channels.specs.Entry.{Entry, opened, accepting, after_eof, all_framed, agreed}
use Rattle.ssh_channels.specs.Entry.{closes_now, eof_out, tells_eof, flush_out, flushed, granting}
use Rattle.ssh_channels.specs.Entry.{more_may_come, close_may_come}
use Rattle.ssh_channels.specs.Entry.{requesting, reply_may_come, replying, replies_out}
use Rattle.ssh_channels.specs.Layout.{chunk, data_frame, eof_frame, close_frame}
use Rattle.ssh_channels.specs.Layout.{adjust_frame, on_channel, reply_frame}
use Rattle.ssh_channels.specs.Lines.{Lines, find, turns, closes, leaves, settles, where_found}
use Rattle.ssh_channels.specs.Lines.{takes_data, takes_eof, takes_close, peer_closes, takes_grant}
use Rattle.ssh_channels.specs.Lines.{takes_in, confirms, fails, adds_with, joins, asks, asks_next}
use Rattle.ssh_channels.specs.Lines.{write}
use Rattle.ssh_channels.specs.Lines.{added, drops_pending, next_number, numbers, goes_on}
use Rattle.ssh_channels.specs.Lines.{each_goes_on, all_go_on, aims, takes_request, takes_reply}
use Rattle.ssh_channels.specs.Room.{coming, having, adjust_out}
use Rattle.ssh_rules.specs.Effect.{refused_for, done_by, done_apart, decides_open, decides}
use Rattle.ssh_rules.specs.Effect.{fails_open, failure_of, is_too_long, opens_at, opens}
use Rattle.ssh_rules.specs.Effect.{opens_or_not, requests_on, refuses, said, sends, effect_at}
use Rattle.ssh_rules.specs.Layout.{at_once}
use Rattle.ssh_rules.specs.Opening.{Opening}
use Rattle.ssh_rules.specs.Opens.{opening_of, confirmation_frame, failure_frame}
use Rattle.ssh_rules.specs.OwnMessages.{OwnMessage, forward_request, cancel, keepalive, ping, debug}
use Rattle.ssh_rules.specs.OwnOpens.{OwnOpen, own_open_of, open_payload, open_frame}
use Rattle.ssh_rules.specs.OwnRequests.{OwnRequest, request_payload, xon_xoff, exit_status}
use Rattle.ssh_rules.specs.OwnRequests.{exit_signal}
use Rattle.ssh_rules.specs.Parting.{is_disconnect}
use Rattle.ssh_rules.specs.World.{World, writes, wants_global}
use Rattle.ssh_rules.specs.World.{settles_global, in_exchange, ChannelRequest, wants_if}
use Rattle.ssh_rules.proofs.Plans.Acting.{EffectComes}
use Rattle.ssh_rules.proofs.Plans.Apart.{either, refused_comes, sent_comes}
use Rattle.ssh_rules.proofs.Measure.Calls.{AreSilent, silent_both}
use Rattle.ssh_rules.proofs.Plans.Requested.{wants_kept, for_kept}

-- ---- frames of a channel

abbrev pub NoneDisconnect : List Frame → Type 0
NoneDisconnect frames = AreSilent is_disconnect frames

pub both_none : (xs ys : List Frame) → NoneDisconnect xs → NoneDisconnect ys
    → NoneDisconnect (xs ++ ys)
both_none xs ys h k = silent_both is_disconnect xs ys h k

piece_none : (own peer : ℕ) (kind : DataKind) (bytes : List ℕ) →
    is_disconnect (data_frame own peer (chunk kind bytes)) ≡ false
piece_none own peer Plain bytes = refl
piece_none own peer (Extended code) bytes = refl

data_none : (own peer : ℕ) (pieces : List Chunk) → NoneDisconnect (map (data_frame own peer) pieces)
data_none own peer [] = tt
data_none own peer (p ∷ pieces) =
    (piece_none own peer p.kind p.bytes, data_none own peer pieces)

flush_none : (e : Entry) → NoneDisconnect (flush_out e)
flush_none e = data_none e.number e.peer
    (cut (piece_limit e.limit) (e.granted - e.framed) (left_of e.framed e.chunks))

eof_step : (b : Bool) (e : Entry) → NoneDisconnect (cond b (eof_frame e.number e.peer ∷ []) [])
eof_step true e = (refl, tt)
eof_step false e = tt

eof_none : (e : Entry) → NoneDisconnect (eof_out e)
eof_none e = eof_step (tells_eof e) e

close_none : (e : Entry) → NoneDisconnect (close_frame e.number e.peer ∷ [])
close_none e = (refl, tt)

-- ---- calls of the table

-- no DISCONNECT was written
abbrev pub IsQuiet : Lines → Type 0
IsQuiet l = NoneDisconnect l.written

turned : (e : Entry) (frames : List Frame) (l : Lines) → NoneDisconnect frames → IsQuiet l
    → IsQuiet (turns e frames l)
turned e frames l s h = both_none l.written frames h s

gone : (e : Entry) (by_peer : Bool) (frames : List Frame) (l : Lines) → NoneDisconnect frames
    → IsQuiet l → IsQuiet (closes e by_peer frames l)
gone e by_peer frames l s h =
    both_none l.written (frames ++ close_frame e.number e.peer ∷ []) h
    (both_none frames (close_frame e.number e.peer ∷ []) s (close_none e))

chosen : (b : Bool) (l m : Lines) → IsQuiet l → IsQuiet m → IsQuiet (cond b l m)
chosen true l m h k = h
chosen false l m h k = k

settled : (e : Entry) (frames : List Frame) (l : Lines) → NoneDisconnect frames → IsQuiet l
    → IsQuiet (settles e frames l)
settled e frames l s h =
    let all = frames ++ eof_out e in
    let t = both_none frames (eof_out e) s (eof_none e) in
    chosen (closes_now e) (closes (after_eof e) false all l) (turns (after_eof e) all l)
    (gone (after_eof e) false all l t h) (turned (after_eof e) all l t h)

found : (o : Option Entry) (change : Entry → Lines → Lines) (l : Lines)
    → ((e : Entry) → IsQuiet (change e l)) → IsQuiet l → IsQuiet (where_found o change l)
found None change l c h = h
found (Some e) change l c h = c e

pub data_quiet : (m : ℕ) (piece : Chunk) (is_rekeying : Bool) (l : Lines) → IsQuiet l
    → IsQuiet (takes_data m piece is_rekeying l)
data_quiet m piece is_rekeying l h = found (find m l.entries) _ l
    (λ e. chosen (more_may_come e) _ _
    (chosen (is_rekeying || not (all_framed e)) _ _
    (turned (accepting piece e) [] l tt h)
    (turned (flushed (accepting piece e)) (flush_out (accepting piece e)) l
    (flush_none (accepting piece e)) h)) h) h

pub eof_quiet : (m : ℕ) (l : Lines) → IsQuiet l → IsQuiet (takes_eof m l)
eof_quiet m l h = found (find m l.entries) _ l
    (λ e. chosen (more_may_come e) _ _ (settled (record e { eof = true }) [] l tt h) h) h

pub close_quiet : (m : ℕ) (l : Lines) → IsQuiet l → IsQuiet (takes_close m l)
close_quiet m l h = found (find m l.entries) _ l
    (λ e. chosen (close_may_come e) _ _ (settled (record e { close = true }) [] l tt h) h) h

pub peer_close_quiet : (m : ℕ) (l : Lines) → IsQuiet l → IsQuiet (peer_closes m l)
peer_close_quiet m l h = found (find m l.entries) _ l
    (λ e. chosen e.confirmed _ _ (gone e true [] l tt h) h) h

pub grant_quiet : (m amount : ℕ) (l : Lines) → IsQuiet l → IsQuiet (takes_grant m amount l)
grant_quiet m amount l h = found (find m l.entries) _ l
    (λ e. chosen e.confirmed _ _
    (settled (flushed (granting amount (flushed e)))
    (flush_out e ++ flush_out (granting amount (flushed e))) l
    (both_none (flush_out e) (flush_out (granting amount (flushed e))) (flush_none e)
    (flush_none (granting amount (flushed e)))) h) h) h

goes_on_quiet : (m : ℕ) (l : Lines) → IsQuiet l → IsQuiet (goes_on m l)
goes_on_quiet m l h = found (find m l.entries) _ l
    (λ e. settled (flushed e) (flush_out e) l (flush_none e) h) h

each_quiet : (ns : List ℕ) (l : Lines) → IsQuiet l → IsQuiet (each_goes_on ns l)
each_quiet [] l h = h
each_quiet (n ∷ ns) l h = each_quiet ns (goes_on n l) (goes_on_quiet n l h)

pub all_quiet : (l : Lines) → IsQuiet l → IsQuiet (all_go_on l)
all_quiet l h = each_quiet (numbers l.entries) l h

adjusted : (count target : ℕ) (came : Adjusted) (e : Entry) (l : Lines) → IsQuiet l
    → IsQuiet (turns (having came count target e) (adjust_out came e) l)
adjusted count target Dropped e l h = turned e [] l tt h
adjusted count target Kept e l h = turned e [] l tt h
adjusted count target (Granted amount) e l h =
    turned e (adjust_frame e.number e.peer amount ∷ []) l (refl, tt) h

pub adjust_quiet : (m count target : ℕ) (l : Lines) → IsQuiet l
    → IsQuiet (takes_in m count target l)
adjust_quiet m count target l h = found (find m l.entries) _ l
    (λ e. adjusted count target (coming count target e) e l h) h

pub confirmed_quiet : (m peer window limit : ℕ) (l : Lines) → IsQuiet l
    → IsQuiet (confirms m peer window limit l)
confirmed_quiet m peer window limit l h = found (find m l.entries) _ l
    (λ e. chosen (not e.confirmed) _ _ (turned (agreed peer window limit e) [] l tt h) h) h

pub failed_quiet : (m : ℕ) (l : Lines) → IsQuiet l → IsQuiet (fails m l)
failed_quiet m l h = found (find m l.entries) _ l
    (λ e. chosen (not e.confirmed) (leaves e true [] l) l (both_none l.written [] h tt) h) h

pub aims_quiet : (m target : ℕ) (l : Lines) → IsQuiet l → IsQuiet (aims m target l)
aims_quiet m target l h = found (find m l.entries) _ l
    (λ e. turned (record e { target = target }) [] l tt h) h

request_quiet : (m : ℕ) (l : Lines) → IsQuiet l → IsQuiet (takes_request m l)
request_quiet m l h = found (find m l.entries) _ l
    (λ e. chosen e.confirmed _ _ (turned (requesting e) [] l tt h) h) h

pub wanted_quiet : (m : ℕ) (wanted : Bool) (l : Lines) → IsQuiet l → IsQuiet (wants_if wanted m l)
wanted_quiet m wanted l h = wants_kept IsQuiet wanted m l (request_quiet m l) h

-- a reply is no DISCONNECT
replies_none : (own peer : ℕ) (said : List Bool) →
    NoneDisconnect (map (reply_frame own peer) said)
replies_none own peer [] = tt
replies_none own peer (true ∷ said) = (refl, replies_none own peer said)
replies_none own peer (false ∷ said) = (refl, replies_none own peer said)

pub reply_quiet : (m : ℕ) (place : Option ℕ) (success : Bool) (l : Lines) → IsQuiet l
    → IsQuiet (takes_reply m place success l)
reply_quiet m place success l h = found (find m l.entries) _ l
    (λ e. chosen (reply_may_come place e) _ _
    (turned (replying place success e) (replies_out place success e) l
    (replies_none e.number e.peer _) h) h) h

added_quiet : (frame : Frame) (e : Entry) (l : Lines) → is_disconnect frame ≡ false → IsQuiet l
    → IsQuiet (adds_with frame e l)
added_quiet frame e l other h =
    chosen (is_some (find e.number l.entries)) l (write (frame ∷ []) (joins e l)) h
    (both_none l.written (frame ∷ []) h (other, tt))

asked_quiet : (room packet : ℕ) (drawn : Option ℕ) (l : Lines) → IsQuiet l
    → IsQuiet (asks room packet drawn l)
asked_quiet room packet None l h = h
asked_quiet room packet (Some n) l h = h

-- ---- commands

abbrev pub IsSilent : World → Type 0
IsSilent w = IsQuiet w.channels.lines

-- one more frame
pub written_silent : (frame : Frame) (w : World) → is_disconnect frame ≡ false → IsSilent w
    → IsSilent (writes (frame ∷ []) w)
written_silent frame w other h = both_none w.channels.lines.written (frame ∷ []) h (other, tt)

fails_silent : (m : ℕ) (payload : List ℕ) (w : World) (long : Bool) → is_too_long payload ≡ long
    → is_disconnect (failure_frame m payload) ≡ false → IsSilent w
    → EffectComes IsSilent (fails_open m payload w)
fails_silent m payload w true is other h = rw is h
fails_silent m payload w false is other h =
    rw is (both_none w.channels.lines.written (failure_frame m payload ∷ []) h (other, tt))

decides_silent : (m : ℕ) (opening : Opening) (reason : Option ChannelOpenFailure)
    (texts : Option (List ℕ × List ℕ)) (w : World) → IsSilent w
    → EffectComes IsSilent (decides m opening reason texts w)
decides_silent m opening None texts w h =
    let room = w.settings.config.window_size in
    let packet = w.settings.config.maximum_packet_size in
    added_quiet (confirmation_frame m opening.peer room packet)
    (opened m opening.peer opening.window room opening.packet packet) w.channels.lines refl h
decides_silent m opening (Some reason) texts w h =
    let payload = failure_of opening reason texts in
    fails_silent m payload w (is_too_long payload) refl refl h

answers_silent : (answer : OpenAnswer) (opening : Option Opening) (w : World) → IsSilent w
    → EffectComes IsSilent (decides_open answer opening w)
answers_silent answer None w h = h
answers_silent answer (Some opening) w h =
    decides_silent answer.channel.0 opening answer.rejection answer.texts w h

opened_silent : (drawn : Option ℕ) (asked : OwnOpen) (w : World) → IsSilent w
    → EffectComes IsSilent (opens_at drawn asked w)
opened_silent None asked w h = h
opened_silent (Some n) asked w h =
    let room = w.settings.config.window_size in
    let packet = w.settings.config.maximum_packet_size in
    let l = asks_next room packet w.channels.lines in
    both_none l.written (open_frame asked n room packet ∷ [])
    (asked_quiet room packet (next_number w.channels.lines) w.channels.lines h) (refl, tt)

opens_silent : (asked : OwnOpen) (w : World) (long : Bool)
    → is_too_long (open_payload asked 0 w.settings.config.window_size
    w.settings.config.maximum_packet_size) ≡ long → IsSilent w
    → EffectComes IsSilent (opens asked w)
opens_silent asked w true is h = rw is h
opens_silent asked w false is h =
    rw is (opened_silent (next_number w.channels.lines) asked w h)

or_not_silent : (asked : Option OwnOpen) (w : World) → IsSilent w
    → EffectComes IsSilent (opens_or_not asked w)
or_not_silent None w h = h
or_not_silent (Some asked) w h = opens_silent asked w
    (is_too_long (open_payload asked 0 w.settings.config.window_size
    w.settings.config.maximum_packet_size)) refl h

requested_silent : (long : Bool) (o : Option Entry) (channel : ChannelId) (asked : OwnRequest)
    (w : World) → IsSilent w
    → EffectComes IsSilent (if long then refuses TooLong w else requests_on o channel asked w)
requested_silent true o channel asked w h = h
requested_silent false None channel asked w h = h
requested_silent false (Some e) channel asked w h =
    written_silent (on_channel channel.0 (request_payload e.peer asked)) w refl h

-- a message of no channel that is another
pub said_silent : (message : OwnMessage) (w : World)
    → is_disconnect (at_once message.payload) ≡ false → IsSilent w → IsSilent (said message w)
said_silent message w other h =
    both_none w.channels.lines.written (at_once message.payload ∷ []) h (other, tt)

sent_silent : (message : OwnMessage) (w : World) → is_disconnect (at_once message.payload) ≡ false
    → IsSilent w → EffectComes IsSilent (sends message w)
sent_silent message w other h =
    sent_comes IsSilent message w h (said_silent message w other h)

pub settles_silent : (payload : List ℕ) (w : World) → is_disconnect (at_once payload) ≡ false
    → IsSilent w → IsSilent (settles_global payload w)
settles_silent payload w other h =
    either IsSilent w.globals.wanted (writes (at_once payload ∷ []) (wants_global false w)) w
    (both_none w.channels.lines.written (at_once payload ∷ []) h (other, tt)) h

-- it asks for no DISCONNECT
abbrev pub IsOther : Command → Type 0
IsOther (command.Disconnect reason description language) = ⊥
IsOther _ = Unit {0}

apart_silent : (w : World) (one : Command) → IsOther one → IsSilent w
    → EffectComes IsSilent (done_apart w one)
apart_silent w (command.TcpipForward address port reply) other h =
    sent_silent (forward_request address port reply) w refl h
apart_silent w (command.CancelTcpipForward address port reply) other h =
    sent_silent (cancel address port reply) w refl h
apart_silent w command.Keepalive other h = sent_silent keepalive w refl h
apart_silent w (command.Ping slot) other h = sent_silent (ping slot) w refl h
apart_silent w command.RequestSuccess other h =
    settles_silent (written request_success tt) w refl h
apart_silent w command.RequestFailure other h =
    settles_silent (written request_failure tt) w refl h
apart_silent w (command.Debug always message language) other h =
    sent_silent (debug always message language) w refl h
apart_silent w (command.Disconnect reason description language) other h = absurd other
apart_silent w one other h = or_not_silent (own_open_of one) w h

done_silent : (at : Option ChannelRequest) (w : World) (one : Command) → IsOther one → IsSilent w
    → EffectComes IsSilent (done_by at w one)
done_silent at w (command.Data channel bytes) other h =
    data_quiet channel.0 (chunk Plain bytes) (in_exchange w) w.channels.lines h
done_silent at w (command.ExtendedData channel code bytes) other h =
    data_quiet channel.0 (chunk (Extended code) bytes) (in_exchange w) w.channels.lines h
done_silent at w (command.Eof channel) other h = eof_quiet channel.0 w.channels.lines h
done_silent at w (command.Close channel) other h = close_quiet channel.0 w.channels.lines h
done_silent at w (command.ChannelSuccess channel) other h =
    for_kept IsQuiet channel.0 true w.channels.lines
    (λ place. reply_quiet channel.0 place true w.channels.lines) at h
done_silent at w (command.ChannelFailure channel) other h =
    for_kept IsQuiet channel.0 false w.channels.lines
    (λ place. reply_quiet channel.0 place false w.channels.lines) at h
done_silent at w (command.XonXoff channel client_can_do) other h =
    requested_silent (is_too_long (request_payload 0 (xon_xoff client_can_do)))
    (find channel.0 w.channels.lines.entries) channel (xon_xoff client_can_do) w h
done_silent at w (command.ExitStatus channel status) other h =
    requested_silent (is_too_long (request_payload 0 (exit_status status)))
    (find channel.0 w.channels.lines.entries) channel (exit_status status) w h
done_silent at w (command.ExitSignal channel signal core message language) other h =
    let asked = exit_signal signal core message language in
    requested_silent (is_too_long (request_payload 0 asked))
    (find channel.0 w.channels.lines.entries) channel asked w h
done_silent at w (command.Answer answer) other h =
    answers_silent answer (opening_of answer.channel.0 w) w h
done_silent at w one other h = apart_silent w one other h

pub effect_silent : (at : Option ChannelRequest) (w : World) (one : Command) → IsOther one
    → IsSilent w → EffectComes IsSilent (effect_at at w one)
effect_silent at w one other h =
    refused_comes IsSilent (refused_for w.disconnected w one) w (done_by at w one) h
    (done_silent at w one other h)
