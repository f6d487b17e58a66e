-- The calls on a table: what each answers, and what it makes of the table.
use Rattle.std.specs.Prelude.{ℕ, ◌==◌, Bool, true, cond, List, [], ◌∷◌, take, Option, Some, None}
use Rattle.std.specs.Map.{keys_of}
use Rattle.ssh_link.specs.Frames.{Frame}
use Rattle.ssh_wire.specs.declared.open.ChannelOpenConfirmation.{ChannelOpenConfirmation}
use Rattle.ssh_channels.specs.declared.params.ChannelParams.{ChannelParams}
use Rattle.ssh_channels.specs.declared.chunk.Chunk.{Chunk}
use Rattle.ssh_channels.specs.declared.adjusted.Adjusted.{Adjusted}
use Rattle.ssh_channels.specs.declared.adjusted.Adjusted.TheVariants.{Dropped}
use Rattle.ssh_channels.specs.Layout.{bare_frame, close_frame}
use Rattle.ssh_channels.specs.Line.{is_established, is_opening, may_send, may_close, goes, stays}
use Rattle.ssh_channels.specs.Line.{framed, settled}
use Rattle.ssh_channels.specs.Line.{granted, granting_frames, taking, taking_frames, ending}
use Rattle.ssh_channels.specs.Line.{ending_frames, closing}
use Rattle.ssh_channels.specs.Line.{closing_frames, confirmed_by, requested, owes_reply}
use Rattle.ssh_channels.specs.Line.{replied, reply_frames}
use Rattle.ssh_channels.specs.Window.{adjusting, adjusted, adjusted_frames, aimed}
use Rattle.ssh_channels.specs.Table.{Table, line_at, is_live, write, act}
use Rattle.ssh_channels.specs.Numbers.{draw, open_next, accept_next, drop_pending, add, insert}

-- a message that says no more than its number goes out
abbrev pub byte : (n message : ℕ) → Table → Table
byte n message = act is_established (λ l. bare_frame message n l.recipient_channel ∷ [])
    (λ l. Some l) n

-- data or extended data
abbrev pub send : (n : ℕ) → Chunk → (is_rekeying : Bool) → Table → Table
send n chunk is_rekeying = act may_send (taking_frames n chunk is_rekeying)
    (λ l. Some (taking chunk is_rekeying l)) n

abbrev pub eof : (n : ℕ) → Table → Table
eof n = act may_send (ending_frames n) (λ l. Some (ending l)) n

abbrev pub close : (n : ℕ) → Table → Table
close n = act may_close (closing_frames n) closing n

-- the peer's CLOSE: what waits is dropped, CLOSE goes out, and the channel is gone
abbrev pub peer_close : (n : ℕ) → Table → Table
peer_close n = act is_established (λ l. close_frame n l.recipient_channel ∷ []) (λ l. None) n

-- what waits goes out as far as the credit goes, and then what was deferred behind it
abbrev pub flush_line : (n : ℕ) → Table → Table
flush_line n = act (λ l. true) (goes n) stays n

abbrev pub framed_of : Option ChannelParams → ℕ
framed_of None = 0
framed_of (Some l) = framed l

abbrev pub framed_at : ℕ → Table → ℕ
framed_at n t = framed_of (line_at n t)

-- each of these channels in turn
abbrev pub flush_each : List ℕ → Table → Table
flush_each [] t = t
flush_each (n ∷ ns) t = flush_each ns (flush_line n t)

abbrev pub flush_all : Table → Table
flush_all t = flush_each (keys_of t.lines) t

-- the first few channels in turn
abbrev pub flush_first : (count : ℕ) → Table → Table
flush_first count t = flush_each (take count (keys_of t.lines)) t

-- the peer grants so many bytes more
abbrev pub grant : (n amount : ℕ) → Table → Table
grant n amount = act is_established (granting_frames n amount) (λ l. stays (granted amount l)) n

-- the credit after it
abbrev pub credit_of : (amount : ℕ) → Option ChannelParams → Option ℕ
credit_of amount None = None
credit_of amount (Some l) = cond l.confirmed
    (Some (settled (granted amount l)).recipient_window_size) None

abbrev pub credit_after : (n amount : ℕ) → Table → Option ℕ
credit_after n amount t = credit_of amount (line_at n t)

-- so many bytes came in on a channel, whose room is to be kept at target
abbrev pub adjust : (n count target : ℕ) → Table → Table
adjust n count target = act (λ l. true) (adjusted_frames n count target)
    (λ l. Some (adjusted count target l)) n

abbrev pub adjusting_of : (count target : ℕ) → Option ChannelParams → Adjusted
adjusting_of count target None = Dropped
adjusting_of count target (Some l) = adjusting count target l

abbrev pub adjusting_at : (n count target : ℕ) → Table → Adjusted
adjusting_at n count target t = adjusting_of count target (line_at n t)

-- this side's room on the channel, and 0 where there is none
abbrev pub room_of : Option ChannelParams → ℕ
room_of None = 0
room_of (Some l) = l.sender_window_size

abbrev pub room_at : ℕ → Table → ℕ
room_at n t = room_of (line_at n t)

-- up to how many bytes that room is filled, and 0 where there is none
abbrev pub target_of : Option ChannelParams → ℕ
target_of None = 0
target_of (Some l) = l.target

abbrev pub target_at : ℕ → Table → ℕ
target_at n t = target_of (line_at n t)

abbrev pub set_target : (n target : ℕ) → Table → Table
set_target n target = act (λ l. true) (λ l. []) (λ l. Some (aimed target l)) n

-- the peer confirms a channel that this side opened: recipient is this side's number, sender the
-- peer's
abbrev pub confirm : ChannelOpenConfirmation → Table → Table
confirm msg =
    act is_opening (λ l. [])
    (λ l. Some (confirmed_by msg.sender_channel msg.initial_window_size msg.maximum_packet_size l))
    msg.recipient_channel

-- the peer refuses it
abbrev pub fail_open : (n : ℕ) → Table → Table
fail_open n = act is_opening (λ l. []) (λ l. None) n

-- a request of the peer's on the channel wants a reply
abbrev pub request : (n : ℕ) → Table → Table
request n = act is_established (λ l. []) (λ l. Some (requested l)) n

-- the place of that reply: how many were wanted on the channel before it
abbrev pub place_of : Option ChannelParams → Option ℕ
place_of None = None
place_of (Some l) = cond l.confirmed (Some l.replies.count) None

abbrev pub place_at : ℕ → Table → Option ℕ
place_at n t = place_of (line_at n t)

-- the reply of this place, or the first that is owed, is settled; those that are ready go out
abbrev pub settle : (n : ℕ) → (place : Option ℕ) → (success : Bool) → Table → Table
settle n place success = act (owes_reply place) (reply_frames n place success)
    (λ l. Some (replied place success l)) n

abbrev pub stage : Frame → Table → Table
stage frame = write (frame ∷ [])

-- a channel is added under its own number, and this frame staged, where that number is not live
abbrev pub insert_with : Frame → ChannelParams → Table → Table
insert_with frame l t = cond (is_live l.sender_channel.0 t) t (stage frame (add l t))

-- the staged frames are handed on, where no exchange runs
abbrev pub hand_on : (is_rekeying : Bool) → Table → Table
hand_on is_rekeying t = cond is_rekeying t (record t { staged = [] })

abbrev pub handed : (is_rekeying : Bool) → Table → List Frame
handed is_rekeying t = cond is_rekeying [] t.staged

-- a call that a packet size of 0 refuses, and that then leaves all as it was
abbrev pub unless_zero : (packet : ℕ) → (Table → Table) → Table → Table
unless_zero packet call t = cond (packet == 0) t (call t)

-- the calls as data, so that a law may speak of a list of them
pub data Op : Type 0 where
  Byte : (n message : ℕ) → Op
  Send : (n : ℕ) → Chunk → (is_rekeying : Bool) → Op
  Eof : (n : ℕ) → Op
  Close : (n : ℕ) → Op
  Peer_close : (n : ℕ) → Op
  Flush_line : (n : ℕ) → (is_rekeying : Bool) → Op
  Flush_all : (is_rekeying : Bool) → Op
  Grant : (n amount : ℕ) → Op
  Adjust : (n count target : ℕ) → Op
  Draw : Op
  Open_next : (window packet : ℕ) → Op
  Accept_next : (peer window room packet own_packet : ℕ) → Op
  Drop_pending : (n : ℕ) → Op
  Insert : ChannelParams → Op
  Confirm : ChannelOpenConfirmation → Op
  Fail_open : (n : ℕ) → Op
  Set_target : (n target : ℕ) → Op
  Request : (n : ℕ) → Op
  Settle : (n : ℕ) → (place : Option ℕ) → (success : Bool) → Op
  Stage : Frame → Op

-- the table after a call, whose frames are staged
abbrev pub op : Op → Table → Table
op (Byte n message) = byte n message
op (Send n chunk is_rekeying) = send n chunk is_rekeying
op (Eof n) = eof n
op (Close n) = close n
op (Peer_close n) = peer_close n
op (Flush_line n is_rekeying) = flush_line n
op (Flush_all is_rekeying) = flush_all
op (Grant n amount) = grant n amount
op (Adjust n count target) = adjust n count target
op Draw = draw
op (Open_next window packet) = open_next window packet
op (Accept_next peer window room packet own_packet) =
    unless_zero packet (accept_next peer window room packet own_packet)
op (Drop_pending n) = drop_pending n
op (Insert l) = unless_zero l.recipient_maximum_packet_size (insert l)
op (Confirm msg) = unless_zero msg.maximum_packet_size (confirm msg)
op (Fail_open n) = fail_open n
op (Set_target n target) = set_target n target
op (Request n) = request n
op (Settle n place success) = settle n place success
op (Stage frame) = stage frame
