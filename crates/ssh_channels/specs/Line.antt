-- One channel of a table, and what a call writes on it and leaves of it (RFC 4254 section 5).
use Rattle.std.specs.Prelude.{ℕ, ◌-◌, ◌==◌, ◌&&◌, ◌||◌, Bool, true, false, not, cond, List, [], ◌∷◌}
use Rattle.std.specs.Prelude.{◌++◌, length, map}
use Rattle.std.specs.Prelude.{nat_le, nat_lt, Option, Some, None}
use Rattle.ssh_wire.specs.declared.channel_id.ChannelId.{ChannelId}
use Rattle.ssh_link.specs.Frames.{Frame}
use Rattle.ssh_channels.specs.declared.params.ChannelParams.{ChannelParams}
use Rattle.ssh_channels.specs.declared.chunk.Chunk.{Chunk}
use Rattle.ssh_channels.specs.Layout.{as_uint32, data_frame, eof_frame, close_frame, reply_frame}
use Rattle.ssh_channels.specs.Replies as replies
use Rattle.ssh_channels.specs.Cut.{piece_limit, cut, left_of, credit_left, raised}

-- an established channel: the peer's number, this side's, the peer's window, this side's, and their
-- packet sizes; its room is filled up to this side's window
abbrev pub established : (peer : ℕ) → ChannelId → (window room packet own_packet : ℕ)
    → ChannelParams
established peer own window room packet own_packet = record {
  recipient_channel = peer;
  sender_channel = own;
  recipient_window_size = window;
  sender_window_size = room;
  target = as_uint32 room;
  recipient_maximum_packet_size = packet;
  sender_maximum_packet_size = own_packet;
  confirmed = true;
  pending_eof = false;
  pending_close = false;
  ended = false;
  waiting = [];
  replies = replies.none_wanted;
}

-- a channel that this side opens with this window and packet size, and that the peer has not
-- confirmed
abbrev pub opening : (own window packet : ℕ) → ChannelParams
opening own window packet = record (established 0 (record { 0 = own }) 0 window 0 packet)
    { confirmed = false }

abbrev pub is_established : ChannelParams → Bool
is_established l = l.confirmed

abbrev pub is_opening : ChannelParams → Bool
is_opening l = not l.confirmed

abbrev pub nothing_waits : ChannelParams → Bool
nothing_waits l = length l.waiting == 0

abbrev pub data_waits : ChannelParams → Bool
data_waits l = not (nothing_waits l)

-- data wait on it, or an EOF or a CLOSE behind them
abbrev pub something_waits : ChannelParams → Bool
something_waits l = data_waits l || l.pending_eof || l.pending_close

-- an established channel whose end was not asked for
abbrev pub may_send : ChannelParams → Bool
may_send l = l.confirmed && not l.ended

-- an established channel whose CLOSE was not asked for
abbrev pub may_close : ChannelParams → Bool
may_close l = l.confirmed && not l.pending_close

-- the data frames of what waits and the credit lets out
abbrev pub sent : (own : ℕ) → ChannelParams → List Frame
sent own l =
    map (data_frame own l.recipient_channel)
    (cut (piece_limit l.recipient_maximum_packet_size) l.recipient_window_size l.waiting)

-- the channel after them
abbrev pub flushed : ChannelParams → ChannelParams
flushed l = record l {
  recipient_window_size = credit_left l.recipient_window_size l.waiting;
  waiting = left_of l.recipient_window_size l.waiting;
}

-- how many bytes of data they have
abbrev pub framed : ChannelParams → ℕ
framed l = l.recipient_window_size - credit_left l.recipient_window_size l.waiting

-- where all that waited is done, the deferred EOF and then the deferred CLOSE
abbrev pub deferred_if : (own : ℕ) → (done : Bool) → ChannelParams → List Frame
deferred_if own done l = cond done
    (cond l.pending_eof (eof_frame own l.recipient_channel ∷ []) []
    ++ cond l.pending_close (close_frame own l.recipient_channel ∷ []) [])
    []

-- all that may go out
abbrev pub goes : (own : ℕ) → ChannelParams → List Frame
goes own l = sent own l ++ deferred_if own (nothing_waits (flushed l)) l

-- its CLOSE is among it
abbrev pub closes : ChannelParams → Bool
closes l = nothing_waits (flushed l) && l.pending_close

-- the channel after it
abbrev pub settled : ChannelParams → ChannelParams
settled l = record (flushed l) { pending_eof = l.pending_eof && not (nothing_waits (flushed l)) }

-- and it is gone once its CLOSE went out
abbrev pub stays : ChannelParams → Option ChannelParams
stays l = cond (closes l) None (Some (settled l))

-- the peer grants so many bytes more
abbrev pub raising : (amount : ℕ) → ChannelParams → ChannelParams
raising amount l = record l { recipient_window_size = raised l.recipient_window_size amount }

-- with a grant, what waits goes out within the old credit, the amount is added, and the rest goes
-- out within the new
abbrev pub granted : (amount : ℕ) → ChannelParams → ChannelParams
granted amount l = raising amount (flushed l)

abbrev pub granting_frames : (own amount : ℕ) → ChannelParams → List Frame
granting_frames own amount l = sent own l ++ goes own (granted amount l)

-- one message takes these bytes, within the credit
abbrev pub takes_whole : (bytes : List ℕ) → ChannelParams → Bool
takes_whole bytes l =
    nat_lt 0 (length bytes) && nat_le (length bytes) l.recipient_window_size
    && nat_le (length bytes) (piece_limit l.recipient_maximum_packet_size)

-- so much of the credit is used
abbrev pub spent : (count : ℕ) → ChannelParams → ChannelParams
spent count l = record l { recipient_window_size = l.recipient_window_size - count }

-- what one data command brings waits behind the rest, and empty data add nothing
abbrev pub waits_behind : Chunk → ChannelParams → ChannelParams
waits_behind chunk l = record l {
  waiting = cond (length chunk.bytes == 0) l.waiting
      (l.waiting ++ chunk ∷ []);
}

abbrev pub alone : Chunk → ChannelParams → ChannelParams
alone chunk l = record l { waiting = chunk ∷ [] }

-- a data command: its bytes go out at once where nothing waits and no exchange runs, and else wait
abbrev pub taking : Chunk → (is_rekeying : Bool) → ChannelParams → ChannelParams
taking chunk is_rekeying l =
    cond (is_rekeying || not (nothing_waits l)) (waits_behind chunk l) (flushed (alone chunk l))

abbrev pub taking_frames : (own : ℕ) → Chunk → (is_rekeying : Bool) → ChannelParams → List Frame
taking_frames own chunk is_rekeying l = cond (is_rekeying || not (nothing_waits l)) []
    (sent own (alone chunk l))

-- an EOF command: EOF goes out, or waits behind the data
abbrev pub ending : ChannelParams → ChannelParams
ending l = record l { ended = true; pending_eof = not (nothing_waits l) }

abbrev pub ending_frames : (own : ℕ) → ChannelParams → List Frame
ending_frames own l = cond (nothing_waits l) (eof_frame own l.recipient_channel ∷ []) []

-- a CLOSE command: CLOSE goes out and the channel is gone, or it waits behind the data
abbrev pub closing : ChannelParams → Option ChannelParams
closing l = cond (nothing_waits l) None (Some (record l { ended = true; pending_close = true }))

abbrev pub closing_frames : (own : ℕ) → ChannelParams → List Frame
closing_frames own l = cond (nothing_waits l) (close_frame own l.recipient_channel ∷ []) []

-- the peer confirms it, by its own number, window and packet size
abbrev pub confirmed_by : (peer window packet : ℕ) → ChannelParams → ChannelParams
confirmed_by peer window packet l = record l {
  recipient_channel = peer;
  recipient_window_size = window;
  recipient_maximum_packet_size = packet;
  confirmed = true;
}

-- one more request wants a reply, which is owed
abbrev pub requested : ChannelParams → ChannelParams
requested l = record l { replies = replies.one_more l.replies }

-- the reply of this place, or any where no place is given, is owed
abbrev pub owes_reply : (place : Option ℕ) → ChannelParams → Bool
owes_reply place l = replies.owes place l.replies

-- that one, or the first that is owed, is settled; those that are ready go out
abbrev pub replied : (place : Option ℕ) → (success : Bool) → ChannelParams → ChannelParams
replied place success l = record l { replies = replies.settled place success l.replies }

abbrev pub reply_frames : (own : ℕ) → (place : Option ℕ) → (success : Bool) → ChannelParams
    → List Frame
reply_frames own place success l =
    map (reply_frame own l.recipient_channel) (replies.sent place success l.replies)
