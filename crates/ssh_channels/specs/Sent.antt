-- What was sent on the channels, and what it has to be (RFC 4254 section 5).
use Rattle.std.specs.Prelude.{◌≡◌, ◌<◌, ◌≤◌, ◌-◌, ◌^◌, ◌==◌, ◌||◌, ◌&&◌, ◌⊎◌, ℕ, nat_le, Bool, true}
use Rattle.std.specs.Prelude.{false, not, cond}
use Rattle.std.specs.Prelude.{List, [], ◌∷◌, ◌++◌, length, map, take, Option, Some, None, IfSome}
use Rattle.std.specs.List.{filter}
use Rattle.ssh_wire.specs.Messages.{channel_open, channel_open_confirmation, channel_open_failure}
use Rattle.ssh_wire.specs.Messages.{channel_data}
use Rattle.ssh_wire.specs.Messages.{channel_close, channel_success, channel_failure}
use Rattle.ssh_wire.specs.declared.channel_id.ChannelId.{ChannelId}
use Rattle.ssh_link.specs.Frames.{Frame}
use Rattle.ssh_link.specs.declared.link.TraceEntry.{TraceEntry}
use Rattle.ssh_link.specs.declared.link.TraceEntry.TheVariants.{Sent}
use Rattle.ssh_channels.specs.declared.chunk.Chunk.{Chunk}
use Rattle.ssh_channels.specs.declared.chunk.DataKind.{DataKind}
use Rattle.ssh_channels.specs.Layout.{data_frame, eof_frame, close_frame, reply_frame}
use Rattle.ssh_channels.specs.Replies.{ready}
use Rattle.ssh_channels.specs.Entry.{Entry, Sound, accepted, joined}
use Rattle.ssh_channels.specs.Lines.{Left, Lines, find, last_left}

-- a frame's channel is the one of this number
abbrev pub is_tagged : (number : ℕ) → Option ChannelId → Bool
is_tagged number None = false
is_tagged number (Some channel) = number == channel.0

-- the number of a payload's message
abbrev pub message_of : (payload : List ℕ) → ℕ
message_of [] = 0
message_of (n ∷ fields) = n

-- CHANNEL_OPEN is 90, and its CONFIRMATION 91 (section 5.1)
abbrev pub is_opening : (payload : List ℕ) → Bool
is_opening payload =
    (message_of payload == channel_open.number) ||
    (message_of payload == channel_open_confirmation.number)

-- CHANNEL_OPEN_FAILURE is 92 (section 5.1)
abbrev pub is_refusal : (payload : List ℕ) → Bool
is_refusal payload = message_of payload == channel_open_failure.number

-- CHANNEL_CLOSE is 97 (section 5.3)
abbrev pub is_close : (payload : List ℕ) → Bool
is_close payload = message_of payload == channel_close.number

-- what a side sends on a channel: data of both kinds are 94 and 95, EOF is 96, CLOSE is 97
-- (sections 5.2 and 5.3)
abbrev pub is_flow : Frame → Bool
is_flow frame =
    nat_le channel_data.number (message_of frame.payload) && nat_le (message_of frame.payload)
    channel_close.number

-- a reply to a request of the peer's: CHANNEL_SUCCESS is 99, CHANNEL_FAILURE 100 (section 5.4)
abbrev pub is_reply : Frame → Bool
is_reply frame =
    (message_of frame.payload == channel_success.number) ||
    (message_of frame.payload == channel_failure.number)

-- what else is said beside these on a channel: window adjusts and requests (sections 5.2 and 5.4)
abbrev pub is_beside : Frame → Bool
is_beside frame = not (is_opening frame.payload) && not (is_refusal frame.payload) && not
    (is_flow frame) && not (is_reply frame)

-- the frames of a channel, and then one more frame
abbrev pub after_frame : (number : ℕ) → List Frame → Frame → List Frame
after_frame number frames frame = cond (is_tagged number frame.channel)
    (cond (is_opening frame.payload) [] (frames ++ frame ∷ []))
    frames

abbrev pub after_entry : (number : ℕ) → List Frame → TraceEntry → List Frame
after_entry number frames (Sent frame) = after_frame number frames frame
after_entry number frames _ = frames

-- the frames of a channel, and then this part of a trace
abbrev pub since_from : (number : ℕ) → List Frame → List TraceEntry → List Frame
since_from number frames [] = frames
since_from number frames (entry ∷ entries) = since_from number (after_entry number frames entry)
    entries

-- the frames tagged with this number after the last one of them that opened a channel
abbrev pub since : (number : ℕ) → List TraceEntry → List Frame
since number trace = since_from number [] trace

-- no frame of this part of a trace is a channel's
abbrev pub IsQuiet : List TraceEntry → Type 0
IsQuiet [] = Unit {0}
IsQuiet (Sent frame ∷ entries) = (frame.channel ≡ None) × IsQuiet entries
IsQuiet (_ ∷ entries) = IsQuiet entries

-- the number is not opened in this part of a trace
abbrev pub IsUnopened : (number : ℕ) → List TraceEntry → Type 0
IsUnopened number [] = Unit {0}
IsUnopened number (Sent frame ∷ entries) =
    ((is_tagged number frame.channel && is_opening frame.payload) ≡ false)
    × IsUnopened number entries
IsUnopened number (_ ∷ entries) = IsUnopened number entries

-- a piece of data is not empty, the peer takes it, and its message has at most 2^32 - 1 bytes
-- (section 5.2)
abbrev pub AllFit : (limit : ℕ) → List Chunk → Type 0
AllFit limit [] = Unit {0}
AllFit limit (piece ∷ pieces) =
    (0 < length piece.bytes) × (length piece.bytes ≤ limit) × (length piece.bytes ≤ 2 ^ 32 - 14)
    × AllFit limit pieces

-- an EOF frame where one was told
abbrev pub ending : (told : Bool) → (own peer : ℕ) → List Frame
ending false own peer = []
ending true own peer = eof_frame own peer ∷ []

-- with these frames a channel sent these bytes, in order and each in the message of its kind, and
-- then an EOF where it was told; no data follow an EOF, and nothing else but what is said beside
-- them
pub record Sends (e : Entry) (bytes : List (DataKind × ℕ)) (frames : List Frame) : Type 0 where
  pub pieces : List Chunk
  pub flow : filter is_flow frames ≡ map (data_frame e.number e.peer) pieces
      ++ ending e.told e.number e.peer
  pub fit : AllFit e.limit pieces
  pub sum : joined pieces ≡ bytes

-- it sent the first of these bytes, and perhaps an EOF behind them already
abbrev pub StartsWith : Entry → List (DataKind × ℕ) → List Frame → Type 0
StartsWith e bytes frames = (told : Bool) × (first more : List (DataKind × ℕ))
    × Sends (record e { told = told }) first frames × (first ++ more ≡ bytes)

-- with these frames a channel replied to its first requests that want a reply, to each as it was
-- settled, in the order of the requests, and up to the first that is owed (section 5.4)
abbrev pub RepliesInOrder : Entry → List Frame → Type 0
RepliesInOrder e frames =
    filter is_reply frames ≡ map (reply_frame e.number e.peer) (ready e.replies)

-- it sent the first of those replies
abbrev pub StartsInOrder : Entry → List Frame → Type 0
StartsInOrder e frames = (later : List Frame)
    × (map (reply_frame e.number e.peer) (ready e.replies) ≡ filter is_reply frames ++ later)

-- it sent the first framed bytes of those that it accepted, and the replies that are ready
pub record Before (e : Entry) (frames : List Frame) : Type 0 where
  pub sends : Sends e (take e.framed (accepted e)) frames
  pub replies : RepliesInOrder e frames
  pub sound : Sound e

-- the CLOSE of a channel that leaves; one to which the peer never agreed leaves without
abbrev pub farewell : Entry → List Frame
farewell e = cond e.confirmed (close_frame e.number e.peer ∷ []) []

-- opens of the peer's that are refused
abbrev pub AllRefuse : List Frame → Type 0
AllRefuse [] = Unit {0}
AllRefuse (frame ∷ frames) = (is_refusal frame.payload ≡ true) × AllRefuse frames

-- on a channel that left: what was sent on it, then its CLOSE, and then nothing but refused opens;
-- a CLOSE that does not answer the peer's came once all accepted bytes were framed (section 5.3)
abbrev pub IsLeft : Left → List Frame → Type 0
IsLeft l frames = (before after : List Frame) × Before l.entry before × AllRefuse after
    × (frames ≡ before ++ (farewell l.entry ++ after))
    × ((l.by_peer ≡ true) ⊎ (l.entry.framed ≡ length (accepted l.entry)))

-- on a number that is no channel's: what was sent on the last one that left, or nothing but refused
-- opens
abbrev pub IsGone : Option Left → List Frame → Type 0
IsGone None frames = AllRefuse frames
IsGone (Some l) frames = IsLeft l frames

abbrev pub IsKept : Option Entry → Option Left → List Frame → Type 0
IsKept (Some e) last frames = Before e frames
IsKept None last frames = IsGone last frames

-- on each number
abbrev pub AllKept : List Entry → List Left → List TraceEntry → Type 0
AllKept entries left trace = (n : ℕ) → IsKept (find n entries) (last_left n left) (since n trace)

-- the same, with the frames that were written counted as sent
abbrev pub Ledgered : Lines → List TraceEntry → Type 0
Ledgered l trace = AllKept l.entries l.left (trace ++ map Sent l.written)

-- on each channel
abbrev pub Each : (Entry → Type 0) → Lines → Type 0
Each P l = (n : ℕ) → IfSome (find n l.entries) P

-- a frame that may be staged: one of no channel, one that is said beside the flow of a channel, and
-- one that refuses an open on a number that is no channel's
abbrev pub may_go : Option Entry → Frame → Bool
may_go (Some e) frame = is_beside frame
may_go None frame = is_refusal frame.payload

abbrev pub may_stage_on : Option ChannelId → Frame → Lines → Bool
may_stage_on None frame l = true
may_stage_on (Some channel) frame l = may_go (find channel.0 l.entries) frame

abbrev pub may_stage : Frame → Lines → Bool
may_stage frame l = may_stage_on frame.channel frame l
