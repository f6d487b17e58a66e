-- What the sides of a connection say to one another on their channels (RFC 4254 section 5).
use Rattle.std.specs.Prelude.{ℕ, Bool, true, false, List, map, Option, Some, None}
use Rattle.ssh_link.specs.Frames.{Frame}
use Rattle.ssh_channels.specs.declared.chunk.Chunk.{Chunk}
use Rattle.ssh_channels.specs.declared.chunk.DataKind.{DataKind}
use Rattle.ssh_channels.specs.declared.chunk.DataKind.TheVariants.{Plain, Extended}
use Rattle.ssh_channels.specs.Layout.{data_frame, adjust_frame, eof_frame, close_frame}
use Rattle.ssh_ends.specs.End.{open_frame_of, confirmation_frame_of}
use Rattle.ssh_ends.specs.declared.incoming.Incoming.{Incoming}
use Rattle.ssh_ends.specs.declared.incoming.Incoming.TheVariants as incoming

-- what a message of a channel says beside its numbers
pub data Saying : Type 0 where
  -- CHANNEL_DATA and CHANNEL_EXTENDED_DATA (section 5.2)
  Data : (piece : Chunk) → Saying
  -- CHANNEL_WINDOW_ADJUST (section 5.2)
  Grant : (amount : ℕ) → Saying
  -- CHANNEL_EOF and CHANNEL_CLOSE (section 5.3)
  Eof : Saying
  Close : Saying
  -- CHANNEL_OPEN and CHANNEL_OPEN_CONFIRMATION, which tell a window and a packet size (section 5.1)
  Open : (window packet : ℕ) → Saying
  Confirm : (window packet : ℕ) → Saying

-- a message that is under way; in an open the number of its taker is not used
pub record Message : Type 0 where
  pub saying : Saying
  -- the numbers that its sender and its taker have for the channel
  pub own : ℕ
  pub peer : ℕ

abbrev pub letter : (own peer : ℕ) → Saying → Message
letter own peer saying = record { own = own; peer = peer; saying = saying }

abbrev pub letters : (own peer : ℕ) → List Saying → List Message
letters own peer sayings = map (letter own peer) sayings

-- the frame that its sender writes
abbrev pub frame_saying : (own peer : ℕ) → Saying → Frame
frame_saying own peer (Open window packet) = open_frame_of own window packet
frame_saying own peer (Confirm window packet) = confirmation_frame_of own peer window packet
frame_saying own peer (Grant amount) = adjust_frame own peer amount
frame_saying own peer (Data piece) = data_frame own peer piece
frame_saying own peer Eof = eof_frame own peer
frame_saying own peer Close = close_frame own peer

abbrev pub frame_of : Message → Frame
frame_of m = frame_saying m.own m.peer m.saying

abbrev pub code_of : DataKind → Option ℕ
code_of Plain = None
code_of (Extended code) = Some code

-- and what its taker reads in it
abbrev pub heard_in : (own peer : ℕ) → Saying → Incoming
heard_in own peer (Open window packet) = incoming.Open own window packet
heard_in own peer (Confirm window packet) = incoming.Confirmation (record {
  initial_window_size = window;
  maximum_packet_size = packet;
  recipient_channel = peer;
  sender_channel = own;
})
heard_in own peer (Grant amount) = incoming.WindowAdjust (record { 0 = peer }) amount
heard_in own peer (Data piece) =
    incoming.Data (record { 0 = peer }) (code_of piece.kind) piece.bytes
heard_in own peer Eof = incoming.Eof (record { 0 = peer })
heard_in own peer Close = incoming.Close (record { 0 = peer })

abbrev pub heard : Message → Incoming
heard m = heard_in m.own m.peer m.saying

abbrev pub is_close : Saying → Bool
is_close Close = true
is_close saying = false

abbrev pub is_open : Saying → Bool
is_open (Open window packet) = true
is_open saying = false
