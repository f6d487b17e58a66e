-- The messages that a table of channels writes, and the frames that carry them (RFC 4254 section
-- 5).
use Rattle.std.specs.Prelude.{ℕ, ◌-◌, ◌^◌, min, Bool, true, false, List, ◌∷◌, Some, None}
use Rattle.ssh_wire.specs.Field.{number}
use Rattle.ssh_wire.specs.Messages.{written, channel_window_adjust, channel_eof, channel_close}
use Rattle.ssh_wire.specs.Messages.{channel_success, channel_failure}
use Rattle.ssh_link.specs.Frames.{Frame, channel_data, channel_extended_data}
use Rattle.ssh_channels.specs.declared.chunk.Chunk.{Chunk}
use Rattle.ssh_channels.specs.declared.chunk.DataKind.{DataKind}
use Rattle.ssh_channels.specs.declared.chunk.DataKind.TheVariants.{Plain, Extended}

abbrev pub chunk : DataKind → List ℕ → Chunk
chunk kind bytes = record { kind = kind; bytes = bytes }

-- a window is told by a number of four bytes (RFC 4251 section 5, section 5.1)
abbrev pub as_uint32 : ℕ → ℕ
as_uint32 window = min window (2 ^ 32 - 1)

-- data of either kind (section 5.2)
abbrev pub data_message : (recipient : ℕ) → DataKind → List ℕ → List ℕ
data_message recipient Plain bytes = channel_data recipient bytes
data_message recipient (Extended code) bytes = channel_extended_data recipient code bytes

-- a message that says no more than its number and its channel: byte, uint32 recipient channel
abbrev pub bare_message : (message recipient : ℕ) → List ℕ
bare_message message recipient = message ∷ number recipient

-- so many bytes more may be sent (section 5.2)
abbrev pub window_adjust : (recipient amount : ℕ) → List ℕ
window_adjust recipient amount = written channel_window_adjust (recipient, (amount, tt))

-- a frame of this side's channel of that number, which may go out at once
abbrev pub on_channel : (own : ℕ) → (payload : List ℕ) → Frame
on_channel own payload = record {
  payload = payload;
  hold_until = None;
  channel = Some (record { 0 = own });
}

-- the frames of this side's channel own, which the peer calls by its own number peer

abbrev pub data_frame : (own peer : ℕ) → Chunk → Frame
data_frame own peer piece = on_channel own (data_message peer piece.kind piece.bytes)

abbrev pub bare_frame : (message own peer : ℕ) → Frame
bare_frame message own peer = on_channel own (bare_message message peer)

-- CHANNEL_EOF (section 5.3)
abbrev pub eof_frame : (own peer : ℕ) → Frame
eof_frame = bare_frame channel_eof.number

-- CHANNEL_CLOSE (section 5.3)
abbrev pub close_frame : (own peer : ℕ) → Frame
close_frame = bare_frame channel_close.number

abbrev pub adjust_frame : (own peer amount : ℕ) → Frame
adjust_frame own peer amount = on_channel own (window_adjust peer amount)

-- CHANNEL_SUCCESS or CHANNEL_FAILURE (section 5.4)
abbrev pub reply_number : (success : Bool) → ℕ
reply_number true = channel_success.number
reply_number false = channel_failure.number

abbrev pub reply_frame : (own peer : ℕ) → (success : Bool) → Frame
reply_frame own peer success = bare_frame (reply_number success) own peer
