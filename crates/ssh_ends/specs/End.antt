-- One end of a connection, and what each of its calls does (RFC 4254 section 5).
use Rattle.std.specs.Prelude.{◌≡◌, ◌⊎◌, ℕ, false, codes, length, List, Option, Some, None}
use Rattle.ssh_wire.specs.Messages.{written, channel_open, channel_open_confirmation}
use Rattle.ssh_link.specs.Frames.{Frame}
use Rattle.ssh_channels.specs.declared.adjusted.Adjusted.{Adjusted}
use Rattle.ssh_channels.specs.declared.adjusted.Adjusted.TheVariants.{Dropped}
use Rattle.ssh_channels.specs.declared.chunk.DataKind.{DataKind}
use Rattle.ssh_channels.specs.declared.chunk.DataKind.TheVariants.{Plain, Extended}
use Rattle.ssh_channels.specs.Layout.{on_channel}
use Rattle.ssh_channels.specs.Line.{is_opening}
use Rattle.ssh_channels.specs.Table.{Table, has}
use Rattle.ssh_channels.specs.Numbers.{next_number, open_next, accept_next}
use Rattle.ssh_channels.specs.Calls as calls
use Rattle.ssh_ends.specs.Incoming.{IsSilent, Says}
use Rattle.ssh_ends.specs.declared.end.Delivered.{Delivered}
use Rattle.ssh_ends.specs.declared.error.EndError.{EndError}
use Rattle.ssh_ends.specs.declared.error.EndError.TheVariants.{NoMemory, Full, Unexpected}
use Rattle.ssh_ends.specs.declared.incoming.Incoming.{Incoming}
use Rattle.ssh_ends.specs.declared.incoming.Incoming.TheVariants.{Open, Confirmation}
use Rattle.ssh_ends.specs.declared.incoming.Incoming.TheVariants.{WindowAdjust, Data, Eof, Close}

-- its channels, and the window and the packet size that each of them begins with
pub record EndTable : Type 0 where
  pub table : Table
  pub window : ℕ
  pub packet : ℕ

abbrev pub with_table : Table → EndTable → EndTable
with_table t end = record end { table = t }

-- the data of a message: CHANNEL_DATA, or CHANNEL_EXTENDED_DATA of a data type code
abbrev pub kind_of : (ext : Option ℕ) → DataKind
kind_of None = Plain
kind_of (Some code) = Extended code

-- ---- opening a channel (section 5.1)

abbrev pub open_frame_of : (own window packet : ℕ) → Frame
open_frame_of own window packet =
    on_channel own (written channel_open (codes "session", (own, (window, (packet, tt)))))

abbrev pub confirmation_frame_of : (own sender window packet : ℕ) → Frame
confirmation_frame_of own sender window packet =
    on_channel own (written channel_open_confirmation (sender, (own, (window, (packet, tt)))))

-- a channel of the next number is opened, which waits for its confirmation, and this frame is
-- written
abbrev pub begun : Frame → EndTable → Table
begun frame end = calls.stage frame (open_next end.window end.packet end.table)

-- this end opens the channel of this number
abbrev pub opens : (own : ℕ) → EndTable → Table
opens own end = begun (open_frame_of own end.window end.packet) end

-- the other end's open of a channel is accepted under this number, the next one, at once
abbrev pub accepts : (own sender window packet : ℕ) → EndTable → Table
accepts own sender window packet end =
    calls.stage (confirmation_frame_of own sender end.window end.packet)
    (accept_next sender window end.window packet end.packet end.table)

abbrev pub accepts_under : Option ℕ → (sender window packet : ℕ) → EndTable → Table
accepts_under None sender window packet end = end.table
accepts_under (Some own) sender window packet end = accepts own sender window packet end

-- ---- what the other end says

-- the channels after it; an EOF changes nothing
abbrev pub taking : Incoming → EndTable → Table
taking (Open sender window packet) end =
    accepts_under (next_number end.table) sender window packet end
taking (Confirmation confirmation) end = calls.confirm confirmation end.table
taking (WindowAdjust channel amount) end = calls.grant channel.0 amount end.table
taking (Data channel ext bytes) end =
    calls.adjust channel.0 (length bytes) (calls.target_at channel.0 end.table) end.table
taking (Eof channel) end = end.table
taking (Close channel) end = calls.peer_close channel.0 end.table

-- data that the room has no place for are passed over
abbrev pub unless_dropped : Adjusted → Delivered → Option Delivered
unless_dropped Dropped delivered = None
unless_dropped _ delivered = Some delivered

-- the data that are passed on (section 5.2)
abbrev pub passing : Incoming → EndTable → Option Delivered
passing (Data channel ext bytes) end = unless_dropped
    (calls.adjusting_at channel.0 (length bytes) (calls.target_at channel.0 end.table) end.table)
    (record { channel = channel; ext = ext; bytes = bytes })
passing said end = None

-- no number is free for a channel
abbrev pub HasNoNumber : Incoming → EndTable → Type 0
HasNoNumber (Open sender window packet) end = next_number end.table ≡ None
HasNoNumber said end = ⊥

-- a channel is confirmed that does not wait for it
abbrev pub IsUncalledFor : Incoming → EndTable → Type 0
IsUncalledFor (Confirmation confirmation) end =
    has is_opening confirmation.recipient_channel end.table ≡ false
IsUncalledFor said end = ⊥

abbrev pub IsRefused : Incoming → EndTable → Type 0
IsRefused said end = HasNoNumber said end ⊎ IsUncalledFor said end

-- it is taken, and this is passed on
abbrev pub IsTaken : Incoming → (old new : EndTable) → Option Delivered → Type 0
IsTaken said old new delivered = (IsRefused said old → ⊥)
    × (new ≡ with_table (taking said old) old) × (delivered ≡ passing said old)

-- the payload says something that is taken
abbrev pub Takes : (payload : List ℕ) → (old new : EndTable) → Option Delivered → Type 0
Takes payload old new delivered =
    (said : Incoming) × Says said payload × IsTaken said old new delivered

-- why it is not taken
abbrev pub IsRefusedBy : Incoming → EndTable → EndError → Type 0
IsRefusedBy said end NoMemory = Unit {0}
IsRefusedBy said end Full = HasNoNumber said end
IsRefusedBy said end Unexpected = IsUncalledFor said end

abbrev pub TakesNot : (payload : List ℕ) → EndTable → EndError → Type 0
TakesNot payload end NoMemory = Unit {0}
TakesNot payload end Full = (said : Incoming) × Says said payload × HasNoNumber said end
TakesNot payload end Unexpected =
    IsSilent payload ⊎ ((said : Incoming) × Says said payload × IsUncalledFor said end)
