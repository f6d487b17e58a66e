-- What a payload says to an end (RFC 4254 section 5).
use Rattle.std.specs.Prelude.{◌≡◌, ◌≢◌, ◌==◌, ◌⊎◌, ℕ, true, List, [], ◌∷◌, Some, None}
use Rattle.ssh_wire.specs.Field.{SpellsWhole}
use Rattle.ssh_wire.specs.Messages.{Message, channel_open, channel_open_confirmation}
use Rattle.ssh_wire.specs.Messages.{channel_window_adjust, channel_data, channel_extended_data}
use Rattle.ssh_wire.specs.Messages.{channel_eof, channel_close}
use Rattle.ssh_wire.specs.Open.{SpellsOpen, SpellsConfirmation}
use Rattle.ssh_wire.specs.declared.channel_type.ChannelType.{ChannelType}
use Rattle.ssh_wire.specs.declared.error.LayoutError.{LayoutError}
use Rattle.ssh_wire.specs.declared.error.LayoutError.TheVariants.{Wire}
use Rattle.ssh_wire.specs.declared.error.WireError.TheVariants as wire
use Rattle.ssh_channels.specs.declared.error.TableError.{TableError}
use Rattle.ssh_channels.specs.declared.error.TableError.TheVariants as table
use Rattle.ssh_ends.specs.declared.error.EndError.{EndError}
use Rattle.ssh_ends.specs.declared.error.EndError.TheVariants.{NoMemory, Full, Unexpected}
use Rattle.ssh_ends.specs.declared.incoming.Incoming.{Incoming}
use Rattle.ssh_ends.specs.declared.incoming.Incoming.TheVariants.{Open, Confirmation}
use Rattle.ssh_ends.specs.declared.incoming.Incoming.TheVariants.{WindowAdjust, Data, Eof, Close}

-- what the table refuses, as an end does
abbrev pub refusal_of : TableError → EndError
refusal_of table.NoMemory = NoMemory
refusal_of table.Full = Full
refusal_of table.Inconsistent = Unexpected

-- why an open is not read
abbrev pub unread_by : LayoutError → EndError
unread_by (Wire wire.NoMemory) = NoMemory
unread_by why = Unexpected

-- the message that says it
abbrev pub message_of : Incoming → Message
message_of (Open sender window packet) = channel_open
message_of (Confirmation confirmation) = channel_open_confirmation
message_of (WindowAdjust channel amount) = channel_window_adjust
message_of (Data channel None bytes) = channel_data
message_of (Data channel (Some code) bytes) = channel_extended_data
message_of (Eof channel) = channel_eof
message_of (Close channel) = channel_close

abbrev pub number_of : Incoming → ℕ
number_of said = (message_of said).number

-- its fields; an open of any type says the same
abbrev pub SaysFields : Incoming → (fields : List ℕ) → Type 0
SaysFields (Open sender window packet) fields = (typ : ChannelType) × (rest : List ℕ)
    × SpellsOpen (record {
      typ = typ;
      recipient_channel = sender;
      recipient_window_size = window;
      recipient_maximum_packet_size = packet;
    }) fields rest
SaysFields (Confirmation confirmation) fields = SpellsConfirmation confirmation fields []
SaysFields (WindowAdjust channel amount) fields =
    SpellsWhole channel_window_adjust.fields (channel.0, (amount, tt)) fields
SaysFields (Data channel None bytes) fields =
    SpellsWhole channel_data.fields (channel.0, (bytes, tt)) fields
SaysFields (Data channel (Some code) bytes) fields =
    SpellsWhole channel_extended_data.fields (channel.0, (code, (bytes, tt))) fields
SaysFields (Eof channel) fields = SpellsWhole channel_eof.fields (channel.0, tt) fields
SaysFields (Close channel) fields = SpellsWhole channel_close.fields (channel.0, tt) fields

-- the payload says this
abbrev pub Says : Incoming → (payload : List ℕ) → Type 0
Says said payload =
    (fields : List ℕ) × (payload ≡ number_of said ∷ fields) × SaysFields said fields

-- the other side takes data at all
abbrev pub HasPackets : Incoming → Type 0
HasPackets (Open sender window packet) = packet ≢ 0
HasPackets (Confirmation confirmation) = confirmation.maximum_packet_size ≢ 0
HasPackets said = Unit {0}

-- these fields behind this number say nothing to an end
abbrev pub AreSilent : (number : ℕ) → (fields : List ℕ) → Type 0
AreSilent number fields =
    (said : Incoming) → (number_of said == number) ≡ true → SaysFields said fields → ⊥

-- why they are not read
abbrev pub IsNo : (number : ℕ) → (fields : List ℕ) → EndError → Type 0
IsNo number fields e = (e ≡ NoMemory) ⊎ ((e ≡ Unexpected) × AreSilent number fields)

-- the payload says nothing to an end
abbrev pub IsSilent : (payload : List ℕ) → Type 0
IsSilent payload = (said : Incoming) → Says said payload → ⊥

-- why it is not read
abbrev pub IsUnread : (payload : List ℕ) → EndError → Type 0
IsUnread payload e = (e ≡ NoMemory) ⊎ ((e ≡ Unexpected) × IsSilent payload)
