-- Commands that send bytes.
use Rattle.std.specs.Prelude.{ℕ, List, [], Option, Some, None}
use Rattle.ssh_wire.specs.declared.channel_id.ChannelId.{ChannelId}
use Rattle.ssh_link.specs.declared.command.Command.{Command}
use Rattle.ssh_link.specs.declared.command.Command.TheVariants.{Data, ExtendedData}

-- the bytes as a command, as data or as data of another type
abbrev pub data_command : ChannelId → Option ℕ → List ℕ → Command
data_command c None bytes = Data c bytes
data_command c (Some ext) bytes = ExtendedData c ext bytes

-- the bytes that the command sends
abbrev pub bytes_in : Command → List ℕ
bytes_in (Data c bytes) = bytes
bytes_in (ExtendedData c ext bytes) = bytes
bytes_in command = []
