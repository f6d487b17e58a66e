-- The command that a message means on its channel.
use Rattle.ssh_wire.specs.declared.channel_id.ChannelId.{ChannelId}
use Rattle.ssh_link.specs.declared.command.Command.{Command}
use Rattle.ssh_link.specs.declared.command.Command.TheVariants as command
use Rattle.ssh_link.specs.declared.notice.ChannelMsg.{ChannelMsg}
use Rattle.ssh_link.specs.declared.notice.ChannelMsg.TheVariants as msg

-- what a server may send is the command of that name; all else only a client sends
abbrev pub channel_command : ChannelId → ChannelMsg → Command
channel_command channel (msg.Data bytes) = command.Data channel bytes
channel_command channel (msg.ExtendedData bytes ext) = command.ExtendedData channel ext bytes
channel_command channel msg.Eof = command.Eof channel
channel_command channel msg.Close = command.Close channel
channel_command channel msg.Success = command.ChannelSuccess channel
channel_command channel msg.Failure = command.ChannelFailure channel
channel_command channel (msg.XonXoff client_can_do) = command.XonXoff channel client_can_do
channel_command channel (msg.ExitStatus exit_status) = command.ExitStatus channel exit_status
channel_command channel (msg.ExitSignal signal_name core_dumped error_message lang_tag) =
    command.ExitSignal channel signal_name core_dumped error_message lang_tag
channel_command channel other = command.ClientOnly channel other
