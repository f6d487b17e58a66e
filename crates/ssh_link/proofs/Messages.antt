-- What is known of messages that only a client sends.
use Rattle.std.proofs.Common.{◌≡◌, ℕ, List, Bool, refl}
use Rattle.ssh_wire.specs.declared.channel_id.ChannelId.{ChannelId}
use Rattle.ssh_wire.specs.declared.sig.Sig.{Sig}
use Rattle.ssh_link.specs.ChannelCommands.{channel_command}
use Rattle.ssh_link.specs.declared.command.Command.TheVariants as command
use Rattle.ssh_link.specs.declared.notice.ChannelMsg.{ChannelMsg}
use Rattle.ssh_link.specs.declared.notice.ChannelMsg.TheVariants as msg

pub client_only : (channel : ChannelId) (said : ChannelMsg) →
    ((bytes : List ℕ) → said ≡ msg.Data bytes → ⊥)
    → ((bytes : List ℕ) (ext : ℕ) → said ≡ msg.ExtendedData bytes ext → ⊥) →
    (said ≡ msg.Eof → ⊥) → (said ≡ msg.Close → ⊥) → (said ≡ msg.Success → ⊥)
    → (said ≡ msg.Failure → ⊥) →
    ((can : Bool) → said ≡ msg.XonXoff can → ⊥) → ((status : ℕ) → said ≡ msg.ExitStatus status → ⊥)
    →
    ((signal : Sig) (dumped : Bool) (message tag : List ℕ)
    → said ≡ msg.ExitSignal signal dumped message tag → ⊥) →
    command.ClientOnly channel said ≡ channel_command channel said
client_only channel (msg.Data bytes) a b c d e f g h i = absurd (a bytes refl)
client_only channel (msg.ExtendedData bytes ext) a b c d e f g h i = absurd (b bytes ext refl)
client_only channel msg.Eof a b c d e f g h i = absurd (c refl)
client_only channel msg.Close a b c d e f g h i = absurd (d refl)
client_only channel msg.Success a b c d e f g h i = absurd (e refl)
client_only channel msg.Failure a b c d e f g h i = absurd (f refl)
client_only channel (msg.XonXoff can) a b c d e f g h i = absurd (g can refl)
client_only channel (msg.ExitStatus status) a b c d e f g h i = absurd (h status refl)
client_only channel (msg.ExitSignal signal dumped message tag) a b c d e f g h i =
    absurd (i signal dumped message tag refl)
client_only channel _ a b c d e f g h i = refl
