-- The call in which each callback was made and so answered. One line a callback: no other
-- definition names it.
use Rattle.std.specs.Prelude.{List, Bool, Result}
use Rattle.ssh_wire.specs.declared.channel_id.ChannelId.{ChannelId}
use Rattle.ssh_link.specs.declared.command.Command.{Command}
use Rattle.ssh_auth.specs.declared.auth.Auth.{Auth}
use Rattle.ssh_auth.specs.declared.call.Call.{Call}
use Rattle.ssh_auth.specs.declared.call.Call.TheVariants as call
use Rattle.ssh_auth.specs.declared.question.Admission.{Admission}
use Rattle.ssh_auth.specs.declared.question.Admission.TheVariants as by
use Rattle.ssh_auth.specs.declared.question.OpenType.{OpenType}
use Rattle.ssh_auth.specs.declared.question.OpenType.TheVariants as type
use Rattle.ssh_auth.specs.declared.question.Happening.{Happening}
use Rattle.ssh_auth.specs.declared.question.Happening.TheVariants as what
use Rattle.ssh_auth.specs.declared.question.Lent.{Lent}
use Rattle.ssh_auth.specs.declared.question.Lent.TheVariants.{Succeeded, Opens, Happened}
use Rattle.ssh_auth.specs.declared.question.Judged.{Judged}
use Rattle.ssh_auth.specs.declared.question.Judged.TheVariants as whether

-- whether a user is let in
abbrev pub admission_call : {E : Type 0} → Admission → Result Auth E → Call E
admission_call (by.None user) answer = call.AuthNone user answer
admission_call (by.Password user password) answer = call.AuthPassword user password answer
admission_call (by.PublickeyOffered user public_key algorithm) answer = call.AuthPublickeyOffered
    user public_key algorithm answer
admission_call (by.Publickey user public_key algorithm) answer = call.AuthPublickey user public_key
    algorithm answer
admission_call (by.OpensshCertificate user certificate) answer = call.AuthOpensshCertificate user
    certificate answer
admission_call (by.KeyboardInteractive user submethods response) answer =
    call.AuthKeyboardInteractive user submethods response answer

-- the peer opens a channel of this type
abbrev pub opened : {E : Type 0} → ChannelId → OpenType → Result (Unit {0}) E → List Command
    → Call E
opened channel type.Session answer commands = call.ChannelOpenSession channel answer commands
opened channel (type.X11 address port) answer commands = call.ChannelOpenX11 channel address port
    answer commands
opened channel (type.DirectTcpip host port from from_port) answer commands =
    call.ChannelOpenDirectTcpip channel host port from from_port answer commands
opened channel (type.ForwardedTcpip host port from from_port) answer commands =
    call.ChannelOpenForwardedTcpip channel host port from from_port answer commands
opened channel (type.DirectStreamlocal path) answer commands = call.ChannelOpenDirectStreamlocal
    channel path answer commands

-- this happened on the channel
abbrev pub happened : {E : Type 0} → ChannelId → Happening → Result (Unit {0}) E → List Command
    → Call E
happened channel (what.Confirmed packet window) answer commands = call.ChannelOpenConfirmation
    channel packet window answer commands
happened channel (what.Data bytes) answer commands = call.Data channel bytes answer commands
happened channel (what.ExtendedData code bytes) answer commands = call.ExtendedData channel code
    bytes answer commands
happened channel what.Eof answer commands = call.ChannelEof channel answer commands
happened channel what.Close answer commands = call.ChannelClose channel answer commands
happened channel (what.WindowAdjusted new_size) answer commands = call.WindowAdjusted channel
    new_size answer commands
happened channel (what.PtyRequest term columns rows width height modes) answer commands =
    call.PtyRequest channel term columns rows width height modes answer commands
happened channel (what.X11Request single protocol cookie screen) answer commands =
    call.X11Request channel single protocol cookie screen answer commands
happened channel (what.EnvRequest name value) answer commands = call.EnvRequest channel name value
    answer commands
happened channel what.ShellRequest answer commands = call.ShellRequest channel answer commands
happened channel (what.ExecRequest bytes) answer commands = call.ExecRequest channel bytes answer
    commands
happened channel (what.SubsystemRequest name) answer commands = call.SubsystemRequest channel name
    answer commands
happened channel (what.WindowChangeRequest columns rows width height) answer commands =
    call.WindowChangeRequest channel columns rows width height answer commands
happened channel (what.Signal signal) answer commands = call.Signal channel signal answer commands

-- the callbacks that are lent commands, and answer nothing else than an error
abbrev pub lent_call : {E : Type 0} → Lent → Result (Unit {0}) E → List Command → Call E
lent_call Succeeded answer commands = call.AuthSucceeded answer commands
lent_call (Opens channel type) answer commands = opened channel type answer commands
lent_call (Happened channel happening) answer commands = happened channel happening answer commands

-- those that are lent commands, and answer whether it is granted
abbrev pub judged_call : {E : Type 0} → Judged → Result Bool E → List Command → Call E
judged_call (whether.AgentRequest channel) answer commands = call.AgentRequest channel answer
    commands
judged_call (whether.CancelTcpipForward address port) answer commands = call.CancelTcpipForward
    address port answer commands
judged_call (whether.StreamlocalForward path) answer commands = call.StreamlocalForward path answer
    commands
judged_call (whether.CancelStreamlocalForward path) answer commands = call.CancelStreamlocalForward
    path answer commands
