-- The way back from a call: what was asked in it, and how it was answered. One line a callback.
use Rattle.std.specs.Prelude.{ℕ, List, Bool, Option, Result}
use Rattle.ssh_wire.specs.declared.channel_id.ChannelId.{ChannelId}
use Rattle.ssh_link.specs.declared.command.Command.{Command}
use Rattle.ssh_link.specs.declared.outcome.CommandOutcome.{CommandOutcome}
use Rattle.ssh_auth.specs.declared.auth.Auth.{Auth}
use Rattle.ssh_auth.specs.declared.call.Call.{Call}
use Rattle.ssh_auth.specs.declared.call.Call.TheVariants as call
use Rattle.ssh_auth.specs.declared.question.Admission.{Admission}
use Rattle.ssh_auth.specs.declared.question.Admission.TheVariants as by
use Rattle.ssh_auth.specs.declared.question.OpenType.TheVariants as type
use Rattle.ssh_auth.specs.declared.question.Happening.TheVariants as what
use Rattle.ssh_auth.specs.declared.question.Lent.{Lent}
use Rattle.ssh_auth.specs.declared.question.Lent.TheVariants.{Succeeded, Opens, Happened}
use Rattle.ssh_auth.specs.declared.question.Judged.{Judged}
use Rattle.ssh_auth.specs.declared.question.Judged.TheVariants as whether
use Rattle.ssh_auth.specs.declared.question.Question.{Question}
use Rattle.ssh_auth.specs.declared.question.Question.TheVariants.{Banner, Admits, Lends, Judges}
use Rattle.ssh_auth.specs.declared.question.Question.TheVariants.{Listens, Adjusts, Done}

-- a call by its group
pub data Was (E : Type 0) : Type 0 where
  Banner_so : (answer : Result (Option (List ℕ)) E) → Was E
  Admitted_so : (admission : Admission) → (answer : Result Auth E) → Was E
  Lent_so : (lent : Lent) → (answer : Result (Unit {0}) E) → (commands : List Command) → Was E
  Judged_so : (judged : Judged) → (answer : Result Bool E) → (commands : List Command) → Was E
  Listened_so : (address : List ℕ) → (port port_after : ℕ) → (answer : Result Bool E)
      → (commands : List Command) → Was E
  Adjusted_so : (channel : ChannelId) → (current : ℕ) → (answer : Result ℕ E) → Was E
  Done_so : (place : ℕ) → (outcome : CommandOutcome) → (answer : Result (Unit {0}) E) → Was E

abbrev pub was : {E : Type 0} → Call E → Was E
was (call.AuthenticationBanner answer) = Banner_so answer
was (call.AuthNone user answer) = Admitted_so (by.None user) answer
was (call.AuthPassword user password answer) = Admitted_so (by.Password user password) answer
was (call.AuthPublickeyOffered user public_key algorithm answer) =
    Admitted_so (by.PublickeyOffered user public_key algorithm) answer
was (call.AuthPublickey user public_key algorithm answer) =
    Admitted_so (by.Publickey user public_key algorithm) answer
was (call.AuthOpensshCertificate user certificate answer) =
    Admitted_so (by.OpensshCertificate user certificate) answer
was (call.AuthKeyboardInteractive user submethods response answer) =
    Admitted_so (by.KeyboardInteractive user submethods response) answer
was (call.AuthSucceeded answer commands) = Lent_so Succeeded answer commands
was (call.ChannelClose channel answer commands) = Lent_so (Happened channel what.Close) answer
    commands
was (call.ChannelEof channel answer commands) = Lent_so (Happened channel what.Eof) answer commands
was (call.ChannelOpenSession channel answer commands) = Lent_so (Opens channel type.Session) answer
    commands
was (call.ChannelOpenX11 channel address port answer commands) =
    Lent_so (Opens channel (type.X11 address port)) answer commands
was (call.ChannelOpenDirectTcpip channel host port from from_port answer commands) =
    Lent_so (Opens channel (type.DirectTcpip host port from from_port)) answer commands
was (call.ChannelOpenForwardedTcpip channel host port from from_port answer commands) =
    Lent_so (Opens channel (type.ForwardedTcpip host port from from_port)) answer commands
was (call.ChannelOpenDirectStreamlocal channel path answer commands) =
    Lent_so (Opens channel (type.DirectStreamlocal path)) answer commands
was (call.ChannelOpenConfirmation channel packet window answer commands) =
    Lent_so (Happened channel (what.Confirmed packet window)) answer commands
was (call.Data channel bytes answer commands) = Lent_so (Happened channel (what.Data bytes)) answer
    commands
was (call.ExtendedData channel code bytes answer commands) =
    Lent_so (Happened channel (what.ExtendedData code bytes)) answer commands
was (call.WindowAdjusted channel new_size answer commands) =
    Lent_so (Happened channel (what.WindowAdjusted new_size)) answer commands
was (call.AdjustWindow channel current answer) = Adjusted_so channel current answer
was (call.PtyRequest channel term columns rows width height modes answer commands) =
    Lent_so (Happened channel (what.PtyRequest term columns rows width height modes)) answer
    commands
was (call.X11Request channel single protocol cookie screen answer commands) =
    Lent_so (Happened channel (what.X11Request single protocol cookie screen)) answer commands
was (call.EnvRequest channel name value answer commands) =
    Lent_so (Happened channel (what.EnvRequest name value)) answer commands
was (call.ShellRequest channel answer commands) = Lent_so (Happened channel what.ShellRequest)
    answer commands
was (call.ExecRequest channel bytes answer commands) =
    Lent_so (Happened channel (what.ExecRequest bytes)) answer commands
was (call.SubsystemRequest channel name answer commands) =
    Lent_so (Happened channel (what.SubsystemRequest name)) answer commands
was (call.WindowChangeRequest channel columns rows width height answer commands) =
    Lent_so (Happened channel (what.WindowChangeRequest columns rows width height)) answer commands
was (call.AgentRequest channel answer commands) = Judged_so (whether.AgentRequest channel) answer
    commands
was (call.Signal channel signal answer commands) = Lent_so (Happened channel (what.Signal signal))
    answer commands
was (call.TcpipForward address port port_after answer commands) = Listened_so address port
    port_after answer commands
was (call.CancelTcpipForward address port answer commands) =
    Judged_so (whether.CancelTcpipForward address port) answer commands
was (call.StreamlocalForward path answer commands) = Judged_so (whether.StreamlocalForward path)
    answer commands
was (call.CancelStreamlocalForward path answer commands) =
    Judged_so (whether.CancelStreamlocalForward path) answer commands
was (call.CommandDone place outcome answer) = Done_so place outcome answer

abbrev pub question_of : {E : Type 0} → Was E → Question
question_of (Banner_so answer) = Banner
question_of (Admitted_so admission answer) = Admits admission
question_of (Lent_so lent answer commands) = Lends lent
question_of (Judged_so judged answer commands) = Judges judged
question_of (Listened_so address port port_after answer commands) = Listens address port
question_of (Adjusted_so channel current answer) = Adjusts channel current
question_of (Done_so place outcome answer) = Done place outcome

-- what was asked in a call
abbrev pub asked_of : {E : Type 0} → Call E → Question
asked_of call = question_of (was call)
