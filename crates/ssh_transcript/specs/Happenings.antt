-- What happens on a channel, as its callback and as its notice are printed: one line for each.
use Rattle.std.specs.Prelude.{[], ◌∷◌, codes}
use Rattle.ssh_wire.specs.OpenFailures.{open_failure_code}
use Rattle.ssh_wire.specs.Signals.{signal_name}
use Rattle.ssh_link.specs.declared.notice.ChannelMsg.{ChannelMsg}
use Rattle.ssh_link.specs.declared.notice.ChannelMsg.TheVariants as msg
use Rattle.ssh_auth.specs.declared.question.Happening.{Happening}
use Rattle.ssh_auth.specs.declared.question.Happening.TheVariants as what
use Rattle.ssh_transcript.specs.Words.{Number, Hex, Flag, Modes, Named}

-- its callback, whose name stands before the number of the channel
abbrev pub happened_words : Happening → Named
happened_words (what.Confirmed packet window) =
    (codes "channel_open_confirmation", Number packet ∷ Number window ∷ [])
happened_words (what.Data bytes) = (codes "data", Hex bytes ∷ [])
happened_words (what.ExtendedData code bytes) =
    (codes "extended_data", Number code ∷ Hex bytes ∷ [])
happened_words what.Eof = (codes "channel_eof", [])
happened_words what.Close = (codes "channel_close", [])
happened_words (what.WindowAdjusted new_size) = (codes "window_adjusted", Number new_size ∷ [])
happened_words (what.PtyRequest term columns rows width height modes) = (
  codes "pty_request",
  Hex term ∷ Number columns ∷ Number rows ∷ Number width
      ∷ Number height ∷ Modes modes ∷ [],
)
happened_words (what.X11Request single protocol cookie screen) =
    (codes "x11_request", Flag single ∷ Hex protocol ∷ Hex cookie ∷ Number screen ∷ [])
happened_words (what.EnvRequest name value) = (codes "env_request", Hex name ∷ Hex value ∷ [])
happened_words what.ShellRequest = (codes "shell_request", [])
happened_words (what.ExecRequest bytes) = (codes "exec_request", Hex bytes ∷ [])
happened_words (what.SubsystemRequest name) = (codes "subsystem_request", Hex name ∷ [])
happened_words (what.WindowChangeRequest columns rows width height) = (
  codes "window_change_request",
  Number columns ∷ Number rows ∷ Number width
      ∷ Number height ∷ [],
)
happened_words (what.Signal signal) = (codes "signal", Hex (signal_name signal) ∷ [])

-- its notice
abbrev pub msg_words : ChannelMsg → Named
msg_words (msg.Open id packet window) =
    (codes "Open", Number id.0 ∷ Number packet ∷ Number window ∷ [])
msg_words (msg.OpenFailure reason) = (codes "OpenFailure", Number (open_failure_code reason) ∷ [])
msg_words (msg.Data bytes) = (codes "Data", Hex bytes ∷ [])
msg_words (msg.ExtendedData bytes code) = (codes "ExtendedData", Hex bytes ∷ Number code ∷ [])
msg_words msg.Eof = (codes "Eof", [])
msg_words msg.Close = (codes "Close", [])
msg_words msg.Success = (codes "Success", [])
msg_words msg.Failure = (codes "Failure", [])
msg_words (msg.WindowAdjusted new_size) = (codes "WindowAdjusted", Number new_size ∷ [])
msg_words (msg.RequestPty wanted term columns rows width height modes) = (
  codes "RequestPty",
  Flag wanted ∷ Hex term ∷ Number columns ∷ Number rows ∷ Number width
      ∷ Number height ∷ Modes modes ∷ [],
)
msg_words (msg.RequestShell wanted) = (codes "RequestShell", Flag wanted ∷ [])
msg_words (msg.Exec wanted command) = (codes "Exec", Flag wanted ∷ Hex command ∷ [])
msg_words (msg.Signal signal) = (codes "Signal", Hex (signal_name signal) ∷ [])
msg_words (msg.RequestSubsystem wanted name) =
    (codes "RequestSubsystem", Flag wanted ∷ Hex name ∷ [])
msg_words (msg.RequestX11 wanted single protocol cookie screen) =
    (codes "RequestX11", Flag wanted ∷ Flag single ∷ Hex protocol ∷ Hex cookie ∷ Number screen ∷ [])
msg_words (msg.SetEnv wanted name value) =
    (codes "SetEnv", Flag wanted ∷ Hex name ∷ Hex value ∷ [])
msg_words (msg.WindowChange columns rows width height) =
    (codes "WindowChange", Number columns ∷ Number rows ∷ Number width ∷ Number height ∷ [])
msg_words (msg.AgentForward wanted) = (codes "AgentForward", Flag wanted ∷ [])
msg_words (msg.XonXoff client_can_do) = (codes "XonXoff", Flag client_can_do ∷ [])
msg_words (msg.ExitStatus status) = (codes "ExitStatus", Number status ∷ [])
msg_words (msg.ExitSignal signal dumped message language) =
    (codes "ExitSignal", Hex (signal_name signal) ∷ Flag dumped ∷ Hex message ∷ Hex language ∷ [])
