-- The commands that a caller gives, by their numbers in include/gidzork.h.
use Rattle.std.specs.Prelude.{ℕ, List, ◌==◌, not, Option, Some, None, if◌then◌else◌}
use Rattle.ssh_link.specs.declared.command.Command.{Command}
use Rattle.ssh_link.specs.declared.command.Command.TheVariants as command
use Rattle.ssh_link.specs.declared.frame.InputKind.{InputKind}
use Rattle.ssh_link.specs.declared.frame.InputKind.TheVariants as kind
use Rattle.ssh_link.specs.declared.open_answer.OpenAnswer.{OpenAnswer}
use Rattle.ssh_wire.specs.declared.open_failure.ChannelOpenFailure.{ChannelOpenFailure}
use Rattle.ssh_wire.specs.declared.open_failure.ChannelOpenFailure.TheVariants as failure
use Rattle.ssh_rules.specs.Opens.{own}

-- data, or data of another type where that is not 0 (RFC 4254 section 5.2)
abbrev pub data_command : (channel ext : ℕ) → (bytes : List ℕ) → Command
data_command channel ext bytes = if ext == 0
    then command.Data (own channel) bytes
    else command.ExtendedData (own channel) ext bytes

-- the command of this kind, if it is one
abbrev pub commanded : (kind channel number : ℕ) → Option Command
commanded kind channel number =
    if kind == 1 then Some (command.Eof (own channel)) else
    (if kind == 2 then Some (command.Close (own channel)) else
    (if kind == 3 then Some (command.ChannelSuccess (own channel)) else
    (if kind == 4 then Some (command.ChannelFailure (own channel)) else
    (if kind == 5 then Some (command.ExitStatus (own channel) number) else
    (if kind == 6 then Some (command.XonXoff (own channel) (not (number == 0))) else
    (if kind == 7 then Some command.Keepalive else None))))))

-- an answer to an open: accepted, or refused for this reason (RFC 4254 section 5.1)
abbrev pub answered : (channel : ℕ) → Option ChannelOpenFailure → OpenAnswer
answered channel reason = record { channel = own channel; rejection = reason; texts = None }

-- the one of this number, at 0 that it is accepted, if there is such a reason
abbrev pub rejected : (channel reason : ℕ) → Option OpenAnswer
rejected channel reason =
    if reason == 0 then Some (answered channel None) else
    (if reason == 1 then Some (answered channel (Some failure.AdministrativelyProhibited)) else
    (if reason == 2 then Some (answered channel (Some failure.ConnectFailed)) else
    (if reason == 3 then Some (answered channel (Some failure.UnknownChannelType)) else
    (if reason == 4 then Some (answered channel (Some failure.ResourceShortage)) else None))))

-- the tick of this number, or the end of what comes from the peer, if it is one
abbrev pub tick : (number : ℕ) → Option InputKind
tick number =
    if number == 1 then Some kind.KeepaliveTick else
    (if number == 2 then Some kind.InactivityTick else
    (if number == 3 then Some kind.RekeyTick else
    (if number == 4 then Some kind.End else None)))
