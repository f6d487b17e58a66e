-- What is done by the type of an open of the peer's (RFC 4254 section 5.1).
use Rattle.std.specs.Prelude.{ℕ, Bool, true, false, List, codes}
use Rattle.ssh_wire.specs.declared.channel_type.ChannelType.{ChannelType}
use Rattle.ssh_wire.specs.declared.channel_type.ChannelType.TheVariants as channel
use Rattle.ssh_wire.specs.declared.open.OpenChannelMessage.{OpenChannelMessage}
use Rattle.ssh_wire.specs.declared.open_failure.ChannelOpenFailure.{ChannelOpenFailure}
use Rattle.ssh_wire.specs.declared.open_failure.ChannelOpenFailure.TheVariants as reason
use Rattle.ssh_wire.specs.Open.{open_failure}
use Rattle.ssh_wire.specs.OpenFailures.{open_failure_code}
use Rattle.ssh_auth.specs.declared.question.OpenType.TheVariants as opens
use Rattle.ssh_rules.specs.declared.handling.Handling.{Handling}
use Rattle.ssh_rules.specs.declared.handling.Handling.TheVariants.{Asks, GivenUp, Unsupported}
use Rattle.ssh_rules.specs.declared.handling.Handling.TheVariants.{Unknown}
use Rattle.ssh_rules.specs.Opening.{Opening}

-- one line a type: the handler is asked, or the open is refused at once; that of a session is once
-- the peer gave them up (OpenSSH PROTOCOL section 2.2)
abbrev pub handling : (no_more_sessions : Bool) → ChannelType → Handling
handling true channel.Session = GivenUp
handling false channel.Session = Asks opens.Session
handling no_more_sessions (channel.X11 address port) = Asks (opens.X11 address port)
handling no_more_sessions (channel.DirectTcpip info) = Asks (opens.DirectTcpip
    info.host_to_connect info.port_to_connect info.originator_address info.originator_port)
handling no_more_sessions (channel.ForwardedTcpIp info) = Asks (opens.ForwardedTcpip
    info.host_to_connect info.port_to_connect info.originator_address info.originator_port)
handling no_more_sessions (channel.DirectStreamLocal info) =
    Asks (opens.DirectStreamlocal info.socket_path)
handling no_more_sessions (channel.ForwardedStreamLocal info) = Unsupported
handling no_more_sessions channel.AgentForward = Unsupported
handling no_more_sessions (channel.Unknown name) = Unknown

-- what the peer said of itself
abbrev pub opening_by : OpenChannelMessage → Opening
opening_by message = record {
  peer = message.recipient_channel;
  window = message.recipient_window_size;
  packet = message.recipient_maximum_packet_size;
}

-- the refusals of a type, in English
abbrev pub type_refusal : (peer : ℕ) → ChannelOpenFailure → List ℕ → List ℕ
type_refusal peer why description =
    open_failure peer (open_failure_code why) description (codes "en")

abbrev pub unsupported : (peer : ℕ) → List ℕ
unsupported peer = type_refusal peer reason.AdministrativelyProhibited
    (codes "Unsupported channel type")

abbrev pub unknown : (peer : ℕ) → List ℕ
unknown peer = type_refusal peer reason.UnknownChannelType (codes "Unknown channel type")

abbrev pub given_up : (peer : ℕ) → List ℕ
given_up peer = type_refusal peer reason.AdministrativelyProhibited (codes "No more sessions")
