-- The messages that open a channel (RFC 4254 section 5.1), after their number byte.
use Rattle.std.specs.Prelude.{◌≡◌, ◌≢◌, ◌⊎◌, ℕ, List, [], ◌∷◌, Option, Some, None, find, bytes_eq}
use Rattle.std.specs.Prelude.{codes}
use Rattle.ssh_wire.specs.Field.{Field, Number, Text, Values, SpellsAll, SpellsWhole, MisfitsAll}
use Rattle.ssh_wire.specs.Field.{MisfitsWhole}
use Rattle.ssh_wire.specs.Messages.{channel_open, channel_open_confirmation, channel_open_failure}
use Rattle.ssh_wire.specs.Messages.{written}
use Rattle.ssh_wire.specs.declared.error.WireError.{WireError}
use Rattle.ssh_wire.specs.declared.error.LayoutError.{LayoutError}
use Rattle.ssh_wire.specs.declared.error.LayoutError.TheVariants.{Wire, Inconsistent}
use Rattle.ssh_wire.specs.declared.channel_type.ChannelType.{ChannelType}
use Rattle.ssh_wire.specs.declared.channel_type.ChannelType.TheVariants.{Session, X11, DirectTcpip}
use Rattle.ssh_wire.specs.declared.channel_type.ChannelType.TheVariants.{DirectStreamLocal}
use Rattle.ssh_wire.specs.declared.channel_type.ChannelType.TheVariants.{ForwardedTcpIp}
use Rattle.ssh_wire.specs.declared.channel_type.ChannelType.TheVariants.{ForwardedStreamLocal}
use Rattle.ssh_wire.specs.declared.channel_type.ChannelType.TheVariants.{AgentForward, Unknown}
use Rattle.ssh_wire.specs.declared.open.OpenChannelMessage.{OpenChannelMessage}
use Rattle.ssh_wire.specs.declared.open.ChannelOpenConfirmation.{ChannelOpenConfirmation}

-- the type's name, the sender's number, its window, its packet size (RFC 4254 section 5.1)
abbrev pub leading_fields : List Field
leading_fields = channel_open.fields

-- a type of channel: its name, the fields that follow the packet size, and what they say
pub record KnownType : Type 0 where
  pub name : List ℕ
  pub fields : List Field
  pub says : Values fields → ChannelType

-- nothing follows (RFC 4254 section 6.1)
abbrev pub session : KnownType
session = record { name = codes "session"; fields = []; says = λ _. Session }

-- the originator's address and port (RFC 4254 section 6.3.2)
abbrev pub x11 : KnownType
x11 = record {
  name = codes "x11";
  fields = Text ∷ Number ∷ [];
  says =
      λ (address, (port, _)). X11 address port;
}

-- the host and port to connect to, or that were connected to, and the originator's address and port
-- (RFC 4254 section 7.2)
abbrev pub tcpip_fields : List Field
tcpip_fields = Text ∷ Number ∷ Text ∷ Number ∷ []

abbrev pub direct_tcpip : KnownType
direct_tcpip = record {
  name = codes "direct-tcpip";
  fields = tcpip_fields;
  says = λ (host, (port, (originator, (originator_port, _)))).
      DirectTcpip (record {
        host_to_connect = host;
        port_to_connect = port;
        originator_address =
            originator;
        originator_port = originator_port;
      });
}

abbrev pub forwarded_tcpip : KnownType
forwarded_tcpip = record {
  name = codes "forwarded-tcpip";
  fields = tcpip_fields;
  says = λ (host, (port, (originator, (originator_port, _)))).
      ForwardedTcpIp (record {
        host_to_connect = host;
        port_to_connect = port;
        originator_address =
            originator;
        originator_port = originator_port;
      });
}

-- the socket's path, and two reserved fields (OpenSSH PROTOCOL section 2.4)
abbrev pub direct_streamlocal : KnownType
direct_streamlocal = record {
  name = codes "direct-streamlocal@openssh.com";
  fields = Text ∷ Text ∷ Number ∷ [];
  says = λ (path, _). DirectStreamLocal (record { socket_path = path });
}

-- the socket's path, and a reserved field (OpenSSH PROTOCOL section 2.4)
abbrev pub forwarded_streamlocal : KnownType
forwarded_streamlocal = record {
  name = codes "forwarded-streamlocal@openssh.com";
  fields = Text ∷ Text ∷ [];
  says = λ (path, _). ForwardedStreamLocal (record { socket_path = path });
}

-- nothing follows (OpenSSH's forwarding of an authentication agent)
abbrev pub agent_forward : KnownType
agent_forward =
    record { name = codes "auth-agent@openssh.com"; fields = []; says = λ _. AgentForward }

-- the known type of this name
abbrev pub type_named : List ℕ → Option KnownType
type_named name =
    find (λ type. bytes_eq type.name name)
    (session ∷ x11 ∷ direct_tcpip ∷ forwarded_tcpip ∷ direct_streamlocal ∷ forwarded_streamlocal
    ∷ agent_forward ∷ [])

-- what follows the packet size in an open of this type, up to this rest: a known type's fields to
-- the last byte; of another type nothing is read
abbrev pub SpellsType : Option KnownType → (name : List ℕ) → ChannelType → (after rest : List ℕ)
    → Type 0
SpellsType (Some type) name typ after rest = (values : Values type.fields)
    × SpellsWhole type.fields values after × (typ ≡ type.says values) × (rest ≡ [])
SpellsType None name typ after rest = (typ ≡ Unknown name) × (rest ≡ after)

abbrev pub MisfitsType : Option KnownType → (after : List ℕ) → WireError → Type 0
MisfitsType (Some type) after why = MisfitsWhole type.fields after why
MisfitsType None after why = ⊥

-- the four leading fields come first, and then these bytes
abbrev pub Leads : (name : List ℕ) → (sender window packet_size : ℕ) → (bytes after : List ℕ)
    → Type 0
Leads name sender window packet_size bytes after =
    SpellsAll leading_fields (name, (sender, (window, (packet_size, tt)))) bytes after

-- the bytes up to this rest are an open that says this (RFC 4254 section 5.1); a packet size of 0
-- would never let data through
abbrev pub SpellsOpen : OpenChannelMessage → (bytes rest : List ℕ) → Type 0
SpellsOpen message bytes rest =
    (name after : List ℕ)
    × Leads name message.recipient_channel message.recipient_window_size
    message.recipient_maximum_packet_size bytes after
    × (message.recipient_maximum_packet_size ≢ 0)
    × SpellsType (type_named name) name message.typ after rest

-- the bytes are no open, for this reason: the first field that does not fit, or bytes after the
-- last one; and before the type's own fields are looked at, a packet size of 0
abbrev pub MisfitsOpen : List ℕ → LayoutError → Type 0
MisfitsOpen bytes (Wire why) =
    MisfitsAll leading_fields bytes why
    ⊎ ((name : List ℕ) × (sender window packet_size : ℕ) × (after : List ℕ)
    × Leads name sender window packet_size bytes after × (packet_size ≢ 0)
    × MisfitsType (type_named name) after why)
MisfitsOpen bytes Inconsistent = (name : List ℕ) × (sender window : ℕ) × (after : List ℕ)
    × Leads name sender window 0 bytes after

-- the recipient's number, the sender's, the sender's window and packet size (RFC 4254 section 5.1)
abbrev pub confirmation_fields : List Field
confirmation_fields = channel_open_confirmation.fields

-- the bytes up to this rest are a confirmation that says this; a packet size of 0 would never let
-- data through
abbrev pub SpellsConfirmation : ChannelOpenConfirmation → (bytes rest : List ℕ) → Type 0
SpellsConfirmation message bytes rest =
    SpellsAll confirmation_fields (
      message.recipient_channel,
      (
        message.sender_channel,
        (message.initial_window_size, (message.maximum_packet_size, tt)),
      ),
    ) bytes rest
    × (message.maximum_packet_size ≢ 0)

-- the bytes are no confirmation, for this reason: the first field that does not fit, or a packet
-- size of 0
abbrev pub MisfitsConfirmation : List ℕ → LayoutError → Type 0
MisfitsConfirmation bytes (Wire why) = MisfitsAll confirmation_fields bytes why
MisfitsConfirmation bytes Inconsistent =
    (recipient sender window : ℕ) × (after : List ℕ)
    × SpellsAll confirmation_fields (recipient, (sender, (window, (0, tt)))) bytes after

-- the refusal of an open: the recipient's number, the reason, the description, its language (RFC
-- 4254 section 5.1)
abbrev pub open_failure : (recipient reason : ℕ) → (description language : List ℕ) → List ℕ
open_failure recipient reason description language =
    written channel_open_failure (recipient, (reason, (description, (language, tt))))
