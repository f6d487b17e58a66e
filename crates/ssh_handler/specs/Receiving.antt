-- What a channel takes of its peer's data (RFC 4254 section 5).
use Rattle.std.specs.Prelude.{ℕ, min, Option, Some, None}
use Rattle.ssh_channels.specs.declared.params.ChannelParams.{ChannelParams}
use Rattle.ssh_channels.specs.Calls.{room_at}
use Rattle.ssh_channels.specs.Table.{Table, line_at}

-- the most bytes of data that this side takes in one message, and 0 where there is no channel
-- (section 5.1)
abbrev pub packet_of : Option ChannelParams → ℕ
packet_of None = 0
packet_of (Some l) = l.sender_maximum_packet_size

abbrev pub packet_at : ℕ → Table → ℕ
packet_at n t = packet_of (line_at n t)

-- the most bytes of data that the peer may send in one message now (section 5.2)
abbrev pub takes_at : ℕ → Table → ℕ
takes_at n t = min (room_at n t) (packet_at n t)
