-- Answers to the channels that the peer opens.
use Rattle.std.specs.Prelude.{ℕ, Some, None}
use Rattle.ssh_wire.specs.declared.channel_id.ChannelId.{ChannelId}
use Rattle.ssh_wire.specs.declared.open_failure.ChannelOpenFailure.{ChannelOpenFailure}
use Rattle.ssh_link.specs.declared.open_answer.OpenAnswer.{OpenAnswer}

-- the channel of this number on this side
abbrev pub own : ℕ → ChannelId
own number = record { 0 = number }

-- it is opened
abbrev pub accepting : ChannelId → OpenAnswer
accepting channel = record { channel = channel; rejection = None; texts = None }

-- it is refused for this reason
abbrev pub rejecting : ChannelId → ChannelOpenFailure → OpenAnswer
rejecting channel reason = record { channel = channel; rejection = Some reason; texts = None }
