-- The calls on one channel.
use Rattle.std.specs.Prelude.{ℕ, ◌+◌, ◌-◌, min, ltb, eqb, Bool, true, false}
use Rattle.std.specs.Prelude.{List, [], ◌∷◌, ◌++◌, length, Option, Some, None}
use Rattle.ssh_link.specs.declared.notice.ChannelMsg.{ChannelMsg}
use Rattle.ssh_link.specs.declared.notice.ChannelMsg.TheVariants.{Close, OpenFailure}
use Rattle.ssh_hub.specs.declared.answers.Reserve.{Reserve}
use Rattle.ssh_hub.specs.declared.answers.Reserve.TheVariants.{Got, Empty, Gone}
use Rattle.ssh_hub.specs.declared.answers.Deliver.{Deliver}
use Rattle.ssh_hub.specs.declared.answers.Deliver.TheVariants.{Done as IsDelivered}
use Rattle.ssh_hub.specs.declared.answers.Deliver.TheVariants.{
  Full as InboxFull,
  Gone as ChannelGone,
}
use Rattle.ssh_hub.specs.declared.answers.Received.{Received}
use Rattle.ssh_hub.specs.declared.answers.Received.TheVariants.{
  Msg,
  Nothing,
  Closed,
  Ended as HubEnded,
}
use Rattle.ssh_hub.specs.declared.answers.Look.{Look}
use Rattle.ssh_hub.specs.World.{Channel}

-- a sum of bytes has 32 bits
abbrev pub most_bytes : ℕ
most_bytes = 4294967295

-- a channel that an own command opened: it is there, and its window is not known; `size` messages
-- may wait in its inbox
abbrev pub waiting : ℕ → Channel
waiting size = record {
  left = 0;
  packet = 0;
  reserved = 0;
  inbox = [];
  room = size;
  is_ready = false;
  is_closed = false;
  is_claimed = false;
}

-- how many bytes of a window are left where so many are reserved
abbrev pub left_in : ℕ → ℕ → ℕ
left_in window reserved = min window (most_bytes - reserved)

-- the channel with this window; what is reserved of it stays, and so do its inbox and its claim
abbrev pub with_window : Channel → ℕ → ℕ → Channel
with_window ch window packet = record ch {
  left = left_in window ch.reserved;
  packet = packet;
  is_ready = true;
  is_closed = false;
}

-- bytes of what is left are reserved
abbrev pub reserving : Channel → ℕ → Channel
reserving ch want = record ch {
  left = ch.left - min want ch.left;
  reserved = ch.reserved + min want ch.left;
}

abbrev pub reserve_open : Channel → ℕ → Bool → Channel × Reserve
reserve_open ch want true = (ch, Empty)
reserve_open ch want false = (reserving ch want, Got (min want ch.left))

abbrev pub reserve_from : Channel → ℕ → Bool → Channel × Reserve
reserve_from ch want true = (ch, Gone)
reserve_from ch want false = reserve_open ch want (eqb ch.left 0)

-- reserved bytes are left again
abbrev pub releasing : Channel → ℕ → Channel
releasing ch n = record ch { left = ch.left + n; reserved = ch.reserved - n }

-- reserved bytes are put
abbrev pub spending : Channel → ℕ → Channel
spending ch n = record ch { reserved = ch.reserved - n }

-- by how many bytes a grant raises what is left
abbrev pub granted_to : Channel → ℕ → Bool → Bool → ℕ
granted_to ch amount true false = min amount (most_bytes - (ch.left + ch.reserved))
granted_to ch amount true true = 0
granted_to ch amount false closed = 0

abbrev pub granting : Channel → ℕ → Channel
granting ch amount = record ch { left = ch.left + granted_to ch amount ch.is_ready ch.is_closed }

-- a delivered message that closes the channel
abbrev pub closes_by : ChannelMsg → Bool
closes_by Close = true
closes_by (OpenFailure reason) = true
closes_by msg = false

-- the channel is closed where the message closes it
abbrev pub closed_on : Channel → Bool → Channel
closed_on ch true = record ch { is_closed = true }
closed_on ch false = ch

abbrev pub delivering : Channel → ChannelMsg → Channel
delivering ch msg = closed_on (record ch { inbox = ch.inbox ++ msg ∷ [] }) (closes_by msg)

abbrev pub deliver_open : Channel → ChannelMsg → Bool → Channel × Deliver
deliver_open ch msg true = (delivering ch msg, IsDelivered)
deliver_open ch msg false = (ch, InboxFull msg)

abbrev pub deliver_to : Channel → ChannelMsg → Bool → Channel × Deliver
deliver_to ch msg true = (ch, ChannelGone msg)
deliver_to ch msg false = deliver_open ch msg (ltb (length ch.inbox) ch.room)

abbrev pub ended_or_nothing : Option ℕ → Received
ended_or_nothing None = Nothing
ended_or_nothing (Some at) = HubEnded at

-- what an empty inbox answers
abbrev pub nothing_from : Option ℕ → Bool → Received
nothing_from ended true = Closed
nothing_from ended false = ended_or_nothing ended

abbrev pub receive_from : Channel → Option ℕ → List ChannelMsg → Channel × Received
receive_from ch ended [] = (ch, nothing_from ended ch.is_closed)
receive_from ch ended (msg ∷ msgs) = (record ch { inbox = msgs }, Msg msg)

abbrev pub look_at : Channel → Bool → Option Look
look_at ch true = None
look_at ch false = Some (record { left = ch.left; packet = ch.packet })

abbrev pub closed : Channel → Channel
closed ch = record ch { is_closed = true }

abbrev pub claimed : Channel → Channel
claimed ch = record ch { is_claimed = true }
