-- What the hub of one thread holds.
use Rattle.std.specs.Prelude.{ℕ, ◌+◌, ◌<◌, List, Bool, Option}
use Rattle.std.specs.Ordering.{nat_cmp}
use Rattle.std.specs.Map.{lookup, set_value, remove_entry}
use Rattle.std.specs.BTreeMap.{insert_entry, is_at}
use Rattle.ssh_link.specs.declared.notice.ChannelMsg.{ChannelMsg}
use Rattle.ssh_link.specs.declared.outcome.CommandOutcome.{CommandOutcome}
use Rattle.ssh_link.specs.declared.outcome.Refusal.{Refusal}
use Rattle.ssh_hub.specs.declared.answers.SlotAnswer.{SlotAnswer}
use Rattle.ssh_hub.specs.declared.queued.QueuedCommand.{QueuedCommand}
use Rattle.ssh_hub.specs.declared.queued.QueuedReply.{QueuedReply}
use Rattle.ssh_hub.specs.declared.queued.Due.{Due}
use Rattle.ssh_hub.specs.declared.reservations.Reservation.{Reservation}

-- a map is the list of its entries, by rising keys
abbrev pub Map : Type 0 → Type 0
Map X = List (ℕ × X)

-- what stands at the key k
abbrev pub find : {X : Type 0} → ℕ → Map X → Option X
find k entries = lookup (is_at (nat_cmp k)) entries

-- the map with v at the new key k
abbrev pub with_new : {X : Type 0} → Map X → ℕ → X → Map X
with_new entries k v = insert_entry nat_cmp entries k v

-- the map with v in place of what stands at the key k
abbrev pub with_changed : {X : Type 0} → Map X → ℕ → X → Map X
with_changed entries k v = set_value (is_at (nat_cmp k)) entries v

-- the map without the key k
abbrev pub without : {X : Type 0} → ℕ → Map X → Map X
without k entries = remove_entry (is_at (nat_cmp k)) entries

-- a channel of the hub
pub record Channel : Type 0 where
  -- how many bytes may be reserved
  pub left : ℕ
  -- how many bytes of data one message may have
  pub packet : ℕ
  -- how many bytes all seats have reserved together
  pub reserved : ℕ
  -- the messages that wait for the channel's reader, and how many may wait
  pub inbox : List ChannelMsg
  pub room : ℕ
  -- whether its window is known
  pub is_ready : Bool
  pub is_closed : Bool
  pub is_claimed : Bool

-- what lies in the lock's slot: all that the hub holds, but which seat has reserved what
pub record Held : Type 0 where
  -- how many messages wait in one inbox at most
  pub inbox_size : ℕ
  -- how many commands wait at most
  pub command_size : ℕ
  -- the place of the next entry: how many calls were made
  pub place : ℕ
  -- the last seat number
  pub seats : ℕ
  -- the last ticket: how many puts were taken in
  pub tickets : ℕ
  -- the last slot
  pub slots : ℕ
  -- what waits for the session
  pub commands : List QueuedCommand
  pub replies : List QueuedReply
  -- what was taken last, while it is not answered
  pub due : Option Due
  -- the outcomes that are kept, by ticket
  pub outcomes : Map CommandOutcome
  -- the ticket and the reason of the newest refusal, by seat
  pub refusals : Map (ℕ × Refusal)
  -- the answers that are kept, by slot; none where it is still open
  pub answers : Map (Option SlotAnswer)
  -- the place of the end
  pub ended : Option ℕ
  pub channels : Map Channel

-- the hub of one thread
pub record World : Type 0 where
  pub hub : Held
  -- what each seat has reserved, by the seat's number
  pub reserved : Map (List Reservation)

-- the numbers that the next call may draw fit 64 bits
pub record HasRoom (w : Held) : Type 0 where
  pub place : w.place + 1 < 18446744073709551616
  pub seats : w.seats + 1 < 18446744073709551616
  pub tickets : w.tickets + 1 < 18446744073709551616
  pub slots : w.slots + 1 < 18446744073709551616
