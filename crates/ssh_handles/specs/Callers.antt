-- What a seat with its hub knows, and what its calls were.
use Rattle.std.specs.Prelude.{◌≡◌, ℕ, Bool, false, Option, Result, Ok, Err, List, []}
use Rattle.std.specs.Arc.{arc_value}
use Rattle.ssh_wire.specs.declared.channel_id.ChannelId.{ChannelId}
use Rattle.ssh_link.specs.declared.command.Command.{Command}
use Rattle.ssh_link.specs.declared.open_answer.OpenAnswer.{OpenAnswer}
use Rattle.ssh_link.specs.declared.notice.ChannelMsg.{ChannelMsg}
use Rattle.ssh_link.specs.declared.outcome.CommandOutcome.{CommandOutcome}
use Rattle.ssh_hub.specs.declared.answers.HandleError.{HandleError}
use Rattle.ssh_hub.specs.declared.answers.HandleError.TheVariants.{Ended}
use Rattle.ssh_hub.specs.declared.answers.SlotAnswer.{SlotAnswer}
use Rattle.ssh_hub.specs.declared.history.HubCall.TheVariants.{
  PutCommand,
  ReleaseBytes,
  PutAnswer,
  ReceiveMsg,
  TakeOutcome,
  TakeSlotAnswer,
}
use Rattle.ssh_hub.specs.declared.history.HubReply.TheVariants.{Done}
use Rattle.ssh_hub.specs.declared.history.View.{View}
use Rattle.ssh_hub.specs.declared.lock.HubLock.{HubLock}
use Rattle.ssh_hub.specs.declared.reservations.Reservation.{Reservation}
use Rattle.ssh_hub.specs.Lists.{data_channel}
use Rattle.ssh_hub.specs.Reserved.{less_at}
use Rattle.ssh_hub.specs.Views.{own_reservations}
use Rattle.ssh_hub.specs.Words.{view_of, room_of, Makes}
use Rattle.ssh_handles.specs.declared.caller.Caller.{Caller}
use Rattle.ssh_handles.specs.Said.{
  ticket_said,
  reply_said,
  message_said,
  confirmed_said,
  outcome_said,
  slot_said,
}
use Rattle.ssh_handles.specs.Tries.{Tries}
use Rattle.ssh_handles.specs.Awaits.{Awaits}

-- the hub
abbrev pub hub_of : Caller → HubLock
hub_of c = arc_value c.lock

-- what its seat knows
abbrev pub seen_by : Caller → View
seen_by c = view_of c.seat

-- the command was put with this spend, again while there was no room: the answer is its ticket, or
-- that the hub has ended
abbrev pub IsPut : Command → ℕ → Bool → View → Result ℕ HandleError → View → Type 0
IsPut msg spend wanted v answer w = Tries (PutCommand msg spend wanted) ticket_said v answer w

-- likewise an answer to an open of the peer
abbrev pub IsReplyPut : OpenAnswer → View → Result ℕ HandleError → View → Type 0
IsReplyPut reply v answer w = Tries (PutAnswer reply) reply_said v answer w

-- a message was waited for
abbrev pub IsReceived : ChannelId → View → Option ChannelMsg → View → Type 0
IsReceived c v msg w = Tries (ReceiveMsg c) message_said v msg w

-- the peer's answer to an open was waited for
abbrev pub IsConfirmed : ChannelId → View → Result (Unit {0}) HandleError → View → Type 0
IsConfirmed c v answer w = Tries (ReceiveMsg c) confirmed_said v answer w

-- the outcome of the command with this ticket was waited for
abbrev pub HasOutcome : ℕ → View → Result CommandOutcome HandleError → View → Type 0
HasOutcome ticket v outcome w = Awaits (TakeOutcome ticket) outcome_said v outcome w

-- the answer of the slot was waited for
abbrev pub IsAnswered : ℕ → View → Result SlotAnswer HandleError → View → Type 0
IsAnswered slot v answer w = Awaits (TakeSlotAnswer slot) slot_said v answer w

-- the answer where the command comes back
abbrev pub without_command : Result ℕ (Command × ℕ) → Result ℕ HandleError
without_command (Ok ticket) = Ok ticket
without_command (Err e) = Err (Ended e.1)

-- what is left of the reservations after a put that was to spend n bytes
abbrev pub left_by : Command → ℕ → Result ℕ (Command × ℕ) → List Reservation → List Reservation
left_by msg n (Ok ticket) held = less_at (data_channel msg) n held
left_by msg n (Err e) held = held

-- a new seat of this hub: nothing is reserved, and there is room for reservations on one channel
pub record IsFresh (lock : HubLock) (c : Caller) : Type 0 where
  pub hub : hub_of c ≡ lock
  pub none : own_reservations (seen_by c) ≡ []
  pub room : room_of c.seat ≡ 1

-- the command was put with this spend; at the end of the hub so many bytes were given back
abbrev pub PutsOrReleases : Command → ChannelId → ℕ → View → Result (Unit {0}) HandleError → View
    → Type 0
PutsOrReleases msg c n v (Ok done) w = (ticket : ℕ) × IsPut msg n false v (Ok ticket) w
PutsOrReleases msg c n v (Err e) w = (at : ℕ) × (x : View) × (e ≡ Ended at)
    × IsPut msg n false v (Err (Ended at)) x
    × Makes x (ReleaseBytes c n) Done w
