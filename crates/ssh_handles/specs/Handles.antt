-- What a handle and its calls do.
use Rattle.std.specs.Prelude.{◌≡◌, ◌⊎◌, ℕ, min, true, false, Option, Some, None, Result, Ok, Err, List, []}
use Rattle.ssh_wire.specs.declared.channel_id.ChannelId.{ChannelId}
use Rattle.ssh_link.specs.declared.command.Command.{Command}
use Rattle.ssh_link.specs.declared.command.Command.TheVariants.{TcpipForward, CancelTcpipForward}
use Rattle.ssh_hub.specs.declared.answers.HandleError.{HandleError}
use Rattle.ssh_hub.specs.declared.answers.HandleError.TheVariants.{NoMemory}
use Rattle.ssh_hub.specs.declared.answers.Look.{Look}
use Rattle.ssh_hub.specs.declared.answers.SlotAnswer.{SlotAnswer}
use Rattle.ssh_hub.specs.declared.history.HubCall.TheVariants.{ClaimChannel}
use Rattle.ssh_hub.specs.declared.history.HubReply.TheVariants.{Claimed}
use Rattle.ssh_hub.specs.declared.history.View.{View}
use Rattle.ssh_hub.specs.declared.lock.HubLock.{HubLock}
use Rattle.ssh_hub.specs.Words.{Makes}
use Rattle.ssh_hub.specs.Does.{Does}
use Rattle.ssh_handles.specs.declared.handle.Handle.{Handle}
use Rattle.ssh_handles.specs.declared.poll.PutError.{PutError}
use Rattle.ssh_handles.specs.declared.channel.Channel.{Channel}
use Rattle.ssh_handles.specs.declared.channel.read_half.ChannelReadHalf.{ChannelReadHalf}
use Rattle.ssh_handles.specs.declared.channel.write_half.ChannelWriteHalf.{ChannelWriteHalf}
use Rattle.ssh_handles.specs.Callers.{hub_of, seen_by, IsPut}
use Rattle.ssh_handles.specs.Parts.{
  AndThen,
  Opens,
  MakesTwo,
  MadeNone,
  DrawsSlot,
  Asks,
  port_of,
  taken_back_of,
}

-- the hub of a handle, and what its seat knows
abbrev pub handle_hub : Handle → HubLock
handle_hub h = hub_of h.caller

abbrev pub handle_view : Handle → View
handle_view h = seen_by h.caller

-- the same of the half that reads, and its channel
abbrev pub reader_hub : ChannelReadHalf → HubLock
reader_hub h = hub_of h.caller

abbrev pub reader_view : ChannelReadHalf → View
reader_view h = seen_by h.caller

abbrev pub reader_id : ChannelReadHalf → ChannelId
reader_id h = h.channel

-- the same of the half that writes
abbrev pub writer_hub : ChannelWriteHalf → HubLock
writer_hub h = hub_of h.caller

abbrev pub writer_view : ChannelWriteHalf → View
writer_view h = seen_by h.caller

abbrev pub writer_id : ChannelWriteHalf → ChannelId
writer_id h = h.channel

-- how many bytes one message may have, by what a look saw
abbrev pub writable : Option Look → ℕ
writable None = 0
writable (Some look) = min look.left look.packet

-- both halves are of this hub and of this channel
pub record IsChannelOf (lock : HubLock) (id : ChannelId) (c : Channel) : Type 0 where
  pub read : reader_hub c.read ≡ lock
  pub write : writer_hub c.write ≡ lock
  pub read_id : reader_id c.read ≡ id
  pub write_id : writer_id c.write ≡ id

-- the half that reads made no call, and the other is of the same hub and channel
pub record OnlyWrites (c d : Channel) : Type 0 where
  pub read : d.read ≡ c.read
  pub hub : writer_hub d.write ≡ writer_hub c.write
  pub id : writer_id d.write ≡ writer_id c.write

-- the half that writes made no call, and the other is of the same hub and channel
pub record OnlyReads (c d : Channel) : Type 0 where
  pub write : d.write ≡ c.write
  pub hub : reader_hub d.read ≡ reader_hub c.read
  pub id : reader_id d.read ≡ reader_id c.read

-- the answer to a put of bytes, which come back with an error
abbrev pub without_bytes : Result ℕ PutError → Result ℕ HandleError
without_bytes (Ok ticket) = Ok ticket
without_bytes (Err e) = Err e.cause

-- for want of memory; or the two seats were made, and the open came to an error
pub data OpenFails (msg : Command) (v : View) (e : HandleError) (w : View) : Type 0 where
  no_seats : e ≡ NoMemory → MadeNone v w → OpenFails msg v e w
  not_opened : (x one two y : View) → MakesTwo v x one two → Opens msg x (Err e) y → Does y [] w
      → OpenFails msg v e w

-- two seats were made for the halves, and then the channel opened; where that fails, they are joined
-- again
abbrev pub OpensChannel : HubLock → Command → View → Result Channel HandleError → View → Type 0
OpensChannel lock msg v (Ok c) w = (x : View)
    × MakesTwo v x (reader_view c.read) (writer_view c.write)
    × Opens msg x (Ok (reader_id c.read)) w
    × IsChannelOf lock (reader_id c.read) c
OpensChannel lock msg v (Err e) w = OpenFails msg v e w

-- a slot was drawn, and the peer asked to forward connections to the address
abbrev pub Forwards : List ℕ → ℕ → View → Result ℕ HandleError → View → Type 0
Forwards address port v answer w = (a : Result SlotAnswer HandleError)
    × AndThen DrawsSlot (λ slot. Asks slot (TcpipForward address port (Some slot))) v a w
    × (answer ≡ port_of a)

-- a slot was drawn, and the peer asked to forward them no longer
abbrev pub TakesBack : List ℕ → ℕ → View → Result (Unit {0}) HandleError → View → Type 0
TakesBack address port v answer w = (a : Result SlotAnswer HandleError)
    × AndThen DrawsSlot (λ slot. Asks slot (CancelTcpipForward address port (Some slot))) v a w
    × (answer ≡ taken_back_of a)

-- two seats were made for the halves, and the channel claimed; where it is not there, or was claimed
-- before, they are joined again
abbrev pub GivesChannel : HubLock → ChannelId → View → Result (Option Channel) HandleError → View
    → Type 0
GivesChannel lock id v (Ok (Some c)) w = (x : View)
    × MakesTwo v x (reader_view c.read) (writer_view c.write)
    × Makes x (ClaimChannel id) (Claimed true) w
    × IsChannelOf lock id c
GivesChannel lock id v (Ok None) w = (x one two y : View)
    × MakesTwo v x one two
    × Makes x (ClaimChannel id) (Claimed false) y
    × Does y [] w
GivesChannel lock id v (Err e) w = (e ≡ NoMemory) × MadeNone v w

-- the command was put, or there was no memory for it, and no call was made
abbrev pub IsAsked : Command → View → Result ℕ HandleError → View → Type 0
IsAsked msg v answer w = IsPut msg 0 false v answer w ⊎ ((answer ≡ Err NoMemory) × (w ≡ v))
