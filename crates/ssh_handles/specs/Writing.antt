-- Bytes that are written on a channel: a look, and then, until no byte is left, a reservation, and a
-- put of what was reserved. At the end of the hub what is reserved still is given back.
use Rattle.std.specs.Prelude.{ℕ, min, eqb, Bool, true, false}
use Rattle.std.specs.Prelude.{List, [], ◌∷◌, length, take, drop}
use Rattle.std.specs.Prelude.{Option, Some, None, Result, Ok, Err}
use Rattle.ssh_wire.specs.declared.channel_id.ChannelId.{ChannelId}
use Rattle.ssh_link.specs.declared.outcome.Refusal.TheVariants.{UnknownChannel}
use Rattle.ssh_hub.specs.declared.answers.HandleError.{HandleError}
use Rattle.ssh_hub.specs.declared.answers.HandleError.TheVariants.{
  Ended,
  Inconsistent,
  NoMemory,
  Refused,
}
use Rattle.ssh_hub.specs.declared.answers.Look.{Look}
use Rattle.ssh_hub.specs.declared.answers.Reserve.{Reserve}
use Rattle.ssh_hub.specs.declared.answers.Reserve.TheVariants.{
  Got,
  Empty,
  Gone,
  Ended as NoneEnded,
}
use Rattle.ssh_hub.specs.declared.history.HubCall.{HubCall}
use Rattle.ssh_hub.specs.declared.history.HubCall.TheVariants.{
  PutCommand,
  ReserveBytes,
  ReleaseBytes,
  LookAt,
}
use Rattle.ssh_hub.specs.declared.history.HubReply.{HubReply}
use Rattle.ssh_hub.specs.declared.history.HubReply.TheVariants.{Reserved, Saw}
use Rattle.ssh_hub.specs.declared.history.View.{View}
use Rattle.ssh_hub.specs.Follow.{Machine, Acts}
use Rattle.ssh_handles.specs.Said.{ticket_said}
use Rattle.ssh_handles.specs.DataCommands.{data_command}

pub data Writing : Type 0 where
  -- these bytes are to be written, and nothing was asked yet
  looking : List ℕ → Writing
  -- so many bytes go into one message at most, and these are to be written
  asking : ℕ → List ℕ → Writing
  -- the same, where so many bytes of them are reserved
  putting : ℕ → ℕ → List ℕ → Writing
  -- the hub has ended at this place, so many bytes are reserved still, and these were not written
  releasing : ℕ → ℕ → List ℕ → Writing
  -- every byte was put
  written : Writing
  -- for this error these bytes were not put
  stopped : HandleError → List ℕ → Writing

abbrev pub writing_asks : ChannelId → Option ℕ → Writing → Option HubCall
writing_asks c ext (looking rest) = Some (LookAt c)
writing_asks c ext (asking packet rest) = Some (ReserveBytes c (min packet (length rest)))
writing_asks c ext (putting packet n rest) =
    Some (PutCommand (data_command c ext (take n rest)) n false)
writing_asks c ext (releasing n at rest) = Some (ReleaseBytes c n)
writing_asks c ext written = None
writing_asks c ext (stopped e rest) = None

-- how many bytes go into one message at most, by what a look saw
abbrev pub packet_if : Bool → ℕ → Result ℕ HandleError
packet_if true packet = Err Inconsistent
packet_if false packet = Ok packet

abbrev pub packet_seen : Option Look → Result ℕ HandleError
packet_seen None = Err (Refused UnknownChannel)
packet_seen (Some look) = packet_if (eqb look.packet 0) look.packet

abbrev pub begun : Bool → ℕ → List ℕ → Writing
begun true packet rest = stopped Inconsistent rest
begun false packet rest = asking packet rest

abbrev pub after_look : List ℕ → Option Look → Writing
after_look rest None = stopped (Refused UnknownChannel) rest
after_look rest (Some look) = begun (eqb look.packet 0) look.packet rest

abbrev pub after_reserving : ℕ → List ℕ → Reserve → Writing
after_reserving packet rest (Got n) = putting packet n rest
after_reserving packet rest Empty = asking packet rest
after_reserving packet rest Gone = stopped (Refused UnknownChannel) rest
after_reserving packet rest (NoneEnded at) = stopped (Ended at) rest

-- these are to be written still
abbrev pub goes_on : ℕ → List ℕ → Writing
goes_on packet [] = written
goes_on packet (b ∷ bs) = asking packet (b ∷ bs)

abbrev pub after_error : ℕ → List ℕ → HandleError → Writing
after_error n rest (Ended at) = releasing n at rest
after_error n rest e = stopped e rest

-- a put is made again where it said nothing
abbrev pub after_putting : ℕ → ℕ → List ℕ → Option (Result ℕ HandleError) → Writing
after_putting packet n rest (Some (Ok ticket)) = goes_on packet (drop n rest)
after_putting packet n rest (Some (Err e)) = after_error n rest e
after_putting packet n rest None = putting packet n rest

-- what a look saw
abbrev pub look_said : HubReply → Option (Option Look)
look_said (Saw look) = Some look
look_said reply = None

-- what a reservation answered
abbrev pub reserve_said : HubReply → Option Reserve
reserve_said (Reserved reserve) = Some reserve
reserve_said reply = None

abbrev pub told_look : List ℕ → Option (Option Look) → Writing
told_look rest (Some look) = after_look rest look
told_look rest None = looking rest

abbrev pub told_reserve : ℕ → List ℕ → Option Reserve → Writing
told_reserve packet rest (Some reserve) = after_reserving packet rest reserve
told_reserve packet rest None = asking packet rest

abbrev pub writing_told : Writing → HubReply → Writing
writing_told (looking rest) reply = told_look rest (look_said reply)
writing_told (asking packet rest) reply = told_reserve packet rest (reserve_said reply)
writing_told (putting packet n rest) reply = after_putting packet n rest (ticket_said reply)
writing_told (releasing n at rest) reply = stopped (Ended at) rest
writing_told written reply = written
writing_told (stopped e rest) reply = stopped e rest

abbrev pub writes : ChannelId → Option ℕ → Machine Writing
writes c ext = record { asks = writing_asks c ext; told = writing_told }

-- for no byte there is nothing to do
abbrev pub to_write : List ℕ → Writing
to_write [] = written
to_write (b ∷ bs) = looking (b ∷ bs)

-- the bytes that were not put
abbrev pub rest_of : Writing → List ℕ
rest_of (looking rest) = rest
rest_of (asking packet rest) = rest
rest_of (putting packet n rest) = rest
rest_of (releasing n at rest) = rest
rest_of written = []
rest_of (stopped e rest) = rest

-- where a call stands that comes to an error: memory is wanted only where nothing is reserved
abbrev pub stands : HandleError → ℕ → List ℕ → Writing
stands NoMemory packet rest = asking packet rest
stands e packet rest = stopped e rest

-- from a state the seat made just the calls that writing makes, and came to this error
abbrev pub StopsBy : ChannelId → Option ℕ → View → Writing → HandleError → View → Type 0
StopsBy c ext v s e w =
    (packet : ℕ) × (rest : List ℕ) × Acts (writes c ext) v s (stands e packet rest) w

-- from a state the seat made just the calls that writing makes, with this answer
abbrev pub WritesFrom : ChannelId → Option ℕ → View → Writing → Result (Unit {0}) HandleError → View
    → Type 0
WritesFrom c ext v s (Ok done) w = Acts (writes c ext) v s written w
WritesFrom c ext v s (Err e) w = StopsBy c ext v s e w

-- the seat wrote these bytes, or came to an error
abbrev pub Writes : ChannelId → Option ℕ → List ℕ → View → Result (Unit {0}) HandleError → View
    → Type 0
Writes c ext bytes v answer w = WritesFrom c ext v (to_write bytes) answer w

-- the seat put the first n of these bytes, which are reserved, or gave them back
abbrev pub PutsPiece : ChannelId → Option ℕ → View → ℕ → ℕ → List ℕ → Result (Unit {0}) HandleError
    → View → Type 0
PutsPiece c ext v packet n rest (Ok done) w =
    Acts (writes c ext) v (putting packet n rest) (goes_on packet (drop n rest)) w
PutsPiece c ext v packet n rest (Err e) w = StopsBy c ext v (putting packet n rest) e w
