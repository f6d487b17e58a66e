-- What a writer that does not wait has reserved, and what its calls do.
use Rattle.std.specs.Prelude.{◌≡◌, ◌⊎◌, ℕ, min, eqb, Bool, true, false}
use Rattle.std.specs.Prelude.{List, [], ◌∷◌, length, take, Option, Some, None, Result, Ok, Err}
use Rattle.ssh_wire.specs.declared.channel_id.ChannelId.{ChannelId}
use Rattle.ssh_link.specs.declared.command.Command.TheVariants.{Eof}
use Rattle.ssh_link.specs.declared.outcome.Refusal.TheVariants.{UnknownChannel}
use Rattle.ssh_hub.specs.Reserved.{reservation}
use Rattle.ssh_hub.specs.Words.{Makes}
use Rattle.ssh_hub.specs.declared.answers.HandleError.{HandleError}
use Rattle.ssh_hub.specs.declared.answers.HandleError.TheVariants.{
  Ended,
  Inconsistent,
  NoMemory,
  Refused,
}
use Rattle.ssh_hub.specs.declared.answers.Look.{Look}
use Rattle.ssh_hub.specs.declared.answers.Put.{Put}
use Rattle.ssh_hub.specs.declared.answers.Put.TheVariants.{
  Done as IsPut,
  Full,
  Ended as PutEnded,
}
use Rattle.ssh_hub.specs.declared.answers.Reserve.{Reserve}
use Rattle.ssh_hub.specs.declared.answers.Reserve.TheVariants.{
  Got,
  Empty,
  Gone,
  Ended as NoneEnded,
}
use Rattle.ssh_hub.specs.declared.history.HubCall.TheVariants.{
  PutCommand,
  ReserveBytes,
  ReleaseBytes,
  LookAt,
}
use Rattle.ssh_hub.specs.declared.history.HubReply.TheVariants.{WasPut, Reserved, Saw, Done}
use Rattle.ssh_hub.specs.declared.history.View.{View}
use Rattle.ssh_hub.specs.declared.reservations.Reservation.{Reservation}
use Rattle.ssh_handles.specs.declared.poll.Poll.{Poll}
use Rattle.ssh_handles.specs.declared.poll.Poll.TheVariants.{Ready, Pending}
use Rattle.ssh_handles.specs.declared.poll.Why.TheVariants.{WindowEmpty, InboxFull}
use Rattle.ssh_handles.specs.DataCommands.{data_command}

-- the bytes of a message that is kept are reserved, and no others
abbrev pub staged_on : ℕ → List ℕ → List Reservation
staged_on c [] = []
staged_on c (b ∷ bs) = reservation c (length (b ∷ bs)) ∷ []

-- the message was put, or is kept; at the end of the hub its bytes are given back
abbrev pub AfterPut : ChannelId → List ℕ → Put → View → Poll (Result ℕ HandleError) → List ℕ → View
    → Type 0
AfterPut c bytes (IsPut ticket) v answer kept w =
    (answer ≡ Ready (Ok (length bytes))) × (kept ≡ []) × (w ≡ v)
AfterPut c bytes (Full back) v answer kept w =
    (answer ≡ Pending InboxFull) × (kept ≡ bytes) × (w ≡ v)
AfterPut c bytes (PutEnded at back) v answer kept w =
    (answer ≡ Ready (Err (Ended at))) × (kept ≡ [])
    × Makes v (ReleaseBytes c (length bytes)) Done w

-- a message is put once, with its whole length as spend
abbrev pub PutsStaged : ChannelId → Option ℕ → List ℕ → View → Poll (Result ℕ HandleError) → List ℕ
    → View → Type 0
PutsStaged c ext bytes v answer kept w = (put : Put) × (x : View)
    × Makes v (PutCommand (data_command c ext bytes) (length bytes) false) (WasPut put) x
    × AfterPut c bytes put x answer kept w

-- nothing is kept, and no more is asked
abbrev pub Answers : HandleError → View → Poll (Result ℕ HandleError) → List ℕ → View → Type 0
Answers e v answer kept w = (answer ≡ Ready (Err e)) × (kept ≡ []) × (w ≡ v)

abbrev pub AfterReserve : ChannelId → Option ℕ → List ℕ → Reserve → View
    → Poll (Result ℕ HandleError) → List ℕ → View → Type 0
AfterReserve c ext buf (Got n) v answer kept w = PutsStaged c ext (take n buf) v answer kept w
AfterReserve c ext buf Empty v answer kept w =
    (answer ≡ Pending WindowEmpty) × (kept ≡ []) × (w ≡ v)
AfterReserve c ext buf Gone v answer kept w = Answers (Refused UnknownChannel) v answer kept w
AfterReserve c ext buf (NoneEnded at) v answer kept w = Answers (Ended at) v answer kept w

-- the first of these bytes are reserved, and put; for want of memory nothing is asked
abbrev pub Stages : ChannelId → Option ℕ → ℕ → List ℕ → View → Poll (Result ℕ HandleError) → List ℕ
    → View → Type 0
Stages c ext packet buf v answer kept w =
    Answers NoMemory v answer kept w
    ⊎ ((r : Reserve) × (x : View)
    × Makes v (ReserveBytes c (min packet (length buf))) (Reserved r) x
    × AfterReserve c ext buf r x answer kept w)

abbrev pub StagesIf : Bool → ChannelId → Option ℕ → ℕ → List ℕ → View → Poll (Result ℕ HandleError)
    → List ℕ → View → Type 0
StagesIf true c ext packet buf v answer kept w = Answers Inconsistent v answer kept w
StagesIf false c ext packet buf v answer kept w = Stages c ext packet buf v answer kept w

abbrev pub AfterLook : ChannelId → Option ℕ → List ℕ → Option Look → View
    → Poll (Result ℕ HandleError) → List ℕ → View → Type 0
AfterLook c ext buf None v answer kept w = Answers (Refused UnknownChannel) v answer kept w
AfterLook c ext buf (Some look) v answer kept w =
    StagesIf (eqb look.packet 0) c ext look.packet buf v answer kept w

-- a message that is kept is put; where none is, there is a look, a reservation, and a put
abbrev pub PollsWrite : ChannelId → Option ℕ → List ℕ → List ℕ → View → Poll (Result ℕ HandleError)
    → List ℕ → View → Type 0
PollsWrite c ext (b ∷ bs) buf v answer kept w = PutsStaged c ext (b ∷ bs) v answer kept w
PollsWrite c ext [] buf v answer kept w = (look : Option Look) × (x : View)
    × Makes v (LookAt c) (Saw look) x
    × AfterLook c ext buf look x answer kept w

-- the bytes of a message that is kept are given back
abbrev pub GivesBack : ChannelId → List ℕ → View → View → Type 0
GivesBack c [] v w = w ≡ v
GivesBack c (b ∷ bs) v w = Makes v (ReleaseBytes c (length (b ∷ bs))) Done w

abbrev pub shut_by : Put → Poll (Result (Unit {0}) HandleError)
shut_by (IsPut ticket) = Ready (Ok tt)
shut_by (Full back) = Pending InboxFull
shut_by (PutEnded at back) = Ready (Err (Ended at))

-- what is kept is given back, and an end of file put once
abbrev pub Shuts : ChannelId → List ℕ → View → Poll (Result (Unit {0}) HandleError) → View → Type 0
Shuts c kept v answer w = (x : View) × (put : Put)
    × GivesBack c kept v x
    × Makes x (PutCommand (Eof c) 0 false) (WasPut put) w
    × (answer ≡ shut_by put)
