-- Calls of several parts, each of which answers, or answers an error.
use Rattle.std.specs.Prelude.{◌≡◌, ℕ, Bool, true, false, Option, Some, None, Result, Ok, Err}
use Rattle.std.specs.Prelude.{List, [], ◌∷◌}
use Rattle.ssh_wire.specs.declared.channel_id.ChannelId.{ChannelId}
use Rattle.ssh_link.specs.declared.command.Command.{Command}
use Rattle.ssh_link.specs.declared.outcome.CommandOutcome.{CommandOutcome}
use Rattle.ssh_link.specs.declared.outcome.CommandOutcome.TheVariants.{
  Accepted,
  Opened,
  Refused as WasRefused,
}
use Rattle.ssh_link.specs.declared.outcome.Refusal.TheVariants.{UnknownChannel}
use Rattle.ssh_hub.specs.declared.answers.HandleError.{HandleError}
use Rattle.ssh_hub.specs.declared.answers.HandleError.TheVariants.{Denied, NoMemory, Refused}
use Rattle.ssh_hub.specs.declared.answers.SlotAnswer.{SlotAnswer}
use Rattle.ssh_hub.specs.declared.answers.SlotAnswer.TheVariants.{Port, Cancelled}
use Rattle.ssh_hub.specs.declared.history.HubCall.TheVariants.{ClaimChannel, DrawSlot, SplitSeat}
use Rattle.ssh_hub.specs.declared.history.HubReply.TheVariants.{Claimed, SlotIs, SeatIs}
use Rattle.ssh_hub.specs.declared.history.View.{View}
use Rattle.ssh_hub.specs.Words.{Makes, Learns, IsNew}
use Rattle.ssh_hub.specs.Does.{Does}
use Rattle.ssh_handles.specs.Callers.{IsPut, HasOutcome, IsAnswered, IsConfirmed}

-- what goes on where the first part answered; its error is the error of the whole
abbrev pub Onward : {A B : Type 0} → (A → View → Result B HandleError → View → Type 0)
    → Result A HandleError → View → Result B HandleError → View → Type 0
Onward next (Ok a) v answer w = next a v answer w
Onward next (Err e) v answer w = (answer ≡ Err e) × (w ≡ v)

-- the one, and then, by its answer, the next
abbrev pub AndThen : {A B : Type 0} → (View → Result A HandleError → View → Type 0)
    → (A → View → Result B HandleError → View → Type 0) → View → Result B HandleError → View → Type 0
AndThen {A = A} first next v answer w =
    (x : View) × (a : Result A HandleError) × first v a x × Onward next a x answer w

-- the channel that an open has opened
abbrev pub opened_by : CommandOutcome → Result ChannelId HandleError
opened_by (Opened id) = Ok id
opened_by Accepted = Err (Refused UnknownChannel)
opened_by (WasRefused why) = Err (Refused why)

abbrev pub ok_as : ChannelId → Result (Unit {0}) HandleError → Result ChannelId HandleError
ok_as id (Ok done) = Ok id
ok_as id (Err e) = Err e

-- the channel was this seat's to claim, or not
abbrev pub Confirms : ChannelId → Bool → View → Result ChannelId HandleError → View → Type 0
Confirms id false v answer w = (answer ≡ Err (Refused UnknownChannel)) × (w ≡ v)
Confirms id true v answer w =
    (a : Result (Unit {0}) HandleError) × IsConfirmed id v a w × (answer ≡ ok_as id a)

-- the channel was claimed, and the peer's answer waited for
abbrev pub Claims : ChannelId → View → Result ChannelId HandleError → View → Type 0
Claims id v answer w =
    (b : Bool) × (x : View) × Makes v (ClaimChannel id) (Claimed b) x × Confirms id b x answer w

abbrev pub ClaimsIn : Result ChannelId HandleError → View → Result ChannelId HandleError → View
    → Type 0
ClaimsIn opened v answer w = Onward Claims opened v answer w

-- the outcome of an open was waited for, and then the channel claimed
abbrev pub OpensAs : ℕ → View → Result ChannelId HandleError → View → Type 0
OpensAs ticket v answer w = AndThen (HasOutcome ticket) (λ o. ClaimsIn (opened_by o)) v answer w

-- an open was put; its outcome was waited for, and then the peer's answer
abbrev pub Opens : Command → View → Result ChannelId HandleError → View → Type 0
Opens msg v answer w = AndThen (IsPut msg 0 true) OpensAs v answer w

-- the answer of the slot was waited for, where the request was not refused
abbrev pub AnswersIn : ℕ → CommandOutcome → View → Result SlotAnswer HandleError → View → Type 0
AnswersIn slot (WasRefused why) v answer w = (answer ≡ Err (Refused why)) × (w ≡ v)
AnswersIn slot Accepted v answer w = IsAnswered slot v answer w
AnswersIn slot (Opened id) v answer w = IsAnswered slot v answer w

abbrev pub AnswersAs : ℕ → ℕ → View → Result SlotAnswer HandleError → View → Type 0
AnswersAs slot ticket v answer w = AndThen (HasOutcome ticket) (AnswersIn slot) v answer w

-- a request with this slot was put; its outcome was waited for, and then the peer's answer
abbrev pub Asks : ℕ → Command → View → Result SlotAnswer HandleError → View → Type 0
Asks slot msg v answer w = AndThen (IsPut msg 0 true) (AnswersAs slot) v answer w

-- a slot was drawn; for want of memory no call was made
abbrev pub DrawsSlot : View → Result ℕ HandleError → View → Type 0
DrawsSlot v (Ok slot) w = Makes v DrawSlot (SlotIs slot) w
DrawsSlot v (Err e) w = (e ≡ NoMemory) × Learns v w

-- what a request for a port is answered
abbrev pub port_of : Result SlotAnswer HandleError → Result ℕ HandleError
port_of (Ok (Port (Some port))) = Ok port
port_of (Ok answer) = Err Denied
port_of (Err e) = Err e

-- what a request to forward no longer is answered
abbrev pub taken_back_of : Result SlotAnswer HandleError → Result (Unit {0}) HandleError
taken_back_of (Ok (Cancelled true)) = Ok tt
taken_back_of (Ok answer) = Err Denied
taken_back_of (Err e) = Err e

-- another seat was made
abbrev pub MakesSeat : View → View → View → Type 0
MakesSeat v w made = Makes v SplitSeat (SeatIs made.number) w × IsNew w made

-- two seats were made, one after the other
abbrev pub MakesTwo : View → View → View → View → Type 0
MakesTwo v w one two = (x : View) × MakesSeat v x one × MakesSeat x w two

-- one seat at most was made, and joined again
pub data MadeNone (v w : View) : Type 0 where
  none : Does v [] w → MadeNone v w
  joined : (n : ℕ) → Does v ((SplitSeat, SeatIs n) ∷ []) w → MadeNone v w
