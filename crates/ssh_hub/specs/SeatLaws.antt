-- What holds of the calls that one seat made.
use Rattle.std.specs.Prelude.{◌≡◌, ℕ, ◌+◌, ◌≤◌, ◌⊎◌, Bool}
use Rattle.std.specs.Prelude.{List, [], ◌∷◌, ◌++◌, length, Option, Some, None}
use mathlib.Core.List.{IsPrefix}
use Rattle.ssh_hub.specs.Lists.{data_channel}
use Rattle.ssh_hub.specs.Reserved.{bytes_on, reserved_after}
use Rattle.ssh_hub.specs.Step.{opening}
use Rattle.ssh_hub.specs.History.{IsLegal, calls_by}
use Rattle.ssh_hub.specs.Views.{own_reservations}
use Rattle.ssh_hub.specs.Laws.{commands_put, commands_taken}
use Rattle.ssh_hub.specs.Words.{Learns, Makes, Meets}
use Rattle.ssh_hub.specs.Does.{Does, entries}
use Rattle.ssh_hub.specs.declared.answers.Config2.{Config2}
use Rattle.ssh_hub.specs.declared.answers.Put.TheVariants.{Done as IsPut, Ended as PutEnded}
use Rattle.ssh_hub.specs.declared.answers.PutReply.TheVariants.{Ended as ReplyEnded}
use Rattle.ssh_hub.specs.declared.answers.Reserve.TheVariants.{Ended as NoneEnded}
use Rattle.ssh_hub.specs.declared.answers.Received.TheVariants.{Ended as InboxEnded}
use Rattle.ssh_link.specs.declared.command.Command.{Command}
use Rattle.ssh_hub.specs.declared.history.HubCall.{HubCall}
use Rattle.ssh_hub.specs.declared.history.HubCall.TheVariants.{PutCommand, EndHub}
use Rattle.ssh_hub.specs.declared.history.HubReply.{HubReply}
use Rattle.ssh_hub.specs.declared.history.HubReply.TheVariants.{
  Reserved,
  WasPut,
  ReplyWasPut,
  HasReceived,
  EndedAt,
}
use Rattle.ssh_hub.specs.declared.history.Entry.{Entry}
use Rattle.ssh_hub.specs.declared.history.View.{View}

-- the first list stands in the second, in its order, with others between
abbrev pub IsAmong : {A : Type 0} → List A → List A → Type 0
IsAmong xs [] = xs ≡ []
IsAmong {A = A} xs (y ∷ ys) = IsAmong xs ys ⊎ ((rest : List A) × (xs ≡ y ∷ rest) × IsAmong rest ys)

-- the commands that one seat took stand among those that were put, in their order
abbrev pub OwnTakesInOrder : Type 0
OwnTakesInOrder = (k : Config2) (log : List Entry) (n : ℕ) → IsLegal (opening k) log
    → IsAmong (commands_taken (calls_by n log)) (commands_put log)

-- the place where the hub ended, where an answer names it
abbrev pub end_named : HubReply → Option ℕ
end_named (Reserved (NoneEnded at)) = Some at
end_named (WasPut (PutEnded at msg)) = Some at
end_named (ReplyWasPut (ReplyEnded at answer)) = Some at
end_named (HasReceived (InboxEnded at)) = Some at
end_named (EndedAt end) = end
end_named reply = None

-- a call that ends the hub stands at this place
abbrev pub EndsAt : ℕ → List Entry → Type 0
EndsAt at log = (front back : List Entry) × (e : Entry)
    × (log ≡ front ++ e ∷ back) × (length front ≡ at) × (e.call ≡ EndHub)

-- the place that an answer names is that of an end before it
abbrev pub EndsAreNamed : Type 0
EndsAreNamed = (k : Config2) (before after : List Entry) (e : Entry) (at : ℕ)
    → IsLegal (opening k) (before ++ e ∷ after) → end_named e.reply ≡ Some at → EndsAt at before

-- what a seat has reserved after one more call is what this call makes of it
abbrev pub ReservedCallByCall : Type 0
ReservedCallByCall = (v : View) (c : HubCall) (r : HubReply) (w : View) → Makes v c r w
    → own_reservations w ≡ reserved_after c r (own_reservations v)

-- a put of data that spends no more than is reserved of its channel spends it whole
abbrev pub PutsSpendWhole : Type 0
PutsSpendWhole = (v : View) (msg : Command) (c spend ticket : ℕ) (wanted : Bool) (w : View)
    → Makes v (PutCommand msg spend wanted) (WasPut (IsPut ticket)) w → data_channel msg ≡ Some c
    → spend ≤ bytes_on c (own_reservations v)
    → bytes_on c (own_reservations w) + spend ≡ bytes_on c (own_reservations v)

-- a meeting, and seeing more, are no calls
abbrev pub MeetingIsNoCall : Type 0
MeetingIsNoCall = (v x w : View) → Meets v x w → Does v [] w

abbrev pub LearningIsNoCall : Type 0
LearningIsNoCall = (v w : View) → Learns v w → Does v [] w

-- in the history of a seat that met another, the other's calls begin with those that it had made
abbrev pub OthersStay : Type 0
OthersStay = (u : View) (calls : List (HubCall × HubReply)) (x v w : View) → Does u calls x
    → Meets v x w
    → IsPrefix (calls_by u.number u.seen ++ entries u.number calls) (calls_by u.number w.seen)
