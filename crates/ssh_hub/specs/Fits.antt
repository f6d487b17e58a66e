-- What an answer says of its call, in whatever hub.
use Rattle.std.specs.Prelude.{◌≡◌, ◌≤◌, ◌<◌, List, [], ◌∷◌, true, Some}
use Rattle.ssh_hub.specs.declared.answers.Put.TheVariants.{Full, Ended as PutEnded}
use Rattle.ssh_hub.specs.declared.answers.PutReply.TheVariants.{
  Full as RepliesFull,
  Ended as ReplyEnded,
}
use Rattle.ssh_hub.specs.declared.answers.Deliver.TheVariants.{Full as InboxFull, Gone as NoInbox}
use Rattle.ssh_hub.specs.declared.answers.Reserve.TheVariants.{Got}
use Rattle.ssh_hub.specs.declared.answers.Taken.TheVariants.{Reply, Command as TakenCommand}
use Rattle.ssh_hub.specs.declared.history.HubCall.{HubCall}
use Rattle.ssh_hub.specs.declared.history.HubCall.TheVariants.{
  ReserveBytes,
  PutCommand,
  PutAnswer,
  TakeNext,
  DeliverMsg,
}
use Rattle.ssh_hub.specs.declared.history.HubReply.{HubReply}
use Rattle.ssh_hub.specs.declared.history.HubReply.TheVariants.{
  Reserved,
  WasPut,
  ReplyWasPut,
  Took,
  Delivered,
}
use Rattle.ssh_hub.specs.declared.history.View.{View}
use Rattle.ssh_hub.specs.Words.{Makes}
use Rattle.ssh_hub.specs.Does.{Does}

-- no more is reserved than was wanted, and something where something was; what was handed in and
-- is not kept comes back as it was; nothing is taken that was not asked for
abbrev pub Fits : HubCall → HubReply → Type 0
Fits (ReserveBytes c want) (Reserved (Got n)) = (n ≤ want) × (0 < want → 0 < n)
Fits (PutCommand msg spend wanted) (WasPut (Full back)) = back ≡ msg
Fits (PutCommand msg spend wanted) (WasPut (PutEnded at back)) = back ≡ msg
Fits (PutAnswer answer) (ReplyWasPut (RepliesFull back)) = back ≡ answer
Fits (PutAnswer answer) (ReplyWasPut (ReplyEnded at back)) = back ≡ answer
Fits (TakeNext replies commands) (Took (Some (Reply ticket answer))) = replies ≡ true
Fits (TakeNext replies commands) (Took (Some (TakenCommand ticket msg))) = commands ≡ true
Fits (DeliverMsg c msg) (Delivered (InboxFull back)) = back ≡ msg
Fits (DeliverMsg c msg) (Delivered (NoInbox back)) = back ≡ msg
Fits call reply = Unit {0}

abbrev pub AllFit : List (HubCall × HubReply) → Type 0
AllFit [] = Unit {0}
AllFit (one ∷ others) = Fits one.0 one.1 × AllFit others

-- every call of a seat is answered so
abbrev pub AnswersFit : Type 0
AnswersFit = (v : View) (c : HubCall) (r : HubReply) (w : View) → Makes v c r w → Fits c r

-- and so is each of several
abbrev pub AllAnswersFit : Type 0
AllAnswersFit =
    (v : View) (calls : List (HubCall × HubReply)) (w : View) → Does v calls w → AllFit calls
