-- What the answers of the hub say to a call that waits for them; nothing, where it has to wait on.
use Rattle.std.specs.Prelude.{ℕ, Option, Some, None, Result, Ok, Err}
use Rattle.ssh_link.specs.declared.notice.ChannelMsg.{ChannelMsg}
use Rattle.ssh_link.specs.declared.notice.ChannelMsg.TheVariants.{Open, OpenFailure}
use Rattle.ssh_link.specs.declared.outcome.CommandOutcome.{CommandOutcome}
use Rattle.ssh_link.specs.declared.outcome.Refusal.TheVariants.{UnknownChannel}
use Rattle.ssh_hub.specs.declared.answers.HandleError.{HandleError}
use Rattle.ssh_hub.specs.declared.answers.HandleError.TheVariants.{Ended, OpenFailed, Refused}
use Rattle.ssh_hub.specs.declared.answers.Put.TheVariants.{Done as IsPut, Ended as PutEnded}
use Rattle.ssh_hub.specs.declared.answers.PutReply.TheVariants.{
  Done as ReplyIsPut,
  Ended as ReplyEnded,
}
use Rattle.ssh_hub.specs.declared.answers.Received.{Received}
use Rattle.ssh_hub.specs.declared.answers.Received.TheVariants.{Msg, Closed, Ended as InboxEnded}
use Rattle.ssh_hub.specs.declared.answers.SlotAnswer.{SlotAnswer}
use Rattle.ssh_hub.specs.declared.history.HubReply.{HubReply}
use Rattle.ssh_hub.specs.declared.history.HubReply.TheVariants.{
  WasPut,
  ReplyWasPut,
  HasReceived,
  OutcomeIs,
  SlotAnswerIs,
}

-- the ticket of a put, or the end of the hub
abbrev pub ticket_said : HubReply → Option (Result ℕ HandleError)
ticket_said (WasPut (IsPut ticket)) = Some (Ok ticket)
ticket_said (WasPut (PutEnded at back)) = Some (Err (Ended at))
ticket_said reply = None

-- the same of an answer to an open
abbrev pub reply_said : HubReply → Option (Result ℕ HandleError)
reply_said (ReplyWasPut (ReplyIsPut ticket)) = Some (Ok ticket)
reply_said (ReplyWasPut (ReplyEnded at back)) = Some (Err (Ended at))
reply_said reply = None

-- the next message, or that none can come
abbrev pub message_said : HubReply → Option (Option ChannelMsg)
message_said (HasReceived (Msg msg)) = Some (Some msg)
message_said (HasReceived Closed) = Some None
message_said (HasReceived (InboxEnded at)) = Some None
message_said reply = None

-- what a message says of an open
abbrev pub open_told : ChannelMsg → Option (Result (Unit {0}) HandleError)
open_told (Open id packet window) = Some (Ok tt)
open_told (OpenFailure reason) = Some (Err (OpenFailed reason))
open_told msg = None

-- whether the peer has confirmed an open
abbrev pub confirmed_said : HubReply → Option (Result (Unit {0}) HandleError)
confirmed_said (HasReceived (Msg msg)) = open_told msg
confirmed_said (HasReceived Closed) = Some (Err (Refused UnknownChannel))
confirmed_said (HasReceived (InboxEnded at)) = Some (Err (Ended at))
confirmed_said reply = None

-- the outcome of a command
abbrev pub outcome_said : HubReply → Option CommandOutcome
outcome_said (OutcomeIs outcome) = outcome
outcome_said reply = None

-- the answer of a slot
abbrev pub slot_said : HubReply → Option SlotAnswer
slot_said (SlotAnswerIs answer) = answer
slot_said reply = None
