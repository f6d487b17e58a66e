-- The calls of the hub that a notice makes.
use Rattle.std.specs.Prelude.{Bool, true, false, not, if◌then◌else◌, Option, Some, None}
use Rattle.ssh_link.specs.declared.notice.ChannelMsg.{ChannelMsg}
use Rattle.ssh_link.specs.declared.notice.ChannelMsg.TheVariants.{WindowAdjusted}
use Rattle.ssh_link.specs.declared.notice.Notice.{Notice}
use Rattle.ssh_link.specs.declared.notice.Notice.TheVariants.{
  Channel,
  Granted,
  Ready,
  Forwarded,
  Cancelled,
  Pong,
}
use Rattle.ssh_hub.specs.declared.answers.Deliver.TheVariants.{Full}
use Rattle.ssh_hub.specs.declared.answers.SlotAnswer.TheVariants.{
  Port,
  Cancelled as IsCancelled,
  Pong as IsThere,
}
use Rattle.ssh_hub.specs.declared.history.HubCall.{HubCall}
use Rattle.ssh_hub.specs.declared.history.HubCall.TheVariants.{
  MakeReady,
  GrantBytes,
  DeliverMsg,
  AnswerSlot,
}
use Rattle.ssh_hub.specs.declared.history.HubReply.{HubReply}
use Rattle.ssh_hub.specs.declared.history.HubReply.TheVariants.{Delivered}
use Rattle.ssh_hub.specs.declared.history.View.{View}
use Rattle.ssh_hub.specs.Follow.{Machine, Acts}

-- the call that a notice makes
abbrev pub call_for : Notice → HubCall
call_for (Channel channel msg) = DeliverMsg channel msg
call_for (Granted channel amount) = GrantBytes channel amount
call_for (Ready channel window packet) = MakeReady channel window packet
call_for (Forwarded slot port) = AnswerSlot slot (Port port)
call_for (Cancelled slot ok) = AnswerSlot slot (IsCancelled ok)
call_for (Pong slot) = AnswerSlot slot IsThere

-- whether a message that finds its inbox full is dropped: the next one tells the newer window
abbrev pub may_be_dropped : ChannelMsg → Bool
may_be_dropped (WindowAdjusted window) = true
may_be_dropped msg = false

-- whether the call is to be made again: a message that found its inbox full and may not be dropped
abbrev pub is_made_again : Notice → HubReply → Bool
is_made_again (Channel channel msg) (Delivered (Full back)) = not (may_be_dropped msg)
is_made_again notice reply = false

-- whether a notice is still to be told, or was told
pub data Telling : Type 0 where
  to_tell : Telling
  told : Telling

abbrev pub notice_asks : Notice → Telling → Option HubCall
notice_asks notice to_tell = Some (call_for notice)
notice_asks notice told = None

abbrev pub notice_told : Notice → Telling → HubReply → Telling
notice_told notice to_tell reply = if is_made_again notice reply then to_tell else told
notice_told notice told reply = told

-- the call of the notice, made again while it has to be
abbrev pub notices : Notice → Machine Telling
notices notice = record { asks = notice_asks notice; told = notice_told notice }

-- the seat made the calls of this notice, and no others
abbrev pub Notices : Notice → View → View → Type 0
Notices notice v w = Acts (notices notice) v to_tell told w
