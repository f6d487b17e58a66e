-- One call of the hub of one thread: the hub afterwards, and the reply.
use Rattle.std.specs.Prelude.{ℕ, ◌+◌, min, [], Some, None, Option, Bool, false, not}
use Rattle.ssh_hub.specs.World.{Held, World, Channel, Map, find, with_new, with_changed}
use Rattle.ssh_hub.specs.Channels.{waiting, with_window, reserve_from, releasing, granting}
use Rattle.ssh_hub.specs.Channels.{deliver_to, receive_from, look_at, claimed}
use Rattle.ssh_hub.specs.Lists.{put_in, put_reply_in, take_first, asked}
use Rattle.ssh_hub.specs.Outcomes.{answered, without_found}
use Rattle.ssh_hub.specs.Slots.{answered_at, answer_at, collected_at}
use Rattle.ssh_hub.specs.Reserved.{at_hand, reservations, all_after}
use Rattle.ssh_hub.specs.declared.answers.Config2.{Config2}
use Rattle.ssh_hub.specs.declared.answers.Reserve.{Reserve}
use Rattle.ssh_hub.specs.declared.answers.Reserve.TheVariants.{Gone, Ended}
use Rattle.ssh_hub.specs.declared.answers.Deliver.{Deliver}
use Rattle.ssh_hub.specs.declared.answers.Deliver.TheVariants.{Gone as ChannelGone}
use Rattle.ssh_hub.specs.declared.answers.Received.{Received}
use Rattle.ssh_hub.specs.declared.answers.Received.TheVariants.{Closed}
use Rattle.ssh_hub.specs.declared.answers.Look.{Look}
use Rattle.ssh_hub.specs.declared.history.HubCall.{HubCall}
use Rattle.ssh_hub.specs.declared.history.HubCall.TheVariants.{
  ReserveBytes,
  ReleaseBytes,
  MakeReady,
  GrantBytes,
}
use Rattle.ssh_hub.specs.declared.history.HubCall.TheVariants.{
  PutCommand,
  PutAnswer,
  TakeNext,
  DeliverMsg,
  ReceiveMsg,
}
use Rattle.ssh_hub.specs.declared.history.HubCall.TheVariants.{
  AnswerTicket,
  TakeOutcome,
  AskRefusal,
}
use Rattle.ssh_hub.specs.declared.history.HubCall.TheVariants.{
  LookAt,
  ClaimChannel,
  DrawSlot,
  AnswerSlot,
  TakeSlotAnswer,
}
use Rattle.ssh_hub.specs.declared.history.HubCall.TheVariants.{EndHub, AskEnded, Nudge, SplitSeat}
use Rattle.ssh_hub.specs.declared.history.HubReply.{HubReply}
use Rattle.ssh_hub.specs.declared.history.HubReply.TheVariants.{
  Done,
  Reserved,
  WasPut,
  ReplyWasPut,
  Took,
  Delivered,
}
use Rattle.ssh_hub.specs.declared.history.HubReply.TheVariants.{
  HasReceived,
  OutcomeIs,
  EndedAt,
  Saw,
  Claimed,
}
use Rattle.ssh_hub.specs.declared.history.HubReply.TheVariants.{
  SlotIs,
  SlotAnswerIs,
  RefusalIs,
  SeatIs,
}
use Rattle.ssh_link.specs.declared.notice.ChannelMsg.{ChannelMsg}

abbrev pub opening_hub : Config2 → Held
opening_hub config = record {
  inbox_size = config.channel_buffer_size;
  command_size = config.event_buffer_size;
  place = 0;
  seats = 1;
  tickets = 0;
  slots = 0;
  commands = [];
  replies = [];
  due = None;
  outcomes = [];
  refusals = [];
  answers = [];
  ended = None;
  channels = [];
}

-- the hub as it is made, with its first seat
abbrev pub opening : Config2 → World
opening config = record { hub = opening_hub config; reserved = [] }

-- a channel changes and answers
abbrev pub on : {R : Type 0} → Map Channel → ℕ → Channel × R → Map Channel × R
on channels c p = (with_changed channels c p.0, p.1)

abbrev pub reserve_in : Map Channel → ℕ → ℕ → Option ℕ → Option Channel → Map Channel × Reserve
reserve_in channels c want (Some at) found = (channels, Ended at)
reserve_in channels c want None None = (channels, Gone)
reserve_in channels c want None (Some ch) = on channels c (reserve_from ch want ch.is_closed)

-- where the channel is there, it changes so
abbrev pub changed : Map Channel → ℕ → (Channel → Channel) → Option Channel → Map Channel
changed channels c f None = channels
changed channels c f (Some ch) = with_changed channels c (f ch)

-- the channel has this window; a new one has an inbox of this size
abbrev pub ready_in : Map Channel → ℕ → ℕ → ℕ → ℕ → Option Channel → Map Channel
ready_in channels size c window packet None =
    with_new channels c (with_window (waiting size) window packet)
ready_in channels size c window packet (Some ch) =
    with_changed channels c (with_window ch window packet)

abbrev pub deliver_in : Map Channel → ℕ → ChannelMsg → Option Channel → Map Channel × Deliver
deliver_in channels c msg None = (channels, ChannelGone msg)
deliver_in channels c msg (Some ch) = on channels c (deliver_to ch msg ch.is_closed)

abbrev pub receive_in : Map Channel → ℕ → Option ℕ → Option Channel → Map Channel × Received
receive_in channels c ended None = (channels, Closed)
receive_in channels c ended (Some ch) = on channels c (receive_from ch ended ch.inbox)

abbrev pub look_in : Option Channel → Option Look
look_in None = None
look_in (Some ch) = look_at ch ch.is_closed

-- whether the channel is there, and was never claimed
abbrev pub is_free : Option Channel → Bool
is_free None = false
is_free (Some ch) = not ch.is_claimed

-- the first end has the place
abbrev pub ended_first : ℕ → Option ℕ → Option ℕ
ended_first place None = Some place
ended_first place (Some at) = Some at

-- the hub and the reply where only the channels change
abbrev pub with_channels : {R : Type 0} → Held → (R → HubReply) → Map Channel × R → Held
    × HubReply
with_channels w say p = (record w { channels = p.0 }, say p.1)

-- the hub and the reply, where the reply is said so
abbrev pub saying : {R : Type 0} → (R → HubReply) → Held × R → Held × HubReply
saying say p = (p.0, say p.1)

-- what the call of a seat does that has so many bytes at hand, which it may give back or spend
unfoldable pub act : Held → ℕ → ℕ → HubCall → Held × HubReply
act w seat had (ReserveBytes c want) =
    with_channels w Reserved (reserve_in w.channels c.0 want w.ended (find c.0 w.channels))
act w seat had (ReleaseBytes c amount) = (
  record w {
    channels = changed w.channels c.0 (λ ch. releasing ch (min amount had))
        (find c.0 w.channels);
  },
  Done,
)
act w seat had (PutCommand command spend wanted) =
    saying WasPut (put_in w seat (min spend had) command wanted w.ended)
act w seat had (PutAnswer answer) = saying ReplyWasPut (put_reply_in w seat answer w.ended)
act w seat had (TakeNext replies commands) =
    saying Took (take_first w (asked replies w.replies) (asked commands w.commands))
act w seat had (MakeReady c window packet) = (
  record w { channels = ready_in w.channels w.inbox_size c.0 window packet (find c.0 w.channels) },
  Done,
)
act w seat had (GrantBytes c amount) = (
  record w {
    channels = changed w.channels c.0 (λ ch. granting ch amount) (find c.0 w.channels);
  },
  Done,
)
act w seat had (DeliverMsg c msg) =
    with_channels w Delivered (deliver_in w.channels c.0 msg (find c.0 w.channels))
act w seat had (ReceiveMsg c) =
    with_channels w HasReceived (receive_in w.channels c.0 w.ended (find c.0 w.channels))
act w seat had (AnswerTicket ticket outcome) = (answered w ticket outcome w.due, Done)
act w seat had (TakeOutcome ticket) = (
  record w { outcomes = without_found w.outcomes ticket (find ticket w.outcomes) },
  OutcomeIs (find ticket w.outcomes),
)
act w seat had EndHub = (record w { ended = ended_first w.place w.ended }, Done)
act w seat had AskEnded = (w, EndedAt w.ended)
act w seat had (LookAt c) = (w, Saw (look_in (find c.0 w.channels)))
act w seat had (ClaimChannel c) = (
  record w { channels = changed w.channels c.0 claimed (find c.0 w.channels) },
  Claimed (is_free (find c.0 w.channels)),
)
act w seat had DrawSlot = (
  record w { slots = w.slots + 1; answers = with_new w.answers (w.slots + 1) None },
  SlotIs (w.slots + 1),
)
act w seat had (AnswerSlot slot answer) =
    (record w { answers = answered_at w.answers slot answer (find slot w.answers) }, Done)
act w seat had (TakeSlotAnswer slot) = (
  record w { answers = collected_at w.answers slot (answer_at (find slot w.answers)) },
  SlotAnswerIs (answer_at (find slot w.answers)),
)
act w seat had AskRefusal = (w, RefusalIs (find seat w.refusals))
act w seat had Nudge = (w, Done)
act w seat had SplitSeat = (record w { seats = w.seats + 1 }, SeatIs (w.seats + 1))

-- one more call was made
abbrev pub counted : Held → Held
counted w = record w { place = w.place + 1 }

-- the hub with what the seats have reserved, after a call that did so
abbrev pub stepped : World → ℕ → HubCall → Held × HubReply → World × HubReply
stepped w seat call p =
    (record { hub = counted p.0; reserved = all_after w seat call p.1 }, p.1)

-- one call of the hub of one thread
abbrev pub hub_step : World → ℕ → HubCall → World × HubReply
hub_step w seat call =
    stepped w seat call (act w.hub seat (at_hand call (reservations seat w)) call)
