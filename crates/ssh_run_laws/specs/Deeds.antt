-- What was done in a run that concerns channels: each command with what came of it, each open that
-- the handler was asked about, and each CLOSE of the peer's (RFC 4254 section 5).
use Rattle.std.specs.Prelude.{ℕ, ◌+◌, ◌==◌, cond, List, [], ◌∷◌, ◌++◌, Option, Some, None}
use Rattle.std.specs.Prelude.{unwrap_or}
use Rattle.ssh_wire.specs.declared.channel_id.ChannelId.{ChannelId}
use Rattle.ssh_link.specs.declared.command.Command.{Command}
use Rattle.ssh_link.specs.declared.command.Command.TheVariants as command
use Rattle.ssh_link.specs.declared.frame.InputKind.{InputKind}
use Rattle.ssh_link.specs.declared.frame.InputKind.TheVariants as input
use Rattle.ssh_link.specs.declared.link.TraceEntry.{TraceEntry}
use Rattle.ssh_link.specs.declared.link.TraceEntry.TheVariants.{Took, Sent, Noticed, Answered}
use Rattle.ssh_link.specs.declared.notice.ChannelMsg.{ChannelMsg}
use Rattle.ssh_link.specs.declared.notice.ChannelMsg.TheVariants as msg
use Rattle.ssh_link.specs.declared.notice.Notice.{Notice}
use Rattle.ssh_link.specs.declared.notice.Notice.TheVariants.{Channel}
use Rattle.ssh_link.specs.declared.outcome.CommandOutcome.{CommandOutcome}
use Rattle.ssh_link.specs.declared.outcome.CommandOutcome.TheVariants.{Accepted}
use Rattle.ssh_auth.specs.Plan.{Event, Called, Stepped, Told}
use Rattle.ssh_auth.specs.Was.{Was, Done_so, was, asked_of}
use Rattle.ssh_rules.specs.Answered.{open_asked}
use Rattle.ssh_rules.specs.Run.{Turn}
use Rattle.ssh_rules.specs.Valid.{recorded_so}

pub data Deed : Type 0 where
  -- a command was given from outside or recorded in a callback, and this came of it
  Commanded : (command : Command) → (outcome : CommandOutcome) → Deed
  -- the handler was asked about an open of the peer's, which waits under this side's number for its
  -- answer (section 5.1)
  Asked : (channel : ChannelId) → Deed
  -- the peer's CLOSE of this channel was read (section 5.3)
  Closed_by_peer : (channel : ChannelId) → Deed

-- ---- what the link is told

-- the command that an input gives
abbrev pub given_by : InputKind → Option Command
given_by (input.Command ticket command) = Some command
given_by (input.OpenReply ticket answer) = Some (command.Answer answer)
given_by _ = None

abbrev pub came_of : Option Command → CommandOutcome → List Deed
came_of None outcome = []
came_of (Some command) outcome = Commanded command outcome ∷ []

abbrev pub closed_by : ChannelId → ChannelMsg → List Deed
closed_by channel msg.Close = Closed_by_peer channel ∷ []
closed_by channel _ = []

abbrev pub noted_by : Notice → List Deed
noted_by (Channel channel message) = closed_by channel message
noted_by _ = []

-- what this entry tells was done, where its input gave this command
abbrev pub told_by : (given : Option Command) → TraceEntry → List Deed
told_by given (Answered ticket outcome) = came_of given outcome
told_by given (Noticed notice) = noted_by notice
told_by given (Sent frame) = []
told_by given (Took commands replies taken) = []

-- the command whose answer is told next
abbrev pub given_then : (given : Option Command) → TraceEntry → Option Command
given_then given (Took commands replies taken) = given_by taken.kind
given_then given _ = given

-- what a trace alone tells was done
abbrev pub deeds_told : (given : Option Command) → List TraceEntry → List Deed
deeds_told given [] = []
deeds_told given (entry ∷ entries) =
    told_by given entry ++ deeds_told (given_then given entry) entries

-- ---- what callbacks recorded

-- the handler is told what came of the command at this place: it is, where the command opened a
-- channel or was refused
abbrev pub told_done : {E : Type 0} → (place : ℕ) → Was E → Option CommandOutcome
told_done place (Done_so at outcome answer) = cond (place == at) (Some outcome) None
told_done place _ = None

abbrev pub told_done_in : {E F : Type 0} → (place : ℕ) → Event E F → Option CommandOutcome
told_done_in place (Called call) = told_done place (was call)
told_done_in place _ = None

-- what came of the recorded command at this place, before which these events had not come: where
-- nothing is told, it was accepted
abbrev pub outcome_at : {E F : Type 0} → (place : ℕ) → List (Event E F) → CommandOutcome
outcome_at place [] = Accepted
outcome_at place (event ∷ events) =
    unwrap_or (told_done_in place event) (outcome_at place events)

-- the recorded commands from this place on
abbrev pub deeds_from : {E F : Type 0} → (place : ℕ) → List Command → List (Event E F) → List Deed
deeds_from place [] events = []
deeds_from place (command ∷ commands) events =
    Commanded command (outcome_at place events) ∷ deeds_from (place + 1) commands events

-- the open that the handler was asked about
abbrev pub asked_by : Option ChannelId → List Deed
asked_by None = []
asked_by (Some channel) = Asked channel ∷ []

-- ---- in an input, and in a run

-- what was done in this event, behind which these come
abbrev pub done_at : {E F : Type 0} → (given : Option Command) → Event E F → List (Event E F)
    → List Deed
done_at given (Called call) events =
    asked_by (open_asked (asked_of call)) ++ deeds_from 0 (recorded_so (was call)) events
done_at given (Stepped step) events = []
done_at given (Told entry) events = told_by given entry

abbrev pub deeds_in : {E F : Type 0} → (given : Option Command) → List (Event E F) → List Deed
deeds_in given [] = []
deeds_in given (event ∷ events) = done_at given event events ++ deeds_in given events

-- in the order in which they were done
abbrev pub deeds : {E F : Type 0} → Turn E F → List Deed
deeds turn = deeds_in (given_by turn.input.kind) turn.events
