-- What an input owes, as a list of acts, and the plan that they make.
use Rattle.std.specs.Prelude.{ℕ, ◌+◌, Bool, true, false, List, [], ◌∷◌, map, filter, Option, None}
use Rattle.ssh_link.specs.declared.command.Command.{Command}
use Rattle.ssh_link.specs.declared.link.TraceEntry.{TraceEntry}
use Rattle.ssh_link.specs.declared.link.TraceEntry.TheVariants.{Noticed, Sent}
use Rattle.ssh_link.specs.Frames.{Frame}
use Rattle.ssh_link.specs.declared.notice.Notice.{Notice}
use Rattle.ssh_link.specs.declared.outcome.CommandOutcome.{CommandOutcome}
use Rattle.ssh_link.specs.declared.outcome.CommandOutcome.TheVariants.{Accepted, Opened, Refused}
use Rattle.ssh_wire.specs.declared.channel_id.ChannelId.{ChannelId}
use Rattle.ssh_auth.specs.declared.question.Judged.{Judged}
use Rattle.ssh_auth.specs.declared.question.Lent.{Lent}
use Rattle.ssh_auth.specs.declared.question.Question.TheVariants.{Lends, Judges, Listens, Adjusts}
use Rattle.ssh_auth.specs.declared.question.Question.{Question}
use Rattle.ssh_auth.specs.declared.question.Question.TheVariants.{Done, Begins, Steps}
use Rattle.ssh_auth.specs.Plan.{Plan, Finish, Ask, Tell, Answer}
use Rattle.ssh_channels.specs.Lines.{all_go_on}
use Rattle.ssh_rules.specs.Exchange.{is_of_transport, given, begun, joined, renewed}
use Rattle.ssh_rules.specs.Layout.{at_once}
use Rattle.ssh_rules.specs.World.{World, ChannelRequest, keyed, lined}
use Rattle.ssh_rules.specs.Effect.{Effect, Brings, effect_at}
use Rattle.ssh_rules.specs.Outcome.{Fault, Outcome, Goes, Ends, Fails}

-- what the exchange of keys is asked: to begin, or to take a payload of the peer's
pub data Exchanging : Type 0 where
  Beginning : Exchanging
  Stepping : (payload : List ℕ) → Exchanging

pub data Act : Type 0 where
  -- the users of the channels are told this
  Notes : (notice : Notice) → Act
  -- a callback is made, which tells of the request at where it is one's, and the commands that it
  -- recorded are done
  Calls : (at : Option ChannelRequest) → (lent : Lent) → Act
  -- the handler is asked whether this is granted, which is what the request at asks where it is
  -- one's; the commands that it recorded are done, and then the world turns by its answer
  Judges_by : (at : Option ChannelRequest) → (judged : Judged)
      → (by : (granted : Bool) → World → World) → Act
  -- the handler is asked whether connections to this address are forwarded and at which port it
  -- listens, the commands that it recorded are done, and then the world turns by its answer
  Listens_by : (address : List ℕ) → (port : ℕ) → (by : (granted : Bool) → (bound : ℕ) → World
      → World) → Act
  -- the handler is asked how large a window is from now on, and the world turns by its answer
  Adjusts_by : (channel : ChannelId) → (current : ℕ) → (by : ℕ → World → World) → Act
  -- the exchange of keys is asked this, what it gives is handed on at once, and the world turns by
  -- its answer (RFC 4253 section 7)
  Exchanges : (asked : Exchanging) → Act
  -- the world turns, and frames are written
  Turns : (by : World → World) → Act
  -- the run is over
  Is_over : Act
  -- the input cannot be finished
  Stops : (why : Fault) → Act

-- the link is told these, one after another
abbrev pub tell_all : List TraceEntry → Plan Outcome → Plan Outcome
tell_all [] next = next
tell_all (entry ∷ entries) next = Tell entry (tell_all entries next)

-- the handler is told of a command that opens a channel, or was refused, by its place
abbrev pub tell_done : ℕ → CommandOutcome → Plan Outcome → Plan Outcome
tell_done place Accepted next = next
tell_done place (Opened channel) next = Ask (Done place (Opened channel)) (λ _. next)
tell_done place (Refused why) next = Ask (Done place (Refused why)) (λ _. next)

-- what a command does, and what follows
abbrev pub done : Effect → (CommandOutcome → World → Plan Outcome) → Plan Outcome
done (Brings notices outcome world) next = tell_all (map Noticed notices) (next outcome world)

-- what a callback recorded is done in order, and then this follows
abbrev pub done_all : (at : Option ChannelRequest) → (place : ℕ) → List Command → World
    → (World → Plan Outcome) → Plan Outcome
done_all at place [] w next = next w
done_all at place (command ∷ commands) w next =
    done (effect_at at w command) (λ outcome world. tell_done place outcome
    (done_all at (place + 1) commands world next))

-- ---- the exchange of keys

abbrev pub exchange_question : Exchanging → Question
exchange_question Beginning = Begins
exchange_question (Stepping payload) = Steps payload

-- the payloads that it gives: a message of its own has a number from 1 to 49, and none other goes
-- out
abbrev pub payloads_given : (asked : Exchanging) → Answer (exchange_question asked)
    → List (List ℕ)
payloads_given Beginning payload = payload ∷ []
payloads_given (Stepping payload) step = step.frames

abbrev pub frames_given : List (List ℕ) → List Frame
frames_given payloads = map at_once (filter is_of_transport payloads)

-- these went out
abbrev pub gives : List Frame → World → World
gives frames w = keyed (given frames w.keys) w

-- the exchange is over: what waits goes out behind what was held, each channel as far as its credit
-- goes, and with it the EOF and the CLOSE that waited; and the counts begin anew
abbrev pub renews : World → World
renews w = keyed renewed (lined all_go_on w)

-- one step of the peer's
abbrev pub steps_on : (payload : List ℕ) → (done : Bool) → World → World
steps_on payload true w = renews w
steps_on payload false w =
    keyed (record w.keys { exchange = joined payload w.keys.exchange }) w

abbrev pub turned_by : (asked : Exchanging) → Answer (exchange_question asked) → World → World
turned_by Beginning payload w = keyed (begun w.keys) w
turned_by (Stepping payload) step w = steps_on payload step.done w

-- it answered this: the world from then on
abbrev pub moved : (asked : Exchanging) → Answer (exchange_question asked) → World → World
moved asked answer w =
    turned_by asked answer (gives (frames_given (payloads_given asked answer)) w)

-- .. and its frames are handed on before anything follows
abbrev pub exchanged : (asked : Exchanging) → Answer (exchange_question asked) → World
    → (World → Plan Outcome) → Plan Outcome
exchanged asked answer w next =
    tell_all (map Sent (frames_given (payloads_given asked answer))) (next (moved asked answer w))

abbrev pub acts : List Act → World → Plan Outcome
acts [] w = Finish (Goes w)
acts (Notes notice ∷ later) w = Tell (Noticed notice) (acts later w)
acts (Calls at lent ∷ later) w = Ask (Lends lent) (λ commands.
    done_all at 0 commands w (acts later))
acts (Judges_by at judged by ∷ later) w = Ask (Judges judged) (λ judgement.
    done_all at 0 judgement.commands w (λ world. acts later (by judgement.granted world)))
acts (Listens_by address port by ∷ later) w = Ask (Listens address port) (λ listening.
    done_all None 0 listening.commands w
    (λ world. acts later (by listening.granted listening.port world)))
acts (Adjusts_by channel current by ∷ later) w = Ask (Adjusts channel current)
    (λ window. acts later (by window w))
acts (Exchanges asked ∷ later) w = Ask (exchange_question asked) (λ answer.
    exchanged asked answer w (acts later))
acts (Turns by ∷ later) w = acts later (by w)
acts (Is_over ∷ later) w = Finish (Ends w)
acts (Stops why ∷ later) w = Finish (Fails why)
