-- The turns of a gateway.
use Rattle.std.specs.Prelude.{◌≡◌, ◌+◌, List, [], ◌∷◌, ◌++◌, flat_map}
use Rattle.ssh_link.specs.declared.link.TraceEntry.{TraceEntry}
use Rattle.ssh_auth.specs.declared.question.Question.{Question}
use Rattle.ssh_auth.specs.Plan.{Plan, Follows, told_in}
use Rattle.ssh_auth.specs.Publickey.{Acceptance}
use Rattle.ssh_handler.specs.declared.recorded.RecordError.{RecordError}
use Rattle.ssh_handler.specs.OwnCalls.{own_calls}
use Rattle.ssh_channels.specs.declared.chunk.DataKind.TheVariants.{Plain}
use Rattle.ssh_channels.specs.Layout.{chunk}
use Rattle.ssh_channels.specs.Lines.{takes_data}
use Rattle.ssh_link.specs.declared.command.Command.TheVariants as command
use Rattle.ssh_rules.specs.Effect.{effect, accepts as does}
use Rattle.ssh_rules.specs.Outcome.{Outcome, Goes}
use Rattle.ssh_rules.specs.Run.{Turn, Owes, IsTaken, calls_of}
use Rattle.ssh_rules.specs.World.{World, in_exchange, lined}
use Rattle.ssh_gateway.specs.declared.targets.TargetCall.{TargetCall}
use Rattle.ssh_gateway.specs.Answering.{answered}
use Rattle.ssh_gateway.specs.Board.{Board, all_noted, all_due}
use Rattle.ssh_gateway.specs.Choosing.{Permits, Source, Sends, IsChosen, IsGiven, own_kind, took, settled}
use Rattle.ssh_gateway.specs.Choosing.{closed_by}

-- one turn of a gateway: what its input came from, what the targets were asked to choose it, the
-- turn of the session, and what the targets were told after it
pub record Round (E F : Type 0) : Type 0 where
  pub source : Source
  pub before : List TargetCall
  pub turn : Turn (RecordError E) F
  -- what its callbacks asked, but for authentication
  pub asked : List Question
  pub after : List TargetCall

abbrev pub target_calls : {E F : Type 0} → Round E F → List TargetCall
target_calls round = round.before ++ round.after

-- what the link was asked and told
abbrev pub link_entries : {E F : Type 0} → Round E F → List TraceEntry
link_entries round = took round.source round.turn.input ++ told_in round.turn.events

-- the board behind its input, and behind all of it
abbrev pub board_within : {E F : Type 0} → Round E F → Board → Board
board_within round board =
    record (settled round.source board) { moment = round.turn.input.moment }

abbrev pub board_after : {E F : Type 0} → Round E F → Board → Board
board_after round board = all_noted round.asked (board_within round board)

-- it begins so: the source is chosen and its input is given, which is one of a run of the session
pub record Begins {E F : Type 0} (permits : Permits) (board : Board) (w : World)
    (round : Round E F) : Type 0 where
  -- the oldest open that is to be decided; else the first connection that has something; else the
  -- link. The targets were asked this for it, and nothing else
  pub chosen : IsChosen permits w board round.source round.before
  -- its input has the gateway's next ticket, or is the link's
  pub given : IsGiven (own_kind (board.last_ticket + 1) round.source) board.moment round.turn.input
  pub taken : IsTaken w round.turn

-- it came to this: what its input owes was done, and its callbacks, but those of authentication, are
-- these questions, each answered by the rule
pub record Comes {E F : Type 0} (accepts : Acceptance) (w : World) (round : Round E F)
    (outcome : Outcome) : Type 0 where
  pub plan : Plan Outcome
  pub owes : Owes accepts w round.turn.input plan
  pub follows : Follows plan round.turn.events outcome
  pub answered : own_calls (calls_of round.turn) ≡ flat_map answered round.asked

-- what is due to the targets after it
abbrev pub due_after : {E F : Type 0} → Round E F → Board → List TargetCall
due_after round board =
    closed_by round.source ++ all_due round.asked (board_within round board)

-- data that a target gave are accepted, and stand behind what its channel accepted before
abbrev pub TakesData : World → Source → Type 0
TakesData w (Sends earlier one later bytes) = effect w (command.Data one.channel bytes)
    ≡ does (lined (takes_data one.channel.0 (chunk Plain bytes) (in_exchange w)) w)
TakesData w _ = Unit {0}

-- the whole of it
pub record IsRound {E F : Type 0} (accepts : Acceptance) (permits : Permits)
    (board : Board) (w : World) (round : Round E F) (outcome : Outcome) : Type 0 where
  pub begins : Begins permits board w round
  pub comes : Comes accepts w round outcome
  -- data of the peer are written, its end of file finishes and its close closes
  pub told : round.after ≡ due_after round board
  pub accepted : TakesData w round.source

-- these one after another
abbrev pub Rounds : {E F : Type 0} → Acceptance → (permits : Permits)
    → (board : Board) → (w : World) → List (Round E F) → (board_then : Board) → (world : World)
    → Type 0
Rounds accepts permits board w [] board_then world = (board_then ≡ board) × (world ≡ w)
Rounds accepts permits board w (round ∷ rounds) board_then world = (mid : World)
    × IsRound accepts permits board w round (Goes mid)
    × Rounds accepts permits (board_after round board) mid rounds board_then world
