-- What a gateway promises: turns one after another, each by its rule, and how they end.
use Rattle.std.specs.Prelude.{◌≡◌, ◌<◌, ◌⊎◌, ℕ, List, [], ◌∷◌, ◌++◌, length, map, flat_map, Result}
use Rattle.std.specs.Prelude.{Ok, Err, Option, None}
use Rattle.std.proofs.Common.{inl, inr}
use Rattle.ssh_link.specs.Told.{Adds}
use Rattle.ssh_auth.specs.declared.call.Call.{Call}
use Rattle.ssh_auth.specs.declared.question.Question.{Question}
use Rattle.ssh_auth.specs.Plan.{Event, calls_in}
use Rattle.ssh_auth.specs.Publickey.{Acceptance}
use Rattle.ssh_handler.specs.declared.recorded.RecordError.{RecordError}
use Rattle.ssh_handler.specs.OwnCalls.{own_calls}
use Rattle.ssh_rules.specs.Outcome.{Ends}
use Rattle.ssh_rules.specs.Run.{Run, steps_of}
use Rattle.ssh_rules.specs.Valid.{IsValid}
use Rattle.ssh_rules.specs.World.{Settings, World, opening_world}
use Rattle.ssh_gateway.specs.declared.deciding.Verdict.TheVariants.{Granted}
use Rattle.ssh_gateway.specs.declared.error.GatewayError.{GatewayError}
use Rattle.ssh_gateway.specs.declared.error.GatewayError.TheVariants as error
use Rattle.ssh_gateway.specs.declared.switchboard.Asking.{Asking}
use Rattle.ssh_gateway.specs.Admitting.{admissions}
use Rattle.ssh_gateway.specs.Answering.{answered}
use Rattle.ssh_gateway.specs.Asked.{written, read}
use Rattle.ssh_gateway.specs.Board.{Board, opening_board}
pub use Rattle.ssh_gateway.specs.Bytes.{came, incoming, sent_by, outgoing}
use Rattle.ssh_gateway.specs.Choosing.{Permits, Decides}
use Rattle.ssh_gateway.specs.Laws.{first_let_in, DecidesBy, ComesTo, IsOpened}
use Rattle.ssh_gateway.specs.Serving.{Outside, IsBroken, ServesNone, TellsRound, UnlessSilenced}
use Rattle.ssh_gateway.specs.Serving.{IsShort, last_events, last_questions}
use Rattle.ssh_gateway.specs.Serving.{short_events, short_questions, UnlessShortCallback}
use Rattle.ssh_gateway.specs.Turns.{Round, Rounds, IsRound, link_entries, target_calls}
use Rattle.ssh_gateway.specs.Unfinished.{AtMostOne, endings_in, IsUnfinished, last_round, last_asked}
use Rattle.ssh_gateway.specs.Unfinished.{short_round, short_asked}

-- ---- how it ends

-- with so many turns finished, by this board and in this world: one more turn ended the run, or was
-- not finished; or there are as many as are allowed. Memory may be wanting in a turn, or for the
-- session itself, and then nothing was begun
abbrev pub EndsSo : {E F : Type 0} → Acceptance → Permits → (max : ℕ) → Board → World → (count : ℕ)
    → (between after : Outside F) → Result (Unit {0}) (GatewayError E F) → Type 0
EndsSo {E} {F} accepts permits max board w count between after (Ok done) = (count < max)
    × ((round : Round E F) × (world : World)
    × IsRound accepts permits board w round (Ends world) × TellsRound between after round)
EndsSo accepts permits max board w count between after (Err error.TurnLimit) = (count ≡ max)
    × (after ≡ between)
EndsSo {E} {F} accepts permits max board w count between after (Err error.NoMemory) =
    ((count ≡ 0) × (after ≡ between))
    ⊎ ((count < max) × IsShort E accepts permits board w between after)
EndsSo {E} {F} accepts permits max board w count between after (Err error.TargetFault) =
    (count < max) × IsBroken {E = E} accepts permits board w between after error.TargetFault
EndsSo accepts permits max board w count between after (Err (error.Run e)) = (count < max)
    × IsBroken accepts permits board w between after (error.Run e)

-- the input that was not finished, where there is one, was valid
abbrev pub EndIsValid : {E F : Type 0} → Acceptance → Permits → Board → World
    → (between after : Outside F) → Result (Unit {0}) (GatewayError E F) → Type 0
EndIsValid accepts permits board w between after (Err (error.Run e)) =
    (none : ServesNone accepts permits board w between after (error.Run e))
    → IsValid accepts w none.round.turn
EndIsValid accepts permits board w between after result = Unit {0}

-- where a turn was not finished, what it did, in short
abbrev pub UnfinishedSo : {E F : Type 0} (accepts : Acceptance) (permits : Permits) (max : ℕ)
    (board : Board) (w : World) (rounds : List (Round E F)) (between after : Outside F)
    (result : Result (Unit {0}) (GatewayError E F))
    → EndsSo accepts permits max board w (length rounds) between after result → Type 0
UnfinishedSo accepts permits max board w rounds between after (Err error.TargetFault) ends =
    IsUnfinished permits board w rounds
    (last_round accepts permits board w between after error.TargetFault ends.1)
    (last_asked accepts permits board w between after error.TargetFault ends.1)
    between.targets after.targets
UnfinishedSo accepts permits max board w rounds between after (Err (error.Run e)) ends =
    IsUnfinished permits board w rounds
    (last_round accepts permits board w between after (error.Run e) ends.1)
    (last_asked accepts permits board w between after (error.Run e) ends.1)
    between.targets after.targets
UnfinishedSo accepts permits max board w rounds between after (Err error.NoMemory) (inl none) =
    Unit {0}
UnfinishedSo accepts permits max board w rounds between after (Err error.NoMemory) (inr ends) =
    IsUnfinished permits board w rounds
    (short_round accepts permits board w between after ends.1)
    (short_asked accepts permits board w between after ends.1)
    between.targets after.targets
UnfinishedSo accepts permits max board w rounds between after (Err error.TurnLimit) ends = Unit {0}
UnfinishedSo accepts permits max board w rounds between after (Ok done) ends = Unit {0}

-- Ok, want of memory, or the limit of turns
abbrev pub IsComplete : {E F : Type 0} → Result (Unit {0}) (GatewayError E F) → Type 0
IsComplete (Err error.TargetFault) = ⊥
IsComplete (Err (error.Run e)) = ⊥
IsComplete result = Unit {0}

-- ---- the whole

pub record Gatewayed {E F : Type 0} (accepts : Acceptance) (permits : Permits) (settings : Settings)
    (max : ℕ) (before after : Outside F) (result : Result (Unit {0}) (GatewayError E F))
    : Type 0 where
  -- the turns that were finished, each by its rule: an open is connected to exactly where the policy
  -- allows it to the user who was let in, and accepted exactly where the connect answered true; else
  -- a connection has something; else the link is asked, and only then (`IsRound`, its `chosen`)
  pub rounds : List (Round E F)
  pub board : Board
  pub world : World
  pub run : Rounds accepts permits opening_board (opening_world settings) rounds board world
  -- their inputs are one run of the table of replies, in which the callbacks answer by the rule
  pub one_run : Run accepts (opening_world settings) (map (λ round. round.turn) rounds) world
  -- what was told in them, and nothing else was
  pub between : Outside F
  pub stepped : Adds before.beneath.steps between.beneath.steps
      (flat_map (λ round. steps_of round.turn) rounds)
  pub linked : Adds before.beneath.trace between.beneath.trace (flat_map link_entries rounds)
  pub asked : Adds before.targets between.targets (flat_map target_calls rounds)
  -- and then it ended so
  pub ends : EndsSo accepts permits max board world (length rounds) between after result
  -- each open that a turn decides has one connect, exactly where the policy allows it to the user of
  -- the first call that let one in, and is accepted exactly where that answered true; no other
  -- connect is made
  pub decides : (earlier later : List (Round E F)) (round : Round E F)
      → rounds ≡ earlier ++ round ∷ later
      → DecidesBy permits (first_let_in earlier) round.source round
  -- after each of them, by the laws of every run: who was let in, the opens that wait, and the bytes
  -- that each channel accepted
  pub comes_to : (earlier later : List (Round E F)) → rounds ≡ earlier ++ later
      → ComesTo accepts permits settings earlier
  -- an open that is granted is accepted, and stands as a channel
  pub opens : (earlier later : List (Round E F)) (round : Round E F) (asked : Asking)
      → rounds ≡ earlier ++ round ∷ later → round.source ≡ Decides asked Granted
      → IsOpened accepts permits settings earlier round asked
  -- a turn finishes or closes one connection, once, or none
  pub once : (earlier later : List (Round E F)) (round : Round E F)
      → rounds ≡ earlier ++ round ∷ later → AtMostOne (endings_in (target_calls round))
  -- where the last turn was not finished, it made at most one connect, where the policy allows it,
  -- what it wrote is a front of what came, and what went out is a front of what was read
  pub unfinished : UnfinishedSo accepts permits max board world rounds between after result ends
  -- after each of them, what was written to a connection is what came for it, and what was read
  -- from it is what went out
  pub writes : (id : ℕ) → (earlier later : List (Round E F)) → rounds ≡ earlier ++ later
      → written id (flat_map target_calls earlier) ≡ incoming id opening_board earlier
  pub reads : (id : ℕ) → (earlier later : List (Round E F)) → rounds ≡ earlier ++ later
      → read id (flat_map target_calls earlier) ≡ outgoing id earlier
  -- where neither the link nor a target failed and the last input was valid, no other error comes
  pub complete : after.beneath.faults ≡ before.beneath.faults
      → after.target_faults ≡ before.target_faults
      → EndIsValid accepts permits board world between after result
      → IsComplete result

-- ---- the whole, with the handler of authentication

-- what happened in the turn that ended the run or was not finished, as far as it came
abbrev pub end_events : {E F : Type 0} (accepts : Acceptance) (permits : Permits) (max : ℕ)
    (board : Board) (w : World) (count : ℕ) (between after : Outside F)
    (result : Result (Unit {0}) (GatewayError E F))
    → EndsSo accepts permits max board w count between after result
    → List (Event (RecordError E) F)
end_events accepts permits max board w count between after (Ok done) ends = ends.1.0.turn.events
end_events accepts permits max board w count between after (Err error.TurnLimit) ends = []
end_events accepts permits max board w count between after (Err error.NoMemory) (inl none) = []
end_events accepts permits max board w count between after (Err error.NoMemory) (inr ends) =
    short_events accepts permits board w between after ends.1
end_events accepts permits max board w count between after (Err error.TargetFault) ends =
    last_events accepts permits board w between after error.TargetFault ends.1
end_events accepts permits max board w count between after (Err (error.Run e)) ends =
    last_events accepts permits board w between after (error.Run e) ends.1

-- what its callbacks asked, but for authentication
abbrev pub end_questions : {E F : Type 0} (accepts : Acceptance) (permits : Permits) (max : ℕ)
    (board : Board) (w : World) (count : ℕ) (between after : Outside F)
    (result : Result (Unit {0}) (GatewayError E F))
    → EndsSo accepts permits max board w count between after result → List Question
end_questions accepts permits max board w count between after (Ok done) ends = ends.1.0.asked
end_questions accepts permits max board w count between after (Err error.TurnLimit) ends = []
end_questions accepts permits max board w count between after (Err error.NoMemory) (inl none) = []
end_questions accepts permits max board w count between after (Err error.NoMemory) (inr ends) =
    short_questions accepts permits board w between after ends.1
end_questions accepts permits max board w count between after (Err error.TargetFault) ends =
    last_questions accepts permits board w between after error.TargetFault ends.1
end_questions accepts permits max board w count between after (Err (error.Run e)) ends =
    last_questions accepts permits board w between after (error.Run e) ends.1

-- unless memory was wanting and a callback answered an error, or that handler answered an error of
-- its own and tells no longer
abbrev pub UnlessLost : {E F : Type 0} (accepts : Acceptance) (permits : Permits) (max : ℕ)
    (board : Board) (w : World) (count : ℕ) (between after : Outside F)
    (result : Result (Unit {0}) (GatewayError E F))
    → EndsSo accepts permits max board w count between after result → (Silent : Type 0)
    → (P : Type 0) → Type 0
UnlessLost accepts permits max board w count between after (Err error.NoMemory) (inl none) Silent P = P
UnlessLost accepts permits max board w count between after (Err error.NoMemory) (inr ends) Silent P =
    UnlessShortCallback accepts permits board w between after ends.1 P
UnlessLost accepts permits max board w count between after (Err (error.Run e)) ends Silent P =
    UnlessSilenced (error.Run e) Silent P
UnlessLost accepts permits max board w count between after (Err error.TargetFault) ends Silent P = P
UnlessLost accepts permits max board w count between after (Err error.TurnLimit) ends Silent P = P
UnlessLost accepts permits max board w count between after (Ok done) ends Silent P = P

pub record Attended {E F : Type 0} (accepts : Acceptance) (permits : Permits)
    (settings : Settings) (max : ℕ) (Silent : Type 0) (IsTold : List (Call E) → Type 0)
    (before after : Outside F) (result : Result (Unit {0}) (GatewayError E F)) : Type 0 where
  pub whole : Gatewayed accepts permits settings max before after result
  -- the handler of authentication was asked for the calls of authentication in these turns, and of
  -- the one that was not finished as far as it came, in order, and for nothing else
  pub admitted : UnlessLost accepts permits max whole.board whole.world (length whole.rounds)
      whole.between after result whole.ends Silent (IsTold
      (flat_map (λ round. admissions round.turn.events) whole.rounds
      ++ admissions (end_events accepts permits max whole.board whole.world (length whole.rounds)
      whole.between after result whole.ends)))
  -- all else that was asked in that last turn was answered by the rule, as in those before it
  pub answered : UnlessLost accepts permits max whole.board whole.world (length whole.rounds)
      whole.between after result whole.ends Silent
      (own_calls (calls_in (end_events accepts permits max whole.board whole.world
      (length whole.rounds) whole.between after result whole.ends))
      ≡ flat_map answered (end_questions accepts permits max whole.board whole.world
      (length whole.rounds) whole.between after result whole.ends))
