-- What a turn comes to.
use Rattle.std.specs.Prelude.{◌≡◌, ◌≢◌, ◌≤◌, ◌⊎◌, ℕ, List, [], true, not, Option, Some, None}
use Rattle.std.specs.Prelude.{Result, Ok, Err, flat_map}
use Rattle.std.proofs.Common.{inl, inr}
use Rattle.std.specs.Borrow.{GName}
use Rattle.ssh_link.specs.Faults.{Rose}
use Rattle.ssh_link.specs.Told.{Adds, AddsNothing, ToldBy}
use Rattle.ssh_link.specs.declared.frame.Input.{Input}
use Rattle.ssh_link.specs.declared.kex.KexCall.{KexCall}
use Rattle.ssh_link.specs.declared.link.TraceEntry.{TraceEntry}
use Rattle.ssh_auth.specs.declared.call.Call.{Call}
use Rattle.ssh_auth.specs.declared.question.Question.{Question}
use Rattle.ssh_auth.specs.Plan.{Plan, Finish, Event, Follows, calls_in, steps_in, told_in}
use Rattle.ssh_auth.specs.Publickey.{Acceptance}
use Rattle.ssh_handler.specs.declared.recorded.RecordError.{RecordError}
use Rattle.ssh_handler.specs.OwnCalls.{own_calls}
use Rattle.ssh_rules.specs.declared.error.Flow.{Flow}
use Rattle.ssh_rules.specs.declared.error.Flow.TheVariants.{Continue, Ended}
use Rattle.ssh_rules.specs.declared.error.RunError.{RunError}
use Rattle.ssh_rules.specs.declared.error.RunError.TheVariants as run
use Rattle.ssh_rules.specs.Cause.{IsCaused, cause_of}
use Rattle.ssh_rules.specs.Outcome.{Outcome, Goes, Ends}
use Rattle.ssh_rules.specs.Run.{Turn, Owes, calls_of, steps_of, wants_commands}
use Rattle.ssh_rules.specs.Valid.{IsValid}
use Rattle.ssh_rules.specs.World.{World, in_exchange}
use Rattle.ssh_session.specs.Serve.{Refines}
use Rattle.ssh_session.specs.declared.session.Session.{Session}
use Rattle.ssh_gateway.specs.declared.error.GatewayError.{GatewayError}
use Rattle.ssh_gateway.specs.declared.error.GatewayError.TheVariants as error
use Rattle.ssh_gateway.specs.declared.targets.TargetCall.{TargetCall}
use Rattle.ssh_gateway.specs.declared.targets.TargetFault.{TargetFault}
use Rattle.ssh_gateway.specs.declared.targets.TargetFault.TheVariants as target
use Rattle.ssh_gateway.specs.Admitting.{TellsAdmissions, admissions}
use Rattle.ssh_gateway.specs.Answering.{answered}
use Rattle.ssh_gateway.specs.Asked.{IsCutOff}
use Rattle.ssh_gateway.specs.Board.{Board}
use Rattle.ssh_gateway.specs.Choosing.{Permits, Waits, IsChosen}
use Rattle.ssh_gateway.specs.Doing.{FailsChoosing}
use Rattle.ssh_gateway.specs.Raised.{lowered}
use Rattle.ssh_gateway.specs.Turns.{Round, Begins, Comes, IsRound, board_after, due_after}
use Rattle.ssh_gateway.specs.Turns.{link_entries, target_calls}

-- what the exchange of keys and the link have told, and how often the link failed
pub record Beneath (F : Type 0) : Type 0 where
  pub steps : Option (List (KexCall F))
  pub trace : Option (List TraceEntry)
  pub faults : ℕ

abbrev pub beneath : {K L F : Type 0} → (K → Option (List (KexCall F)))
    → (L → Option (List TraceEntry)) → (L → ℕ) → K → L → Beneath F
beneath steps trace faults kex link =
    record { steps = steps kex; trace = trace link; faults = faults link }

-- .. and what the targets have told, and how often they failed
pub record Outside (F : Type 0) : Type 0 where
  pub beneath : Beneath F
  pub targets : Option (List TargetCall)
  pub target_faults : ℕ

abbrev pub outside : {K L T F : Type 0} → (K → Option (List (KexCall F)))
    → (L → Option (List TraceEntry)) → (L → ℕ) → (T → Option (List TargetCall)) → (T → ℕ)
    → K → L → T → Outside F
outside steps trace faults told target_faults kex link targets = record {
  beneath = record { steps = steps kex; trace = trace link; faults = faults link };
  targets = told targets;
  target_faults = target_faults targets;
}

-- ---- an input

-- an input that was taken in this world, with what happened
abbrev pub turn_of : {E F : Type 0} → World → Input → List (Event E F) → Turn E F
turn_of w input events = record {
  input = input;
  commands = wants_commands w;
  replies = not (in_exchange w);
  events = events;
}

-- it was finished: the run goes on in a world, or is over
abbrev pub IsServed : Session → Flow → Outcome → Type 0
IsServed session Continue (Goes world) = Refines session world
IsServed session Ended (Ends world) = Unit {0}
IsServed session _ _ = ⊥

-- what happened is what the input owes; the notebook has what was asked, and it was answered by the
-- rule
pub record Serves {E F : Type 0} (accepts : Acceptance) (w : World) (input : Input)
    (name name' : GName) (calls : List (Call E)) (told : Option (List (Call E)))
    (asked : Option (List Question)) (before after : Beneath F) (session : Session) (flow : Flow)
    : Type 0 where
  pub plan : Plan Outcome
  pub owes : Owes accepts w input plan
  pub events : List (Event (RecordError E) F)
  pub outcome : Outcome
  pub follows : Follows plan events outcome
  pub served : IsServed session flow outcome
  pub stepped : Adds before.steps after.steps (steps_in events)
  pub told_link : Adds before.trace after.trace (told_in events)
  pub same : name' ≡ name
  pub admitted : TellsAdmissions calls told (admissions events)
  pub questions : List Question
  pub kept : asked ≡ Some questions
  pub answered : own_calls (calls_in events) ≡ flat_map answered questions
  pub later : before.faults ≤ after.faults

-- an input owes its row; or the link failed, and it was not looked at
abbrev pub OwesOrNothing : Acceptance → World → Input → Plan Outcome → Type 0
OwesOrNothing accepts w input plan = Owes accepts w input plan ⊎ (plan ≡ Finish (Goes w))

-- the handler of authentication is the same one, and tells these calls beside those before
abbrev pub KeepsTelling : {E : Type 0} → (name name' : GName) → (calls : List (Call E))
    → (told : Option (List (Call E))) → (made : List (Call E)) → Type 0
KeepsTelling name name' calls told made = (name' ≡ name) × TellsAdmissions calls told made

-- unless it answered an error of its own
abbrev pub UnlessRefused : {E F : Type 0} → GatewayError E F → Type 0 → Type 0
UnlessRefused (error.Run (run.Handler e)) P = Unit {0}
UnlessRefused _ P = P

-- .. and tells no longer
abbrev pub UnlessSilenced : {E F : Type 0} → GatewayError E F → (Silent : Type 0) → (P : Type 0)
    → Type 0
UnlessSilenced (error.Run (run.Handler e)) Silent P = Silent ⊎ P
UnlessSilenced _ Silent P = P

-- unless a callback answered an error
abbrev pub UnlessCallbackFailed : {E F : Type 0} → RunError E F → Type 0 → Type 0
UnlessCallbackFailed (run.Handler e) P = Unit {0}
UnlessCallbackFailed _ P = P

-- it was not finished, by a cause, which the error names unless memory was wanting
pub record Stops {E F : Type 0} (accepts : Acceptance) (w : World) (input : Input)
    (name name' : GName) (calls : List (Call E)) (told : Option (List (Call E)))
    (before after : Beneath F) (e : GatewayError E F) : Type 0 where
  pub plan : Plan Outcome
  pub owes : OwesOrNothing accepts w input plan
  pub events : List (Event (RecordError E) F)
  pub why : RunError (RecordError E) F
  pub is : e ≢ error.NoMemory → e ≡ lowered why
  pub caused : IsCaused (cause_of why) plan (Rose before.faults after.faults) events
  pub stepped : Adds before.steps after.steps (steps_in events)
  pub told_link : Adds before.trace after.trace (told_in events)
  pub later : before.faults ≤ after.faults
  pub questions : List Question
  pub exact : UnlessCallbackFailed why (KeepsTelling name name' calls told (admissions events)
      × (own_calls (calls_in events) ≡ flat_map answered questions))
  pub handler : e ≢ error.NoMemory → UnlessSilenced e (told ≡ None)
      (KeepsTelling name name' calls told (admissions events)
      × (own_calls (calls_in events) ≡ flat_map answered questions))

-- one of the two
abbrev pub ServesOrStops : {E F : Type 0} → Acceptance → World → Input → (name name' : GName)
    → (calls : List (Call E)) → (told : Option (List (Call E)))
    → (asked : Option (List Question)) → (before after : Beneath F) → Session
    → Result Flow (GatewayError E F) → Type 0
ServesOrStops accepts w input name name' calls told asked before after session (Ok flow) =
    Serves accepts w input name name' calls told asked before after session flow
ServesOrStops accepts w input name name' calls told asked before after session (Err e) =
    Stops accepts w input name name' calls told before after e

-- ---- a turn

-- what was told in a turn
abbrev pub TellsRound : {E F : Type 0} → (before after : Outside F) → Round E F → Type 0
TellsRound before after round =
    Adds before.beneath.steps after.beneath.steps (steps_of round.turn)
    × Adds before.beneath.trace after.beneath.trace (link_entries round)
    × Adds before.targets after.targets (target_calls round)

-- the turn was not finished. A target failed where one was to be chosen
abbrev pub ChoosesNone : {E F : Type 0} → Permits → Board → World → (before after : Outside F)
    → GatewayError E F → Type 0
ChoosesNone permits board w before after e = (e ≡ error.TargetFault)
    × Rose before.target_faults after.target_faults × (after.beneath ≡ before.beneath)
    × FailsChoosing target.Failed permits w board before.targets after.targets

-- or the link failed where it was asked
abbrev pub GivesNone : {E F : Type 0} → Permits → Board → World → (before after : Outside F)
    → GatewayError E F → Type 0
GivesNone permits board w before after e = (e ≡ error.Run run.LinkFault)
    × Rose before.beneath.faults after.beneath.faults
    × AddsNothing before.beneath.trace after.beneath.trace
    × (after.beneath.steps ≡ before.beneath.steps)
    × (calls : List TargetCall) × IsChosen permits w board Waits calls
    × Adds before.targets after.targets calls

-- or the input was not finished, by the cause that the error names, and nothing was asked of the
-- targets after it; where the input was valid, the link failed
pub record ServesNone {E F : Type 0} (accepts : Acceptance) (permits : Permits) (board : Board)
    (w : World) (before after : Outside F) (e : GatewayError E F) : Type 0 where
  pub round : Round E F
  pub begins : Begins permits board w round
  pub nothing : round.after ≡ []
  pub plan : Plan Outcome
  pub owes : OwesOrNothing accepts w round.turn.input plan
  pub why : RunError (RecordError E) F
  pub is : e ≡ lowered why
  pub caused : IsCaused (cause_of why) plan
      (Rose before.beneath.faults after.beneath.faults) round.turn.events
  pub fair : IsValid accepts w round.turn → Rose before.beneath.faults after.beneath.faults
  pub answered : UnlessRefused e (own_calls (calls_of round.turn) ≡ flat_map answered round.asked)
  pub told : TellsRound before after round

-- or it was finished, and the targets were told a part of it, for this reason
pub record TellsPart (E : Type 0) {F : Type 0} (fault : TargetFault) (accepts : Acceptance)
    (permits : Permits) (board : Board) (w : World) (before after : Outside F) : Type 0 where
  pub round : Round E F
  pub begins : Begins permits board w round
  pub outcome : Outcome
  pub comes : Comes accepts w round outcome
  pub cut : IsCutOff fault (due_after round board) round.after
  pub stepped : Adds before.beneath.steps after.beneath.steps (steps_of round.turn)
  pub told_link : Adds before.beneath.trace after.beneath.trace (link_entries round)
  pub told : ToldBy true before.targets after.targets (target_calls round)

-- since one of them failed
abbrev pub TellsNone : {E F : Type 0} → Acceptance → Permits → Board → World
    → (before after : Outside F) → GatewayError E F → Type 0
TellsNone {E} accepts permits board w before after e = (e ≡ error.TargetFault)
    × Rose before.target_faults after.target_faults
    × TellsPart E target.Failed accepts permits board w before after

abbrev pub IsBroken : {E F : Type 0} → Acceptance → Permits → Board → World
    → (before after : Outside F) → GatewayError E F → Type 0
IsBroken accepts permits board w before after e = ChoosesNone permits board w before after e
    ⊎ (GivesNone permits board w before after e
    ⊎ (ServesNone accepts permits board w before after e
    ⊎ TellsNone accepts permits board w before after e))

-- ---- a turn for which memory was wanting

-- as it was to be chosen
abbrev pub ChoosesShort : {F : Type 0} → Permits → Board → World → (before after : Outside F)
    → Type 0
ChoosesShort permits board w before after = (after.beneath ≡ before.beneath)
    × FailsChoosing target.NoMemory permits w board before.targets after.targets

-- or as the link was asked for its input
abbrev pub GivesShort : {F : Type 0} → Permits → Board → World → (before after : Outside F)
    → Type 0
GivesShort permits board w before after = AddsNothing before.beneath.trace after.beneath.trace
    × (after.beneath.steps ≡ before.beneath.steps)
    × (calls : List TargetCall) × IsChosen permits w board Waits calls
    × Adds before.targets after.targets calls

-- or as its input was served, by this cause; the targets were asked nothing after it
pub record ServesShort (E : Type 0) {F : Type 0} (accepts : Acceptance) (permits : Permits)
    (board : Board) (w : World) (before after : Outside F) : Type 0 where
  pub round : Round E F
  pub begins : Begins permits board w round
  pub nothing : round.after ≡ []
  pub plan : Plan Outcome
  pub owes : OwesOrNothing accepts w round.turn.input plan
  pub why : RunError (RecordError E) F
  pub caused : IsCaused (cause_of why) plan
      (Rose before.beneath.faults after.beneath.faults) round.turn.events
  pub answered : UnlessCallbackFailed why (own_calls (calls_of round.turn) ≡ flat_map answered round.asked)
  pub told : TellsRound before after round

-- or as the targets were told of it
abbrev pub IsShort : (E : Type 0) → {F : Type 0} → Acceptance → Permits → Board → World
    → (before after : Outside F) → Type 0
IsShort E accepts permits board w before after = ChoosesShort permits board w before after
    ⊎ (GivesShort permits board w before after
    ⊎ (ServesShort E accepts permits board w before after
    ⊎ TellsPart E target.NoMemory accepts permits board w before after))

-- ---- a turn that was finished, or was not

-- what happened in one for which memory was wanting, where an input was given
abbrev pub short_events : {E F : Type 0} (accepts : Acceptance) (permits : Permits) (board : Board)
    (w : World) (before after : Outside F) → IsShort E accepts permits board w before after
    → List (Event (RecordError E) F)
short_events accepts permits board w before after (inl none) = []
short_events accepts permits board w before after (inr (inl none)) = []
short_events accepts permits board w before after (inr (inr (inl none))) = none.round.turn.events
short_events accepts permits board w before after (inr (inr (inr none))) = none.round.turn.events

-- what its callbacks asked, but for authentication
abbrev pub short_questions : {E F : Type 0} (accepts : Acceptance) (permits : Permits)
    (board : Board) (w : World) (before after : Outside F)
    → IsShort E accepts permits board w before after → List Question
short_questions accepts permits board w before after (inl none) = []
short_questions accepts permits board w before after (inr (inl none)) = []
short_questions accepts permits board w before after (inr (inr (inl none))) = none.round.asked
short_questions accepts permits board w before after (inr (inr (inr none))) = none.round.asked

-- unless a callback answered an error in it
abbrev pub UnlessShortCallback : {E F : Type 0} (accepts : Acceptance) (permits : Permits)
    (board : Board) (w : World) (before after : Outside F)
    → IsShort E accepts permits board w before after → (P : Type 0) → Type 0
UnlessShortCallback accepts permits board w before after (inl none) P = P
UnlessShortCallback accepts permits board w before after (inr (inl none)) P = P
UnlessShortCallback accepts permits board w before after (inr (inr (inl none))) P =
    UnlessCallbackFailed none.why P
UnlessShortCallback accepts permits board w before after (inr (inr (inr none))) P = P

-- what happened in one that was not, where an input was given
abbrev pub last_events : {E F : Type 0} (accepts : Acceptance) (permits : Permits) (board : Board)
    (w : World) (before after : Outside F) (e : GatewayError E F)
    → IsBroken accepts permits board w before after e → List (Event (RecordError E) F)
last_events accepts permits board w before after e (inl none) = []
last_events accepts permits board w before after e (inr (inl none)) = []
last_events accepts permits board w before after e (inr (inr (inl none))) = none.round.turn.events
last_events accepts permits board w before after e (inr (inr (inr none))) = none.2.round.turn.events

-- what its callbacks asked, but for authentication
abbrev pub last_questions : {E F : Type 0} (accepts : Acceptance) (permits : Permits)
    (board : Board) (w : World) (before after : Outside F) (e : GatewayError E F)
    → IsBroken accepts permits board w before after e → List Question
last_questions accepts permits board w before after e (inl none) = []
last_questions accepts permits board w before after e (inr (inl none)) = []
last_questions accepts permits board w before after e (inr (inr (inl none))) = none.round.asked
last_questions accepts permits board w before after e (inr (inr (inr none))) = none.2.round.asked

-- the turn was finished
pub record Turned {E F : Type 0} (accepts : Acceptance) (permits : Permits) (board board' : Board)
    (w : World) (name name' : GName) (calls : List (Call E)) (told : Option (List (Call E)))
    (asked : Option (List Question)) (before after : Outside F) (session : Session) (flow : Flow)
    : Type 0 where
  pub round : Round E F
  pub outcome : Outcome
  pub is : IsRound accepts permits board w round outcome
  pub served : IsServed session flow outcome
  pub board_is : board' ≡ board_after round board
  pub tells : TellsRound before after round
  pub same : name' ≡ name
  pub admitted : TellsAdmissions calls told (admissions round.turn.events)
  pub empty : asked ≡ Some []
  pub later : before.beneath.faults ≤ after.beneath.faults
  pub target_later : before.target_faults ≤ after.target_faults

-- it was not, and this is what the handler of authentication was asked in it; all else that was asked
-- was answered by the rule
abbrev pub BreaksTelling : {E F : Type 0} → Acceptance → Permits → Board → World
    → (name name' : GName) → (calls : List (Call E)) → (told : Option (List (Call E)))
    → (before after : Outside F) → GatewayError E F → Type 0
BreaksTelling accepts permits board w name name' calls told before after e =
    (broken : IsBroken accepts permits board w before after e)
    × UnlessSilenced e (told ≡ None) (KeepsTelling name name' calls told
    (admissions (last_events accepts permits board w before after e broken))
    × (own_calls (calls_in (last_events accepts permits board w before after e broken))
    ≡ flat_map answered (last_questions accepts permits board w before after e broken)))

-- the same, where memory was wanting
abbrev pub ShortTelling : {E F : Type 0} → Acceptance → Permits → Board → World
    → (name name' : GName) → (calls : List (Call E)) → (told : Option (List (Call E)))
    → (before after : Outside F) → Type 0
ShortTelling {E} accepts permits board w name name' calls told before after =
    (short : IsShort E accepts permits board w before after)
    × UnlessShortCallback accepts permits board w before after short
    (KeepsTelling name name' calls told
    (admissions (short_events accepts permits board w before after short))
    × (own_calls (calls_in (short_events accepts permits board w before after short))
    ≡ flat_map answered (short_questions accepts permits board w before after short)))

pub record Breaks {E F : Type 0} (accepts : Acceptance) (permits : Permits) (board : Board)
    (w : World) (name name' : GName) (calls : List (Call E)) (told : Option (List (Call E)))
    (before after : Outside F) (e : GatewayError E F) : Type 0 where
  pub broken : e ≢ error.NoMemory
      → BreaksTelling accepts permits board w name name' calls told before after e
  pub short : e ≡ error.NoMemory
      → ShortTelling accepts permits board w name name' calls told before after

abbrev pub TurnsOrBreaks : {E F : Type 0} → Acceptance → Permits → (board board' : Board) → World
    → (name name' : GName) → (calls : List (Call E)) → (told : Option (List (Call E)))
    → (asked : Option (List Question)) → (before after : Outside F) → Session
    → Result Flow (GatewayError E F) → Type 0
TurnsOrBreaks accepts permits board board' w name name' calls told asked before after session
    (Ok flow) =
    Turned accepts permits board board' w name name' calls told asked before after session flow
TurnsOrBreaks accepts permits board board' w name name' calls told asked before after session
    (Err e) = Breaks accepts permits board w name name' calls told before after e
