-- A turn, from its parts.
use Rattle.std.proofs.Common.{◌≡◌, ◌≢◌, ◌≤◌, ◌<◌, ◌+◌, ◌⊎◌, ℕ, List, [], ◌∷◌, ◌++◌, Option, Some, None}
use Rattle.std.proofs.Common.{Err, refl, sym, ◌∙◌, ap, subst, inl, inr, true, false}
use Rattle.std.proofs.Common.{arith}
use Rattle.std.specs.Prelude.{flat_map}
use Rattle.std.proofs.lemmas.List.{append-nil}
use Rattle.std.proofs.Math.Nat.{eq-or-lt_of_le}
use Rattle.ssh_link.specs.Faults.{Rose}
use Rattle.ssh_link.specs.Told.{Adds, AddsNothing}
use Rattle.ssh_link.proofs.Tellings.{adds_both}
use Rattle.ssh_link.specs.declared.frame.Input.{Input}
use Rattle.ssh_link.specs.declared.link.LinkFault.{LinkFault}
use Rattle.ssh_link.specs.declared.link.LinkFault.TheVariants as link
use Rattle.ssh_link.specs.declared.link.TraceEntry.{TraceEntry}
use Rattle.ssh_auth.specs.declared.call.Call.{Call}
use Rattle.ssh_auth.specs.declared.question.Happening.TheVariants as what
use Rattle.ssh_auth.specs.declared.question.Lent.TheVariants.{Opens, Happened}
use Rattle.ssh_auth.specs.declared.question.OpenType.TheVariants as type
use Rattle.ssh_auth.specs.declared.question.Question.{Question}
use Rattle.ssh_auth.specs.declared.question.Question.TheVariants.{Lends}
use Rattle.ssh_auth.specs.Plan.{Plan, Event, calls_in, told_in}
use Rattle.ssh_auth.specs.Publickey.{Acceptance}
use Rattle.ssh_handler.specs.declared.recorded.RecordError.{RecordError}
use Rattle.ssh_handler.specs.OwnCalls.{own_calls}
use Rattle.ssh_rules.specs.declared.error.Flow.{Flow}
use Rattle.ssh_rules.specs.declared.error.RunError.{RunError}
use Rattle.ssh_rules.specs.declared.error.RunError.TheVariants as run
use Rattle.ssh_rules.specs.Cause.{IsCaused, cause_of}
use Rattle.ssh_rules.specs.Outcome.{Outcome}
use Rattle.ssh_rules.specs.Run.{Turn, IsTaken}
use Rattle.ssh_rules.specs.Valid.{IsValid, IsComplete}
use Rattle.ssh_rules.specs.World.{World}
use Rattle.ssh_rules.proofs.Complete.Run.{complete}
use Rattle.ssh_serving.proofs.Serving.{told_then, caused_rose}
use Rattle.ssh_session.specs.declared.session.Session.{Session}
use Rattle.ssh_drive.specs.Served.{EndsSo}
use Rattle.ssh_drive.proofs.Serving.{ends_before}
use Rattle.ssh_gateway.specs.declared.choosing.Chosen.{Chosen}
use Rattle.ssh_gateway.specs.declared.error.GatewayError.{GatewayError}
use Rattle.ssh_gateway.specs.declared.error.GatewayError.TheVariants as error
use Rattle.ssh_gateway.specs.declared.targets.TargetCall.{TargetCall}
use Rattle.ssh_gateway.specs.declared.targets.TargetFault.{TargetFault}
use Rattle.ssh_gateway.specs.declared.targets.TargetFault.TheVariants.{Failed, NoMemory}
use Rattle.ssh_gateway.specs.Admitting.{admissions}
use Rattle.ssh_gateway.specs.Answering.{answered, of_authentication}
use Rattle.ssh_gateway.specs.Asked.{IsCutOff}
use Rattle.ssh_gateway.specs.Board.{Board, noted, all_noted, all_due}
use Rattle.ssh_gateway.specs.Choosing.{Permits, Source, IsChosen, IsGiven, own_kind, settled}
use Rattle.ssh_gateway.specs.Choosing.{took, closed_by}
use Rattle.ssh_gateway.specs.Doing.{Chooses, asks_link, closed_to, FailsChoosing, FailsTelling}
use Rattle.ssh_gateway.specs.Doing.{IsNextCount}
use Rattle.ssh_gateway.specs.Raised.{lowered, link_error, target_error}
use Rattle.ssh_gateway.specs.Serving.{Beneath, Outside, Serves, Stops, Turned, TellsRound}
use Rattle.ssh_gateway.specs.Serving.{OwesOrNothing, turn_of, ServesNone, TellsPart}
use Rattle.ssh_gateway.specs.Serving.{KeepsTelling, UnlessRefused, UnlessSilenced, Breaks, BreaksTelling}
use Rattle.ssh_gateway.specs.Serving.{ServesShort, UnlessCallbackFailed}
use Rattle.ssh_gateway.specs.Turns.{Round, Begins}
use Rattle.ssh_gateway.proofs.Accepting.{takes_data_of}
use Rattle.ssh_gateway.proofs.Choices.{took_is, waits_only, settled_moment, is_asked}

-- an input was chosen in this world and by this board, and given: what was told, and the board then
pub record Given (permits : Permits) (board : Board) (w : World) (input : Input)
    (closes : Option ℕ) (trace trace' : Option (List TraceEntry))
    (told told' : Option (List TargetCall)) (board' : Board) : Type 0 where
  pub source : Source
  pub calls : List TargetCall
  pub chosen : IsChosen permits w board source calls
  pub given : IsGiven (own_kind (board.last_ticket + 1) source) board.moment input
  pub asked : Adds told told' calls
  pub linked : Adds trace trace' (took source input)
  pub board_is : board' ≡ record (settled source board) { moment = input.moment }
  pub closes_is : closed_to closes ≡ closed_by source

abbrev at_moment : ℕ → Board → Board
at_moment moment board = record board { moment = moment }

pub given_so : (permits : Permits) (board mid board' : Board) (w : World) (chosen : Chosen)
    (input : Input) (trace trace' : Option (List TraceEntry))
    (told told' : Option (List TargetCall)) → Chooses permits w board mid told told' chosen
    → IsGiven chosen.kind mid.moment input → Adds trace trace' (asks_link chosen.kind input)
    → board' ≡ record mid { moment = input.moment }
    → Given permits board w input chosen.closes trace trace' told told' board'
given_so permits board mid board' w chosen input trace trace' told told'
    (source, calls, is, adds, (board_is, kind_is, closes_is)) given linked board'_is = record {
      source = source;
      calls = calls;
      chosen = is;
      given = subst (λ m. IsGiven (own_kind (board.last_ticket + 1) source) m input)
          (ap (λ b. b.moment) board_is ∙ settled_moment source board)
          (subst (λ k. IsGiven k mid.moment input) kind_is given);
      asked = adds;
      linked = subst (Adds trace trace')
          (ap (λ k. asks_link k input) kind_is ∙ took_is (board.last_ticket + 1) source input) linked;
      board_is = board'_is ∙ ap (at_moment input.moment) board_is;
      closes_is = closes_is;
    }

-- what is known of a link and an exchange between the input and what it is taken for
abbrev over : {F : Type 0} → Outside F → (trace : Option (List TraceEntry)) → (faults : ℕ)
    → Beneath F
over before trace faults = record { steps = before.beneath.steps; trace = trace; faults = faults }

abbrev round_of : {E F : Type 0} (permits : Permits) (board : Board) (w : World) (input : Input)
    (closes : Option ℕ) (trace trace' : Option (List TraceEntry))
    (told told' : Option (List TargetCall)) (board' : Board)
    → Given permits board w input closes trace trace' told told' board'
    → List (Event (RecordError E) F) → List Question → List TargetCall → Round E F
round_of permits board w input closes trace trace' told told' board' given events questions after =
    record {
      source = given.source;
      before = given.calls;
      turn = turn_of w input events;
      asked = questions;
      after = after;
    }

begins_so : {E F : Type 0} (permits : Permits) (board : Board) (w : World) (input : Input)
    (closes : Option ℕ) (trace trace' : Option (List TraceEntry))
    (told told' : Option (List TargetCall)) (board' : Board)
    (given : Given permits board w input closes trace trace' told told' board')
    (events : List (Event (RecordError E) F)) (questions : List Question)
    (after : List TargetCall) → Begins permits board w
    (round_of permits board w input closes trace trace' told told' board' given events questions
    after)
begins_so permits board w input closes trace trace' told told' board' given events questions after =
    record {
      chosen = given.chosen;
      given = given.given;
      taken = (
        refl,
        refl,
        is_asked permits w board given.source given.calls
            (board.last_ticket + 1) input given.chosen given.given,
      );
    }

-- what is due is due to the board as the turn says
due_so : (permits : Permits) (board : Board) (w : World) (input : Input) (closes : Option ℕ)
    (trace trace' : Option (List TraceEntry)) (told told' : Option (List TargetCall))
    (board' : Board) (given : Given permits board w input closes trace trace' told told' board')
    (questions : List Question) → closed_to closes ++ all_due questions board'
    ≡ closed_by given.source
    ++ all_due questions (record (settled given.source board) { moment = input.moment })
due_so permits board w input closes trace trace' told told' board' given questions =
    ap (λ l. l ++ all_due questions board') given.closes_is
    ∙ ap (λ b. closed_by given.source ++ all_due questions b) given.board_is

pub turned : {E F : Type 0} (accepts : Acceptance) (permits : Permits) (board mid board' : Board)
    (w : World) (input : Input) (closes : Option ℕ) (name name' : ℕ) (calls : List (Call E))
    (told : Option (List (Call E))) (asked asked' : Option (List Question))
    (before after : Outside F) (trace' : Option (List TraceEntry)) (faults' : ℕ)
    (told' : Option (List TargetCall)) (session : Session) (flow : Flow)
    → w.disconnected ≡ false
    → Given permits board w input closes before.beneath.trace trace' before.targets told' mid
    → (serves : Serves accepts w input name name' calls told asked (over before trace' faults')
    after.beneath session flow)
    → ((questions : List Question) → asked ≡ Some questions
    → (board' ≡ all_noted questions mid)
    × Adds told' after.targets (closed_to closes ++ all_due questions mid))
    → asked' ≡ Some [] → before.beneath.faults ≤ faults'
    → before.target_faults ≤ after.target_faults
    → Turned accepts permits board board' w name name' calls told asked' before after session flow
turned {E} {F} accepts permits board mid board' w input closes name name' calls told asked asked'
    before after trace' faults' told' session flow live given serves delivered empty later
    target_later =
    let due = closed_by given.source ++ all_due serves.questions
    (record (settled given.source board) { moment = input.moment }) in
    let done = delivered serves.questions serves.kept in
    let same = due_so permits board w input closes before.beneath.trace trace' before.targets told'
    mid given serves.questions in
    let round : Round E F = round_of permits board w input closes before.beneath.trace trace'
    before.targets told' mid given serves.events serves.questions due in
    record {
      round = round;
      outcome = serves.outcome;
      is = record {
        begins = begins_so permits board w input closes before.beneath.trace trace' before.targets
            told' mid given serves.events serves.questions due;
        comes = record {
          plan = serves.plan;
          owes = serves.owes;
          follows = serves.follows;
          answered = serves.answered;
        };
        told = refl;
        accepted = takes_data_of permits w board given.source given.calls live given.chosen;
      };
      served = serves.served;
      board_is = done.0 ∙ ap (all_noted serves.questions) given.board_is;
      tells = (
        serves.stepped,
        adds_both before.beneath.trace trace' after.beneath.trace (took given.source input)
            (told_in serves.events) given.linked serves.told_link,
        adds_both before.targets told' after.targets given.calls due given.asked
            (subst (Adds told' after.targets) same done.1),
      );
      same = serves.same;
      admitted = serves.admitted;
      empty = empty;
      later = let x = serves.later in omega (arith, later, x);
      target_later = target_later;
    }

-- ---- a turn that was not finished

-- no other error comes where the input was valid, unless the link failed
spoils : {E F : Type 0} (why : RunError (RecordError E) F) (plan : Plan Outcome) (rose : Type 0)
    (events : List (Event (RecordError E) F)) → lowered why ≢ error.NoMemory
    → IsCaused (cause_of why) plan rose events → IsComplete (Err why) → rose
spoils run.NoMemory plan rose events other caused done = absurd (other refl)
spoils run.InputLimit plan rose events other caused done = absurd caused
spoils why plan rose events other caused done = absurd done

unlooked : {E F : Type 0} (accepts : Acceptance) (w : World) (why : RunError (RecordError E) F)
    (rose : Type 0) → lowered why ≢ error.NoMemory
    → EndsSo {E = RecordError E} {F = F} accepts w None rose (Err why) → rose
unlooked accepts w run.NoMemory rose other ends = absurd (other refl)
unlooked accepts w run.LinkFault rose other ends = ends
unlooked accepts w why rose other ends = absurd ends

fair : {E F : Type 0} (accepts : Acceptance) (w : World) (turn : Turn (RecordError E) F)
    (plan : Plan Outcome) (why : RunError (RecordError E) F) (faults faults' : ℕ)
    → IsTaken w turn → OwesOrNothing accepts w turn.input plan → faults ≤ faults'
    → lowered why ≢ error.NoMemory
    → IsCaused (cause_of why) plan (Rose faults faults') turn.events → IsValid accepts w turn
    → Rose faults faults'
fair accepts w turn plan why faults faults' taken (inl owes) later other caused valid =
    by (eq-or-lt_of_le later)
  where
    by : (faults ≡ faults') ⊎ (faults < faults') → Rose faults faults'
    by (inr rose) = rose
    by (inl same) = spoils why plan (Rose faults faults') turn.events other caused
        (complete accepts w 0 1 (Some turn) faults faults' (Err why)
        (omega arith, taken, (plan, owes, caused)) (sym same) valid)
fair accepts w turn plan why faults faults' taken (inr none) later other caused valid =
    unlooked accepts w why (Rose faults faults') other
    (ends_before accepts w plan (Rose faults faults') (Rose faults faults') turn.events why none
    (λ rose. rose) caused)

unless_refused : {E F : Type 0} (e : GatewayError E F) (Silent P Q : Type 0)
    → UnlessSilenced e Silent (P × Q) → UnlessRefused e Q
unless_refused error.NoMemory Silent P Q h = h.1
unless_refused error.TargetFault Silent P Q h = h.1
unless_refused error.TurnLimit Silent P Q h = h.1
unless_refused (error.Run (run.Handler e)) Silent P Q h = tt
unless_refused (error.Run why) Silent P Q h = h.1

-- where no callback answered an error
exact_answers : {E F : Type 0} (why : RunError E F) (P Q : Type 0)
    → UnlessCallbackFailed why (P × Q) → UnlessCallbackFailed why Q
exact_answers (run.Handler e) P Q h = tt
exact_answers why P Q h = h.1

pub stopped : {E F : Type 0} (accepts : Acceptance) (permits : Permits) (board mid : Board)
    (w : World) (input : Input) (closes : Option ℕ) (name name' : ℕ) (calls : List (Call E))
    (told : Option (List (Call E))) (before after : Outside F)
    (trace' : Option (List TraceEntry)) (faults' : ℕ) (told' : Option (List TargetCall))
    (e : GatewayError E F)
    → Given permits board w input closes before.beneath.trace trace' before.targets told' mid
    → Stops accepts w input name name' calls told (over before trace' faults') after.beneath e
    → after.targets ≡ told' → before.beneath.faults ≤ faults'
    → Breaks accepts permits board w name name' calls told before after e
stopped {E} {F} accepts permits board mid w input closes name name' calls told before after trace'
    faults' told' e given stops same later =
    let round : Round E F = round_of permits board w input closes before.beneath.trace trace'
    before.targets told' mid given stops.events stops.questions [] in
    let begins = begins_so permits board w input closes before.beneath.trace trace' before.targets
    told' mid given stops.events stops.questions [] in
    let caused = caused_rose (cause_of stops.why) stops.plan (Rose faults' after.beneath.faults)
    (Rose before.beneath.faults after.beneath.faults) stops.events
    (λ rose. omega (arith, later, rose)) stops.caused in
    let risen = stops.later in
    let keeps = KeepsTelling name name' calls told (admissions stops.events) in
    let answers = own_calls (calls_in stops.events) ≡ flat_map answered stops.questions in
    let tells : TellsRound before after round = (
      stops.stepped,
      adds_both before.beneath.trace trace' after.beneath.trace (took given.source input)
          (told_in stops.events) given.linked stops.told_link,
      subst (Adds before.targets after.targets) (sym (append-nil given.calls))
          (subst (λ t. Adds before.targets t given.calls) (sym same) given.asked),
    ) in
    record {
      broken = λ other.
          let none : ServesNone accepts permits board w before after e = record {
            round = round;
            begins = begins;
            nothing = refl;
            plan = stops.plan;
            owes = stops.owes;
            why = stops.why;
            is = stops.is other;
            caused = caused;
            fair = fair accepts w round.turn stops.plan stops.why before.beneath.faults
                after.beneath.faults begins.taken stops.owes (omega (arith, later, risen))
                (subst (λ x. x ≢ error.NoMemory) (stops.is other) other) caused;
            answered = unless_refused e (told ≡ None) keeps answers (stops.handler other);
            told = tells;
          } in
          (inr (inr (inl none)), stops.handler other);
      short = λ is.
          let none : ServesShort E accepts permits board w before after = record {
            round = round;
            begins = begins;
            nothing = refl;
            plan = stops.plan;
            owes = stops.owes;
            why = stops.why;
            caused = caused;
            answered = exact_answers stops.why keeps answers stops.exact;
            told = tells;
          } in
          (inr (inr (inl none)), stops.exact);
    }

-- a part was told to the targets
tells_part : {E F : Type 0} (fault : TargetFault) (accepts : Acceptance) (permits : Permits)
    (board mid : Board) (w : World) (input : Input) (closes : Option ℕ) (name name' : ℕ)
    (calls : List (Call E)) (told : Option (List (Call E))) (asked : Option (List Question))
    (before after : Outside F) (trace' : Option (List TraceEntry)) (faults' : ℕ)
    (told' : Option (List TargetCall)) (session : Session) (flow : Flow)
    → Given permits board w input closes before.beneath.trace trace' before.targets told' mid
    → (serves : Serves accepts w input name name' calls told asked (over before trace' faults')
    after.beneath session flow)
    → FailsTelling fault (closed_to closes ++ all_due serves.questions mid) told' after.targets
    → TellsPart E fault accepts permits board w before after
tells_part {E} {F} fault accepts permits board mid w input closes name name' calls told asked before
    after trace' faults' told' session flow given serves part =
    let same = due_so permits board w input closes before.beneath.trace trace' before.targets told'
    mid given serves.questions in
    let round : Round E F = round_of permits board w input closes before.beneath.trace trace'
    before.targets told' mid given serves.events serves.questions part.0 in
    record {
      round = round;
      begins = begins_so permits board w input closes before.beneath.trace trace' before.targets
          told' mid given serves.events serves.questions part.0;
      outcome = serves.outcome;
      comes = record {
        plan = serves.plan;
        owes = serves.owes;
        follows = serves.follows;
        answered = serves.answered;
      };
      cut = subst (λ due. IsCutOff fault due part.0) same part.1;
      stepped = serves.stepped;
      told_link = adds_both before.beneath.trace trace' after.beneath.trace
          (took given.source input) (told_in serves.events) given.linked serves.told_link;
      told = told_then true before.targets told' after.targets given.calls part.0 given.asked part.2;
    }

pub untold : {E F : Type 0} (accepts : Acceptance) (permits : Permits) (board mid : Board)
    (w : World) (input : Input) (closes : Option ℕ) (name name' : ℕ) (calls : List (Call E))
    (told : Option (List (Call E))) (asked : Option (List Question)) (before after : Outside F)
    (trace' : Option (List TraceEntry)) (faults' : ℕ) (told' : Option (List TargetCall))
    (session : Session) (flow : Flow) (fault : TargetFault) (e : GatewayError E F)
    → e ≡ target_error fault
    → Given permits board w input closes before.beneath.trace trace' before.targets told' mid
    → (serves : Serves accepts w input name name' calls told asked (over before trace' faults')
    after.beneath session flow)
    → ((questions : List Question) → asked ≡ Some questions
    → FailsTelling fault (closed_to closes ++ all_due questions mid) told' after.targets)
    → (fault ≡ Failed → Rose before.target_faults after.target_faults)
    → Breaks accepts permits board w name name' calls told before after e
unfolding tells_part
untold accepts permits board mid w input closes name name' calls told asked before after trace' faults'
    told' session flow Failed e is given serves fails rose = record {
      broken = λ other.
          subst (BreaksTelling accepts permits board w name name' calls told before after) (sym is) (
            inr (inr (inr (
              refl,
              rose refl,
              tells_part Failed accepts permits board mid w input closes
                  name name' calls told asked before after trace' faults' told' session flow given
                  serves (fails serves.questions serves.kept),
            ))),
            ((serves.same, serves.admitted), serves.answered),
          );
      short = λ short. absurd (cc);
    }
untold accepts permits board mid w input closes name name' calls told asked before after trace' faults'
    told' session flow NoMemory e is given serves fails rose = record {
      broken = λ other. absurd (other is);
      short = λ short. (
        inr (inr (inr (tells_part NoMemory accepts permits board mid w input closes name name' calls
            told asked before after trace' faults' told' session flow given serves
            (fails serves.questions serves.kept)))),
        ((serves.same, serves.admitted), serves.answered),
      );
    }

-- before an input was given, the handler of authentication was not asked
quiet : {E : Type 0} (name : ℕ) (calls : List (Call E)) (told : Option (List (Call E)))
    → told ≡ Some calls → KeepsTelling name name calls told []
quiet name calls told is = (refl, (calls, is, sym (append-nil (of_authentication calls))))

pub not_chosen : {E F : Type 0} (accepts : Acceptance) (permits : Permits) (board : Board)
    (w : World) (name : ℕ) (calls : List (Call E)) (told : Option (List (Call E)))
    (before after : Outside F) (fault : TargetFault) (e : GatewayError E F)
    → told ≡ Some calls → e ≡ target_error fault
    → (fault ≡ Failed → Rose before.target_faults after.target_faults)
    → FailsChoosing fault permits w board before.targets after.targets
    → after.beneath ≡ before.beneath
    → Breaks accepts permits board w name name calls told before after e
not_chosen accepts permits board w name calls told before after Failed e tells is rose fails same = record {
  broken = λ other.
      subst (BreaksTelling accepts permits board w name name calls told before after) (sym is)
      (inl (refl, rose refl, same, fails), (quiet name calls told tells, refl));
  short = λ short. absurd (cc);
}
not_chosen accepts permits board w name calls told before after NoMemory e tells is rose fails same =
    record {
      broken = λ other. absurd (other is);
      short = λ short. (inl (same, fails), (quiet name calls told tells, refl));
    }

not_link_memory : {E F : Type 0} (fault : LinkFault) (e : GatewayError E F)
    → e ≡ link_error fault → e ≢ error.NoMemory
    → (fault ≡ link.Failed) × (e ≡ error.Run run.LinkFault)
not_link_memory link.Failed e is other = (refl, is)
not_link_memory link.NoMemory e is other = absurd (other is)

-- the link gave none
pub not_given : {E F : Type 0} (accepts : Acceptance) (permits : Permits) (board mid : Board)
    (w : World) (name : ℕ) (calls : List (Call E)) (told : Option (List (Call E)))
    (chosen : Chosen) (before after : Outside F) (fault : LinkFault) (e : GatewayError E F)
    → told ≡ Some calls → e ≡ link_error fault
    → Chooses permits w board mid before.targets after.targets chosen → chosen.kind ≡ None
    → (fault ≡ link.Failed → Rose before.beneath.faults after.beneath.faults)
    → AddsNothing before.beneath.trace after.beneath.trace
    → after.beneath.steps ≡ before.beneath.steps
    → Breaks accepts permits board w name name calls told before after e
not_given accepts permits board mid w name calls told chosen before after fault e tells is
    (source, made, chosen_is, adds, (board_is, kind_is, closes_is)) none rose trace steps =
    let waits = waits_only permits w board (board.last_ticket + 1) source made (sym kind_is ∙ none)
    chosen_is in
    record {
      broken = λ other.
          let only = not_link_memory fault e is other in
          subst (BreaksTelling accepts permits board w name name calls told before after)
          (sym only.1) (
            inr (inl (refl, rose only.0, trace, steps, made, waits, adds)),
            (quiet name calls told tells, refl),
          );
      short = λ is_short. (
        inr (inl (trace, steps, made, waits, adds)),
        (quiet name calls told tells, refl),
      );
    }

-- ---- the counts

noted_counts : (question : Question) (board : Board)
    → ((noted question board).last_id ≡ board.last_id)
    × ((noted question board).last_ticket ≡ board.last_ticket)
noted_counts (Lends (Opens channel (type.DirectTcpip host port from from_port))) board = (refl, refl)
noted_counts (Lends (Happened channel what.Eof)) board = (refl, refl)
noted_counts (Lends (Happened channel what.Close)) board = (refl, refl)
noted_counts question board = (refl, refl)

all_noted_counts : (questions : List Question) (board : Board)
    → ((all_noted questions board).last_id ≡ board.last_id)
    × ((all_noted questions board).last_ticket ≡ board.last_ticket)
all_noted_counts [] board = (refl, refl)
all_noted_counts (question ∷ questions) board =
    let one = noted_counts question board in
    let more = all_noted_counts questions (noted question board) in
    (more.0 ∙ one.0, more.1 ∙ one.1)

-- what is asked in an input leaves them as they are
pub counted : (board mid given board' : Board) (moment : ℕ) (questions : List Question)
    → IsNextCount board mid → given ≡ record mid { moment = moment }
    → board' ≡ all_noted questions given → IsNextCount board board'
counted board mid given board' moment questions counts given_is board_is =
    let same = all_noted_counts questions given in (
      subst (λ n. n ≤ board.last_id + 1)
          (sym (ap (λ b. b.last_id) board_is ∙ (same.0 ∙ ap (λ b. b.last_id) given_is))) counts.0,
      subst (λ n. n ≤ board.last_ticket + 1)
          (sym (ap (λ b. b.last_ticket) board_is ∙ (same.1 ∙ ap (λ b. b.last_ticket) given_is)))
          counts.1,
    )
