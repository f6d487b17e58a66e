-- A turn finishes or closes one connection at most.
use Rattle.std.proofs.Common.{◌≡◌, ◌+◌, ℕ, List, [], ◌∷◌, ◌++◌, Bool, true, false}
use Rattle.std.proofs.Common.{Option, Some, None, Ok, refl, sym, ◌∙◌, ap, subst, inl, inr}
use Rattle.std.specs.Prelude.{flat_map}
use Rattle.std.specs.List.{find}
use Rattle.std.proofs.lemmas.List.{append-nil}
use Rattle.std.proofs.lemmas.List.Concat.{flat_map-append}
use Rattle.ssh_wire.specs.declared.channel_id.ChannelId.{ChannelId}
use Rattle.ssh_link.specs.declared.command.Command.{Command}
use Rattle.ssh_link.specs.declared.command.Command.TheVariants as command
use Rattle.ssh_link.specs.declared.frame.Input.{Input}
use Rattle.ssh_link.specs.declared.frame.InputKind.TheVariants as input
use Rattle.ssh_auth.specs.declared.call.Call.{Call}
use Rattle.ssh_auth.specs.declared.question.Happening.{Happening}
use Rattle.ssh_auth.specs.declared.question.Happening.TheVariants as what
use Rattle.ssh_auth.specs.declared.question.Lent.TheVariants.{Happened}
use Rattle.ssh_auth.specs.declared.question.Question.{Question}
use Rattle.ssh_auth.specs.declared.question.Question.TheVariants as ask
use Rattle.ssh_auth.specs.declared.question.Question.TheVariants.{Admits, Banner, Lends}
use Rattle.ssh_auth.specs.Plan.{Plan, Finish, Ask, Tell, Answer, Event}
use Rattle.ssh_auth.specs.Plan.{answered as event_of, calls_in, Reaches}
use Rattle.ssh_auth.specs.Publickey.{Acceptance}
use Rattle.ssh_auth.specs.Was.{asked_of, question_of}
use Rattle.ssh_auth.proofs.Back.{admitted_back, lent_back, judged_back}
use Rattle.ssh_handler.specs.OwnCalls.{is_own, own_calls}
use Rattle.ssh_rules.specs.Outcome.{Outcome}
use Rattle.ssh_rules.specs.World.{World}
use Rattle.ssh_gateway.specs.declared.switchboard.Connection.{Connection}
use Rattle.ssh_gateway.specs.Answering.{answered, records}
use Rattle.ssh_gateway.specs.Board.{Board, is_on, noted, passed_to, due_on, all_due}
use Rattle.ssh_gateway.specs.declared.targets.TargetCall.TheVariants as call
use Rattle.ssh_gateway.specs.Choosing.{Permits, Source, Decides, Sends, Ends, Closes, Waits}
use Rattle.ssh_gateway.specs.Choosing.{IsGiven, own_kind, closed_by}
use Rattle.ssh_gateway.specs.Turns.{Round, Begins, Comes, board_within, due_after}
use Rattle.ssh_gateway.specs.Unfinished.{ending_by, endings_in, AtMostOne}
use Rattle.ssh_gateway.proofs.Ending.{is_end, Spends, spends_so, Few, few_owes, none_command}

-- ---- calls

abbrev FewCalls : {E : Type 0} → (may : Bool) → List (Call E) → Type 0
FewCalls may [] = Unit {0}
FewCalls may (call ∷ calls) = Spends (is_end (asked_of call)) may (λ m. FewCalls m calls)

few_event : (E F : Type 0) (may : Bool) (question : Question) (answer : Answer question)
    (events : List (Event E F))
    → Spends (is_end question) may (λ m. FewCalls m (calls_in events))
    → FewCalls may (calls_in (event_of {E = E} {F = F} question answer ∷ events))
few_event E F may Banner answer events h = h
few_event E F may (Admits admission) answer events h =
    subst (λ b. Spends b may (λ m. FewCalls m (calls_in events)))
    (sym (ap (λ w. is_end (question_of w)) (admitted_back E admission (Ok answer)))) h
few_event E F may (Lends lent) answer events h =
    subst (λ b. Spends b may (λ m. FewCalls m (calls_in events)))
    (sym (ap (λ w. is_end (question_of w)) (lent_back E lent (Ok tt) answer))) h
few_event E F may (ask.Judges judged) answer events h =
    subst (λ b. Spends b may (λ m. FewCalls m (calls_in events)))
    (sym (ap (λ w. is_end (question_of w))
    (judged_back E judged (Ok answer.granted) answer.commands))) h
few_event E F may (ask.Listens address port) answer events h = h
few_event E F may (ask.Adjusts channel current) answer events h = h
few_event E F may (ask.Done place outcome) answer events h = h
few_event E F may ask.Begins answer events h = h
few_event E F may (ask.Steps payload) answer events h = h

few_reached : {E F O : Type 0} (may : Bool) (plan rest : Plan O) (events : List (Event E F))
    → Few may plan → Reaches plan events rest → FewCalls may (calls_in events)
few_reached may plan rest [] h reaches = tt
few_reached {E} {F} may (Ask question next) rest (event ∷ events) h (answer, is, more) =
    subst (λ e. FewCalls may (calls_in (e ∷ events))) (sym is)
    (few_event E F may question answer events
    (spends_so (is_end question) may (λ m. (answer : Answer question) → Few m (next answer))
    (λ m. FewCalls m (calls_in events))
    (λ m g. few_reached m (next answer) rest events (g answer) more) h))
few_reached may (Tell entry next) rest (event ∷ events) h (is, more) =
    subst (λ e. FewCalls may (calls_in (e ∷ events))) (sym is)
    (few_reached may next rest events h more)
few_reached may (Finish outcome) rest (event ∷ events) h reaches = absurd reaches

-- what is none of a session's own asks of no end
beside_end : (question : Question) → is_own question ≡ false → is_end question ≡ false
beside_end Banner is = refl
beside_end (Admits admission) is = refl
beside_end question is = absurd (cc)

few_own_by : {E : Type 0} (b may : Bool) (call : Call E) (calls : List (Call E))
    → is_own (asked_of call) ≡ b → FewCalls may (call ∷ calls)
    → ((m : Bool) → FewCalls m calls → FewCalls m (own_calls calls))
    → FewCalls may (own_calls (call ∷ calls))
few_own_by true may call calls is h more = rw is (spends_so (is_end (asked_of call)) may
    (λ m. FewCalls m calls) (λ m. FewCalls m (own_calls calls)) more h)
few_own_by false may call calls is h more = rw is (more may
    (subst (λ b. Spends b may (λ m. FewCalls m calls)) (beside_end (asked_of call) is) h))

few_own : {E : Type 0} (may : Bool) (calls : List (Call E)) → FewCalls may calls
    → FewCalls may (own_calls calls)
few_own may [] h = tt
few_own may (call ∷ calls) h =
    few_own_by (is_own (asked_of call)) may call calls refl h (λ m g. few_own m calls g)

-- ---- questions that were asked

abbrev FewAsked : (may : Bool) → List Question → Type 0
FewAsked may [] = Unit {0}
FewAsked may (question ∷ questions) =
    Spends (is_end question) may (λ m. FewAsked m questions)

few_asked : (E : Type 0) (may : Bool) (questions : List Question)
    → FewCalls {E = E} may (flat_map answered questions) → FewAsked may questions
few_asked E may [] h = tt
few_asked E may (Lends lent ∷ questions) h =
    spends_so (is_end (Lends lent)) may (λ m. FewCalls {E = E} m (flat_map answered questions))
    (λ m. FewAsked m questions) (λ m g. few_asked E m questions g)
    (subst (λ b. Spends b may (λ m. FewCalls {E = E} m (flat_map answered questions)))
    (ap (λ w. is_end (question_of w)) (lent_back E lent (Ok tt) (records lent))) h)
few_asked E may (ask.Judges judged ∷ questions) h = few_asked E may questions
    (subst (λ b. Spends b may (λ m. FewCalls {E = E} m (flat_map answered questions)))
    (ap (λ w. is_end (question_of w)) (judged_back E judged (Ok false) [])) h)
few_asked E may (ask.Listens address port ∷ questions) h = few_asked E may questions h
few_asked E may (ask.Adjusts channel current ∷ questions) h = few_asked E may questions h
few_asked E may (ask.Done place outcome ∷ questions) h = few_asked E may questions h
few_asked E may (Banner ∷ questions) h = few_asked E may questions h
few_asked E may (Admits admission ∷ questions) h = few_asked E may questions h
few_asked E may (ask.Begins ∷ questions) h = few_asked E may questions h
few_asked E may (ask.Steps payload ∷ questions) h = few_asked E may questions h

-- ---- what is due for them

passed_quiet : (happening : Happening) (channel : ChannelId) (one : Option Connection)
    → is_end (Lends (Happened channel happening)) ≡ false
    → endings_in (passed_to happening one) ≡ []
passed_quiet happening channel None is = refl
passed_quiet what.Eof channel (Some one) is = absurd (cc)
passed_quiet what.Close channel (Some one) is = absurd (cc)
passed_quiet (what.Data bytes) channel (Some one) is = refl
passed_quiet happening channel (Some one) is = refl

passed_one : (happening : Happening) (one : Option Connection)
    → AtMostOne (endings_in (passed_to happening one))
passed_one happening None = inl refl
passed_one what.Eof (Some one) = inr (_, refl)
passed_one what.Close (Some one) = inr (_, refl)
passed_one (what.Data bytes) (Some one) = inl refl
passed_one happening (Some one) = inl refl

due_quiet : (question : Question) (board : Board) → is_end question ≡ false
    → endings_in (due_on question board.connections) ≡ []
due_quiet (Lends (Happened channel happening)) board is =
    passed_quiet happening channel (find (is_on channel) board.connections) is
due_quiet (Lends lent) board is = refl
due_quiet question board is = refl

due_one : (question : Question) (board : Board)
    → AtMostOne (endings_in (due_on question board.connections))
due_one (Lends (Happened channel happening)) board =
    passed_one happening (find (is_on channel) board.connections)
due_one (Lends lent) board = inl refl
due_one question board = inl refl

both_due : (question : Question) (questions : List Question) (board : Board)
    → endings_in (all_due (question ∷ questions) board)
    ≡ endings_in (due_on question board.connections)
    ++ endings_in (all_due questions (noted question board))
both_due question questions board =
    flat_map-append ending_by (due_on question board.connections)
    (all_due questions (noted question board))

none_by : (b : Bool) (question : Question) (questions : List Question) (board : Board)
    → is_end question ≡ b → Spends b false (λ m. FewAsked m questions)
    → (FewAsked false questions → endings_in (all_due questions (noted question board)) ≡ [])
    → endings_in (all_due (question ∷ questions) board) ≡ []
none_by true question questions board is spent more = absurd spent
none_by false question questions board is few more = both_due question questions board
    ∙ (ap (λ l. l ++ endings_in (all_due questions (noted question board)))
    (due_quiet question board is) ∙ more few)

due_none : (questions : List Question) (board : Board) → FewAsked false questions
    → endings_in (all_due questions board) ≡ []
due_none [] board h = refl
due_none (question ∷ questions) board h = none_by (is_end question) question questions board refl h
    (λ few. due_none questions (noted question board) few)

few_by : (b : Bool) (question : Question) (questions : List Question) (board : Board)
    → is_end question ≡ b → Spends b true (λ m. FewAsked m questions)
    → (FewAsked true questions
    → AtMostOne (endings_in (all_due questions (noted question board))))
    → AtMostOne (endings_in (all_due (question ∷ questions) board))
few_by true question questions board is none more = subst AtMostOne
    (sym (both_due question questions board
    ∙ (ap (λ l. endings_in (due_on question board.connections) ++ l)
    (due_none questions (noted question board) none)
    ∙ append-nil (endings_in (due_on question board.connections))))) (due_one question board)
few_by false question questions board is few more = subst AtMostOne
    (sym (both_due question questions board
    ∙ ap (λ l. l ++ endings_in (all_due questions (noted question board)))
    (due_quiet question board is))) (more few)

due_few : (questions : List Question) (board : Board) → FewAsked true questions
    → AtMostOne (endings_in (all_due questions board))
due_few [] board h = inl refl
due_few (question ∷ questions) board h = few_by (is_end question) question questions board refl h
    (λ few. due_few questions (noted question board) few)

-- ---- a turn

asked_few : {E F : Type 0} (accepts : Acceptance) (w : World) (round : Round E F)
    (outcome : Outcome) (may : Bool) (comes : Comes accepts w round outcome)
    → Few may comes.plan → FewAsked may round.asked
asked_few {E} {F} accepts w round outcome may comes few = few_asked _ may round.asked
    (subst (FewCalls may) comes.answered
    (few_own may (calls_in round.turn.events)
    (few_reached may comes.plan (Finish outcome) round.turn.events few comes.follows)))

due_by : (source : Source) (given : Input) (ticket moment : ℕ) (asked : List Question)
    (board : Board) → IsGiven (own_kind ticket source) moment given → FewAsked true asked
    → ((ticket moment : ℕ) (what_for : Command)
    → given ≡ record { moment = moment; kind = input.Command ticket what_for }
    → FewAsked false asked)
    → AtMostOne (endings_in (closed_by source ++ all_due asked board))
due_by (Closes earlier one later) given ticket moment asked board is few none = inr (
  _,
  ap (λ l. call.Close one.id (Ok tt) ∷ l)
      (due_none asked board (none ticket moment (command.Close one.channel) is)),
)
due_by (Decides asking decision) given ticket moment asked board is few none =
    due_few asked board few
due_by (Sends earlier one later bytes) given ticket moment asked board is few none =
    due_few asked board few
due_by (Ends earlier one later) given ticket moment asked board is few none =
    due_few asked board few
due_by Waits given ticket moment asked board is few none = due_few asked board few

-- a turn that was served asks the targets to finish or close one connection, once, or none
pub one_ending : {E F : Type 0} (accepts : Acceptance) (permits : Permits) (board : Board)
    (w : World) (round : Round E F) (outcome : Outcome) → Begins permits board w round
    → Comes accepts w round outcome → AtMostOne (endings_in (due_after round board))
one_ending accepts permits board w round outcome starts comes =
    due_by round.source round.turn.input (board.last_ticket + 1) board.moment round.asked
    (board_within round board) starts.given
    (asked_few accepts w round outcome true comes
    (few_owes accepts w round.turn.input comes.plan comes.owes))
    (λ ticket moment what_for is. asked_few accepts w round outcome false comes
    (none_command accepts w round.turn.input comes.plan moment ticket what_for is comes.owes))
