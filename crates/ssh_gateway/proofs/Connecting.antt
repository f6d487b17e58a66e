-- Of the calls of a turn, those that choose its input, and those behind it.
use Rattle.std.proofs.Common.{◌≡◌, ℕ, List, [], ◌∷◌, ◌++◌, Option, Some, None, Bool, true, false, cond}
use Rattle.std.proofs.Common.{Result, Ok, refl, ◌∙◌, ap}
use Rattle.std.specs.Prelude.{flat_map}
use Rattle.std.specs.List.{find}
use Rattle.std.proofs.lemmas.List.{append-nil}
use Rattle.std.proofs.lemmas.List.Concat.{flat_map-append}
use Rattle.ssh_auth.specs.declared.question.Happening.{Happening}
use Rattle.ssh_auth.specs.declared.question.Happening.TheVariants as what
use Rattle.ssh_auth.specs.declared.question.Lent.TheVariants.{Happened}
use Rattle.ssh_auth.specs.declared.question.Question.{Question}
use Rattle.ssh_auth.specs.declared.question.Question.TheVariants.{Lends}
use Rattle.ssh_rules.specs.World.{World}
use Rattle.ssh_gateway.specs.declared.switchboard.Connection.{Connection}
use Rattle.ssh_gateway.specs.declared.targets.Arrived.{Arrived}
use Rattle.ssh_gateway.specs.declared.targets.Arrived.TheVariants as arrived
use Rattle.ssh_gateway.specs.declared.targets.TargetCall.{TargetCall}
use Rattle.ssh_gateway.specs.declared.targets.TargetCall.TheVariants as call
use Rattle.ssh_gateway.specs.declared.targets.TargetFault.{TargetFault}
use Rattle.ssh_gateway.specs.Board.{Board, is_on, noted, passed_to, due_on, all_due}
use Rattle.ssh_gateway.specs.Choosing.{Source, Decides, Sends, Ends, Closes, Waits, silence, silences}
use Rattle.ssh_gateway.specs.Choosing.{may_send, closed_by}
use Rattle.ssh_gateway.specs.Turns.{Round, board_within, due_after}

-- ---- the calls that choose an input

-- reads are none of these
abbrev pub ReadsNone : {B : Type 0} → (TargetCall → List B) → Type 0
ReadsNone f = (id most : ℕ) (answer : Result Arrived TargetFault) → f (call.Read id most answer) ≡ []

silence_none : {B : Type 0} (f : TargetCall → List B) → ReadsNone f → (may : Bool) (id : ℕ)
    → flat_map f (cond may (call.Read id 32768 (Ok arrived.Nothing) ∷ []) []) ≡ []
silence_none f none true id =
    append-nil (f (call.Read id 32768 (Ok arrived.Nothing))) ∙ none id 32768 (Ok arrived.Nothing)
silence_none f none false id = refl

pub silences_none : {B : Type 0} (f : TargetCall → List B) → ReadsNone f → (w : World)
    (connections : List Connection) → flat_map f (silences w connections) ≡ []
silences_none f none w [] = refl
silences_none f none w (one ∷ connections) =
    flat_map-append f (silence w one) (silences w connections)
    ∙ (ap (λ l. l ++ flat_map f (silences w connections))
    (silence_none f none (may_send w one) one.id) ∙ silences_none f none w connections)

pub read_last : {B : Type 0} (f : TargetCall → List B) → ReadsNone f → (w : World)
    (earlier : List Connection) (id : ℕ) (answer : Result Arrived TargetFault)
    → flat_map f (silences w earlier ++ call.Read id 32768 answer ∷ []) ≡ []
read_last f none w earlier id answer =
    flat_map-append f (silences w earlier) (call.Read id 32768 answer ∷ [])
    ∙ (ap (λ l. l ++ flat_map f (call.Read id 32768 answer ∷ [])) (silences_none f none w earlier)
    ∙ (append-nil (f (call.Read id 32768 answer)) ∙ none id 32768 answer))

-- ---- the calls behind it

-- no call that hands on what came is one of these
abbrev pub HandsOnNone : {B : Type 0} → (TargetCall → List B) → Type 0
HandsOnNone f = (id : ℕ) → ((bytes : List ℕ) → f (call.Write id bytes (Ok tt)) ≡ [])
    × (f (call.Finish id (Ok tt)) ≡ []) × (f (call.Close id (Ok tt)) ≡ [])

module _ {B : Type 0} (f : TargetCall → List B) (none : HandsOnNone f)
  where
    passed_none : (happening : Happening) (one : Option Connection)
        → flat_map f (passed_to happening one) ≡ []
    passed_none happening None = refl
    passed_none (what.Data bytes) (Some one) =
        append-nil (f (call.Write one.id bytes (Ok tt))) ∙ (none one.id).0 bytes
    passed_none what.Eof (Some one) =
        append-nil (f (call.Finish one.id (Ok tt))) ∙ (none one.id).1
    passed_none what.Close (Some one) =
        append-nil (f (call.Close one.id (Ok tt))) ∙ (none one.id).2
    passed_none happening (Some one) = refl

    due_none : (question : Question) (board : Board)
        → flat_map f (due_on question board.connections) ≡ []
    due_none (Lends (Happened channel happening)) board =
        passed_none happening (find (is_on channel) board.connections)
    due_none (Lends lent) board = refl
    due_none question board = refl

    all_due_none : (questions : List Question) (board : Board)
        → flat_map f (all_due questions board) ≡ []
    all_due_none [] board = refl
    all_due_none (question ∷ questions) board =
        flat_map-append f (due_on question board.connections)
        (all_due questions (noted question board))
        ∙ (ap (λ l. l ++ flat_map f (all_due questions (noted question board)))
        (due_none question board) ∙ all_due_none questions (noted question board))

    closed_none : (source : Source) → flat_map f (closed_by source) ≡ []
    closed_none (Decides asked verdict) = refl
    closed_none (Sends earlier one later bytes) = refl
    closed_none (Ends earlier one later) = refl
    closed_none (Closes earlier one later) =
        append-nil (f (call.Close one.id (Ok tt))) ∙ (none one.id).2
    closed_none Waits = refl

    pub after_none : {E F : Type 0} (round : Round E F) (board : Board)
        → flat_map f (due_after round board) ≡ []
    after_none round board =
        flat_map-append f (closed_by round.source) (all_due round.asked (board_within round board))
        ∙ (ap (λ l. l ++ flat_map f (all_due round.asked (board_within round board)))
        (closed_none round.source) ∙ all_due_none round.asked (board_within round board))
