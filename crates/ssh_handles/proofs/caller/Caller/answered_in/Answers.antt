use Rattle.std.proofs.Common.{◌≡◌, ℕ, Result, refl, sym, subst}
use Rattle.ssh_link.specs.declared.outcome.CommandOutcome.{CommandOutcome}
use Rattle.ssh_hub.specs.declared.answers.HandleError.{HandleError}
use Rattle.ssh_hub.specs.declared.answers.SlotAnswer.{SlotAnswer}
use Rattle.ssh_hub.specs.declared.history.View.{View}
use Rattle.ssh_handles.specs.Parts.{AnswersIn}
use Rattle.ssh_handles.proofs.caller.Caller.answered_in.Goals as goal

answers_as : (slot : ℕ) (a b : CommandOutcome) (v : View) (r : Result SlotAnswer HandleError)
    (w : View) → b ≡ a → AnswersIn slot a v r w → AnswersIn slot b v r w
answers_as slot a b v r w is answers =
    subst (λ (x : CommandOutcome). AnswersIn slot x v r w) (sym is) answers

pub returns-in-Refused-clause-entries : goal.returns-in-Refused-clause-entries
returns-in-Refused-clause-entries g c = answers_as _ _ _ _ _ _ c.in-Refused.is (refl, refl)

pub returns-in-Accepted-clause-entries : goal.returns-in-Accepted-clause-entries
returns-in-Accepted-clause-entries g c =
    answers_as _ _ _ _ _ _ c.in-Accepted.is c.slot_answer.ensures.entries

pub returns-in-Opened-clause-entries : goal.returns-in-Opened-clause-entries
returns-in-Opened-clause-entries g c =
    answers_as _ _ _ _ _ _ c.in-Opened.is c.slot_answer-in-Opened.ensures.entries
