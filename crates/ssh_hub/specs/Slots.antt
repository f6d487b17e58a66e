-- The answers of the peer to requests of this side.
use Rattle.std.specs.Prelude.{ℕ, Option, Some, None}
use Rattle.ssh_hub.specs.declared.answers.SlotAnswer.{SlotAnswer}
use Rattle.ssh_hub.specs.World.{Map, with_changed, without}

-- the first answer of a slot that was given out is kept
abbrev pub answered_at :
    Map (Option SlotAnswer) → ℕ → SlotAnswer → Option (Option SlotAnswer) → Map (Option SlotAnswer)
answered_at answers slot answer None = answers
answered_at answers slot answer (Some None) = with_changed answers slot (Some answer)
answered_at answers slot answer (Some (Some first)) = answers

abbrev pub answer_at : Option (Option SlotAnswer) → Option SlotAnswer
answer_at None = None
answer_at (Some answer) = answer

-- an answer that is given out is not kept
abbrev pub collected_at : Map (Option SlotAnswer) → ℕ → Option SlotAnswer → Map (Option SlotAnswer)
collected_at answers slot None = answers
collected_at answers slot (Some answer) = without slot answers
