-- When two lists of prompts are one.
use Rattle.std.specs.Prelude.{ℕ, List, Bool, ◌&&◌, bytes_eq}
use Rattle.std.specs.Bool.{beq}
use Rattle.std.specs.Cmp.{IsEquivalence, and_equiv, on_equiv, bool_eq_equiv}
use Rattle.std.specs.Cmp.Lexicographic.{pointwise, lists_equiv, nat_list_eq_equiv}

-- the text that is shown, and whether what is typed is shown too
abbrev pub Prompt : Type 0
Prompt = List ℕ × Bool

-- whether the two are one prompt
abbrev pub is_same : Prompt → Prompt → Bool
is_same prompt other = bytes_eq prompt.0 other.0 && beq prompt.1 other.1

-- whether the two lists are one
abbrev pub are_same : List Prompt → List Prompt → Bool
are_same prompts others = pointwise is_same prompts others

pub are_same-laws : IsEquivalence are_same
are_same-laws = lists_equiv (and_equiv (on_equiv (λ prompt. prompt.0) nat_list_eq_equiv)
    (on_equiv (λ prompt. prompt.1) bool_eq_equiv))
