-- Which words ask for a run in threads.
use Rattle.std.proofs.Common.{◌≡◌, ◌≢◌, ℕ, List, arith, sym, ◌∙◌, subst}
use Rattle.std.specs.Fmt.{decimal}
use Rattle.std.proofs.lemmas.Fmt.{decimal_injective}
use Rattle.ssh_scene.specs.Grammar.{IsNumber}
use Rattle.ssh_threads.specs.Programs.{IsCount}

-- digits of a number that may not be asked for ask for none
pub other_count : (digits : List ℕ) (count : ℕ) → IsNumber digits count → (IsCount count → ⊥)
    → (n : ℕ) → IsCount n → digits ≢ decimal n
other_count digits count is never n asked same =
    let equal : count ≡ n = decimal_injective count n is.0 (omega (arith, asked.1))
    (sym is.1 ∙ same) in
    never (subst IsCount (sym equal) asked)
