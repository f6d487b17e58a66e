-- The place of the first of a list that passes a test.
use Rattle.std.proofs.Common.{◌≡◌, ℕ, ◌<◌, ◌≤◌, ◌∙◌, Bool, List, length, Some, None, arith}
use Rattle.std.specs.List.{position, position_or_len, find, slice_get}
use Rattle.std.proofs.lemmas.Grind.{common_steps}
use Rattle.std.proofs.lemmas.List.Folds.{find_at}
use Rattle.std.proofs.lemmas.Option.{slice_get_past}

-- the first that passes is what stands at its place
pub found_at : {A : Type 0} (p : A → Bool) (xs : List A) (place : ℕ) → position p xs ≡ Some place
    → find p xs ≡ slice_get xs place
found_at p xs place h = grind (arith, common_steps, find_at p xs, h)

-- and nothing is found where there is no place
pub found_nowhere : {A : Type 0} (p : A → Bool) (xs : List A) → position p xs ≡ None
    → find p xs ≡ None
found_nowhere p xs h = let past : length xs ≤ position_or_len p xs =
    grind (arith, common_steps, h) in find_at p xs ∙ slice_get_past xs (position_or_len p xs) past

-- a place is within the list
pub placed_within : {A : Type 0} (p : A → Bool) (xs : List A) (place : ℕ)
    → position p xs ≡ Some place → place < length xs
placed_within p xs place h = grind (arith, common_steps, h)
