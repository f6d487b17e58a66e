-- There is one next number.
use Rattle.std.proofs.Common.{◌≡◌, ◌∙◌, sym, ℕ, Option, Some}

pub one_number : (next : Option ℕ) (m n : ℕ) → next ≡ Some m → next ≡ Some n → m ≡ n
one_number next m n is other = let same : Some m ≡ Some n = sym is ∙ other in cc
