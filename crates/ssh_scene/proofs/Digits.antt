-- Numbers and their digits.
use Rattle.std.proofs.Common.{◌≡◌, ◌≢◌, ◌≤◌, ◌^◌, ℕ, List, Result, Ok, Err, arith, sym, ◌∙◌, ap}
use Rattle.std.specs.Str.Parse.{ParsesUnsigned}
use Rattle.std.specs.Fmt.{decimal}
use Rattle.std.proofs.lemmas.Fmt.{parse-decimal, decimal_injective}
use Rattle.ssh_scene.specs.Grammar.{IsNumber, IsSmall}

pub no_number : {E : Type 0} (digits : List ℕ) (r : Result ℕ E) (e : E) → ParsesUnsigned 64 10
    digits r → r ≡ Err e → (n : ℕ) → IsNumber digits n → ⊥
no_number digits r e p is n k =
    let q : r ≡ Ok n = parse-decimal 64 n digits r k.0 k.0 k.1 p in
    cc

pub other_digits : {E : Type 0} (digits written : List ℕ) (r : Result ℕ E) (m : ℕ)
    → ParsesUnsigned 64 10 digits r → r ≡ Ok m →
    written ≡ decimal m → written ≢ digits → (n : ℕ) → IsNumber digits n → ⊥
other_digits digits written r m p is a ne n k =
    let q : r ≡ Ok n = parse-decimal 64 n digits r k.0 k.0 k.1 p in
    let mn : m ≡ n = cc in
    ne (a ∙ (ap decimal mn ∙ sym k.1))

-- what is no number is no small one
pub not_small : (digits : List ℕ) → ((n : ℕ) → IsNumber digits n → ⊥) → (n : ℕ) → IsSmall digits n
    → ⊥
not_small digits h n k = h n (omega (arith, k.0), k.1)

pub too_large : (digits : List ℕ) (m : ℕ) → IsNumber digits m → 2 ^ 32 ≤ m → (n : ℕ)
    → IsSmall digits n → ⊥
too_large digits m h l n k =
    let e : n ≡ m = decimal_injective n m (omega (arith, k.0)) h.0 (sym k.1 ∙ h.1) in
    let s = k.0 in
    absurd (omega arith)
