-- A file after bytes were put over what stood there.
use Rattle.std.proofs.Common.{◌≡◌, ℕ, zero, suc, ◌+◌, ◌-◌, ◌≤◌, List, [], ◌∷◌, ◌++◌, length, take}
use Rattle.std.proofs.Common.{drop}
use Rattle.std.proofs.Common.{refl, ap, sym, ◌∙◌, arith, append-nil}
use Rattle.std.specs.Prelude.{replicate}
use Rattle.std.proofs.lemmas.List.{take-replicate, drop-replicate}
use Rattle.std.proofs.Math.Seq.{take-nil, drop-nil}
use Rattle.ssh_sftp_core.specs.Files.{overwritten}

-- the first bytes of a file with zeros behind it
take-zeros : (file : List ℕ) (n k m : ℕ) → m ≡ n - length file → m ≤ k
    → take n (file ++ replicate k 0) ≡ take n file ++ replicate m 0
take-zeros [] n k m is less =
    let all : n ≡ m = omega (arith, is) in
    take-replicate n k 0 (omega (arith, all, less)) ∙ ap (λ z. replicate z 0) all
    ∙ ap (λ z. z ++ replicate m 0) (sym (take-nil n))
take-zeros (x ∷ file) zero k m is less =
    let none : 0 ≡ m = omega (arith, is) in ap (λ z. replicate z 0) none
take-zeros (x ∷ file) (suc n) k m is less =
    ap (λ z. x ∷ z) (take-zeros file n k m (omega (arith, is)) less)

-- what stands behind the first bytes of a file with zeros behind it
drop-zeros : (file : List ℕ) (n k : ℕ) → k ≡ n - length file
    → drop n (file ++ replicate k 0) ≡ drop n file
drop-zeros [] n k is =
    let none : k - n ≡ 0 = omega (arith, is) in
    drop-replicate n k 0 ∙ ap (λ m. replicate {A = ℕ} m 0) none ∙ sym (drop-nil n)
drop-zeros (x ∷ file) zero k is =
    let none : k ≡ 0 = omega (arith, is) in
    ap (λ m. x ∷ (file ++ replicate m 0)) none ∙ ap (λ z. x ∷ z) (append-nil file)
drop-zeros (x ∷ file) (suc n) k is = drop-zeros file n k (omega (arith, is))

pub put_over : (file : List ℕ) (at : ℕ) (bytes : List ℕ) (k : ℕ)
    → k ≡ at + length bytes - length file
    → take at (file ++ replicate k 0) ++ bytes ++ drop (at + length bytes) (file ++ replicate k 0)
    ≡ overwritten file at bytes
put_over file at bytes k is =
    ap (λ z. z ++ bytes ++ drop (at + length bytes) (file ++ replicate k 0))
    (take-zeros file at k (at - length file) refl (omega (arith, is)))
    ∙ ap (λ z. take at file ++ replicate (at - length file) 0 ++ bytes ++ z)
    (drop-zeros file (at + length bytes) k is)
