-- Lists that are used up from their front.
use Rattle.std.proofs.Common.{◌≡◌, ◌≤◌, ◌+◌, ℕ, List, [], ◌∷◌, length, drop, arith, refl, sym, ◌∙◌}
use Rattle.std.proofs.Common.{ap, add-one}
use Prim.Native.Nat.{zero, suc}
use Rattle.std.proofs.Math.Seq.{drop-nil}
use Rattle.std.proofs.lemmas.Grind.{common_steps}
use Rattle.ssh_players.specs.Queue.{rest}

pub rest_drop : {A : Type 0} (n : ℕ) (xs : List A) → drop (n + 1) xs ≡ rest (drop n xs)
rest_drop n [] = drop-nil (n + 1) ∙ ap rest (sym (drop-nil n))
rest_drop zero (x ∷ xs) = refl
rest_drop (suc n) (x ∷ xs) = rw add-one (rw add-one at (rest_drop n xs))

pub rest_beyond : {A : Type 0} (n : ℕ) (xs : List A) → length xs ≤ n → drop n xs ≡ rest (drop n xs)
rest_beyond n xs h =
    let e : drop n xs ≡ [] = grind (arith, common_steps) in
    e ∙ ap rest (sym e)
