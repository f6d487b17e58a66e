-- An item between those before it and those behind it.
use Rattle.std.proofs.Common.{◌≡◌, ◌<◌, ℕ, suc, List, [], ◌∷◌, ◌++◌, length, take, drop}
use Rattle.std.proofs.Common.{refl, sym, ◌∙◌, ap}
use Rattle.std.specs.List.{slice_index_or, slice_set, remove}
use Rattle.std.proofs.Math.Seq.{drop-cons}

pub index_here : {A : Type 0} (earlier : List A) (one : A) (later : List A) (d : A)
    → slice_index_or (earlier ++ one ∷ later) (length earlier) d ≡ one
index_here [] one later d = refl
index_here (first ∷ earlier) one later d = index_here earlier one later d

pub set_here : {A : Type 0} (earlier : List A) (one : A) (later : List A) (other : A)
    → slice_set (earlier ++ one ∷ later) (length earlier) other ≡ earlier ++ other ∷ later
set_here [] one later other = refl
set_here (first ∷ earlier) one later other = ap (λ l. first ∷ l) (set_here earlier one later other)

take_here : {A : Type 0} (earlier more : List A) → take (length earlier) (earlier ++ more) ≡ earlier
take_here [] more = refl
take_here (first ∷ earlier) more = ap (λ l. first ∷ l) (take_here earlier more)

drop_here : {A : Type 0} (earlier : List A) (one : A) (later : List A)
    → drop (suc (length earlier)) (earlier ++ one ∷ later) ≡ later
drop_here [] one later = refl
drop_here (first ∷ earlier) one later = drop_here earlier one later

pub remove_here : {A : Type 0} (earlier : List A) (one : A) (later : List A)
    → remove (earlier ++ one ∷ later) (length earlier) ≡ earlier ++ later
remove_here earlier one later =
    ap (λ l. l ++ drop (suc (length earlier)) (earlier ++ one ∷ later))
    (take_here earlier (one ∷ later))
    ∙ ap (λ l. earlier ++ l) (drop_here earlier one later)

-- ---- by its place

pub dropped : {A : Type 0} (xs : List A) (i : ℕ) (x : A) → i < length xs
    → x ≡ slice_index_or xs i x → drop i xs ≡ x ∷ drop (suc i) xs
dropped xs i x few is = drop-cons xs i x few ∙ ap (λ y. y ∷ drop (suc i) xs) (sym is)
