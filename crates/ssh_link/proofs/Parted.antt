-- What is known of lists that are compared in two parts each.
use Rattle.std.proofs.Common.{◌≡◌, ℕ, Bool, true, false, List, ◌++◌, length, take, drop, Option}
use Rattle.std.proofs.Common.{Some, None, MatchOption, Bor, bytes_eq, refl, sym, ◌∙◌, ap, ⊎_elim}
use Rattle.std.proofs.Common.{append_assoc, rules}
use Rattle.std.specs.Option.{option_eq}
use Rattle.std.proofs.lemmas.Bool.{cases_Bool}
use Rattle.std.proofs.lemmas.List.{append_cancel_left, take_at, take-append-drop}
use Rattle.std.proofs.lemmas.Slice.Eq.{bytes_eq-Decides}

-- two tests answer the same where each is true exactly where the other is
same_test : (p q : Bool) → (p ≡ true → q ≡ true) → (q ≡ true → p ≡ true) → p ≡ q
same_test false false f g = refl
same_test false true f g = g refl
same_test true false f g = sym (f refl)
same_test true true f g = refl

same_lists : (a b c d : List ℕ) → (a ≡ b → c ≡ d) → (c ≡ d → a ≡ b) → bytes_eq a b ≡ bytes_eq c d
same_lists a b c d f g =
    same_test _ _ (λ t. (bytes_eq-Decides c d).1 (f ((bytes_eq-Decides a b).0 t)))
    (λ t. (bytes_eq-Decides a b).1 (g ((bytes_eq-Decides c d).0 t)))

pub either_way : (a b : List ℕ) → bytes_eq a b ≡ bytes_eq b a
either_way a b = same_lists a b b a sym sym

differ : (a b : List ℕ) → (a ≡ b → ⊥) → false ≡ bytes_eq a b
differ a b other = ⊎_elim (λ t. absurd (other ((bytes_eq-Decides a b).0 t))) (λ f. sym f)
    (cases_Bool (bytes_eq a b))

not_both : (b : Bool) → b ≡ true → b ≡ false → ⊥
not_both b t f = search rules

-- the two parts that a list was split into
pub parted : (n : ℕ) (whole start rest : List ℕ) → start ≡ take n whole → rest ≡ drop n whole
    → start ++ rest ≡ whole
parted n whole start rest s r =
    ap (λ l. l ++ rest) s ∙ ap (λ l. take n whole ++ l) r ∙ take-append-drop n whole

front_same : (front back start rest other : List ℕ) → length start ≡ length front
    → front ++ back ≡ (start ++ rest) ++ other → front ≡ start
front_same front back start rest other l e =
    sym (take_at front back (length front) refl) ∙ ap (λ x. take (length front) x)
    (e ∙ append_assoc start rest other)
    ∙ take_at start (rest ++ other) (length front) l

back_same : (front back start rest other : List ℕ) → front ≡ start
    → front ++ back ≡ (start ++ rest) ++ other → back ≡ rest ++ other
back_same front back start rest other f e =
    append_cancel_left start back (rest ++ other) (ap (λ l. l ++ back) (sym f) ∙ e
    ∙ append_assoc start rest other)

-- the fronts differ, so the lists do
pub fronts_differ : (front back start rest other : List ℕ) (r : Bool) → length start ≡ length front
    → r ≡ bytes_eq front start → r ≡ false →
    r ≡ bytes_eq (front ++ back) ((start ++ rest) ++ other)
fronts_differ front back start rest other r l e f =
    f ∙ differ _ _ (λ same. not_both (bytes_eq front start)
    ((bytes_eq-Decides front start).1 (front_same front back start rest other l same))
    (sym e ∙ f))

-- the fronts are the same, so the lists are where what follows in both is
pub backs_compare : (front back start rest : List ℕ) (other : Bor (List ℕ))
    (left : Option (Bor (List ℕ))) (r : Bool) → bytes_eq front start ≡ true →
    MatchOption left ((more : List ℕ) → back ≡ rest ++ more → ⊥) (λ more. back ≡ rest ++ more.now) →
    r ≡ option_eq (λ x y. bytes_eq x.now y.now) left (Some other)
    → r ≡ bytes_eq (front ++ back) ((start ++ rest) ++ other.now)
backs_compare front back start rest other None r t none e =
    e ∙ differ _ _ (λ same. none other.now (back_same front back start rest other.now
    ((bytes_eq-Decides front start).0 t) same))
backs_compare front back start rest other (Some left) r t is e =
    let f : front ≡ start = (bytes_eq-Decides front start).0 t in
    e ∙ same_lists left.now other.now (front ++ back) ((start ++ rest) ++ other.now)
    (λ same. ap (λ l. l ++ back) f ∙ ap (λ l. start ++ l) (is ∙ ap (λ l. rest ++ l) same)
    ∙ sym (append_assoc start rest other.now))
    (λ same. append_cancel_left rest left.now other.now
    (sym is ∙ back_same front back start rest other.now f same))
