-- Ascending numbers are the same where they have the same members.
use Rattle.std.proofs.Common.{◌≡◌, ◌<◌, ◌≤◌, ◌==◌, ◌||◌, ℕ, List, [], ◌∷◌, Bool, true, false, cond, nat_lt}
use Rattle.std.proofs.Common.{rules, refl, sym, ◌∙◌, ap, arith}
use Rattle.std.specs.declared.cmp.Ordering.TheVariants.{Less, Equal, Greater}
use Rattle.std.specs.Ordering.{nat_cmp}
use Rattle.std.specs.BTreeMap.{is_at}
use Rattle.std.specs.Cmp.{unsigned_tied}
use Rattle.std.specs.List.Sorted.{IsStrictlySortedBy}
use Rattle.std.proofs.lemmas.Map.Keys.{sorted_head, sorted_tail}
use Rattle.ssh_channels.proofs.Noting.{is_member, same_number}

pub never_both : (b : Bool) → b ≡ false → b ≡ true → ⊥
never_both true h k = absurd (cc)
never_both false h k = absurd (cc)

pub at_itself : (n : ℕ) → is_at (nat_cmp n) n ≡ true
at_itself n = unsigned_tied n n ∙ search rules

less_at : (b c : Bool) → cond b Less (cond c Equal Greater) ≡ Less → b ≡ true
less_at true c h = refl
less_at false true h = absurd (cc)
less_at false false h = absurd (cc)

is_less : (x y : ℕ) → nat_cmp x y ≡ Less → x < y
is_less x y h =
    let t : nat_lt x y ≡ true = less_at (nat_lt x y) (x == y) h in search rules

less_apart : (x y : ℕ) → x < y → is_at (nat_cmp x) y ≡ false
less_apart x y h =
    let t : (x == y) ≡ false = search rules in unsigned_tied x y ∙ t

-- a number below the first one is not among them
below_none : (x y : ℕ) (ys : List ℕ) → x < y → IsStrictlySortedBy nat_cmp (y ∷ ys)
    → is_member x (y ∷ ys) ≡ false
below_none x y [] h s = ap (λ b. b || false) (less_apart x y h)
below_none x y (z ∷ zs) h s =
    let k : y < z = is_less y z (sorted_head nat_cmp y (z ∷ zs) s).0 in
    ap (λ b. b || is_member x (z ∷ zs)) (less_apart x y h)
    ∙ below_none x z zs (omega arith) (sorted_tail nat_cmp y (z ∷ zs) s)

-- nor is the first one among the others
first_none : (x : ℕ) (xs : List ℕ) → IsStrictlySortedBy nat_cmp (x ∷ xs) → is_member x xs ≡ false
first_none x [] s = refl
first_none x (z ∷ zs) s =
    below_none x z zs (is_less x z (sorted_head nat_cmp x (z ∷ zs) s).0)
    (sorted_tail nat_cmp x (z ∷ zs) s)

first_is : (x : ℕ) (xs : List ℕ) → is_member x (x ∷ xs) ≡ true
first_is x xs = ap (λ b. b || is_member x xs) (at_itself x)

module _ (x y : ℕ) (xs ys : List ℕ) (s : IsStrictlySortedBy nat_cmp (x ∷ xs))
    (s' : IsStrictlySortedBy nat_cmp (y ∷ ys))
    (same : (q : ℕ) → is_member q (x ∷ xs) ≡ is_member q (y ∷ ys)) where
  first_at : (b c : Bool) → nat_lt x y ≡ b → nat_lt y x ≡ c → x ≡ y
  first_at true c t u =
      absurd (never_both (is_member x (y ∷ ys)) (below_none x y ys (search rules) s')
      (sym (same x) ∙ first_is x xs))
  first_at false true t u =
      absurd (never_both (is_member y (x ∷ xs)) (below_none y x xs (search rules) s)
      (same y ∙ first_is y ys))
  first_at false false t u =
      let k : y ≤ x = search rules in let m : x ≤ y = search rules in omega arith

  same_first : x ≡ y
  same_first = first_at (nat_lt x y) (nat_lt y x) refl refl

  rest_at : (q : ℕ) (b : Bool) → is_at (nat_cmp q) x ≡ b → is_member q xs ≡ is_member q ys
  rest_at q true t =
      let e : q ≡ x = same_number q x t in
      ap (λ k. is_member k xs) e ∙ first_none x xs s
      ∙ sym (ap (λ k. is_member k ys) (e ∙ same_first) ∙ first_none y ys s')
  rest_at q false t =
      let u : is_at (nat_cmp q) y ≡ false = ap (is_at (nat_cmp q)) (sym same_first) ∙ t in
      sym (ap (λ b. b || is_member q xs) t) ∙ same q ∙ ap (λ b. b || is_member q ys) u

pub same_ascending : (xs ys : List ℕ) → IsStrictlySortedBy nat_cmp xs →
    IsStrictlySortedBy nat_cmp ys → ((q : ℕ) → is_member q xs ≡ is_member q ys) → xs ≡ ys
same_ascending [] [] s s' h = refl
same_ascending [] (y ∷ ys) s s' h = absurd (never_both _ (sym (h y)) (first_is y ys))
same_ascending (x ∷ xs) [] s s' h = absurd (never_both _ (h x) (first_is x xs))
same_ascending (x ∷ xs) (y ∷ ys) s s' h =
    ap (λ k. k ∷ xs) (same_first x y xs ys s s' h)
    ∙ ap (λ l. y ∷ l) (same_ascending xs ys (sorted_tail nat_cmp x xs s)
    (sorted_tail nat_cmp y ys s')
    (λ q. rest_at x y xs ys s s' h q (is_at (nat_cmp q) x) refl))
