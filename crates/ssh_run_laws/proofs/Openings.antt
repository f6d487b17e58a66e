-- Which open of the peer's waits under a number, after one more waits and after one was answered.
use Rattle.std.proofs.Common.{◌≡◌, ◌==◌, ℕ, List, [], ◌∷◌, Bool, true, false, cond, Option, Some}
use Rattle.std.proofs.Common.{nat_lt, rules, refl, sym, ◌∙◌, ap}
use Rattle.std.specs.Ordering.{nat_cmp}
use Rattle.std.specs.BTreeMap.{is_at, insert_entry}
use Rattle.std.specs.Map.{lookup, remove_entry}
use Rattle.ssh_channels.proofs.Listed.{one_number}
use Rattle.ssh_channels.proofs.Standing.{at_is}
use Rattle.ssh_rules.specs.Opening.{Opening}

-- the open of this number
abbrev pub waiting_at : (n : ℕ) → List (ℕ × Opening) → Option Opening
waiting_at n xs = lookup (is_at (nat_cmp n)) xs

-- an open of another number was answered
removed_step : (a b : Bool) (n m : ℕ) (x : ℕ × Opening) (xs rest : List (ℕ × Opening))
    → (m == x.0) ≡ a → (n == x.0) ≡ b → (n == m) ≡ false → waiting_at n rest ≡ waiting_at n xs
    → waiting_at n (cond a xs (x ∷ rest)) ≡ cond b (Some x.1) (waiting_at n xs)
removed_step true true n m x xs rest s t apart h =
    absurd (let no : true ≡ false = sym t ∙ ap (λ k. n == k) (sym (one_number m x.0 s)) ∙ apart in
    cc)
removed_step true false n m x xs rest s t apart h = refl
removed_step false b n m x xs rest s t apart h =
    ap (λ c. cond c (Some x.1) (waiting_at n rest)) (at_is n x.0 ∙ t)
    ∙ ap (λ o. cond b (Some x.1) o) h

pub removed_other : (n m : ℕ) (xs : List (ℕ × Opening)) → (n == m) ≡ false
    → waiting_at n (remove_entry (is_at (nat_cmp m)) xs) ≡ waiting_at n xs
removed_other n m [] apart = refl
removed_other n m (x ∷ xs) apart =
    ap (λ c. waiting_at n (cond c xs (x ∷ remove_entry (is_at (nat_cmp m)) xs))) (at_is m x.0)
    ∙ removed_step (m == x.0) (n == x.0) n m x xs (remove_entry (is_at (nat_cmp m)) xs) refl refl
    apart (removed_other n m xs apart)
    ∙ ap (λ c. cond c (Some x.1) (waiting_at n xs)) (sym (at_is n x.0))

-- one more waits
at_itself : (k : ℕ) → is_at (nat_cmp k) k ≡ true
at_itself k = at_is k k ∙ (let same : (k == k) ≡ true = search rules in same)

self_step : (b c : Bool) (k : ℕ) (v : Opening) (x : ℕ × Opening) (xs : List (ℕ × Opening))
    → nat_lt k x.0 ≡ b → (k == x.0) ≡ c → waiting_at k (insert_entry nat_cmp xs k v) ≡ Some v
    → waiting_at k (insert_entry nat_cmp (x ∷ xs) k v) ≡ Some v
self_step true c k v x xs t u h = rw t (rw (at_itself k) refl)
self_step false true k v x xs t u h = rw (t, u) (rw (at_is k x.0 ∙ u) refl)
self_step false false k v x xs t u h = rw (t, u) (rw (at_is k x.0 ∙ u) h)

pub inserted_self : (k : ℕ) (v : Opening) (xs : List (ℕ × Opening))
    → waiting_at k (insert_entry nat_cmp xs k v) ≡ Some v
inserted_self k v [] = rw (at_itself k) refl
inserted_self k v (x ∷ xs) =
    self_step (nat_lt k x.0) (k == x.0) k v x xs refl refl (inserted_self k v xs)

other_step : (b c : Bool) (n k : ℕ) (v : Opening) (x : ℕ × Opening) (xs : List (ℕ × Opening))
    → nat_lt k x.0 ≡ b → (k == x.0) ≡ c → (n == k) ≡ false
    → waiting_at n (insert_entry nat_cmp xs k v) ≡ waiting_at n xs
    → waiting_at n (insert_entry nat_cmp (x ∷ xs) k v) ≡ waiting_at n (x ∷ xs)
other_step true c n k v x xs t u apart h = rw t (rw (at_is n k ∙ apart) refl)
other_step false true n k v x xs t u apart h =
    let there : is_at (nat_cmp n) x.0 ≡ false =
    at_is n x.0 ∙ ap (λ m. n == m) (sym (one_number k x.0 u)) ∙ apart in
    rw (t, u) (rw there refl)
other_step false false n k v x xs t u apart h =
    rw (t, u) (ap (λ o. cond (is_at (nat_cmp n) x.0) (Some x.1) o) h)

pub inserted_other : (n k : ℕ) (v : Opening) (xs : List (ℕ × Opening)) → (n == k) ≡ false
    → waiting_at n (insert_entry nat_cmp xs k v) ≡ waiting_at n xs
inserted_other n k v [] apart = rw (at_is n k ∙ apart) refl
inserted_other n k v (x ∷ xs) apart =
    other_step (nat_lt k x.0) (k == x.0) n k v x xs refl refl apart (inserted_other n k v xs apart)
