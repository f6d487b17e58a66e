-- Lists of views.
use Rattle.std.proofs.Common.{
  ◌≡◌,
  ◌≢◌,
  ℕ,
  zero,
  suc,
  ◌+◌,
  ◌<◌,
  ◌≤◌,
  ◌⊎◌,
  List,
  [],
  ◌∷◌,
  ◌++◌,
  length,
  set,
  refl,
  ap,
  sym,
  ◌∙◌,
  subst,
  inl,
  inr,
  ⊎_elim,
  arith,
}
use mathlib.Core.Option.{some, some-ne-none, some-injective}
use lib.ListN.{get_elem?}
use Rattle.atomic_table.proofs.Lists.{at_set, at_snoc}
use Rattle.ssh_hub.specs.declared.history.Stage.{Stage}
use Rattle.ssh_hub.specs.declared.history.Stage.TheVariants.{Idle, Waiting, Inside, Leaving}
use Rattle.ssh_hub.specs.declared.history.View.{View}
use Rattle.ssh_hub.specs.Rule.{HasTicket, tickets_at, tickets_of, total, IsNamed, Apart}

pub total_set : (f : View → ℕ) (vs : List View) (i : ℕ) (v w : View) → get_elem? vs i ≡ some v
    → total f (set vs i w) + f v ≡ total f vs + f w
total_set f [] i v w e = absurd (some-ne-none v (sym e))
total_set f (x ∷ xs) zero v w e = let same = ap f (some-injective x v e) in omega arith
total_set f (x ∷ xs) (suc i) v w e = let rec = total_set f xs i v w e in omega arith

pub total_snoc : (f : View → ℕ) (vs : List View) (w : View) → total f (vs ++ w ∷ [])
    ≡ total f vs + f w
total_snoc f [] w = omega arith
total_snoc f (x ∷ xs) w = let rec = total_snoc f xs w in omega arith

tickets_le : (st : Stage) → tickets_at st ≤ 1
tickets_le Idle = omega arith
tickets_le (Waiting t) = omega arith
tickets_le (Inside t) = omega arith
tickets_le (Leaving t) = omega arith

pub total_below : (vs : List View) → total tickets_of vs ≤ length vs
total_below [] = omega arith
total_below (x ∷ xs) = let rec = total_below xs in let one = tickets_le x.stage in omega arith

-- what holds of the view at one place, and of the others as they were, holds of each
pub each_set : (P : View → Type 0) (vs : List View) (i : ℕ) (w : View) → P w
    → ((j : ℕ) (u : View) → j ≢ i → get_elem? vs j ≡ some u → P u) → (j : ℕ) (u : View)
    → get_elem? (set vs i w) j ≡ some u → P u
each_set P vs i w mine others j u e = ⊎_elim (λ (t : (j ≡ i) × (w ≡ u)). subst P t.1 mine)
    (λ (t : (j ≢ i) × (get_elem? vs j ≡ some u)). others j u t.0 t.1) (at_set vs i j w u e)

pub each_snoc : (P : View → Type 0) (vs : List View) (w : View) → P w
    → ((j : ℕ) (u : View) → get_elem? vs j ≡ some u → P u) → (j : ℕ) (u : View)
    → get_elem? (vs ++ w ∷ []) j ≡ some u → P u
each_snoc P vs w mine others j u e = ⊎_elim (λ (t : get_elem? vs j ≡ some u). others j u t)
    (λ (t : w ≡ u). subst P t mine) (at_snoc vs w u j e)

pub swapped : (v w : View) → Apart v w → Apart w v
swapped v w a = ((λ t x y. a.0 t y x), λ n x y. a.1 n y x)

-- a seat that has no more tickets and numbers than another had stays apart
pub less : (v w u : View) → ((t : ℕ) → HasTicket w.stage t → HasTicket v.stage t)
    → ((n : ℕ) → IsNamed w n → IsNamed v n) → Apart v u → Apart w u
less v w u f g a = ((λ t x y. a.0 t (f t x) y), λ n x y. a.1 n (g n x) y)

abbrev pub AllApart : List View → Type 0
AllApart vs = (i j : ℕ) (v w : View) → i ≢ j → get_elem? vs i ≡ some v → get_elem? vs j ≡ some w
    → Apart v w

pub apart_set : (vs : List View) (k : ℕ) (x : View) → ((j : ℕ) (u : View) → j ≢ k → get_elem? vs j
    ≡ some u → Apart x u) → AllApart vs → AllApart (set vs k x)
apart_set vs k x mine all i j v w ne at_i at_j =
    ⊎_elim
    (λ (a : (i ≡ k) × (x ≡ v)).
    ⊎_elim
    (λ (b : (j ≡ k) × (x ≡ w)). absurd (ne (a.0 ∙ sym b.0)))
    (λ (b : (j ≢ k) × (get_elem? vs j ≡ some w)). subst (λ (y : View). Apart y w) a.1
    (mine j w b.0 b.1))
    (at_set vs k j x w at_j))
    (λ (a : (i ≢ k) × (get_elem? vs i ≡ some v)).
    ⊎_elim
    (λ (b : (j ≡ k) × (x ≡ w)). subst (λ (y : View). Apart v y) b.1
    (swapped x v (mine i v a.0 a.1)))
    (λ (b : (j ≢ k) × (get_elem? vs j ≡ some w)). all i j v w ne a.1 b.1)
    (at_set vs k j x w at_j))
    (at_set vs k i x v at_i)

-- it stands before the end, or is the last one
at_end : (vs : List View) (x v : View) (j : ℕ) → get_elem? (vs ++ x ∷ []) j ≡ some v
    → (get_elem? vs j ≡ some v) ⊎ ((j ≡ length vs) × (x ≡ v))
at_end [] x v zero e = inr (refl, some-injective x v e)
at_end [] x v (suc j) e = absurd (some-ne-none v (sym e))
at_end (y ∷ ys) x v zero e = inl e
at_end (y ∷ ys) x v (suc j) e = ⊎_elim (λ t. inl t) (λ t. inr (ap suc t.0, t.1)) (at_end ys x v j e)

pub apart_snoc : (vs : List View) (x : View) → ((j : ℕ) (u : View) → get_elem? vs j ≡ some u
    → Apart x u) → AllApart vs → AllApart (vs ++ x ∷ [])
apart_snoc vs x mine all i j v w ne at_i at_j =
    ⊎_elim
    (λ (a : get_elem? vs i ≡ some v).
    ⊎_elim
    (λ (b : get_elem? vs j ≡ some w). all i j v w ne a b)
    (λ (b : (j ≡ length vs) × (x ≡ w)). subst (λ (y : View). Apart v y) b.1
    (swapped x v (mine i v a)))
    (at_end vs x w j at_j))
    (λ (a : (i ≡ length vs) × (x ≡ v)).
    ⊎_elim
    (λ (b : get_elem? vs j ≡ some w). subst (λ (y : View). Apart y w) a.1 (mine j w b))
    (λ (b : (j ≡ length vs) × (x ≡ w)). absurd (ne (a.0 ∙ sym b.0)))
    (at_end vs x w j at_j))
    (at_end vs x v i at_i)

pub at_within : (vs : List View) (i : ℕ) (v : View) → get_elem? vs i ≡ some v → i < length vs
at_within [] i v e = absurd (some-ne-none v (sym e))
at_within (x ∷ xs) zero v e = omega arith
at_within (x ∷ xs) (suc i) v e = let rec = at_within xs i v e in omega arith
