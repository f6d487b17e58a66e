-- What stands in a map after one change.
use Rattle.std.proofs.Common.{
  ◌≡◌,
  ◌≢◌,
  ℕ,
  Bool,
  true,
  false,
  cond,
  [],
  ◌∷◌,
  Option,
  Some,
  None,
  refl,
  ap,
  sym,
  ◌∙◌,
  subst,
}
use Rattle.std.specs.declared.cmp.Ordering.{Ordering}
use Rattle.std.specs.declared.cmp.Ordering.TheVariants.{Less, Equal, Greater}
use Rattle.std.specs.Cmp.{eq_by_cmp_equiv, nat_cmp_total}
use Rattle.std.specs.Option.{IsSome}
use Rattle.std.specs.Ordering.{nat_cmp, is_eq, match_ordering}
use Rattle.std.specs.BTreeMap.{is_at}
use Rattle.std.proofs.lemmas.Map.{lookup-set_value}
use Rattle.std.proofs.lemmas.Map.Lookups.{exact_unsigned}
use Rattle.ssh_hub.specs.World.{Map, find, with_new, with_changed}

same_at : (k : ℕ) → is_at (nat_cmp k) k ≡ true
same_at k = (eq_by_cmp_equiv nat_cmp_total).refl k

not_equal : (r : Ordering) → (r ≡ Equal → ⊥) → is_eq r ≡ false
not_equal Less f = refl
not_equal Equal f = absurd (f refl)
not_equal Greater f = refl

other_at : (d c : ℕ) → d ≢ c → is_at (nat_cmp d) c ≡ false
other_at d c ne = not_equal (nat_cmp d c) (λ e. ne (exact_unsigned d c e))

module _ {X : Type 0} where
  find_changed : (es : Map X) (d c : ℕ) (x v : X) → find d es ≡ Some x
      → find c (with_changed es d v) ≡ cond (is_at (nat_cmp d) c) (Some v) (find c es)
  find_changed es d c x v is = lookup-set_value (eq_by_cmp_equiv nat_cmp_total) (is_at (nat_cmp d))
      (λ a b t. (eq_by_cmp_equiv nat_cmp_total).congr d a b t) c v es (subst IsSome (sym is) refl)

  pub find_changed_here : (es : Map X) (d : ℕ) (x v : X) → find d es ≡ Some x
      → find d (with_changed es d v) ≡ Some v
  find_changed_here es d x v is = find_changed es d d x v is
      ∙ ap (λ (b : Bool). cond b (Some v) (find d es)) (same_at d)

  pub find_changed_else : (es : Map X) (d c : ℕ) (x v : X) → find d es ≡ Some x → d ≢ c
      → find c (with_changed es d v) ≡ find c es
  find_changed_else es d c x v is ne = find_changed es d c x v is
      ∙ ap (λ (b : Bool). cond b (Some v) (find c es)) (other_at d c ne)

  new_here : (o : Ordering) (d : ℕ) (v : X) (e : ℕ × X) (es : Map X) → nat_cmp d e.0 ≡ o
      → cond (is_eq o) (Some e.1) (find d es) ≡ None → (find d es ≡ None → find d (with_new es d v)
      ≡ Some v) → find d (match_ordering o ((d, v) ∷ e ∷ es) ((e.0, v) ∷ es) (e ∷ with_new es d v))
      ≡ Some v
  new_here Less d v e es is none rec = ap (λ (b : Bool). cond b (Some v) (find d (e ∷ es)))
      (same_at d)
  new_here Equal d v e es is none rec = absurd (cc none)
  new_here Greater d v e es is none rec =
      ap (λ (r : Ordering). cond (is_eq r) (Some e.1) (find d (with_new es d v))) is ∙ rec none

  pub find_new_here : (es : Map X) (d : ℕ) (v : X) → find d es ≡ None → find d (with_new es d v)
      ≡ Some v
  find_new_here [] d v none = ap (λ (b : Bool). cond b (Some v) None) (same_at d)
  find_new_here (e ∷ es) d v none = new_here (nat_cmp d e.0) d v e es refl none
      (λ n. find_new_here es d v n)

  new_else : (o : Ordering) (d c : ℕ) (v : X) (e : ℕ × X) (es : Map X) → d ≢ c
      → cond (is_eq o) (Some e.1) (find d es) ≡ None → (find d es ≡ None → find c (with_new es d v)
      ≡ find c es) → find c (match_ordering o ((d, v) ∷ e ∷ es) ((e.0, v) ∷ es)
      (e ∷ with_new es d v)) ≡ find c (e ∷ es)
  new_else Less d c v e es ne none rec = ap (λ (b : Bool). cond b (Some v) (find c (e ∷ es)))
      (other_at c d (λ q. ne (sym q)))
  new_else Equal d c v e es ne none rec = absurd (cc none)
  new_else Greater d c v e es ne none rec =
      ap (λ (o : Option X). cond (is_at (nat_cmp c) e.0) (Some e.1) o) (rec none)

  pub find_new_else : (es : Map X) (d c : ℕ) (v : X) → find d es ≡ None → d ≢ c
      → find c (with_new es d v) ≡ find c es
  find_new_else [] d c v none ne = ap (λ (b : Bool). cond b (Some v) None)
      (other_at c d (λ q. ne (sym q)))
  find_new_else (e ∷ es) d c v none ne = new_else (nat_cmp d e.0) d c v e es ne none
      (λ n. find_new_else es d c v n ne)
