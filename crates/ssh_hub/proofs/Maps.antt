-- Maps after one change.
use Rattle.std.proofs.Common.{◌≡◌, ℕ, Bool, cond, [], ◌∷◌, Some, None, ap, refl, true, ◌∙◌}
use Rattle.std.specs.declared.cmp.Ordering.{Ordering}
use Rattle.std.specs.declared.cmp.Ordering.TheVariants.{Less, Equal, Greater}
use Rattle.std.specs.Cmp.{eq_by_cmp_equiv, nat_cmp_total}
use Rattle.std.specs.Ordering.{nat_cmp, is_eq, match_ordering}
use Rattle.ssh_hub.specs.World.{Map, find, with_new, without}

same_key : (k : ℕ) → is_eq (nat_cmp k k) ≡ true
same_key k = (eq_by_cmp_equiv nat_cmp_total).refl k

module _ {X : Type 0} where
  -- a key that was not there and is taken out again
  gone_again : (o : Ordering) (k : ℕ) (v : X) (e : ℕ × X) (es : Map X) → nat_cmp k e.0 ≡ o
      → cond (is_eq o) (Some e.1) (find k es) ≡ None
      → (find k es ≡ None → without k (with_new es k v) ≡ es)
      → without k (match_ordering o ((k, v) ∷ e ∷ es) ((e.0, v) ∷ es) (e ∷ with_new es k v)) ≡ e
      ∷ es
  gone_again Less k v e es is none rec =
      ap (λ (b : Bool). cond b (e ∷ es) ((k, v) ∷ without k (e ∷ es))) (same_key k)
  gone_again Equal k v e es is none rec = absurd (cc none)
  gone_again Greater k v e es is none rec = ap (λ (r : Ordering). cond (is_eq r) (with_new es k v)
      (e ∷ without k (with_new es k v))) is ∙ ap (λ (l : Map X). e ∷ l) (rec none)

  pub without_new : (k : ℕ) (es : Map X) (v : X) → find k es ≡ None → without k (with_new es k v)
      ≡ es
  without_new k [] v none = ap (λ (b : Bool). cond b [] ((k, v) ∷ [])) (same_key k)
  without_new k (e ∷ es) v none = gone_again (nat_cmp k e.0) k v e es refl none
      (λ n. without_new k es v n)
