-- Counts that some keep, from one call to the next.
use Rattle.std.proofs.Common.{◌≡◌, ◌<◌, ◌≤◌, ◌+◌, ◌^◌, ℕ, Option, Some, None, refl, sym, subst}
use Rattle.std.proofs.Common.{◌⊎◌, inl, inr, arith}
use Rattle.ssh_link.specs.Faults.{NeverFalls, RoseIfKept, RoseOrFull}

pub still_counted : (a : Option ℕ) → NeverFalls a a
still_counted None = refl
still_counted (Some x) = omega arith

pub counted_same : (a b : Option ℕ) → b ≡ a → NeverFalls a b
counted_same a b same = subst (NeverFalls a) (sym same) (still_counted a)

pub counted_both : (a b c : Option ℕ) → NeverFalls a b → NeverFalls b c → NeverFalls a c
counted_both None b c h k = subst (λ x. NeverFalls x c) h k
counted_both (Some x) None c h k = absurd h
counted_both (Some x) (Some y) None h k = absurd k
counted_both (Some x) (Some y) (Some z) h k = omega (arith, h, k)

-- a count that rose later, rose from before
later_full : (x y z : ℕ) → x ≤ y → RoseOrFull y z → RoseOrFull x z
later_full x y z h (inl rose) = inl (omega (arith, h, rose))
later_full x y z h (inr full) = inr full

pub rose_later : (a b c : Option ℕ) → NeverFalls a b → RoseIfKept b c → RoseIfKept a c
rose_later None b c h k = tt
rose_later (Some x) None c h k = absurd h
rose_later (Some x) (Some y) None h k = absurd k
rose_later (Some x) (Some y) (Some z) h k = later_full x y z h k
