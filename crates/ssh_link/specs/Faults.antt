-- Counts of what failed, and how they go.
use Rattle.std.specs.Prelude.{◌≡◌, ◌<◌, ◌≤◌, ◌+◌, ◌-◌, ◌^◌, ◌⊎◌, ℕ, min, Option, Some, None}
use Rattle.std.specs.Prelude.{IsSomeAnd}

-- a count of faults rose
abbrev pub Rose : ℕ → ℕ → Type 0
Rose faults faults' = faults < faults'

-- it rose, or it is full and stands still
abbrev pub RoseOrFull : ℕ → ℕ → Type 0
RoseOrFull faults faults' = (faults < faults') ⊎ (2 ^ 64 ≤ faults' + 1)

-- a count after one more, which stands still at its end
abbrev pub one_more : ℕ → ℕ
one_more count = min (count + 1) (2 ^ 64 - 1)

-- a count that some keep: whoever keeps it goes on keeping it, and it never falls; whoever keeps
-- none keeps none later
abbrev pub NeverFalls : Option ℕ → Option ℕ → Type 0
NeverFalls None count = count ≡ None
NeverFalls (Some before) count = IsSomeAnd count (λ after. before ≤ after)

-- .. and it rose; of one that nobody keeps nothing is said
abbrev pub RoseIfKept : Option ℕ → Option ℕ → Type 0
RoseIfKept None count = Unit {0}
RoseIfKept (Some before) count = IsSomeAnd count (λ after. RoseOrFull before after)
