-- What reading and writing does to the bytes that are left and held.
use Rattle.std.specs.Prelude.{◌≡◌, ◌≤◌, ℕ, List, [], take, drop, length, Option, Some, None}

-- as many bytes came from the front of what was left to the front of the buffer
abbrev pub Takes : Option (List ℕ) → Option (List ℕ) → ℕ → List ℕ → Type 0
Takes None new count buffer = new ≡ None
Takes (Some bytes) new count buffer =
    (new ≡ Some (drop count bytes)) × (count ≤ length bytes)
    × (take count buffer ≡ take count bytes)

-- no byte is left, where it is told
abbrev pub AtEnd : Option (List ℕ) → Type 0
AtEnd None = Unit {0}
AtEnd (Some bytes) = bytes ≡ []

-- a reader or a writer, and how often it has failed
pub record Counted (T : Type 0) : Type 0 where
  pub inner : T
  pub faults : ℕ
