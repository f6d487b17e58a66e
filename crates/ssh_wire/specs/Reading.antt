-- What a reader shows, and what reading a field does to it.
use Rattle.std.specs.Prelude.{◌≡◌, ◌+◌, ℕ, List, ◌++◌, length}
use Rattle.ssh_wire.specs.Field.{Field, Value, Spells, Values, SpellsAll}

-- how many bytes were read, and the bytes that are left
pub record Reading : Type 0 where
  pub position : ℕ
  pub left : List ℕ

-- the reader was moved past these bytes
abbrev pub Passes : Reading → Reading → List ℕ → Type 0
Passes old new piece = (old.left ≡ piece ++ new.left) × (new.position ≡ old.position + length piece)

-- the reader was moved past a field that says this
abbrev pub Reads : (field : Field) → Reading → Reading → Value field → Type 0
Reads field old new value = (piece : List ℕ) × Spells field value piece × Passes old new piece

-- the reader was moved on, and what is left is all that comes after its new place
abbrev pub MovesOn : Reading → Reading → Type 0
MovesOn old new = new.position + length new.left ≡ old.position + length old.left

-- the reader was moved past these fields, which say this
abbrev pub ReadsAll : (fields : List Field) → Reading → Reading → Values fields → Type 0
ReadsAll fields old new values = SpellsAll fields values old.left new.left × MovesOn old new
