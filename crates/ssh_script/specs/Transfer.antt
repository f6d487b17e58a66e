-- What was read of a source, and what was written to a sink.
use Rattle.std.specs.Prelude.{◌≡◌, ◌≤◌, ℕ, List, ◌++◌, take, drop, Option, Some, None}
use Rattle.ssh_link.specs.Told.{Adds}

-- these are all bytes that were left, where the source tells them
abbrev pub IsAll : Option (List ℕ) → List ℕ → Type 0
IsAll None read = Unit {0}
IsAll (Some bytes) read = read ≡ bytes

-- these are the first bytes that were left, or all where they are fewer
abbrev pub IsFront : ℕ → Option (List ℕ) → List ℕ → Type 0
IsFront most None read = Unit {0}
IsFront most (Some bytes) read = read ≡ take most bytes

-- what is left behind the first bytes
abbrev pub left_behind : ℕ → Option (List ℕ) → Option (List ℕ)
left_behind count None = None
left_behind count (Some bytes) = Some (drop count bytes)

-- it was read to its end, or to this byte where it is longer
abbrev pub IsReadTo : ℕ → Option (List ℕ) → Option (List ℕ) → Type 0
IsReadTo byte left left' = left' ≡ left_behind byte left

-- it was read no further than to this byte
abbrev pub IsReadWithin : ℕ → Option (List ℕ) → Option (List ℕ) → Type 0
IsReadWithin byte left left' = (count : ℕ) × (count ≤ byte) × (left' ≡ left_behind count left)

-- these were read so far, and the others are left
abbrev pub IsRead : Option (List ℕ) → Option (List ℕ) → List ℕ → Type 0
IsRead None left' read = left' ≡ None
IsRead (Some bytes) left' read = (rest : List ℕ) × (left' ≡ Some rest) × (read ++ rest ≡ bytes)

-- what was read more stands behind the text
abbrev pub IsReadOn : Option (List ℕ) → Option (List ℕ) → List ℕ → List ℕ → Type 0
IsReadOn left left' text text' = (piece : List ℕ) × (text' ≡ text ++ piece)
    × IsRead left left' piece

-- a front of the text was written
abbrev pub AddsPart : Option (List ℕ) → Option (List ℕ) → List ℕ → Type 0
AddsPart held held' text = (sent rest : List ℕ) × (text ≡ sent ++ rest) × Adds held held' sent

-- the text was written but for this rest
abbrev pub IsWritten : Option (List ℕ) → Option (List ℕ) → List ℕ → List ℕ → Type 0
IsWritten held held' text rest = (sent : List ℕ) × (text ≡ sent ++ rest) × Adds held held' sent
