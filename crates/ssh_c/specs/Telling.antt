-- What stands in the bytes that a caller lends.
use Rattle.std.specs.Prelude.{◌≡◌, ℕ, List, take, length}
use Rattle.ssh_link.specs.declared.link.TraceEntry.{TraceEntry}
use Rattle.ssh_link.specs.declared.link.TraceEntry.TheVariants.{Sent}

-- the bytes begin with these
abbrev pub IsAtStart : (piece bytes : List ℕ) → Type 0
IsAtStart piece bytes = take (length piece) bytes ≡ piece

-- a frame's payload stands at the start of these bytes, and this is its length
abbrev pub Carries : TraceEntry → (bytes : List ℕ) → (count : ℕ) → Type 0
Carries (Sent frame) bytes count =
    IsAtStart frame.payload bytes × (count ≡ length frame.payload)
Carries entry bytes count = Unit {0}
