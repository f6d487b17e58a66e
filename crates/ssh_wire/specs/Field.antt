-- The fields that messages are made of (RFC 4251 section 5).
use Rattle.std.specs.Prelude.{◌≡◌, ◌+◌, ◌<◌, ◌^◌, ◌==◌, ◌⊎◌, ℕ, Bool, not, List, [], ◌∷◌, ◌++◌}
use Rattle.std.specs.Prelude.{length, take, IsUtf8}
use Rattle.std.specs.Int.{w32, w64, to_be_bytes, from_be_bytes}
use Rattle.ssh_wire.specs.declared.error.WireError.{WireError}
use Rattle.ssh_wire.specs.declared.error.WireError.TheVariants as error

-- a number of four bytes, the high one first
abbrev pub number : ℕ → List ℕ
number n = to_be_bytes w32 n

-- a string: its length, then its bytes
abbrev pub string : List ℕ → List ℕ
string bytes = number (length bytes) ++ bytes

pub data Field : Type 0 where
  -- one byte
  Byte : Field
  -- one byte, which is false exactly at 0
  Flag : Field
  -- four bytes, the high one first
  Number : Field
  -- eight bytes, the high one first
  Long : Field
  -- a length of four bytes, then as many bytes
  Bytes : Field
  -- the same, and the bytes are UTF-8
  Text : Field

-- what a field says
abbrev pub Value : Field → Type 0
Value Byte = ℕ
Value Flag = Bool
Value Number = ℕ
Value Long = ℕ
Value Bytes = List ℕ
Value Text = List ℕ

-- these bytes spell this value
abbrev pub Spells : (field : Field) → Value field → List ℕ → Type 0
Spells Byte n bytes = (n < 256) × (bytes ≡ n ∷ [])
Spells Flag flag bytes = (n : ℕ) × (n < 256) × (bytes ≡ n ∷ []) × (flag ≡ not (n == 0))
Spells Number n bytes = (n < 2 ^ 32) × (bytes ≡ number n)
Spells Long n bytes = (n < 2 ^ 64) × (bytes ≡ to_be_bytes w64 n)
Spells Bytes text bytes = (length text < 2 ^ 32) × (bytes ≡ string text)
Spells Text text bytes = (length text < 2 ^ 32) × (bytes ≡ string text) × IsUtf8 text

-- a string's length is not there, or is more than what follows it
abbrev pub IsCutShort : List ℕ → Type 0
IsCutShort bytes = (length bytes < 4) ⊎ (length bytes < 4 + from_be_bytes w32 (take 4 bytes))

-- fewer bytes are left than the field has
abbrev pub IsShort : Field → List ℕ → Type 0
IsShort Byte bytes = bytes ≡ []
IsShort Flag bytes = bytes ≡ []
IsShort Number bytes = length bytes < 4
IsShort Long bytes = length bytes < 8
IsShort Bytes bytes = IsCutShort bytes
IsShort Text bytes = IsCutShort bytes

-- a whole string comes first, and it is not UTF-8
abbrev pub IsNoText : List ℕ → Type 0
IsNoText bytes = (text rest : List ℕ) × (length text < 2 ^ 32) × (bytes ≡ string text ++ rest)
    × (IsUtf8 text → ⊥)

-- the bytes do not begin with this field, for this reason
abbrev pub Misfits : Field → List ℕ → WireError → Type 0
Misfits field bytes error.Short = IsShort field bytes
Misfits Text bytes error.NotUtf8 = IsNoText bytes
Misfits _ bytes _ = ⊥

-- fields one after another, and what they say
abbrev pub Values : List Field → Type 0
Values [] = Unit {0}
Values (field ∷ fields) = Value field × Values fields

-- the bytes are the spellings of these fields, and then this rest
abbrev pub SpellsAll : (fields : List Field) → Values fields → List ℕ → List ℕ → Type 0
SpellsAll [] values bytes rest = bytes ≡ rest
SpellsAll (field ∷ fields) values bytes rest =
    (piece after : List ℕ) × Spells field values.0 piece × (bytes ≡ piece ++ after)
    × SpellsAll fields values.1 after rest

-- the first of these fields that does not fit, for this reason
abbrev pub MisfitsAll : List Field → List ℕ → WireError → Type 0
MisfitsAll [] bytes why = ⊥
MisfitsAll (field ∷ fields) bytes why =
    Misfits field bytes why
    ⊎ ((value : Value field) × (piece after : List ℕ) × Spells field value piece
    × (bytes ≡ piece ++ after) × MisfitsAll fields after why)

-- the bytes are these fields and nothing else
abbrev pub SpellsWhole : (fields : List Field) → Values fields → List ℕ → Type 0
SpellsWhole fields values bytes = SpellsAll fields values bytes []

-- the first of these fields that does not fit, or bytes follow the last
abbrev pub MisfitsWhole : List Field → List ℕ → WireError → Type 0
MisfitsWhole [] bytes why = (bytes ≡ [] → ⊥) × (why ≡ error.Trailing (length bytes))
MisfitsWhole (field ∷ fields) bytes why =
    Misfits field bytes why
    ⊎ ((value : Value field) × (piece after : List ℕ) × Spells field value piece
    × (bytes ≡ piece ++ after) × MisfitsWhole fields after why)
