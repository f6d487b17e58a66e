-- What bytes say that are laid out as these fields, field by field.
use Rattle.std.specs.Prelude.{◌+◌, ◌&&◌, ◌==◌, not, ℕ, zero, suc, Bool, true, false, List, [], ◌∷◌}
use Rattle.std.specs.Prelude.{length, take}
use Rattle.std.specs.Prelude.{drop, nat_le, if◌then◌else◌, Option, Some, None, option_map, bit_and}
use Rattle.std.specs.Option.{option_and_then}
use Rattle.std.specs.Int.{w32, w64, from_be_bytes}
use Rattle.ssh_wire.specs.Field.{Field, Number, Long, Bytes, Value, Values}

-- the number that the first four bytes spell
abbrev pub said : List ℕ → ℕ
said bytes = from_be_bytes w32 (take 4 bytes)

-- what the field in front says, and what follows it; no packet here has other fields than these
abbrev pub first_of : (field : Field) → List ℕ → Option (Value field × List ℕ)
first_of Number bytes =
    if nat_le 4 (length bytes) then Some (said bytes, drop 4 bytes) else None
first_of Long bytes =
    if nat_le 8 (length bytes) then Some (from_be_bytes w64 (take 8 bytes), drop 8 bytes) else None
first_of Bytes bytes =
    if nat_le 4 (length bytes) && nat_le (4 + said bytes) (length bytes)
    then Some (take (said bytes) (drop 4 bytes), drop (4 + said bytes) bytes)
    else None
first_of _ bytes = None

-- what all the fields say, and that nothing follows the last
abbrev pub decoded : (fields : List Field) → List ℕ → Option (Values fields)
decoded [] [] = Some tt
decoded [] (byte ∷ bytes) = None
decoded (field ∷ fields) bytes = elim (first_of field bytes) [
  | None ↦ None
  | Some found ↦ option_map (λ values. (found.0, values)) (decoded fields found.1)
]

-- what follows these fields, whatever they say
abbrev pub past : List Field → List ℕ → Option (List ℕ)
past [] bytes = Some bytes
past (field ∷ fields) bytes = option_and_then (λ found. past fields found.1) (first_of field bytes)

-- ---- the attributes of a file, which are read and not used (section 5)

-- whether a flag is set
abbrev pub has : (flags flag : ℕ) → Bool
has flags flag = not (bit_and flags flag == 0)

-- what follows fields that are there where their flag is set
abbrev pub past_where : Bool → List Field → List ℕ → Option (List ℕ)
past_where true fields bytes = past fields bytes
past_where false fields bytes = Some bytes

-- what follows so many pairs of strings
abbrev pub past_pairs : (count : ℕ) → List ℕ → Option (List ℕ)
past_pairs zero bytes = Some bytes
past_pairs (suc count) bytes =
    option_and_then (past_pairs count) (past (Bytes ∷ Bytes ∷ []) bytes)

-- what follows the extended attributes: a count, and so many names, each with its data
abbrev pub past_extended : (is_there : Bool) → List ℕ → Option (List ℕ)
past_extended false bytes = Some bytes
past_extended true bytes =
    option_and_then (λ found. past_pairs found.0 found.1) (first_of Number bytes)

-- by the flags: uint64 size, uint32 user and group, uint32 permissions, uint32 times of access and
-- of change, extended attributes
abbrev pub past_flagged : (flags : ℕ) → List ℕ → Option (List ℕ)
past_flagged flags bytes =
    option_and_then (past_extended (has flags 0x8000_0000))
    (option_and_then (past_where (has flags 8) (Number ∷ Number ∷ []))
    (option_and_then (past_where (has flags 4) (Number ∷ []))
    (option_and_then (past_where (has flags 2) (Number ∷ Number ∷ []))
    (past_where (has flags 1) (Long ∷ []) bytes))))

-- what follows the attributes: uint32 flags, and what they say is there
abbrev pub past_attributes : List ℕ → Option (List ℕ)
past_attributes bytes =
    option_and_then (λ found. past_flagged found.0 found.1) (first_of Number bytes)
