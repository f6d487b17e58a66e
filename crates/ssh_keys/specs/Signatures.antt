-- Signatures as they stand in messages and certificates (RFC 4253 section 6.6).
use Rattle.std.specs.Prelude.{ℕ, List, [], ◌∷◌}
use Rattle.ssh_wire.specs.Field.{Field, Text, Bytes, SpellsAll, SpellsWhole}
use Rattle.ssh_keys.specs.declared.signature.Signature.{Signature}

-- the name of the algorithm, the signature's own bytes
abbrev pub signature_fields : List Field
signature_fields = Text ∷ Bytes ∷ []

-- the bytes up to this rest are the signature
abbrev pub SpellsSignature : Signature → (bytes rest : List ℕ) → Type 0
SpellsSignature signature bytes rest =
    SpellsAll signature_fields (signature.name, (signature.blob, tt)) bytes rest

-- the bytes are one string, which holds the signature and nothing else
abbrev pub EndsInSignature : Signature → List ℕ → Type 0
EndsInSignature signature bytes = (inner : List ℕ) × SpellsWhole (Bytes ∷ []) (inner, tt) bytes
    × SpellsSignature signature inner []

-- the bytes are no such string
abbrev pub LacksSignature : List ℕ → Type 0
LacksSignature bytes = (signature : Signature) → EndsInSignature signature bytes → ⊥
