-- Signature fields that do not fit, and the part of a request that a signature covers.
use Rattle.std.proofs.Common.{◌≡◌, ◌⊎◌, ℕ, ◌-◌, List, [], ◌∷◌, ◌++◌, length, take, Result, Ok, Err}
use Rattle.std.proofs.Common.{IsErrAnd, MatchResult, inl, inr, refl, sym, ◌∙◌, ap, subst}
use Rattle.std.specs.Prelude.{◌==◌, not}
use Rattle.std.proofs.Common.{append_assoc, arith, length-append}
use Rattle.std.proofs.Math.Seq.{take-append_seam}
use Rattle.ssh_wire.specs.declared.error.WireError.{WireError}
use Rattle.ssh_wire.specs.declared.error.WireError.TheVariants.{Trailing}
use Rattle.ssh_wire.specs.Field.{Field, Byte, Bytes, Flag, Value, Values, SpellsAll}
use Rattle.ssh_wire.specs.Reading.{Reading, Reads}
use Rattle.ssh_keys.specs.declared.error.KeyError.{KeyError}
use Rattle.ssh_keys.specs.declared.error.KeyError.TheVariants.{Blob, NoMemory}
use Rattle.ssh_keys.specs.declared.signature.Signature.{Signature}
use Rattle.ssh_keys.specs.Keys.{LacksFields}
use Rattle.ssh_keys.specs.Signatures.{signature_fields, EndsInSignature}
use Rattle.ssh_auth.specs.declared.error.AuthError.{AuthError}
use Rattle.ssh_auth.specs.Failure.{auth_error_of, auth_error_of_key}
use Rattle.ssh_auth.specs.Publickey.{MisfitsSignature}
use Rattle.ssh_auth.specs.Read.{SignatureFails}

-- a field that was read from the front of these bytes
pub field_first : (field : Field) (old new : Reading) (bytes : List ℕ) (value : Value field)
    → old.left ≡ bytes → Reads field old new value → SpellsAll (field ∷ []) (value, tt) bytes
    new.left
field_first field old new bytes value is read =
    subst (λ b. SpellsAll (field ∷ []) (value, tt) b new.left) is (
      read.0,
      new.left,
      read.1,
      read.2.0,
      refl,
    )

-- a byte that was read is a flag, too
pub flag_read : (old new : Reading) (byte : ℕ) → Reads Byte old new byte
    → Reads Flag old new (not (byte == 0))
flag_read old new byte read = (read.0, (byte, read.1.0, read.1.1, refl), read.2)

-- a flag that was read from the front of these bytes
pub flag_first : (old new : Reading) (bytes : List ℕ) (byte : ℕ) → old.left ≡ bytes
    → Reads Byte old new byte → SpellsAll (Flag ∷ []) (not (byte == 0), tt) bytes new.left
flag_first old new bytes byte is read =
    field_first Flag old new bytes (not (byte == 0)) is (flag_read old new byte read)

-- a signature field that holds no signature
pub no_signature : {E : Type 0} (result : Result Signature (AuthError E)) (e : KeyError)
    (bytes inner after : List ℕ) → IsErrAnd result (λ x. x ≡ auth_error_of_key e) →
    (e ≡ NoMemory) ⊎ ((e ≡ Blob) × LacksFields signature_fields inner) → SpellsAll (Bytes ∷ [])
    (inner, tt) bytes after →
    MatchResult result (λ signature. EndsInSignature signature bytes) (SignatureFails bytes)
no_signature (Ok signature) e bytes inner after is why s = absurd is
no_signature {E} (Err x) e bytes inner after is (inl memory) s = subst (SignatureFails bytes)
    (sym (is ∙ ap (λ k. auth_error_of_key {E = E} k) memory)) tt
no_signature {E} (Err x) e bytes inner after is (inr lacks) s = subst (SignatureFails bytes)
    (sym (is ∙ ap (λ k. auth_error_of_key {E = E} k) lacks.0)) (refl, (inner, after, s, lacks.1))

-- bytes that follow a signature, in its field or after it
pub more_than_signature : {E : Type 0} (result : Result Signature (AuthError E)) (why : WireError)
    (left : ℕ) (bytes : List ℕ) → IsErrAnd result (λ x. x ≡ auth_error_of why) →
    why ≡ Trailing left → MisfitsSignature bytes (Trailing left)
    → MatchResult result (λ signature. EndsInSignature signature bytes) (SignatureFails bytes)
more_than_signature (Ok signature) why left bytes is trailing h = absurd is
more_than_signature {E} (Err x) why left bytes is trailing h = subst (SignatureFails bytes)
    (sym (is ∙ ap (λ w. auth_error_of {E = E} w) trailing)) h

-- fields stand before their rest
pub spells_front : (fields : List Field) (values : Values fields) (bytes rest : List ℕ)
    → SpellsAll fields values bytes rest → (front : List ℕ) × (bytes ≡ front ++ rest)
spells_front [] values bytes rest h = ([], h)
spells_front (field ∷ fields) values bytes rest h =
    let more = spells_front fields values.1 h.1 rest h.4 in
    (h.0 ++ more.0, h.3 ∙ ap (λ x. h.0 ++ x) more.1 ∙ sym (append_assoc h.0 more.0 rest))

-- the payload up to a rest, whatever its length, is what stands before that rest
pub up_to_rest : (payload before rest : List ℕ) → payload ≡ before ++ rest
    → take (length payload - length rest) payload ≡ before
up_to_rest payload before rest is =
    let size : length payload - length rest ≡ length before = omega (
      arith,
      ap length is,
      length-append before rest,
    ) in
    ap (λ n. take n payload) size ∙ ap (λ x. take (length before) x) is ∙ take-append_seam before
    rest
