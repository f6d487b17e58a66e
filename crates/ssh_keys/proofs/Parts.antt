-- What a certificate's blob is, part by part.
use Rattle.std.proofs.Common.{◌≡◌, ◌⊎◌, ◌+◌, inl, inr, ℕ, List, [], ◌∷◌, ◌++◌, length, take, Result}
use Rattle.std.proofs.Common.{Ok, Err, IfErr, ap, sym, ◌∙◌, subst, arith, append_assoc}
use Rattle.std.proofs.Common.{length-append}
use Rattle.std.proofs.Math.Seq.{take-append_seam}
use Rattle.ssh_wire.specs.Field.{Field, Text, Bytes, Values, SpellsAll}
use Rattle.ssh_wire.specs.Reading.{Reading, Reads, MovesOn}
use Rattle.ssh_keys.specs.Keys.{certificate_type_name, type_of, SpellsName, IsKey, FailsType}
use Rattle.ssh_keys.specs.Keys.{key_fields, key_values}
use Rattle.ssh_keys.specs.Signatures.{EndsInSignature}
use Rattle.ssh_keys.specs.Certificates.{SpellsCertified, certified, IsCertificate, FailsSigned}
use Rattle.ssh_keys.specs.Certificates.{FailsCertified, FailsCertificate, identity_fields}
use Rattle.ssh_keys.specs.Certificates.{validity_fields, option_fields, cert_type_number}
use Rattle.ssh_keys.specs.declared.certificate.Certificate.{Certificate}
use Rattle.ssh_keys.specs.declared.certificate.Certified.{Certified}
use Rattle.ssh_keys.specs.declared.error.KeyError.{KeyError}
use Rattle.ssh_keys.specs.declared.error.KeyError.TheVariants.{NoMemory}
use Rattle.ssh_keys.specs.declared.key_type.KeyType.{KeyType}
use Rattle.ssh_keys.specs.declared.public_key.PublicKey.{PublicKey}
use Rattle.ssh_keys.specs.declared.signature.Signature.{Signature}

-- ---- refusals

-- why a part is refused is why the whole is
pub mapped : {T : Type 0} (r : Result T KeyError) (P Q : KeyError → Type 0)
    → IfErr r (λ e. (e ≡ NoMemory) ⊎ P e)
    → ((e : KeyError) → P e → Q e) → IfErr r (λ e. (e ≡ NoMemory) ⊎ Q e)
mapped (Ok x) P Q refused to = tt
mapped (Err e) P Q refused to =
    elim refused [
      | inl memory ↦ inl memory
      | inr why ↦ inr (to e why)
    ]

pub fails_type : (start blob : List ℕ) (e : KeyError) → start ≡ blob
    → FailsType certificate_type_name start e → FailsCertificate blob e
fails_type start blob e from fails =
    inl (subst (λ x. FailsType certificate_type_name x e) from fails)

pub fails_after_type : (type : KeyType) (start blob after : List ℕ) (e : KeyError) → start ≡ blob
    → SpellsName (certificate_type_name type) start after
    → FailsCertified type after e → FailsCertificate blob e
fails_after_type type start blob after e from named fails =
    inr (
      type,
      after,
      subst (λ x. SpellsName (certificate_type_name type) x after) from named,
      fails,
    )

pub fails_after_certified : (type : KeyType) (part : Certified) (start blob a b : List ℕ)
    (e : KeyError) → start ≡ blob
    → SpellsName (certificate_type_name type) start a → type_of part.public_key ≡ type
    → SpellsCertified part a b → FailsSigned b e → FailsCertificate blob e
fails_after_certified type part start blob a b e from named is spelled fails =
    fails_after_type type start blob a e from named (inr (part, b, is, spelled, fails))

-- ---- what was read

-- the first list ends in the second
abbrev EndsIn : (bytes rest : List ℕ) → Type 0
EndsIn bytes rest = (front : List ℕ) × (bytes ≡ front ++ rest)

ends_then : (a b c : List ℕ) → EndsIn a b → EndsIn b c → EndsIn a c
ends_then a b c first second = (
  first.0 ++ second.0,
  first.1 ∙ ap (λ x. first.0 ++ x) second.1
      ∙ sym (append_assoc first.0 second.0 c),
)

fields_end : (fields : List Field) (values : Values fields) (bytes rest : List ℕ)
    → SpellsAll fields values bytes rest → EndsIn bytes rest
fields_end [] values bytes rest s = ([], s)
fields_end (field ∷ fields) values bytes rest s =
    ends_then bytes s.1 rest (s.0, s.3) (fields_end fields values.1 s.1 rest s.4)

certified_ends : (part : Certified) (bytes rest : List ℕ) → SpellsCertified part bytes rest
    → EndsIn bytes rest
certified_ends part bytes rest s =
    ends_then bytes s.0 rest (fields_end (Bytes ∷ []) (part.nonce, tt) bytes s.0 s.4)
    (ends_then s.0 s.1 rest (fields_end (key_fields (type_of part.public_key))
    (key_values part.public_key) s.0 s.1 s.5)
    (ends_then s.1 s.2 rest
    (fields_end identity_fields (
      part.identity.serial,
      (
        cert_type_number part.identity.cert_type,
        (part.identity.key_id, (part.identity.valid_principals, tt)),
      ),
    ) s.1 s.2 s.6)
    (ends_then s.2 s.3 rest (fields_end validity_fields
    (part.validity.valid_after, (part.validity.valid_before, tt)) s.2 s.3 s.7)
    (fields_end option_fields (
      part.options.critical_options,
      (part.options.extensions, (part.options.reserved, tt)),
    ) s.3 rest s.8))))

front_of : (bytes rest front : List ℕ) (n : ℕ) → bytes ≡ front ++ rest → n ≡ length front
    → bytes ≡ take n bytes ++ rest
front_of bytes rest front n is count =
    is ∙ ap (λ x. x ++ rest) (sym (take-append_seam front rest))
    ∙ ap (λ m. take m (front ++ rest) ++ rest) (sym count)
    ∙ ap (λ x. take n x ++ rest) (sym is)

-- the bytes up to the place that was reached are the signed part
pub signed_part : (type : KeyType) (part : Certified) (key blob a b c : List ℕ) (n : ℕ)
    → SpellsName (certificate_type_name type) blob a
    → SpellsCertified part a b → SpellsAll (Bytes ∷ []) (key, tt) b c → n + length c ≡ length blob
    → blob ≡ take n blob ++ c
signed_part type part key blob a b c n named spelled string count =
    let whole =
    ends_then blob a c (fields_end (Text ∷ []) (certificate_type_name type, tt) blob a named)
    (ends_then a b c (certified_ends part a b spelled)
    (fields_end (Bytes ∷ []) (key, tt) b c string)) in
    front_of blob c whole.0 n whole.1 (omega (arith, ap length whole.1, length-append whole.0 c))

pub is_certificate : (certificate : Certificate) (part : Certified) (type : KeyType)
    (public : PublicKey) (signature : Signature) (signed blob key a b c : List ℕ)
    → certified certificate ≡ part → certificate.signature_key ≡ public
    → certificate.signature ≡ signature → certificate.signed ≡ signed
    → SpellsName (certificate_type_name type) blob a → type_of part.public_key ≡ type
    → SpellsCertified part a b → SpellsAll (Bytes ∷ []) (key, tt) b c
    → IsKey public key → blob ≡ signed ++ c → EndsInSignature signature c
    → IsCertificate certificate blob
is_certificate certificate part type public signature signed blob key a b c of-part of-key
    of-signature of-signed named typed spelled string is-key front ends =
    let types : type ≡ type_of certificate.public_key =
    sym typed ∙ ap (λ p. type_of p.public_key) (sym of-part) in (
      key,
      a,
      b,
      c,
      subst (λ t. SpellsName (certificate_type_name t) blob a) types named,
      subst (λ p. SpellsCertified p a b) (sym of-part) spelled,
      string,
      subst (λ k. IsKey k key) (sym of-key) is-key,
      front ∙ ap (λ x. x ++ c) (sym of-signed),
      subst (λ s. EndsInSignature s c) (sym of-signature) ends,
    )

-- how far was read: the type, what is certified, and a string
pub reached : (r a b c : Reading) (blob key : List ℕ) (n : ℕ) → r.position ≡ 0 → r.left ≡ blob
    → MovesOn r a → MovesOn a b → Reads Bytes b c key
    → n ≡ c.position → n + length c.left ≡ length blob
reached r a b c blob key n begin from first second read is =
    omega (arith, ap length from, ap length read.2.0, length-append read.0 c.left, read.2.1)
