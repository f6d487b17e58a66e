-- Reading the blob of a certificate has one answer.
use Rattle.std.proofs.Common.{◌≡◌, ◌⊎◌, inl, inr, ℕ, List, [], ◌∷◌, Result, Ok, Err, IfOk, IfErr}
use Rattle.std.proofs.Common.{ap, sym, ◌∙◌, subst}
use Rattle.ssh_wire.specs.Field.{Bytes, SpellsAll}
use Rattle.ssh_wire.proofs.Fields.{spells_all_once}
use Rattle.ssh_keys.specs.Keys.{type_name, certificate_type_name, type_of, IsKey}
use Rattle.ssh_keys.specs.Signatures.{EndsInSignature}
use Rattle.ssh_keys.specs.Certificates.{SpellsCertified, certified, IsCertificate}
use Rattle.ssh_keys.specs.Certificates.{HasCertificateType, FailsSignatureKey, FailsSigned}
use Rattle.ssh_keys.specs.Certificates.{FailsCertified, FailsCertificate, DecodesCertificate}
use Rattle.ssh_keys.specs.declared.certificate.Certificate.{Certificate}
use Rattle.ssh_keys.specs.declared.error.KeyError.{KeyError}
use Rattle.ssh_keys.specs.declared.error.KeyError.TheVariants.{NoMemory}
use Rattle.ssh_keys.specs.declared.key_type.KeyType.{KeyType}
use Rattle.ssh_keys.specs.declared.public_key.PublicKey.{PublicKey}
use Rattle.ssh_keys.proofs.Agreement.{certificate_type_once, apart, certified_once}
use Rattle.ssh_keys.proofs.Agreement.{certificates_agree}
use Rattle.ssh_keys.proofs.Blobs.{one_name, begins, type_is_known, key_never_fails}
use Rattle.ssh_keys.proofs.Once.{type_fails_once, key_fails_once}

one_string : (s t bytes a b : List ℕ) → SpellsAll (Bytes ∷ []) (s, tt) bytes a
    → SpellsAll (Bytes ∷ []) (t, tt) bytes b → (s ≡ t) × (a ≡ b)
one_string s t bytes a b m n =
    let once = spells_all_once (Bytes ∷ []) (s, tt) (t, tt) bytes a b m n in
    (ap (λ v. v.0) once.0, once.1)

-- ---- the signature key

key_is_no_certificate : (public : PublicKey) (blob : List ℕ) → IsKey public blob
    → HasCertificateType blob → ⊥
key_is_no_certificate public blob s has =
    let first = begins public blob s in
    apart has.0 (type_of public) ((one_name (certificate_type_name has.0)
    (type_name (type_of public)) blob has.1 first.0 has.2 first.1).0)

signature_key_never_fails : (public : PublicKey) (blob : List ℕ) (why : KeyError)
    → IsKey public blob → FailsSignatureKey blob why → ⊥
signature_key_never_fails public blob why s fails =
    elim fails [
      | inl typed ↦ key_is_no_certificate public blob s typed.0
      | inr other ↦ key_never_fails public blob why s other.1
    ]

signature_key_fails_once : (blob : List ℕ) (d e : KeyError) → FailsSignatureKey blob d
    → FailsSignatureKey blob e → d ≡ e
signature_key_fails_once blob d e m n =
    elim m [
      | inl a ↦ elim n [
        | inl b ↦ a.1 ∙ sym b.1
        | inr b ↦ absurd (b.0 a.0)
      ]
      | inr a ↦ elim n [
        | inl b ↦ absurd (a.0 b.0)
        | inr b ↦ key_fails_once blob d e a.1 b.1
      ]
    ]

-- ---- the signature key and the signature

signed_fails_once : (bytes : List ℕ) (d e : KeyError) → FailsSigned bytes d → FailsSigned bytes e
    → d ≡ e
signed_fails_once bytes d e m n =
    elim m [
      | inl a ↦ elim n [
        | inl b ↦ a.0 ∙ sym b.0
        | inr b ↦ absurd (a.1 (b.0, tt) b.1 b.2)
      ]
      | inr a ↦ elim n [
        | inl b ↦ absurd (b.1 (a.0, tt) a.1 a.2)
        | inr b ↦
            let same = (one_string a.0 b.0 bytes a.1 b.1 a.2 b.2).0 in
            elim a.3 [
              | inl x ↦ elim b.3 [
                | inl y ↦ signature_key_fails_once a.0 d e x
                    (subst (λ k. FailsSignatureKey k e) (sym same) y)
                | inr y ↦ absurd (signature_key_never_fails y.0 a.0 d
                    (subst (IsKey y.0) (sym same) y.1) x)
              ]
              | inr x ↦ elim b.3 [
                | inl y ↦ absurd (signature_key_never_fails x.0 b.0 e (subst (IsKey x.0) same x.1)
                    y)
                | inr y ↦ x.2 ∙ sym y.2
              ]
            ]
      ]
    ]

-- ---- what is certified

certified_fails_once : (type : KeyType) (bytes : List ℕ) (d e : KeyError)
    → FailsCertified type bytes d → FailsCertified type bytes e → d ≡ e
certified_fails_once type bytes d e m n =
    elim m [
      | inl a ↦ elim n [
        | inl b ↦ a.0 ∙ sym b.0
        | inr b ↦ absurd (a.1 b.0 b.1 b.2 b.3)
      ]
      | inr a ↦ elim n [
        | inl b ↦ absurd (b.1 a.0 a.1 a.2 a.3)
        | inr b ↦
            let same = (certified_once a.0 b.0 bytes a.1 b.1 (a.2 ∙ sym b.2) a.3 b.3).1 in
            signed_fails_once a.1 d e a.4 (subst (λ x. FailsSigned x e) (sym same) b.4)
      ]
    ]

-- ---- the blob

pub certificate_fails_once : (blob : List ℕ) (d e : KeyError) → FailsCertificate blob d
    → FailsCertificate blob e → d ≡ e
certificate_fails_once blob d e m n =
    elim m [
      | inl a ↦ elim n [
        | inl b ↦ type_fails_once certificate_type_name blob d e a b
        | inr b ↦ absurd (type_is_known certificate_type_name b.0 blob b.1 d b.2 a)
      ]
      | inr a ↦ elim n [
        | inl b ↦ absurd (type_is_known certificate_type_name a.0 blob a.1 e a.2 b)
        | inr b ↦
            let names = one_name (certificate_type_name a.0) (certificate_type_name b.0) blob a.1
            b.1 a.2 b.2 in
            let types = certificate_type_once a.0 b.0 names.0 in
            certified_fails_once a.0 a.1 d e a.3
            (subst (λ t. FailsCertified t a.1 e) (sym types)
            (subst (λ x. FailsCertified b.0 x e) (sym names.1) b.3))
      ]
    ]

certificate_is_signed : (c : Certificate) (key b d : List ℕ) (why : KeyError)
    → SpellsAll (Bytes ∷ []) (key, tt) b d → IsKey c.signature_key key
    → EndsInSignature c.signature d → FailsSigned b why → ⊥
certificate_is_signed c key b d why string is-key ends fails =
    elim fails [
      | inl x ↦ x.1 (key, tt) d string
      | inr x ↦
          let same = one_string key x.0 b d x.1 string x.2 in
          elim x.3 [
            | inl y ↦ signature_key_never_fails c.signature_key x.0 why
                (subst (IsKey c.signature_key) same.0 is-key) y
            | inr y ↦ y.3 c.signature (subst (EndsInSignature c.signature) same.1 ends)
          ]
    ]

pub certificate_never_fails : (c : Certificate) (blob : List ℕ) (why : KeyError)
    → IsCertificate c blob → FailsCertificate blob why → ⊥
certificate_never_fails c blob why s fails =
    elim fails [
      | inl x ↦ type_is_known certificate_type_name (type_of c.public_key) blob s.1 why s.4 x
      | inr x ↦
          let names = one_name (certificate_type_name (type_of c.public_key))
          (certificate_type_name x.0) blob s.1 x.1 s.4 x.2 in
          let types = certificate_type_once (type_of c.public_key) x.0 names.0 in
          let part = subst (λ a. SpellsCertified (certified c) a s.2) names.1 s.5 in
          elim x.3 [
            | inl y ↦ y.1 (certified c) s.2 types part
            | inr y ↦
                let same =
                (certified_once (certified c) y.0 x.1 s.2 y.1 (types ∙ sym y.2) part y.3).1 in
                certificate_is_signed c s.0 s.2 s.3 why s.6 s.7 s.9
                (subst (λ b. FailsSigned b why) (sym same) y.4)
          ]
    ]

certificate_answers_once : (blob : List ℕ) (a b : Result Certificate KeyError)
    → DecodesCertificate blob a → DecodesCertificate blob b → a ≡ b
certificate_answers_once blob (Ok c) (Ok d) s t = ap Ok (certificates_agree c d blob s t)
certificate_answers_once blob (Ok c) (Err e) s t = absurd (certificate_never_fails c blob e s t)
certificate_answers_once blob (Err d) (Ok c) s t = absurd (certificate_never_fails c blob d t s)
certificate_answers_once blob (Err d) (Err e) s t = ap Err (certificate_fails_once blob d e s t)

-- an answer that is right, or want of memory, is the right answer, or want of memory
pub only_certificate_answer : (blob : List ℕ) (result answer : Result Certificate KeyError)
    → IfOk result (λ c. IsCertificate c blob)
    → IfErr result (λ e. (e ≡ NoMemory) ⊎ FailsCertificate blob e) → DecodesCertificate blob answer
    → (result ≡ answer) ⊎ (result ≡ Err NoMemory)
only_certificate_answer blob (Ok c) answer s fails t =
    inl (certificate_answers_once blob (Ok c) answer s t)
only_certificate_answer blob (Err e) answer s fails t =
    elim fails [
      | inl memory ↦ inr (ap Err memory)
      | inr why ↦ inl (certificate_answers_once blob (Err e) answer why t)
    ]
