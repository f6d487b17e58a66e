-- Reading a blob by a name has one answer.
use Rattle.std.proofs.Common.{◌≡◌, ◌⊎◌, inl, inr, ℕ, List, [], ◌∷◌, find, bytes_eq, Option, Some}
use Rattle.std.proofs.Common.{None, Result, Ok, Err, IfOk, IfErr, ap, sym, ◌∙◌, refl}
use Rattle.ssh_keys.specs.Algorithms.{algorithm_name, certificate_name}
use Rattle.ssh_keys.specs.Offers.{hash_of, IsOffer, FailsOffer, DecodesOffer}
use Rattle.ssh_keys.specs.declared.algorithm.Algorithm.{Algorithm}
use Rattle.ssh_keys.specs.declared.algorithm.Algorithm.TheVariants as algorithm
use Rattle.ssh_keys.specs.declared.algorithm.EcdsaCurve.TheVariants.{NistP256, NistP384, NistP521}
use Rattle.ssh_keys.specs.declared.algorithm.HashAlg.TheVariants.{Sha256, Sha512}
use Rattle.ssh_keys.specs.declared.error.KeyError.{KeyError}
use Rattle.ssh_keys.specs.declared.error.KeyError.TheVariants.{NoMemory}
use Rattle.ssh_keys.specs.declared.key_or_certificate.PublicKeyOrCertificate.{PublicKeyOrCertificate}
use Rattle.ssh_keys.specs.declared.key_or_certificate.PublicKeyOrCertificate.TheVariants as offer
use Rattle.ssh_keys.proofs.Agreement.{certificates_agree}
use Rattle.ssh_keys.proofs.Blobs.{keys_agree, key_never_fails}
use Rattle.ssh_keys.proofs.Exactness.{certificate_fails_once, certificate_never_fails}
use Rattle.ssh_keys.proofs.Once.{key_fails_once}

-- ---- the names

abbrev named : List ℕ → Option Algorithm
named name =
    find (λ a. bytes_eq (algorithm_name a) name)
    (algorithm.Ed25519
    ∷ algorithm.Ecdsa NistP256
    ∷ algorithm.Ecdsa NistP384
    ∷ algorithm.Ecdsa NistP521
    ∷ algorithm.Rsa None
    ∷ algorithm.Rsa (Some Sha256)
    ∷ algorithm.Rsa (Some Sha512)
    ∷ [])

named_back : (a : Algorithm) → named (algorithm_name a) ≡ Some a
named_back algorithm.Ed25519 = refl
named_back (algorithm.Ecdsa NistP256) = refl
named_back (algorithm.Ecdsa NistP384) = refl
named_back (algorithm.Ecdsa NistP521) = refl
named_back (algorithm.Rsa None) = refl
named_back (algorithm.Rsa (Some Sha256)) = refl
named_back (algorithm.Rsa (Some Sha512)) = refl

certificate_unnamed : (a : Algorithm) → named (certificate_name a) ≡ None
certificate_unnamed algorithm.Ed25519 = refl
certificate_unnamed (algorithm.Ecdsa NistP256) = refl
certificate_unnamed (algorithm.Ecdsa NistP384) = refl
certificate_unnamed (algorithm.Ecdsa NistP521) = refl
certificate_unnamed (algorithm.Rsa None) = refl
certificate_unnamed (algorithm.Rsa (Some Sha256)) = refl
certificate_unnamed (algorithm.Rsa (Some Sha512)) = refl

pub algorithm_once : (a b : Algorithm) (name : List ℕ) → algorithm_name a ≡ name
    → algorithm_name b ≡ name → a ≡ b
algorithm_once a b name m n =
    let both : Some a ≡ Some b = sym (named_back a) ∙ ap named (m ∙ sym n) ∙ named_back b in
    cc

abbrev certificate_named : List ℕ → Option Algorithm
certificate_named name =
    find (λ a. bytes_eq (certificate_name a) name)
    (algorithm.Ed25519
    ∷ algorithm.Ecdsa NistP256
    ∷ algorithm.Ecdsa NistP384
    ∷ algorithm.Ecdsa NistP521
    ∷ algorithm.Rsa None
    ∷ algorithm.Rsa (Some Sha256)
    ∷ algorithm.Rsa (Some Sha512)
    ∷ [])

certificate_named_back : (a : Algorithm) → certificate_named (certificate_name a) ≡ Some a
certificate_named_back algorithm.Ed25519 = refl
certificate_named_back (algorithm.Ecdsa NistP256) = refl
certificate_named_back (algorithm.Ecdsa NistP384) = refl
certificate_named_back (algorithm.Ecdsa NistP521) = refl
certificate_named_back (algorithm.Rsa None) = refl
certificate_named_back (algorithm.Rsa (Some Sha256)) = refl
certificate_named_back (algorithm.Rsa (Some Sha512)) = refl

pub certified_algorithm_once : (a b : Algorithm) (name : List ℕ) → certificate_name a ≡ name
    → certificate_name b ≡ name → a ≡ b
certified_algorithm_once a b name m n =
    let both : Some a ≡ Some b = sym (certificate_named_back a) ∙ ap certificate_named (m ∙ sym n)
    ∙ certificate_named_back b in
    cc

-- a name of keys is none of certificates
pub apart : (a b : Algorithm) (name : List ℕ) → algorithm_name a ≡ name → certificate_name b ≡ name
    → ⊥
apart a b name m n =
    let bad : Some a ≡ None = sym (named_back a) ∙ ap named (m ∙ sym n) ∙ certificate_unnamed b in
    cc

-- ---- the answers

pub offers_agree : (p q : PublicKeyOrCertificate) (name blob : List ℕ) → IsOffer p name blob
    → IsOffer q name blob → p ≡ q
offers_agree (offer.PublicKey k g) (offer.PublicKey l h) name blob s t =
    let keys = keys_agree l k blob t.3 s.3 in
    let hashes : g ≡ h = s.2 ∙ ap hash_of (algorithm_once s.0 t.0 name s.1 t.1) ∙ sym t.2 in
    (λ i. offer.PublicKey (keys i) (hashes i))
offers_agree (offer.Certificate c) (offer.Certificate d) name blob s t =
    ap offer.Certificate (certificates_agree c d blob s.2 t.2)
offers_agree (offer.PublicKey k g) (offer.Certificate d) name blob s t =
    absurd (apart s.0 t.0 name s.1 t.1)
offers_agree (offer.Certificate c) (offer.PublicKey l h) name blob s t =
    absurd (apart t.0 s.0 name t.1 s.1)

pub offer_never_fails : (p : PublicKeyOrCertificate) (name blob : List ℕ) (why : KeyError)
    → IsOffer p name blob → FailsOffer name blob why → ⊥
offer_never_fails (offer.PublicKey k g) name blob why s fails =
    elim fails [
      | inl none ↦ none.0 s.0 s.1
      | inr some ↦ elim some [
        | inl plain ↦ key_never_fails k blob why s.3 plain.2
        | inr held ↦ apart s.0 held.0 name s.1 held.1
      ]
    ]
offer_never_fails (offer.Certificate c) name blob why s fails =
    elim fails [
      | inl none ↦ none.1 s.0 s.1
      | inr some ↦ elim some [
        | inl plain ↦ apart plain.0 s.0 name plain.1 s.1
        | inr held ↦ certificate_never_fails c blob why s.2 held.2
      ]
    ]

pub offer_fails_once : (name blob : List ℕ) (d e : KeyError) → FailsOffer name blob d
    → FailsOffer name blob e → d ≡ e
offer_fails_once name blob d e m n =
    elim m [
      | inl a ↦ elim n [
        | inl b ↦ a.2 ∙ sym b.2
        | inr b ↦ elim b [
          | inl y ↦ absurd (a.0 y.0 y.1)
          | inr y ↦ absurd (a.1 y.0 y.1)
        ]
      ]
      | inr a ↦ elim n [
        | inl b ↦ elim a [
          | inl x ↦ absurd (b.0 x.0 x.1)
          | inr x ↦ absurd (b.1 x.0 x.1)
        ]
        | inr b ↦ elim a [
          | inl x ↦ elim b [
            | inl y ↦ key_fails_once blob d e x.2 y.2
            | inr y ↦ absurd (apart x.0 y.0 name x.1 y.1)
          ]
          | inr x ↦ elim b [
            | inl y ↦ absurd (apart y.0 x.0 name y.1 x.1)
            | inr y ↦ certificate_fails_once blob d e x.2 y.2
          ]
        ]
      ]
    ]

pub offer_answers_once : (name blob : List ℕ) (a b : Result PublicKeyOrCertificate KeyError)
    → DecodesOffer name blob a → DecodesOffer name blob b → a ≡ b
offer_answers_once name blob (Ok p) (Ok q) s t = ap Ok (offers_agree p q name blob s t)
offer_answers_once name blob (Ok p) (Err e) s t = absurd (offer_never_fails p name blob e s t)
offer_answers_once name blob (Err d) (Ok p) s t = absurd (offer_never_fails p name blob d t s)
offer_answers_once name blob (Err d) (Err e) s t = ap Err (offer_fails_once name blob d e s t)

-- an answer that is right, or want of memory, is the right answer, or want of memory
pub only_offer_answer : (name blob : List ℕ) (result answer : Result PublicKeyOrCertificate
    KeyError) → IfOk result (λ p. IsOffer p name blob)
    → IfErr result (λ e. (e ≡ NoMemory) ⊎ FailsOffer name blob e) → DecodesOffer name blob answer
    → (result ≡ answer) ⊎ (result ≡ Err NoMemory)
only_offer_answer name blob (Ok p) answer s fails t =
    inl (offer_answers_once name blob (Ok p) answer s t)
only_offer_answer name blob (Err e) answer s fails t =
    elim fails [
      | inl memory ↦ inr (ap Err memory)
      | inr why ↦ inl (offer_answers_once name blob (Err e) answer why t)
    ]
