-- A blob is at most one certificate.
use Rattle.std.proofs.Common.{◌≡◌, ℕ, List, [], ◌∷◌, ◌++◌, length, find, bytes_eq, Option, Some}
use Rattle.std.proofs.Common.{None, ap, sym, ◌∙◌, refl, subst, arith, length-append}
use Rattle.ssh_wire.specs.Field.{Bytes, SpellsAll}
use Rattle.ssh_wire.proofs.Fields.{spells_all_once}
use Rattle.ssh_wire.proofs.Numbers.{parts_once}
use Rattle.ssh_keys.specs.Keys.{type_name, certificate_type_name, type_of, SpellsKey, IsKey}
use Rattle.ssh_keys.specs.Signatures.{signature_fields, SpellsSignature, EndsInSignature}
use Rattle.ssh_keys.specs.Certificates.{cert_type_number, identity_fields, SpellsIdentity}
use Rattle.ssh_keys.specs.Certificates.{validity_fields, SpellsValidity, option_fields}
use Rattle.ssh_keys.specs.Certificates.{SpellsOptions, SpellsCertified, certified, IsCertificate}
use Rattle.ssh_keys.specs.declared.algorithm.EcdsaCurve.TheVariants.{NistP256, NistP384, NistP521}
use Rattle.ssh_keys.specs.declared.certificate.Certificate.{Certificate}
use Rattle.ssh_keys.specs.declared.certificate.Certified.{Certified}
use Rattle.ssh_keys.specs.declared.key_type.KeyType.{KeyType}
use Rattle.ssh_keys.specs.declared.key_type.KeyType.TheVariants as type
use Rattle.ssh_keys.specs.declared.public_key.PublicKey.{PublicKey}
use Rattle.ssh_keys.specs.declared.signature.Signature.{Signature}
use Rattle.ssh_keys.specs.declared.terms.CertType.{CertType}
use Rattle.ssh_keys.specs.declared.terms.CertType.TheVariants.{User, Host}
use Rattle.ssh_keys.specs.declared.terms.Identity.{Identity}
use Rattle.ssh_keys.specs.declared.terms.Validity.{Validity}
use Rattle.ssh_keys.specs.declared.terms.Options.{Options}
use Rattle.ssh_keys.proofs.Blobs.{one_name, keys_agree}
use Rattle.ssh_keys.proofs.Layouts.{keys_once}

abbrev certificate_named : List ℕ → Option KeyType
certificate_named name =
    find (λ t. bytes_eq (certificate_type_name t) name)
    (type.Ed25519 ∷ type.Ecdsa NistP256 ∷ type.Ecdsa NistP384 ∷ type.Ecdsa NistP521 ∷ type.Rsa ∷ [])

named_back : (t : KeyType) → certificate_named (certificate_type_name t) ≡ Some t
named_back type.Ed25519 = refl
named_back (type.Ecdsa NistP256) = refl
named_back (type.Ecdsa NistP384) = refl
named_back (type.Ecdsa NistP521) = refl
named_back type.Rsa = refl

key_named : (t : KeyType) → certificate_named (type_name t) ≡ None
key_named type.Ed25519 = refl
key_named (type.Ecdsa NistP256) = refl
key_named (type.Ecdsa NistP384) = refl
key_named (type.Ecdsa NistP521) = refl
key_named type.Rsa = refl

pub certificate_type_once : (t u : KeyType) → certificate_type_name t ≡ certificate_type_name u
    → t ≡ u
certificate_type_once t u same =
    let both : Some t ≡ Some u = sym (named_back t) ∙ ap certificate_named same ∙ named_back u in
    cc

-- no key's type is a certificate's
pub apart : (t u : KeyType) → certificate_type_name t ≡ type_name u → ⊥
apart t u same =
    let bad : Some t ≡ None = sym (named_back t) ∙ ap certificate_named same ∙ key_named u in
    cc

cert_type_once : (t u : CertType) → cert_type_number t ≡ cert_type_number u → t ≡ u
cert_type_once User User same = refl
cert_type_once Host Host same = refl
cert_type_once User Host same = absurd (omega (arith, same))
cert_type_once Host User same = absurd (omega (arith, same))

identity_once : (i j : Identity) (bytes a b : List ℕ) → SpellsIdentity i bytes a
    → SpellsIdentity j bytes b → (i ≡ j) × (a ≡ b)
identity_once i j bytes a b s t =
    let once = spells_all_once identity_fields
    (i.serial, (cert_type_number i.cert_type, (i.key_id, (i.valid_principals, tt))))
    (j.serial, (cert_type_number j.cert_type, (j.key_id, (j.valid_principals, tt)))) bytes a b s
    t in
    let types = cert_type_once i.cert_type j.cert_type (ap (λ v. v.1.0) once.0) in (
      (λ n. record {
        serial = (once.0 n).0;
        cert_type = types n;
        key_id =
            (once.0 n).1.1.0;
        valid_principals = (once.0 n).1.1.1.0;
      }),
      once.1,
    )

validity_once : (v w : Validity) (bytes a b : List ℕ) → SpellsValidity v bytes a
    → SpellsValidity w bytes b → (v ≡ w) × (a ≡ b)
validity_once v w bytes a b s t =
    let once = spells_all_once validity_fields (v.valid_after, (v.valid_before, tt))
    (w.valid_after, (w.valid_before, tt)) bytes a b s t in
    ((λ n. record { valid_after = (once.0 n).0; valid_before = (once.0 n).1.0 }), once.1)

options_once : (o p : Options) (bytes a b : List ℕ) → SpellsOptions o bytes a
    → SpellsOptions p bytes b → (o ≡ p) × (a ≡ b)
options_once o p bytes a b s t =
    let once = spells_all_once option_fields
    (o.critical_options, (o.extensions, (o.reserved, tt)))
    (p.critical_options, (p.extensions, (p.reserved, tt))) bytes a b s t in (
      (λ n. record {
        critical_options = (once.0 n).0;
        extensions = (once.0 n).1.0;
        reserved =
            (once.0 n).1.1.0;
      }),
      once.1,
    )

pub certified_once : (p q : Certified) (bytes a b : List ℕ)
    → type_of p.public_key ≡ type_of q.public_key
    → SpellsCertified p bytes a → SpellsCertified q bytes b → (p ≡ q) × (a ≡ b)
certified_once p q bytes a b is s t =
    let nonces = spells_all_once (Bytes ∷ []) (p.nonce, tt) (q.nonce, tt) bytes s.0 t.0 s.4 t.4 in
    let keys = keys_once p.public_key q.public_key s.0 s.1 t.1 is s.5
    (subst (λ x. SpellsKey q.public_key x t.1) (sym nonces.1) t.5) in
    let identities = identity_once p.identity q.identity s.1 s.2 t.2 s.6
    (subst (λ x. SpellsIdentity q.identity x t.2) (sym keys.1) t.6) in
    let validities = validity_once p.validity q.validity s.2 s.3 t.3 s.7
    (subst (λ x. SpellsValidity q.validity x t.3) (sym identities.1) t.7) in
    let options = options_once p.options q.options s.3 a b s.8
    (subst (λ x. SpellsOptions q.options x b) (sym validities.1) t.8) in (
      (λ n. record {
        nonce = (nonces.0 n).0;
        public_key = keys.0 n;
        identity =
            identities.0 n;
        validity = validities.0 n;
        options = options.0 n;
      }),
      options.1,
    )

pub signature_once : (v w : Signature) (bytes : List ℕ) → EndsInSignature v bytes
    → EndsInSignature w bytes → v ≡ w
signature_once v w bytes s t =
    let inners = spells_all_once (Bytes ∷ []) (s.0, tt) (t.0, tt) bytes [] [] s.1 t.1 in
    let once = spells_all_once signature_fields (v.name, (v.blob, tt)) (w.name, (w.blob, tt)) s.0 []
    [] s.2
    (subst (λ x. SpellsSignature w x []) (sym (ap (λ u. u.0) inners.0)) t.2) in
    (λ n. record { name = (once.0 n).0; blob = (once.0 n).1.0 })

fronts_once : (a b x y blob : List ℕ) → blob ≡ a ++ x → blob ≡ b ++ y → x ≡ y → a ≡ b
fronts_once a b x y blob first second same =
    (parts_once a b x y (omega (
      arith,
      ap length first,
      ap length second,
      ap length same,
      length-append a x,
      length-append b y,
    )) (sym first ∙ second)).0

unfoldable remade : Certified → PublicKey → Signature → List ℕ → Certificate
remade part key signature signed = record {
  nonce = part.nonce;
  public_key = part.public_key;
  serial = part.identity.serial;
  cert_type = part.identity.cert_type;
  key_id = part.identity.key_id;
  valid_principals = part.identity.valid_principals;
  valid_after = part.validity.valid_after;
  valid_before = part.validity.valid_before;
  critical_options = part.options.critical_options;
  extensions = part.options.extensions;
  reserved = part.options.reserved;
  signature_key = key;
  signature = signature;
  signed = signed;
}

pub certificates_agree : (c d : Certificate) (blob : List ℕ) → IsCertificate c blob
    → IsCertificate d blob → c ≡ d
unfolding remade
certificates_agree c d blob s t =
    let names = one_name (certificate_type_name (type_of c.public_key))
    (certificate_type_name (type_of d.public_key)) blob s.1 t.1 s.4 t.4 in
    let types = certificate_type_once (type_of c.public_key) (type_of d.public_key) names.0 in
    let parts = certified_once (certified c) (certified d) s.1 s.2 t.2 types s.5
    (subst (λ x. SpellsCertified (certified d) x t.2) (sym names.1) t.5) in
    let strings = spells_all_once (Bytes ∷ []) (s.0, tt) (t.0, tt) s.2 s.3 t.3 s.6
    (subst (λ x. SpellsAll (Bytes ∷ []) (t.0, tt) x t.3) (sym parts.1) t.6) in
    let keys = keys_agree d.signature_key c.signature_key s.0
    (subst (IsKey d.signature_key) (sym (ap (λ u. u.0) strings.0)) t.7) s.7 in
    let signatures = signature_once c.signature d.signature s.3 s.9
    (subst (EndsInSignature d.signature) (sym strings.1) t.9) in
    let fronts = fronts_once c.signed d.signed s.3 t.3 blob s.8 t.8 strings.1 in
    λ n. remade (parts.0 n) (keys n) (signatures n) (fronts n)
