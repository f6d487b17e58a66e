-- A key has one blob, and the blob has one reading.
use Rattle.std.proofs.Common.{◌≡◌, ◌≤◌, ◌<◌, ◌^◌, ◌++◌, inl, inr, ℕ, List, [], ◌∷◌, length, codes}
use Rattle.std.proofs.Common.{bytes_eq, find, Option, Some, Result, Ok, Err, ap, sym, ◌∙◌, refl}
use Rattle.std.proofs.Common.{subst, arith, IsUtf8, append-nil}
use lib.Utf8.{encode}
use Rattle.ssh_wire.specs.Field.{Text, Bytes, SpellsAll, string}
use Rattle.ssh_wire.proofs.Fields.{spells_all_once}
use Rattle.ssh_keys.specs.Algorithms.{curve_name}
use Rattle.ssh_keys.specs.Keys.{type_name, type_of, key_blob, HasLongField, SpellsName, SpellsKey}
use Rattle.ssh_keys.specs.Keys.{IsKey, FailsType, FailsKey, DecodesKey}
use Rattle.ssh_keys.specs.declared.algorithm.EcdsaCurve.{EcdsaCurve}
use Rattle.ssh_keys.specs.declared.algorithm.EcdsaCurve.TheVariants.{NistP256, NistP384, NistP521}
use Rattle.ssh_keys.specs.declared.error.KeyError.{KeyError}
use Rattle.ssh_keys.specs.declared.error.KeyError.TheVariants.{Unknown, CertificateValidation, Time}
use Rattle.ssh_keys.specs.declared.error.KeyError.TheVariants.{Blob, NoMemory}
use Rattle.ssh_keys.specs.declared.key_type.KeyType.{KeyType}
use Rattle.ssh_keys.specs.declared.key_type.KeyType.TheVariants as type
use Rattle.ssh_keys.specs.declared.public_key.PublicKey.{PublicKey}
use Rattle.ssh_keys.specs.declared.public_key.PublicKey.TheVariants as key
use Rattle.ssh_keys.proofs.Layouts.{keys_once}

-- ---- the names of types

abbrev type_named : List ℕ → Option KeyType
type_named name = find (λ t. bytes_eq (type_name t) name)
    (type.Ed25519 ∷ type.Ecdsa NistP256 ∷ type.Ecdsa NistP384 ∷ type.Ecdsa NistP521 ∷ type.Rsa ∷ [])

type_named-type_name : (t : KeyType) → type_named (type_name t) ≡ Some t
type_named-type_name type.Ed25519 = refl
type_named-type_name (type.Ecdsa NistP256) = refl
type_named-type_name (type.Ecdsa NistP384) = refl
type_named-type_name (type.Ecdsa NistP521) = refl
type_named-type_name type.Rsa = refl

pub type_once : (t u : KeyType) → type_name t ≡ type_name u → t ≡ u
type_once t u same =
    let both : Some t ≡ Some u =
    sym (type_named-type_name t) ∙ ap type_named same ∙ type_named-type_name u in
    cc

short_name : (t : KeyType) → length (type_name t) < 2 ^ 32
short_name type.Ed25519 = omega arith
short_name (type.Ecdsa NistP256) = omega arith
short_name (type.Ecdsa NistP384) = omega arith
short_name (type.Ecdsa NistP521) = omega arith
short_name type.Rsa = omega arith

utf8_name : (t : KeyType) → IsUtf8 (type_name t)
unfolding encode
utf8_name type.Ed25519 = (codes "ssh-ed25519", (refl, refl))
utf8_name (type.Ecdsa NistP256) = (codes "ecdsa-sha2-nistp256", (refl, refl))
utf8_name (type.Ecdsa NistP384) = (codes "ecdsa-sha2-nistp384", (refl, refl))
utf8_name (type.Ecdsa NistP521) = (codes "ecdsa-sha2-nistp521", (refl, refl))
utf8_name type.Rsa = (codes "ssh-rsa", (refl, refl))

short_curve : (c : EcdsaCurve) → length (curve_name c) < 2 ^ 32
short_curve NistP256 = omega arith
short_curve NistP384 = omega arith
short_curve NistP521 = omega arith

utf8_curve : (c : EcdsaCurve) → IsUtf8 (curve_name c)
unfolding encode
utf8_curve NistP256 = (codes "nistp256", (refl, refl))
utf8_curve NistP384 = (codes "nistp384", (refl, refl))
utf8_curve NistP521 = (codes "nistp521", (refl, refl))

-- ---- what is written is the blob

below : (n : ℕ) → (2 ^ 32 ≤ n → ⊥) → n < 2 ^ 32
below n most = omega (arith, most)

last : (bytes : List ℕ) → length bytes < 2 ^ 32 → SpellsAll (Bytes ∷ []) (bytes, tt) (string bytes)
    []
last bytes fits = (string bytes, [], (fits, refl), sym (append-nil (string bytes)), refl)

written : (public : PublicKey) → (HasLongField public → ⊥) → IsKey public (key_blob public)
written (key.Ed25519 bytes) fits = (
  string (codes "ssh-ed25519"),
  string bytes,
  (
    short_name type.Ed25519,
    refl,
    utf8_name type.Ed25519,
  ),
  refl,
  last bytes (below (length bytes) fits),
)
written (key.Ecdsa c point) fits = (
  string (type_name (type.Ecdsa c)),
  string (curve_name c) ++ string point,
  (short_name (type.Ecdsa c), refl, utf8_name (type.Ecdsa c)),
  refl,
  (
    string (curve_name c),
    string point,
    (short_curve c, refl, utf8_curve c),
    refl,
    last point (below (length point) fits),
  ),
)
written (key.Rsa e n) fits = (
  string (codes "ssh-rsa"),
  string e ++ string n,
  (short_name type.Rsa, refl, utf8_name type.Rsa),
  refl,
  (
    string e,
    string n,
    (below (length e) (λ long. fits (inl long)), refl),
    refl,
    last n (below (length n) (λ long. fits (inr long))),
  ),
)

pub blob_is_key : (public : PublicKey) (blob : List ℕ) → (HasLongField public → ⊥)
    → blob ≡ key_blob public → IsKey public blob
blob_is_key public blob fits is = subst (IsKey public) (sym is) (written public fits)

-- ---- the blob is what is written

only_last : (text bytes : List ℕ) → SpellsAll (Bytes ∷ []) (text, tt) bytes [] → bytes ≡ string text
only_last text bytes s = s.3 ∙ ap (λ x. s.0 ++ x) s.4 ∙ append-nil s.0 ∙ s.2.1

joined : (piece name bytes after tail : List ℕ) → piece ≡ name → bytes ≡ piece ++ after
    → after ≡ tail → bytes ≡ name ++ tail
joined piece name bytes after tail front is back =
    is ∙ ap (λ x. x ++ after) front ∙ ap (λ x. name ++ x) back

pub only_blob : (public : PublicKey) (blob : List ℕ) → IsKey public blob → blob ≡ key_blob public
only_blob (key.Ed25519 bytes) blob s =
    joined s.0 (string (codes "ssh-ed25519")) blob s.1 (string bytes) s.2.1 s.3
    (only_last bytes s.1 s.4)
only_blob (key.Ecdsa c point) blob s =
    joined s.0 (string (type_name (type.Ecdsa c))) blob s.1 (string (curve_name c) ++ string point)
    s.2.1 s.3
    (joined s.4.0 (string (curve_name c)) s.1 s.4.1 (string point) s.4.2.1 s.4.3
    (only_last point s.4.1 s.4.4))
only_blob (key.Rsa e n) blob s =
    joined s.0 (string (codes "ssh-rsa")) blob s.1 (string e ++ string n) s.2.1 s.3
    (joined s.4.0 (string e) s.1 s.4.1 (string n) s.4.2.1 s.4.3 (only_last n s.4.1 s.4.4))

-- ---- one answer

-- a key's blob begins with the name of its type, and its fields follow
pub begins : (public : PublicKey) (blob : List ℕ) → IsKey public blob
    → (after : List ℕ) × SpellsName (type_name (type_of public)) blob after
    × SpellsKey public after []
begins public blob s = (s.1, (s.0, s.1, s.2, s.3, refl), s.4)

pub one_name : (name other bytes a b : List ℕ) → SpellsName name bytes a → SpellsName other bytes b
    → (name ≡ other) × (a ≡ b)
one_name name other bytes a b s t =
    let once = spells_all_once (Text ∷ []) (name, tt) (other, tt) bytes a b s t in
    (ap (λ v. v.0) once.0, once.1)

pub keys_agree : (k l : PublicKey) (blob : List ℕ) → IsKey k blob → IsKey l blob → l ≡ k
keys_agree k l blob s t =
    let first = begins k blob s in
    let second = begins l blob t in
    let names = one_name (type_name (type_of l)) (type_name (type_of k)) blob second.0 first.0
    second.1 first.1 in
    (keys_once l k first.0 [] [] (type_once (type_of l) (type_of k) names.0)
    (subst (λ x. SpellsKey l x []) names.1 second.2) first.2).0

-- a blob that begins with the name of a type does not fail at its type
pub type_is_known : (names : KeyType → List ℕ) (t : KeyType) (blob after : List ℕ) (why : KeyError)
    → SpellsName (names t) blob after
    → FailsType names blob why → ⊥
type_is_known names t blob after Blob named lacks = lacks (names t, tt) after named
type_is_known names t blob after Unknown named fails =
    fails.3 t ((one_name (names t) fails.0 blob after fails.1 named fails.2).0)
type_is_known names t blob after CertificateValidation named fails = fails
type_is_known names t blob after Time named fails = fails
type_is_known names t blob after NoMemory named fails = fails

pub key_never_fails : (public : PublicKey) (blob : List ℕ) (why : KeyError) → IsKey public blob
    → FailsKey blob why → ⊥
key_never_fails public blob why s fails =
    elim fails [
      | inl unnamed ↦ let first = begins public blob s in type_is_known type_name (type_of public)
          blob first.0 why first.1 unnamed
      | inr fields ↦
          let first = begins public blob s in
          let names = one_name (type_name (type_of public)) (type_name fields.0) blob first.0
          fields.1 first.1 fields.2 in
          fields.4 public (type_once (type_of public) fields.0 names.0)
          (subst (λ x. SpellsKey public x []) names.1 first.2)
    ]

-- whatever reading a key's blob answers, it is the key
pub decodes_back : (public : PublicKey) (blob : List ℕ) (answer : Result PublicKey KeyError)
    → IsKey public blob → DecodesKey blob answer → answer ≡ Ok public
decodes_back public blob (Ok other) s t = ap Ok (keys_agree public other blob s t)
decodes_back public blob (Err why) s fails = absurd (key_never_fails public blob why s fails)
