-- Public keys as blobs (RFC 4253 section 6.6, RFC 5656 section 3.1, RFC 8709 section 4).
use Rattle.std.specs.Prelude.{◌≡◌, ◌^◌, ◌≤◌, ◌⊎◌, ℕ, List, [], ◌∷◌, ◌++◌, length, codes, Result, Ok}
use Rattle.std.specs.Prelude.{Err}
use Rattle.ssh_wire.specs.Field.{Field, Text, Bytes, Values, SpellsAll, SpellsWhole, string}
use Rattle.ssh_keys.specs.Algorithms.{curve_name, certificate_suffix, NamesNone}
use Rattle.ssh_keys.specs.declared.algorithm.EcdsaCurve.TheVariants.{NistP256, NistP384, NistP521}
use Rattle.ssh_keys.specs.declared.error.KeyError.{KeyError}
use Rattle.ssh_keys.specs.declared.error.KeyError.TheVariants.{Unknown, Blob}
use Rattle.ssh_keys.specs.declared.key_type.KeyType.{KeyType}
use Rattle.ssh_keys.specs.declared.key_type.KeyType.TheVariants as type
use Rattle.ssh_keys.specs.declared.public_key.PublicKey.{PublicKey}
use Rattle.ssh_keys.specs.declared.public_key.PublicKey.TheVariants as key

-- the name with which a key's blob begins
abbrev pub type_name : KeyType → List ℕ
type_name type.Ed25519 = codes "ssh-ed25519"
type_name (type.Ecdsa NistP256) = codes "ecdsa-sha2-nistp256"
type_name (type.Ecdsa NistP384) = codes "ecdsa-sha2-nistp384"
type_name (type.Ecdsa NistP521) = codes "ecdsa-sha2-nistp521"
type_name type.Rsa = codes "ssh-rsa"

-- the name with which a certificate of such a key begins (OpenSSH PROTOCOL.certkeys)
abbrev pub certificate_type_name : KeyType → List ℕ
certificate_type_name type = type_name type ++ certificate_suffix

abbrev pub type_of : PublicKey → KeyType
type_of (key.Ed25519 _) = type.Ed25519
type_of (key.Ecdsa curve _) = type.Ecdsa curve
type_of (key.Rsa _ _) = type.Rsa

-- the fields of a key after its type
abbrev pub key_fields : KeyType → List Field
-- the key (RFC 8709 section 4)
key_fields type.Ed25519 = Bytes ∷ []
-- the curve's identifier, the point (RFC 5656 section 3.1)
key_fields (type.Ecdsa _) = Text ∷ Bytes ∷ []
-- e, n (RFC 4253 section 6.6)
key_fields type.Rsa = Bytes ∷ Bytes ∷ []

-- what these fields say
abbrev pub key_values : (public : PublicKey) → Values (key_fields (type_of public))
key_values (key.Ed25519 bytes) = (bytes, tt)
key_values (key.Ecdsa curve point) = (curve_name curve, (point, tt))
key_values (key.Rsa e n) = (e, (n, tt))

-- the bytes up to this rest are the fields of the key after its type
abbrev pub SpellsKey : PublicKey → (bytes rest : List ℕ) → Type 0
SpellsKey public bytes rest = SpellsAll (key_fields (type_of public)) (key_values public) bytes rest

-- the blob is the key's: its type, its fields, and nothing else
abbrev pub IsKey : PublicKey → List ℕ → Type 0
IsKey public blob = SpellsWhole (Text ∷ key_fields (type_of public))
    (type_name (type_of public), key_values public) blob

-- the bytes do not begin with these fields, whatever they may say
abbrev pub LacksFields : List Field → List ℕ → Type 0
LacksFields fields bytes =
    (values : Values fields) (rest : List ℕ) → SpellsAll fields values bytes rest → ⊥

-- the bytes do not begin with the fields of a key of this type
abbrev pub LacksKey : KeyType → List ℕ → Type 0
LacksKey type bytes =
    (public : PublicKey) (rest : List ℕ) → type_of public ≡ type → SpellsKey public bytes rest → ⊥

-- the bytes are not the fields of a key of this type and nothing else
abbrev pub LacksWholeKey : KeyType → List ℕ → Type 0
LacksWholeKey type bytes =
    (public : PublicKey) → type_of public ≡ type → SpellsKey public bytes [] → ⊥

-- the bytes up to this rest are a name
abbrev pub SpellsName : (name bytes rest : List ℕ) → Type 0
SpellsName name bytes rest = SpellsAll (Text ∷ []) (name, tt) bytes rest

-- a blob does not begin with the name of a type, for this reason: with no name, or with another one
abbrev pub FailsType : (KeyType → List ℕ) → List ℕ → KeyError → Type 0
FailsType names blob Blob = LacksFields (Text ∷ []) blob
FailsType names blob Unknown =
    (name after : List ℕ) × SpellsName name blob after × NamesNone names name
FailsType names blob _ = ⊥

-- a blob is no key's, for this reason: its type, or else what follows it
abbrev pub FailsKey : List ℕ → KeyError → Type 0
FailsKey blob why =
    FailsType type_name blob why
    ⊎ ((type : KeyType) × (after : List ℕ) × SpellsName (type_name type) blob after × (why ≡ Blob)
    × LacksWholeKey type after)

-- what reading a blob as a key answers
abbrev pub DecodesKey : List ℕ → Result PublicKey KeyError → Type 0
DecodesKey blob (Ok public) = IsKey public blob
DecodesKey blob (Err why) = FailsKey blob why

-- a field is longer than a length of four bytes can say
abbrev pub HasLongField : PublicKey → Type 0
HasLongField (key.Ed25519 bytes) = 2 ^ 32 ≤ length bytes
HasLongField (key.Ecdsa curve point) = 2 ^ 32 ≤ length point
HasLongField (key.Rsa e n) = (2 ^ 32 ≤ length e) ⊎ (2 ^ 32 ≤ length n)

-- the key's blob, field by field
abbrev pub key_blob : PublicKey → List ℕ
key_blob (key.Ed25519 bytes) = string (codes "ssh-ed25519") ++ string bytes
key_blob (key.Ecdsa curve point) =
    string (type_name (type.Ecdsa curve)) ++ (string (curve_name curve) ++ string point)
key_blob (key.Rsa e n) = string (codes "ssh-rsa") ++ (string e ++ string n)
