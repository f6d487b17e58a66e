-- Certificates (OpenSSH PROTOCOL.certkeys, new public key formats).
use Rattle.std.specs.Prelude.{◌≡◌, ◌⊎◌, ℕ, List, [], ◌∷◌, ◌++◌, Result, Ok, Err}
use Rattle.ssh_wire.specs.Field.{Field, Number, Long, Text, Bytes, SpellsAll}
use Rattle.ssh_keys.specs.Keys.{certificate_type_name, type_of, SpellsName, SpellsKey, IsKey}
use Rattle.ssh_keys.specs.Keys.{LacksFields, FailsType, FailsKey}
use Rattle.ssh_keys.specs.Signatures.{EndsInSignature, LacksSignature}
use Rattle.ssh_keys.specs.declared.certificate.Certificate.{Certificate}
use Rattle.ssh_keys.specs.declared.certificate.Certified.{Certified}
use Rattle.ssh_keys.specs.declared.error.KeyError.{KeyError}
use Rattle.ssh_keys.specs.declared.error.KeyError.TheVariants.{CertificateValidation, Blob}
use Rattle.ssh_keys.specs.declared.key_type.KeyType.{KeyType}
use Rattle.ssh_keys.specs.declared.public_key.PublicKey.{PublicKey}
use Rattle.ssh_keys.specs.declared.terms.CertType.{CertType}
use Rattle.ssh_keys.specs.declared.terms.CertType.TheVariants.{User, Host}
use Rattle.ssh_keys.specs.declared.terms.Identity.{Identity}
use Rattle.ssh_keys.specs.declared.terms.Validity.{Validity}
use Rattle.ssh_keys.specs.declared.terms.Options.{Options}

-- whom a certificate is for
abbrev pub cert_type_number : CertType → ℕ
cert_type_number User = 1
cert_type_number Host = 2

-- the serial number, the type, the key id, the valid principals
abbrev pub identity_fields : List Field
identity_fields = Long ∷ Number ∷ Text ∷ Bytes ∷ []

abbrev pub SpellsIdentity : Identity → (bytes rest : List ℕ) → Type 0
SpellsIdentity identity bytes rest =
    SpellsAll identity_fields (
      identity.serial,
      (
        cert_type_number identity.cert_type,
        (identity.key_id, (identity.valid_principals, tt)),
      ),
    ) bytes rest

abbrev pub LacksIdentity : List ℕ → Type 0
LacksIdentity bytes = (identity : Identity) (rest : List ℕ) → SpellsIdentity identity bytes rest → ⊥

-- valid after, valid before
abbrev pub validity_fields : List Field
validity_fields = Long ∷ Long ∷ []

abbrev pub SpellsValidity : Validity → (bytes rest : List ℕ) → Type 0
SpellsValidity validity bytes rest =
    SpellsAll validity_fields (validity.valid_after, (validity.valid_before, tt)) bytes rest

-- the critical options, the extensions, the reserved string
abbrev pub option_fields : List Field
option_fields = Bytes ∷ Bytes ∷ Bytes ∷ []

abbrev pub SpellsOptions : Options → (bytes rest : List ℕ) → Type 0
SpellsOptions options bytes rest = SpellsAll option_fields
    (options.critical_options, (options.extensions, (options.reserved, tt))) bytes rest

-- what is certified, after the type: the nonce, the key's own fields, and what is said of the key
abbrev pub SpellsCertified : Certified → (bytes rest : List ℕ) → Type 0
SpellsCertified part bytes rest =
    (a b c d : List ℕ)
    × SpellsAll (Bytes ∷ []) (part.nonce, tt) bytes a
    × SpellsKey part.public_key a b
    × SpellsIdentity part.identity b c
    × SpellsValidity part.validity c d
    × SpellsOptions part.options d rest

-- the bytes do not begin with this, for a key of this type
abbrev pub LacksCertified : KeyType → List ℕ → Type 0
LacksCertified type bytes = (part : Certified) (rest : List ℕ) → type_of part.public_key ≡ type
    → SpellsCertified part bytes rest → ⊥

-- what the certificate certifies
abbrev pub certified : Certificate → Certified
certified certificate = record {
  nonce = certificate.nonce;
  public_key = certificate.public_key;
  identity = record {
    serial = certificate.serial;
    cert_type = certificate.cert_type;
    key_id = certificate.key_id;
    valid_principals = certificate.valid_principals;
  };
  validity =
      record { valid_after = certificate.valid_after; valid_before = certificate.valid_before };
  options = record {
    critical_options = certificate.critical_options;
    extensions =
        certificate.extensions;
    reserved = certificate.reserved;
  };
}

-- the blob is the certificate's: its type, what it certifies, the blob of the signature key, and
-- after this signed part the signature
abbrev pub IsCertificate : Certificate → List ℕ → Type 0
IsCertificate certificate blob =
    (key a b c : List ℕ)
    × SpellsName (certificate_type_name (type_of certificate.public_key)) blob a
    × SpellsCertified (certified certificate) a b
    × SpellsAll (Bytes ∷ []) (key, tt) b c
    × IsKey certificate.signature_key key
    × (blob ≡ certificate.signed ++ c)
    × EndsInSignature certificate.signature c

-- the blob begins with the name of a type of certificates
abbrev pub HasCertificateType : List ℕ → Type 0
HasCertificateType blob =
    (type : KeyType) × (after : List ℕ) × SpellsName (certificate_type_name type) blob after

-- a blob is no signature key, for this reason: a certificate signs no certificate; else as for any
-- key
abbrev pub FailsSignatureKey : List ℕ → KeyError → Type 0
FailsSignatureKey blob why =
    (HasCertificateType blob × (why ≡ CertificateValidation))
    ⊎ ((HasCertificateType blob → ⊥) × FailsKey blob why)

-- after what is certified no signature key and no signature come, for this reason, the first in the
-- order of reading
abbrev pub FailsSigned : List ℕ → KeyError → Type 0
FailsSigned bytes why =
    ((why ≡ Blob) × LacksFields (Bytes ∷ []) bytes)
    ⊎ ((key after : List ℕ) × SpellsAll (Bytes ∷ []) (key, tt) bytes after
    × (FailsSignatureKey key why ⊎ ((public : PublicKey) × IsKey public key × (why ≡ Blob)
    × LacksSignature after)))

-- after the type no certificate of it comes, for this reason
abbrev pub FailsCertified : KeyType → List ℕ → KeyError → Type 0
FailsCertified type bytes why =
    ((why ≡ Blob) × LacksCertified type bytes)
    ⊎ ((part : Certified) × (after : List ℕ) × (type_of part.public_key ≡ type)
    × SpellsCertified part bytes after × FailsSigned after why)

-- a blob is no certificate, for this reason: its type, or else what follows it
abbrev pub FailsCertificate : List ℕ → KeyError → Type 0
FailsCertificate blob why =
    FailsType certificate_type_name blob why
    ⊎ ((type : KeyType) × (after : List ℕ) × SpellsName (certificate_type_name type) blob after
    × FailsCertified type after why)

-- what reading a blob as a certificate answers
abbrev pub DecodesCertificate : List ℕ → Result Certificate KeyError → Type 0
DecodesCertificate blob (Ok certificate) = IsCertificate certificate blob
DecodesCertificate blob (Err why) = FailsCertificate blob why
