-- What a request by a key or a certificate says, after its method's name (RFC 4252 section 7,
-- OpenSSH PROTOCOL.certkeys).
use Rattle.std.specs.Prelude.{◌≡◌, ◌≢◌, ◌↔◌, ◌⊎◌, ℕ, List, [], ◌∷◌, ◌++◌, Bool, IsTrue, Option}
use Rattle.std.specs.Prelude.{Some, None}
use Rattle.ssh_wire.specs.declared.error.WireError.{WireError}
use Rattle.ssh_wire.specs.Field.{Field, SpellsAll, MisfitsAll, MisfitsWhole}
use Rattle.ssh_wire.specs.Field.{string}
use Rattle.ssh_wire.specs.Messages.{userauth_request, publickey_fields}
use Rattle.ssh_wire.specs.Messages.{publickey_signature_fields}
use Rattle.ssh_keys.specs.declared.algorithm.Algorithm.{Algorithm}
use Rattle.ssh_keys.specs.declared.error.KeyError.{KeyError}
use Rattle.ssh_keys.specs.declared.error.KeyError.TheVariants.{Blob}
use Rattle.ssh_keys.specs.declared.key_or_certificate.PublicKeyOrCertificate.{PublicKeyOrCertificate}
use Rattle.ssh_keys.specs.declared.key_or_certificate.PublicKeyOrCertificate.TheVariants.{
  PublicKey
      as Plain,
}
use Rattle.ssh_keys.specs.declared.key_or_certificate.PublicKeyOrCertificate.TheVariants.{Certificate}
use Rattle.ssh_keys.specs.declared.public_key.PublicKey.{PublicKey}
use Rattle.ssh_keys.specs.declared.signature.Signature.{Signature}
use Rattle.ssh_keys.specs.Algorithms.{algorithm_name, certificate_name}
use Rattle.ssh_keys.specs.Checks.{IsOutOfTime, IsSigned}
use Rattle.ssh_keys.specs.Keys.{LacksFields}
use Rattle.ssh_keys.specs.Offers.{IsOffer, FailsOffer}
use Rattle.ssh_keys.specs.Signatures.{signature_fields, SpellsSignature}

-- the signatures that a verifier accepts: of a key, by an algorithm, of a message
abbrev pub Acceptance : Type 1
Acceptance = (key : PublicKey) → (algorithm : Algorithm) → (message signature : List ℕ) → Type 0

-- what a request is judged by
pub record Circumstances : Type 1 where
  pub accepts : Acceptance
  -- the session id of the key exchange (RFC 4253 section 7.2)
  pub session_id : List ℕ
  -- the time in milliseconds since 1970
  pub moment : ℕ

-- a key or a certificate as a request offers it
pub record Offer : Type 0 where
  -- the name of the algorithm and the blob, as they stand in the request
  pub name : List ℕ
  pub blob : List ℕ
  pub key : PublicKeyOrCertificate
  -- the algorithm that has to sign
  pub algorithm : Algorithm

-- the name and the blob say this key or certificate, and the name is that of the algorithm, or of
-- its certificates
abbrev pub IsOffered : Offer → Type 0
IsOffered offer =
    IsOffer offer.key offer.name offer.blob
    × ((algorithm_name offer.algorithm ≡ offer.name) ⊎ (certificate_name offer.algorithm
    ≡ offer.name))

-- a certificate holds at this moment, and the verifier accepts its own signature; a plain key needs
-- neither
abbrev pub IsUsable : Acceptance → (moment : ℕ) → PublicKeyOrCertificate → Type 0
IsUsable accepts moment (Plain key hash) = Unit {0}
IsUsable accepts moment (Certificate certificate) = (IsOutOfTime certificate moment → ⊥)
    × IsSigned accepts certificate

-- the name and the blob offer nothing that can be used: a name or a type is not known, a
-- certificate signs a certificate, or a certificate does not hold
abbrev pub OffersNothing : Acceptance → (moment : ℕ) → (name blob : List ℕ) → Type 0
OffersNothing accepts moment name blob =
    ((why : KeyError) × FailsOffer name blob why × (why ≢ Blob))
    ⊎ ((key : PublicKeyOrCertificate) × IsOffer key name blob × (IsUsable accepts moment key → ⊥))

-- boolean signed, string algorithm name, string blob
abbrev pub offer_fields : List Field
offer_fields = publickey_fields

-- the bytes up to this rest offer this, to be asked about or signed, and it can be used
abbrev pub Offers : Circumstances → (signed : Bool) → Offer → (bytes rest : List ℕ) → Type 0
Offers given signed offer bytes rest =
    SpellsAll offer_fields (signed, (offer.name, (offer.blob, tt))) bytes rest × IsOffered offer
    × IsUsable given.accepts given.moment offer.key

-- what a signature covers: string session id, then the request from its number up to its
-- signature field
abbrev pub question : (session_id unsigned : List ℕ) → List ℕ
question session_id unsigned = string session_id ++ userauth_request.number ∷ unsigned

-- what the verifier answers about a signature, where it is asked
abbrev pub IsAnswer : Acceptance → PublicKey → Algorithm → (message signature : List ℕ)
    → (accepted : Option Bool) → Type 0
IsAnswer accepts key algorithm message signature None = Unit {0}
IsAnswer accepts key algorithm message signature (Some answer) = IsTrue answer ↔ accepts key
    algorithm message signature

-- no signature field ends the request, for this reason: it does not fit, bytes follow the signature
-- that it holds, or bytes follow it
abbrev pub MisfitsSignature : List ℕ → WireError → Type 0
MisfitsSignature bytes why =
    MisfitsAll publickey_signature_fields bytes why
    ⊎ ((inner after : List ℕ) × (signature : Signature) × (rest : List ℕ)
    × SpellsAll publickey_signature_fields (inner, tt) bytes after
    × SpellsSignature signature inner rest
    × (MisfitsWhole [] rest why ⊎ ((rest ≡ []) × MisfitsWhole [] after why)))

-- a signature field comes first, and the two strings of a signature do not begin it
abbrev pub HoldsNoSignature : List ℕ → Type 0
HoldsNoSignature bytes =
    (inner after : List ℕ) × SpellsAll publickey_signature_fields (inner, tt) bytes after
    × LacksFields signature_fields inner
