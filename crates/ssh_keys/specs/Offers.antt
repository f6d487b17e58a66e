-- A key or a certificate, by the name of an algorithm (RFC 4252 section 7, OpenSSH
-- PROTOCOL.certkeys).
use Rattle.std.specs.Prelude.{◌≡◌, ◌⊎◌, ℕ, List, Option, None, Result, Ok, Err}
use Rattle.ssh_keys.specs.Algorithms.{algorithm_name, certificate_name, NamesNone}
use Rattle.ssh_keys.specs.Keys.{IsKey, FailsKey}
use Rattle.ssh_keys.specs.Certificates.{IsCertificate, FailsCertificate}
use Rattle.ssh_keys.specs.declared.algorithm.Algorithm.{Algorithm}
use Rattle.ssh_keys.specs.declared.algorithm.Algorithm.TheVariants as algorithm
use Rattle.ssh_keys.specs.declared.algorithm.HashAlg.{HashAlg}
use Rattle.ssh_keys.specs.declared.error.KeyError.{KeyError}
use Rattle.ssh_keys.specs.declared.error.KeyError.TheVariants.{Unknown}
use Rattle.ssh_keys.specs.declared.key_or_certificate.PublicKeyOrCertificate.{PublicKeyOrCertificate}
use Rattle.ssh_keys.specs.declared.key_or_certificate.PublicKeyOrCertificate.TheVariants as offer
use Rattle.ssh_keys.specs.declared.public_key.PublicKey.{PublicKey}

-- the hash that an algorithm names
abbrev pub hash_of : Algorithm → Option HashAlg
hash_of algorithm.Ed25519 = None
hash_of (algorithm.Ecdsa _) = None
hash_of (algorithm.Rsa hash) = hash

-- the name and the blob say this: a key under the name of an algorithm, a certificate under that of
-- its certificates
abbrev pub IsOffer : PublicKeyOrCertificate → (name blob : List ℕ) → Type 0
IsOffer (offer.PublicKey public hash) name blob = (algorithm : Algorithm)
    × (algorithm_name algorithm ≡ name) × (hash ≡ hash_of algorithm) × IsKey public blob
IsOffer (offer.Certificate certificate) name blob =
    (algorithm : Algorithm) × (certificate_name algorithm ≡ name) × IsCertificate certificate blob

-- they say nothing, for this reason: the name is not known, or else as for the blob of a key, or of
-- a certificate
abbrev pub FailsOffer : (name blob : List ℕ) → KeyError → Type 0
FailsOffer name blob why =
    (NamesNone algorithm_name name × NamesNone certificate_name name × (why ≡ Unknown))
    ⊎ ((algorithm : Algorithm) × (algorithm_name algorithm ≡ name) × FailsKey blob why)
    ⊎ ((algorithm : Algorithm) × (certificate_name algorithm ≡ name) × FailsCertificate blob why)

-- the key that is offered: a certificate's own
abbrev pub offered_key : PublicKeyOrCertificate → PublicKey
offered_key (offer.PublicKey public _) = public
offered_key (offer.Certificate certificate) = certificate.public_key

-- it is no certificate
abbrev pub IsPlain : PublicKeyOrCertificate → Type 0
IsPlain (offer.PublicKey _ _) = Unit {0}
IsPlain (offer.Certificate _) = ⊥

-- what reading a blob by a name answers
abbrev pub DecodesOffer : (name blob : List ℕ) → Result PublicKeyOrCertificate KeyError → Type 0
DecodesOffer name blob (Ok offered) = IsOffer offered name blob
DecodesOffer name blob (Err why) = FailsOffer name blob why
