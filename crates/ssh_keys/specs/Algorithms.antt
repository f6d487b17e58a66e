-- The algorithms of signatures and their names (RFC 4253 section 6.6, RFC 5656 section 6.2, RFC
-- 8332 section 3, RFC 8709 section 4).
use Rattle.std.specs.Prelude.{◌≡◌, ℕ, List, ◌++◌, Some, None, codes}
use Rattle.ssh_keys.specs.declared.algorithm.Algorithm.{Algorithm}
use Rattle.ssh_keys.specs.declared.algorithm.Algorithm.TheVariants.{Ed25519, Ecdsa, Rsa}
use Rattle.ssh_keys.specs.declared.algorithm.EcdsaCurve.{EcdsaCurve}
use Rattle.ssh_keys.specs.declared.algorithm.EcdsaCurve.TheVariants.{NistP256, NistP384, NistP521}
use Rattle.ssh_keys.specs.declared.algorithm.HashAlg.TheVariants.{Sha256, Sha512}

-- the identifier of a curve (RFC 5656 section 10.1)
abbrev pub curve_name : EcdsaCurve → List ℕ
curve_name NistP256 = codes "nistp256"
curve_name NistP384 = codes "nistp384"
curve_name NistP521 = codes "nistp521"

abbrev pub algorithm_name : Algorithm → List ℕ
algorithm_name Ed25519 = codes "ssh-ed25519"
algorithm_name (Ecdsa NistP256) = codes "ecdsa-sha2-nistp256"
algorithm_name (Ecdsa NistP384) = codes "ecdsa-sha2-nistp384"
algorithm_name (Ecdsa NistP521) = codes "ecdsa-sha2-nistp521"
algorithm_name (Rsa None) = codes "ssh-rsa"
algorithm_name (Rsa (Some Sha256)) = codes "rsa-sha2-256"
algorithm_name (Rsa (Some Sha512)) = codes "rsa-sha2-512"

-- what follows the name of a plain key in the name of its certificates (OpenSSH PROTOCOL.certkeys)
abbrev pub certificate_suffix : List ℕ
certificate_suffix = codes "-cert-v01@openssh.com"

abbrev pub certificate_name : Algorithm → List ℕ
certificate_name algorithm = algorithm_name algorithm ++ certificate_suffix

-- none of the things that these names name has this name
abbrev pub NamesNone : {A : Type 0} → (A → List ℕ) → List ℕ → Type 0
NamesNone {A} names name = (thing : A) → names thing ≡ name → ⊥
