-- Whether a certificate's time and its own signature hold (OpenSSH PROTOCOL.certkeys: valid after,
-- valid before, signature). Its type, its principals, its critical options and who signed it are
-- not looked at.
use Rattle.std.specs.Prelude.{◌≡◌, ◌≢◌, ◌-◌, ◌*◌, ◌^◌, ◌<◌, ◌⊎◌, ℕ, List}
use Rattle.ssh_keys.specs.Algorithms.{algorithm_name}
use Rattle.ssh_keys.specs.declared.algorithm.Algorithm.{Algorithm}
use Rattle.ssh_keys.specs.declared.certificate.Certificate.{Certificate}
use Rattle.ssh_keys.specs.declared.public_key.PublicKey.{PublicKey}

-- before the second from which on it holds, where there is one; the moment is in milliseconds
abbrev pub IsEarly : Certificate → (moment : ℕ) → Type 0
IsEarly certificate moment =
    (certificate.valid_after ≢ 0) × (moment < certificate.valid_after * 1000)

-- after the first millisecond of the second before which it is valid, where there is one
abbrev pub IsLate : Certificate → (moment : ℕ) → Type 0
IsLate certificate moment =
    (certificate.valid_before ≢ 2 ^ 64 - 1) × (certificate.valid_before * 1000 < moment)

abbrev pub IsOutOfTime : Certificate → (moment : ℕ) → Type 0
IsOutOfTime certificate moment = IsEarly certificate moment ⊎ IsLate certificate moment

-- the signature's name is that of an algorithm, with which it is the signature key's of the signed
-- part
abbrev pub IsSigned : (PublicKey → Algorithm → (message signature : List ℕ) → Type 0) → Certificate
    → Type 0
IsSigned accepts certificate =
    (algorithm : Algorithm)
    × (algorithm_name algorithm ≡ certificate.signature.name)
    × accepts certificate.signature_key algorithm certificate.signed certificate.signature.blob
