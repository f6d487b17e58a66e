-- A list of signatures that are accepted.
use Rattle.std.specs.Prelude.{ℕ, List, Contains}
use Rattle.ssh_keys.specs.declared.algorithm.Algorithm.{Algorithm}
use Rattle.ssh_keys.specs.declared.public_key.PublicKey.{PublicKey}
use Rattle.ssh_keys.specs.declared.table_verifier.AcceptedSignature.{AcceptedSignature}

-- the four stand in the list together
abbrev pub IsListed : List AcceptedSignature → PublicKey → Algorithm → (message signature : List ℕ)
    → Type 0
IsListed table key algorithm message signature =
    Contains table (record {
      key = key;
      algorithm = algorithm;
      message = message;
      signature =
          signature;
    })
