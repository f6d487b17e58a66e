-- None of the first entries is the one that is looked for.
use Rattle.std.proofs.Common.{◌≡◌, ◌<◌, ℕ, get_or}
use Rattle.ssh_keys.specs.declared.table_verifier.AcceptedSignature.{AcceptedSignature}
use Rattle.ssh_keys.proofs.table_verifier.TableVerifierVerifier.verify.Given as goal

abbrev pub invariant-loop-accepted : goal.invariant-loop-accepted
invariant-loop-accepted l =
    let wanted : AcceptedSignature = record {
      key = l.key;
      algorithm = l.algorithm;
      message =
          l.message;
      signature = l.signature;
    } in
    (k : ℕ) → k < l.accepted-index → get_or l.accepted-items k wanted ≡ wanted → ⊥
