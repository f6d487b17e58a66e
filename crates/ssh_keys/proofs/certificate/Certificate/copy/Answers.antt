-- Want of memory in the last two copies.
use Rattle.std.proofs.Common.{◌≡◌, refl}
use Rattle.ssh_wire.specs.declared.error.WireError.TheVariants.{NoMemory}
use Rattle.ssh_wire.proofs.Outcomes.{passed_on}
use Rattle.ssh_keys.proofs.certificate.Certificate.copy.Goals as goal

pub returns-in_err-copy-4-clause-memory : goal.returns-in_err-copy-4-clause-memory
returns-in_err-copy-4-clause-memory c =
    passed_on c.from_residual-in_err-copy-4.result c.in_err-copy-4.field-0.0 (λ e. e ≡ NoMemory)
    c.from_residual-in_err-copy-4.ensures.1
    c.in_err-copy-4.ensures.memory

pub returns-in_err-clone-6-clause-memory : goal.returns-in_err-clone-6-clause-memory
returns-in_err-clone-6-clause-memory c =
    passed_on c.from_residual-in_err-clone-6.result NoMemory (λ e. e ≡ NoMemory)
    c.from_residual-in_err-clone-6.ensures.1 refl
