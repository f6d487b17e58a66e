use Rattle.ssh_wire.proofs.OpensOnce.{spells_confirmation_once, misfits_confirmation_once}
use Rattle.ssh_wire.proofs.OpensOnce.{misfits_confirmation_not_spells}
use Rattle.ssh_wire.proofs.open.one_confirmation.Goals as goal

pub returns-clause-value : goal.returns-clause-value
returns-clause-value c = spells_confirmation_once

pub returns-clause-reason : goal.returns-clause-reason
returns-clause-reason c = misfits_confirmation_once

pub returns-clause-apart : goal.returns-clause-apart
returns-clause-apart c = misfits_confirmation_not_spells
