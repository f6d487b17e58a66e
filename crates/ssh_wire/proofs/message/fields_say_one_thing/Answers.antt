use Rattle.ssh_wire.proofs.Fields.{spells_all_once, spells_whole_once, misfits_all_once}
use Rattle.ssh_wire.proofs.Fields.{misfits_all_not_spells}
use Rattle.ssh_wire.proofs.message.fields_say_one_thing.Goals as goal

pub returns-clause-value : goal.returns-clause-value
returns-clause-value c = spells_all_once

pub returns-clause-reason : goal.returns-clause-reason
returns-clause-reason c = misfits_all_once

pub returns-clause-apart : goal.returns-clause-apart
returns-clause-apart c = misfits_all_not_spells

pub returns-clause-whole : goal.returns-clause-whole
returns-clause-whole c = spells_whole_once
