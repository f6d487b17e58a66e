-- A name that does not fit, and one that no type has.
use Rattle.ssh_keys.specs.Keys.{type_name}
use Rattle.ssh_keys.proofs.Layouts.{no_type}
use Rattle.ssh_keys.proofs.Refusals.{no_name}
use Rattle.ssh_keys.proofs.key_type.KeyType.read_of_key.Goals as goal

pub returns-in_err-name-clause-refused : goal.returns-in_err-name-clause-refused
returns-in_err-name-clause-refused c =
    no_name c.from_residual.result type_name c.args.r.now.left c.in_err-name.field-0.0
    c.from_residual.ensures.1 c.in_err-name.ensures.misfit

pub returns-in-None-clause-refused : goal.returns-in-None-clause-refused
returns-in-None-clause-refused c =
    no_type type_name c.args.r.now c.text.new.self c.in_ok-name.name.now c.in_ok-name.ensures.ok
    c.in-None.ensures
