use Rattle.ssh_wire.proofs.MethodSets.{listed-fits}
use Rattle.ssh_wire.proofs.method_set.MethodSet.to_names.Goals as goal

pub returns-clause-short : goal.returns-clause-short
returns-clause-short c =
    listed-fits c.as_slice-kind-items.result.now c.loop-kind.kind-index c.loop-kind.names
    c.loop-kind-test.false c.loop-kind.invariant c.as_slice-kind-items.ensures.distinct
