use Rattle.ssh_wire.proofs.MethodSets.{IsHeld-none}
use Rattle.ssh_wire.proofs.method_set.MethodSet.empty.Goals as goal

pub invariant_of-result : goal.invariant_of-result
invariant_of-result c = IsHeld-none
