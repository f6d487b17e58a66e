use Rattle.ssh_wire.proofs.MethodSets.{IsHeld-all_methods}
use Rattle.ssh_wire.proofs.method_set.MethodSet.client_supported.Goals as goal

pub invariant_of-result : goal.invariant_of-result
invariant_of-result c = IsHeld-all_methods
