use Rattle.std.proofs.Common.{◌≡◌, take}
use Rattle.ssh_wire.specs.Methods.{without}
use Rattle.ssh_wire.proofs.method_set.MethodSet.remove.Given as goal

abbrev pub invariant-loop-kind : goal.invariant-loop-kind
invariant-loop-kind l = l.left ≡ without l.method (take l.kind-index l.kind-items)
