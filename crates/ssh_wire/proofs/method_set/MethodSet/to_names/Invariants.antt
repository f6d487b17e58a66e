use Rattle.std.proofs.Common.{◌≡◌, map, take}
use Rattle.ssh_wire.specs.Methods.{method_name}
use Rattle.ssh_wire.proofs.method_set.MethodSet.to_names.Given as goal

abbrev pub invariant-loop-kind : goal.invariant-loop-kind
invariant-loop-kind l = l.names ≡ map method_name (take l.kind-index l.kind-items)
