use Rattle.std.proofs.Common.{◌≡◌, [], drop}
use Rattle.ssh_wire.specs.Methods.{pushed_all}
use Rattle.ssh_wire.proofs.method_set.MethodSet.from_slice.Given as goal

-- what the rest makes of the methods so far is what all make of none
abbrev pub invariant-loop-kind : goal.invariant-loop-kind
invariant-loop-kind l = pushed_all (drop l.kind-index l.kinds) l.methods ≡ pushed_all l.kinds []
