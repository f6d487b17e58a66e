use Rattle.std.proofs.Common.{◌≡◌, [], drop}
use Rattle.ssh_wire.specs.Methods.{named, pushed_all}
use Rattle.ssh_wire.proofs.method_set.MethodSet.from_names.Given as goal

-- what the rest makes of the methods so far is what all make of none
abbrev pub invariant-loop-name : goal.invariant-loop-name
invariant-loop-name l =
    pushed_all (named (drop l.name-index l.name-items)) l.methods ≡ pushed_all (named l.names) []
