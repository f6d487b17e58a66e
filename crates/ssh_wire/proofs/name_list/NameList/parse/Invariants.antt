use Rattle.std.proofs.Common.{◌≡◌, map}
use Rattle.ssh_wire.proofs.name_list.NameList.parse.Given as goal

abbrev pub invariant-loop-name : goal.invariant-loop-name
invariant-loop-name l = l.names ≡ map (λ name. name.now) l.yielded
