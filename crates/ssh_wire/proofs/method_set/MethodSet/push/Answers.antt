use Rattle.ssh_wire.proofs.MethodSets.{has_self-without}
use Rattle.ssh_wire.proofs.method_set.MethodSet.push.Goals as goal

pub append-requires : goal.append-requires
append-requires c = rw c.remove.ensures (has_self-without c.args.method c.args.self.now)
