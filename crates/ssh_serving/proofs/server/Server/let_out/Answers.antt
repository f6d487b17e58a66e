use Rattle.std.proofs.Common.{true, subst, sym}
use Rattle.ssh_serving.specs.Handing.{lets_out}
use Rattle.ssh_serving.specs.Serve.{Refines}
use Rattle.ssh_serving.proofs.Refining.{let_out_to}
use Rattle.ssh_serving.proofs.server.Server.let_out.Goals as goal

pub returns-in_ok-flush_all_pending-clause-world :
    goal.returns-in_ok-flush_all_pending-clause-world
returns-in_ok-flush_all_pending-clause-world c = λ w r.
    rw c.if-done.true (let_out_to c.args.self.now c.flush_all_pending.new.self _ w
    c.in_ok-flush_all_pending.ensures.table r)
