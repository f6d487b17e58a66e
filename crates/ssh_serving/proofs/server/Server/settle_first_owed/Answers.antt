use Rattle.std.proofs.Common.{None}
use Rattle.ssh_channels.specs.Calls.{Settle}
use Rattle.ssh_serving.proofs.Refining.{called}
use Rattle.ssh_serving.proofs.server.Server.settle_first_owed.Goals as goal

pub returns-clause-world : goal.returns-clause-world
returns-clause-world c = λ w r.
    called (Settle c.args.channel.0 None c.args.success) c.args.self.now c.settle.new.self _ w tt
    c.in_ok-_was_owed.ensures.table r
