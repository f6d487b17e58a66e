use Rattle.std.proofs.Common.{Some}
use Rattle.ssh_channels.specs.Calls.{Settle}
use Rattle.ssh_serving.proofs.Refining.{called}
use Rattle.ssh_serving.proofs.server.Server.settle_one.Goals as goal

pub returns-in_ok-_was_owed-in-Some-clause-world : goal.returns-in_ok-_was_owed-in-Some-clause-world
returns-in_ok-_was_owed-in-Some-clause-world c = λ w r.
    rw c.in-Some.is (called (Settle c.args.asked.channel.0 (Some c.in-Some.place) c.args.success)
    c.args.self.now c.settle.new.self _ w tt c.in_ok-_was_owed-in-Some.ensures.table r)
