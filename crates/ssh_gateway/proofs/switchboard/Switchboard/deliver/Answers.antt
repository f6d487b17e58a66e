use Rattle.ssh_gateway.specs.Board.{all_due}
use Rattle.ssh_gateway.specs.Doing.{closed_to}
use Rattle.ssh_gateway.proofs.Cutting.{fails_more, fails_behind_if}
use Rattle.ssh_gateway.proofs.switchboard.Switchboard.deliver.Goals as goal

pub returns-in-Err-clause-failed : goal.returns-in-Err-clause-failed
returns-in-Err-clause-failed g c = fails_more c.in-Err.fault (closed_to c.args.closes)
    (all_due c.args.asked.now c.args.self.now) _ _ c.in-Err.ensures.failed

pub returns-in-Ok-clause-failed : goal.returns-in-Ok-clause-failed
returns-in-Ok-clause-failed g c = fails_behind_if c.hear_all.result (closed_to c.args.closes)
    (all_due c.args.asked.now c.args.self.now) _ _ _ c.in-Ok.ensures.told c.hear_all.ensures.failed
