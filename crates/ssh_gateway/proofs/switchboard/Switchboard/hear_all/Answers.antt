use Rattle.std.proofs.Common.{arith}
use Rattle.ssh_gateway.proofs.Delivering.{heard_none, heard_more, heard_part}
use Rattle.ssh_gateway.proofs.switchboard.Switchboard.hear_all.Goals as goal

pub loop-question-init : goal.loop-question-init
loop-question-init g c = record {
  heard = heard_none c.args.asked.now c.args.self.now (g.T.Targets.told c.args.targets.now);
  later = omega arith;
}

pub loop-question-preserved : goal.loop-question-preserved
loop-question-preserved g c =
    let first = c.loop-question.invariant.later in
    let more = c.in-Ok.ensures.later in
    record {
      heard = heard_more c.args.asked.now c.loop-question.question-index c.question-item.result
          c.args.self.now c.loop-question.self c.hear.new.self _ _ _ c.loop-question-test.true
          c.question-item.is c.loop-question.invariant.heard c.in-Ok.ensures.noted
          c.in-Ok.ensures.told;
      later = omega (arith, first, more);
    }

pub returns-in-Err-clause-failed : goal.returns-in-Err-clause-failed
returns-in-Err-clause-failed g c =
    heard_part c.in-Err.fault c.args.asked.now c.loop-question.question-index
    c.question-item.result c.args.self.now c.loop-question.self _ _ _ c.loop-question-test.true
    c.question-item.is c.loop-question.invariant.heard c.in-Err.ensures.failed
