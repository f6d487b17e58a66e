use Rattle.std.proofs.Common.{◌≤◌}
use Rattle.ssh_gateway.proofs.Delivering.{IsHeard}
use Rattle.ssh_gateway.proofs.switchboard.Switchboard.hear_all.Given as goal

-- so many were heard
abbrev pub invariant-loop-question : goal.invariant-loop-question
invariant-loop-question g l = record {
  heard : IsHeard l.asked l.question-index l.fn.self l.self (g.T.Targets.told l.fn.targets)
      (g.T.Targets.told l.targets);
  later : g.T.Targets.faults l.fn.targets ≤ g.T.Targets.faults l.targets;
}
