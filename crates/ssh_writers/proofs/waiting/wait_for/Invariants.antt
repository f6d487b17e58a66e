use Rattle.ssh_hub.specs.Words.{IsSeatOf}
use Rattle.ssh_writers.proofs.waiting.wait_for.Given as goal

abbrev pub invariant-loop : goal.invariant-loop
invariant-loop g l = IsSeatOf l.lock l.seat
