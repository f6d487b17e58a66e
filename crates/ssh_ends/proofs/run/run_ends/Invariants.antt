use Rattle.std.proofs.Common.{length}
use Rattle.ssh_ends.proofs.Stories.{Progress}
use Rattle.ssh_ends.proofs.run.run_ends.Given as goal

abbrev pub invariant-loop-event : goal.invariant-loop-event
invariant-loop-event l = Progress l.window l.packet l.fn.events l.rest l.ends l.deliveries

abbrev pub decreases-loop-event : goal.decreases-loop-event
decreases-loop-event l = length l.rest
