use Rattle.ssh_hub.specs.Words.{IsSeatOf}
use Rattle.std.specs.Arc.{arc_value}
use Rattle.ssh_handles_vectors.proofs.ample.handles_put.Given as goal

abbrev pub invariant-loop-call : goal.invariant-loop-call
invariant-loop-call g l = IsSeatOf (arc_value l.lock) l.seat
