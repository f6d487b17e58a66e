use Rattle.ssh_hub.specs.Words.{IsSeatOf}
use Rattle.ssh_link_vectors.proofs.hub.rings.turn_over.Given as goal

abbrev pub invariant-loop-round : goal.invariant-loop-round
invariant-loop-round g l = IsSeatOf l.lock l.seat
