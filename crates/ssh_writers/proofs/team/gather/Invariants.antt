use Rattle.std.specs.Prelude.{All, length}
use Rattle.ssh_writers.specs.Writers.{IsBackOf}
use Rattle.ssh_writers.proofs.team.gather.Given as goal

abbrev pub invariant-loop-one : goal.invariant-loop-one
invariant-loop-one l = record {
  seats : All (IsBackOf l.lock) l.done.items;
  all : IsBackOf l.lock l.all;
}

abbrev pub decreases-loop-one : goal.decreases-loop-one
decreases-loop-one l = length l.done.items
