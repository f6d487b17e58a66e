use Rattle.std.specs.Prelude.{All}
use Rattle.std.specs.Arc.{arc_value}
use Rattle.ssh_hub.specs.Words.{IsSeatOf}
use Rattle.ssh_writers.specs.Writers.{IsWriterOf}
use Rattle.ssh_threads.proofs.threads.new_writers.Given as goal

abbrev pub invariant-loop-k : goal.invariant-loop-k
invariant-loop-k g l = record {
  seat : IsSeatOf (arc_value l.lock) l.seat;
  made : All (IsWriterOf (arc_value l.lock)) l.made.items;
}
