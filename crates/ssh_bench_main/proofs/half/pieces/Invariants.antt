use Rattle.ssh_hub.specs.Words.{IsSeatOf}
use Rattle.ssh_bench_main.proofs.half.pieces.Given as goal

abbrev pub invariant-loop : goal.invariant-loop
invariant-loop g l = IsSeatOf l.lock l.seat
