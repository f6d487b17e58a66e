use Rattle.std.proofs.Common.{◌≤◌, length}
use Rattle.ssh_script.specs.Transfer.{IsWritten}
use Rattle.ssh_script.proofs.transfer.write_all.Given as goal

abbrev pub invariant-loop-rest : goal.invariant-loop-rest
invariant-loop-rest g l = record {
  written : IsWritten (g.W.Sink.held l.fn.sink) (g.W.Sink.held l.sink) l.fn.text l.rest;
  later : g.W.Sink.faults l.fn.sink ≤ g.W.Sink.faults l.sink;
}

abbrev pub decreases-loop-rest : goal.decreases-loop-rest
decreases-loop-rest g l = length l.rest
