use Rattle.std.proofs.Common.{◌≤◌, ◌-◌, length}
use Rattle.ssh_script.specs.Transfer.{IsRead}
use Rattle.ssh_script.proofs.transfer.read_front.Given as goal

abbrev pub invariant-loop-source : goal.invariant-loop-source
invariant-loop-source g l = record {
  read : IsRead (g.S.Source.left l.fn.source) (g.S.Source.left l.source) l.text.items;
  within : length l.text.items ≤ l.most;
  later : g.S.Source.faults l.fn.source ≤ g.S.Source.faults l.source;
}

abbrev pub decreases-loop-source : goal.decreases-loop-source
decreases-loop-source g l = l.most - length l.text.items
