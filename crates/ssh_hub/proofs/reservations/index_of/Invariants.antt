use Rattle.std.proofs.Common.{◌≡◌, take, None}
use Rattle.ssh_hub.specs.Reserved.{index_of}
use Rattle.ssh_hub.proofs.reservations.index_of.Given as goal

abbrev pub invariant-loop-at : goal.invariant-loop-at
invariant-loop-at l = index_of l.fn.channel (take l.at l.fn.list) ≡ None
