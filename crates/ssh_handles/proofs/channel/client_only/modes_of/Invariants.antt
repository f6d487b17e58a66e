use Rattle.std.proofs.Common.{◌≡◌, take}
use Rattle.ssh_handles.proofs.channel.client_only.modes_of.Given as goal

abbrev pub invariant-loop-item : goal.invariant-loop-item
invariant-loop-item l = l.modes ≡ take l.item-index l.items
