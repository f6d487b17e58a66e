use Rattle.std.proofs.Common.{◌≡◌, take}
use Rattle.ssh_gateway.specs.Asked.{written}
use Rattle.ssh_scene_gateway.proofs.telling.written_to.Given as goal

abbrev pub invariant-loop-call : goal.invariant-loop-call
invariant-loop-call l = l.all.items ≡ written l.id (take l.call-index l.calls)
