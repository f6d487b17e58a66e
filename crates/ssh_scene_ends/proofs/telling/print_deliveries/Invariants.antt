use Rattle.std.proofs.Common.{take, ◌++◌, ◌≡◌}
use Rattle.std.specs.Prelude.{flat_map}
use Rattle.std.specs.String.{string_bytes}
use Rattle.ssh_scene_ends.specs.Telling.{delivery_line}
use Rattle.ssh_scene_ends.proofs.telling.print_deliveries.Given as goal

abbrev pub invariant-loop-delivery : goal.invariant-loop-delivery
invariant-loop-delivery l = string_bytes l.text ≡ string_bytes l.fn.text
    ++ flat_map delivery_line (take l.delivery-index l.deliveries)
