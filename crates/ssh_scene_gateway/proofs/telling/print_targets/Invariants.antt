use Rattle.std.proofs.Common.{◌≡◌, ◌++◌, take}
use Rattle.std.specs.Prelude.{flat_map}
use Rattle.std.specs.String.{string_bytes}
use Rattle.ssh_scene_gateway.specs.Telling.{target_line}
use Rattle.ssh_scene_gateway.proofs.telling.print_targets.Given as goal

abbrev pub invariant-loop-call : goal.invariant-loop-call
invariant-loop-call l = string_bytes l.text
    ≡ string_bytes l.fn.text ++ flat_map (target_line l.fn.calls) (take l.call-index l.calls)
