use Rattle.std.proofs.Common.{◌≡◌}
use Rattle.ssh_scene.specs.Scene.{scene_of}
use Rattle.ssh_scene.specs.Generated.{each_peer, open_line, data_line}
use Rattle.ssh_scene.proofs.Generating.{let_in}
use Rattle.ssh_scene.proofs.generated.generated_script.Given as goal

abbrev pub invariant-loop-peer : goal.invariant-loop-peer
invariant-loop-peer l = scene_of l.script ≡ each_peer open_line l.peer let_in

abbrev pub invariant-loop-peer-2 : goal.invariant-loop-peer-2
invariant-loop-peer-2 l = scene_of l.script
    ≡ each_peer data_line l.peer (each_peer open_line l.channels let_in)
