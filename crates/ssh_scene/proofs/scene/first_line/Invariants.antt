use Rattle.std.proofs.Common.{take}
use Rattle.ssh_scene.specs.Scene.{IsOneLine}
use Rattle.ssh_scene.proofs.scene.first_line.Given as goal

abbrev pub invariant-loop-i : goal.invariant-loop-i
invariant-loop-i l = IsOneLine (take l.i l.text)
