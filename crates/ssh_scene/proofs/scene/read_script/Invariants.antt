use Rattle.std.proofs.Common.{length, ◌+◌, ◌≤◌, Result, ℕ}
use Rattle.ssh_scene.specs.Scene.{Gives, opening_scene, lines_of, scene_of, Scene}
use Rattle.ssh_scene.proofs.scene.read_script.Given as goal

abbrev pub invariant-loop-line : goal.invariant-loop-line
invariant-loop-line l = record {
  so_far : (read : Result Scene ℕ) → Gives l.done (scene_of l.script) (lines_of l.rest) read
      → Gives 0 opening_scene (lines_of l.fn.text) read;
  count : l.done + length l.rest ≤ length l.fn.text;
}

abbrev pub decreases-loop-line : goal.decreases-loop-line
decreases-loop-line l = length l.rest
