use Rattle.std.proofs.Common.{length, ◌+◌, ◌≤◌, Result, ℕ}
use Rattle.ssh_scene.specs.Scene.{lines_of}
use Rattle.ssh_scene_gateway.specs.GatewayScene.{GatewayScene, BringsFrom, BringsGateway, gateway_of}
use Rattle.ssh_scene_gateway.proofs.reading.read_gateway.Given as goal

abbrev pub invariant-loop-line : goal.invariant-loop-line
invariant-loop-line l = record {
  so_far : (read : Result GatewayScene ℕ)
      → BringsFrom l.done (gateway_of l.script) (lines_of l.rest) read
      → BringsGateway (lines_of l.fn.text) read;
  count : l.done + length l.rest ≤ length l.fn.text;
}

abbrev pub decreases-loop-line : goal.decreases-loop-line
decreases-loop-line l = length l.rest
