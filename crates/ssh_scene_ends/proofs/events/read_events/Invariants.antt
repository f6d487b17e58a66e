use Rattle.std.proofs.Common.{length, ◌+◌, ◌≤◌, Result, ℕ, List}
use Rattle.ssh_ends.specs.declared.event.EndEvent.{EndEvent}
use Rattle.ssh_scene.specs.Scene.{lines_of}
use Rattle.ssh_scene_ends.specs.EventLines.{BringsFrom, BringsEvents}
use Rattle.ssh_scene_ends.proofs.events.read_events.Given as goal

abbrev pub invariant-loop-line : goal.invariant-loop-line
invariant-loop-line l = record {
  so_far : (read : Result (List EndEvent) ℕ) → BringsFrom l.done l.events (lines_of l.rest) read
      → BringsEvents (lines_of l.fn.text) read;
  count : l.done + length l.rest ≤ length l.fn.text;
}

abbrev pub decreases-loop-line : goal.decreases-loop-line
decreases-loop-line l = length l.rest
