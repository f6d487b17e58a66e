use Rattle.std.proofs.Common.{length, ◌+◌, ◌≤◌, Result, ℕ, List, []}
use Rattle.ssh_scene.specs.Scene.{GivesBy, lines_of}
use Rattle.ssh_scene.specs.Pieces.{with_stream_line}
use Rattle.ssh_scene.proofs.pieces.read_pieces.Given as goal

abbrev pub invariant-loop-line : goal.invariant-loop-line
invariant-loop-line l = record {
  so_far : (read : Result (List (List ℕ)) ℕ)
      → GivesBy with_stream_line l.done l.pieces.items (lines_of l.rest) read
      → GivesBy with_stream_line 0 [] (lines_of l.fn.text) read;
  count : l.done + length l.rest ≤ length l.fn.text;
}

abbrev pub decreases-loop-line : goal.decreases-loop-line
decreases-loop-line l = length l.rest
