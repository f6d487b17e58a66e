use Rattle.std.proofs.Common.{◌≡◌, ◌++◌}
use Rattle.std.specs.String.{string_bytes}
use Rattle.ssh_hub_link.specs.Given.{frames_in}
use Rattle.ssh_threads_lines.specs.Lines.{total_lines, are_whole}
use Rattle.ssh_threads_lines.proofs.lines.print_totals.Given as goal

abbrev pub invariant-loop-k : goal.invariant-loop-k
invariant-loop-k l = record {
  text : string_bytes l.text ≡ string_bytes l.fn.text ++ total_lines l.k (frames_in l.trace);
  whole : l.are_whole ≡ are_whole l.k (frames_in l.trace);
}
