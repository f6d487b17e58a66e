use Rattle.std.proofs.Common.{drop, ◌++◌, ◌≡◌}
use Rattle.std.specs.String.{string_bytes}
use Rattle.ssh_transcript.specs.Print.{entry_lines}
use Rattle.ssh_transcript.proofs.print.print_trace.Given as goal

abbrev pub invariant-loop-entry : goal.invariant-loop-entry
invariant-loop-entry l = string_bytes l.out ++ entry_lines l.taken (drop l.entry-index l.entries)
    ≡ string_bytes l.fn.out ++ entry_lines 0 l.entries
