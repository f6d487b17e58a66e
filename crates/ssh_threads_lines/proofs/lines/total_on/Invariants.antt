use Rattle.std.proofs.Common.{◌≡◌, ◌+◌, drop}
use Rattle.ssh_transcript.specs.Summary.{in_all}
use Rattle.ssh_threads_lines.specs.Lines.{data_on}
use Rattle.ssh_threads_lines.proofs.lines.total_on.Given as goal

abbrev pub invariant-loop-entry : goal.invariant-loop-entry
invariant-loop-entry l =
    l.total + in_all (data_on l.channel.0) (drop l.entry-index l.trace)
    ≡ in_all (data_on l.channel.0) l.trace
