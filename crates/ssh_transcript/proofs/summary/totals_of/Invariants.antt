use Rattle.std.proofs.Common.{◌≡◌, ◌+◌, drop}
use Rattle.ssh_transcript.specs.Summary.{channels, frames, bytes}
use Rattle.ssh_transcript.proofs.summary.totals_of.Given as goal

abbrev pub invariant-loop-entry : goal.invariant-loop-entry
invariant-loop-entry l =
    (l.totals.channels + channels (drop l.entry-index l.trace) ≡ channels l.trace)
    × (l.totals.frames + frames (drop l.entry-index l.trace) ≡ frames l.trace)
    × (l.totals.bytes + bytes (drop l.entry-index l.trace) ≡ bytes l.trace)
