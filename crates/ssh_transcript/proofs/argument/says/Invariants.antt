use Rattle.std.proofs.Common.{take, ◌≡◌}
use Rattle.ssh_transcript.proofs.argument.says.Given as goal

abbrev pub invariant-loop-argument : goal.invariant-loop-argument
invariant-loop-argument l = l.copies.items ≡ take l.argument-index l.arguments
