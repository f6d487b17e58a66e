use Rattle.std.proofs.Common.{length}
use Rattle.ssh_transcript.proofs.argument.+print_arguments.Given as goal

abbrev pub decreases-print_arguments : goal.decreases-print_arguments
decreases-print_arguments l = length l.arguments.now
