use Rattle.std.proofs.Common.{take, ◌++◌, ◌≡◌}
use Rattle.std.specs.Prelude.{flat_map}
use Rattle.std.specs.String.{string_bytes}
use Rattle.ssh_transcript.specs.Words.{later_mode}
use Rattle.ssh_transcript.proofs.argument.print_later_modes.Given as goal

abbrev pub invariant-loop-mode : goal.invariant-loop-mode
invariant-loop-mode l = string_bytes l.out ≡ string_bytes l.fn.out ++ flat_map later_mode
    (take l.mode-index l.modes)
