use Rattle.std.proofs.Common.{take, ◌++◌, ◌≡◌}
use Rattle.std.specs.Prelude.{flat_map}
use Rattle.std.specs.String.{string_bytes}
use Rattle.ssh_transcript.specs.Words.{hex_word}
use Rattle.ssh_transcript.proofs.argument.print_responses.Given as goal

abbrev pub invariant-loop-text : goal.invariant-loop-text
invariant-loop-text l = string_bytes l.out ≡ string_bytes l.fn.out
    ++ flat_map hex_word (take l.text-index l.responses)
