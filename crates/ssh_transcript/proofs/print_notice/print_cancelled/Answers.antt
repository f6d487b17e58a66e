use Rattle.std.specs.Prelude.{codes}
use Rattle.std.specs.Fmt.{decimal}
use Rattle.std.proofs.Common.{◌++◌}
use Rattle.ssh_transcript.specs.Words.{flag_text}
use Rattle.ssh_transcript.proofs.Printing.{split_pieces}
use Rattle.ssh_transcript.proofs.print_notice.print_cancelled.Goals as goal

pub returns : goal.returns
returns c = split_pieces c.print_flag.result _ _ _
    (codes "- Cancelled " ++ decimal c.args.slot) (codes " ") (flag_text c.args.ok)
    c.in_ok-print_field.ensures c.print_flag.ensures
