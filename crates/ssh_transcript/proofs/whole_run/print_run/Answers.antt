use Rattle.ssh_transcript.proofs.Printing.{text_of}
use Rattle.ssh_transcript.proofs.whole_run.print_run.Goals as goal

pub returns : goal.returns
returns g c = text_of _ _ _ _ _ _ _ c.new-text.ensures.bytes c.in_ok-print_calls.ensures
    c.in_ok-print_trace.ensures c.in_ok-print_last.ensures
