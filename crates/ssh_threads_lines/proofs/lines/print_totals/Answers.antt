use Rattle.std.proofs.Common.{rules}
use Rattle.ssh_hub_link.specs.Given.{frames_in}
use Rattle.ssh_threads_lines.proofs.Counting.{lines_more, whole_more}
use Rattle.ssh_threads_lines.proofs.lines.print_totals.Goals as goal

pub loop-k-preserved : goal.loop-k-preserved
loop-k-preserved c = record {
  text = lines_more c.loop-k.k (frames_in c.args.trace.now) _ _ _ c.loop-k.invariant.text
      c.in_ok-is_whole.ensures.text;
  whole = search (rules, whole_more c.loop-k.k (frames_in c.args.trace.now));
}
