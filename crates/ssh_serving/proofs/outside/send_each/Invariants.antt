use Rattle.std.proofs.Common.{◌≡◌, ◌++◌, false}
use Rattle.ssh_link.specs.declared.link.TraceEntry.TheVariants.{Sent}
use Rattle.ssh_rules.specs.Cause.{Hears}
use Rattle.ssh_rules.specs.Heard.{AreSame}
use Rattle.ssh_serving.proofs.Finishing.{told_events}
use Rattle.ssh_serving.proofs.outside.send_each.Given as goal

abbrev pub invariant-loop-frame : goal.invariant-loop-frame
invariant-loop-frame g l = record {
  items : l.yielded ++ l.frame-iterator.rest.items ≡ l.fn.frames.items;
  does : Hears false (g.O.Transport.heard l.fn.outside) (g.O.Transport.heard l.outside)
      (told_events Sent l.yielded);
  same : AreSame (g.O.Transport.heard l.fn.outside) (g.O.Transport.heard l.outside);
}
