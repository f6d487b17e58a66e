use Rattle.std.proofs.Common.{◌≡◌, ◌++◌, ◌+◌, List, false, length}
use Rattle.ssh_link.specs.declared.link.TraceEntry.TheVariants.{Noticed}
use Rattle.ssh_link.specs.declared.notice.Notice.{Notice}
use Rattle.ssh_rules.specs.Cause.{Hears}
use Rattle.ssh_rules.specs.Heard.{AreSame}
use Rattle.ssh_serving.proofs.Finishing.{told_events}
use Rattle.ssh_serving.proofs.outside.tell_each.Given as goal

abbrev pub invariant-loop-told : goal.invariant-loop-told
invariant-loop-told g l = (told : List Notice)
    × (told ++ l.notices.items ≡ l.fn.notices.items)
    × (l._told + length l.notices.items ≡ length l.fn.notices.items)
    × Hears false (g.O.Transport.heard l.fn.outside) (g.O.Transport.heard l.outside)
    (told_events Noticed told)
    × AreSame (g.O.Transport.heard l.fn.outside) (g.O.Transport.heard l.outside)
