use Rattle.std.proofs.Common.{◌≡◌}
use Rattle.ssh_link.specs.declared.notice.Notice.TheVariants.{Channel}
use Rattle.ssh_hub.specs.Words.{IsSeatOf, view_of}
use Rattle.ssh_hub.specs.Follow.{Acts}
use Rattle.ssh_hub_link.specs.Notices.{notices, to_tell}
use Rattle.ssh_hub_link.proofs.notices.deliver.Given as goal

abbrev pub invariant-loop : goal.invariant-loop
invariant-loop g l =
    IsSeatOf l.lock l.seat
    × (l.msg ≡ l.fn.msg)
    × Acts (notices (Channel l.channel l.fn.msg)) (view_of l.fn.seat) to_tell to_tell
    (view_of l.seat)
