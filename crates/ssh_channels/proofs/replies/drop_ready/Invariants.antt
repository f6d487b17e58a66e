use Rattle.std.proofs.Common.{◌≡◌, length}
use Rattle.ssh_channels.specs.Replies.{held}
use Rattle.ssh_channels.proofs.replies.drop_ready.Given as goal

abbrev pub invariant-loop-reply : goal.invariant-loop-reply
invariant-loop-reply l = held l.unsent.items ≡ held l.fn.unsent.items

abbrev pub decreases-loop-reply : goal.decreases-loop-reply
decreases-loop-reply l = length l.unsent.items
