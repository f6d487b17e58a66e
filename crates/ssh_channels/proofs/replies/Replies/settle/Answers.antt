use Rattle.std.proofs.Common.{rules}
use Rattle.ssh_channels.specs.declared.replies.Reply.TheVariants.{Settled}
use Rattle.ssh_channels.proofs.Replying.{settled_fits}
use Rattle.ssh_channels.proofs.replies.Replies.settle.Goals as goal

pub invariant_of-self-2 : goal.invariant_of-self-2
invariant_of-self-2 c =
    settled_fits c.self.inside.unsent.items c.drop_ready.new.unsent.items c.self.inside.count
    c.in-Some.index (Settled c.args.success) (search rules) c.self.invariant
