use Rattle.ssh_channels.proofs.Replying.{more_fits}
use Rattle.ssh_channels.proofs.replies.Replies.want.Goals as goal

pub invariant_of-self-2 : goal.invariant_of-self-2
invariant_of-self-2 c =
    more_fits c.self.inside.unsent.items c.push_back.new.self.items c.self.inside.count
    c.in_ok-push_back.ensures.items c.self.invariant
