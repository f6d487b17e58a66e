use Rattle.ssh_link.proofs.Turns.{next_asked}
use Rattle.ssh_link.proofs.memory_link.MemoryLinkLink.next.Goals as goal

pub returns-clause-asked : goal.returns-clause-asked
returns-clause-asked c =
    rw c.give_next.ensures.input (next_asked c.args.commands c.args.replies c.self.inside.inputs)
