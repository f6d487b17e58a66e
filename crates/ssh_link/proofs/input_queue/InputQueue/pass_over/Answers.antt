use Rattle.std.proofs.Common.{◌∙◌, sym}
use Rattle.ssh_link.proofs.Turns.{passed_more}
use Rattle.ssh_link.proofs.input_queue.InputQueue.pass_over.Goals as goal

pub loop-self-preserved : goal.loop-self-preserved
loop-self-preserved c =
    let s = c.loop-self.self in
    let more = passed_more c.args.commands c.args.replies s.replies s.commands s.left s.end_moment
    (sym c.passes_first.ensures ∙ c.loop-self-test.true) in
    rw c.set_first_aside.ensures (more ∙ c.loop-self.invariant)
