use Rattle.std.proofs.Common.{◌≡◌, length}
use Rattle.ssh_link.specs.Supply.{passed_over}
use Rattle.ssh_link.specs.Asked.{is_asked}
use Rattle.ssh_link.proofs.input_queue.InputQueue.pass_over.Given as goal

-- passing over what is left comes to the same as at the start
abbrev pub invariant-loop-self : goal.invariant-loop-self
invariant-loop-self l = passed_over (λ input. is_asked l.commands l.replies input.kind) l.self
    ≡ passed_over (λ input. is_asked l.commands l.replies input.kind) l.initial.self

abbrev pub decreases-loop-self : goal.decreases-loop-self
decreases-loop-self l = length l.self.left
