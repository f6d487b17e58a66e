use Rattle.std.proofs.Common.{◌∙◌, ap, subst}
use Rattle.ssh_link.specs.Told.{Adds}
use Rattle.ssh_gateway.specs.Board.{due_on}
use Rattle.ssh_gateway.specs.Doing.{FailsTelling}
use Rattle.ssh_gateway.proofs.Cutting.{fails_short}
use Rattle.ssh_gateway.proofs.switchboard.Switchboard.hear.Goals as goal

pub returns-in-Err-clause-failed : goal.returns-in-Err-clause-failed
returns-in-Err-clause-failed g c =
    subst (λ l. FailsTelling c.in-Err.fault (due_on c.args.question.now l)
    (g.T.Targets.told c.args.targets.now) (g.T.Targets.told c.tell_target.new.targets))
    (c.as_slice.ensures.value ∙ ap (λ b. b.connections) c.self.view_is) c.in-Err.ensures.failed

pub returns-in-Ok-clause-failed : goal.returns-in-Ok-clause-failed
returns-in-Ok-clause-failed g c =
    fails_short c.note.result (due_on c.args.question.now c.args.self.now.connections) _ _
    c.note.ensures.memory
    (subst (λ l. Adds (g.T.Targets.told c.args.targets.now)
    (g.T.Targets.told c.tell_target.new.targets) (due_on c.args.question.now l))
    (c.as_slice.ensures.value ∙ ap (λ b. b.connections) c.self.view_is) c.in-Ok.ensures.told)
