use Rattle.std.proofs.Common.{sym, ◌∙◌, ap, subst}
use Rattle.ssh_gateway.specs.Doing.{FailsLooking}
use Rattle.ssh_gateway.proofs.Choices.{fails_choosing}
use Rattle.ssh_gateway.proofs.switchboard.Switchboard.heed.Goals as goal

pub returns-in-Err-clause-failed : goal.returns-in-Err-clause-failed
returns-in-Err-clause-failed g c = λ w permits r none.
    fails_choosing c.in-Err.fault permits w c.args.self.now _ _ none
    (sym (c.commands_wanted.ensures.world w r) ∙ c.if-not-commands_wanted.false)
    (subst (λ l. FailsLooking c.in-Err.fault w l (g.T.Targets.told c.args.targets.now)
    (g.T.Targets.told c.look.new.targets))
    (c.as_slice.ensures.value ∙ ap (λ b. b.connections) c.self.view_is)
    (c.in-Err.ensures.failed w r))
