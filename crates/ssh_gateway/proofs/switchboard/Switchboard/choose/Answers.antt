use Rattle.std.proofs.Common.{◌∙◌, ap, subst}
use Rattle.std.specs.Prelude.{IfErr}
use Rattle.ssh_gateway.specs.Choosing.{to_decide}
use Rattle.ssh_gateway.specs.Doing.{FailsChoosing, IsDecided}
use Rattle.ssh_gateway.proofs.Choices.{chooses_decided}
use Rattle.ssh_gateway.proofs.switchboard.Switchboard.choose.Goals as goal

pub returns-in-Ok-Some-clause-chosen : goal.returns-in-Ok-Some-clause-chosen
returns-in-Ok-Some-clause-chosen g c = λ w r.
    chooses_decided (g.P.Policy.permits c.args.policy.now) w c.args.self.now c.decide.new.self _ _
    c.in-Ok-Some.kind
    (subst (IsDecided (g.P.Policy.permits c.args.policy.now) w c.args.self.now c.decide.new.self
    (g.T.Targets.told c.args.targets.now) (g.T.Targets.told c.decide.new.targets))
    c.in-Ok-Some.field-0-is (c.in-Ok-Some.ensures.decided w r))

pub returns-in-Ok-None-clause-failed : goal.returns-in-Ok-None-clause-failed
returns-in-Ok-None-clause-failed g c = λ w r.
    let permits = g.P.Policy.permits c.args.policy.now in
    let none = subst (IsDecided permits w c.args.self.now c.decide.new.self
    (g.T.Targets.told c.args.targets.now) (g.T.Targets.told c.decide.new.targets))
    c.in-Ok-None.field-0-is (c.in-Ok-None.ensures.decided w r) in
    subst (λ told. IfErr c.heed.result (λ fault. FailsChoosing fault permits w c.args.self.now told
    (g.T.Targets.told c.heed.new.targets))) none.2
    (subst (λ board. IfErr c.heed.result (λ fault. FailsChoosing fault permits w board
    (g.T.Targets.told c.decide.new.targets) (g.T.Targets.told c.heed.new.targets))) none.1
    (c.heed.ensures.failed w permits r (ap (to_decide w) none.1 ∙ none.0)))
