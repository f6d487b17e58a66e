use Rattle.std.proofs.Common.{refl}
use Rattle.ssh_gateway.specs.declared.targets.TargetCall.TheVariants.{Close}
use Rattle.ssh_gateway.proofs.Cutting.{fails_alone}
use Rattle.ssh_gateway.proofs.hearing.close_own.Goals as goal

pub returns-in-Some-clause-failed : goal.returns-in-Some-clause-failed
returns-in-Some-clause-failed g c = rw c.in-Some.is (fails_alone c.close.result _ _ _
    (λ r. Close c.in-Some.id r) refl (λ fault. refl) c.close.ensures.told)
