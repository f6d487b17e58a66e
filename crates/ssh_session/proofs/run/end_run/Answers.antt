use Rattle.std.proofs.Common.{Err, inr}
use Rattle.ssh_auth.specs.Plan.{Finish}
use Rattle.ssh_rules.specs.declared.error.Flow.TheVariants.{Ended}
use Rattle.ssh_rules.specs.Run.{hand_on, handed_on, is_over}
use Rattle.ssh_rules.specs.Cause.{comes}
use Rattle.ssh_serving.specs.Handing.{IsCutBehind, IsCutByLink}
use Rattle.ssh_serving.proofs.Handing.{passed_to, to_other}
use Rattle.ssh_serving.proofs.Serving.{settled}
use Rattle.ssh_session.proofs.run.end_run.Goals as goal

pub returns-in_err-hand_on-clause-does : goal.returns-in_err-hand_on-clause-does
returns-in_err-hand_on-clause-does g c = λ w r.
    passed_to {U = Unit {0}} IsCutBehind (hand_on w is_over) (λ _ _. is_over (handed_on w))
    (λ flow world. Finish (comes flow world)) _ _
    c.hand_on.new.server c.hand_on.new.server _ _ c.from_residual.ensures.1
    (to_other IsCutByLink IsCutBehind (hand_on w is_over)
    (λ (_ : Unit {0}) _. is_over (handed_on w)) _ _
    c.hand_on.new.server (Err _) (c.in_err-hand_on.ensures.does w r is_over) (λ _ _ link. inr link))

pub returns-clause-does : goal.returns-clause-does
returns-clause-does g c = λ w r. (
  settled Ended (hand_on w is_over) (λ flow world. Finish (comes flow world)) _ _ (handed_on w)
      c.hand_on.new.server (c.in_ok-hand_on.ensures.world w r)
      (c.in_ok-hand_on.ensures.does w r is_over).0,
  tt,
)
