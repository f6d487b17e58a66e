use Rattle.std.proofs.Common.{sym, ◌∙◌, subst, refl}
use Rattle.ssh_session.specs.Between.{OwesUnlessEnded}
use Rattle.ssh_auth.specs.Plan.{Finish}
use Rattle.ssh_rules.specs.Cause.{comes}
use Rattle.ssh_rules.specs.Cut.{IsCut}
use Rattle.ssh_rules.specs.Run.{hand_on, is_over}
use Rattle.ssh_serving.specs.Handing.{IsCutBehind}
use Rattle.ssh_serving.proofs.Handing.{behind_cut, to_other}
use Rattle.ssh_session.proofs.run.take_unless_ended.Goals as goal

pub returns-then-server-clause-does : goal.returns-then-server-clause-does
returns-then-server-clause-does g c = λ w r repeats. (
  hand_on w is_over,
  subst (λ b. OwesUnlessEnded b (g.V.Verifier.accepts c.args.verifier.now) w c.args.input
      (hand_on w is_over))
      (sym c.if-server.true ∙ r.disconnected) refl,
  to_other IsCutBehind IsCut (hand_on w is_over) (λ flow world. Finish (comes flow world)) _ _
      c.end_run.new.server c.end_run.result (c.end_run.ensures.does w r)
      (λ cause events cut. behind_cut cause _ (hand_on w is_over) events cut),
)

pub returns-clause-does : goal.returns-clause-does
returns-clause-does g c = λ w r repeats.
    let s = c.take.ensures.does w r repeats in (
      s.0,
      subst (λ b. OwesUnlessEnded b (g.V.Verifier.accepts c.args.verifier.now) w c.args.input s.0)
          (sym c.if-server.false ∙ r.disconnected) s.1,
      s.2,
    )
