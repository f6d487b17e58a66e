use Rattle.std.proofs.Common.{◌∙◌, sym, refl, drop, Ok, Err, subst}
use Rattle.ssh_auth.specs.Plan.{Plan, Finish}
use Rattle.ssh_rules.specs.declared.error.Flow.{Flow}
use Rattle.ssh_rules.specs.declared.state.EncryptedState.TheVariants.{WaitingAuthRequest}
use Rattle.ssh_rules.specs.Outcome.{Outcome, Goes}
use Rattle.ssh_rules.specs.Reading.{Response}
use Rattle.ssh_rules.specs.Rows.{response_row, replied}
use Rattle.ssh_rules.specs.Cause.{comes}
use Rattle.ssh_serving.specs.Serve.{Does}
use Rattle.ssh_rules.specs.World.{World, waits_for}
use Rattle.ssh_serving.proofs.Requests.{response_answered, response_unanswered, asked_again}
use Rattle.ssh_serving.proofs.Serving.{passed, goes_on_plan}
use Rattle.ssh_serving.proofs.server.Server.serve_info_response.Goals as goal

pub returns-in_err-step-clause-does : goal.returns-in_err-step-clause-does
returns-in_err-step-clause-does g c = λ w r.
    let finish : Flow → World → Plan Outcome = λ flow world. Finish (comes flow world) in
    let k = response_unanswered w c.args.moment (drop 1 c.args.payload.now)
    c.in-WaitingAuthRequest.auth c.response.new.auth
    (sym r.state ∙ c.in-WaitingAuthRequest.is) _ _ finish c.in_err-step.field-0.0
    c.args.self.now c.in_err-step.ensures in (
      Response k.0,
      (k.0, k.1, refl),
      passed (response_row w c.args.moment k.0) finish finish _ _ c.args.self.now _ _ _
          c.from_residual.ensures.1 k.2,
    )

pub returns-in_err-conclude-clause-does : goal.returns-in_err-conclude-clause-does
returns-in_err-conclude-clause-does g c = λ w r.
    let new = c.response.new.auth in
    let v = waits_for (WaitingAuthRequest new) w in
    let d = subst (λ q. Does (replied v c.args.moment q c.in_ok-step.step.reply
    c.in_ok-step.step.verdict) v
    (g.O.Transport.heard c.response.new.self) (g.O.Transport.heard c.conclude.new.outside)
    c.conclude.new.self
    (Err c.in_err-conclude.field-0.0)) r.requested
    (c.in_err-conclude.ensures.does v (asked_again new c.args.self.now _ w r)) in
    let k = response_answered w c.args.moment (drop 1 c.args.payload.now)
    c.in-WaitingAuthRequest.auth new
    (sym r.state ∙ c.in-WaitingAuthRequest.is) _ _ c.in_ok-step.step _ c.conclude.new.self
    (Err c.in_err-conclude.field-0.0)
    c.in_ok-step.ensures d in (
      Response k.0,
      (k.0, k.1, refl),
      passed (response_row w c.args.moment k.0) (λ (_ : Unit {0}) world. Finish (Goes world))
          (λ flow world. Finish (comes flow world))
          _ _ c.conclude.new.self c.conclude.new.self _ _ c.from_residual-in_err-conclude.ensures.1
          k.2,
    )

pub returns-clause-does : goal.returns-clause-does
returns-clause-does g c = λ w r.
    let new = c.response.new.auth in
    let v = waits_for (WaitingAuthRequest new) w in
    let d = subst (λ q. Does (replied v c.args.moment q c.in_ok-step.step.reply
    c.in_ok-step.step.verdict) v
    (g.O.Transport.heard c.response.new.self) (g.O.Transport.heard c.conclude.new.outside)
    c.conclude.new.self
    (Ok tt)) r.requested
    (c.in_ok-conclude.ensures.does v (asked_again new c.args.self.now _ w r)) in
    let k = response_answered w c.args.moment (drop 1 c.args.payload.now)
    c.in-WaitingAuthRequest.auth new
    (sym r.state ∙ c.in-WaitingAuthRequest.is) _ _ c.in_ok-step.step _ c.conclude.new.self
    (Ok tt)
    c.in_ok-step.ensures d in (
      Response k.0,
      (k.0, k.1, refl),
      goes_on_plan (response_row w c.args.moment k.0) _ _ c.conclude.new.self k.2,
    )
