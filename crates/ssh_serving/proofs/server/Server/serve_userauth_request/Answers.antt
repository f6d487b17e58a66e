use Rattle.std.proofs.Common.{◌∙◌, sym, refl, drop, Ok, Err}
use Rattle.ssh_auth.specs.Plan.{Plan, Finish}
use Rattle.ssh_rules.specs.declared.error.Flow.{Flow}
use Rattle.ssh_rules.specs.declared.state.EncryptedState.TheVariants.{WaitingAuthRequest}
use Rattle.ssh_rules.specs.Outcome.{Outcome, Goes}
use Rattle.ssh_rules.specs.Reading.{Request}
use Rattle.ssh_rules.specs.Rows.{request_row}
use Rattle.ssh_rules.specs.Cause.{comes}
use Rattle.ssh_rules.specs.World.{World, waits_for}
use Rattle.ssh_serving.proofs.Requests.{request_answered, request_unanswered, asked_again}
use Rattle.ssh_serving.proofs.Serving.{passed, goes_on_plan}
use Rattle.ssh_serving.proofs.server.Server.serve_userauth_request.Goals as goal

pub returns-in_err-step-clause-does : goal.returns-in_err-step-clause-does
returns-in_err-step-clause-does g c = λ w r.
    let finish : Flow → World → Plan Outcome = λ flow world. Finish (comes flow world) in
    let old = c.in-WaitingAuthRequest.auth in
    let k = request_unanswered (g.V.Verifier.accepts c.args.verifier.now) w c.args.moment
    (drop 1 c.args.payload.now)
    c.as_slice-id.result.now old c.request.new.auth (sym r.state ∙ c.in-WaitingAuthRequest.is)
    (c.as_slice-id.ensures ∙ r.session_id) _ _ finish c.in_err-step.field-0.0 c.args.self.now
    c.in_err-step.ensures in (
      Request k.0,
      (k.0, k.1, refl),
      passed (request_row w c.args.moment k.0) finish finish _ _ c.args.self.now _ _ _
          c.from_residual.ensures.1 k.2,
    )

pub returns-in_err-conclude-clause-does : goal.returns-in_err-conclude-clause-does
returns-in_err-conclude-clause-does g c = λ w r.
    let old = c.in-WaitingAuthRequest.auth in
    let new = c.request.new.auth in
    let v = waits_for (WaitingAuthRequest new) w in
    let k = request_answered (g.V.Verifier.accepts c.args.verifier.now) w c.args.moment
    (drop 1 c.args.payload.now)
    c.as_slice-id.result.now old new (sym r.state ∙ c.in-WaitingAuthRequest.is)
    (c.as_slice-id.ensures ∙ r.session_id) _ _ c.in_ok-step.step _ c.conclude.new.self
    (Err c.in_err-conclude.field-0.0)
    c.in_ok-step.ensures (c.in_err-conclude.ensures.does v (asked_again new c.args.self.now _ w
    r)) in (
      Request k.0,
      (k.0, k.1, refl),
      passed (request_row w c.args.moment k.0) (λ (_ : Unit {0}) world. Finish (Goes world))
          (λ flow world. Finish (comes flow world))
          _ _ c.conclude.new.self c.conclude.new.self _ _ c.from_residual-in_err-conclude.ensures.1
          k.2,
    )

pub returns-clause-does : goal.returns-clause-does
returns-clause-does g c = λ w r.
    let old = c.in-WaitingAuthRequest.auth in
    let new = c.request.new.auth in
    let v = waits_for (WaitingAuthRequest new) w in
    let k = request_answered (g.V.Verifier.accepts c.args.verifier.now) w c.args.moment
    (drop 1 c.args.payload.now)
    c.as_slice-id.result.now old new (sym r.state ∙ c.in-WaitingAuthRequest.is)
    (c.as_slice-id.ensures ∙ r.session_id) _ _ c.in_ok-step.step _ c.conclude.new.self (Ok tt)
    c.in_ok-step.ensures (c.in_ok-conclude.ensures.does v (asked_again new c.args.self.now _ w
    r)) in (
      Request k.0,
      (k.0, k.1, refl),
      goes_on_plan (request_row w c.args.moment k.0) _ _ c.conclude.new.self k.2,
    )
