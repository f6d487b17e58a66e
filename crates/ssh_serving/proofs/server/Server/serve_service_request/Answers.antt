use Rattle.std.proofs.Common.{Ok, Err, inl, inr, refl}
use Rattle.ssh_auth.specs.Plan.{Plan, Finish}
use Rattle.ssh_rules.specs.declared.error.Flow.{Flow}
use Rattle.ssh_rules.specs.Outcome.{Outcome, Goes}
use Rattle.ssh_rules.specs.Reading.{Unfit}
use Rattle.ssh_rules.specs.Rows.{row, service_row}
use Rattle.ssh_rules.specs.Cause.{comes}
use Rattle.ssh_rules.specs.World.{World}
use Rattle.ssh_serving.proofs.Serving.{passed, unfit, goes_on_plan}
use Rattle.ssh_serving.proofs.server.Server.serve_service_request.Goals as goal

pub returns-in_err-name-clause-does : goal.returns-in_err-name-clause-does
returns-in_err-name-clause-does g c = λ w moment r.
    let why = c.in_err-name.field-0.0 in
    let finish : Flow → World → Plan Outcome = λ flow world. Finish (comes flow world) in (
      Err why,
      inr (why, c.in_err-name.ensures, refl),
      passed (row w moment (Unfit why)) finish finish _ _ c.args.self.now c.args.self.now _ _
          c.from_residual.ensures.1
          (unfit why finish _ c.args.self.now),
    )

pub returns-in_err-serve_service-clause-does : goal.returns-in_err-serve_service-clause-does
returns-in_err-serve_service-clause-does g c = λ w moment r.
    let name = c.in_ok-name.name.now in (
      Ok name,
      inl ((name, tt), c.in_ok-name.ensures, refl),
      passed (service_row w name) (λ (_ : Unit {0}) world. Finish (Goes world))
          (λ flow world. Finish (comes flow world)) _ _
          c.serve_service.new.self c.serve_service.new.self _ _
          c.from_residual-in_err-serve_service.ensures.1
          (c.in_err-serve_service.ensures.does w r),
    )

pub returns-clause-does : goal.returns-clause-does
returns-clause-does g c = λ w moment r.
    let name = c.in_ok-name.name.now in (
      Ok name,
      inl ((name, tt), c.in_ok-name.ensures, refl),
      goes_on_plan (service_row w name) _ _ c.serve_service.new.self
          (c.in_ok-serve_service.ensures.does w r),
    )
