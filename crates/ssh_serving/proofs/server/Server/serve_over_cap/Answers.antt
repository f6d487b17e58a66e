use Rattle.std.proofs.Common.{◌∷◌, [], ap, refl}
use Rattle.ssh_auth.specs.Plan.{Finish}
use Rattle.ssh_rules.specs.declared.error.Flow.{Flow}
use Rattle.ssh_rules.specs.Failure.{error_of_table, run_error_of}
use Rattle.ssh_rules.specs.Layout.{at_once, too_many_attempts}
use Rattle.ssh_rules.specs.Reading.{Over_cap}
use Rattle.ssh_rules.specs.Rows.{row}
use Rattle.ssh_rules.specs.Cause.{comes}
use Rattle.ssh_rules.specs.World.{writes}
use Rattle.ssh_serving.proofs.Refining.{staged}
use Rattle.ssh_serving.proofs.Serving.{starved_quietly}
use Rattle.ssh_serving.proofs.server.Server.serve_over_cap.Goals as goal

pub returns-in_err-disconnect-clause-does : goal.returns-in_err-disconnect-clause-does
returns-in_err-disconnect-clause-does g c = λ w moment r.
    starved_quietly (row w moment Over_cap) (λ (flow : Flow) world. Finish (comes flow world)) _ _ _
    c.from_residual.ensures.1
    (ap run_error_of c.in_err-disconnect.ensures.memory)

pub returns-in_err-stage-clause-does : goal.returns-in_err-stage-clause-does
returns-in_err-stage-clause-does g c = λ w moment r.
    starved_quietly (row w moment Over_cap) (λ (flow : Flow) world. Finish (comes flow world)) _ _ _
    c.from_residual-in_err-stage.ensures.1 (ap error_of_table c.in_err-stage.ensures.memory)

pub returns-clause-does : goal.returns-clause-does
returns-clause-does g c = λ w moment r. (
  writes (at_once too_many_attempts ∷ []) w,
  refl,
  staged c.in_ok-disconnect.disconnect _ c.args.self.now c.stage.new.self _ w
      c.in_ok-disconnect.ensures.ok c.in_ok-stage.ensures.table r,
)
