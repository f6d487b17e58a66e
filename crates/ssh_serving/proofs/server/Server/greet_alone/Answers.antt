use Rattle.std.proofs.Common.{◌∷◌, ◌++◌, [], None, ap, refl}
use Rattle.ssh_rules.specs.Acts.{acts}
use Rattle.ssh_rules.specs.Failure.{error_of_table, run_error_of}
use Rattle.ssh_rules.specs.Rows.{greets, greeting, served}
use Rattle.ssh_rules.specs.World.{writes}
use Rattle.ssh_serving.proofs.Refining.{staged}
use Rattle.ssh_serving.proofs.Serving.{starved_quietly}
use Rattle.ssh_serving.proofs.server.Server.greet_alone.Goals as goal

pub returns-in_err-accept-clause-does : goal.returns-in_err-accept-clause-does
returns-in_err-accept-clause-does g c = λ w r later.
    starved_quietly (acts (greets None ++ later) w) (λ (_ : Unit {0}). acts later) _ _ _
    c.from_residual.ensures.1
    (ap run_error_of c.in_err-accept.ensures.memory)

pub returns-in_err-stage-clause-does : goal.returns-in_err-stage-clause-does
returns-in_err-stage-clause-does g c = λ w r later.
    starved_quietly (acts (greets None ++ later) w) (λ (_ : Unit {0}). acts later) _ _ _
    c.from_residual-in_err-stage.ensures.1 (ap error_of_table c.in_err-stage.ensures.memory)

pub returns-clause-does : goal.returns-clause-does
returns-clause-does g c = λ w r later. (
  writes (greeting None) (served w),
  refl,
  staged c.in_ok-accept.accept _ c.wait_for_requests.new.self c.stage.new.self _ (served w)
      c.in_ok-accept.ensures.ok c.in_ok-stage.ensures.table (c.wait_for_requests.ensures.world w r),
)
