use Rattle.std.proofs.Common.{refl}
use Rattle.ssh_hub.proofs.Following.{acts_none}
use Rattle.ssh_handles.specs.Said.{outcome_said}
use Rattle.ssh_handles.specs.Awaits.{awaits}
use Rattle.ssh_handles.proofs.Trying.{awaited_in_vain, awaited_end, awaited_well}
use Rattle.ssh_handles.proofs.caller.Caller.outcome.Goals as goal

pub loop-init : goal.loop-init
loop-init g c = (refl, acts_none (awaits _ outcome_said) _ _ c.args.self.now.seat.legal)

pub returns-in-Some-outcome-clause-entries : goal.returns-in-Some-outcome-clause-entries
returns-in-Some-outcome-clause-entries g c =
    awaited_well _ outcome_said _ _ _ _ _ c.loop.invariant.1 c.in-Some-outcome.ensures.call refl

pub returns-in-Some-ended-clause-entries : goal.returns-in-Some-ended-clause-entries
returns-in-Some-ended-clause-entries g c = awaited_end _ outcome_said _ _ _ _ _ _ _ c.loop.invariant.1
    c.outcome.ensures.call c.in_default.is c.in-Some-ended.ensures.call refl

pub loop-preserved : goal.loop-preserved
loop-preserved g c = (
  c.loop.invariant.0,
  awaited_in_vain _ outcome_said _ _ _ _ _ _ c.loop.invariant.1 c.outcome.ensures.call c.in_default.is
      c.ended.ensures.call c.in_default-ended.is,
)
