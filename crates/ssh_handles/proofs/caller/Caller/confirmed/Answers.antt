use Rattle.std.proofs.Common.{refl, sym, ◌∙◌}
use Rattle.ssh_hub.proofs.Following.{acts_none}
use Rattle.ssh_handles.specs.Said.{confirmed_said}
use Rattle.ssh_handles.specs.Tries.{tries}
use Rattle.ssh_handles.proofs.Trying.{tried_in_vain, tried_well}
use Rattle.ssh_handles.proofs.caller.Caller.confirmed.Goals as goal

pub loop-init : goal.loop-init
loop-init g c = (refl, acts_none (tries _ confirmed_said) _ _ c.args.self.now.seat.legal)

pub returns-in-Some-answer_in-clause-entries : goal.returns-in-Some-answer_in-clause-entries
returns-in-Some-answer_in-clause-entries g c = tried_well _ confirmed_said _ _ _ _ _ _
    c.loop.invariant.1 refl c.in-Msg.ensures.call (sym c.in-Some-answer_in.ensures)

pub returns-in-Closed-clause-entries : goal.returns-in-Closed-clause-entries
returns-in-Closed-clause-entries g c = tried_well _ confirmed_said _ _ _ _ _ _ c.loop.invariant.1 refl
    c.in-Closed.ensures.call refl

pub returns-in-Ended-clause-entries : goal.returns-in-Ended-clause-entries
returns-in-Ended-clause-entries g c = tried_well _ confirmed_said _ _ _ _ _ _ c.loop.invariant.1 refl
    c.in-Ended.ensures.call refl

pub loop-preserved-in_default : goal.loop-preserved-in_default
loop-preserved-in_default g c = (
  c.loop.invariant.0,
  tried_in_vain _ confirmed_said _ _ _ _ _ c.loop.invariant.1 refl c.in-Msg.ensures.call
      (sym c.answer_in.ensures ∙ c.in_default.is),
)

pub loop-preserved : goal.loop-preserved
loop-preserved g c = (
  c.loop.invariant.0,
  tried_in_vain _ confirmed_said _ _ _ _ _ c.loop.invariant.1 refl c.in-Nothing.ensures.call refl,
)
