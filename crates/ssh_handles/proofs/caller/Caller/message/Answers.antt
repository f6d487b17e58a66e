use Rattle.std.proofs.Common.{◌≡◌, refl, ap}
use Rattle.ssh_hub.specs.declared.answers.Received.{Received}
use Rattle.ssh_hub.specs.declared.history.HubReply.TheVariants.{HasReceived}
use Rattle.ssh_hub.proofs.Following.{acts_none}
use Rattle.ssh_handles.specs.Said.{message_said}
use Rattle.ssh_handles.specs.Tries.{tries}
use Rattle.ssh_handles.proofs.Trying.{tried_in_vain, tried_well}
use Rattle.ssh_handles.proofs.caller.Caller.message.Goals as goal

pub loop-init : goal.loop-init
loop-init g c = (refl, acts_none (tries _ message_said) _ _ c.args.self.now.seat.legal)

pub returns-in-Msg-clause-entries : goal.returns-in-Msg-clause-entries
returns-in-Msg-clause-entries g c = let now = c.in-Msg in
    tried_well _ message_said _ _ _ _ _ _ c.loop.invariant.1 refl now.ensures.call refl

pub returns-in-Closed-clause-entries : goal.returns-in-Closed-clause-entries
returns-in-Closed-clause-entries g c = let now = c.in-Closed in
    tried_well _ message_said _ _ _ _ _ _ c.loop.invariant.1 refl now.ensures.call refl

pub returns-in-Ended-clause-entries : goal.returns-in-Ended-clause-entries
returns-in-Ended-clause-entries g c = let now = c.in-Ended in
    tried_well _ message_said _ _ _ _ _ _ c.loop.invariant.1 refl now.ensures.call refl

pub loop-preserved : goal.loop-preserved
loop-preserved g c = let now = c.in-Nothing in (
  c.loop.invariant.0,
  tried_in_vain _ message_said _ _ _ _ _ c.loop.invariant.1 refl now.ensures.call refl,
)
