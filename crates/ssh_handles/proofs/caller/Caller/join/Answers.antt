use Rattle.ssh_hub.proofs.OwnAfter.{met_none}
use Rattle.ssh_handles.proofs.caller.Caller.join.Goals as goal

pub returns-clause-none : goal.returns-clause-none
returns-clause-none c = met_none _ _ _ c.join.ensures.meets
