use Rattle.ssh_handles.proofs.Reserving.{looked_none}
use Rattle.ssh_handles.proofs.caller.Caller.packet_size.Goals as goal

pub returns-then-look-eq0-clause-reserved : goal.returns-then-look-eq0-clause-reserved
returns-then-look-eq0-clause-reserved g c = looked_none _ _ _ _ c.look.ensures.call

pub returns-else-look-eq0-clause-reserved : goal.returns-else-look-eq0-clause-reserved
returns-else-look-eq0-clause-reserved g c = looked_none _ _ _ _ c.look.ensures.call

pub returns-in-None-clause-reserved : goal.returns-in-None-clause-reserved
returns-in-None-clause-reserved g c = looked_none _ _ _ _ c.look.ensures.call
