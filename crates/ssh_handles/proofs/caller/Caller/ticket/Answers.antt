use Rattle.ssh_handles.proofs.Reserving.{stays_none}
use Rattle.ssh_handles.proofs.caller.Caller.ticket.Goals as goal

pub returns-in-Ok-clause-none : goal.returns-in-Ok-clause-none
returns-in-Ok-clause-none g c = stays_none _ _ _ _ _ c.put.ensures.reserved

pub returns-in-Err-clause-none : goal.returns-in-Err-clause-none
returns-in-Err-clause-none g c = stays_none _ _ _ _ _ c.put.ensures.reserved
