use Rattle.ssh_handles.proofs.Seats.{joined_again}
use Rattle.ssh_handles.proofs.caller.Caller.halves.Goals as goal

pub returns-in-Err-twin-clause-none : goal.returns-in-Err-twin-clause-none
returns-in-Err-twin-clause-none g c = joined_again _ _ _ _ _ c.in-Ok.ensures.made
    c.in-Err-twin.ensures.none c.join.ensures.none
