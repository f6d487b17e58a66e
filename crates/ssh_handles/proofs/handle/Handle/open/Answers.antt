use Rattle.ssh_hub.proofs.Following.{did_then_none}
use Rattle.ssh_handles.specs.Handles.{no_seats, not_opened}
use Rattle.ssh_handles.proofs.Seats.{opens_channel}
use Rattle.ssh_handles.proofs.handle.Handle.open.Goals as goal

pub returns-in-Err-clause-entries : goal.returns-in-Err-clause-entries
returns-in-Err-clause-entries g c = no_seats c.in-Err.ensures.memory c.in-Err.ensures.none

pub returns-in-Ok-opened-clause-entries : goal.returns-in-Ok-opened-clause-entries
returns-in-Ok-opened-clause-entries g c = opens_channel _ _ _ _ _ _ _ _ _ _ c.in-Ok.ensures.made
    c.in-Ok-opened.ensures.entries c.new.ensures.read c.new.ensures.write
    c.in-Ok.ensures.first.hub c.new.ensures.of

pub returns-in-Err-opened-clause-entries : goal.returns-in-Err-opened-clause-entries
returns-in-Err-opened-clause-entries g c = not_opened _ _ _ _ c.in-Ok.ensures.made
    c.in-Err-opened.ensures.entries
    (did_then_none _ _ _ _ c.join.ensures.none c.join-in-Err-opened.ensures.none)
