use Rattle.ssh_handles.proofs.Writes.{begins, stops_first, writes_after}
use Rattle.ssh_handles.proofs.caller.Caller.write_copy.Goals as goal

pub returns-in-Err-clause-entries : goal.returns-in-Err-clause-entries
returns-in-Err-clause-entries g c =
    let seen = c.in-Err.ensures.entries in
    stops_first _ _ _ _ seen.0 _ _ c.args.self.now.seat.legal c.requires.some seen.1 seen.2

pub returns-in-Ok-clause-entries : goal.returns-in-Ok-clause-entries
returns-in-Ok-clause-entries g c =
    let seen = c.in-Ok.ensures.entries in
    writes_after _ _ _ _ _ _ _ _
    (begins _ _ _ _ seen.0 _ _ c.args.self.now.seat.legal c.requires.some seen.1 seen.2)
    c.put_copy.ensures.entries
