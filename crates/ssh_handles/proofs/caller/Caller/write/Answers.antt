use Rattle.std.proofs.Common.{◌≡◌, ◌<◌, length, rules}
use Rattle.ssh_handles.proofs.Writes.{nothing_to_write, begins, stops_first, writes_after}
use Rattle.ssh_handles.proofs.caller.Caller.write.Goals as goal

pub returns-then-is_empty-clause-entries : goal.returns-then-is_empty-clause-entries
returns-then-is_empty-clause-entries g c =
    let none : length c.args.bytes ≡ 0 = search rules in
    nothing_to_write _ _ _ _ c.args.self.now.seat.legal none

pub returns-in-Err-clause-entries : goal.returns-in-Err-clause-entries
returns-in-Err-clause-entries g c =
    let some : 0 < length c.args.bytes = search rules in
    let seen = c.in-Err.ensures.entries in
    stops_first _ _ _ _ seen.0 _ _ c.args.self.now.seat.legal some seen.1 seen.2

pub returns-in-Ok-clause-entries : goal.returns-in-Ok-clause-entries
returns-in-Ok-clause-entries g c =
    let some : 0 < length c.args.bytes = search rules in
    let seen = c.in-Ok.ensures.entries in
    writes_after _ _ _ _ _ _ _ _
    (begins _ _ _ _ seen.0 _ _ c.args.self.now.seat.legal some seen.1 seen.2) c.put_all.ensures.entries
