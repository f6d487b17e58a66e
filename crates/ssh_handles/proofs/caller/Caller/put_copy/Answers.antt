use Rattle.ssh_hub.proofs.Following.{acts_none}
use Rattle.ssh_handles.specs.Writing.{writes}
use Rattle.ssh_handles.proofs.caller.Caller.put_copy.Goals as goal

pub returns-in-Err-clause-entries : goal.returns-in-Err-clause-entries
returns-in-Err-clause-entries g c = (
  c.args.packet,
  c.args.bytes.now,
  acts_none (writes _ _) _ _ c.args.self.now.seat.legal,
)
