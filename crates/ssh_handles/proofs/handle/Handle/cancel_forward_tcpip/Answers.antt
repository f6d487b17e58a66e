use Rattle.std.proofs.Common.{Ok, Err, refl}
use Rattle.ssh_handles.proofs.handle.Handle.cancel_forward_tcpip.Goals as goal

pub returns-in-Err-clause-entries : goal.returns-in-Err-clause-entries
returns-in-Err-clause-entries g c = (
  Err c.in-Err.e,
  (_, Err c.in-Err.e, (c.in-Err.ensures.memory, c.in-Err.ensures.no_call), (refl, refl)),
  refl,
)

pub returns-clause-entries : goal.returns-clause-entries
returns-clause-entries g c = (
  c.answered.result,
  (_, Ok c.in-Ok.slot, c.in-Ok.ensures.call, c.answered.ensures.entries),
  c.taken_back.ensures,
)
