use Rattle.std.proofs.Common.{Ok, Err, refl}
use Rattle.ssh_handles.proofs.caller.Caller.answered.Goals as goal

pub returns-in-Ok-clause-entries : goal.returns-in-Ok-clause-entries
returns-in-Ok-clause-entries g c = (
  _,
  Ok c.in-Ok.ticket,
  c.in-Ok.ensures.entries,
  c.answered_as.ensures.entries,
)

pub returns-in-Err-clause-entries : goal.returns-in-Err-clause-entries
returns-in-Err-clause-entries g c = (_, Err c.in-Err.e, c.in-Err.ensures.entries, (refl, refl))
