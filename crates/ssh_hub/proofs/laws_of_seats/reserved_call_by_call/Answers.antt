use Rattle.ssh_hub.proofs.OwnAfter.{reserved_by_call as law}
use Rattle.ssh_hub.proofs.laws_of_seats.reserved_call_by_call.Goals as goal

pub returns : goal.returns
returns c = law
