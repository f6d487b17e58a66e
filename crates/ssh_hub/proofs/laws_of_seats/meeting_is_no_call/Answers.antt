use Rattle.ssh_hub.proofs.OwnAfter.{met_none as law}
use Rattle.ssh_hub.proofs.Following.{acts_none}
use Rattle.ssh_hub.proofs.laws_of_seats.meeting_is_no_call.Goals as goal

pub returns : goal.returns
returns c = law
