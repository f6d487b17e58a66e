use Rattle.ssh_hub.proofs.OwnAfter.{others_stay as law}
use Rattle.ssh_hub.proofs.laws_of_seats.others_stay.Goals as goal

pub returns : goal.returns
returns c = law
