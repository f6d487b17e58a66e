use Rattle.ssh_hub.proofs.Did.{did_none as law}
use Rattle.ssh_hub.proofs.laws_of_seats.learning_is_no_call.Goals as goal

pub returns : goal.returns
returns c = law
