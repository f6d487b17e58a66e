use Rattle.ssh_hub.proofs.SeatCalls.{ends_named as law}
use Rattle.ssh_hub.proofs.laws_of_seats.ends_are_named.Goals as goal

pub returns : goal.returns
returns c = law
