use Rattle.ssh_hub.proofs.SeatCalls.{own_takes as law}
use Rattle.ssh_hub.proofs.laws_of_seats.own_takes_in_order.Goals as goal

pub returns : goal.returns
returns c = law
