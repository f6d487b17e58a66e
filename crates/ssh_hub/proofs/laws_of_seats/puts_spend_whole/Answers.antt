use Rattle.ssh_hub.proofs.SeatCalls.{spent_whole as law}
use Rattle.ssh_hub.proofs.laws_of_seats.puts_spend_whole.Goals as goal

pub returns : goal.returns
returns c = law
