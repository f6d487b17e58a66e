use Rattle.ssh_hub.proofs.Fitting.{did_fit as law}
use Rattle.ssh_hub.proofs.laws_of_seats.all_answers_fit.Goals as goal

pub returns : goal.returns
returns c = law
