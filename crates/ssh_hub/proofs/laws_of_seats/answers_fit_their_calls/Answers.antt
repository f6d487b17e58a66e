use Rattle.ssh_hub.proofs.Fitting.{made_fits as law}
use Rattle.ssh_hub.proofs.laws_of_seats.answers_fit_their_calls.Goals as goal

pub returns : goal.returns
returns c = law
