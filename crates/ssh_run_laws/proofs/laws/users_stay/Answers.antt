use Rattle.ssh_run_laws.proofs.Users.{user_stays, users_stay}
use Rattle.ssh_run_laws.proofs.laws.users_stay.Goals as goal

pub returns-clause-first : goal.returns-clause-first
returns-clause-first g c settings turns world run = users_stay _ _ _ settings turns world run

pub returns-clause-stays : goal.returns-clause-stays
returns-clause-stays g c w world turns user run is = user_stays _ _ _ w world turns user run is
