use Rattle.ssh_run_laws.proofs.Standing.{answered_opens_stand}
use Rattle.ssh_run_laws.proofs.laws.answered_opens_stand.Goals as goal

pub returns : goal.returns
returns g c settings turns w turn world run t ticket answer is accepting waits =
    answered_opens_stand _ _ _ settings turns w turn world run t ticket answer is accepting waits
