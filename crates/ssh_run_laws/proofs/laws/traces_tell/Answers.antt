use Rattle.ssh_run_laws.proofs.Traces.{traces_hold, traces_tell}
use Rattle.ssh_run_laws.proofs.laws.traces_tell.Goals as goal

pub returns-clause-accepted : goal.returns-clause-accepted
returns-clause-accepted g c settings turns world run number none =
    traces_tell _ _ _ settings turns world run number none

pub returns-clause-sent : goal.returns-clause-sent
returns-clause-sent g c settings turns world run number none seen rest more is quiet =
    traces_hold _ _ _ settings turns world run number none seen rest more is quiet
