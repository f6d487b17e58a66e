use Rattle.ssh_run_laws.proofs.Accepted.{accepted, next_accepted}
use Rattle.ssh_run_laws.proofs.laws.channels_accept_data.Goals as goal

pub returns-clause-finished : goal.returns-clause-finished
returns-clause-finished g c settings turns world run earlier later is =
    accepted _ settings turns world run earlier later is

pub returns-clause-next : goal.returns-clause-next
returns-clause-next g c settings turns world run turn =
    next_accepted _ settings turns world run turn
