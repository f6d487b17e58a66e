use Rattle.ssh_run_laws.proofs.Standing.{opens_are_new, opens_still_wait, opens_wait}
use Rattle.ssh_run_laws.proofs.laws.opens_wait.Goals as goal

pub returns-clause-asked : goal.returns-clause-asked
returns-clause-asked g c settings turns world run number waits =
    opens_wait _ _ _ settings turns world run number waits

pub returns-clause-still : goal.returns-clause-still
returns-clause-still g c settings before span w world run more number waits free =
    opens_still_wait _ _ _ settings before span w world run more number waits free

pub returns-clause-new : goal.returns-clause-new
returns-clause-new g c settings turns world run before after channel is =
    opens_are_new _ _ _ settings turns world run before after channel is
