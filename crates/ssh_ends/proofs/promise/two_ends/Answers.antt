use Rattle.ssh_ends.proofs.Laws.{law}
use Rattle.ssh_ends.proofs.promise.two_ends.Goals as goal

pub returns : goal.returns
returns c = record { holds = law }
