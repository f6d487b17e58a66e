use Rattle.ssh_hub.proofs.Did.{did_one}
use Rattle.ssh_hub.proofs.laws.one_call_does.Goals as goal

pub returns : goal.returns
returns c = did_one
