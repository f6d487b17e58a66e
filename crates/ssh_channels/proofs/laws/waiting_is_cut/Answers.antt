use Rattle.ssh_channels.proofs.Joined.{joined_cut, joined_left, credit_spent}
use Rattle.ssh_channels.proofs.laws.waiting_is_cut.Goals as goal

pub returns-clause-out : goal.returns-clause-out
returns-clause-out c limit credit chunks some = joined_cut limit credit chunks some

pub returns-clause-stays : goal.returns-clause-stays
returns-clause-stays c credit chunks = joined_left credit chunks

pub returns-clause-credit : goal.returns-clause-credit
returns-clause-credit c credit chunks = credit_spent credit chunks
