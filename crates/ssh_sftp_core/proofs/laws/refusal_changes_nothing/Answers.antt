use Rattle.ssh_sftp_core.proofs.Lawful.{changes_nothing}
use Rattle.ssh_sftp_core.proofs.laws.refusal_changes_nothing.Goals as goal

pub returns : goal.returns
returns c = changes_nothing
