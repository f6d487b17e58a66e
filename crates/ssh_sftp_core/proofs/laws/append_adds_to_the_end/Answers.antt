use Rattle.ssh_sftp_core.proofs.Lawful.{adds_to_the_end}
use Rattle.ssh_sftp_core.proofs.laws.append_adds_to_the_end.Goals as goal

pub returns : goal.returns
returns c = adds_to_the_end
