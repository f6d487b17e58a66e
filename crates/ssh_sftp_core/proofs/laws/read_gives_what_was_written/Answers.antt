use Rattle.ssh_sftp_core.proofs.Lawful.{reads_back}
use Rattle.ssh_sftp_core.proofs.laws.read_gives_what_was_written.Goals as goal

pub returns : goal.returns
returns c = reads_back
