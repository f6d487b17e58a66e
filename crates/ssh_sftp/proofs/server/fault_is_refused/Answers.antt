use Rattle.ssh_sftp.proofs.First.{never_both}
use Rattle.ssh_sftp.proofs.server.fault_is_refused.Goals as goal

pub returns : goal.returns
returns c = never_both
