use Rattle.ssh_sftp_core.proofs.Lawful.{gives_each_once}
use Rattle.ssh_sftp_core.proofs.laws.handle_is_given_once.Goals as goal

pub returns : goal.returns
returns c = gives_each_once
