use Rattle.ssh_run_laws.proofs.Standing.{channels_stand}
use Rattle.ssh_run_laws.proofs.laws.channels_stand.Goals as goal

pub returns : goal.returns
returns g c settings before span w world run more number e at confirmed unclosed free =
    channels_stand _ _ _ settings before span w world run more number e at confirmed unclosed free
