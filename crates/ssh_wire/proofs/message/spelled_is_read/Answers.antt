use Rattle.ssh_wire.proofs.Written.{spellings_spell}
use Rattle.ssh_wire.proofs.message.spelled_is_read.Goals as goal

pub returns : goal.returns
returns c = spellings_spell
