use Rattle.ssh_wire.proofs.Written.{spellings_spell}
use Rattle.ssh_wire.proofs.message.written_is_read.Goals as goal

-- src/message.rt:101:1
pub returns : goal.returns
returns c = λ message values fits. spellings_spell message.fields values fits
