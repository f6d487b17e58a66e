use Rattle.ssh_channels.proofs.Others.{line_stays, entry_stays}
use Rattle.ssh_channels.proofs.laws.others_stay.Goals as goal

pub returns-clause-table : goal.returns-clause-table
returns-clause-table c n o t h = line_stays n t o h

pub returns-clause-channels : goal.returns-clause-channels
returns-clause-channels c n o l h = entry_stays n l o h
