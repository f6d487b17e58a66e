use Rattle.ssh_channels.proofs.InOrder.{replied_so, replied_then, replied_before}
use Rattle.ssh_channels.proofs.ledger.replies_in_order.Goals as goal

pub returns-clause-live : goal.returns-clause-live
returns-clause-live c n l e past is h = replied_so n l e past is h

pub returns-clause-starts : goal.returns-clause-starts
returns-clause-starts c n l e seen rest is quiet h = replied_then n l e seen rest is quiet h

pub returns-clause-left : goal.returns-clause-left
returns-clause-left c n l past gone h none last = replied_before n l past gone h none last
