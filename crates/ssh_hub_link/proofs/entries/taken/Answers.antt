use Rattle.std.proofs.Common.{ap}
use Rattle.ssh_hub_link.specs.Given.{sent}
use Rattle.ssh_hub_link.proofs.Telling.{given_told, given_lost, sent_more, adds_same}
use Rattle.ssh_hub_link.proofs.entries.taken.Goals as goal

pub returns-in-Ok-clause-given : goal.returns-in-Ok-clause-given
returns-in-Ok-clause-given c = given_told _ _ _ _ _ _ c.requires c.in-Ok.ensures.ok

pub returns-in-Ok-clause-sent : goal.returns-in-Ok-clause-sent
returns-in-Ok-clause-sent c = sent_more _ _ _ c.in-Ok.ensures.ok

pub returns-in-Err-clause-given : goal.returns-in-Err-clause-given
returns-in-Err-clause-given c = given_lost _ _ _ _ _ c.requires c.in-Err.ensures.err
    c.put.ensures

pub returns-in-Err-clause-sent : goal.returns-in-Err-clause-sent
returns-in-Err-clause-sent c = adds_same _ _ (ap sent c.in-Err.ensures.err)
