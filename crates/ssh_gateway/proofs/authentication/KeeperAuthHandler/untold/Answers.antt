use Rattle.ssh_gateway.proofs.Telling.{untold_so}
use Rattle.ssh_gateway.proofs.authentication.KeeperAuthHandler.untold.Goals as goal

pub returns : goal.returns
returns g c = untold_so c.loses.result _ _ _ _ c.loses.ensures.lost c.loses.ensures.err
