use Rattle.ssh_scene_gateway.proofs.RoundsOnce.{forwarded_once}
use Rattle.ssh_scene_gateway.proofs.forwarding.one_forwarding.Goals as goal

pub returns : goal.returns
returns c = record { once = forwarded_once }
