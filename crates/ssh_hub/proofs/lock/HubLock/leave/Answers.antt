use Rattle.std.proofs.Common.{arith, ◌∙◌}
use Rattle.ssh_hub.proofs.Handing.{passes_as}
use Rattle.ssh_hub.proofs.lock.HubLock.leave.Goals as goal

pub fetch_add-requires : goal.fetch_add-requires
fetch_add-requires c = let words = c.args.self.now.sized.0 in let p = c.requires.place in
    let did = c.exchange-none.ensures in
    (did.0 ∙ p.0, omega arith, passes_as _ _ _ _ _ _ _ did.3 p.3 p.1 p.2 c.requires.hub)
