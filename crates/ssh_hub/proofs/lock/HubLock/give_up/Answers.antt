use Rattle.std.proofs.Common.{ap}
use Rattle.ssh_hub.specs.History.{newest}
use Rattle.ssh_hub.specs.Rule.{Seated}
use Rattle.ssh_hub.proofs.Made.{stayed, stays_on, held_stayed}
use Rattle.ssh_hub.proofs.lock.HubLock.give_up.Goals as goal

pub returns : goal.returns
returns c = let m : Seated = c.args.place.now.me in let o : Seated = c.leave.new.place.me in
    let is = c.leave.ensures.1 in record {
      place = (
        c.leave.ensures.0,
        (ap (λ (x : Seated). x.0.number) is, ap (λ (x : Seated). x.0.config) is),
        stayed m o c.requires.place.1 is,
      );
      newest = ap (λ (x : Seated). newest x.0.number x.0.seen) is;
      held = held_stayed m.0 o.0 (stays_on m o is);
      stays = stays_on m o is;
    }
