use Rattle.std.proofs.Common.{◌≡◌, ◌+◌, sym, ap}
use Rattle.ssh_scene.specs.Scene.{scene_of}
use Rattle.ssh_scene.proofs.script.Script.next_ticket.Goals as goal

pub returns : goal.returns
returns c =
    let next : c.in-Some.ticket ≡ c.args.self.now.tickets + 1 = c.in-Some.ensures.1 in
    record {
      ticket = next;
      counted = ap (λ n. record (scene_of c.args.self.now) { tickets = n }) (sym next);
    }
