use Rattle.std.proofs.Common.{◌∙◌, ap, min}
use Rattle.ssh_channels.specs.Calls.{room_at}
use Rattle.ssh_rules.specs.World.{packet_on}
use Rattle.ssh_serving.proofs.Refining.{packet_same, room_same}
use Rattle.ssh_session.proofs.session.Session.writable_packet_size.Goals as goal

pub returns-clause-world : goal.returns-clause-world
returns-clause-world c = λ w r.
    let n = c.args.channel.now.0 in
    let s = c.args.self.now.server in
    c.writable_packet_size.ensures
    ∙ ap (λ p. min (room_at n s.table) p) (packet_same n s w r.server)
    ∙ ap (λ k. min k (packet_on n w)) (room_same n s w r.server)
