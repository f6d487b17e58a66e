use Rattle.std.proofs.Common.{◌∙◌}
use Rattle.ssh_serving.proofs.Refining.{packet_same}
use Rattle.ssh_session.proofs.session.Session.max_packet_size.Goals as goal

pub returns-clause-world : goal.returns-clause-world
returns-clause-world c = λ w r.
    c.max_packet_size.ensures ∙ packet_same c.args.channel.now.0 c.args.self.now.server w r.server
