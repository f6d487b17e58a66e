use Rattle.std.proofs.Common.{◌∙◌}
use Rattle.ssh_serving.proofs.Refining.{room_same}
use Rattle.ssh_session.proofs.session.Session.window_size.Goals as goal

pub returns-clause-world : goal.returns-clause-world
returns-clause-world c = λ w r. c.window_size.ensures ∙ room_same c.args.channel.now.0 c.args.self.now.server w r.server
