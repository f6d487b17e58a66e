use Rattle.std.proofs.Common.{◌∙◌}
use Rattle.ssh_serving.proofs.Refining.{may_send_same}
use Rattle.ssh_session.proofs.session.Session.can_send.Goals as goal

pub returns-clause-world : goal.returns-clause-world
returns-clause-world c = λ w r. c.can_send.ensures ∙ may_send_same c.args.channel.0 c.args.self.now.server w r.server
