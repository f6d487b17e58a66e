use Rattle.ssh_session.proofs.session.Session.commands_wanted.Goals as goal

pub returns-clause-world : goal.returns-clause-world
returns-clause-world c = λ w r. c.commands_wanted.ensures.world w r.server
