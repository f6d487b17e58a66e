use Rattle.std.proofs.Common.{◌≡◌, [], OnOk, subst}
use Rattle.ssh_session.specs.Between.{untold}
use Rattle.ssh_embed.proofs.Adding.{adds}
use Rattle.ssh_embed.proofs.connection.Connection.take.Goals as goal

pub returns-clause-story : goal.returns-clause-story
returns-clause-story c settings rounds came =
    adds settings rounds c.args.self.now _ c.args.input c.take_given-flow.result
    c.take_given-flow.ensures.taken c.take_given-flow.ensures.repeats
    (λ is. subst (λ went. OnOk went (untold c.take_given-flow.new.self.session ≡ [])) is
    c.take_given-flow.ensures.told) came
