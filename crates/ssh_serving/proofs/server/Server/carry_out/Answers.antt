use Rattle.std.proofs.Common.{◌∙◌, Some, None, sym, subst}
use Rattle.ssh_serving.specs.Serve.{HasEffect}
use Rattle.ssh_rules.specs.Effect.{effect_at}
use Rattle.ssh_serving.proofs.Effects.{refused, refusing}
use Rattle.ssh_serving.proofs.server.Server.carry_out.Goals as goal

pub returns-in-Some-clause-does : goal.returns-in-Some-clause-does
returns-in-Some-clause-does g c = λ w r.
    refused g.row.E.Denot g.row.F.Denot (effect_at c.args.at w c.args.command) w c.in-Some.why c.args.self.now
    c.quiet.result
    (refusing c.args.at w c.args.command (Some c.in-Some.why) (sym (c.refusal.ensures w r) ∙
    c.in-Some.is))
    c.quiet.ensures r

pub returns-in-None-clause-does : goal.returns-in-None-clause-does
returns-in-None-clause-does g c = λ w r.
    subst (λ d. HasEffect d c.do_command.new.self c.do_command.result)
    (sym (refusing c.args.at w c.args.command None (sym (c.refusal.ensures w r) ∙ c.in-None.is)))
    (c.do_command.ensures.does w r)
