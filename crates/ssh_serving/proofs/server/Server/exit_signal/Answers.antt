use Rattle.std.proofs.Common.{◌∙◌, ◌++◌, ap, subst}
use Rattle.std.specs.Prelude.{codes}
use Rattle.ssh_rules.specs.Effect.{requests}
use Rattle.ssh_rules.specs.OwnRequests.{exit_signal}
use Rattle.ssh_serving.specs.Serve.{HasEffect}
use Rattle.ssh_serving.proofs.server.Server.exit_signal.Goals as goal

pub returns-in-Ok-clause-does : goal.returns-in-Ok-clause-does
returns-in-Ok-clause-does g c = λ w r.
    let asked = exit_signal c.args.signal.now c.args.core_dumped c.args.message.now
    c.args.language.now in
    subst (λ fields. HasEffect (requests c.args.channel
    (record { name = codes "exit-signal"; fields = fields }) w) c.request.new.self c.request.result)
    (c.as_slice.ensures.value ∙ c.in-Ok.ensures.ok
    ∙ ap (λ l. l ++ asked.fields) c.new-fields.ensures.items)
    (c.request.ensures.does w r)
