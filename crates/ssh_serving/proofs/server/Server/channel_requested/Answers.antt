use Rattle.std.proofs.Common.{◌∙◌, ◌++◌, Some, ap, subst}
use Rattle.ssh_rules.specs.Acts.{acts}
use Rattle.ssh_rules.specs.Failure.{error_of_table}
use Rattle.ssh_rules.specs.Rows.{told_at}
use Rattle.ssh_rules.specs.World.{lined, wants_if}
use Rattle.ssh_serving.specs.Serve.{Serves}
use Rattle.ssh_serving.proofs.Serving.{starves}
use Rattle.ssh_serving.proofs.server.Server.channel_requested.Goals as goal

pub returns-in-Ok-clause-does : goal.returns-in-Ok-clause-does
returns-in-Ok-clause-does g c = λ w r later.
    let v = lined (wants_if c.args.wanted c.args.channel.0) w in
    subst (λ a. Serves (acts (told_at (Some a) c.args.channel c.args.message c.args.happening
    ++ later) v) (λ (_ : Unit {0}). acts later) (g.O.Transport.heard c.args.outside.now)
    (g.O.Transport.heard c.tell.new.outside) c.tell.new.self c.tell.result)
    (c.in-Ok.ensures.asked w r) (c.tell.ensures.does v (c.in-Ok.ensures.world w r) later)

pub returns-in-Err-clause-does : goal.returns-in-Err-clause-does
returns-in-Err-clause-does g c = λ w r later.
    rw (c.from.ensures ∙ ap error_of_table c.in-Err.ensures.memory)
    (starves _ (λ (_ : Unit {0}). acts later) _ c.owe_reply.new.self)
