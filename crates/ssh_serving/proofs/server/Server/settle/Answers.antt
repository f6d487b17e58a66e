use Rattle.std.proofs.Common.{map}
use Rattle.std.specs.Prelude.{option_to_list}
use Rattle.ssh_link.specs.declared.link.TraceEntry.TheVariants.{Noticed}
use Rattle.ssh_rules.specs.Acts.{acts, tell_all}
use Rattle.ssh_rules.specs.World.{settled_first}
use Rattle.ssh_serving.proofs.Rows.{noted_as}
use Rattle.ssh_serving.proofs.Serving.{settled_by}
use Rattle.ssh_serving.proofs.server.Server.settle.Goals as goal

pub returns-clause-does : goal.returns-clause-does
returns-clause-does g c = λ w r later.
    let v = settled_first w in
    let q = c.settle_first.ensures.world w r in
    rw (noted_as c.args.told later v)
    (settled_by (tell_all (map Noticed (option_to_list c.args.told)) (acts later v)) (acts later) _
    _ v c.settle_first.new.self c.give.result q (c.give.ensures.does v q (acts later v)))
