use Rattle.std.proofs.Common.{None, false}
use Rattle.ssh_rules.specs.Acts.{acts}
use Rattle.ssh_rules.specs.Rows.{global_reply}
use Rattle.ssh_rules.specs.World.{wants_global, settles_global}
use Rattle.ssh_rules.proofs.Plans.Results.{on_ok}
use Rattle.ssh_serving.proofs.Serving.{turned_quietly}
use Rattle.ssh_serving.proofs.server.Server.unknown_globally_requested.Goals as goal

pub returns-clause-does : goal.returns-clause-does
returns-clause-does g c = λ w r later.
    let v = wants_global c.args.wanted w in
    turned_quietly (acts later) (settles_global (global_reply false None) v)
    c.settle_global.new.self c.settle_global.result
    (on_ok _ _ c.settle_global.result (λ f. f v (c.want_global.ensures.world w r))
    c.settle_global.ensures.world) c.settle_global.ensures.memory
