use Rattle.std.proofs.Common.{None, true}
use Rattle.ssh_rules.specs.Acts.{acts}
use Rattle.ssh_rules.specs.Rows.{global_reply, gives_up_sessions}
use Rattle.ssh_rules.specs.World.{wants_global, settles_global}
use Rattle.ssh_rules.proofs.Plans.Results.{on_ok}
use Rattle.ssh_serving.proofs.Replying.{given_up}
use Rattle.ssh_serving.proofs.Serving.{turned_quietly}
use Rattle.ssh_serving.proofs.server.Server.gave_up_sessions.Goals as goal

pub returns-clause-does : goal.returns-clause-does
returns-clause-does g c = λ w r later.
    let v = wants_global c.args.wanted (gives_up_sessions w) in
    let q = given_up c.args.self.now _ w r in
    turned_quietly (acts later) (settles_global (global_reply true None) v)
    c.settle_global.new.self c.settle_global.result
    (on_ok _ _ c.settle_global.result (λ f. f v (c.want_global.ensures.world (gives_up_sessions w)
    q)) c.settle_global.ensures.world) c.settle_global.ensures.memory
