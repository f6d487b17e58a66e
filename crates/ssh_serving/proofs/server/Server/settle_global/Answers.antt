use Rattle.std.proofs.Common.{◌∙◌, ◌∷◌, [], ap, cond, false, subst, sym}
use Rattle.ssh_rules.specs.Layout.{at_once}
use Rattle.ssh_rules.specs.Rows.{global_reply}
use Rattle.ssh_serving.specs.Serve.{Refines}
use Rattle.ssh_rules.specs.World.{wants_global, writes}
use Rattle.ssh_serving.proofs.Refining.{staged}
use Rattle.ssh_serving.proofs.server.Server.settle_global.Goals as goal

pub returns-clause-world : goal.returns-clause-world
returns-clause-world g c = λ w r.
    let frame = at_once (global_reply c.args.granted c.args.port) in
    let wanted = sym r.wanted ∙ c.if-not-self.false in
    subst (Refines c.want_global.new.self)
    (sym (ap (λ b. cond b (writes (frame ∷ []) (wants_global false w)) w) wanted))
    (c.want_global.ensures.world (writes (frame ∷ []) w) (staged c.reply_frame.result frame
    c.args.self.now c.stage.new.self _ w c.reply_frame.ensures c.in_ok-stage.ensures.table r))
