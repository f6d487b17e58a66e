use Rattle.std.proofs.Common.{◌∷◌, [], subst}
use Rattle.ssh_channels.specs.Calls.{Stage}
use Rattle.ssh_serving.specs.Serve.{Refines}
use Rattle.ssh_rules.specs.World.{awaits, ends_by, writes}
use Rattle.ssh_serving.proofs.Refining.{called}
use Rattle.ssh_serving.proofs.Unchanged.{made_room}
use Rattle.ssh_serving.proofs.server.Server.say.Goals as goal

pub returns-clause-world : goal.returns-clause-world
returns-clause-world g c = λ w r.
    let old = c.args.self.now in
    let roomy = made_room old c.reserve.new.self old.session_id_fits w
    c.in_ok-reserve.ensures.items r in
    let wrote = called (Stage c.in_ok-frame.frame) _ c.stage.new.self _ w tt
    c.in_ok-stage.ensures.table roomy in
    subst (λ f. Refines c.end_by.new.self
    (ends_by c.args.ends (awaits c.args.awaited (writes (f ∷ []) w))))
    c.in_ok-frame.ensures.ok
    (c.end_by.ensures.world (awaits c.args.awaited (writes (c.in_ok-frame.frame ∷ []) w))
    (c.await_reply.ensures.world (writes (c.in_ok-frame.frame ∷ []) w) wrote))
