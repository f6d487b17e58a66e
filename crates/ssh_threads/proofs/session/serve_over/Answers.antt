use Rattle.std.proofs.Common.{◌≡◌, sym, ap, subst}
use Rattle.ssh_link.specs.Faults.{Rose}
use Rattle.ssh_scene.specs.Scene.{Scene, scene_of}
use Rattle.ssh_scene.specs.Queues.{queues_in}
use Rattle.ssh_threads.specs.Sessions.{Outcome, ServesAs, Serves, hall}
use Rattle.ssh_threads.proofs.Serving.{serves}
use Rattle.ssh_threads.proofs.session.serve_over.Goals as goal

pub returns : goal.returns
returns g c =
    let script = c.in-Ok.script in
    let ran = c.run_stream-outcome in
    let rose = Rose (g.L.Link.faults c.args.link.now) (g.L.Link.faults ran.new.link) in
    let before = g.L.Link.trace c.args.link.now in
    let after = g.L.Link.trace ran.new.link in
    let is : scene_of script ≡ hall = c.in-Ok.ensures in
    let served : ServesAs (scene_of script) rose before after ran.result =
    serves (scene_of script) ran.result c.new-handler.result.lost ran.new.handler.lost
    (queues_in c.new-handler.result.answers) (queues_in ran.new.handler.answers)
    c.new-handler.result.asked.items ran.new.handler.asked.items
    c.new-kex.result.plain.calls ran.new.kex.plain.calls
    before after (g.L.Link.faults c.args.link.now) (g.L.Link.faults ran.new.link)
    c.as_slice.result.now c.new-kex.result.plain.repeatable
    (ap (λ (scene : Scene). scene.queues.standing) is)
    c.new-kex.ensures.repeatable c.new-handler.ensures.lost
    (c.is_starved-starved.ensures.kept c.in-Some.ensures.1)
    (ap queues_in c.new-handler.ensures.answers) c.new-handler.ensures.asked
    c.new-kex.ensures.calls ran.new.kex.exchanged c.as_slice.ensures
    (c.is_starved-starved.ensures.fed c.in-Some.ensures.1) ran.ensures.laws.run in
    subst (λ (o : Outcome). Serves rose before after o) (sym c.in-Some.ensures.0)
    (subst (λ (scene : Scene). ServesAs scene rose before after ran.result) is served)
