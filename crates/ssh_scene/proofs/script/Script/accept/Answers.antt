use Rattle.std.proofs.Common.{Some, sym, ap}
use Rattle.ssh_scene.specs.Scene.{scene_of}
use Rattle.ssh_scene.proofs.script.Script.accept.Goals as goal

pub returns-in-Ok : goal.returns-in-Ok
returns-in-Ok c = ap (λ all. Some (record (scene_of c.args.self.now) { accepted = all }))
    (sym c.in-Ok.ensures.ok)
