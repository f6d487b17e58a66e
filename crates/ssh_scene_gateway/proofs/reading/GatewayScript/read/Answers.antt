use Rattle.ssh_scene.specs.Scene.{scene_of}
use Rattle.ssh_scene_gateway.specs.GatewayScene.{gateway_of}
use Rattle.ssh_scene_gateway.proofs.Taking.{takes_host, takes_session}
use Rattle.ssh_scene_gateway.proofs.reading.GatewayScript.read.Goals as goal

pub returns-in-Some : goal.returns-in-Some
returns-in-Some c = takes_host (gateway_of c.args.self.now) (gateway_of c.read_host.new.self)
    c.args.line.now c.in-Some.word c.in-Some.rest.now c.read_host.result c.in-Some.ensures
    c.read_host.ensures

pub returns-in-None : goal.returns-in-None
returns-in-None c = takes_session (gateway_of c.args.self.now) (scene_of c.read.new.self)
    c.args.line.now c.read.result c.in-None.ensures c.read.ensures
