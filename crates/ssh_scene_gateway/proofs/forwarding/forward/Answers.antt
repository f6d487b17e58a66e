use Rattle.std.proofs.Common.{◌∙◌, sym, ap}
use Rattle.std.specs.String.{string_bytes}
use Rattle.ssh_scene.specs.Queues.{queues_in}
use Rattle.ssh_scene_gateway.specs.GatewayScene.{gateway_of}
use Rattle.ssh_scene_gateway.specs.Telling.{told_text}
use Rattle.ssh_scene_gateway.proofs.Kept.{kept}
use Rattle.ssh_scene_gateway.proofs.forwarding.forward.Goals as goal

pub returns : goal.returns
returns c = kept (gateway_of c.args.script) c.run_gateway-run.new.targets.calls.items
    c.run_gateway-run.new.link.memory.trace
    (record {
      lost = c.run_gateway-run.new.auth.lost;
      queues = queues_in c.run_gateway-run.new.auth.answers;
      asked = c.run_gateway-run.new.auth.asked.items;
      steps = c.run_gateway-run.new.kex.plain.calls;
      inputs = c.run_gateway-run.new.link.inputs.items;
      moment = c.run_gateway-run.new.link.last_moment;
      missed = c.run_gateway-run.new.targets.lost;
      hosts = c.run_gateway-run.new.targets.hosts.items;
      told = c.if-handler.false;
      exchanged = c.run_gateway-run.new.kex.exchanged;
      given = c.run_gateway-run.new.link.given;
      kept = c.if-targets.false;
      reached = c.run_gateway-run.new.targets.given;
    })
    c.run_gateway-run.result c.in-Some.status (string_bytes c.in_ok-text.text)
    c.new-handler.result.lost (queues_in c.new-handler.result.answers)
    c.new-handler.result.asked.items c.new-kex.result.plain.calls c.in-Ok.link.inputs.items
    c.in-Ok.link.last_moment c.in-Ok.link.memory.trace c.new-targets.result.lost
    c.new-targets.result.hosts.items c.new-targets.result.calls.items c.as_slice.result.now
    c.new-kex.result.plain.repeatable c.new-handler.ensures.lost
    (ap queues_in c.new-handler.ensures.answers) c.new-handler.ensures.asked
    c.new-kex.ensures.calls (ap (λ v. v.items) c.in-Ok.ensures.inputs)
    c.in-Ok.ensures.last_moment c.in-Ok.ensures.trace c.new-targets.ensures.lost
    (ap (λ v. v.items) c.new-targets.ensures.hosts) c.new-targets.ensures.calls
    c.as_slice.ensures c.new-kex.ensures.repeatable c.run_gateway-run.ensures.gateway
    (sym c.status_of.ensures ∙ c.in-Some.is)
    (c.in_ok-text.ensures
    ∙ ap (λ all. told_text all c.deref.result.now c.run_gateway-run.result) c.trace.ensures
    ∙ ap (λ calls. told_text c.run_gateway-run.new.link.memory.trace calls c.run_gateway-run.result)
    c.deref.ensures.value)
