use Rattle.std.proofs.Common.{◌∙◌, sym, ap}
use Rattle.std.specs.String.{string_bytes}
use Rattle.ssh_scene.specs.Scene.{scene_of}
use Rattle.ssh_scene.specs.Queues.{queues_in}
use Rattle.ssh_script.specs.Writings.{text_in}
use Rattle.ssh_script.proofs.Kept.{kept}
use Rattle.ssh_script.proofs.run.run_scene.Goals as goal

pub returns : goal.returns
returns c = kept c.args.writing (scene_of c.args.script) c.in-Some.status c.run_stream-run.result
    c.new-handler.result.lost c.run_stream-run.new.handler.lost
    (queues_in c.new-handler.result.answers) (queues_in c.run_stream-run.new.handler.answers)
    c.new-handler.result.asked.items c.run_stream-run.new.handler.asked.items
    c.new-kex.result.plain.calls c.run_stream-run.new.kex.plain.calls
    c.in-Ok.link.inputs.items c.run_stream-run.new.link.inputs.items c.in-Ok.link.last_moment
    c.run_stream-run.new.link.last_moment
    c.in-Ok.link.memory.trace c.run_stream-run.new.link.memory.trace c.as_slice.result.now
    c.new-kex.result.plain.repeatable (string_bytes c.in_ok-text.text) c.new-kex.ensures.repeatable
    c.new-handler.ensures.lost c.if-handler.false
    (ap queues_in c.new-handler.ensures.answers) c.new-handler.ensures.asked
    c.new-kex.ensures.calls c.run_stream-run.new.kex.exchanged
    (ap (λ v. v.items) c.in-Ok.ensures.inputs) c.in-Ok.ensures.last_moment c.in-Ok.ensures.trace
    c.run_stream-run.new.link.given
    (sym c.status_of.ensures ∙ c.in-Some.is) c.as_slice.ensures c.run_stream-run.ensures.laws.run
    (c.in_ok-text.ensures
    ∙ ap (λ all. text_in c.args.writing all c.trace.result.now c.run_stream-run.result)
    c.deref.ensures.value
    ∙ ap (λ entries. text_in c.args.writing c.run_stream-run.new.handler.asked.items entries
    c.run_stream-run.result) c.trace.ensures)
