use Rattle.std.proofs.Common.{Some, sym, ◌∙◌, ap}
use Rattle.ssh_c.specs.Commanding.{tick}
use Rattle.ssh_c.specs.Feeding.{input_at}
use Rattle.ssh_c.proofs.Fed.{does_in}
use Rattle.ssh_c.proofs.export.gidzork_tick.Goals as goal

pub returns : goal.returns
returns c =
    does_in c.in-Some.kind (tick c.args.kind) (input_at c.args.moment)
    c.args.handle.now.slot.held c.put.new.self.slot.held c.deref_mut.result.now
    c.take_now-code.new.self c.take_now-code.result (sym c.tick_of.ensures ∙ c.in-Some.is)
    (c.in-Some-take.ensures.taken ∙ ap Some (sym c.deref_mut.ensures.value)) c.put.ensures
    c.take_now-code.ensures
