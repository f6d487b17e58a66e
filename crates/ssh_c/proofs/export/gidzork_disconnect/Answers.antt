use Rattle.std.proofs.Common.{Some, sym, ◌∙◌, ap}
use Rattle.ssh_c.proofs.Fed.{does_some_in}
use Rattle.ssh_c.proofs.export.gidzork_disconnect.Goals as goal

pub returns : goal.returns
returns c =
    does_some_in c.args.moment c.args.ticket c.args.handle.now.slot.held c.put.new.self.slot.held
    c.deref_mut.result.now c.say_now-code.new.self c.say_now-code.result
    (c.in-Some.ensures.taken ∙ ap Some (sym c.deref_mut.ensures.value)) c.put.ensures
    c.say_now-code.ensures
