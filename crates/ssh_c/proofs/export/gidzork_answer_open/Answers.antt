use Rattle.std.proofs.Common.{Some, sym, ◌∙◌, ap}
use Rattle.ssh_c.specs.Commanding.{rejected}
use Rattle.ssh_c.specs.Feeding.{reply_at}
use Rattle.ssh_c.proofs.Fed.{does_in}
use Rattle.ssh_c.proofs.export.gidzork_answer_open.Goals as goal

pub returns : goal.returns
returns c =
    does_in c.in-Some.answer (rejected c.args.channel c.args.reason) (reply_at c.args.moment c.args.ticket)
    c.args.handle.now.slot.held c.put.new.self.slot.held c.deref_mut.result.now
    c.answer_now-code.new.self c.answer_now-code.result (sym c.answer_of.ensures ∙ c.in-Some.is)
    (c.in-Some-take.ensures.taken ∙ ap Some (sym c.deref_mut.ensures.value)) c.put.ensures
    c.answer_now-code.ensures
