use Rattle.std.proofs.Common.{Some, sym, ◌∙◌, ap}
use Rattle.ssh_c.specs.Commanding.{commanded}
use Rattle.ssh_c.specs.Feeding.{command_at}
use Rattle.ssh_c.proofs.Fed.{does_in}
use Rattle.ssh_c.proofs.export.gidzork_command.Goals as goal

pub returns : goal.returns
returns c =
    does_in c.in-Some.command (commanded c.args.kind c.args.channel c.args.number) (command_at c.args.moment c.args.ticket)
    c.args.handle.now.slot.held c.put.new.self.slot.held c.deref_mut.result.now
    c.command_now-code.new.self c.command_now-code.result (sym c.command_of.ensures ∙ c.in-Some.is)
    (c.in-Some-take.ensures.taken ∙ ap Some (sym c.deref_mut.ensures.value)) c.put.ensures
    c.command_now-code.ensures
