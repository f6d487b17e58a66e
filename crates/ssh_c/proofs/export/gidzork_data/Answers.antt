use Rattle.std.proofs.Common.{Some, sym, ◌∙◌, ap}
use Rattle.ssh_c.specs.Commanding.{data_command}
use Rattle.ssh_c.specs.Feeding.{command_at}
use Rattle.ssh_c.proofs.Fed.{fed_in}
use Rattle.ssh_c.proofs.export.gidzork_data.Goals as goal

pub returns : goal.returns
returns c =
    fed_in c.args.handle.now.slot.held c.put.new.self.slot.held c.deref_mut.result.now
    c.data_now-code.new.self (command_at c.args.moment c.args.ticket
    (data_command c.args.channel c.args.ext c.args.bytes.now))
    c.data_now-code.result (c.in-Some.ensures.taken ∙ ap Some (sym c.deref_mut.ensures.value))
    c.put.ensures c.data_now-code.ensures
