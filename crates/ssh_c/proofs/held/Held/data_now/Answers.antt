use Rattle.std.proofs.Common.{subst}
use Rattle.ssh_c.specs.Commanding.{data_command}
use Rattle.ssh_c.specs.Feeding.{FedNow, command_at}
use Rattle.ssh_c.proofs.held.Held.data_now.Goals as goal

pub returns-in-Ok : goal.returns-in-Ok
returns-in-Ok c =
    subst (λ bytes. FedNow c.args.self.now (command_at c.args.moment c.args.ticket
    (data_command c.args.channel c.args.ext bytes)) c.command_now.new.self c.command_now.result)
    c.in-Ok.ensures
    (subst (λ command. FedNow c.args.self.now (command_at c.args.moment c.args.ticket command)
    c.command_now.new.self c.command_now.result) c.data_command.ensures c.command_now.ensures)
