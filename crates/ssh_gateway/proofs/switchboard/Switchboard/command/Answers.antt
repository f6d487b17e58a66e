use Rattle.std.proofs.Common.{arith, sym}
use Rattle.ssh_gateway.proofs.Choices.{commands_end}
use Rattle.ssh_gateway.proofs.switchboard.Switchboard.command.Goals as goal

pub returns-in-End : goal.returns-in-End
returns-in-End c = rw (sym c.self.view_is) (record {
  noted = λ earlier later one is long. commands_end _ c.args.place c.index-one.result.now
      c.index_mut.result.now c.args.found c.command-in-End.result earlier later one is long
      c.in-End.is c.index-one.ensures c.index_mut.ensures.value c.command-in-End.ensures;
  counts = (omega arith, omega arith);
})
