use Rattle.std.proofs.Common.{arith}
use Rattle.std.proofs.lemmas.Grind.{common_steps}
use Rattle.ssh_script.proofs.Reading.{written_more}
use Rattle.ssh_script.proofs.transfer.write_all.Goals as goal

pub loop-rest-preserved : goal.loop-rest-preserved
loop-rest-preserved g c = record {
  written = written_more _ _ _ c.in_ok-n.n c.args.text.now c.loop-rest.rest.now _
      c.loop-rest.invariant.written c.in_ok-n.ensures.written (grind (arith, common_steps));
  later = omega (arith, c.loop-rest.invariant.later, c.write.ensures.later);
}
