use Rattle.std.proofs.Common.{◌∙◌}
use Rattle.ssh_gateway.proofs.Attending.{attended_as}
use Rattle.ssh_gateway.proofs.run.turns_with.Goals as goal

pub returns : goal.returns
returns g c = record {
  same = c.turns.new.keeper.named ∙ c.requires.name;
  attended = λ settings calls r repeats kept tells. attended_as _ _ settings c.args.max_turns _ _ _ _
      _ _ _ (λ silent. silent) (λ made keeps. keeps.1)
      (c.turns.ensures.attended settings calls r repeats kept tells);
}
