use Rattle.std.proofs.Common.{arith, subst}
use Rattle.ssh_scene.specs.Grammar.{IsNumberIn}
use Rattle.ssh_script.proofs.Sizes.{other_size}
use Rattle.ssh_script.proofs.task.size_in.Goals as goal
use Rattle.ssh_script.proofs.task.size_in.Goals.{
  then-channels-eq0-via-then-channels-eq0,
  then-channels-eq0-via-else-channels-eq0+then-channels-gt-MOST_CHANNELS,
}

pub returns-then-channels-eq0 : goal.returns-then-channels-eq0
returns-then-channels-eq0 c = other_size c.args.digits.now c.in-Some.channels
    (subst (IsNumberIn c.args.digits.now) c.in-Some.is c.in_ok-channels.ensures)
    (λ size. elim c.then-channels-eq0.branch [
      | then-channels-eq0-via-then-channels-eq0 w ↦ absurd (omega (arith, size.0))
      | then-channels-eq0-via-else-channels-eq0+then-channels-gt-MOST_CHANNELS w ↦
          absurd (omega (arith, size.1))
    ])
