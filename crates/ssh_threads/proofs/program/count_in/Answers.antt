use Rattle.std.proofs.Common.{arith, subst}
use Rattle.ssh_scene.specs.Grammar.{IsNumberIn}
use Rattle.ssh_threads.proofs.Asking.{other_count}
use Rattle.ssh_threads.proofs.program.count_in.Goals as goal

pub returns-then-count-eq0 : goal.returns-then-count-eq0
returns-then-count-eq0 c = other_count c.args.digits.now c.in-Some.count
    (subst (IsNumberIn c.args.digits.now) c.in-Some.is c.in_ok-count.ensures)
    (λ asked. absurd (omega (arith, asked.0)))

pub returns-then-count-gt-MOST_CHANNELS : goal.returns-then-count-gt-MOST_CHANNELS
returns-then-count-gt-MOST_CHANNELS c = other_count c.args.digits.now c.in-Some.count
    (subst (IsNumberIn c.args.digits.now) c.in-Some.is c.in_ok-count.ensures)
    (λ asked. absurd (omega (arith, asked.1)))
