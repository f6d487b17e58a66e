use Rattle.std.proofs.Common.{rules, ◌≤◌, length, false, sym, subst}
use Rattle.ssh_stories.proofs.sides.takes.Goals as goal

pub step-answer-requires : goal.step-answer-requires
step-answer-requires c = record {
  suits = λ live. subst (λ line. 8 ≤ length line)
      (sym (c.in-Ok.ensures.opens false).server.remote_sshid) (search rules);
}
