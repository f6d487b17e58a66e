use Rattle.std.proofs.Common.{sym, ◌∙◌}
use Rattle.ssh_rules.specs.Acts.{acts}
use Rattle.ssh_rules.specs.Rows.{told}
use Rattle.ssh_serving.proofs.Refining.{there_same}
use Rattle.ssh_serving.proofs.Rows.{nothing_on, all_on}
use Rattle.ssh_serving.proofs.Serving.{serves_nothing}
use Rattle.ssh_serving.proofs.server.Server.tell_on.Goals as goal

pub returns-then-not-is_established-clause-does : goal.returns-then-not-is_established-clause-does
returns-then-not-is_established-clause-does g c = λ w r later.
    rw (nothing_on c.args.channel.0 w (λ _. told c.args.channel c.args.message c.args.happening)
    (sym (c.is_established.ensures ∙ there_same c.args.channel.0 c.args.self.now w r) ∙ c.if-not-is_established.true))
    (serves_nothing tt (λ (_ : Unit {0}). acts later) _ w c.args.self.now r)

pub returns-clause-does : goal.returns-clause-does
returns-clause-does g c = λ w r later.
    rw (all_on c.args.channel.0 w (told c.args.channel c.args.message c.args.happening)
    (sym (c.is_established.ensures ∙ there_same c.args.channel.0 c.args.self.now w r) ∙ c.if-not-is_established.false)) (c.tell.ensures.does w r later)
