use Rattle.std.proofs.Common.{◌&&◌, not, ap, sym, ◌∙◌}
use Rattle.ssh_channels.specs.Table.{some_wait}
use Rattle.ssh_rules.specs.Run.{nothing_waits}
use Rattle.ssh_serving.proofs.Refining.{asks, runs}
use Rattle.ssh_serving.proofs.server.Server.commands_wanted.Goals as goal

pub returns-then-not-is_running-clause-world : goal.returns-then-not-is_running-clause-world
returns-then-not-is_running-clause-world c = λ w r.
    ap not c.has_any_pending_data.ensures ∙ (asks c.args.self.now w r
    ∙ sym (ap (λ b. not b && nothing_waits w)
    (sym (c.is_running.ensures ∙ runs c.args.self.now w r) ∙ c.if-not-is_running.true)))

pub returns-else-not-is_running-clause-world : goal.returns-else-not-is_running-clause-world
returns-else-not-is_running-clause-world c = λ w r.
    ap not c.if-not-is_running.false ∙ sym (ap (λ b. not b && nothing_waits w)
    (sym (c.is_running.ensures ∙ runs c.args.self.now w r) ∙ c.if-not-is_running.false))

pub returns-then-not-is_running-clause-lent : goal.returns-then-not-is_running-clause-lent
returns-then-not-is_running-clause-lent c =
    ap not c.has_any_pending_data.ensures
    ∙ sym (ap (λ b. not b && not (some_wait c.args.self.now.table))
    (sym c.is_running.ensures ∙ c.if-not-is_running.true))

pub returns-else-not-is_running-clause-lent : goal.returns-else-not-is_running-clause-lent
returns-else-not-is_running-clause-lent c =
    ap not c.if-not-is_running.false ∙ sym (ap (λ b. not b && not (some_wait c.args.self.now.table))
    (sym c.is_running.ensures ∙ c.if-not-is_running.false))
