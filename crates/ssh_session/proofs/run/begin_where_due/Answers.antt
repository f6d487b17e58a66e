use Rattle.std.proofs.Common.{sym, ◌∙◌}
use Rattle.ssh_rules.specs.Run.{is_due}
use Rattle.ssh_serving.proofs.Finishing.{none_begins, one_begins}
use Rattle.ssh_session.proofs.run.begin_where_due.Goals as goal

pub returns-then-not-is_due-clause-does : goal.returns-then-not-is_due-clause-does
returns-then-not-is_due-clause-does g c = λ w r repeats.
    none_begins (is_due c.args.ticked w) w _ c.args.server.now
    (sym (c.is_due.ensures w r (c.repeatable.ensures ∙ sym repeats)) ∙ c.if-not-is_due.true) r

pub returns-clause-does : goal.returns-clause-does
returns-clause-does g c = λ w r repeats.
    one_begins (is_due c.args.ticked w) w _ _ c.begin_exchange.new.self c.begin_exchange.result
    (sym (c.is_due.ensures w r (c.repeatable.ensures ∙ sym repeats)) ∙ c.if-not-is_due.false)
    (c.begin_exchange.ensures.does w r)
