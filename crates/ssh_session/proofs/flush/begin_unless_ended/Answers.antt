use Rattle.std.proofs.Common.{sym, ◌∙◌}
use Rattle.ssh_session.proofs.Flushing.{flush_ended, flush_due}
use Rattle.ssh_session.proofs.flush.begin_unless_ended.Goals as goal

pub returns-then-server-clause-does : goal.returns-then-server-clause-does
returns-then-server-clause-does g c = λ w r repeats.
    flush_ended w _ c.args.server.now (sym r.disconnected ∙ c.if-server.true) r

pub returns-clause-does : goal.returns-clause-does
returns-clause-does g c = λ w r repeats.
    flush_due w _ _ c.begin_where_due.new.server c.begin_where_due.result
    (sym r.disconnected ∙ c.if-server.false) (c.begin_where_due.ensures.does w r repeats)
