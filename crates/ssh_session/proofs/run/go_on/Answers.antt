use Rattle.std.proofs.Common.{sym, ◌∙◌}
use Rattle.ssh_auth.specs.Plan.{Finish}
use Rattle.ssh_rules.specs.Run.{goes_unless_ended}
use Rattle.ssh_rules.specs.Cause.{comes}
use Rattle.ssh_serving.proofs.Finishing.{is_ended, begun_due, not_begun_due}
use Rattle.ssh_serving.specs.Handing.{IsCutBehind}
use Rattle.ssh_serving.proofs.Handing.{passed_to}
use Rattle.ssh_session.proofs.run.go_on.Goals as goal

pub returns-then-server-clause-does : goal.returns-then-server-clause-does
returns-then-server-clause-does g c = λ w r repeats.
    is_ended c.args.ticked w _ c.args.server.now (sym r.disconnected ∙ c.if-server.true) r

pub returns-in_err-begin_where_due-clause-does : goal.returns-in_err-begin_where_due-clause-does
returns-in_err-begin_where_due-clause-does g c = λ w r repeats.
    passed_to IsCutBehind (goes_unless_ended c.args.ticked w)
    (λ flow world. Finish (comes flow world)) (λ flow world. Finish (comes flow world)) _ _
    c.begin_where_due.new.server c.begin_where_due.new.server _ _ c.from_residual.ensures.1
    (not_begun_due c.args.ticked w _ _ c.begin_where_due.new.server _
    (sym r.disconnected ∙ c.if-server.false)
    (c.in_err-begin_where_due.ensures.does w r repeats))

pub returns-clause-does : goal.returns-clause-does
returns-clause-does g c = λ w r repeats.
    begun_due c.args.ticked w _ _ c.begin_where_due.new.server (sym r.disconnected ∙ c.if-server.false)
    (c.in_ok-begin_where_due.ensures.does w r repeats)
