use Rattle.ssh_session.proofs.Flushing.{flush_fails, flush_goes}
use Rattle.ssh_session.proofs.session.Session.flush_behind.Goals as goal

pub returns-in-Ok-clause-flushed : goal.returns-in-Ok-clause-flushed
returns-in-Ok-clause-flushed g c = λ w r repeats.
    flush_goes c.args.notices.now.items w _ _ c.flush_over.new.server _
    (λ v q. record { server = q; live = r.live }) (c.in-Ok.ensures.does w r.server repeats)

pub returns-in-Err-clause-flushed : goal.returns-in-Err-clause-flushed
returns-in-Err-clause-flushed g c = λ w r repeats.
    rw c.flush_error.ensures (flush_fails c.args.notices.now.items w _ _ c.flush_over.new.server _
    c.in-Err.error (c.in-Err.ensures.does w r.server repeats))
