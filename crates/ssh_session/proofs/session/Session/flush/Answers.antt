use Rattle.std.proofs.Common.{rules, sym, ap, ◌∙◌}
use Rattle.ssh_session.proofs.Flushing.{flush_known}
use Rattle.ssh_session.proofs.session.Session.flush.Goals as goal

pub returns-clause-cut : goal.returns-clause-cut
returns-clause-cut g c = λ w r repeats.
    flush_known c.take_untold-notices.result.items _ w _ _ _ _
    (g.L.Link.starved c.new-ends.result.link.now) (g.L.Link.starved c.args.link.now)
    (g.L.Link.starved c.flush_behind-outcome.new.ends.link.now) (g.L.Link.starved c.link-1.given.0)
    c.flush_behind-outcome.new.self c.keep_untold.new.self c.flush_behind-outcome.result
    c.take_untold-notices.ensures.notices (cc) (search rules) (cc) (search rules) c.keep_untold.ensures.unchanged
    (c.flush_behind-outcome.ensures.flushed w (c.take_untold-notices.ensures.unchanged w r)
    (repeats ∙ ap g.K.Kex.repeats (sym c.new-ends.ensures.kex)))
