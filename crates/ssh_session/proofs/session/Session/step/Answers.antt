use Rattle.std.proofs.Common.{rules, sym, ap, ◌∙◌}
use Rattle.ssh_session.specs.Between.{untold}
use Rattle.ssh_session.proofs.Stepping.{known_cut, steps_cut}
use Rattle.ssh_session.proofs.session.Session.step.Goals as goal

pub returns-clause-cut : goal.returns-clause-cut
returns-clause-cut g c = λ w r repeats.
    known_cut c.take_untold-notices.result.items _ (g.V.Verifier.accepts c.args.verifier.now) w
    c.args.input _ _ _ _ (g.L.Link.starved c.new-sides.result.link.now)
    (g.L.Link.starved c.args.link.now)
    (g.L.Link.starved c.step_behind-outcome.new.sides.link.now) (g.L.Link.starved c.link-1.given.0)
    c.step_behind-outcome.new.self c.keep_untold.new.self c.step_behind-outcome.result
    c.take_untold-notices.ensures.notices (cc) (search rules) (cc) (search rules)
    c.keep_untold.ensures.unchanged
    (c.step_behind-outcome.ensures.taken w (c.take_untold-notices.ensures.unchanged w r)
    (repeats ∙ ap g.K.Kex.repeats (sym c.new-sides.ensures.kex)))

pub returns-clause-taken : goal.returns-clause-taken
returns-clause-taken g c = λ w r repeats.
    steps_cut (untold c.args.self.now) _ w c.args.input _ _ _ _ _
    (returns-clause-cut g c w r repeats)
