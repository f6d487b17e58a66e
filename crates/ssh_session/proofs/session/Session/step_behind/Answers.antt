use Rattle.ssh_session.proofs.Stepping.{noted_behind, stands_by}
use Rattle.ssh_session.proofs.session.Session.step_behind.Goals as goal

pub returns-clause-taken : goal.returns-clause-taken
returns-clause-taken g c = λ w r repeats.
    noted_behind c.args.notices.now.items (g.V.Verifier.accepts c.args.verifier.now) w c.args.input
    _ _ c.take_behind-outcome.new.server c.note_end.new.self c.take_behind-outcome.result
    (λ goes. stands_by _ _ (c.note_end.ensures.continues goes) r.live)
    (c.take_behind-outcome.ensures.does w r.server repeats)
