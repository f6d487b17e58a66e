use Rattle.std.proofs.Common.{◌≡◌}
use Rattle.ssh_link.specs.Faults.{NeverFalls}
use Rattle.ssh_rules.specs.Account.{told_by}
use Rattle.ssh_session.specs.Serve.{Refines}
use Rattle.ssh_rules.specs.World.{Settings, opening_world}
use Rattle.ssh_session.proofs.Runs.{Going}
use Rattle.ssh_session.proofs.run.run_inputs.Given as goal

abbrev pub invariant-loop : goal.invariant-loop
invariant-loop g l = ((settings : Settings) → Refines l.fn.session (opening_world settings) →
    settings.repeatable ≡ g.K.Kex.repeats l.fn.sides.kex.now →
    Going (g.V.Verifier.accepts l.fn.verifier) settings
    (told_by g.H.AuthHandler.told g.K.Kex.steps g.L.Link.trace g.L.Link.faults
    l.fn.sides.handler.now l.fn.sides.kex.now l.fn.sides.link.now)
    (told_by g.H.AuthHandler.told g.K.Kex.steps g.L.Link.trace g.L.Link.faults l.sides.handler.now
    l.sides.kex.now l.sides.link.now) l.counter l.session)
    × (g.K.Kex.repeats l.sides.kex.now ≡ g.K.Kex.repeats l.fn.sides.kex.now)
    × ((settings : Settings) → Refines l.fn.session (opening_world settings) →
    settings.repeatable ≡ g.K.Kex.repeats l.fn.sides.kex.now →
    NeverFalls (g.L.Link.starved l.fn.sides.link.now) (g.L.Link.starved l.sides.link.now))
    × (l.sides.handler.ghost_name ≡ l.fn.sides.handler.ghost_name)
    × (l.sides.kex.ghost_name ≡ l.fn.sides.kex.ghost_name)
    × (l.sides.link.ghost_name ≡ l.fn.sides.link.ghost_name)
