use Rattle.std.proofs.Common.{◌≡◌, ◌++◌}
use Rattle.ssh_rules.specs.Account.{told_by}
use Rattle.ssh_session.specs.Serve.{Refines}
use Rattle.ssh_rules.specs.World.{Settings, opening_world}
use Rattle.ssh_drive.proofs.Driving.{Going}
use Rattle.ssh_drive.proofs.moves.drive_each.Given as goal

abbrev pub invariant-loop-next : goal.invariant-loop-next
invariant-loop-next g l = record {
  items : l.yielded ++ l.next-iterator.rest.items ≡ l.fn.moves.items;
  going : (settings : Settings) → Refines l.fn.session (opening_world settings) →
      settings.repeatable ≡ g.K.Kex.repeats l.fn.kex →
      Going (g.V.Verifier.accepts l.fn.verifier) settings l.fn.moment l.yielded
      (told_by g.H.AuthHandler.told g.K.Kex.steps g.L.Link.trace g.L.Link.faults l.fn.handler
      l.fn.kex l.fn.link)
      (told_by g.H.AuthHandler.told g.K.Kex.steps g.L.Link.trace g.L.Link.faults l.handler l.kex
      l.link) l.session;
  repeats : g.K.Kex.repeats l.kex ≡ g.K.Kex.repeats l.fn.kex;
}
