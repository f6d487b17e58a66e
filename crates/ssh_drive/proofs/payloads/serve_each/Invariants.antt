use Rattle.std.proofs.Common.{◌≡◌, ◌++◌}
use Rattle.ssh_rules.specs.Account.{told_by}
use Rattle.ssh_session.specs.Serve.{Refines}
use Rattle.ssh_rules.specs.World.{Settings, opening_world}
use Rattle.ssh_drive.proofs.Serving.{Going}
use Rattle.ssh_drive.proofs.payloads.serve_each.Given as goal

abbrev pub invariant-loop-payload : goal.invariant-loop-payload
invariant-loop-payload g l = record {
  items : l.yielded ++ l.payload-iterator.rest.items ≡ l.fn.payloads.items;
  going : (settings : Settings) → Refines l.fn.session (opening_world settings) →
      settings.repeatable ≡ g.K.Kex.repeats l.fn.kex →
      Going (g.V.Verifier.accepts l.fn.verifier) settings l.yielded
      (told_by g.H.AuthHandler.told g.K.Kex.steps g.L.Link.trace g.L.Link.faults l.fn.handler
      l.fn.kex l.fn.link)
      (told_by g.H.AuthHandler.told g.K.Kex.steps g.L.Link.trace g.L.Link.faults l.handler l.kex
      l.link) l.session;
  repeats : g.K.Kex.repeats l.kex ≡ g.K.Kex.repeats l.fn.kex;
}
