use Rattle.std.proofs.Common.{◌≡◌, ◌≤◌, List, [], Some}
use Rattle.ssh_auth.specs.declared.call.Call.{Call}
use Rattle.ssh_rules.specs.World.{Settings, opening_world}
use Rattle.ssh_session.specs.Between.{untold}
use Rattle.ssh_session.specs.Serve.{Refines}
use Rattle.ssh_gateway.specs.Serving.{outside}
use Rattle.ssh_gateway.proofs.Going.{Going}
use Rattle.ssh_gateway.proofs.run.turns.Given as goal

abbrev pub invariant-loop : goal.invariant-loop
invariant-loop g l = record {
  told : untold l.session ≡ [];
  repeats : g.K.Kex.repeats l.kex ≡ g.K.Kex.repeats l.fn.kex;
  id : l.board.last_id ≤ l.counter;
  ticket : l.board.last_ticket ≤ l.counter;
  going : (settings : Settings) (calls : List (Call g.row.A-Error.Denot)) →
      Refines l.fn.session (opening_world settings) →
      settings.repeatable ≡ g.K.Kex.repeats l.fn.kex → l.fn.keeper.notebook.now ≡ Some [] →
      g.A.AuthHandler.told l.fn.keeper.auth.now ≡ Some calls →
      Going (g.V.Verifier.accepts l.fn.verifier) (g.P.Policy.permits l.fn.policy) settings
      l.counter l.board l.fn.keeper.auth.ghost_name l.keeper.auth.ghost_name calls
      (g.A.AuthHandler.told l.keeper.auth.now) l.keeper.notebook.now
      (outside g.K.Kex.steps g.L.Link.trace g.L.Link.faults g.T.Targets.told g.T.Targets.faults
      l.fn.kex l.fn.link l.fn.targets)
      (outside g.K.Kex.steps g.L.Link.trace g.L.Link.faults g.T.Targets.told g.T.Targets.faults
      l.kex l.link l.targets) l.session;
}
