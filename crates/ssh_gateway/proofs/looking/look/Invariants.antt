use Rattle.std.proofs.Common.{◌≤◌, take}
use Rattle.ssh_link.specs.Told.{Adds}
use Rattle.ssh_rules.specs.World.{World}
use Rattle.ssh_session.specs.Serve.{Refines}
use Rattle.ssh_gateway.specs.Choosing.{AreIdle, silences}
use Rattle.ssh_gateway.proofs.looking.look.Given as goal

-- those before this place were read in vain
abbrev pub invariant-loop-place : goal.invariant-loop-place
invariant-loop-place g l = record {
  idle : (w : World) → Refines l.session w → AreIdle w (take l.place l.connections)
      × Adds (g.T.Targets.told l.fn.targets) (g.T.Targets.told l.targets)
      (silences w (take l.place l.connections));
  later : g.T.Targets.faults l.fn.targets ≤ g.T.Targets.faults l.targets;
}
