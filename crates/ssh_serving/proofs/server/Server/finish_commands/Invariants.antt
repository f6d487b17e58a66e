use Rattle.std.proofs.Common.{◌≡◌, ◌+◌, Ok, length}
use Rattle.ssh_auth.specs.Plan.{Plan}
use Rattle.ssh_rules.specs.World.{World}
use Rattle.ssh_rules.specs.Acts.{done_all}
use Rattle.ssh_rules.specs.Heard.{AreSame}
use Rattle.ssh_rules.specs.Outcome.{Outcome}
use Rattle.ssh_serving.specs.Serve.{Refines, Serves, IsSameServer}
use Rattle.ssh_serving.proofs.server.Server.finish_commands.Given as goal

abbrev pub invariant-loop-place : goal.invariant-loop-place
invariant-loop-place g l = record {
  left : l.place + length l.commands ≡ length l.fn.commands;
  does : (w : World) → Refines l.fn.self w → (next : World → Plan Outcome) →
      Serves (done_all l.fn.at 0 l.fn.commands w next) (λ (_ : Unit {0}) world. done_all l.fn.at l.place l.commands
      world next)
      (g.O.Transport.heard l.fn.outside) (g.O.Transport.heard l.outside) l.self (Ok tt);
  session : IsSameServer l.fn.self l.self;
  same : AreSame (g.O.Transport.heard l.fn.outside) (g.O.Transport.heard l.outside);
}
