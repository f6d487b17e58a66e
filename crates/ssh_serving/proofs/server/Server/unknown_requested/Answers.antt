use Rattle.std.proofs.Common.{false, refl, subst}
use Rattle.ssh_rules.specs.World.{lined, settles_one, wants_if}
use Rattle.ssh_serving.specs.Serve.{Refines}
use Rattle.ssh_serving.proofs.server.Server.unknown_requested.Goals as goal

pub returns-clause-does : goal.returns-clause-does
returns-clause-does g c = λ w r later.
    let v = lined (wants_if c.args.wanted c.args.channel.0) w in (
      _,
      refl,
      subst (λ a. Refines c.settle_one.new.self (lined (settles_one a.place a.channel.0 false) v))
          (c.in_ok-asked.ensures.asked w r)
          (c.in_ok-settle_one.ensures.world v (c.in_ok-asked.ensures.world w r)),
    )
