use Rattle.std.proofs.Common.{refl, sym, subst}
use Rattle.ssh_embed.specs.Taking.{IsOpened}
use Rattle.ssh_rules.specs.World.{settings_of}
use Rattle.ssh_c.specs.Feeding.{HoldsOpened}
use Rattle.ssh_c.proofs.export.gidzork_open.Goals as goal

pub returns-in-Ok-new : goal.returns-in-Ok-new
returns-in-Ok-new c done =
    let settings = settings_of c.config-config.result c.args.session_id.now c.args.remote.now
    c.repeatable.result in (
      settings,
      refl,
      refl,
      subst (HoldsOpened settings) (sym c.put.ensures)
          (subst (λ held. IsOpened settings held.connection) (sym c.in-Ok-new.ensures.ok)
          (subst (IsOpened settings) (sym c.new-2.ensures) c.in-Ok.ensures.opens)),
    )
