use Rattle.std.proofs.Common.{Ok, Err, refl, sym, subst}
use Rattle.ssh_link.specs.Told.{Tells}
use Rattle.ssh_auth.specs.Calls.{lent_call}
use Rattle.ssh_session.proofs.sides.SidesOutside.ask.Goals as goal

pub returns-in-Ok : goal.returns-in-Ok
returns-in-Ok g c = (
  lent_call c.args.lent (Ok tt) c.into_list.result,
  refl,
  (
    ((refl, refl, refl, refl), refl, refl, refl, refl),
    subst (λ l. Tells {E = g.row.H-Error.Denot} (g.H.AuthHandler.told c.args.self.now.handler.now)
        (g.H.AuthHandler.told c.ask.new.handler) (Ok l) (lent_call c.args.lent (Ok tt) l))
        (sym c.into_list.ensures) c.in-Ok.ensures,
  ),
)

pub returns-in-Err : goal.returns-in-Err
returns-in-Err g c = (
  lent_call c.args.lent (Err c.in-Err.e) c.ask.new.session.recorded,
  (c.ask.new.session.recorded, refl),
  (((refl, refl, refl, refl), refl, refl, refl, refl), c.in-Err.ensures),
)
