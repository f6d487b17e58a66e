use Rattle.std.proofs.Common.{Ok, Err, refl, sym, subst}
use Rattle.ssh_link.specs.Told.{Tells}
use Rattle.ssh_auth.specs.Calls.{judged_call}
use Rattle.ssh_session.proofs.sides.SidesOutside.judge.Goals as goal

pub returns-in-Ok : goal.returns-in-Ok
returns-in-Ok g c = (
  judged_call c.args.judged (Ok c.in-Ok.granted) c.into_list.result,
  refl,
  (
    ((refl, refl, refl, refl), refl, refl, refl, refl),
    subst (λ l. Tells {E = g.row.H-Error.Denot} (g.H.AuthHandler.told c.args.self.now.handler.now)
        (g.H.AuthHandler.told c.judge.new.handler) (Ok c.in-Ok.granted)
        (judged_call c.args.judged (Ok c.in-Ok.granted) l))
        (sym c.into_list.ensures) c.in-Ok.ensures,
  ),
)

pub returns-in-Err : goal.returns-in-Err
returns-in-Err g c = (
  judged_call c.args.judged (Err c.in-Err.e) c.judge.new.session.recorded,
  (c.judge.new.session.recorded, refl),
  (((refl, refl, refl, refl), refl, refl, refl, refl), c.in-Err.ensures),
)
