use Rattle.std.proofs.Common.{refl}
use Rattle.ssh_session.proofs.session.Session.new.Goals as goal

pub returns-clause-opens : goal.returns-clause-opens
returns-clause-opens c = λ repeatable. record {
  server = c.in_ok-new.ensures.opens repeatable;
  live = refl;
}
