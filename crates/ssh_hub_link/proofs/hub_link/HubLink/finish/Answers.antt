use Rattle.std.proofs.Common.{refl, subst}
use Rattle.std.specs.Option.{option_map}
use Rattle.ssh_hub.specs.Words.{view_of}
use Rattle.ssh_hub_link.specs.Given.{given, of_hub, TakesOf}
use Rattle.ssh_hub_link.specs.Linked.{Linked}
use Rattle.ssh_hub_link.proofs.Telling.{takes_other}
use Rattle.ssh_hub_link.proofs.hub_link.HubLink.finish.Goals as goal

pub returns-clause-takes : goal.returns-clause-takes
returns-clause-takes g c = subst
    (λ (l : Linked _ _ _). TakesOf (view_of l.seat_before) (view_of c.end.new.seat)
    (option_map of_hub (given l.trace l.lost))) c.self.view_is
    (takes_other _ _ _ _ _ _ c.self.invariant.1 c.end.ensures.call refl)
