use Rattle.std.proofs.Common.{refl, rules}
use Rattle.ssh_hub_link.proofs.Telling.{takes_empty, takes_one, feed_untouched, goes_still}
use Rattle.ssh_hub_link.proofs.hub_link.HubLink.take.Goals as goal

pub invariant_of-self : goal.invariant_of-self
invariant_of-self g c = let inv = c.self.invariant in (
  search rules,
  takes_empty _ _ _ _ _ _ _ inv.1 c.take.ensures.call c.in_default.is,
  inv.2,
  inv.3,
  inv.4,
)

pub invariant_of-self-2 : goal.invariant_of-self-2
invariant_of-self-2 g c = let inv = c.self.invariant in (
  search rules,
  takes_one _ _ _ _ _ _ _ _ _ _ inv.1 c.take.ensures.call c.in-Some.is c.input_of-input.ensures
      c.taken.ensures.given,
  feed_untouched _ _ _ _ _ _ inv.2 c.input_of-input.ensures c.taken.ensures.given,
  goes_still _ _ _ _ _ inv.3 c.taken.ensures.sent refl,
  inv.4,
)
