use Rattle.std.proofs.Common.{◌∙◌}
use Rattle.ssh_hub_link.proofs.Telling.{takes_fed, feed_gave, goes_still}
use Rattle.ssh_hub_link.proofs.hub_link.HubLink.wait_feed.Goals as goal

pub invariant_of-self : goal.invariant_of-self
invariant_of-self g c = let inv = c.self.invariant in let now = c.in-Ok.ensures in (
  inv.0,
  takes_fed _ _ _ _ _ inv.1 now.fed c.taken.ensures.given,
  feed_gave _ _ _ _ _ _ inv.2 now.fed c.taken.ensures.given now.given,
  goes_still _ _ _ _ _ inv.3 c.taken.ensures.sent now.frames,
  now.identity ∙ inv.4,
)
