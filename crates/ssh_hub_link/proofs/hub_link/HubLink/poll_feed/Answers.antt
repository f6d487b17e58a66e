use Rattle.std.proofs.Common.{◌∙◌, subst, Option, IfSome}
use Rattle.ssh_link.specs.declared.frame.Input.{Input}
use Rattle.ssh_hub_link.specs.Feeds.{IsOfFeed}
use Rattle.ssh_hub_link.proofs.Telling.{takes_fed, feed_polled, goes_still}
use Rattle.ssh_hub_link.proofs.hub_link.HubLink.poll_feed.Goals as goal

pub invariant_of-self : goal.invariant_of-self
invariant_of-self g c = let inv = c.self.invariant in let now = c.in-Ok-Some.ensures in
    let fed : IsOfFeed c.in-Ok-Some.input.kind =
    subst (λ (o : Option Input). IfSome o (λ input. IsOfFeed input.kind)) c.in-Ok-Some.field-0-is
    now.fed in (
      inv.0,
      takes_fed _ _ _ _ _ inv.1 fed c.taken.ensures.given,
      feed_polled _ _ _ _ _ _ _ inv.2 fed c.taken.ensures.given c.in-Ok-Some.field-0-is now.given,
      goes_still _ _ _ _ _ inv.3 c.taken.ensures.sent now.frames,
      now.identity ∙ inv.4,
    )
