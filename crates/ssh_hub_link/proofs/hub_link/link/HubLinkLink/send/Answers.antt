use Rattle.std.proofs.Common.{◌∙◌, refl}
use Rattle.ssh_hub_link.proofs.Telling.{takes_entry, feed_entry, sent_frame}
use Rattle.ssh_hub_link.proofs.hub_link.link.HubLinkLink.send.Goals as goal

pub invariant_of-self-in-Ok : goal.invariant_of-self-in-Ok
invariant_of-self-in-Ok g c = let inv = c.self.invariant in let now = c.in-Ok.ensures in
    let adds = c.in_default.ensures.ok in (
      inv.0,
      takes_entry _ _ _ _ _ _ refl adds inv.1,
      feed_entry _ _ _ _ _ _ _ refl adds inv.2 now.inputs,
      sent_frame _ _ _ _ _ _ adds now.sent inv.3,
      now.identity ∙ inv.4,
    )
