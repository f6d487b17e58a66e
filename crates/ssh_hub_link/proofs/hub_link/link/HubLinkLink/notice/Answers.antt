use Rattle.std.proofs.Common.{refl, rules}
use Rattle.ssh_hub_link.proofs.Noticing.{takes_noticed}
use Rattle.ssh_hub_link.proofs.Telling.{
  takes_entry,
  takes_learned,
  takes_undone,
  feed_entry,
  feed_undone,
  sent_entry,
  sent_undone,
}
use Rattle.ssh_hub_link.proofs.hub_link.link.HubLinkLink.notice.Goals as goal

pub invariant_of-self-in-Ok : goal.invariant_of-self-in-Ok
invariant_of-self-in-Ok g c = let inv = c.self.invariant in let adds = c.in_default.ensures.ok in (
  search rules,
  takes_entry _ _ _ _ _ _ refl adds (takes_noticed _ _ _ _ _ inv.1 c.in-Ok.ensures.ok),
  feed_entry _ _ _ _ _ _ _ refl adds inv.2 refl,
  sent_entry _ _ _ _ _ refl adds inv.3,
  inv.4,
)

pub invariant_of-self-in-Err-tell : goal.invariant_of-self-in-Err-tell
invariant_of-self-in-Err-tell g c = let inv = c.self.invariant in
    let back = c.undo.ensures _ _ c.in_default.ensures.ok in (
      search rules,
      takes_undone _ _ _ _ _ back (takes_learned _ _ _ _ inv.1 c.in-Err-tell.ensures.err),
      feed_undone _ _ _ _ _ back inv.2,
      sent_undone _ _ _ _ back inv.3,
      inv.4,
    )
