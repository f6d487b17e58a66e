use Rattle.std.proofs.Common.{refl, rules}
use Rattle.ssh_hub_link.proofs.Telling.{
  takes_other,
  takes_entry,
  takes_learned,
  takes_undone,
  feed_entry,
  feed_undone,
  sent_entry,
  sent_undone,
}
use Rattle.ssh_hub_link.proofs.hub_link.link.HubLinkLink.answer.Goals as goal

pub invariant_of-self-in-Ok : goal.invariant_of-self-in-Ok
invariant_of-self-in-Ok g c = let inv = c.self.invariant in let adds = c.in_default.ensures.ok in (
  search rules,
  takes_entry _ _ _ _ _ _ refl adds (takes_other _ _ _ _ _ _ inv.1 c.in-Ok.ensures.call refl),
  feed_entry _ _ _ _ _ _ _ refl adds inv.2 refl,
  sent_entry _ _ _ _ _ refl adds inv.3,
  inv.4,
)

pub invariant_of-self-in-Err-answer : goal.invariant_of-self-in-Err-answer
invariant_of-self-in-Err-answer g c = let inv = c.self.invariant in
    let back = c.undo.ensures _ _ c.in_default.ensures.ok in (
      search rules,
      takes_undone _ _ _ _ _ back (takes_learned _ _ _ _ inv.1 c.in-Err-answer.ensures.no_call),
      feed_undone _ _ _ _ _ back inv.2,
      sent_undone _ _ _ _ back inv.3,
      inv.4,
    )
