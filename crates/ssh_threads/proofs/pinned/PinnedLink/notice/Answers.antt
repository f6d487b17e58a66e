use Rattle.std.proofs.Common.{ap, ◌∙◌}
use Rattle.std.specs.Borrow.{MutBor}
use Rattle.ssh_hub.specs.Words.{config_of, view_of}
use Rattle.ssh_hub.specs.declared.lock.HubLock.{HubLock}
use Rattle.ssh_threads.proofs.pinned.PinnedLink.notice.Goals as goal

pub invariant_of-self : goal.invariant_of-self
invariant_of-self g c = let same = c.notice-told.ensures.same.0 in let pin = c.self.invariant in (
  ap (λ (l : HubLock). l.table.shared.table_id) same.0 ∙ pin.0,
  ap config_of same.0 ∙ pin.1,
  ap view_of same.1 ∙ pin.2,
  ap (λ (f : MutBor _). f.ghost_name) same.2 ∙ pin.3,
  ap (λ (f : MutBor _). g.P.Feed.inputs f.now) same.2 ∙ pin.4,
  ap (λ (f : MutBor _). g.P.Feed.frames f.now) same.2 ∙ pin.5,
)
