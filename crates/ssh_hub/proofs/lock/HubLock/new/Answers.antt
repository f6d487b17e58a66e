use Rattle.std.proofs.Common.{ap, ◌∙◌, ◌++◌, ◌∷◌, [], Some, List, Option}
use Rattle.ssh_hub.specs.World.{Held}
use Rattle.ssh_hub.proofs.Seating.{begins_as}
use Rattle.ssh_hub.proofs.lock.HubLock.new.Goals as goal

pub new-requires-2 : goal.new-requires-2
new-requires-2 c = let h : Held = c.in_ok-hub.hub in
    begins_as c.args.config.now c.push.new.self.items h (c.in_ok-push.ensures.items
    ∙ ap (λ (l : List (Option Held)). l ++ Some h ∷ []) c.new-slots.ensures.items)
    c.in_ok-hub.ensures
