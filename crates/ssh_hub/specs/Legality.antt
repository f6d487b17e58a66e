-- A history is legal in one way at most.
use Rattle.std.proofs.Common.{List, [], ◌∷◌}
use Rattle.std.proofs.Props.{props}
use Rattle.ssh_hub.specs.World.{World}
use Rattle.ssh_hub.specs.Step.{hub_step}
use Rattle.ssh_hub.specs.History.{IsLegal}
use Rattle.ssh_hub.specs.declared.history.HubReply.{HubReply}
use Rattle.ssh_hub.specs.declared.history.Entry.{Entry}

reply_set : IsSet HubReply
reply_set = hlevel props

pub IsLegal-prop : (w : World) (log : List Entry) → IsProp (IsLegal w log)
IsLegal-prop w [] = hlevel props
IsLegal-prop w (e ∷ es) = let rest = IsLegal-prop (hub_step w e.by e.call).0 es in
    hlevel (props, rest, reply_set)
