use Rattle.std.proofs.Common.{◌≡◌}
use Rattle.ssh_hub.specs.Views.{own_reservations}
use Rattle.ssh_hub.specs.declared.history.HubCall.TheVariants.{PutCommand}
use Rattle.ssh_hub.specs.Words.{room_of}
use Rattle.ssh_hub.specs.Follow.{Acts}
use Rattle.ssh_handles.specs.Said.{ticket_said}
use Rattle.ssh_handles.specs.Tries.{tries, trying}
use Rattle.ssh_handles.specs.Callers.{hub_of, seen_by}
use Rattle.ssh_handles.proofs.caller.Caller.put.Given as goal

abbrev pub invariant-loop : goal.invariant-loop
invariant-loop g l =
    (hub_of l.self ≡ hub_of l.fn.self)
    × (l.msg ≡ l.fn.msg)
    × Acts (tries (PutCommand l.fn.msg l.spend l.wanted) ticket_said) (seen_by l.fn.self) trying trying
    (seen_by l.self)
    × (room_of l.self.seat ≡ room_of l.fn.self.seat)
    × (own_reservations (seen_by l.self) ≡ own_reservations (seen_by l.fn.self))
