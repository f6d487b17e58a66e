use Rattle.std.proofs.Common.{◌≡◌, ◌≤◌, []}
use Rattle.ssh_hub.specs.Views.{own_reservations}
use Rattle.ssh_hub.specs.Words.{room_of}
use Rattle.ssh_handles.specs.Callers.{hub_of, seen_by}
use Rattle.ssh_handles.proofs.Sending.{SoFar}
use Rattle.ssh_handles.proofs.caller.Caller.send.Given as goal

abbrev pub invariant-loop : goal.invariant-loop
invariant-loop g l =
    (hub_of l.self ≡ hub_of l.fn.self)
    × (room_of l.self.seat ≡ room_of l.fn.self.seat)
    × (own_reservations (seen_by l.self) ≡ [])
    × SoFar l.channel l.ext (g.S.Source.left l.fn.source) (g.S.Source.left l.source)
    (seen_by l.fn.self) l.count (seen_by l.self)
    × (g.S.Source.faults l.fn.source ≤ g.S.Source.faults l.source)
