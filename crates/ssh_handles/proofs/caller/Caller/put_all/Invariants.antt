use Rattle.std.proofs.Common.{◌≡◌, ◌<◌, [], length}
use Rattle.ssh_hub.specs.Views.{own_reservations}
use Rattle.ssh_hub.specs.Words.{room_of}
use Rattle.ssh_hub.specs.Follow.{Acts}
use Rattle.ssh_handles.specs.Callers.{hub_of, seen_by}
use Rattle.ssh_handles.specs.Writing.{writes, asking}
use Rattle.ssh_handles.proofs.caller.Caller.put_all.Given as goal

abbrev pub invariant-loop : goal.invariant-loop
invariant-loop g l =
    (hub_of l.self ≡ hub_of l.fn.self)
    × (room_of l.self.seat ≡ room_of l.fn.self.seat)
    × (own_reservations (seen_by l.self) ≡ [])
    × (0 < length l.rest)
    × Acts (writes l.channel l.ext) (seen_by l.fn.self) (asking l.packet l.fn.bytes)
    (asking l.packet l.rest) (seen_by l.self)
