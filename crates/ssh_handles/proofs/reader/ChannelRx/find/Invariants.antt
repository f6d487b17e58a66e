use Rattle.std.proofs.Common.{◌≡◌}
use Rattle.ssh_hub.specs.declared.history.HubCall.TheVariants.{ReceiveMsg}
use Rattle.ssh_hub.specs.Follow.{Acts}
use Rattle.ssh_handles.specs.Reading.{found_said}
use Rattle.ssh_handles.specs.Tries.{tries, trying}
use Rattle.ssh_handles.proofs.reader.ChannelRx.find.Given as goal

abbrev pub invariant-loop : goal.invariant-loop
invariant-loop g l =
    (g.R.HoldsReadHalf.channel l.self.half ≡ g.R.HoldsReadHalf.channel l.fn.self.half)
    × (l.self.ext ≡ l.fn.self.ext)
    × (l.self.is_over ≡ l.fn.self.is_over)
    × (l.self.unread ≡ l.fn.self.unread)
    × Acts (tries (ReceiveMsg (g.R.HoldsReadHalf.channel l.fn.self.half)) (found_said l.fn.self.ext))
    (g.R.HoldsReadHalf.view l.fn.self.half) trying trying (g.R.HoldsReadHalf.view l.self.half)
