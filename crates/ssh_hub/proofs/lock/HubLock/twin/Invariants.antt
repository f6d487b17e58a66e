use Rattle.ssh_hub.specs.Words.{entry}
use Rattle.ssh_hub.specs.declared.history.HubCall.TheVariants.{SplitSeat}
use Rattle.ssh_hub.specs.declared.history.HubReply.TheVariants.{SeatIs}
use Rattle.ssh_hub.proofs.lock.HubLock.twin.Given as goal

abbrev pub ghosts-finish : goal.ghosts-finish
ghosts-finish g a = record { entry = entry a.place.now.me.0.number SplitSeat (SeatIs a._reply.now) }
