use Rattle.ssh_hub.specs.Words.{entry}
use Rattle.ssh_hub.specs.declared.history.HubCall.TheVariants.{DrawSlot}
use Rattle.ssh_hub.specs.declared.history.HubReply.TheVariants.{SlotIs}
use Rattle.ssh_hub.proofs.lock.HubLock.slot.Given as goal

abbrev pub ghosts-finish : goal.ghosts-finish
ghosts-finish g a = record { entry = entry a.place.now.me.0.number DrawSlot (SlotIs a._reply.now) }
