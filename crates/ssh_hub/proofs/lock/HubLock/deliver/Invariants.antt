use Rattle.ssh_hub.specs.Words.{entry}
use Rattle.ssh_hub.specs.declared.history.HubCall.TheVariants.{DeliverMsg}
use Rattle.ssh_hub.specs.declared.history.HubReply.TheVariants.{Delivered}
use Rattle.ssh_hub.proofs.lock.HubLock.deliver.Given as goal

abbrev pub ghosts-finish : goal.ghosts-finish
ghosts-finish g a = record {
  entry = entry a.place.now.me.0.number
      (DeliverMsg a._call.now.0 a._call.now.1.value) (Delivered a._reply.now);
}
