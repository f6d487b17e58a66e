use Rattle.ssh_hub.specs.Words.{entry}
use Rattle.ssh_hub.specs.declared.history.HubCall.TheVariants.{TakeNext}
use Rattle.ssh_hub.specs.declared.history.HubReply.TheVariants.{Took}
use Rattle.ssh_hub.proofs.lock.HubLock.take.Given as goal

abbrev pub ghosts-finish : goal.ghosts-finish
ghosts-finish g a = record {
  entry = entry a.place.now.me.0.number
      (TakeNext a._call.now.0 a._call.now.1) (Took a._reply.now);
}
