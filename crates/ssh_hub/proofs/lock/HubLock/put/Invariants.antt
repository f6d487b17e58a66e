use Rattle.ssh_hub.specs.Words.{entry}
use Rattle.ssh_hub.specs.declared.history.HubCall.TheVariants.{PutCommand}
use Rattle.ssh_hub.specs.declared.history.HubReply.TheVariants.{WasPut}
use Rattle.ssh_hub.proofs.lock.HubLock.put.Given as goal

abbrev pub ghosts-finish : goal.ghosts-finish
ghosts-finish g a = record {
  entry = entry a.place.now.me.0.number
      (PutCommand a._call.now.0.value a._call.now.1 a._call.now.2) (WasPut a._reply.now);
}
