use Rattle.ssh_hub.specs.Words.{entry}
use Rattle.ssh_hub.specs.declared.history.HubCall.TheVariants.{MakeReady}
use Rattle.ssh_hub.specs.declared.history.HubReply.TheVariants.{Done}
use Rattle.ssh_hub.proofs.lock.HubLock.ready.Given as goal

abbrev pub ghosts-finish : goal.ghosts-finish
ghosts-finish g a = record {
  entry = entry a.place.now.me.0.number
      (MakeReady a._call.now.0 a._call.now.1 a._call.now.2) Done;
}
