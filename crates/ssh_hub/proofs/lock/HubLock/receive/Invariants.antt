use Rattle.ssh_hub.specs.Words.{entry}
use Rattle.ssh_hub.specs.declared.history.HubCall.TheVariants.{ReceiveMsg}
use Rattle.ssh_hub.specs.declared.history.HubReply.TheVariants.{HasReceived}
use Rattle.ssh_hub.proofs.lock.HubLock.receive.Given as goal

abbrev pub ghosts-finish : goal.ghosts-finish
ghosts-finish g a = record {
  entry = entry a.place.now.me.0.number (ReceiveMsg a._call.now)
      (HasReceived a._reply.now);
}
