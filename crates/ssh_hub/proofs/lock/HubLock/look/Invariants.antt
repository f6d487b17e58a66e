use Rattle.ssh_hub.specs.Words.{entry}
use Rattle.ssh_hub.specs.declared.history.HubCall.TheVariants.{LookAt}
use Rattle.ssh_hub.specs.declared.history.HubReply.TheVariants.{Saw}
use Rattle.ssh_hub.proofs.lock.HubLock.look.Given as goal

abbrev pub ghosts-finish : goal.ghosts-finish
ghosts-finish g a = record {
  entry = entry a.place.now.me.0.number (LookAt a._call.now)
      (Saw a._reply.now);
}
