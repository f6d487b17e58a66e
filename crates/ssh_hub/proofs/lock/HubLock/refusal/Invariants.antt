use Rattle.ssh_hub.specs.Words.{entry}
use Rattle.ssh_hub.specs.declared.history.HubCall.TheVariants.{AskRefusal}
use Rattle.ssh_hub.specs.declared.history.HubReply.TheVariants.{RefusalIs}
use Rattle.ssh_hub.proofs.lock.HubLock.refusal.Given as goal

abbrev pub ghosts-finish : goal.ghosts-finish
ghosts-finish g a = record {
  entry = entry a.place.now.me.0.number AskRefusal
      (RefusalIs a._reply.now);
}
