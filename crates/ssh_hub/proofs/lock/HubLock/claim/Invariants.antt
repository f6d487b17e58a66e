use Rattle.ssh_hub.specs.Words.{entry}
use Rattle.ssh_hub.specs.declared.history.HubCall.TheVariants.{ClaimChannel}
use Rattle.ssh_hub.specs.declared.history.HubReply.TheVariants.{Claimed}
use Rattle.ssh_hub.proofs.lock.HubLock.claim.Given as goal

abbrev pub ghosts-finish : goal.ghosts-finish
ghosts-finish g a = record {
  entry = entry a.place.now.me.0.number (ClaimChannel a._call.now)
      (Claimed a._reply.now);
}
