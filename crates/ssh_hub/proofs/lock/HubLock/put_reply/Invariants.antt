use Rattle.ssh_hub.specs.Words.{entry}
use Rattle.ssh_hub.specs.declared.history.HubCall.TheVariants.{PutAnswer}
use Rattle.ssh_hub.specs.declared.history.HubReply.TheVariants.{ReplyWasPut}
use Rattle.ssh_hub.proofs.lock.HubLock.put_reply.Given as goal

abbrev pub ghosts-finish : goal.ghosts-finish
ghosts-finish g a = record {
  entry = entry a.place.now.me.0.number (PutAnswer a._call.now.value)
      (ReplyWasPut a._reply.now);
}
