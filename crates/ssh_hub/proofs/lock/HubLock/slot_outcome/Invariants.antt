use Rattle.ssh_hub.specs.Words.{entry}
use Rattle.ssh_hub.specs.declared.history.HubCall.TheVariants.{TakeSlotAnswer}
use Rattle.ssh_hub.specs.declared.history.HubReply.TheVariants.{SlotAnswerIs}
use Rattle.ssh_hub.proofs.lock.HubLock.slot_outcome.Given as goal

abbrev pub ghosts-finish : goal.ghosts-finish
ghosts-finish g a = record {
  entry = entry a.place.now.me.0.number (TakeSlotAnswer a._call.now)
      (SlotAnswerIs a._reply.now);
}
