use Rattle.ssh_hub.specs.Words.{entry}
use Rattle.ssh_hub.specs.declared.history.HubCall.TheVariants.{AskEnded}
use Rattle.ssh_hub.specs.declared.history.HubReply.TheVariants.{EndedAt}
use Rattle.ssh_hub.proofs.lock.HubLock.ended.Given as goal

abbrev pub ghosts-finish : goal.ghosts-finish
ghosts-finish g a = record { entry = entry a.place.now.me.0.number AskEnded (EndedAt a._reply.now) }
