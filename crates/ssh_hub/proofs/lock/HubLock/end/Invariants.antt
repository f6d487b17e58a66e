use Rattle.ssh_hub.specs.Words.{entry}
use Rattle.ssh_hub.specs.declared.history.HubCall.TheVariants.{EndHub}
use Rattle.ssh_hub.specs.declared.history.HubReply.TheVariants.{Done}
use Rattle.ssh_hub.proofs.lock.HubLock.end.Given as goal

abbrev pub ghosts-finish : goal.ghosts-finish
ghosts-finish g a = record { entry = entry a.place.now.me.0.number EndHub Done }
