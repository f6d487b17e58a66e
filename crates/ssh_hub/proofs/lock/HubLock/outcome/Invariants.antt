use Rattle.ssh_hub.specs.Words.{entry}
use Rattle.ssh_hub.specs.declared.history.HubCall.TheVariants.{TakeOutcome}
use Rattle.ssh_hub.specs.declared.history.HubReply.TheVariants.{OutcomeIs}
use Rattle.ssh_hub.proofs.lock.HubLock.outcome.Given as goal

abbrev pub ghosts-finish : goal.ghosts-finish
ghosts-finish g a = record {
  entry = entry a.place.now.me.0.number (TakeOutcome a._call.now)
      (OutcomeIs a._reply.now);
}
