use Rattle.ssh_hub.specs.Words.{IsSeatOf}
use Rattle.ssh_sftp_vectors.proofs.threads.talks.Given as goal

abbrev pub invariant-loop-request : goal.invariant-loop-request
invariant-loop-request g l = IsSeatOf l.lock l.seat
