use Rattle.ssh_sftp.proofs.Channels.{Serving}
use Rattle.ssh_sftp.proofs.serve.serve_to_end.Given as goal

-- the channel was served so far
abbrev pub invariant-loop : goal.invariant-loop
invariant-loop g l = Serving l.fn.server l.fn.channel l.server l.channel
