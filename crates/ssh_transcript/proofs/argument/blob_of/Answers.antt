use Rattle.ssh_keys.proofs.Blobs.{only_blob}
use Rattle.ssh_transcript.proofs.argument.blob_of.Goals as goal

pub returns : goal.returns
returns c = only_blob c.args.key.now c.in-Ok.blob c.in-Ok.ensures.ok
