use Rattle.ssh_script.proofs.TranscriptsOnce.{transcript_once, two_exactly}
use Rattle.ssh_script.proofs.run.one_transcript.Goals as goal

pub returns-clause-once : goal.returns-clause-once
returns-clause-once c = transcript_once

pub returns-clause-two : goal.returns-clause-two
returns-clause-two c = two_exactly
