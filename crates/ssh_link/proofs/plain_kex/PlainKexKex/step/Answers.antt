use Rattle.ssh_link.proofs.Exchanges.{plain_frames}
use Rattle.ssh_link.proofs.plain_kex.PlainKexKex.step.Goals as goal

pub returns-in-Ok-stepped-clause-frames : goal.returns-in-Ok-stepped-clause-frames
returns-in-Ok-stepped-clause-frames c =
    plain_frames c.in-Some.done c.in-Ok-stepped.step c.in-Ok-stepped.ensures.ok.0
