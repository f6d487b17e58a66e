use Rattle.ssh_handles.proofs.Stages.{pty_as}
use Rattle.ssh_handles.proofs.channel.write_half.ChannelWriteHalf.request_pty.Goals as goal

pub returns-clause-entries : goal.returns-clause-entries
returns-clause-entries g c =
    pty_as _ _ _ _ _ _ _ _ _ _ _ _ c.in-Ok.ensures.ok c.ask.ensures.entries
