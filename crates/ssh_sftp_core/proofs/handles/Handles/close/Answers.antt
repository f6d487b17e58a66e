use Rattle.std.proofs.Common.{ap}
use Rattle.ssh_sftp_core.proofs.Shown.{filter_shown}
use Rattle.ssh_sftp_core.proofs.handles.Handles.close.Goals as goal

pub returns : goal.returns
returns c = rw (c.remove_number.ensures, ← c.self.view_is)
    (ap (λ opened. record { opened = opened; count = c.self.inside.count })
    (filter_shown c.args.number c.self.inside.opened.items))
