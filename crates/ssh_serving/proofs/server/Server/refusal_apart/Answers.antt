use Rattle.std.proofs.Common.{◌∙◌, sym}
use Rattle.ssh_serving.proofs.Effects.{needs_open}
use Rattle.ssh_serving.proofs.server.Server.refusal_apart.Goals as goal

pub returns-in-TcpipForward : goal.returns-in-TcpipForward
returns-in-TcpipForward c = λ w r. rw c.in-TcpipForward.is (c.no_user.ensures w r)

pub returns-in-CancelTcpipForward : goal.returns-in-CancelTcpipForward
returns-in-CancelTcpipForward c =
    λ w r. rw c.in-CancelTcpipForward.is (c.no_user-in-CancelTcpipForward.ensures w r)

pub returns-in_default : goal.returns-in_default
returns-in_default c = λ w r.
    c.no_opening.ensures w r ∙ sym (needs_open w c.args.command.now c.in_default.not-TcpipForward
    c.in_default.not-CancelTcpipForward c.in_default.not-ClientOnly)
