use Rattle.std.proofs.Common.{◌≡◌, None, refl}
use Rattle.std.specs.Prelude.{codes}
use Rattle.ssh_rules.specs.ChannelRequests.{request_named}
use Rattle.ssh_rules.proofs.Read.ChannelRequests.{unknown_by, unlike}
use Rattle.ssh_messages.proofs.channel_requests.channel_request.Goals as goal

pub returns-in_default : goal.returns-in_default
returns-in_default c =
    let name = c.args.name.now in
    let none : request_named name ≡ None = rw (
      unlike (codes "pty-req") name c.in_default.not-text,
      unlike (codes "x11-req") name c.in_default.not-text-2,
      unlike (codes "env") name c.in_default.not-env,
      unlike (codes "shell") name c.in_default.not-shell,
      unlike (codes "exec") name c.in_default.not-exec,
      unlike (codes "subsystem") name c.in_default.not-subsystem,
      unlike (codes "window-change") name c.in_default.not-text-3,
      unlike (codes "signal") name c.in_default.not-signal,
      unlike (codes "auth-agent-req@openssh.com") name c.in_default.not-text-4,
    ) refl in
    unknown_by name c.args.asking.channel c.args.asking.wanted c.args.rest.now none
