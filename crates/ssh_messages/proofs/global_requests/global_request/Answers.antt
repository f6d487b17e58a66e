use Rattle.std.proofs.Common.{◌≡◌, None, refl}
use Rattle.std.specs.Prelude.{codes}
use Rattle.ssh_rules.specs.Globals.{global_named}
use Rattle.ssh_rules.proofs.Read.GlobalRequests.{unknown_by}
use Rattle.ssh_rules.proofs.Read.ChannelRequests.{unlike}
use Rattle.ssh_messages.proofs.global_requests.global_request.Goals as goal

pub returns-in_default : goal.returns-in_default
returns-in_default c =
    let name = c.args.name.now in
    let none : global_named name ≡ None = rw (
      unlike (codes "tcpip-forward") name c.in_default.not-text,
      unlike (codes "cancel-tcpip-forward") name c.in_default.not-text-2,
      unlike (codes "streamlocal-forward@openssh.com") name c.in_default.not-text-3,
      unlike (codes "cancel-streamlocal-forward@openssh.com") name c.in_default.not-text-4,
      unlike (codes "no-more-sessions@openssh.com") name c.in_default.not-text-5,
    ) refl in
    unknown_by name c.args.asking.wanted c.args.rest.now none
