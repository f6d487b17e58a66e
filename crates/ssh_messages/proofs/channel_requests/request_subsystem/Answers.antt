use Rattle.std.proofs.Common.{refl}
use Rattle.ssh_rules.specs.ChannelRequests.{subsystem}
use Rattle.ssh_rules.proofs.Read.ChannelRequests.{asked_whole, misasked_at}
use Rattle.ssh_messages.proofs.channel_requests.request_subsystem.Goals as goal

pub returns : goal.returns
returns c =
    asked_whole subsystem c.args.asking.channel c.args.asking.wanted (λ _. tt)
    (c.in_ok-name.name.now, tt) c.args.rest.now _ _ c.subsystem_told.result c.requests.result
    c.in_ok-name.ensures refl c.subsystem_told.ensures.ok c.subsystem_told.ensures.memory c.requests.ensures

pub returns-in_err-name : goal.returns-in_err-name
returns-in_err-name c =
    misasked_at subsystem c.args.asking.channel c.args.asking.wanted (λ _. tt) c.args.rest.now
    c.in_err-name.field-0.0 _ c.from_residual.ensures.1 c.in_err-name.ensures
