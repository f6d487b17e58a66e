use Rattle.std.proofs.Common.{refl}
use Rattle.ssh_rules.specs.ChannelRequests.{environment}
use Rattle.ssh_rules.proofs.Read.ChannelRequests.{asked_whole, misasked}
use Rattle.ssh_messages.proofs.channel_requests.request_environment.Goals as goal

pub returns-in-Ok : goal.returns-in-Ok
returns-in-Ok c =
    asked_whole environment c.args.asking.channel c.args.asking.wanted (λ _. tt)
    (c.in-Ok.name.now, (c.in-Ok.value.now, tt)) c.args.rest.now _ _ c.environment_told.result
    c.requests.result
    c.in-Ok.ensures refl c.environment_told.ensures.ok c.environment_told.ensures.memory
    c.requests.ensures

pub returns-in-Err : goal.returns-in-Err
returns-in-Err c =
    misasked environment c.args.asking.channel c.args.asking.wanted (λ _. tt) c.args.rest.now
    c.in-Err.e c.in-Err.ensures
