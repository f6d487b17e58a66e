use Rattle.std.proofs.Common.{refl}
use Rattle.ssh_rules.specs.ChannelRequests.{x11}
use Rattle.ssh_rules.proofs.Read.ChannelRequests.{asked_whole, misasked}
use Rattle.ssh_messages.proofs.channel_requests.request_x11.Goals as goal

pub returns-in-Ok : goal.returns-in-Ok
returns-in-Ok c =
    asked_whole x11 c.args.asking.channel c.args.asking.wanted (λ _. tt)
    (c.in-Ok.single, (c.in-Ok.protocol.now, (c.in-Ok.cookie.now, (c.in-Ok.screen, tt))))
    c.args.rest.now _ _ c.x11_told.result c.requests.result
    c.in-Ok.ensures refl c.x11_told.ensures.ok c.x11_told.ensures.memory c.requests.ensures

pub returns-in-Err : goal.returns-in-Err
returns-in-Err c = misasked x11 c.args.asking.channel c.args.asking.wanted (λ _. tt) c.args.rest.now
    c.in-Err.e c.in-Err.ensures
