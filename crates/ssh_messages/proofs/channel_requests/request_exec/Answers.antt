use Rattle.std.proofs.Common.{refl}
use Rattle.ssh_rules.specs.ChannelRequests.{exec}
use Rattle.ssh_rules.proofs.Read.ChannelRequests.{asked_whole, misasked_at}
use Rattle.ssh_messages.proofs.channel_requests.request_exec.Goals as goal

pub returns : goal.returns
returns c =
    asked_whole exec c.args.asking.channel c.args.asking.wanted (λ _. tt)
    (c.in_ok-command.command.now, tt) c.args.rest.now _ _ c.exec_told.result c.requests.result
    c.in_ok-command.ensures refl c.exec_told.ensures.ok c.exec_told.ensures.memory c.requests.ensures

pub returns-in_err-command : goal.returns-in_err-command
returns-in_err-command c =
    misasked_at exec c.args.asking.channel c.args.asking.wanted (λ _. tt) c.args.rest.now
    c.in_err-command.field-0.0 _ c.from_residual.ensures.1 c.in_err-command.ensures
