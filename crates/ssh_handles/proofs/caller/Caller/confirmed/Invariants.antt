use Rattle.std.proofs.Common.{◌≡◌}
use Rattle.ssh_hub.specs.declared.history.HubCall.TheVariants.{ReceiveMsg}
use Rattle.ssh_hub.specs.Follow.{Acts}
use Rattle.ssh_handles.specs.Said.{confirmed_said}
use Rattle.ssh_handles.specs.Tries.{tries, trying}
use Rattle.ssh_handles.specs.Callers.{hub_of, seen_by}
use Rattle.ssh_handles.proofs.caller.Caller.confirmed.Given as goal

abbrev pub invariant-loop : goal.invariant-loop
invariant-loop g l =
    (hub_of l.self ≡ hub_of l.fn.self)
    × Acts (tries (ReceiveMsg l.channel) confirmed_said) (seen_by l.fn.self) trying trying (seen_by l.self)
