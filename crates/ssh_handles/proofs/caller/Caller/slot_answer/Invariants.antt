use Rattle.std.proofs.Common.{◌≡◌}
use Rattle.ssh_hub.specs.declared.history.HubCall.TheVariants.{TakeSlotAnswer}
use Rattle.ssh_hub.specs.Follow.{Acts}
use Rattle.ssh_handles.specs.Said.{slot_said}
use Rattle.ssh_handles.specs.Awaits.{awaits, asking}
use Rattle.ssh_handles.specs.Callers.{hub_of, seen_by}
use Rattle.ssh_handles.proofs.caller.Caller.slot_answer.Given as goal

abbrev pub invariant-loop : goal.invariant-loop
invariant-loop g l =
    (hub_of l.self ≡ hub_of l.fn.self)
    × Acts (awaits (TakeSlotAnswer l.slot) slot_said) (seen_by l.fn.self) asking asking (seen_by l.self)
