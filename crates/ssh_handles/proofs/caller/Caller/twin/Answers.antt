use Rattle.ssh_hub.specs.declared.history.Entry.{Entry}
use Rattle.std.proofs.Common.{List, [], ap}
use Rattle.ssh_hub.specs.Views.{own_reservations}
use Rattle.ssh_hub.specs.declared.history.HubCall.TheVariants.{SplitSeat}
use Rattle.ssh_hub.proofs.OwnAfter.{reserved_by_call}
use Rattle.ssh_hub.specs.Reserved.{reserved_by}
use Rattle.ssh_handles.proofs.caller.Caller.twin.Goals as goal

pub returns-in-Ok-clause-made : goal.returns-in-Ok-clause-made
returns-in-Ok-clause-made g c = (c.in-Ok.ensures.call, c.in-Ok.ensures.new)

pub returns-in-Ok-clause-fresh : goal.returns-in-Ok-clause-fresh
returns-in-Ok-clause-fresh g c = record {
  hub = c.in_ok-lock.ensures;
  none = ap (λ (l : List Entry). reserved_by l [])
      c.in-Ok.ensures.new.none_made;
  room = c.in-Ok.ensures.made.1;
}

pub returns-in-Ok-clause-reserved : goal.returns-in-Ok-clause-reserved
returns-in-Ok-clause-reserved g c = reserved_by_call _ SplitSeat _ _ c.in-Ok.ensures.call

pub returns-in-Err-clause-reserved : goal.returns-in-Err-clause-reserved
returns-in-Err-clause-reserved g c = ap own_reservations c.in-Err.ensures.no_step
