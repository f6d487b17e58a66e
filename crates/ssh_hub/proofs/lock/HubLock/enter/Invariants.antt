use Rattle.std.proofs.Common.{◌≡◌, ℕ, ◌%◌}
use Rattle.ssh_hub.specs.declared.history.Stage.TheVariants.{Waiting}
use Rattle.ssh_hub.proofs.lock.HubLock.enter.Given as goal

abbrev pub invariant-loop : goal.invariant-loop
invariant-loop g l = (t : ℕ) × (l.ticket ≡ t % 18446744073709551616)
    × (l.place.me ≡ (record l.fn.place.me.0 { stage = Waiting t }, l.fn.place.me.1))
    × (l.place.table_id ≡ l.fn.place.table_id) × (l.place.id ≡ l.fn.place.id)
