use Rattle.std.proofs.Common.{◌≡◌}
use Rattle.std.specs.List.{list_any}
use Rattle.ssh_channels.specs.Line.{data_waits}
use Rattle.ssh_channels.specs.Table.{has, some_wait}
use Rattle.ssh_channels.proofs.table.Encrypted.has_any_pending_data.Given as goal

abbrev pub invariant-loop-number : goal.invariant-loop-number
invariant-loop-number l =
    list_any (λ n. has data_waits n l.self) l.number-iterator ≡ some_wait l.self
