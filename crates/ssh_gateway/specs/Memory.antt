-- Targets in memory.
use Rattle.std.specs.Prelude.{List, Option}
use Rattle.ssh_gateway.specs.declared.memory_targets.MemoryTargets.{MemoryTargets}
use Rattle.ssh_gateway.specs.declared.targets.TargetCall.{TargetCall}

-- the calls so far, as long as there was memory for each
abbrev pub told_by : MemoryTargets → Option (List TargetCall)
told_by targets = targets.log
