use Rattle.std.proofs.Common.{◌≡◌, take}
use Rattle.std.specs.Prelude.{◌^◌, ◌-◌, min}
use Rattle.ssh_rules.specs.Exchange.{bytes_of}
use Rattle.ssh_rules.proofs.exchange.Keys.give.Given as goal

-- the bytes of the frames so far
abbrev pub invariant-loop-frame : goal.invariant-loop-frame
invariant-loop-frame l =
    l.bytes ≡ min (bytes_of (take l.frame-index l.frames)) (2 ^ 64 - 1)
