use Rattle.std.proofs.Common.{◌≡◌, take}
use Rattle.ssh_players.proofs.script_link.copied.Given as goal

-- the inputs so far are copied
abbrev pub invariant-loop-input : goal.invariant-loop-input
invariant-loop-input l = l.copies ≡ take l.input-index l.inputs
