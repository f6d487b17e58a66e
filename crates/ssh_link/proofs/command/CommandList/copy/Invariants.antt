use Rattle.std.proofs.Common.{◌≡◌, take}
use Rattle.ssh_link.proofs.command.CommandList.copy.Given as goal

-- the commands so far are copied
abbrev pub invariant-loop-command : goal.invariant-loop-command
invariant-loop-command l = l.copies ≡ take l.command-index l.command-items
