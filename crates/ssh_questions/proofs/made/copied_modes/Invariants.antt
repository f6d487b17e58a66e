use Rattle.std.proofs.Common.{◌≡◌, take}
use Rattle.ssh_questions.proofs.made.copied_modes.Given as goal

-- the modes so far are copied
abbrev pub invariant-loop-mode : goal.invariant-loop-mode
invariant-loop-mode l = l.copies ≡ take l.mode-index l.modes
