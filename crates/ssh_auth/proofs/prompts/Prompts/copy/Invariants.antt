use Rattle.std.proofs.Common.{◌≡◌, take}
use Rattle.ssh_auth.proofs.prompts.Prompts.copy.Given as goal

-- the prompts so far are copied
abbrev pub invariant-loop-text : goal.invariant-loop-text
invariant-loop-text l = l.copied ≡ take l.text-index l.text-items
