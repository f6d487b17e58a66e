use Rattle.std.proofs.Common.{◌≡◌, ◌++◌, take}
use Rattle.std.specs.List.{flat_map}
use Rattle.ssh_auth.specs.Layout.{prompt_fields}
use Rattle.ssh_auth.proofs.reply.put_prompts.Given as goal

-- the prompts so far are written
abbrev pub invariant-loop-text : goal.invariant-loop-text
invariant-loop-text l = l.out.items ≡ l.initial.out.items ++ flat_map prompt_fields
    (take l.text-index l.prompts)
