use Rattle.std.proofs.Common.{◌≡◌, ◌-◌}
use Rattle.ssh_sftp_core.specs.Layouts.{past_pairs}
use Rattle.ssh_sftp_core.proofs.attributes.skip_pairs.Given as goal

-- what follows all pairs follows those that are left
abbrev pub invariant-loop-pair : goal.invariant-loop-pair
invariant-loop-pair l =
    past_pairs l.fn.count l.fn.reader.left ≡ past_pairs (l.fn.count - l._pair) l.reader.left
