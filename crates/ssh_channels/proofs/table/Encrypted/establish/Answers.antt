use Rattle.std.proofs.Common.{◌≡◌, Some, rules, ap, ◌∙◌}
use Rattle.ssh_channels.specs.Line.{something_waits}
use Rattle.ssh_channels.specs.Table.{Table, line_at}
use Rattle.ssh_channels.specs.Numbers.{next_number}
use Rattle.ssh_channels.proofs.Noting.{came_waiting}
use Rattle.ssh_channels.proofs.Frees.{next_not_live}
use Rattle.ssh_channels.proofs.table.Encrypted.establish.Goals as goal

pub invariant_of-self-2 : goal.invariant_of-self-2
invariant_of-self-2 c =
    let n = c.in-Some.number in
    let h : next_number c.args.self.now ≡ Some n = search rules in
    came_waiting n c.self.inside.lines.entries _ _ c.self.inside.waiting.keys
    (ap (λ (t : Table). line_at n t) c.self.view_is ∙ next_not_live c.args.self.now n h)
    c.in_ok-insert.ensures.updates.0 c.self.invariant
    (ap something_waits c.new-params.ensures)
