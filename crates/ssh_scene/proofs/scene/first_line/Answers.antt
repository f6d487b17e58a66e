use Rattle.std.proofs.Common.{rules, arith, take, drop, length, ◌-◌, ◌+◌}
use Rattle.std.proofs.lemmas.Grind.{common_steps}
use Rattle.ssh_scene.proofs.Cutting.{line_cut, line_whole, line_more}
use Rattle.ssh_scene.proofs.scene.first_line.Goals as goal

pub returns-then-text-i-eq10-clause-cut : goal.returns-then-text-i-eq10-clause-cut
returns-then-text-i-eq10-clause-cut c = line_cut c.args.text.now
    (take (length c.args.text.now - (c.loop-i.i + 1)) (drop (c.loop-i.i + 1) c.args.text.now))
    c.loop-i.i (search rules) (search rules) c.loop-i.invariant (grind (arith, common_steps))

pub loop-i-preserved : goal.loop-i-preserved
loop-i-preserved c = line_more c.args.text.now c.loop-i.i (search rules) (search rules)
    c.loop-i.invariant

pub returns-clause-cut : goal.returns-clause-cut
returns-clause-cut c = line_whole c.args.text.now
    (take (length c.args.text.now - length c.args.text.now)
    (drop (length c.args.text.now) c.args.text.now)) c.loop-i.i (search rules) (search rules)
    c.loop-i.invariant (grind (arith, common_steps))
