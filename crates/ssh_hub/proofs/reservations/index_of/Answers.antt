use Rattle.std.proofs.Common.{rules, eq-eqb, ne_eqb}
use Rattle.ssh_hub.proofs.Indexes.{index_more, index_here}
use Rattle.ssh_hub.proofs.reservations.index_of.Goals as goal

pub returns-then-list-at : goal.returns-then-list-at
returns-then-list-at c = index_here c.args.channel c.args.list.now c.loop-at.at _ (search rules)
    c.loop-at.invariant (eq-eqb _ _ c.if-list-at.true)

pub loop-at-preserved : goal.loop-at-preserved
loop-at-preserved c = index_more c.args.channel c.args.list.now c.loop-at.at _ (search rules)
    c.loop-at.invariant (ne_eqb _ _ c.if-list-at.false)
