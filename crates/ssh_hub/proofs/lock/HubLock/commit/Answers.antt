use Rattle.std.proofs.Common.{arith}
use mathlib.Core.Option.{none}
use Rattle.atomic_table.specs.Table.{step}
use Rattle.ssh_hub.proofs.Handing.{commits}
use Rattle.ssh_hub.proofs.Made.{fresh_after}
use Rattle.ssh_hub.proofs.lock.HubLock.commit.Goals as goal

pub fetch_add-at-requires : goal.fetch_add-at-requires
fetch_add-at-requires g c = let words = c.args.self.now.sized.0 in let p = c.requires.place.1 in (
  c.requires.place.0,
  omega arith,
  commits _ _ _ p.1.0 _ g.E.Event.entry p.0 p.1.1 p.2
      c.requires.entry.0 c.requires.entry.1,
)

pub returns-clause-fresh : goal.returns-clause-fresh
returns-clause-fresh g c = fresh_after (step 0 0 0 0 none) c.fetch_add-at.result c.args.place.now.me
    c.fetch_add-at.new.seat.me g.E.Event.entry c.requires.place.1.2 c.fetch_add-at.ensures.2
