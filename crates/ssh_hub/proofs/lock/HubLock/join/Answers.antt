use Rattle.std.proofs.Common.{arith, ◌∙◌, sym}
use mathlib.Core.Option.{none}
use Rattle.atomic_table.specs.Table.{step}
use Rattle.ssh_hub.proofs.Steps.{compares_as}
use Rattle.ssh_hub.proofs.Seating.{joins}
use Rattle.ssh_hub.proofs.Made.{met_now, met_rests, newest_met, held_met}
use Rattle.ssh_hub.proofs.lock.HubLock.join.Goals as goal

pub join_seat-requires : goal.join_seat-requires
join_seat-requires c = let words = c.args.self.now.sized.0 in let mine = c.args.seat.now.rests in
    let other = c.args.other.rests in
    (c.requires.0.0, c.requires.1.0, other.4, omega arith, joins _ _ _ _ _ mine.1 other.1 other.2)

pub load-requires : goal.load-requires
load-requires c = let words = c.args.self.now.sized.0 in let mine = c.args.seat.now.rests in
    let m = c.args.seat.now.inner.me in (
      c.join_seat.ensures.0 ∙ c.requires.0.0,
      omega arith,
      compares_as _ _ _ _ m.0 c.args.other.inner.me.0 m.1 c.join_seat.ensures.2 mine.0 mine.1,
    )

pub invariant_of-seat : goal.invariant_of-seat
invariant_of-seat c = let mine = c.args.seat.now.rests in let m = c.args.seat.now.inner.me in
    let x = c.args.other.inner.me.0 in
    let met = met_now (step 0 0 0 0 none) 0 m.0 x m.1 _ c.load.new.seat.me c.join_seat.ensures.2
    c.load.ensures.2 mine (c.requires.1.1 ∙ sym c.requires.0.1) c.args.seat.now.legal
    c.args.other.legal in
    record {
      rests = met_rests (step 0 0 0 0 none) 0 m.0 x m.1 _ c.load.new.seat.me c.join_seat.ensures.2
          c.load.ensures.2 mine;
      numbered = c.args.seat.now.numbered ∙ sym met.same.0;
      placed = c.args.seat.now.placed ∙ sym (newest_met m.0 x c.load.new.seat.me.0 met);
      held = c.args.seat.now.held ∙ sym (held_met m.0 x c.load.new.seat.me.0 met);
      legal = met.legal;
    }

pub returns-clause-meets : goal.returns-clause-meets
returns-clause-meets c = let m = c.args.seat.now.inner.me in
    met_now (step 0 0 0 0 none) 0 m.0 c.args.other.inner.me.0 m.1 _ c.load.new.seat.me
    c.join_seat.ensures.2 c.load.ensures.2 c.args.seat.now.rests
    (c.requires.1.1 ∙ sym c.requires.0.1) c.args.seat.now.legal c.args.other.legal
