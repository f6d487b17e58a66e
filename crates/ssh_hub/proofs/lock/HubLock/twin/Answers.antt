use Rattle.std.proofs.Common.{arith, ◌∙◌, refl, ap, sym}
use Rattle.ssh_hub.proofs.Seating.{splits}
use Rattle.ssh_hub.specs.Rule.{Seated}
use Rattle.ssh_hub.specs.Words.{view_of}
use Rattle.ssh_hub.proofs.Made.{new_rests, held_new, split_made, makes_later}
use Rattle.ssh_hub.proofs.lock.HubLock.twin.Goals as goal

pub split_seat-inner-requires : goal.split_seat-inner-requires
split_seat-inner-requires g c = let words = c.args.self.now.sized.0 in let f = c.finish-seat.ensures
    in (
      f.place.0 ∙ (c.enter-hub.ensures.place.0 ∙ c.requires.seat.0),
      omega arith,
      splits _ _ c.split-number.result _ f.rests.0 f.place.2,
    )

pub invariant_of-result : goal.invariant_of-result
invariant_of-result g c = let f = c.finish-seat.ensures in
    let n = new_rests c.finish-seat.new.place.me.0 c.split-number.result
    c.split_seat-inner.result.me f.place.2 (f.fresh c.split-number.result refl)
    c.split_seat-inner.ensures.4 f.makes.legal in
    record {
      rests = n.0.0;
      numbered = n.0.1;
      placed = n.0.2;
      held = c.requires.reserved ∙ sym (held_new c.finish-seat.new.place.me.0
          c.split_seat-inner.result.me.0 n.1);
      legal = n.1.legal;
    }

pub returns-clause-call : goal.returns-clause-call
returns-clause-call g c = let f = c.finish-seat.ensures in
    let n = new_rests c.finish-seat.new.place.me.0 c.split-number.result
    c.split_seat-inner.result.me f.place.2 (f.fresh c.split-number.result refl)
    c.split_seat-inner.ensures.4 f.makes.legal in
    split_made (view_of c.args.seat.now) c.finish-seat.new.place.me.0
    c.split_seat-inner.new.seat.me.0 c.split-number.result _
    (makes_later _ _ _ _ _ c.enter-hub.ensures.learns f.makes)
    (ap (λ (m : Seated). m.0) c.split_seat-inner.ensures.2) n.0.1
