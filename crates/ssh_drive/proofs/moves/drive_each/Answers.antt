use Rattle.std.proofs.Common.{rules, ◌++◌, ◌∷◌, [], refl, sym, ◌∙◌, ap, append_assoc}
use Rattle.std.proofs.lemmas.List.{nil_from_length}
use Rattle.ssh_rules.specs.World.{Settings}
use Rattle.ssh_session.proofs.Runs.{repeating}
use Rattle.ssh_drive.proofs.Driving.{starts, still_suits, is_live, goes_on, all_made}
use Rattle.ssh_drive.proofs.Driving.{ended, stopped}
use Rattle.ssh_drive.proofs.moves.drive_each.Goals as goal

pub loop-next-init : goal.loop-next-init
loop-next-init g c = record {
  items = search rules;
  going = λ settings r repeats. starts g.row.H-Error.Denot g.row.K-Error.Denot
      (g.V.Verifier.accepts c.args.verifier.now) settings c.args.moment _ c.args.session.now r
      c.requires.told;
  repeats = refl;
}

pub make-requires : goal.make-requires
make-requires g c =
    let now = g.K.Kex.repeats c.args.kex.now in
    let settings : Settings = record c.requires.begins.0 { repeatable = now } in
    let going = c.loop-next.invariant.going settings
    (repeating c.args.session.now c.requires.begins.0 now c.requires.begins.1) refl in
    record {
      live = is_live (g.V.Verifier.accepts c.args.verifier.now) settings c.args.moment
          c.loop-next.yielded _ _ c.loop-next.session going;
      suits = still_suits g.H.Handler.suits (g.V.Verifier.accepts c.args.verifier.now) settings
          c.args.moment c.loop-next.yielded _ _ c.loop-next.session going c.requires.begins.2;
    }

pub loop-next-preserved : goal.loop-next-preserved
loop-next-preserved g c = record {
  items = append_assoc c.loop-next.yielded (c.in-Some.next ∷ []) c.next.new.self.rest.items
      ∙ (ap (λ l. c.loop-next.yielded ++ l) (sym c.in-Some.ensures.steps.0)
      ∙ c.loop-next.invariant.items);
  going = λ settings r repeats.
      goes_on (g.V.Verifier.accepts c.args.verifier.now) settings c.args.moment
      c.loop-next.yielded c.in-Some.next _ _ _ c.loop-next.session c.make.new.session
      (c.loop-next.invariant.going settings r repeats)
      (λ w k set. rw c.in-Ok-Continue.field-0-is at (c.in-Ok-Continue.ensures.made w k
      (ap (λ s. s.repeatable) set ∙ repeats ∙ sym c.loop-next.invariant.repeats)));
  repeats = c.in-Ok-Continue.ensures.repeats ∙ c.loop-next.invariant.repeats;
}

pub returns-in-Ok-Ended : goal.returns-in-Ok-Ended
returns-in-Ok-Ended g c = record {
  driven = λ settings r repeats.
      ended (g.V.Verifier.accepts c.args.verifier.now) settings c.args.moment
      c.loop-next.yielded c.next.new.self.rest.items c.args.moves.items c.in-Some.next _ _ _
      c.loop-next.session c.make.new.session (c.loop-next.invariant.going settings r repeats)
      (λ w k set. rw c.in-Ok-Ended.field-0-is at (c.in-Ok-Ended.ensures.made w k
      (ap (λ s. s.repeatable) set ∙ repeats ∙ sym c.loop-next.invariant.repeats)))
      (append_assoc c.loop-next.yielded (c.in-Some.next ∷ []) c.next.new.self.rest.items
      ∙ (ap (λ l. c.loop-next.yielded ++ l) (sym c.in-Some.ensures.steps.0)
      ∙ c.loop-next.invariant.items));
}

pub returns-in-Err : goal.returns-in-Err
returns-in-Err g c = record {
  driven = λ settings r repeats.
      stopped (g.V.Verifier.accepts c.args.verifier.now) settings c.args.moment
      c.loop-next.yielded c.next.new.self.rest.items c.args.moves.items c.in-Some.next _ _ _
      c.loop-next.session c.make.new.session c.in-Err.e
      (c.loop-next.invariant.going settings r repeats) (λ w k set. c.in-Err.ensures.made w k
      (ap (λ s. s.repeatable) set ∙ repeats ∙ sym c.loop-next.invariant.repeats))
      (append_assoc c.loop-next.yielded (c.in-Some.next ∷ []) c.next.new.self.rest.items
      ∙ (ap (λ l. c.loop-next.yielded ++ l) (sym c.in-Some.ensures.steps.0)
      ∙ c.loop-next.invariant.items));
}

pub returns : goal.returns
returns g c = record {
  driven = λ settings r repeats. all_made (g.V.Verifier.accepts c.args.verifier.now) settings
      c.args.moment c.loop-next.yielded c.loop-next.next-iterator.rest.items c.args.moves.items _ _
      c.loop-next.session (c.loop-next.invariant.going settings r repeats)
      c.loop-next.invariant.items
      (nil_from_length c.loop-next.next-iterator.rest.items (search rules));
}
