use Rattle.std.proofs.Common.{rules, ◌++◌, ◌∷◌, [], refl, sym, ◌∙◌, ap, append_assoc}
use Rattle.std.proofs.lemmas.List.{nil_from_length}
use Rattle.ssh_rules.specs.World.{Settings}
use Rattle.ssh_session.proofs.Runs.{repeating}
use Rattle.ssh_drive.proofs.Serving.{starts, still_suits, goes_on, all_served, ended, stopped}
use Rattle.ssh_drive.proofs.payloads.serve_each.Goals as goal

pub loop-payload-init : goal.loop-payload-init
loop-payload-init g c = record {
  items = search rules;
  going = λ settings r repeats. starts g.row.H-Error.Denot g.row.K-Error.Denot
      (g.V.Verifier.accepts c.args.verifier.now) settings _ c.args.session.now r c.requires.told;
  repeats = refl;
}

pub step-requires : goal.step-requires
step-requires g c = record {
  suits = λ live.
      let now = g.K.Kex.repeats c.args.kex.now in
      let settings : Settings = record c.requires.begins.0 { repeatable = now } in
      still_suits g.H.Handler.suits (g.V.Verifier.accepts c.args.verifier.now) settings
      c.loop-payload.yielded _ _ c.loop-payload.session
      (c.loop-payload.invariant.going settings
      (repeating c.args.session.now c.requires.begins.0 now c.requires.begins.1) refl)
      c.requires.begins.2;
}

pub loop-payload-preserved : goal.loop-payload-preserved
loop-payload-preserved g c = record {
  items = append_assoc c.loop-payload.yielded (c.in-Some.payload ∷ []) c.next.new.self.rest.items
      ∙ (ap (λ l. c.loop-payload.yielded ++ l) (sym c.in-Some.ensures.steps.0)
      ∙ c.loop-payload.invariant.items);
  going = λ settings r repeats. goes_on (g.V.Verifier.accepts c.args.verifier.now) settings c.args.moment
      c.loop-payload.yielded c.in-Some.payload _ _ _ c.loop-payload.session c.step.new.self
      (c.loop-payload.invariant.going settings r repeats)
      (λ w k set. rw c.in-Ok-Continue.field-0-is at (c.in-Ok-Continue.ensures.taken w k
      (ap (λ s. s.repeatable) set ∙ repeats ∙ sym c.loop-payload.invariant.repeats)))
      c.in-Ok-Continue.ensures.told;
  repeats = c.in-Ok-Continue.ensures.repeats ∙ c.loop-payload.invariant.repeats;
}

pub returns-in-Ok-Ended : goal.returns-in-Ok-Ended
returns-in-Ok-Ended g c = record {
  served = λ settings r repeats. ended (g.V.Verifier.accepts c.args.verifier.now) settings c.args.moment
      c.loop-payload.yielded c.next.new.self.rest.items c.args.payloads.items c.in-Some.payload _ _
      _ c.loop-payload.session c.step.new.self (c.loop-payload.invariant.going settings r repeats)
      (λ w k set. rw c.in-Ok-Ended.field-0-is at (c.in-Ok-Ended.ensures.taken w k
      (ap (λ s. s.repeatable) set ∙ repeats ∙ sym c.loop-payload.invariant.repeats)))
      (append_assoc c.loop-payload.yielded (c.in-Some.payload ∷ []) c.next.new.self.rest.items
      ∙ (ap (λ l. c.loop-payload.yielded ++ l) (sym c.in-Some.ensures.steps.0)
      ∙ c.loop-payload.invariant.items));
}

pub returns-in-Err : goal.returns-in-Err
returns-in-Err g c = record {
  served = λ settings r repeats. stopped (g.V.Verifier.accepts c.args.verifier.now) settings c.args.moment
      c.loop-payload.yielded c.next.new.self.rest.items c.args.payloads.items c.in-Some.payload _ _
      _ c.loop-payload.session c.step.new.self c.in-Err.e
      (c.loop-payload.invariant.going settings r repeats) (λ w k set. c.in-Err.ensures.taken w k
      (ap (λ s. s.repeatable) set ∙ repeats ∙ sym c.loop-payload.invariant.repeats))
      (append_assoc c.loop-payload.yielded (c.in-Some.payload ∷ []) c.next.new.self.rest.items
      ∙ (ap (λ l. c.loop-payload.yielded ++ l) (sym c.in-Some.ensures.steps.0)
      ∙ c.loop-payload.invariant.items));
}

pub returns : goal.returns
returns g c = record {
  served = λ settings r repeats. all_served (g.V.Verifier.accepts c.args.verifier.now) settings
      c.loop-payload.yielded c.loop-payload.payload-iterator.rest.items c.args.payloads.items _ _
      c.loop-payload.session (c.loop-payload.invariant.going settings r repeats)
      c.loop-payload.invariant.items
      (nil_from_length c.loop-payload.payload-iterator.rest.items (search rules));
}
