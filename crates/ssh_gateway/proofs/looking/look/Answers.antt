use Rattle.std.proofs.Common.{arith, take, drop, suc, subst, sym, ap, ◌∙◌}
use Rattle.std.specs.List.{slice_index_or}
use Rattle.std.proofs.Math.Numerals.{suc-eq-add-one}
use Rattle.std.proofs.Math.Seq.{split_at, take-suc}
use Rattle.std.proofs.lemmas.List.{length-take-le}
use Rattle.ssh_link.specs.Told.{Adds}
use Rattle.ssh_link.proofs.Tellings.{adds_nil}
use Rattle.ssh_gateway.specs.declared.switchboard.Connection.{Connection}
use Rattle.ssh_gateway.specs.Choosing.{AreIdle, connected, silences}
use Rattle.ssh_gateway.specs.Doing.{IsTried}
use Rattle.ssh_gateway.proofs.Choices.{looked_more, looked_here, fails_here}
use Rattle.ssh_gateway.proofs.looking.look.Goals as goal

pub loop-place-init : goal.loop-place-init
loop-place-init g c = record {
  idle = λ w r. (tt, adds_nil (g.T.Targets.told c.args.targets.now));
  later = omega arith;
}

-- what stands at no place
abbrev none : Connection
none = connected 0 (record { 0 = 0 })

pub returns-in-Ok-Some-clause-looked : goal.returns-in-Ok-Some-clause-looked
returns-in-Ok-Some-clause-looked g c = λ w r.
    let all = c.args.connections.now in
    let place = c.loop-place.place in
    let before = c.loop-place.invariant.idle w r in
    looked_here w all (take place all) (drop (suc place) all) (slice_index_or all place none) place
    c.in-Ok-Some.found _ _ _ (split_at all place none (omega arith))
    (length-take-le place all (omega arith)) before.0 before.1
    (subst (λ found. IsTried w (slice_index_or all place none)
    (g.T.Targets.told c.loop-place.targets) (g.T.Targets.told c.try_one.new.targets) found)
    c.in-Ok-Some.field-0-is (c.in-Ok-Some.ensures.tried w r))

pub returns-in-Err-clause-failed : goal.returns-in-Err-clause-failed
returns-in-Err-clause-failed g c = λ w r.
    let all = c.args.connections.now in
    let place = c.loop-place.place in
    let before = c.loop-place.invariant.idle w r in
    let fails = c.in-Err.ensures.failed w r in
    fails_here c.in-Err.fault w all (take place all) (drop (suc place) all)
    (slice_index_or all place none) _ _ _ (split_at all place none (omega arith)) before.0 before.1
    fails.0 fails.1

pub loop-place-preserved : goal.loop-place-preserved
loop-place-preserved g c = record {
  idle = λ w r.
      let all = c.args.connections.now in
      let place = c.loop-place.place in
      let before = c.loop-place.invariant.idle w r in
      subst (λ l. AreIdle w l × Adds (g.T.Targets.told c.args.targets.now)
      (g.T.Targets.told c.try_one.new.targets) (silences w l))
      (sym (take-suc all place none (omega arith)) ∙ ap (λ n. take n all) (suc-eq-add-one place))
      (looked_more w (take place all) (slice_index_or all place none) _ _ _ before.0 before.1
      (subst (λ found. IsTried w (slice_index_or all place none)
      (g.T.Targets.told c.loop-place.targets) (g.T.Targets.told c.try_one.new.targets) found)
      c.in-Ok-None.field-0-is (c.in-Ok-None.ensures.tried w r)));
  later = omega (arith, c.loop-place.invariant.later, c.try_one.ensures.later);
}
