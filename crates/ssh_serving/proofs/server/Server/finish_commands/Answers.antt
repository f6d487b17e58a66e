use Rattle.std.proofs.Common.{◌≡◌, ◌+◌, [], Ok, Err, length, arith, ap, subst, sym, refl, ◌∙◌}
use Rattle.ssh_auth.specs.Plan.{Plan, Reaches}
use Rattle.ssh_rules.specs.World.{World}
use Rattle.ssh_serving.specs.Serve.{Serves}
use Rattle.ssh_rules.specs.Acts.{done_all}
use Rattle.ssh_rules.specs.Outcome.{Outcome}
use Rattle.ssh_serving.proofs.Serving.{serves_nothing, served_both, served_then_error, same_as}
use Rattle.ssh_serving.proofs.Serving.{same_both}
use Rattle.ssh_serving.proofs.Finishing.{none_left}
use Rattle.ssh_serving.proofs.server.Server.finish_commands.Goals as goal

pub loop-place-init : goal.loop-place-init
loop-place-init g c = record {
  left = omega arith;
  does = λ w r next. serves_nothing tt (λ (_ : Unit {0}) world. done_all c.args.at 0 c.args.commands world
      next) _ w c.args.self.now r;
  session = (refl, refl);
  same = same_as (g.O.Transport.heard c.args.outside.now);
}

pub loop-place-preserved : goal.loop-place-preserved
loop-place-preserved g c = record {
  left = let l = c.loop-place.invariant.left in let e = ap length c.in-Some.ensures in
      omega (arith, l, e);
  does = λ w r next.
      let place = c.loop-place.place in
      let done_so : Unit {0} → World → Plan Outcome = λ _ v. done_all c.args.at place c.loop-place.commands v
      next in
      let more : Unit {0} → World → Plan Outcome = λ _ v. done_all c.args.at (place + 1) c.take_first.new.self
      v next in
      served_both tt (done_all c.args.at 0 c.args.commands w next) done_so more _ _ _ c.loop-place.self
      c.finish_command.new.self (Ok tt)
      (c.loop-place.invariant.does w r next)
      (λ v q. rw c.in-Some.ensures (c.in_default-finish_command.ensures.does v q
      c.take_first.new.self next));
  session = let a = c.loop-place.invariant.session in let b = c.finish_command.ensures.stays.0 in
      (b.0 ∙ a.0, b.1 ∙ a.1);
  same = same_both (g.O.Transport.heard c.args.outside.now)
      (g.O.Transport.heard c.loop-place.outside) (g.O.Transport.heard c.finish_command.new.outside)
      c.loop-place.invariant.same c.finish_command.ensures.stays.1;
}

pub returns-in-Err-clause-does : goal.returns-in-Err-clause-does
returns-in-Err-clause-does g c = λ w r next.
    let place = c.loop-place.place in
    let done_so : Unit {0} → World → Plan Outcome = λ _ v. done_all c.args.at place c.loop-place.commands v
    next in
    served_then_error tt (done_all c.args.at 0 c.args.commands w next) done_so (λ (_ : Unit {0}). next) _ _ _
    c.loop-place.self
    c.finish_command.new.self c.in-Err.e (c.loop-place.invariant.does w r next)
    (λ v. λ (_ : Unit {0}) u. done_all c.args.at (place + 1) c.take_first.new.self u next)
    (λ v q. subst (λ l. Serves (done_all c.args.at place l v next) (λ (_ : Unit {0}) u. done_all c.args.at (place + 1)
    c.take_first.new.self u next)
    (g.O.Transport.heard c.loop-place.outside) (g.O.Transport.heard c.finish_command.new.outside)
    c.finish_command.new.self (Err c.in-Err.e))
    (sym c.in-Some.ensures) (c.in-Err.ensures.does v q c.take_first.new.self next))

pub returns-clause-does : goal.returns-clause-does
returns-clause-does g c = λ w r next.
    let left = c.loop-place.invariant.left in let end = c.len-place-end.ensures in
    let over = c.loop-place-test.false in
    let none : c.loop-place.commands ≡ [] = none_left c.loop-place.commands
    (omega (arith, left, end, over)) in
    let s = c.loop-place.invariant.does w r next in (
      s.0,
      s.1,
      (
        s.2.0,
        subst (λ l. Reaches (done_all c.args.at 0 c.args.commands w next) s.0
            (done_all c.args.at c.loop-place.place l s.2.0 next)) none s.2.1,
        s.2.2,
      ),
    )
