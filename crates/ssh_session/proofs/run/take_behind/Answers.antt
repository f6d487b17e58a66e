use Rattle.std.proofs.Common.{map, Err, refl, sym, ◌∙◌, inl, inr}
use Rattle.ssh_link.specs.declared.link.TraceEntry.TheVariants.{Noticed}
use Rattle.ssh_auth.specs.Plan.{Finish}
use Rattle.ssh_rules.specs.Acts.{tell_all}
use Rattle.ssh_rules.specs.Cut.{IsCut}
use Rattle.ssh_rules.specs.Outcome.{Goes}
use Rattle.ssh_rules.specs.Cause.{comes}
use Rattle.ssh_serving.proofs.Finishing.{behind_notices, serves_notices}
use Rattle.ssh_serving.proofs.Handing.{passed_to}
use Rattle.ssh_session.proofs.run.take_behind.Goals as goal

pub returns-in-Err-clause-does : goal.returns-in-Err-clause-does
returns-in-Err-clause-does g c = λ w r repeats.
    let old = c.args.server.now in
    let notices = c.args.notices.now.items in
    inr (
      c.in-Err.e,
      refl,
      passed_to {U = Unit {0}} IsCut (tell_all (map Noticed notices) (Finish (Goes w)))
          (λ _ _. Finish (Goes w)) (λ flow world. Finish (comes flow world)) _ _ old old c.in-Err.e
          (Err c.in-Err.e) refl
          (serves_notices notices (Finish (Goes w)) _ _ w old c.in-Err.e r c.in-Err.ensures.does),
    )

pub returns-in-Ok-clause-does : goal.returns-in-Ok-clause-does
returns-in-Ok-clause-does g c = λ w r repeats.
    let notices = c.args.notices.now.items in
    let t = c.take_unless_ended.ensures.does w r
    (repeats ∙ sym c.in-Ok.ensures.same.3) in
    inl (
      tell_all (map Noticed notices) t.0,
      (t.0, t.1, refl),
      behind_notices notices t.0 (λ flow world. Finish (comes flow world)) _ _ _ w c.args.server.now
          c.take_unless_ended.new.server c.take_unless_ended.result r c.in-Ok.ensures.does t.2,
    )
