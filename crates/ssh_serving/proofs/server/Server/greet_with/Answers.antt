use Rattle.std.proofs.Common.{◌∷◌, ◌++◌, [], Some, Err, ap, subst, sym, ◌∙◌}
use Rattle.std.proofs.lemmas.Result.{err_from_is_err_and}
use Rattle.ssh_rules.specs.Acts.{acts}
use Rattle.ssh_rules.specs.Failure.{error_of_table, run_error_of}
use Rattle.ssh_rules.specs.Layout.{at_once, banner, service_accept}
use Rattle.ssh_rules.specs.Rows.{greets, greeting, served}
use Rattle.ssh_serving.specs.Serve.{ComesTo}
use Rattle.ssh_rules.specs.World.{writes}
use Rattle.ssh_serving.proofs.Greeting.{both_written, greeted, not_greeted}
use Rattle.ssh_serving.proofs.Refining.{staged}
use Rattle.ssh_serving.proofs.Serving.{starved_quietly}
use Rattle.ssh_serving.proofs.server.Server.greet_with.Goals as goal

pub returns-in_err-accept-clause-does : goal.returns-in_err-accept-clause-does
returns-in_err-accept-clause-does g c = λ w r later.
    starved_quietly (acts (greets (Some c.args.message.now) ++ later) w) (λ (_ : Unit {0}).
    acts later) _ _ _
    c.from_residual.ensures.1 (ap run_error_of c.in_err-accept.ensures.memory)

pub returns-in_err-banner-clause-does : goal.returns-in_err-banner-clause-does
returns-in_err-banner-clause-does g c = λ w r later.
    let p = err_from_is_err_and c.from_residual-in_err-banner.result
    c.from_residual-in_err-banner.ensures.1 in
    subst (λ x. ComesTo {T = Unit {0}} (acts (greets (Some c.args.message.now) ++ later) w)
    (λ (_ : Unit {0}). acts later) ⊥ []
    c.args.self.now x) (sym (p.1 ∙ ap Err p.2))
    (not_greeted g.row.E.Denot g.row.F.Denot c.args.message.now w later c.in_err-banner.field-0.0
    c.args.self.now
    c.in_err-banner.ensures.refused)

pub returns-in_err-stage-clause-does : goal.returns-in_err-stage-clause-does
returns-in_err-stage-clause-does g c = λ w r later.
    starved_quietly (acts (greets (Some c.args.message.now) ++ later) w) (λ (_ : Unit {0}).
    acts later) _ _ _
    c.from_residual-in_err-stage.ensures.1 (ap error_of_table c.in_err-stage.ensures.memory)

pub returns-in_err-stage-2-clause-does : goal.returns-in_err-stage-2-clause-does
returns-in_err-stage-2-clause-does g c = λ w r later.
    starved_quietly (acts (greets (Some c.args.message.now) ++ later) w) (λ (_ : Unit {0}).
    acts later) _ _ _
    c.from_residual-in_err-stage-2.ensures.1 (ap error_of_table c.in_err-stage-2.ensures.memory)

pub returns-clause-does : goal.returns-clause-does
returns-clause-does g c = λ w r later.
    let one = at_once service_accept in
    let other = at_once (banner c.args.message.now) in
    let first = staged c.in_ok-accept.accept one c.wait_for_requests.new.self c.stage.new.self
    c.wait_for_requests.new.self.session_id_fits
    (served w) c.in_ok-accept.ensures.ok c.in_ok-stage.ensures.table
    (c.wait_for_requests.ensures.world w r) in (
      writes (greeting (Some c.args.message.now)) (served w),
      greeted c.args.message.now w later c.in_ok-banner.ensures.ok.1,
      both_written _ (served w) one other (staged c.in_ok-banner.banner other _
          c.stage-2.new.self _ (writes (one ∷ []) (served w)) c.in_ok-banner.ensures.ok.0
          c.in_ok-stage-2.ensures.table first),
    )
