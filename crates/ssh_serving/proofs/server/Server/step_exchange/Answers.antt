use Rattle.std.proofs.Common.{Ok, ap, refl, subst}
use Rattle.ssh_link.specs.declared.kex.KexCall.TheVariants.{Stepped}
use Rattle.ssh_link.specs.declared.kex.KexStep.{KexStep}
use Rattle.ssh_auth.specs.Plan.{Plan, Ask}
use Rattle.ssh_auth.specs.declared.question.Question.TheVariants.{Steps}
use Rattle.ssh_rules.specs.Acts.{Stepping, acts, exchanged, frames_given, gives, moved}
use Rattle.ssh_rules.specs.Failure.{error_of_table}
use Rattle.ssh_rules.specs.Outcome.{Outcome}
use Rattle.ssh_serving.specs.Handing.{IsCutBefore, lets_out}
use Rattle.ssh_serving.specs.Serve.{Refines, Serves}
use Rattle.ssh_serving.proofs.Handing.{asked_no_frame, exchange_failed_to, passed_to, starved_to}
use Rattle.ssh_serving.proofs.Handing.{then_before}
use Rattle.ssh_serving.proofs.Refining.{moved_so}
use Rattle.ssh_serving.proofs.Serving.{exchange_asked, served_both, serves_nothing}
use Rattle.ssh_serving.proofs.server.Server.step_exchange.Goals as goal

pub returns-in_err-step-clause-does : goal.returns-in_err-step-clause-does
returns-in_err-step-clause-does g c = λ w r later.
    let payload = c.args.payload.now in
    let next : KexStep → Plan Outcome = λ step. exchanged (Stepping payload) step w (acts later) in
    passed_to {U = Unit {0}} IsCutBefore (Ask (Steps payload) next) (λ (_ : Unit {0}). acts later)
    (λ (_ : Unit {0}). acts later) _ _ c.args.self.now c.args.self.now _ _ c.from_residual.ensures.1
    (exchange_failed_to (Steps payload) next (λ (_ : Unit {0}). acts later) (Stepped payload) _ _
    c.args.self.now _ c.in_err-step.ensures.stepped (λ e. refl))

pub returns-in_err-let_out-clause-does : goal.returns-in_err-let_out-clause-does
returns-in_err-let_out-clause-does g c = λ w r later.
    let payload = c.args.payload.now in
    let step = c.in_ok-step.step in
    let next : KexStep → Plan Outcome = λ step. exchanged (Stepping payload) step w (acts later) in
    let first : Serves (Ask (Steps payload) next) (λ given _. next given)
    (g.O.Transport.heard c.args.outside.now) (g.O.Transport.heard c.step_exchange.new.self)
    c.args.self.now (Ok step) = exchange_asked (Steps payload) step next (Stepped payload (Ok step))
    _ _ w c.args.self.now r c.in_ok-step.ensures.stepped.0 c.in_ok-step.ensures.stepped.1 refl in
    then_before step (Ask (Steps payload) next) (λ given _. next given)
    (λ (_ : Unit {0}). acts later) _ _ _ c.args.self.now c.let_out.new.self _ first
    (asked_no_frame (Steps payload) step next (Stepped payload (Ok step)) _ _ w c.args.self.now r
    c.in_ok-step.ensures.stepped.0 c.in_ok-step.ensures.stepped.1 refl)
    (λ _ _. starved_to (next step) (λ (_ : Unit {0}). acts later) _ c.let_out.new.self _ _
    c.from_residual-in_err-let_out.ensures.1 (ap error_of_table c.in_err-let_out.ensures.memory))

pub returns-in_err-give_payloads-clause-does : goal.returns-in_err-give_payloads-clause-does
returns-in_err-give_payloads-clause-does g c = λ w r later.
    let payload = c.args.payload.now in
    let step = c.in_ok-step.step in
    let next : KexStep → Plan Outcome = λ step. exchanged (Stepping payload) step w (acts later) in
    let rest = acts later (moved (Stepping payload) step w) in
    let first : Serves (Ask (Steps payload) next) (λ given _. next given)
    (g.O.Transport.heard c.args.outside.now) (g.O.Transport.heard c.step_exchange.new.self)
    c.args.self.now (Ok step) = exchange_asked (Steps payload) step next (Stepped payload (Ok step))
    _ _ w c.args.self.now r c.in_ok-step.ensures.stepped.0 c.in_ok-step.ensures.stepped.1 refl in
    let q = c.in_ok-let_out.ensures.world w r in
    then_before step (Ask (Steps payload) next) (λ given _. next given)
    (λ (_ : Unit {0}). acts later) _ _ _ c.args.self.now c.give_payloads.new.self _ first
    (asked_no_frame (Steps payload) step next (Stepped payload (Ok step)) _ _ w c.args.self.now r
    c.in_ok-step.ensures.stepped.0 c.in_ok-step.ensures.stepped.1 refl)
    (λ _ _. passed_to {U = Unit {0}} IsCutBefore (next step) (λ _ _. rest)
    (λ (_ : Unit {0}). acts later) _ _ c.give_payloads.new.self c.give_payloads.new.self _ _
    c.from_residual-in_err-give_payloads.ensures.1
    (c.in_err-give_payloads.ensures.does (lets_out step.done w) q rest))

pub returns-clause-does : goal.returns-clause-does
returns-clause-does g c = λ w r later.
    let payload = c.args.payload.now in
    let step = c.in_ok-step.step in
    let next : KexStep → Plan Outcome = λ step. exchanged (Stepping payload) step w (acts later) in
    let to = moved (Stepping payload) step w in
    let rest = acts later to in
    let v = lets_out step.done w in
    let q = c.in_ok-let_out.ensures.world w r in
    let on : Refines c.move_on.new.self to = subst (λ world. Refines c.move_on.new.self world)
    (moved_so payload (frames_given step.frames) step.done w)
    (c.move_on.ensures.world (gives (frames_given step.frames) v)
    (c.in_ok-give_payloads.ensures.world v q)) in (
      served_both step (Ask (Steps payload) next) (λ given _. next given)
          (λ (_ : Unit {0}). acts later) _ _ _ c.args.self.now c.move_on.new.self (Ok tt)
          (exchange_asked (Steps payload) step next (Stepped payload (Ok step)) _ _ w
          c.args.self.now r c.in_ok-step.ensures.stepped.0 c.in_ok-step.ensures.stepped.1 refl)
          (λ _ _. served_both tt (next step) (λ (_ : Unit {0}) _. rest)
          (λ (_ : Unit {0}). acts later) _ _ _ c.give_payloads.new.self c.move_on.new.self (Ok tt)
          (c.in_ok-give_payloads.ensures.does v q rest).0
          (λ _ _. serves_nothing tt (λ (_ : Unit {0}). acts later) _ to c.move_on.new.self on)),
      tt,
    )
