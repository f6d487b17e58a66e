use Rattle.std.proofs.Common.{◌≡◌, ◌∙◌, Ok, Err, ap, inr, refl, sym, subst}
use Rattle.ssh_auth.specs.Plan.{Finish, after}
use Rattle.ssh_rules.specs.declared.error.Flow.TheVariants.{Ended}
use Rattle.ssh_rules.specs.Run.{finish_input, goes_unless_ended, hand_on, handed_on, is_over}
use Rattle.ssh_rules.specs.Cause.{comes, ends_by_flow}
use Rattle.ssh_rules.specs.Cut.{IsCut}
use Rattle.ssh_serving.specs.Handing.{CompletesTo, IsCutBehind, IsCutByLink}
use Rattle.ssh_serving.proofs.Handing.{passed_to, then_behind, to_other}
use Rattle.ssh_serving.proofs.Serving.{settled}
use Rattle.ssh_rules.proofs.Plans.Settled.{kind_stays_set}
use Rattle.ssh_serving.proofs.Finishing.{unfinished_to, finished_to}
use Rattle.ssh_session.proofs.run.take.Goals as goal

pub returns-in_err-flow-clause-does : goal.returns-in_err-flow-clause-does
returns-in_err-flow-clause-does g c = λ w r repeats.
    let s = c.in_err-flow.ensures.does w r in
    let ticked = c.asks_for_keys-ticked.result in
    let plan = after s.0 (finish_input ticked) in (
      plan,
      (s.0, s.1, subst (λ t. plan ≡ after s.0 (finish_input t)) c.asks_for_keys-ticked.ensures refl),
      passed_to IsCut plan (λ flow world. Finish (comes flow world))
          (λ flow world. Finish (comes flow world)) _ _
          c.serve.new.server c.serve.new.server _ _ c.from_residual.ensures.1
          (unfinished_to ticked s.0 _ _ c.serve.new.server c.serve.new.server _ s.2),
    )

pub returns-in_err-hand_on-clause-does : goal.returns-in_err-hand_on-clause-does
returns-in_err-hand_on-clause-does g c = λ w r repeats.
    let s = c.in_ok-flow.ensures.does w r in
    let ticked = c.asks_for_keys-ticked.result in
    let next = ends_by_flow ticked c.in_ok-flow.flow in
    let plan = after s.0 (finish_input ticked) in (
      plan,
      (s.0, s.1, subst (λ t. plan ≡ after s.0 (finish_input t)) c.asks_for_keys-ticked.ensures refl),
      finished_to ticked c.in_ok-flow.flow s.0 _ _ _ c.serve.new.server c.hand_on.new.server
          c.from_residual-in_err-hand_on.result s.2.0
          (λ v q reached. passed_to {U = Unit {0}} IsCutBehind (hand_on v next)
          (λ _ _. next (handed_on v)) (λ flow world. Finish (comes flow world)) _ _
          c.hand_on.new.server c.hand_on.new.server _ _ c.from_residual-in_err-hand_on.ensures.1
          (to_other IsCutByLink IsCutBehind (hand_on v next)
          (λ (_ : Unit {0}) _. next (handed_on v)) _ _ c.hand_on.new.server (Err _)
          (c.in_err-hand_on.ensures.does v q next) (λ _ _ link. inr link))),
    )

pub returns-in-Continue-clause-does : goal.returns-in-Continue-clause-does
returns-in-Continue-clause-does g c = λ w r repeats.
    let s = c.in_ok-flow.ensures.does w r in
    let ticked = c.asks_for_keys-ticked.result in
    let next = goes_unless_ended ticked in
    let plan = after s.0 (finish_input ticked) in (
      plan,
      (s.0, s.1, subst (λ t. plan ≡ after s.0 (finish_input t)) c.asks_for_keys-ticked.ensures refl),
      finished_to ticked c.in_ok-flow.flow s.0 _ _ _ c.serve.new.server c.go_on.new.server
          c.go_on.result s.2.0
          (λ v q reached. subst (λ flow. CompletesTo IsCutBehind
          (hand_on v (ends_by_flow ticked flow)) (g.O.Transport.heard c.serve.new.outside)
          (g.O.Transport.heard c.go_on.new.outside) c.go_on.new.server c.go_on.result)
          (sym c.in-Continue.is)
          (then_behind tt (hand_on v next) (λ (_ : Unit {0}) _. next (handed_on v))
          (λ flow world. Finish (comes flow world)) _ _ _ c.hand_on.new.server c.go_on.new.server
          c.go_on.result (c.in_ok-hand_on.ensures.does v q next).0
          (λ _ _. c.go_on.ensures.does (handed_on v) (c.in_ok-hand_on.ensures.world v q)
          (ap (λ settings. settings.repeatable)
          (kind_stays_set (g.V.Verifier.accepts c.args.verifier.now) w c.args.input.moment
          c.args.input.kind s.0 s.2.0.0 c.in_ok-flow.flow v s.1 reached)
          ∙ (repeats ∙ (sym c.in_ok-flow.ensures.stays.1.3
          ∙ sym c.in_ok-hand_on.ensures.stays.1.3)))))),
    )

pub returns-in-Ended-clause-does : goal.returns-in-Ended-clause-does
returns-in-Ended-clause-does g c = λ w r repeats.
    let s = c.in_ok-flow.ensures.does w r in
    let ticked = c.asks_for_keys-ticked.result in
    let plan = after s.0 (finish_input ticked) in (
      plan,
      (s.0, s.1, subst (λ t. plan ≡ after s.0 (finish_input t)) c.asks_for_keys-ticked.ensures refl),
      finished_to ticked c.in_ok-flow.flow s.0 _ _ _ c.serve.new.server c.hand_on.new.server (Ok Ended)
          s.2.0
          (λ v q reached. subst (λ flow. CompletesTo IsCutBehind
          (hand_on v (ends_by_flow ticked flow)) (g.O.Transport.heard c.serve.new.outside)
          (g.O.Transport.heard c.hand_on.new.outside) c.hand_on.new.server (Ok Ended))
          (sym c.in-Ended.is) (
            settled Ended (hand_on v is_over) (λ flow world. Finish (comes flow world)) _ _
                (handed_on v) c.hand_on.new.server (c.in_ok-hand_on.ensures.world v q)
                (c.in_ok-hand_on.ensures.does v q is_over).0,
            tt,
          )),
    )
