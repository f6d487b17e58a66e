use Rattle.std.proofs.Common.{◌+◌, ◌∷◌, Ok, Err}
use Rattle.ssh_link.specs.declared.outcome.CommandOutcome.{CommandOutcome}
use Rattle.ssh_auth.specs.Plan.{Plan}
use Rattle.ssh_serving.specs.declared.commands.Done.{Done}
use Rattle.ssh_rules.specs.declared.error.RunError.TheVariants.{Handler}
use Rattle.ssh_rules.specs.Acts.{done_all, tell_done}
use Rattle.ssh_rules.specs.Effect.{effect_at}
use Rattle.ssh_rules.specs.Outcome.{Outcome}
use Rattle.ssh_rules.specs.World.{World}
use Rattle.ssh_serving.proofs.Commanding.{commanded, not_noticed, not_done}
use Rattle.ssh_serving.proofs.Commanding.{told_so, not_told_so}
use Rattle.ssh_serving.proofs.Serving.{settled_by, passed, serves_nothing}
use Rattle.ssh_serving.proofs.server.Server.finish_command.Goals as goal

pub returns-in_err-notice-clause-does : goal.returns-in_err-notice-clause-does
returns-in_err-notice-clause-does g c = λ w r later next.
    let finish : Unit {0} → World → Plan Outcome = λ _ world. done_all c.args.at (c.args.place + 1) later
    world next in
    let onward : CommandOutcome → World → Plan Outcome =
    λ outcome world. tell_done c.args.place outcome (done_all c.args.at (c.args.place + 1) later world next)
    in
    passed (done_all c.args.at c.args.place (c.args.command ∷ later) w next) finish finish _ _
    c.carry_out.new.self c.carry_out.new.self _ _
    c.from_residual.ensures.1
    (not_done (effect_at c.args.at w c.args.command) onward finish _ c.carry_out.new.self c.carry_out.new.self _
    (c.in_err-notice.ensures.does w r))

pub returns-in_err-give-clause-does : goal.returns-in_err-give-clause-does
returns-in_err-give-clause-does g c = λ w r later next.
    let finish : Unit {0} → World → Plan Outcome = λ _ world. done_all c.args.at (c.args.place + 1) later
    world next in
    let onward : CommandOutcome → World → Plan Outcome =
    λ outcome world. tell_done c.args.place outcome (done_all c.args.at (c.args.place + 1) later world next)
    in
    let made : Done = c.in_ok-notice.field-0 in
    passed (done_all c.args.at c.args.place (c.args.command ∷ later) w next) finish finish _ _
    c.carry_out.new.self c.carry_out.new.self _ _
    c.from_residual-in_err-give.ensures.1
    (not_noticed (effect_at c.args.at w c.args.command) onward finish made _ _ c.carry_out.new.self
    c.carry_out.new.self
    _
    (c.in_ok-notice.ensures.does w r) (λ v q l. c.in_err-give.ensures.does v q l))

pub returns-in-Accepted-clause-does : goal.returns-in-Accepted-clause-does
returns-in-Accepted-clause-does g c = λ w r later next.
    let more : World → Plan Outcome = λ world.
    done_all c.args.at (c.args.place + 1) later world next in
    let finish : Unit {0} → World → Plan Outcome = λ _ world. more world in
    let onward : CommandOutcome → World → Plan Outcome =
    λ outcome world. tell_done c.args.place outcome (more world) in
    let made : Done = c.in_ok-notice.field-0 in
    commanded (effect_at c.args.at w c.args.command) onward finish made _ _ _ c.carry_out.new.self
    c.carry_out.new.self (Ok tt) (c.in_ok-notice.ensures.does w r)
    (λ v q l. c.in_ok-give.ensures.does v q l)
    (λ v q. settled_by (onward made.outcome v) more _ _ v c.carry_out.new.self (Ok tt) q
    (rw c.in-Accepted.is
    (serves_nothing tt (λ (_ : Unit {0}) _. more v) _ v c.carry_out.new.self q)))

pub returns-in-Ok-clause-does : goal.returns-in-Ok-clause-does
returns-in-Ok-clause-does g c = λ w r later next.
    let more : World → Plan Outcome = λ world.
    done_all c.args.at (c.args.place + 1) later world next in
    let finish : Unit {0} → World → Plan Outcome = λ _ world. more world in
    let onward : CommandOutcome → World → Plan Outcome =
    λ outcome world. tell_done c.args.place outcome (more world) in
    let made : Done = c.in_ok-notice.field-0 in
    commanded (effect_at c.args.at w c.args.command) onward finish made _ _ _ c.carry_out.new.self
    c.carry_out.new.self (Ok tt) (c.in_ok-notice.ensures.does w r)
    (λ v q l. c.in_ok-give.ensures.does v q l)
    (λ v q. settled_by (onward made.outcome v) more _ _ v c.carry_out.new.self (Ok tt) q
    (told_so c.args.place made.outcome (more v) _ _ v c.carry_out.new.self
    c.in_default.not-Accepted q c.in-Ok.ensures))

pub returns-in-Err-clause-does : goal.returns-in-Err-clause-does
returns-in-Err-clause-does g c = λ w r later next.
    let more : World → Plan Outcome = λ world.
    done_all c.args.at (c.args.place + 1) later world next in
    let finish : Unit {0} → World → Plan Outcome = λ _ world. more world in
    let onward : CommandOutcome → World → Plan Outcome =
    λ outcome world. tell_done c.args.place outcome (more world) in
    let made : Done = c.in_ok-notice.field-0 in
    commanded (effect_at c.args.at w c.args.command) onward finish made _ _ _ c.carry_out.new.self
    c.carry_out.new.self (Err (Handler c.in-Err.e)) (c.in_ok-notice.ensures.does w r)
    (λ v q l. c.in_ok-give.ensures.does v q l)
    (λ v q. settled_by (onward made.outcome v) more _ _ v c.carry_out.new.self
    (Err (Handler c.in-Err.e)) q
    (not_told_so c.args.place made.outcome (more v) _ _ c.carry_out.new.self c.in-Err.e
    c.in_default.not-Accepted c.in-Err.ensures))
