use Rattle.std.proofs.Common.{Ok, Err}
use Rattle.ssh_link.specs.declared.link.TraceEntry.TheVariants.{Answered}
use Rattle.ssh_link.specs.declared.outcome.CommandOutcome.{CommandOutcome}
use Rattle.ssh_auth.specs.Plan.{Plan, Finish, Tell}
use Rattle.ssh_serving.specs.declared.commands.Done.{Done}
use Rattle.ssh_rules.specs.declared.error.Flow.{Flow}
use Rattle.ssh_rules.specs.declared.error.Flow.TheVariants.{Continue}
use Rattle.ssh_rules.specs.Effect.{effect}
use Rattle.ssh_rules.specs.Outcome.{Outcome, Goes}
use Rattle.ssh_rules.specs.Run.{command_row}
use Rattle.ssh_rules.specs.Cause.{comes}
use Rattle.ssh_rules.specs.World.{World}
use Rattle.ssh_serving.proofs.Commanding.{commanded, not_noticed, not_done}
use Rattle.ssh_serving.proofs.Serving.{settled, passed, given, not_given}
use Rattle.ssh_serving.proofs.server.Server.serve_command.Goals as goal

pub returns-in_err-notice-clause-does : goal.returns-in_err-notice-clause-does
returns-in_err-notice-clause-does g c = λ w r.
    let finish : Flow → World → Plan Outcome = λ flow world. Finish (comes flow world) in
    let onward : CommandOutcome → World → Plan Outcome =
    λ outcome world. Tell (Answered c.args.ticket outcome) (Finish (Goes world)) in
    passed (command_row w c.args.ticket c.args.command) finish finish _ _ c.carry_out.new.self
    c.carry_out.new.self _ _
    c.from_residual.ensures.1
    (not_done (effect w c.args.command) onward finish _ c.carry_out.new.self c.carry_out.new.self _
    (c.in_err-notice.ensures.does w r))

pub returns-in_err-give-clause-does : goal.returns-in_err-give-clause-does
returns-in_err-give-clause-does g c = λ w r.
    let finish : Flow → World → Plan Outcome = λ flow world. Finish (comes flow world) in
    let onward : CommandOutcome → World → Plan Outcome =
    λ outcome world. Tell (Answered c.args.ticket outcome) (Finish (Goes world)) in
    let made : Done = c.in_ok-notice.field-0 in
    passed (command_row w c.args.ticket c.args.command) finish finish _ _ c.carry_out.new.self
    c.carry_out.new.self _ _
    c.from_residual-in_err-give.ensures.1
    (not_noticed (effect w c.args.command) onward finish made _ _ c.carry_out.new.self
    c.carry_out.new.self
    _
    (c.in_ok-notice.ensures.does w r) (λ v q l. c.in_err-give.ensures.does v q l))

pub returns-in_err-answer-clause-does : goal.returns-in_err-answer-clause-does
returns-in_err-answer-clause-does g c = λ w r.
    let finish : Flow → World → Plan Outcome = λ flow world. Finish (comes flow world) in
    let onward : CommandOutcome → World → Plan Outcome =
    λ outcome world. Tell (Answered c.args.ticket outcome) (Finish (Goes world)) in
    let made : Done = c.in_ok-notice.field-0 in
    passed (command_row w c.args.ticket c.args.command) finish finish _ _ c.carry_out.new.self
    c.carry_out.new.self _ _
    c.from_residual-in_err-answer.ensures.1
    (commanded (effect w c.args.command) onward finish made _ _ _ c.carry_out.new.self
    c.carry_out.new.self
    (Err _)
    (c.in_ok-notice.ensures.does w r) (λ v q l. c.in_ok-give.ensures.does v q l)
    (λ v q. not_given (Answered c.args.ticket made.outcome) (onward made.outcome v) finish _ _
    c.carry_out.new.self _
    c.in_err-answer.ensures))

pub returns-clause-does : goal.returns-clause-does
returns-clause-does g c = λ w r.
    let finish : Flow → World → Plan Outcome = λ flow world. Finish (comes flow world) in
    let onward : CommandOutcome → World → Plan Outcome =
    λ outcome world. Tell (Answered c.args.ticket outcome) (Finish (Goes world)) in
    let made : Done = c.in_ok-notice.field-0 in
    commanded (effect w c.args.command) onward finish made _ _ _ c.carry_out.new.self
    c.carry_out.new.self
    (Ok Continue)
    (c.in_ok-notice.ensures.does w r) (λ v q l. c.in_ok-give.ensures.does v q l)
    (λ v q. settled Continue (onward made.outcome v) finish _ _ v c.carry_out.new.self q
    (given (Answered c.args.ticket made.outcome) (Finish (Goes v)) _ _ v c.carry_out.new.self q
    c.in_ok-answer.ensures))
