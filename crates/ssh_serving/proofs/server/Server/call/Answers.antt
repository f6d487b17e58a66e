use Rattle.std.proofs.Common.{List}
use Rattle.ssh_link.specs.declared.command.Command.{Command}
use Rattle.ssh_auth.specs.declared.question.Question.TheVariants.{Lends}
use Rattle.ssh_auth.specs.Plan.{Plan, Ask}
use Rattle.ssh_rules.specs.Acts.{acts, done_all}
use Rattle.ssh_rules.specs.Outcome.{Outcome}
use Rattle.ssh_serving.proofs.Serving.{asked, asked_in_vain, served_both}
use Rattle.ssh_serving.proofs.server.Server.call.Goals as goal

pub returns-in-Ok-clause-does : goal.returns-in-Ok-clause-does
returns-in-Ok-clause-does g c = λ w r later.
    let question = Lends c.args.lent in
    let next : List Command → Plan Outcome = λ commands. done_all c.args.at 0 commands w (acts later) in
    served_both c.in-Ok.commands (Ask question next) (λ given _. next given) (λ (_ : Unit {0}).
    acts later) _ _ _
    c.args.self.now c.finish_commands.new.self c.finish_commands.result
    (asked question c.in-Ok.commands next _ _ w c.args.self.now r c.in-Ok.ensures)
    (λ _ _. c.finish_commands.ensures.does w r (acts later))

pub returns-in-Err-clause-does : goal.returns-in-Err-clause-does
returns-in-Err-clause-does g c = λ w r later.
    asked_in_vain (Lends c.args.lent) (λ commands. done_all c.args.at 0 commands w (acts later))
    (λ (_ : Unit {0}). acts later) _ _
    c.args.self.now c.in-Err.e c.in-Err.ensures
