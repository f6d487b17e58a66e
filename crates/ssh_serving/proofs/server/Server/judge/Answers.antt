use Rattle.std.proofs.Common.{Ok, Err}
use Rattle.ssh_auth.specs.declared.question.Question.TheVariants.{Judges}
use Rattle.ssh_auth.specs.Plan.{Plan, Ask, Judgement}
use Rattle.ssh_rules.specs.Acts.{done_all}
use Rattle.ssh_rules.specs.Outcome.{Outcome}
use Rattle.ssh_serving.proofs.Serving.{asked, asked_in_vain, served_both, of_value}
use Rattle.ssh_serving.proofs.server.Server.judge.Goals as goal

pub returns-in-Ok-finish_commands-clause-does : goal.returns-in-Ok-finish_commands-clause-does
returns-in-Ok-finish_commands-clause-does g c = λ w r next.
    let granted = c.in-Ok.granted in
    let commands = c.in-Ok.commands in
    let answer : Judgement = record { granted = granted; commands = commands } in
    let step : Judgement → Plan Outcome = λ x. done_all c.args.at 0 x.commands w (next x.granted) in
    served_both answer (Ask (Judges c.args.judged) step) (λ given _. step given) next _ _ _
    c.args.self.now c.finish_commands.new.self (Ok granted)
    (asked (Judges c.args.judged) answer step _ _ w c.args.self.now r c.in-Ok.ensures)
    (λ _ _. of_value granted (done_all c.args.at 0 commands w (next granted)) next _ _
    c.finish_commands.new.self (c.in-Ok-finish_commands.ensures.does w r (next granted)))

pub returns-in-Err-finish_commands-clause-does : goal.returns-in-Err-finish_commands-clause-does
returns-in-Err-finish_commands-clause-does g c = λ w r next.
    let granted = c.in-Ok.granted in
    let commands = c.in-Ok.commands in
    let answer : Judgement = record { granted = granted; commands = commands } in
    let step : Judgement → Plan Outcome = λ x. done_all c.args.at 0 x.commands w (next x.granted) in
    served_both answer (Ask (Judges c.args.judged) step) (λ given _. step given) next _ _ _
    c.args.self.now c.finish_commands.new.self (Err c.in-Err-finish_commands.e)
    (asked (Judges c.args.judged) answer step _ _ w c.args.self.now r c.in-Ok.ensures)
    (λ _ _. c.in-Err-finish_commands.ensures.does w r (next granted))

pub returns-in-Err-clause-does : goal.returns-in-Err-clause-does
returns-in-Err-clause-does g c = λ w r next.
    asked_in_vain (Judges c.args.judged)
    (λ (answer : Judgement). done_all c.args.at 0 answer.commands w (next answer.granted)) next _ _
    c.args.self.now c.in-Err.e c.in-Err.ensures
