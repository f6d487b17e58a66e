use Rattle.std.proofs.Common.{None, Ok, Err, Bool, ℕ}
use Rattle.ssh_auth.specs.declared.question.Question.TheVariants.{Listens}
use Rattle.ssh_auth.specs.Plan.{Plan, Ask, Listening}
use Rattle.ssh_rules.specs.Acts.{done_all}
use Rattle.ssh_rules.specs.Outcome.{Outcome}
use Rattle.ssh_serving.proofs.Serving.{asked, asked_in_vain, served_both, of_value}
use Rattle.ssh_serving.proofs.server.Server.listen.Goals as goal

pub returns-in-Ok-finish_commands-clause-does : goal.returns-in-Ok-finish_commands-clause-does
returns-in-Ok-finish_commands-clause-does g c = λ w r next.
    let granted = c.in-Ok.granted in
    let bound = c.in-Ok.bound in
    let commands = c.in-Ok.commands in
    let answer : Listening = record { granted = granted; port = bound; commands = commands } in
    let step : Listening → Plan Outcome = λ x. done_all None 0 x.commands w (next x.granted x.port) in
    served_both answer (Ask (Listens c.args.address.now c.args.port) step) (λ given _. step given)
    (λ (told : Bool × ℕ). next told.0 told.1) _ _ _
    c.args.self.now c.finish_commands.new.self (Ok (granted, bound))
    (asked (Listens c.args.address.now c.args.port) answer step _ _ w c.args.self.now r
    c.in-Ok.ensures)
    (λ _ _. of_value (granted, bound) (done_all None 0 commands w (next granted bound))
    (λ (told : Bool × ℕ). next told.0 told.1) _ _
    c.finish_commands.new.self (c.in-Ok-finish_commands.ensures.does w r (next granted bound)))

pub returns-in-Err-finish_commands-clause-does : goal.returns-in-Err-finish_commands-clause-does
returns-in-Err-finish_commands-clause-does g c = λ w r next.
    let granted = c.in-Ok.granted in
    let bound = c.in-Ok.bound in
    let commands = c.in-Ok.commands in
    let answer : Listening = record { granted = granted; port = bound; commands = commands } in
    let step : Listening → Plan Outcome = λ x. done_all None 0 x.commands w (next x.granted x.port) in
    served_both answer (Ask (Listens c.args.address.now c.args.port) step) (λ given _. step given)
    (λ (told : Bool × ℕ). next told.0 told.1) _ _ _
    c.args.self.now c.finish_commands.new.self (Err c.in-Err-finish_commands.e)
    (asked (Listens c.args.address.now c.args.port) answer step _ _ w c.args.self.now r
    c.in-Ok.ensures)
    (λ _ _. c.in-Err-finish_commands.ensures.does w r (next granted bound))

pub returns-in-Err-clause-does : goal.returns-in-Err-clause-does
returns-in-Err-clause-does g c = λ w r next.
    asked_in_vain (Listens c.args.address.now c.args.port)
    (λ (answer : Listening). done_all None 0 answer.commands w (next answer.granted answer.port))
    (λ (told : Bool × ℕ). next told.0 told.1) _ _
    c.args.self.now c.in-Err.e c.in-Err.ensures
