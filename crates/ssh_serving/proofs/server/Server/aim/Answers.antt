use Rattle.std.proofs.Common.{ℕ, Ok, Err, arith, refl, rules}
use Rattle.ssh_auth.specs.declared.call.Call.TheVariants.{AdjustWindow}
use Rattle.ssh_auth.specs.declared.question.Question.TheVariants.{Adjusts}
use Rattle.ssh_auth.specs.Plan.{Plan, Ask}
use Rattle.ssh_rules.specs.Acts.{acts}
use Rattle.ssh_rules.specs.Outcome.{Outcome}
use Rattle.ssh_rules.specs.Rows.{aims_at}
use Rattle.ssh_serving.proofs.Replying.{aimed, unaimed}
use Rattle.ssh_serving.proofs.Serving.{asked, asked_in_vain, served_both, serves_nothing}
use Rattle.ssh_serving.proofs.server.Server.aim.Goals as goal

pub returns-in_default-clause-does : goal.returns-in_default-clause-does
returns-in_default-clause-does g c = λ w r later.
    rw c.in_default.is (serves_nothing tt (λ (_ : Unit {0}). acts later) _ w c.args.self.now r)

pub returns-then-window-eq0-clause-does : goal.returns-then-window-eq0-clause-does
returns-then-window-eq0-clause-does g c = λ w r later.
    let current = c.in-Some.current in
    let window = c.in-Ok.window in
    let question = Adjusts c.args.channel current in
    let next : ℕ → Plan Outcome = λ window. acts later (aims_at c.args.channel window w) in
    rw c.in-Some.is (served_both window (Ask question next) (λ given _. next given)
    (λ (_ : Unit {0}). acts later) _ _ _ c.args.self.now c.args.self.now (Ok tt)
    (asked question window next _ _ w c.args.self.now r
    (AdjustWindow c.args.channel current (Ok window), refl, c.in-Ok.ensures))
    (λ _ _. serves_nothing tt (λ (_ : Unit {0}). acts later) _ (aims_at c.args.channel window w) _
    (unaimed c.args.channel window c.args.self.now w (search (rules, c.if-window-eq0.true)) r)))

pub returns-else-window-eq0-clause-does : goal.returns-else-window-eq0-clause-does
returns-else-window-eq0-clause-does g c = λ w r later.
    let current = c.in-Some.current in
    let window = c.in-Ok.window in
    let question = Adjusts c.args.channel current in
    let next : ℕ → Plan Outcome = λ window. acts later (aims_at c.args.channel window w) in
    rw c.in-Some.is (served_both window (Ask question next) (λ given _. next given)
    (λ (_ : Unit {0}). acts later) _ _ _ c.args.self.now _ (Ok tt)
    (asked question window next _ _ w c.args.self.now r
    (AdjustWindow c.args.channel current (Ok window), refl, c.in-Ok.ensures))
    (λ _ _. serves_nothing tt (λ (_ : Unit {0}). acts later) _ (aims_at c.args.channel window w) _
    (aimed c.args.channel window c.args.self.now c.set_target-is_there.new.self _ w
    (omega arith) (search (rules, c.if-window-eq0.false)) c.set_target-is_there.ensures.table r)))

pub returns-in-Err-clause-does : goal.returns-in-Err-clause-does
returns-in-Err-clause-does g c = λ w r later.
    rw c.in-Some.is (asked_in_vain (Adjusts c.args.channel c.in-Some.current) (λ window.
    acts later (aims_at c.args.channel window w)) (λ (_ : Unit {0}). acts later)
    _ _ c.args.self.now c.in-Err.e
    (AdjustWindow c.args.channel c.in-Some.current (Err c.in-Err.e), refl, c.in-Err.ensures))
