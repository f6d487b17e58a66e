use Rattle.std.proofs.Common.{rules, ◌≡◌, true, false, Option, List, ℕ, Ok, Err, refl}
use Rattle.std.specs.Prelude.{bytes_eq, codes}
use Rattle.ssh_auth.specs.declared.call.Call.TheVariants.{AuthenticationBanner}
use Rattle.ssh_auth.specs.declared.question.Question.TheVariants.{Banner}
use Rattle.ssh_auth.specs.Plan.{Plan, Finish, Ask}
use Rattle.ssh_rules.specs.Acts.{acts}
use Rattle.ssh_rules.specs.Outcome.{Outcome, Goes}
use Rattle.ssh_rules.specs.Rows.{greets}
use Rattle.ssh_serving.proofs.Serving.{serves_nothing, served_both, asked, asked_in_vain, completes}
use Rattle.ssh_serving.proofs.Serving.{turned}
use Rattle.ssh_serving.proofs.server.Server.serve_service.Goals as goal

pub returns-then-ne-clause-does : goal.returns-then-ne-clause-does
returns-then-ne-clause-does g c = λ w r.
    let e : bytes_eq c.args.name.now (codes "ssh-userauth") ≡ false = search rules in
    rw e (serves_nothing tt (λ (_ : Unit {0}) world. Finish (Goes world)) _ w c.args.self.now r)

pub returns-in-Ok-clause-does : goal.returns-in-Ok-clause-does
returns-in-Ok-clause-does g c = λ w r.
    let e : bytes_eq c.args.name.now (codes "ssh-userauth") ≡ true = search rules in
    let next : Option (List ℕ) → Plan Outcome = λ message. acts (greets message) w in
    rw e (served_both c.in-Ok.banner (Ask Banner next) (λ given _. next given)
    (λ (_ : Unit {0}) world. Finish (Goes world))
    _ _ _ c.args.self.now c.greet.new.self c.greet.result
    (asked Banner c.in-Ok.banner next _ _ w c.args.self.now r
    (AuthenticationBanner (Ok c.in-Ok.banner), refl, c.in-Ok.ensures))
    (λ _ _. completes (greets c.in-Ok.banner) w _ _ c.greet.new.self c.greet.result
    (turned (greets c.in-Ok.banner) w _ c.greet.new.self c.greet.result (c.greet.ensures.does w r))))

pub returns-in-Err-clause-does : goal.returns-in-Err-clause-does
returns-in-Err-clause-does g c = λ w r.
    let e : bytes_eq c.args.name.now (codes "ssh-userauth") ≡ true = search rules in
    rw e (asked_in_vain Banner (λ message. acts (greets message) w) (λ (_ : Unit {0}) world.
    Finish (Goes world)) _ _
    c.args.self.now c.in-Err.e (AuthenticationBanner (Err c.in-Err.e), refl, c.in-Err.ensures))
