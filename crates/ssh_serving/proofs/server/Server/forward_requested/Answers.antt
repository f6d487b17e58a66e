use Rattle.std.proofs.Common.{None, Bool, ℕ}
use Rattle.ssh_auth.specs.declared.question.Question.TheVariants.{Listens}
use Rattle.ssh_auth.specs.Plan.{Plan, Ask, Listening}
use Rattle.ssh_rules.specs.Acts.{acts, done_all}
use Rattle.ssh_rules.specs.Outcome.{Outcome}
use Rattle.ssh_rules.specs.Rows.{bound_to, global_reply}
use Rattle.ssh_rules.specs.World.{World, wants_global, settles_global, unless_ended}
use Rattle.ssh_rules.proofs.Plans.Results.{on_ok}
use Rattle.ssh_serving.proofs.Serving.{served_both, passed, turns_quietly}
use Rattle.ssh_serving.proofs.server.Server.forward_requested.Goals as goal

pub returns-in_err-granted-clause-does : goal.returns-in_err-granted-clause-does
returns-in_err-granted-clause-does g c = λ w r later.
    let port = c.args.port in
    let v = wants_global c.args.wanted w in
    let q = c.want_global.ensures.world w r in
    let next : Bool → ℕ → World → Plan Outcome = λ granted bound world.
    acts later (unless_ended (settles_global (global_reply granted (bound_to port bound))) world) in
    let all : Plan Outcome = Ask (Listens c.args.address port) (λ (answer : Listening).
    done_all None 0 answer.commands v (next answer.granted answer.port)) in
    passed all (λ (told : Bool × ℕ). next told.0 told.1)
    (λ (_ : Unit {0}). acts later) _ _ c.listen.new.self
    c.listen.new.self _ _ c.from_residual.ensures.1
    (rw c.as_str.ensures at (c.in_err-granted.ensures.does v q next))

pub returns-clause-does : goal.returns-clause-does
returns-clause-does g c = λ w r later.
    let port = c.args.port in
    let v = wants_global c.args.wanted w in
    let q = c.want_global.ensures.world w r in
    let next : Bool → ℕ → World → Plan Outcome = λ granted bound world.
    acts later (unless_ended (settles_global (global_reply granted (bound_to port bound))) world) in
    let all : Plan Outcome = Ask (Listens c.args.address port) (λ (answer : Listening).
    done_all None 0 answer.commands v (next answer.granted answer.port)) in
    let granted = c.in_ok-granted.granted in
    let bound = c.in_ok-granted.bound in
    let settled = c.settle_unless_ended in
    served_both (granted, bound) all (λ (told : Bool × ℕ). next told.0 told.1)
    (λ (_ : Unit {0}). acts later) _
    _ _ c.listen.new.self settled.new.self settled.result
    (rw c.as_str.ensures at (c.in_ok-granted.ensures.does v q next))
    (λ world p. turns_quietly (acts later)
    (unless_ended (settles_global (global_reply granted (bound_to port bound))) world) _
    settled.new.self settled.result
    (on_ok _ _ settled.result (λ f. f world p) (rw c.bound_to.ensures at settled.ensures.world))
    settled.ensures.memory)
