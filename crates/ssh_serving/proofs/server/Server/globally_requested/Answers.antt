use Rattle.std.proofs.Common.{Bool, None}
use Rattle.ssh_auth.specs.declared.question.Question.TheVariants.{Judges}
use Rattle.ssh_auth.specs.Plan.{Plan, Ask, Judgement}
use Rattle.ssh_rules.specs.Acts.{acts, done_all}
use Rattle.ssh_rules.specs.Outcome.{Outcome}
use Rattle.ssh_rules.specs.Rows.{global_reply}
use Rattle.ssh_rules.specs.World.{World, wants_global, settles_global, unless_ended}
use Rattle.ssh_rules.proofs.Plans.Results.{on_ok}
use Rattle.ssh_serving.proofs.Serving.{served_both, passed, turns_quietly}
use Rattle.ssh_serving.proofs.server.Server.globally_requested.Goals as goal

pub returns-in_err-granted-clause-does : goal.returns-in_err-granted-clause-does
returns-in_err-granted-clause-does g c = λ w r later.
    let v = wants_global c.args.wanted w in
    let q = c.want_global.ensures.world w r in
    let next : Bool → World → Plan Outcome = λ granted world.
    acts later (unless_ended (settles_global (global_reply granted None)) world) in
    let all : Plan Outcome = Ask (Judges c.args.judged) (λ (answer : Judgement).
    done_all None 0 answer.commands v (next answer.granted)) in
    passed all next (λ (_ : Unit {0}). acts later) _ _ c.judge.new.self c.judge.new.self _ _
    c.from_residual.ensures.1 (c.in_err-granted.ensures.does v q next)

pub returns-clause-does : goal.returns-clause-does
returns-clause-does g c = λ w r later.
    let v = wants_global c.args.wanted w in
    let q = c.want_global.ensures.world w r in
    let next : Bool → World → Plan Outcome = λ granted world.
    acts later (unless_ended (settles_global (global_reply granted None)) world) in
    let all : Plan Outcome = Ask (Judges c.args.judged) (λ (answer : Judgement).
    done_all None 0 answer.commands v (next answer.granted)) in
    let granted = c.in_ok-granted.granted in
    let settled = c.settle_unless_ended in
    served_both granted all next (λ (_ : Unit {0}). acts later) _ _ _ c.judge.new.self
    settled.new.self settled.result (c.in_ok-granted.ensures.does v q next)
    (λ world p. turns_quietly (acts later)
    (unless_ended (settles_global (global_reply granted None)) world) _ settled.new.self
    settled.result (on_ok _ _ settled.result (λ f. f world p) settled.ensures.world)
    settled.ensures.memory)
