use Rattle.std.proofs.Common.{refl, Ok, Err}
use Rattle.ssh_auth.specs.declared.call.Call.TheVariants.{AuthPublickey}
use Rattle.ssh_auth.specs.declared.question.Admission.TheVariants as by
use Rattle.ssh_auth.specs.declared.question.Question.TheVariants.{Admits}
use Rattle.ssh_auth.specs.Plan.{Finish}
use Rattle.ssh_auth.specs.Verdict.{after_proof}
use Rattle.ssh_auth.proofs.Asks.{asked_in_vain, starved_after}
use Rattle.ssh_auth.proofs.publickey.let_in_by_key.Goals as goal

pub returns-in_err-answered-in-Ok : goal.returns-in_err-answered-in-Ok
returns-in_err-answered-in-Ok g c =
    let user = c.args.user.now in
    let key = c.args.public_key.now in
    starved_after (Admits (by.Publickey user key c.args.algorithm))
    (λ answer. Finish (after_proof c.args.auth.now answer)) c.in-Ok.verdict
    (AuthPublickey user key c.args.algorithm (Ok c.in-Ok.verdict)) _ _ c.answer_proof-answered.new.auth
    c.in_err-answered-in-Ok.field-0.0 c.from_residual.result
    c.from_residual.ensures.1 (rw c.in_err-answered-in-Ok.was at c.answer_proof-answered.ensures.memory) refl c.in-Ok.ensures

pub returns-in-Err : goal.returns-in-Err
returns-in-Err g c =
    let user = c.args.user.now in
    let key = c.args.public_key.now in
    asked_in_vain (Admits (by.Publickey user key c.args.algorithm))
    (λ answer. Finish (after_proof c.args.auth.now answer))
    (AuthPublickey user key c.args.algorithm (Err c.in-Err.e)) _ _ c.args.auth.now
    c.in-Err.e refl c.in-Err.ensures
