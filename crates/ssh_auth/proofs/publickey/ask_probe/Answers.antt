use Rattle.std.proofs.Common.{refl, Ok, Err}
use Rattle.ssh_keys.specs.Offers.{offered_key}
use Rattle.ssh_auth.specs.declared.call.Call.TheVariants.{AuthPublickeyOffered}
use Rattle.ssh_auth.specs.declared.question.Admission.TheVariants as by
use Rattle.ssh_auth.specs.declared.question.Question.TheVariants.{Admits}
use Rattle.ssh_auth.specs.Verdict.{after_offer}
use Rattle.ssh_auth.specs.Plan.{Finish}
use Rattle.ssh_auth.proofs.Asks.{asked_in_vain}
use Rattle.ssh_auth.proofs.Keys.{no_permit}
use Rattle.ssh_auth.proofs.publickey.ask_probe.Goals as goal

pub returns-in_err-answered-in-Ok : goal.returns-in_err-answered-in-Ok
returns-in_err-answered-in-Ok g c =
    let user = c.args.user.now in
    let offer = c.args.offer.now in
    no_permit (Admits (by.PublickeyOffered user (offered_key offer.key) offer.algorithm))
    (λ answer. after_offer c.args.auth.now offer answer) c.in-Ok.verdict
    (AuthPublickeyOffered user (offered_key offer.key) offer.algorithm (Ok c.in-Ok.verdict)) _ _
    c.answer_offer-answered.new.auth c.in_err-answered-in-Ok.field-0.0 c.from_residual.result
    c.from_residual.ensures.1 (rw c.in_err-answered-in-Ok.was at c.answer_offer-answered.ensures.refused) refl c.in-Ok.ensures

pub returns-in-Err : goal.returns-in-Err
returns-in-Err g c =
    let user = c.args.user.now in
    let offer = c.args.offer.now in
    asked_in_vain (Admits (by.PublickeyOffered user (offered_key offer.key) offer.algorithm))
    (λ answer. Finish (after_offer c.args.auth.now offer answer))
    (AuthPublickeyOffered user (offered_key offer.key) offer.algorithm (Err c.in-Err.e)) _ _
    c.args.auth.now c.in-Err.e refl c.in-Err.ensures
