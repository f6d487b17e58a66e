use Rattle.std.proofs.Common.{◌≡◌, rules, false, None, refl, Ok, Err}
use Rattle.ssh_keys.specs.Offers.{offered_key}
use Rattle.ssh_auth.specs.declared.auth.Auth.TheVariants.{Accept}
use Rattle.ssh_auth.specs.declared.call.Call.TheVariants.{AuthPublickeyOffered}
use Rattle.ssh_auth.specs.declared.error.AuthError.TheVariants as error
use Rattle.ssh_auth.specs.declared.question.Admission.TheVariants as by
use Rattle.ssh_auth.specs.declared.question.Question.TheVariants.{Admits}
use Rattle.ssh_auth.specs.Request.{is_probed}
use Rattle.ssh_auth.specs.Verdict.{permitted, signed}
use Rattle.ssh_auth.proofs.Asks.{asked, asked_in_vain, starved_after}
use Rattle.ssh_auth.proofs.Keys.{unprobed, permitted_by}
use Rattle.ssh_auth.proofs.publickey.permit_signed.Goals as goal

pub returns-in_err-refuse-in-Ok : goal.returns-in_err-refuse-in-Ok
returns-in_err-refuse-in-Ok g c =
    let auth = c.args.auth.now in
    let user = c.args.user.now in
    let offer = c.args.offer.now in
    let fresh : is_probed auth.current offer.name offer.blob ≡ false = search rules in (
      None,
      tt,
      unprobed auth user offer None _ _ c.refuse.new.auth c.from_residual.result fresh
          (starved_after (Admits (by.PublickeyOffered user (offered_key offer.key) offer.algorithm))
          (λ answer. permitted auth answer (signed auth user offer None)) c.in-Ok.verdict
          (AuthPublickeyOffered user (offered_key offer.key) offer.algorithm (Ok c.in-Ok.verdict)) _
          _ c.refuse.new.auth c.in_err-refuse-in-Ok.field-0.0 c.from_residual.result
          c.from_residual.ensures.1 c.in_err-refuse-in-Ok.ensures.memory refl c.in-Ok.ensures),
    )

pub returns-else-not-lets_sign : goal.returns-else-not-lets_sign
returns-else-not-lets_sign g c =
    let auth = c.args.auth.now in
    let user = c.args.user.now in
    let offer = c.args.offer.now in
    let rest = c.verify_signed-in-Ok.ensures in
    let fresh : is_probed auth.current offer.name offer.blob ≡ false = search rules in
    let lets : c.in-Ok.verdict ≡ Accept = search rules in (
      rest.0,
      rest.1,
      unprobed auth user offer rest.0 _ _ c.verify_signed-in-Ok.new.auth
          c.verify_signed-in-Ok.result fresh
          (asked (Admits (by.PublickeyOffered user (offered_key offer.key) offer.algorithm))
          (λ answer. permitted auth answer (signed auth user offer rest.0)) c.in-Ok.verdict
          (AuthPublickeyOffered user (offered_key offer.key) offer.algorithm (Ok c.in-Ok.verdict)) _
          _ _
          c.verify_signed-in-Ok.new.auth c.verify_signed-in-Ok.result
          refl c.in-Ok.ensures
          (permitted_by auth c.in-Ok.verdict (signed auth user offer rest.0) _ _ _ _ lets rest.2)),
    )

pub returns-in-Err : goal.returns-in-Err
returns-in-Err g c =
    let auth = c.args.auth.now in
    let user = c.args.user.now in
    let offer = c.args.offer.now in
    let fresh : is_probed auth.current offer.name offer.blob ≡ false = search rules in (
      None,
      tt,
      unprobed auth user offer None _ _ auth (Err (error.Handler c.in-Err.e)) fresh
          (asked_in_vain (Admits (by.PublickeyOffered user (offered_key offer.key) offer.algorithm))
          (λ answer. permitted auth answer (signed auth user offer None))
          (AuthPublickeyOffered user (offered_key offer.key) offer.algorithm (Err c.in-Err.e)) _ _
          auth c.in-Err.e refl c.in-Err.ensures),
    )
