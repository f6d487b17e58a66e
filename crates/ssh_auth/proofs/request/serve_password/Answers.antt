use Rattle.std.proofs.Common.{inl, refl, Ok, Err}
use Rattle.ssh_wire.specs.declared.method.MethodKind.TheVariants as kind
use Rattle.ssh_auth.specs.declared.call.Call.TheVariants.{AuthPassword}
use Rattle.ssh_auth.specs.declared.question.Admission.TheVariants as by
use Rattle.ssh_auth.specs.declared.question.Question.TheVariants.{Admits}
use Rattle.ssh_auth.specs.Plan.{Finish}
use Rattle.ssh_auth.specs.Requested.{SaysPassword, Password_method}
use Rattle.ssh_auth.specs.Verdict.{after_method}
use Rattle.ssh_auth.proofs.Asks.{asked_in_vain, starved_after, unfit_method}
use Rattle.ssh_auth.proofs.Misfits.{password_error}
use Rattle.ssh_auth.proofs.request.serve_password.Goals as goal

pub returns-in_err-password : goal.returns-in_err-password
returns-in_err-password g c =
    let fields = c.args.fields.now in
    let why = c.in_err-password.field-0.0 in
    let r = c.from_residual in
    unfit_method (SaysPassword fields) c.args.auth.now c.args.user.now
    (g.H.AuthHandler.told c.args.handler.now) c.args.auth.now why r.result r.ensures.1
    (password_error g.row.H-Error.Denot fields why c.in_err-password.ensures)
    c.in_err-password.ensures

pub returns-in_err-answered-in-Ok : goal.returns-in_err-answered-in-Ok
returns-in_err-answered-in-Ok g c =
    let user = c.args.user.now in
    let password = c.in-Password.password.now in
    let r = c.from_residual-in_err-answered-in-Ok in
    inl (
      Password_method password,
      rw c.in-Password.is at c.in_ok-password.ensures,
      starved_after (Admits (by.Password user password))
          (λ answer. Finish (after_method c.args.auth.now kind.Password answer)) c.in-Ok.verdict
          (AuthPassword user password (Ok c.in-Ok.verdict)) _ _ c.answer-answered.new.auth
          c.in_err-answered-in-Ok.field-0.0 r.result r.ensures.1
          (rw c.in_err-answered-in-Ok.was at c.answer-answered.ensures.memory) refl c.in-Ok.ensures,
    )

pub returns-in-Err : goal.returns-in-Err
returns-in-Err g c =
    let user = c.args.user.now in
    let password = c.in-Password.password.now in
    inl (
      Password_method password,
      rw c.in-Password.is at c.in_ok-password.ensures,
      asked_in_vain (Admits (by.Password user password))
          (λ answer. Finish (after_method c.args.auth.now kind.Password answer))
          (AuthPassword user password (Err c.in-Err.e)) _ _ c.args.auth.now
          c.in-Err.e refl c.in-Err.ensures,
    )
