use Rattle.std.proofs.Common.{[], inl, refl, Ok, Err}
use Rattle.ssh_wire.specs.declared.method.MethodKind.TheVariants as kind
use Rattle.ssh_auth.specs.declared.call.Call.TheVariants.{AuthNone}
use Rattle.ssh_auth.specs.declared.question.Admission.TheVariants as by
use Rattle.ssh_auth.specs.declared.question.Question.TheVariants.{Admits}
use Rattle.ssh_auth.specs.Plan.{Finish}
use Rattle.ssh_auth.specs.Requested.{SaysNone, None_method}
use Rattle.ssh_auth.specs.Verdict.{after_method}
use Rattle.ssh_auth.proofs.Asks.{asked, asked_in_vain, finished, starved_after, unfit_method}
use Rattle.ssh_auth.proofs.Misfits.{whole_error}
use Rattle.ssh_auth.proofs.request.serve_none.Goals as goal

pub returns-in_err-read_none : goal.returns-in_err-read_none
returns-in_err-read_none g c =
    let fields = c.args.fields.now in
    let why = c.in_err-read_none.field-0.0 in
    let r = c.from_residual in
    unfit_method (SaysNone fields) c.args.auth.now c.args.user.now
    (g.H.AuthHandler.told c.args.handler.now) c.args.auth.now why r.result r.ensures.1
    (whole_error g.row.H-Error.Denot [] fields why c.in_err-read_none.ensures)
    c.in_err-read_none.ensures

pub returns-in_ok-answered-in-Ok : goal.returns-in_ok-answered-in-Ok
returns-in_ok-answered-in-Ok g c =
    let user = c.args.user.now in
    let after = g.H.AuthHandler.told c.auth_none.new.self in
    inl (
      None_method,
      c.in_ok-read_none.ensures,
      asked (Admits (by.None user))
          (λ answer. Finish (after_method c.args.auth.now kind.None answer)) c.in-Ok.verdict
          (AuthNone user (Ok c.in-Ok.verdict)) _ after after c.answer-answered.new.auth (Ok c.in_ok-answered-in-Ok.field-0) refl
          c.in-Ok.ensures
          (finished (after_method c.args.auth.now kind.None c.in-Ok.verdict) after
          c.answer-answered.new.auth c.in_ok-answered-in-Ok.field-0
          (rw c.in_ok-answered-in-Ok.was at c.answer-answered.ensures.ok)),
    )

pub returns-in_err-answered-in-Ok : goal.returns-in_err-answered-in-Ok
returns-in_err-answered-in-Ok g c =
    let user = c.args.user.now in
    let r = c.from_residual-in_err-answered-in-Ok in
    inl (
      None_method,
      c.in_ok-read_none.ensures,
      starved_after (Admits (by.None user))
          (λ answer. Finish (after_method c.args.auth.now kind.None answer)) c.in-Ok.verdict
          (AuthNone user (Ok c.in-Ok.verdict)) _ _ c.answer-answered.new.auth
          c.in_err-answered-in-Ok.field-0.0 r.result r.ensures.1
          (rw c.in_err-answered-in-Ok.was at c.answer-answered.ensures.memory) refl c.in-Ok.ensures,
    )

pub returns-in-Err : goal.returns-in-Err
returns-in-Err g c =
    let user = c.args.user.now in
    inl (
      None_method,
      c.in_ok-read_none.ensures,
      asked_in_vain (Admits (by.None user))
          (λ answer. Finish (after_method c.args.auth.now kind.None answer))
          (AuthNone user (Err c.in-Err.e)) _ _ c.args.auth.now c.in-Err.e refl c.in-Err.ensures,
    )
