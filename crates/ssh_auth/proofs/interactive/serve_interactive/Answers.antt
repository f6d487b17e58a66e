use Rattle.std.proofs.Common.{[], ◌∷◌, inl, Some, None, Ok, Err, refl}
use Rattle.ssh_wire.specs.Field.{Text}
use Rattle.ssh_auth.specs.declared.auth_request.CurrentRequest.TheVariants as round
use Rattle.ssh_auth.specs.declared.call.Call.TheVariants.{AuthKeyboardInteractive}
use Rattle.ssh_auth.specs.declared.question.Admission.TheVariants as by
use Rattle.ssh_auth.specs.declared.question.Question.TheVariants.{Admits}
use Rattle.ssh_auth.specs.Plan.{Finish}
use Rattle.ssh_auth.specs.Requested.{SaysInteractive, Interactive_method}
use Rattle.ssh_auth.specs.Verdict.{after_prompts}
use Rattle.ssh_auth.proofs.Asks.{asked_once, asked_in_vain, unfit_method}
use Rattle.ssh_auth.proofs.Misfits.{whole_error}
use Rattle.ssh_auth.proofs.interactive.serve_interactive.Goals as goal

pub returns-in_err-submethods : goal.returns-in_err-submethods
returns-in_err-submethods g c =
    let fields = c.args.fields.now in
    let why = c.in_err-submethods.field-0.0 in
    let r = c.from_residual in
    unfit_method (SaysInteractive fields) c.args.auth.now c.args.user.now
    (g.H.AuthHandler.told c.args.handler.now) c.args.auth.now why r.result r.ensures.1
    (whole_error g.row.H-Error.Denot (Text ∷ Text ∷ []) fields why c.in_err-submethods.ensures)
    c.in_err-submethods.ensures

pub returns-in-Ok : goal.returns-in-Ok
returns-in-Ok g c =
    let user = c.args.user.now in
    let submethods = c.in_ok-submethods.submethods.now in
    let state = record c.args.auth.now { current = Some (round.KeyboardInteractive submethods) } in
    inl (
      Interactive_method submethods,
      c.in_ok-submethods.ensures,
      asked_once (Admits (by.KeyboardInteractive user submethods None))
          (λ answer. after_prompts state answer) c.in-Ok.verdict
          (AuthKeyboardInteractive user submethods None (Ok c.in-Ok.verdict)) _ _
          c.answer_prompted-answered.new.auth c.answer_prompted-answered.result refl
          c.in-Ok.ensures
          (rw c.in_ok-submethods_kept.ensures.ok at (rw c.begin_prompts.ensures at
          c.answer_prompted-answered.ensures)),
    )

pub returns-in-Err : goal.returns-in-Err
returns-in-Err g c =
    let user = c.args.user.now in
    let submethods = c.in_ok-submethods.submethods.now in
    let state = record c.args.auth.now { current = Some (round.KeyboardInteractive submethods) } in
    inl (
      Interactive_method submethods,
      c.in_ok-submethods.ensures,
      asked_in_vain (Admits (by.KeyboardInteractive user submethods None))
          (λ answer. Finish (after_prompts state answer))
          (AuthKeyboardInteractive user submethods None (Err c.in-Err.e)) _ _ c.args.auth.now
          c.in-Err.e refl c.in-Err.ensures,
    )
