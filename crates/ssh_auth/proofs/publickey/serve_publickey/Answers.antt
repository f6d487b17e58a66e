use Rattle.std.proofs.Common.{inl}
use Rattle.ssh_auth.specs.Publickey.{offer_fields}
use Rattle.ssh_auth.specs.Read.{circumstances, all_fields}
use Rattle.ssh_auth.specs.Requested.{SaysPublickey, Unusable_method}
use Rattle.ssh_auth.specs.Verdict.{refused}
use Rattle.ssh_auth.proofs.Asks.{finished, unfit_method}
use Rattle.ssh_auth.proofs.Misfits.{all_error}
use Rattle.ssh_auth.proofs.Keys.{no_offer}
use Rattle.ssh_auth.proofs.publickey.serve_publickey.Goals as goal

pub returns-in_err-asked : goal.returns-in_err-asked
returns-in_err-asked g c =
    let request = c.args.request.now in
    let given = circumstances (g.V.Verifier.accepts c.args.verifier.now) request in
    let why = c.in_err-asked.field-0.0 in
    unfit_method (SaysPublickey given (all_fields request) request.fields.now) c.args.auth.now
    request.user.now (g.H.AuthHandler.told c.args.handler.now) c.args.auth.now why
    c.from_residual.result c.from_residual.ensures.1 (all_error g.row.H-Error.Denot offer_fields
    request.fields.now why c.in_err-asked.ensures) (inl c.in_err-asked.ensures)

pub returns-in_default : goal.returns-in_default
returns-in_default g c =
    let asked = c.in_ok-asked.asked in
    inl (
      Unusable_method,
      (
        asked.signed,
        asked.name.now,
        asked.blob.now,
        asked.rest.now,
        c.in_ok-asked.ensures,
        rw c.in_default.is at c.in-Ok.ensures.ok,
      ),
      finished (refused c.args.auth.now) (g.H.AuthHandler.told c.args.handler.now) c.refuse.new.auth
          c.in_ok-refuse-in-Ok.field-0 c.in_ok-refuse-in-Ok.ensures.ok,
    )

pub returns-in-Err : goal.returns-in-Err
returns-in-Err g c =
    let request = c.args.request.now in
    let asked = c.in_ok-asked.asked in
    no_offer (circumstances (g.V.Verifier.accepts c.args.verifier.now) request) (all_fields request)
    request.fields.now asked.rest.now asked.name.now asked.blob.now asked.signed
    c.args.auth.now request.user.now (g.H.AuthHandler.told c.args.handler.now) c.args.auth.now
    c.in-Err.e c.from.result c.from.ensures c.in_ok-asked.ensures c.in-Err.ensures.refused
