use Rattle.std.proofs.Common.{◌≡◌, rules, true, false, inr}
use Rattle.std.specs.Prelude.{bytes_eq}
use Rattle.ssh_keys.specs.Algorithms.{algorithm_name}
use Rattle.ssh_auth.specs.Read.{circumstances, all_fields}
use Rattle.ssh_auth.specs.Plan.{Finish}
use Rattle.ssh_auth.specs.Verdict.{Fails, Starved}
use Rattle.ssh_auth.proofs.Asks.{same_text, other_text, starved}
use Rattle.ssh_auth.proofs.Keys.{unsigned_request, misnamed, signed_request}
use Rattle.ssh_auth.proofs.publickey.read_signed.Goals as goal

pub returns-in-Err : goal.returns-in-Err
returns-in-Err g c =
    let request = c.args.request.now in
    unsigned_request (circumstances (g.V.Verifier.accepts c.args.verifier.now) request)
    (all_fields request) request.fields.now c.args.rest.now c.args.offer.now c.args.auth.now
    request.user.now (g.H.AuthHandler.told c.args.handler.now) c.args.auth.now c.in-Err.e
    c.requires.offered c.in-Err.ensures

pub returns-then-ne : goal.returns-then-ne
returns-then-ne g c =
    let request = c.args.request.now in
    let name = c.in-Ok.signature.name in
    let other : bytes_eq name (algorithm_name c.args.offer.now.algorithm) ≡ false = search rules in
    misnamed (circumstances (g.V.Verifier.accepts c.args.verifier.now) request) (all_fields request)
    request.fields.now c.args.rest.now c.args.offer.now c.in-Ok.signature c.args.auth.now
    request.user.now (g.H.AuthHandler.told c.args.handler.now) c.refuse.new.auth
    c.in_ok-refuse.field-0 c.requires.offered c.in-Ok.ensures
    (other_text name (algorithm_name c.args.offer.now.algorithm) other) c.in_ok-refuse.ensures.ok

pub returns : goal.returns
returns g c =
    let request = c.args.request.now in
    let name = c.in-Ok.signature.name in
    let same : bytes_eq name (algorithm_name c.args.offer.now.algorithm) ≡ true = search rules in
    signed_request (circumstances (g.V.Verifier.accepts c.args.verifier.now) request)
    request.payload.now c.requires.whole.1.0 request.fields.now c.args.rest.now _
    c.args.offer.now
    c.in-Ok.signature c.args.auth.now request.user.now _ _ c.permit_signed-served.new.auth
    c.permit_signed-served.result c.requires.offered c.in-Ok.ensures
    (same_text name (algorithm_name c.args.offer.now.algorithm) same) c.requires.whole.1.1
    (search rules) c.permit_signed-served.ensures

pub returns-in_err-refuse : goal.returns-in_err-refuse
returns-in_err-refuse g c = inr (
    starved (Finish (Fails Starved)) (g.H.AuthHandler.told c.args.handler.now) c.refuse.new.auth
    c.in_err-refuse.field-0.0 c.from_residual.result c.from_residual.ensures.1
    c.in_err-refuse.ensures.memory
    )
