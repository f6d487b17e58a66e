use Rattle.std.proofs.Common.{false}
use Rattle.ssh_auth.specs.Read.{circumstances, all_fields}
use Rattle.ssh_auth.proofs.Keys.{offers_as, more_than_probe, probe}
use Rattle.ssh_auth.proofs.publickey.go_on_with_offer.Goals as goal

pub returns-in_err-read_none : goal.returns-in_err-read_none
returns-in_err-read_none g c =
    let request = c.args.request.now in
    let given = circumstances (g.V.Verifier.accepts c.args.verifier.now) request in
    let offer = c.args.offer.now in
    let rest = c.args.asked.rest.now in
    more_than_probe given (all_fields request) request.fields.now rest offer c.args.auth.now
    request.user.now (g.H.AuthHandler.told c.args.handler.now) c.args.auth.now
    c.in_err-read_none.field-0.0 c.from_residual.result (offers_as given c.args.asked.signed false
    offer request.fields.now rest c.if-asked.false c.requires.offered)
    c.in_err-read_none.ensures c.from_residual.ensures.1

pub returns : goal.returns
returns g c =
    let request = c.args.request.now in
    let given = circumstances (g.V.Verifier.accepts c.args.verifier.now) request in
    let offer = c.args.offer.now in
    let rest = c.args.asked.rest.now in
    probe given (all_fields request) request.fields.now rest offer c.args.auth.now request.user.now
    _ _ c.ask_probe.new.auth c.ask_probe.result
    (offers_as given c.args.asked.signed false offer request.fields.now rest c.if-asked.false
    c.requires.offered) c.in_ok-read_none.ensures c.ask_probe.ensures
