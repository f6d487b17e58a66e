use Rattle.std.proofs.Common.{◌≡◌, ◌∙◌, ap, Ok, Err}
use Rattle.std.proofs.lemmas.Result.{err_from_is_err_and}
use Rattle.ssh_session.specs.Between.{untold}
use Rattle.ssh_drive.specs.declared.moves.MoveError.TheVariants as error
use Rattle.ssh_drive.proofs.Moving.{payload_made, command_made, let_out_made, flush_made}
use Rattle.ssh_drive.proofs.moves.make.Goals as goal

pub returns-in_err-step-in-Payload-clause-made : goal.returns-in_err-step-in-Payload-clause-made
returns-in_err-step-in-Payload-clause-made g c w refines repeats =
    let p = err_from_is_err_and c.from_residual.result c.from_residual.ensures.1 in
    let e = c.in_err-step-in-Payload.field-0.0 in
    let is : c.from_residual.result ≡ Err (error.Payload e) = p.1 ∙ ap Err p.2 in
    rw (is, c.in-Payload.is)
    (payload_made (g.V.Verifier.accepts c.args.verifier.now) c.args.moment w
    (untold c.args.session.now) c.in-Payload.payload
    _ _ c.step.new.self (Err e) (c.in_err-step-in-Payload.ensures.taken w refines repeats) tt)

pub returns-in_err-flush-in-HandOn-clause-made : goal.returns-in_err-flush-in-HandOn-clause-made
returns-in_err-flush-in-HandOn-clause-made g c w refines repeats =
    let p = err_from_is_err_and c.from_residual-in_err-flush-in-HandOn.result
    c.from_residual-in_err-flush-in-HandOn.ensures.1 in
    let e = c.in_err-flush-in-HandOn.field-0.0 in
    let is : c.from_residual-in_err-flush-in-HandOn.result ≡ Err (error.HandOn e) =
    p.1 ∙ ap Err p.2 in
    rw (is, c.in-HandOn.is)
    (flush_made (g.V.Verifier.accepts c.args.verifier.now) c.args.moment w
    (untold c.args.session.now) (g.H.AuthHandler.told c.args.handler.now) _ _ c.flush.new.self
    (Err e)
    (c.in_err-flush-in-HandOn.ensures.flushed w refines repeats) tt)

pub returns-in_ok-step-in-Payload-clause-made : goal.returns-in_ok-step-in-Payload-clause-made
returns-in_ok-step-in-Payload-clause-made g c w refines repeats =
    rw c.in-Payload.is
    (payload_made (g.V.Verifier.accepts c.args.verifier.now) c.args.moment w
    (untold c.args.session.now) c.in-Payload.payload
    _ _ c.step.new.self (Ok c.in_ok-step-in-Payload.field-0)
    (c.in_ok-step-in-Payload.ensures.taken w refines repeats)
    c.in_ok-step-in-Payload.ensures.told)

pub returns-in_ok-apply-in-Say-clause-made : goal.returns-in_ok-apply-in-Say-clause-made
returns-in_ok-apply-in-Say-clause-made g c w refines repeats =
    rw c.in-Say.is
    (command_made g.row.H-Error.Denot g.row.K-Error.Denot
    (g.V.Verifier.accepts c.args.verifier.now) c.args.moment w c.in-Say.command _
    c.args.session.now c.apply.new.self (Ok c.in_ok-apply-in-Say.field-0)
    c.in_ok-apply-in-Say.ensures.applied refines)

pub returns-in_ok-flush-in-HandOn-clause-made : goal.returns-in_ok-flush-in-HandOn-clause-made
returns-in_ok-flush-in-HandOn-clause-made g c w refines repeats =
    rw c.in-HandOn.is
    (flush_made (g.V.Verifier.accepts c.args.verifier.now) c.args.moment w
    (untold c.args.session.now) (g.H.AuthHandler.told c.args.handler.now) _ _ c.flush.new.self
    (Ok tt)
    (c.in_ok-flush-in-HandOn.ensures.flushed w refines repeats)
    c.in_ok-flush-in-HandOn.ensures.told)

pub returns-in_ok-flush_pending-in-LetOut-clause-made :
    goal.returns-in_ok-flush_pending-in-LetOut-clause-made
returns-in_ok-flush_pending-in-LetOut-clause-made g c w refines repeats =
    let ensures = c.in_ok-flush_pending-in-LetOut.ensures in
    rw c.in-LetOut.is
    (let_out_made g.row.H-Error.Denot g.row.K-Error.Denot
    (g.V.Verifier.accepts c.args.verifier.now) c.args.moment w c.in-LetOut.channel _
    c.args.session.now c.flush_pending.new.self (Ok c.in_ok-flush_pending-in-LetOut.field-0)
    (ensures.framed w refines) (ensures.world w refines) ensures.told)
