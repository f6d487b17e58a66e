use Rattle.std.proofs.Common.{◌≡◌, IfOk, arith}
use Rattle.std.proofs.lemmas.Grind.{common_steps}
use Rattle.ssh_auth.specs.declared.call.Call.TheVariants.{Signal}
use Rattle.ssh_handler.specs.Recording.{passed_on}
use Rattle.ssh_handler.proofs.Records.{made_of}
use Rattle.ssh_handler.proofs.recorded.handler.RecordedHandler.signal.Goals as goal

pub returns-clause-records : goal.returns-clause-records
returns-clause-records g c =
    let recorded = c.signal-answer.new.session.recorded in
    let told : IfOk c.signal-call.result (λ made.
    made ≡ Signal c.args.id c.args.signal (passed_on c.signal-answer.result) recorded) =
    made_of (λ sent. Signal c.args.id sent (passed_on c.signal-answer.result) recorded)
    c.copy-sent.result c.args.signal c.signal-call.result
    c.copy-sent.ensures.ok c.signal-call.ensures.ok c.signal-call.ensures.made in
    grind (arith, common_steps)
