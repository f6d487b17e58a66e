use Rattle.std.proofs.Common.{sym, ◌∙◌}
use Rattle.ssh_embed.proofs.Asking.{asks_request, begins_with}
use Rattle.ssh_embed.proofs.connection.Connection.question.Goals as goal

pub returns-in-Some-eq50-clause-asks : goal.returns-in-Some-eq50-clause-asks
returns-in-Some-eq50-clause-asks c w refines =
    asks_request w c.args.moment c.args.payload.now c.session_id-id.result.now
    c.in-WaitingAuthRequest.auth c.asked_by_request.result
    (sym (c.state.ensures w refines) ∙ c.in-WaitingAuthRequest.is)
    (c.session_id-id.ensures.world w refines)
    (begins_with 50 c.args.payload.now
    (let value = c.in-Some-eq50.ensures.value in let is = c.in-Some-eq50.field-0-is in cc)) c.asked_by_request.ensures.serving
