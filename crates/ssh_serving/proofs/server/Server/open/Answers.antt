use Rattle.std.proofs.Common.{sym, ◌∙◌, ap}
use Rattle.ssh_channels.specs.Lines.{next_number}
use Rattle.ssh_rules.specs.Rows.{turns_first}
use Rattle.ssh_rules.specs.Types.{handling, given_up, unsupported, unknown}
use Rattle.ssh_serving.proofs.Serving.{turned}
use Rattle.ssh_serving.proofs.server.Server.open.Goals as goal

pub returns-in-Asks-clause-does : goal.returns-in-Asks-clause-does
returns-in-Asks-clause-does g c = λ w r later.
    rw (sym (c.handled_by.ensures ∙ ap (λ b. handling b c.args.message.typ) r.no_more_sessions)
    ∙ c.in-Asks.is) (c.ask_open.ensures.does w r later)

pub returns-in-GivenUp-clause-does : goal.returns-in-GivenUp-clause-does
returns-in-GivenUp-clause-does g c = λ w r later.
    rw (sym (c.handled_by.ensures ∙ ap (λ b. handling b c.args.message.typ) r.no_more_sessions)
    ∙ c.in-GivenUp.is)
    (turned (turns_first (next_number w.channels.lines) (given_up
    c.args.message.recipient_channel)) w _ c.turn_away.new.self c.turn_away.result
    (c.turn_away.ensures.does w r) later)

pub returns-in-Unsupported-clause-does : goal.returns-in-Unsupported-clause-does
returns-in-Unsupported-clause-does g c = λ w r later.
    rw (sym (c.handled_by.ensures ∙ ap (λ b. handling b c.args.message.typ) r.no_more_sessions)
    ∙ c.in-Unsupported.is)
    (turned (turns_first (next_number w.channels.lines) (unsupported
    c.args.message.recipient_channel)) w _ c.turn_away-in-Unsupported.new.self
    c.turn_away-in-Unsupported.result (c.turn_away-in-Unsupported.ensures.does w r) later)

pub returns-in-Unknown-clause-does : goal.returns-in-Unknown-clause-does
returns-in-Unknown-clause-does g c = λ w r later.
    rw (sym (c.handled_by.ensures ∙ ap (λ b. handling b c.args.message.typ) r.no_more_sessions)
    ∙ c.in-Unknown.is)
    (turned (turns_first (next_number w.channels.lines) (unknown
    c.args.message.recipient_channel)) w _ c.turn_away-in-Unknown.new.self
    c.turn_away-in-Unknown.result (c.turn_away-in-Unknown.ensures.does w r) later)
