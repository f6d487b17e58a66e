use Rattle.std.proofs.Common.{◌++◌, refl, ap, Err}
use Rattle.ssh_channels.specs.Lines.{next_number}
use Rattle.ssh_rules.specs.Acts.{acts}
use Rattle.ssh_rules.specs.Failure.{error_of_table}
use Rattle.ssh_rules.specs.Rows.{asks_first, waits}
use Rattle.ssh_serving.proofs.Rows.{not_drawn, not_inconsistent}
use Rattle.ssh_serving.proofs.Serving.{quiet}
use Rattle.ssh_serving.proofs.server.Server.ask_open.Goals as goal

pub returns-in-Ok-clause-does : goal.returns-in-Ok-clause-does
returns-in-Ok-clause-does g c = λ w r later.
    rw (c.in-Ok.ensures.number w r)
    (c.call.ensures.does (waits c.in-Ok.number.0 c.args.said w) (c.in-Ok.ensures.world w r) later)

pub returns-in-Err-clause-does : goal.returns-in-Err-clause-does
returns-in-Err-clause-does g c = λ w r later.
    let owes = asks_first (next_number w.channels.lines) c.args.said c.args.kind in
    rw c.from.ensures (quiet {T = Unit {0}} (acts (owes ++ later) w) (λ _. acts later) _
    c.draw.new.self (Err (error_of_table c.in-Err.e))
    (not_drawn g.row.O-Error.Denot g.row.O-KexError.Denot w
    (λ o. asks_first o c.args.said c.args.kind) c.in-Err.e later
    c.draw.new.self refl (not_inconsistent c.in-Err.e c.in-Err.ensures.errors)
    (λ h. c.in-Err.ensures.full w r (ap Err h))))
