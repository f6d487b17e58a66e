use Rattle.std.proofs.Common.{◌≡◌, ◌∙◌, false}
use Rattle.ssh_channels.specs.Calls.{Flush_line, flush_line, framed_at}
use Rattle.ssh_channels.specs.Does.{goes_out}
use Rattle.ssh_channels.specs.Lines.{find}
use Rattle.ssh_rules.proofs.Plans.Results.{on_ok, if_ok}
use Rattle.ssh_serving.proofs.Refining.{called, framed_same}
use Rattle.ssh_serving.proofs.server.Server.flush_pending.Goals as goal

pub returns-clause-framed : goal.returns-clause-framed
returns-clause-framed c = λ w r.
    let n = c.args.channel.0 in
    if_ok (λ x. x ≡ framed_at n c.args.self.now.table)
    (λ x. x ≡ goes_out (find n w.channels.lines.entries)) c.flush_pending.result
    (λ x e. e ∙ framed_same n c.args.self.now w r) c.flush_pending.ensures.answer

pub returns-clause-world : goal.returns-clause-world
returns-clause-world c =
    let n = c.args.channel.0 in
    on_ok (c.flush_pending.new.self ≡ flush_line n c.args.self.now.table) _ c.flush_pending.result
    (λ e w r. called (Flush_line n false) c.args.self.now c.flush_pending.new.self _ w tt e r)
    c.flush_pending.ensures.table
