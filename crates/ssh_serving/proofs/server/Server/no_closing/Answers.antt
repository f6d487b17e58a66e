use Rattle.std.proofs.Common.{◌∙◌, Some, None, true, ap, sym}
use Rattle.std.specs.Option.{option_copied}
use Rattle.ssh_rules.specs.Effect.{not_usable}
use Rattle.ssh_serving.proofs.Refining.{closing}
use Rattle.ssh_serving.proofs.server.Server.no_closing.Goals as goal

pub returns-in-Some : goal.returns-in-Some
returns-in-Some c = λ w r.
    let line = c.in-Some.line.now in
    sym (ap (λ b. not_usable b line.pending_close) c.if-not-line.true)
    ∙ closing c.args.channel.0 c.args.self.now w (Some line) r
    (sym (ap option_copied c.in-Some.is) ∙ c.params.ensures)

pub returns-in-Some-2 : goal.returns-in-Some-2
returns-in-Some-2 c = λ w r.
    let line = c.in-Some.line.now in
    sym (ap (λ b. not_usable b line.pending_close) c.if-not-line.false
    ∙ ap (not_usable true) c.if-line.true)
    ∙ closing c.args.channel.0 c.args.self.now w (Some line) r
    (sym (ap option_copied c.in-Some.is) ∙ c.params.ensures)

pub returns-in-Some-3 : goal.returns-in-Some-3
returns-in-Some-3 c = λ w r.
    let line = c.in-Some.line.now in
    sym (ap (λ b. not_usable b line.pending_close) c.if-not-line.false
    ∙ ap (not_usable true) c.if-line.false)
    ∙ closing c.args.channel.0 c.args.self.now w (Some line) r
    (sym (ap option_copied c.in-Some.is) ∙ c.params.ensures)

pub returns-in-None : goal.returns-in-None
returns-in-None c = λ w r.
    closing c.args.channel.0 c.args.self.now w None r (sym (ap option_copied c.in-None.is)
    ∙ c.params.ensures)
