use Rattle.std.proofs.Common.{◌≡◌, ◌∷◌, [], None, Some, ◌∙◌, ap, subst}
use Rattle.ssh_auth.specs.declared.auth_step.AuthVerdict.TheVariants as verdict
use Rattle.ssh_rules.specs.Acts.{Turns}
use Rattle.ssh_rules.specs.Rows.{replied, moment_after, rejection_hold, finishes}
use Rattle.ssh_serving.specs.Serve.{Turned}
use Rattle.ssh_rules.specs.World.{writes}
use Rattle.ssh_serving.proofs.Serving.{turned}
use Rattle.ssh_serving.proofs.server.Server.conclude.Goals as goal

pub returns-in-Accepted-clause-does : goal.returns-in-Accepted-clause-does
returns-in-Accepted-clause-does g c = λ w r. rw c.in-Accepted.is
    (c.accept.ensures.does w c.args.moment r)

pub returns-in-Rejected-clause-does : goal.returns-in-Rejected-clause-does
returns-in-Rejected-clause-does g c = λ w r.
    let a = c.args in
    let until : c.saturating_add-hold_until.result
    ≡ moment_after a.moment (rejection_hold w.settings.config c.in-Rejected.none_method
    w.user.requested) =
    c.saturating_add-hold_until.ensures ∙ ap (moment_after a.moment) (c.rejection_hold.ensures w r)
    in
    let said = subst (λ m. Turned (Turns
    (λ v. writes (record { payload = a.step.reply; hold_until = Some m; channel = None } ∷ [])
    (finishes a.requested v)) ∷ []) w c.reply.new.self c.reply.result) until
    (c.reply.ensures.does w r) in
    rw c.in-Rejected.is
    (turned (replied w a.moment a.requested a.step.reply
    (verdict.Rejected c.in-Rejected.none_method)) w _ c.reply.new.self
    c.reply.result said)

pub returns-in-Continued-clause-does : goal.returns-in-Continued-clause-does
returns-in-Continued-clause-does g c = λ w r.
    let a = c.args in
    rw c.in-Continued.is
    (turned (replied w a.moment a.requested a.step.reply verdict.Continued) w _
    c.reply-in-Continued.new.self
    c.reply-in-Continued.result (c.reply-in-Continued.ensures.does w r))
