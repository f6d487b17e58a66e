use Rattle.std.proofs.Common.{◌≡◌, ◌∙◌, cond, ap, sym, subst}
use Rattle.ssh_channels.specs.Does.{goes_out}
use Rattle.ssh_channels.specs.Lines.{find, goes_on}
use Rattle.ssh_rules.proofs.Plans.Results.{on_ok, if_ok}
use Rattle.ssh_rules.specs.World.{World, lined}
use Rattle.ssh_serving.proofs.Unchanged.{not_ended}
use Rattle.ssh_serving.specs.Serve as served
use Rattle.ssh_session.proofs.Flushing.{on_err}
use Rattle.ssh_session.specs.Serve.{Refines}
use Rattle.ssh_session.proofs.session.Session.flush_pending.Goals as goal

pub returns-then-self-clause-framed : goal.returns-then-self-clause-framed
returns-then-self-clause-framed c = λ w r.
    let ended = sym c.if-self.true ∙ r.server.disconnected in
    ap (λ b. cond b 0 (goes_out (find c.args.channel.0 w.channels.lines.entries))) ended

pub returns-then-self-clause-world : goal.returns-then-self-clause-world
returns-then-self-clause-world c = λ w r.
    subst (λ b. Refines c.args.self.now (cond b w (lined (goes_on c.args.channel.0) w)))
    (sym c.if-self.true ∙ r.server.disconnected) r

pub returns-clause-framed : goal.returns-clause-framed
returns-clause-framed c = λ w r.
    let stands = sym c.if-self.false ∙ r.server.disconnected in
    let out = goes_out (find c.args.channel.0 w.channels.lines.entries) in
    if_ok (λ x. x ≡ out) (λ x. x ≡ cond w.disconnected 0 out) c.flush_pending.result
    (λ x e. e ∙ ap (λ b. cond b 0 out) stands) (c.flush_pending.ensures.framed w r.server)

pub returns-clause-world : goal.returns-clause-world
returns-clause-world c =
    let goes = lined (goes_on c.args.channel.0) in
    on_ok ((w : World) → served.Refines c.args.self.now.server w
    → served.Refines c.flush_pending.new.self (goes w)) _ c.flush_pending.result
    (λ h w r. record {
      server = not_ended _ w goes (sym r.server.disconnected ∙ c.if-self.false) (h w r.server);
      live = r.live;
    })
    c.flush_pending.ensures.world

pub returns-clause-unchanged : goal.returns-clause-unchanged
returns-clause-unchanged c =
    on_err (c.flush_pending.new.self ≡ c.args.self.now.server) _ c.flush_pending.result
    (ap (λ s. record c.args.self.now { server = s })) c.flush_pending.ensures.unchanged
