use Rattle.std.proofs.Common.{◌≡◌, refl, sym, ◌∙◌, ap}
use Rattle.std.proofs.lemmas.List.{append-nil}
use Rattle.ssh_rules.specs.World.{settings_of}
use Rattle.ssh_gateway.specs.Answering.{of_authentication}
use Rattle.ssh_gateway.specs.Serving.{outside}
use Rattle.ssh_gateway.proofs.Attending.{attended_as, unbegun}
use Rattle.ssh_gateway.proofs.run.run_gateway.Goals as goal

pub returns : goal.returns
returns g c =
    let settings = settings_of c.args.config.now c.args.session_id.now c.args.remote_sshid.now
    (g.K.Kex.repeats c.args.kex.now) in
    let back : c.auth-1.given.0 ≡ c.turns_with.result.now =
    c.auth-1.given.1 (sym c.turns_with.ensures.same) in
    let told = ap g.A.AuthHandler.told back in
    record {
      gateway = λ calls tells. attended_as _ _ settings c.args.max_turns _ _ _ _ _ _ _
          (λ silent. told ∙ silent) (λ made admitted. (admitted.0, told ∙ admitted.1, admitted.2))
          (c.turns_with.ensures.attended settings calls
          (c.in-Ok.ensures.opens (g.K.Kex.repeats c.args.kex.now)) refl c.new-notebook.ensures tells);
    }

pub returns-in-Err : goal.returns-in-Err
returns-in-Err g c = record {
  gateway = λ calls tells.
      unbegun (g.V.Verifier.accepts c.args.verifier.now) (g.P.Policy.permits c.args.policy.now)
      (settings_of c.args.config.now c.args.session_id.now c.args.remote_sshid.now
      (g.K.Kex.repeats c.args.kex.now)) c.args.max_turns _ _
      (outside g.K.Kex.steps g.L.Link.trace g.L.Link.faults g.T.Targets.told g.T.Targets.faults
      c.args.kex.now c.args.link.now c.args.targets.now)
      (calls, tells, sym (append-nil (of_authentication calls)));
}
