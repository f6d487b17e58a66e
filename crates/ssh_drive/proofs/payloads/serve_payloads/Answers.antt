use Rattle.std.proofs.Common.{◌≡◌, refl, sym, ◌∙◌, ap, subst, Err}
use Rattle.std.proofs.lemmas.Result.{err_from_is_err_and}
use Rattle.ssh_rules.specs.declared.error.RunError.TheVariants as error
use Rattle.ssh_rules.specs.Failure.{run_error_of}
use Rattle.ssh_rules.specs.World.{settings_of}
use Rattle.ssh_drive.specs.Served.{Served}
use Rattle.ssh_drive.proofs.Serving.{not_begun}
use Rattle.ssh_drive.proofs.payloads.serve_payloads.Goals as goal

pub returns-in_err-session : goal.returns-in_err-session
returns-in_err-session g c =
    let settings = settings_of c.args.config.now c.args.session_id.now c.args.remote_sshid.now
    (g.K.Kex.repeats c.args.kex.now) in
    let p = err_from_is_err_and c.from_residual.result c.from_residual.ensures.1 in
    let is : c.from_residual.result ≡ Err error.NoMemory = p.1
    ∙ ap Err (p.2 ∙ ap run_error_of c.in_err-session.ensures.memory) in
    record {
      served = subst (Served (g.V.Verifier.accepts c.args.verifier.now) settings
          c.args.payloads.items _ _) (sym is)
          (not_begun g.row.H-Error.Denot g.row.K-Error.Denot
          (g.V.Verifier.accepts c.args.verifier.now) settings c.args.payloads.items _);
    }

pub returns : goal.returns
returns g c = record {
  served = c.serve_each-flow.ensures.served
      (settings_of c.args.config.now c.args.session_id.now c.args.remote_sshid.now
      (g.K.Kex.repeats c.args.kex.now))
      (c.in_ok-session.ensures.opens (g.K.Kex.repeats c.args.kex.now)) refl;
}

pub serve_each-flow-requires-clause-begins : goal.serve_each-flow-requires-clause-begins
serve_each-flow-requires-clause-begins g c =
    let settings = settings_of c.args.config.now c.args.session_id.now c.args.remote_sshid.now
    (g.K.Kex.repeats c.args.kex.now) in (
      settings,
      c.in_ok-session.ensures.opens (g.K.Kex.repeats c.args.kex.now),
      c.requires.suits,
    )
