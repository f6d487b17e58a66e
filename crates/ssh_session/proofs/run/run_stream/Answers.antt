use Rattle.std.proofs.Common.{◌≡◌, rules, sym, ◌∙◌, ap, subst, Err}
use Rattle.std.proofs.lemmas.Result.{err_from_is_err_and}
use Rattle.ssh_rules.specs.declared.error.RunError.TheVariants as error
use Rattle.ssh_rules.specs.Account.{Laws}
use Rattle.ssh_rules.specs.Failure.{run_error_of}
use Rattle.ssh_rules.specs.World.{settings_of}
use Rattle.ssh_session.proofs.Runs.{not_begun, laws_of, ran_known}
use Rattle.ssh_session.proofs.run.run_stream.Goals as goal

pub returns-in_err-session : goal.returns-in_err-session
returns-in_err-session g c =
    let settings = settings_of c.args.config.now c.args.session_id.now c.args.remote_sshid.now
    (g.K.Kex.repeats c.args.kex.now) in
    let p = err_from_is_err_and c.from_residual.result c.from_residual.ensures.1 in
    let is : c.from_residual.result ≡ Err error.NoMemory = p.1
    ∙ ap Err (p.2 ∙ ap run_error_of c.in_err-session.ensures.memory) in
    record {
      laws = subst (Laws (g.V.Verifier.accepts c.args.verifier.now) settings _ _ _
          c.args.max_inputs) (sym is)
          (laws_of (g.V.Verifier.accepts c.args.verifier.now) settings _ _ _ c.args.max_inputs
          (Err error.NoMemory)
          (not_begun g.row.H-Error.Denot g.row.K-Error.Denot
          (g.V.Verifier.accepts c.args.verifier.now) settings _ _
          c.args.max_inputs));
    }

pub returns : goal.returns
returns g c =
    let settings = settings_of c.args.config.now c.args.session_id.now c.args.remote_sshid.now
    (g.K.Kex.repeats c.args.kex.now) in
    record {
      laws = laws_of (g.V.Verifier.accepts c.args.verifier.now) settings _ _ _
          c.args.max_inputs c.run_inputs-result.result
          (ran_known (g.V.Verifier.accepts c.args.verifier.now) settings _ _ _ _
          (g.L.Link.starved c.new-sides.result.link.now) (g.L.Link.starved c.args.link.now)
          (g.L.Link.starved c.run_inputs-result.new.sides.link.now)
          (g.L.Link.starved c.link-1.given.0) c.args.max_inputs c.run_inputs-result.result (cc)
          (search rules) (cc) (search rules)
          (c.run_inputs-result.ensures.ran settings
          (c.in_ok-session.ensures.opens (g.K.Kex.repeats c.args.kex.now))
          (ap g.K.Kex.repeats (sym c.new-sides.ensures.kex))));
    }

pub run_inputs-result-requires : goal.run_inputs-result-requires
run_inputs-result-requires g c =
    let settings = settings_of c.args.config.now c.args.session_id.now c.args.remote_sshid.now
    (g.K.Kex.repeats c.args.kex.now) in
    record {
      begins = (
        settings,
        c.in_ok-session.ensures.opens (g.K.Kex.repeats c.args.kex.now),
        c.requires.suits,
      );
    }
