use Rattle.std.proofs.Common.{◌≡◌, refl, sym, ◌∙◌, ap, subst, Err}
use Rattle.std.proofs.lemmas.Result.{err_from_is_err_and}
use Rattle.ssh_rules.specs.World.{settings_of}
use Rattle.ssh_drive.specs.Driven.{Driven}
use Rattle.ssh_drive.specs.declared.moves.MoveError.TheVariants as error
use Rattle.ssh_drive.proofs.Driving.{not_begun}
use Rattle.ssh_drive.proofs.moves.drive.Goals as goal

pub returns-in_err-session : goal.returns-in_err-session
returns-in_err-session g c =
    let settings = settings_of c.args.config.now c.args.session_id.now c.args.remote_sshid.now
    (g.K.Kex.repeats c.args.kex.now) in
    let p = err_from_is_err_and c.from_residual.result c.from_residual.ensures.1 in
    let is : c.from_residual.result ≡ Err error.NoMemory = p.1 ∙ ap Err p.2 in
    record {
      driven = subst (Driven (g.V.Verifier.accepts c.args.verifier.now) settings c.args.moment
          c.args.moves.items _ _) (sym is)
          (not_begun g.row.H-Error.Denot g.row.K-Error.Denot
          (g.V.Verifier.accepts c.args.verifier.now) settings c.args.moment c.args.moves.items _);
    }

pub returns : goal.returns
returns g c = record {
  driven = c.drive_each-flow.ensures.driven
      (settings_of c.args.config.now c.args.session_id.now c.args.remote_sshid.now
      (g.K.Kex.repeats c.args.kex.now))
      (c.in_ok-session.ensures.opens (g.K.Kex.repeats c.args.kex.now)) refl;
}

pub drive_each-flow-requires-clause-begins : goal.drive_each-flow-requires-clause-begins
drive_each-flow-requires-clause-begins g c =
    let settings = settings_of c.args.config.now c.args.session_id.now c.args.remote_sshid.now
    (g.K.Kex.repeats c.args.kex.now) in (
      settings,
      c.in_ok-session.ensures.opens (g.K.Kex.repeats c.args.kex.now),
      c.requires.suits,
    )
