use Rattle.std.proofs.Common.{Err, refl}
use Rattle.ssh_auth.specs.Plan.{Finish}
use Rattle.ssh_rules.specs.Outcome.{Goes}
use Rattle.ssh_rules.specs.Reading.{Agreed, Unfit}
use Rattle.ssh_rules.specs.Rows.{row, owed}
use Rattle.ssh_serving.proofs.Reading.{unfit_confirmation, ended_confirmation, agreed_by, finish}
use Rattle.ssh_serving.proofs.Serving.{passed, unfit, goes_on, completes}
use Rattle.ssh_serving.proofs.server.Server.serve_open_confirmation.Goals as goal

pub returns-in_err-end-in-Ok-clause-does : goal.returns-in_err-end-in-Ok-clause-does
returns-in_err-end-in-Ok-clause-does g c = λ w moment r.
    let why = c.in_err-end-in-Ok.field-0.0 in (
      Unfit why,
      ended_confirmation c.args.fields.now _ _ c.in-Ok.message why c.new-reader.ensures.left
          c.in-Ok.ensures.ok
          (λ none. absurd (let e = c.in_err-end-in-Ok.ensures.ok.1 none in cc))
          c.in_err-end-in-Ok.ensures.trailing,
      passed (row w moment (Unfit why)) finish finish _ _ c.args.self.now c.args.self.now _ _
          c.from_residual.ensures.1 (unfit why finish _ c.args.self.now),
    )

pub returns-in_err-peer_confirms-in-Ok-clause-does :
    goal.returns-in_err-peer_confirms-in-Ok-clause-does
returns-in_err-peer_confirms-in-Ok-clause-does g c = λ w moment r.
    let said = Agreed c.in-Ok.message in (
      said,
      agreed_by c.args.fields.now _ _ c.in-Ok.message c.new-reader.ensures.left c.in-Ok.ensures.ok
          (c.in_ok-end-in-Ok.ensures.ok.0 refl),
      passed (row w moment said) (λ (_ : Unit {0}) world. Finish (Goes world)) finish _ _
          c.peer_confirms.new.self c.peer_confirms.new.self _ _
          c.from_residual-in_err-peer_confirms-in-Ok.ensures.1
          (completes (owed w said) w _ _ c.peer_confirms.new.self
          (Err c.in_err-peer_confirms-in-Ok.field-0.0)
          (c.in_err-peer_confirms-in-Ok.ensures.does w r)),
    )

pub returns-in_ok-peer_confirms-in-Ok-clause-does :
    goal.returns-in_ok-peer_confirms-in-Ok-clause-does
returns-in_ok-peer_confirms-in-Ok-clause-does g c = λ w moment r.
    let said = Agreed c.in-Ok.message in (
      said,
      agreed_by c.args.fields.now _ _ c.in-Ok.message c.new-reader.ensures.left c.in-Ok.ensures.ok
          (c.in_ok-end-in-Ok.ensures.ok.0 refl),
      goes_on (owed w said) w _ _ c.peer_confirms.new.self
          (c.in_ok-peer_confirms-in-Ok.ensures.does w r),
    )

pub returns-in-Err-clause-does : goal.returns-in-Err-clause-does
returns-in-Err-clause-does g c = λ w moment r.
    rw c.from.ensures (unfit_confirmation w moment c.args.fields.now _ c.in-Err.e _
    c.args.self.now c.new-reader.ensures.left c.in-Err.ensures.misfit)
