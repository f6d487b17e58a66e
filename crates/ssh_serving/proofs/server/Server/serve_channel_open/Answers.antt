use Rattle.std.proofs.Common.{Err, subst, ◌≡◌, ◌⊎◌}
use Rattle.ssh_wire.specs.declared.error.LayoutError.TheVariants.{Wire}
use Rattle.ssh_wire.specs.declared.error.WireError.TheVariants.{NoMemory}
use Rattle.ssh_wire.specs.Open.{MisfitsOpen}
use Rattle.ssh_auth.specs.Plan.{Finish}
use Rattle.ssh_rules.specs.Outcome.{Goes}
use Rattle.ssh_rules.specs.Reading.{Open}
use Rattle.ssh_rules.specs.Rows.{row, owed}
use Rattle.ssh_serving.proofs.Rows.{unread_open, opened_by, finish}
use Rattle.ssh_serving.proofs.Serving.{passed, goes_on, completes}
use Rattle.ssh_serving.proofs.server.Server.serve_channel_open.Goals as goal

pub returns-in_err-open-in-Ok-clause-does : goal.returns-in_err-open-in-Ok-clause-does
returns-in_err-open-in-Ok-clause-does g c = λ w moment r.
    let said = Open c.in-Ok.message in (
      said,
      opened_by c.in-Ok.message _ _ _ c.new-reader.ensures.left c.in-Ok.ensures.ok,
      passed (row w moment said) (λ (_ : Unit {0}) world. Finish (Goes world)) finish _ _
          c.open.new.self c.open.new.self _ _ c.from_residual.ensures.1
          (completes (owed w said) w _ _ c.open.new.self (Err c.in_err-open-in-Ok.field-0.0)
          (c.in_err-open-in-Ok.ensures.does w r)),
    )

pub returns-in_ok-open-in-Ok-clause-does : goal.returns-in_ok-open-in-Ok-clause-does
returns-in_ok-open-in-Ok-clause-does g c = λ w moment r.
    let said = Open c.in-Ok.message in (
      said,
      opened_by c.in-Ok.message _ _ _ c.new-reader.ensures.left c.in-Ok.ensures.ok,
      goes_on (owed w said) w _ _ c.open.new.self (c.in_ok-open-in-Ok.ensures.does w r),
    )

pub returns-in-Err-clause-does : goal.returns-in-Err-clause-does
returns-in-Err-clause-does g c = λ w moment r.
    let why = c.in-Err.e in
    rw c.from.ensures (unread_open w moment c.args.fields.now why _ c.args.self.now
    (subst (λ l. (why ≡ Wire NoMemory) ⊎ MisfitsOpen l why) c.new-reader.ensures.left
    c.in-Err.ensures.misfit))
