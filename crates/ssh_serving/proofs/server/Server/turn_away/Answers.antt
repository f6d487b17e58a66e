use Rattle.std.proofs.Common.{◌∙◌, refl, sym, ap, Err}
use Rattle.ssh_channels.specs.Calls.{Draw, Drop_pending, Stage}
use Rattle.ssh_rules.specs.Rows.{turns_first, turns_away}
use Rattle.ssh_rules.specs.Types.{type_refusal}
use Rattle.ssh_serving.proofs.Opened.{went_away}
use Rattle.ssh_serving.proofs.Refining.{called, next_same}
use Rattle.ssh_serving.proofs.Rows.{undrawn, not_inconsistent}
use Rattle.ssh_serving.proofs.server.Server.turn_away.Goals as goal

pub returns-in_err-number-clause-does : goal.returns-in_err-number-clause-does
returns-in_err-number-clause-does g c = λ w r later.
    let why = c.in_err-number.field-0.0 in
    let payload = type_refusal c.args.peer c.args.reason c.args.description.now in
    undrawn w (λ o. turns_first o payload) why later _ _ _ c.from_residual.ensures.1 refl refl
    (not_inconsistent why c.in_err-number.ensures.errors)
    (λ h. sym (next_same c.args.self.now w r) ∙ c.in_err-number.ensures.full.0 (ap Err h))

pub returns-clause-does : goal.returns-clause-does
returns-clause-does g c = λ w r later.
    let old = c.args.self.now in
    let n = c.in_ok-number.number.0 in
    let payload = type_refusal c.args.peer c.args.reason c.args.description.now in
    let next = sym (next_same old w r) ∙ c.in_ok-number.ensures.number in
    let frame = c.in_ok-frame.frame in
    let fits = old.session_id_fits in
    let drew = called Draw old c.new_channel_id.new.self fits w tt c.in_ok-number.ensures.table r in
    let dropped = called (Drop_pending n) _ c.drop_pending.new.self fits _ tt
    c.drop_pending.ensures.table drew in
    rw next (
      turns_away n payload w,
      refl,
      went_away _ w n frame payload (called (Stage frame) _ c.stage.new.self _ _ tt
          c.in_ok-stage.ensures.table dropped) next c.in_ok-frame.ensures.ok,
    )
