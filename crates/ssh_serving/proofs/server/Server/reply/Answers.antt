use Rattle.std.proofs.Common.{◌∷◌, [], None, ap, refl}
use Rattle.ssh_link.specs.Frames.{Frame}
use Rattle.ssh_rules.specs.Acts.{acts, Turns}
use Rattle.ssh_rules.specs.Failure.{error_of_table}
use Rattle.ssh_rules.specs.Rows.{finishes}
use Rattle.ssh_rules.specs.World.{writes}
use Rattle.ssh_serving.proofs.Refining.{staged}
use Rattle.ssh_serving.proofs.Requests.{noted_as}
use Rattle.ssh_serving.proofs.Serving.{starved_quietly}
use Rattle.ssh_serving.proofs.server.Server.reply.Goals as goal

pub returns-in_err-stage-clause-does : goal.returns-in_err-stage-clause-does
returns-in_err-stage-clause-does g c = λ w r later.
    let frame : Frame = record {
      payload = c.args.payload;
      hold_until = c.args.hold_until;
      channel = None;
    } in
    starved_quietly (acts (Turns (λ v. writes (frame ∷ []) (finishes c.args.requested v)) ∷ later)
    w) (λ (_ : Unit {0}). acts later)
    _ _ _ c.from_residual.ensures.1 (ap error_of_table c.in_err-stage.ensures.memory)

pub returns-clause-does : goal.returns-clause-does
returns-clause-does g c = λ w r later.
    let frame : Frame = record {
      payload = c.args.payload;
      hold_until = c.args.hold_until;
      channel = None;
    } in (
      writes (frame ∷ []) (finishes c.args.requested w),
      refl,
      noted_as c.args.requested _ _ (writes (frame ∷ []) w) (staged c.new.result frame
          c.args.self.now c.stage.new.self c.args.self.now.session_id_fits w c.new.ensures
          c.in_ok-stage.ensures.table r),
    )
