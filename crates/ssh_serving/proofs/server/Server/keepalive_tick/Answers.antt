use Rattle.std.proofs.Common.{◌≡◌, ◌∙◌, true, false, refl, subst, sym, Some}
use Rattle.ssh_rules.specs.declared.outstanding.Outstanding.TheVariants.{Keepalive}
use Rattle.ssh_rules.specs.Effect.{said}
use Rattle.ssh_rules.specs.OwnMessages.{keepalive}
use Rattle.ssh_serving.specs.Serve.{Refines}
use Rattle.ssh_rules.specs.Ticks.{is_too_many, one_more, ticked}
use Rattle.ssh_serving.proofs.server.Server.keepalive_tick.Goals as goal

pub returns-then-is_timed_out-clause-does : goal.returns-then-is_timed_out-clause-does
returns-then-is_timed_out-clause-does g c = λ w r later.
    let told = c.is_timed_out.ensures (ticked w) (c.count_tick.ensures.world w r) in
    let many : is_too_many w.settings.config (one_more w.keepalives) ≡ true =
    sym told ∙ c.if-is_timed_out.true in
    rw many refl

pub returns-clause-does : goal.returns-clause-does
returns-clause-does g c = λ w r later.
    let v = ticked w in
    let q = c.count_tick.ensures.world w r in
    let told = c.is_timed_out.ensures v q in
    let few : is_too_many w.settings.config (one_more w.keepalives) ≡ false =
    sym told ∙ c.if-is_timed_out.false in
    rw few (
      said keepalive v,
      refl,
      subst (λ p. Refines c.say.new.self
          (said (record { payload = p; awaited = Some Keepalive; ends = false }) v))
          c.in_ok-payload.ensures.ok (c.in_ok-say.ensures.world v q),
    )
