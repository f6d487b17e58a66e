use Rattle.std.proofs.Common.{◌≡◌, ◌<◌, ◌+◌, [], ◌∷◌, Err, true, refl, sym, ◌∙◌, ap, subst, not, drop, length, arith}
use Rattle.ssh_link.specs.declared.frame.InputKind.TheVariants.{OpenReply}
use Rattle.ssh_link.specs.Told.{Adds, ToldBy}
use Rattle.ssh_gateway.specs.declared.targets.TargetCall.TheVariants.{Connect}
use Rattle.ssh_gateway.specs.Choosing.{allows, connects, is_prohibited}
use Rattle.ssh_gateway.specs.Doing.{IsDecided, FailsChoosing}
use Rattle.std.specs.Prelude.{IfOk, IfErr}
use Rattle.ssh_gateway.proofs.Choices.{decided_so, decided_kind, fails_deciding, fails_settling}
use Rattle.ssh_gateway.proofs.Lists.{dropped}
use Rattle.ssh_gateway.proofs.switchboard.Switchboard.decide.Goals.{in-Ok-settle_open, in-Err-settle_open}
use Rattle.ssh_gateway.proofs.switchboard.Switchboard.decide.Goals as goal

pub returns-in-Err-clause-failed : goal.returns-in-Err-clause-failed
returns-in-Err-clause-failed g c = λ w r.
    let failed = c.in-Err.ensures.failed in
    let user = c.user.ensures.world w r in
    let all = c.self.inside.undecided.items in
    let asked = c.in-Some.asking.now in
    let long = c.self.inside.undecided.ok.0 in
    let some = c.in-Some.ensures.variant.0 refl in
    let few : 0 < length all = omega (arith, long, some) in
    let first : c.args.self.now.undecided ≡ asked ∷ drop 1 all =
    ap (λ b. b.undecided) (sym c.self.view_is)
    ∙ dropped all 0 asked few c.in-Some.ensures.lookup in
    fails_deciding c.in-Err.fault (g.P.Policy.permits c.args.policy.now) w c.args.self.now asked
    (drop 1 all) _ _ c.replies_wanted.result (c.replies_wanted.ensures.world w r)
    c.if-not-replies_wanted.false first
    (subst (λ u. allows (g.P.Policy.permits c.args.policy.now) u asked ≡ true) user failed.0)
    (subst (λ n. ToldBy true (g.T.Targets.told c.args.targets.now)
    (g.T.Targets.told c.judge.new.targets) (Connect (n + 1) asked.host asked.port (Err c.in-Err.fault) ∷ []))
    (ap (λ b. b.last_id) c.self.view_is) failed.1)

pub returns-clause-decided : goal.returns-clause-decided
returns-clause-decided g c = λ w r. elim c.match-settle_open.branch [
  | in-Ok-settle_open b ↦
      let user = c.user.ensures.world w r in
      let all = c.self.inside.undecided.items in
      let asked = c.in-Some.asking.now in
      let long = c.self.inside.undecided.ok.0 in
      let some = c.in-Some.ensures.variant.0 refl in
      let few : 0 < length all = omega (arith, long, some) in
      let first : c.args.self.now.undecided ≡ asked ∷ drop 1 all =
      ap (λ b. b.undecided) (sym c.self.view_is)
      ∙ dropped all 0 asked few c.in-Some.ensures.lookup in
      let permits = g.P.Policy.permits c.args.policy.now in
      subst (λ x. IfOk x (IsDecided permits w c.args.self.now c.settle_open.new.self
      (g.T.Targets.told c.args.targets.now) (g.T.Targets.told c.judge.new.targets)))
      (sym b.result-is)
      (decided_so permits w c.args.self.now c.settle_open.new.self asked (drop 1 all) c.in-Ok.verdict
      _ _ (OpenReply c.self-2.inside.last_ticket b.answer-answer.result) c.replies_wanted.result
      (c.replies_wanted.ensures.world w r) c.if-not-replies_wanted.false first
      (subst (λ u. is_prohibited c.in-Ok.verdict ≡ not (allows permits u asked)) user
      c.in-Ok.ensures.judged.0)
      (subst (λ n. Adds (g.T.Targets.told c.args.targets.now) (g.T.Targets.told c.judge.new.targets)
      (connects (n + 1) asked c.in-Ok.verdict)) (ap (λ b. b.last_id) c.self.view_is)
      c.in-Ok.ensures.judged.1) b.in-Ok-settle_open.ensures.settled
      (decided_kind asked.channel c.in-Ok.verdict c.args.self.now c.settle_open.new.self
      c.self-2.inside.last_ticket b.answer-answer.result _ b.in-Ok-settle_open.ensures.settled
      (ap (λ b. b.last_ticket) c.self-2.view_is) refl b.answer-answer.ensures))
  | in-Err-settle_open b ↦ subst (λ x. IfOk x (IsDecided (g.P.Policy.permits c.args.policy.now) w
      c.args.self.now c.settle_open.new.self
      (g.T.Targets.told c.args.targets.now) (g.T.Targets.told c.judge.new.targets)))
      (sym b.result-is) tt
]

pub returns-clause-failed : goal.returns-clause-failed
returns-clause-failed g c = λ w r.
    let permits = g.P.Policy.permits c.args.policy.now in
    let told = g.T.Targets.told c.args.targets.now in
    let told' = g.T.Targets.told c.judge.new.targets in
    elim c.match-settle_open.branch [
      | in-Ok-settle_open b ↦ subst (λ x. IfErr x (λ fault. FailsChoosing fault permits w
          c.args.self.now told told')) (sym b.result-is) tt
      | in-Err-settle_open b ↦
          let all = c.self.inside.undecided.items in
          let asked = c.in-Some.asking.now in
          let long = c.self.inside.undecided.ok.0 in
          let some = c.in-Some.ensures.variant.0 refl in
          let few : 0 < length all = omega (arith, long, some) in
          subst (λ x. IfErr x (λ fault. FailsChoosing fault permits w c.args.self.now told told'))
          (sym b.result-is)
          (fails_settling b.in-Err-settle_open.fault permits w c.args.self.now asked (drop 1 all)
          c.in-Ok.verdict told told' c.replies_wanted.result
          (λ is. b.in-Err-settle_open.ensures.memory (ap Err is))
          (c.replies_wanted.ensures.world w r) c.if-not-replies_wanted.false
          (ap (λ b. b.undecided) (sym c.self.view_is)
          ∙ dropped all 0 asked few c.in-Some.ensures.lookup)
          (subst (λ u. is_prohibited c.in-Ok.verdict ≡ not (allows permits u asked))
          (c.user.ensures.world w r) c.in-Ok.ensures.judged.0)
          (subst (λ n. Adds told told' (connects (n + 1) asked c.in-Ok.verdict))
          (ap (λ b. b.last_id) c.self.view_is) c.in-Ok.ensures.judged.1))
    ]
