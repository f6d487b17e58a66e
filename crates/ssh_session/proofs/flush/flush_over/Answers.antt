use Rattle.std.proofs.Common.{Err, map, inr, sym, ◌∙◌}
use Rattle.ssh_link.specs.declared.link.TraceEntry.TheVariants.{Noticed}
use Rattle.ssh_auth.specs.Plan.{Finish}
use Rattle.ssh_rules.specs.Acts.{tell_all}
use Rattle.ssh_rules.specs.Cut.{IsCut}
use Rattle.ssh_session.specs.Between.{flushed}
use Rattle.ssh_serving.specs.Handing.{IsCutBehind, IsCutByLink}
use Rattle.ssh_rules.specs.Outcome.{Goes}
use Rattle.ssh_rules.specs.Run.{hand_on, handed_on}
use Rattle.ssh_serving.proofs.Finishing.{behind_notices, serves_notices}
use Rattle.ssh_serving.proofs.Handing.{behind_cut, passed_to, then_behind, to_other}
use Rattle.ssh_session.proofs.flush.flush_over.Goals as goal

pub returns-in_err-tell_each-clause-does : goal.returns-in_err-tell_each-clause-does
returns-in_err-tell_each-clause-does g c = λ w r repeats.
    let old = c.args.server.now in
    let rest = hand_on w flushed in
    passed_to {U = Unit {0}} IsCut (tell_all (map Noticed c.args.notices.now.items) rest)
    (λ _ _. rest) (λ (_ : Unit {0}) world. Finish (Goes world)) _ _ old old _ _
    c.from_residual.ensures.1
    (serves_notices c.args.notices.now.items rest _ _ w old _ r c.in_err-tell_each.ensures.does)

pub returns-in_err-hand_on-clause-does : goal.returns-in_err-hand_on-clause-does
returns-in_err-hand_on-clause-does g c = λ w r repeats.
    let rest = hand_on w flushed in
    behind_notices c.args.notices.now.items rest (λ (_ : Unit {0}) world. Finish (Goes world)) _ _ _
    w c.args.server.now c.hand_on.new.server _ r c.in_ok-tell_each.ensures.does
    (passed_to {U = Unit {0}} IsCut rest (λ _ _. flushed (handed_on w))
    (λ (_ : Unit {0}) world. Finish (Goes world)) _ _ c.hand_on.new.server c.hand_on.new.server _ _
    c.from_residual-in_err-hand_on.ensures.1
    (to_other IsCutByLink IsCut rest (λ (_ : Unit {0}) _. flushed (handed_on w)) _ _
    c.hand_on.new.server (Err _) (c.in_err-hand_on.ensures.does w r flushed)
    (λ cause events link. behind_cut cause _ rest events (inr link))))

pub returns-clause-does : goal.returns-clause-does
returns-clause-does g c = λ w r repeats.
    let rest = hand_on w flushed in
    let v = handed_on w in
    behind_notices c.args.notices.now.items rest (λ (_ : Unit {0}) world. Finish (Goes world)) _ _ _
    w c.args.server.now c.begin_unless_ended.new.server c.begin_unless_ended.result r
    c.in_ok-tell_each.ensures.does
    (to_other IsCutBehind IsCut rest (λ (_ : Unit {0}) world. Finish (Goes world)) _ _
    c.begin_unless_ended.new.server c.begin_unless_ended.result
    (then_behind tt rest (λ (_ : Unit {0}) _. flushed v)
    (λ (_ : Unit {0}) world. Finish (Goes world)) _ _ _ c.hand_on.new.server
    c.begin_unless_ended.new.server c.begin_unless_ended.result
    (c.in_ok-hand_on.ensures.does w r flushed).0
    (λ _ _. c.begin_unless_ended.ensures.does v (c.in_ok-hand_on.ensures.world w r)
    (repeats ∙ (sym c.in_ok-tell_each.ensures.same.3 ∙ sym c.in_ok-hand_on.ensures.stays.1.3))))
    (λ cause events cut. behind_cut cause _ rest events cut))
