use Rattle.std.proofs.Common.{◌≡◌, rules, refl, sym, ◌∙◌, ap, subst, Ok, Err}
use Rattle.std.proofs.lemmas.Result.{err_from_is_err_and}
use Rattle.ssh_link.specs.Faults.{RoseIfKept}
use Rattle.ssh_link.proofs.Counts.{counted_both, rose_later, still_counted}
use Rattle.ssh_rules.specs.Account.{RanTo}
use Rattle.ssh_rules.specs.Run.{Owes}
use Rattle.ssh_rules.specs.World.{Settings}
use Rattle.ssh_session.proofs.Runs.{starts, goes_on, ends, stopped, link_left, limit_reached}
use Rattle.ssh_session.proofs.Runs.{still_suits, repeating}
use Rattle.ssh_session.proofs.Stepping.{noted}
use Rattle.ssh_session.proofs.run.run_inputs.Goals as goal

pub loop-init : goal.loop-init
loop-init g c = (
  λ settings r repeats. starts g.row.H-Error.Denot g.row.K-Error.Denot
      (g.V.Verifier.accepts c.args.verifier.now) settings _ c.args.session.now r,
  refl,
  λ settings r repeats. still_counted (g.L.Link.starved c.args.sides.now.link.now),
  refl,
  refl,
  refl,
)

pub take-requires : goal.take-requires
take-requires g c =
    let repeats = g.K.Kex.repeats c.args.sides.now.kex.now in
    let settings : Settings = record c.requires.begins.0 { repeatable = repeats } in
    let r = repeating c.args.session.now c.requires.begins.0 repeats c.requires.begins.1 in
    record {
      suits = still_suits g.H.Handler.suits
          (g.V.Verifier.accepts c.args.verifier.now) settings _ _ c.loop.counter
          c.loop.session (c.loop.invariant.0 settings r refl) c.requires.begins.2;
    }

pub returns-in_err-input-clause-ran : goal.returns-in_err-input-clause-ran
returns-in_err-input-clause-ran g c = λ settings r repeats.
    let p = err_from_is_err_and c.from_residual.result c.from_residual.ensures.1 in
    subst (RanTo (g.V.Verifier.accepts c.args.verifier.now) settings _ _ _ c.args.max_inputs)
    (sym (p.1 ∙ ap Err p.2))
    (link_left (g.V.Verifier.accepts c.args.verifier.now) settings _ _ _ _ c.loop.counter
    c.args.max_inputs c.loop.session
    c.in_err-input.field-0.0 (c.loop.invariant.0 settings r repeats) c.in_err-input.ensures.err refl refl
    c.next.ensures.later
    (λ i. c.in_err-input.ensures.cause (ap Err i)) c.loop-test.true)

pub returns-in-Ok-Ended-clause-ran : goal.returns-in-Ok-Ended-clause-ran
returns-in-Ok-Ended-clause-ran g c = λ settings r repeats.
    ends (g.V.Verifier.accepts c.args.verifier.now) settings _ _ _ _
    (RoseIfKept (g.L.Link.starved c.next.new.self) (g.L.Link.starved c.take.new.outside.link.now)) _
    c.loop.counter
    c.args.max_inputs c.loop.session (record c.loop.session { server = c.take.new.server })
    c.commands_wanted.result c.replies_wanted.result c.in_ok-input.input (c.loop.invariant.0 settings r repeats)
    (record {
      took = c.in_ok-input.ensures.took;
      uncalled = refl;
      unstepped = refl;
      asked = c.in_ok-input.ensures.asked;
      for_commands = λ w r. c.commands_wanted.ensures.world w r.server;
      for_replies = λ w r. c.replies_wanted.ensures.world w r.server;
      later = c.next.ensures.later;
    })
    (λ w k set. rw c.in-Ok-Ended.field-0-is at (noted
    (Owes (g.V.Verifier.accepts c.args.verifier.now) w c.in_ok-input.input) _ _
    c.take.new.server (record c.loop.session { server = c.take.new.server }) (Ok c.in-Ok-Ended.field-0)
    (λ _ v q. record { server = q; live = k.live }) (c.in-Ok-Ended.ensures.does w k.server
    (ap (λ s. s.repeatable) set ∙ repeats ∙ sym c.loop.invariant.1)))) c.loop-test.true

pub returns-in-Err-clause-ran : goal.returns-in-Err-clause-ran
returns-in-Err-clause-ran g c = λ settings r repeats.
    stopped (g.V.Verifier.accepts c.args.verifier.now) settings _ _ _ _ _ _ c.loop.counter
    c.args.max_inputs c.loop.session (record c.loop.session { server = c.take.new.server })
    c.commands_wanted.result c.replies_wanted.result c.in_ok-input.input c.in-Err.e (c.loop.invariant.0 settings r repeats)
    (record {
      took = c.in_ok-input.ensures.took;
      uncalled = refl;
      unstepped = refl;
      asked = c.in_ok-input.ensures.asked;
      for_commands = λ w r. c.commands_wanted.ensures.world w r.server;
      for_replies = λ w r. c.replies_wanted.ensures.world w r.server;
      later = c.next.ensures.later;
    })
    (λ w k set. noted (Owes (g.V.Verifier.accepts c.args.verifier.now) w c.in_ok-input.input) _ _
    c.take.new.server (record c.loop.session { server = c.take.new.server }) (Err c.in-Err.e)
    (λ _ v q. record { server = q; live = k.live }) (c.in-Err.ensures.does w k.server
    (ap (λ s. s.repeatable) set ∙ repeats ∙ sym c.loop.invariant.1))) c.loop-test.true
    (λ rose. rose_later (g.L.Link.starved c.args.sides.now.link.now)
    (g.L.Link.starved c.next.new.self) (g.L.Link.starved c.take.new.outside.link.now)
    (counted_both (g.L.Link.starved c.args.sides.now.link.now)
    (g.L.Link.starved c.loop.sides.link.now) (g.L.Link.starved c.next.new.self) (c.loop.invariant.2 settings r repeats)
    c.next.ensures.counted) rose)

pub loop-preserved : goal.loop-preserved
loop-preserved g c = (
  λ settings r repeats. goes_on (g.V.Verifier.accepts c.args.verifier.now) settings _ _ _ _
      (RoseIfKept (g.L.Link.starved c.next.new.self) (g.L.Link.starved c.take.new.outside.link.now))
      c.loop.counter c.loop.session (record c.loop.session { server = c.take.new.server }) c.commands_wanted.result
      c.replies_wanted.result c.in_ok-input.input (c.loop.invariant.0 settings r repeats)
      (record {
        took = c.in_ok-input.ensures.took;
        uncalled = refl;
        unstepped = refl;
        asked = c.in_ok-input.ensures.asked;
        for_commands = λ w r. c.commands_wanted.ensures.world w r.server;
        for_replies = λ w r. c.replies_wanted.ensures.world w r.server;
        later = c.next.ensures.later;
      })
      (λ w k set. rw c.in-Ok-Continue.field-0-is at (noted
      (Owes (g.V.Verifier.accepts c.args.verifier.now) w c.in_ok-input.input) _ _
      c.take.new.server (record c.loop.session { server = c.take.new.server }) (Ok c.in-Ok-Continue.field-0)
      (λ _ v q. record { server = q; live = k.live }) (c.in-Ok-Continue.ensures.does w k.server
      (ap (λ s. s.repeatable) set ∙ repeats ∙ sym c.loop.invariant.1)))),
  c.in-Ok-Continue.ensures.stays.1.3 ∙ c.loop.invariant.1,
  λ settings r repeats.
      let going = c.loop.invariant.0 settings r repeats in
      counted_both (g.L.Link.starved c.args.sides.now.link.now) (g.L.Link.starved c.next.new.self)
      (g.L.Link.starved c.take.new.outside.link.now)
      (counted_both (g.L.Link.starved c.args.sides.now.link.now)
      (g.L.Link.starved c.loop.sides.link.now) (g.L.Link.starved c.next.new.self) (c.loop.invariant.2 settings r repeats)
      c.next.ensures.counted) (c.in-Ok-Continue.ensures.does going.world going.refines.server
      (ap (λ s. s.repeatable) going.set ∙ repeats ∙ sym c.loop.invariant.1)).2.0.1.counted,
  c.in-Ok-Continue.ensures.stays.1.0 ∙ c.loop.invariant.3,
  c.in-Ok-Continue.ensures.stays.1.1 ∙ c.loop.invariant.4,
  c.in-Ok-Continue.ensures.stays.1.2 ∙ c.loop.invariant.5,
)

pub returns-clause-ran : goal.returns-clause-ran
returns-clause-ran g c = λ settings r repeats.
    let all : c.loop.counter ≡ c.args.max_inputs = search rules in
    limit_reached (g.V.Verifier.accepts c.args.verifier.now) settings _ _ _ c.loop.counter
    c.args.max_inputs c.loop.session
    (c.loop.invariant.0 settings r repeats) all
