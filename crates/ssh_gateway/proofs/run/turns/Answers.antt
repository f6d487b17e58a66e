use Rattle.std.proofs.Common.{◌≡◌, ◌<◌, refl, sym, ◌∙◌, ap, Err, arith}
use Rattle.ssh_gateway.proofs.Going.{starts, goes_on, ended, broken, limited}
use Rattle.ssh_gateway.proofs.run.turns.Goals as goal

pub loop-init : goal.loop-init
loop-init g c =
    let id : c.args.board.now.last_id ≡ 0 = ap (λ b. b.last_id) c.requires.board in
    let ticket : c.args.board.now.last_ticket ≡ 0 = ap (λ b. b.last_ticket) c.requires.board in
    record {
      told = c.requires.told;
      repeats = refl;
      id = omega (arith, id);
      ticket = omega (arith, ticket);
      going = λ settings calls r repeats kept tells.
          starts (g.V.Verifier.accepts c.args.verifier.now) (g.P.Policy.permits c.args.policy.now)
          settings c.args.board.now c.args.keeper.now.auth.ghost_name calls _ _ _
          c.args.session.now c.requires.board r c.requires.told tells kept;
    }

pub loop-preserved : goal.loop-preserved
loop-preserved g c =
    let counts = c.in-Ok-Continue.ensures.counts in
    let id = counts.0 in
    let ticket = counts.1 in
    let first = c.loop.invariant.id in
    let second = c.loop.invariant.ticket in
    record {
      told = c.in-Ok-Continue.ensures.told;
      repeats = c.in-Ok-Continue.ensures.repeats ∙ c.loop.invariant.repeats;
      id = omega (arith, id, first);
      ticket = omega (arith, ticket, second);
      going = λ settings calls r repeats kept tells.
          let going = c.loop.invariant.going settings calls r repeats kept tells in
          goes_on (g.V.Verifier.accepts c.args.verifier.now) (g.P.Policy.permits c.args.policy.now)
          settings c.loop.counter c.loop.board c.turn.new.board _ _ _ calls _ _ _ _ _ _ _
          c.loop.session c.turn.new.session going
          (rw c.in-Ok-Continue.field-0-is at (c.in-Ok-Continue.ensures.turned going.world going.calls
          going.refines c.loop.invariant.told going.live
          (ap (λ s. s.repeatable) going.set ∙ (repeats ∙ sym c.loop.invariant.repeats)) going.kept
          going.told_is)) c.in-Ok-Continue.ensures.told;
    }

pub returns-in-Ok-Ended : goal.returns-in-Ok-Ended
returns-in-Ok-Ended g c = record {
  attended = λ settings calls r repeats kept tells.
      let going = c.loop.invariant.going settings calls r repeats kept tells in
      let few : c.loop.counter < c.args.max_turns = omega arith in
      ended (g.V.Verifier.accepts c.args.verifier.now) (g.P.Policy.permits c.args.policy.now)
      settings c.loop.counter c.args.max_turns c.loop.board c.turn.new.board _ _ _ calls _ _ _ _ _ _ _
      c.loop.session c.turn.new.session going few
      (rw c.in-Ok-Ended.field-0-is at (c.in-Ok-Ended.ensures.turned going.world going.calls
      going.refines c.loop.invariant.told going.live
      (ap (λ s. s.repeatable) going.set ∙ (repeats ∙ sym c.loop.invariant.repeats)) going.kept
      going.told_is));
}

pub returns-in-Err : goal.returns-in-Err
returns-in-Err g c = record {
  attended = λ settings calls r repeats kept tells.
      let going = c.loop.invariant.going settings calls r repeats kept tells in
      let few : c.loop.counter < c.args.max_turns = omega arith in
      broken (g.V.Verifier.accepts c.args.verifier.now) (g.P.Policy.permits c.args.policy.now)
      settings c.loop.counter c.args.max_turns c.loop.board _ _ _ calls _ _ _ _ _ _ c.loop.session
      c.in-Err.error going few (λ is. c.in-Err.ensures.unlimited (ap Err is))
      (c.in-Err.ensures.turned going.world going.calls going.refines c.loop.invariant.told going.live
      (ap (λ s. s.repeatable) going.set ∙ (repeats ∙ sym c.loop.invariant.repeats)) going.kept
      going.told_is);
}

pub returns : goal.returns
returns g c = record {
  attended = λ settings calls r repeats kept tells.
      let all : c.loop.counter ≡ c.args.max_turns = omega arith in
      limited (g.V.Verifier.accepts c.args.verifier.now) (g.P.Policy.permits c.args.policy.now)
      settings c.loop.counter c.args.max_turns c.loop.board _ _ calls _ _ _ _ c.loop.session
      (c.loop.invariant.going settings calls r repeats kept tells) all;
}
