use Rattle.ssh_wire.proofs.Outcomes.{passed_on}
use Rattle.ssh_ends.specs.Story.{RunsOut}
use Rattle.ssh_ends.proofs.Stories.{plays_on, fails_on, arrives_at}
use Rattle.ssh_ends.proofs.run.run_ends.Goals as goal

pub loop-event-preserved : goal.loop-event-preserved
loop-event-preserved c =
    plays_on c.args.window c.args.packet c.args.events c.loop-event.rest c.pop.new.self
    c.in-Some.event c.loop-event.ends c.play.new.ends c.loop-event.deliveries c.play.new.self
    c.in-Some.ensures c.loop-event.invariant c.in_ok-play.ensures.plays

pub returns-in_err-play-clause-memory : goal.returns-in_err-play-clause-memory
returns-in_err-play-clause-memory c =
    let why = c.in_err-play.field-0.0 in
    passed_on c.from_residual.result why (RunsOut c.args.window c.args.packet c.args.events)
    c.from_residual.ensures.1
    (fails_on c.args.window c.args.packet c.args.events c.loop-event.rest c.pop.new.self
    c.in-Some.event c.loop-event.ends c.loop-event.deliveries why c.in-Some.ensures
    c.loop-event.invariant c.in_err-play.ensures.memory)

pub returns-clause-ran : goal.returns-clause-ran
returns-clause-ran c =
    arrives_at c.args.window c.args.packet c.args.events c.loop-event.rest c.loop-event.ends
    c.loop-event.deliveries c.in_default.ensures c.loop-event.invariant
