use Rattle.std.proofs.Common.{refl, inl, Ok, Err}
use Rattle.ssh_link.specs.declared.command.Command.TheVariants.{Answer}
use Rattle.ssh_auth.specs.Plan.{Finish}
use Rattle.ssh_rules.specs.declared.error.Flow.{Flow}
use Rattle.ssh_rules.specs.declared.error.Flow.TheVariants.{Continue, Ended}
use Rattle.ssh_rules.specs.Acts.{acts}
use Rattle.ssh_rules.specs.Outcome.{Goes, Ends}
use Rattle.ssh_rules.specs.Run.{command_row}
use Rattle.ssh_rules.specs.Cause.{comes}
use Rattle.ssh_rules.specs.Ticks.{keepalive_acts, inactivity_acts}
use Rattle.ssh_serving.proofs.Serving.{serves_nothing, completes}
use Rattle.ssh_rules.proofs.Begins.Rows.{command_never, tick_never}
use Rattle.ssh_rules.proofs.Plans.Telling.{acts_given, command_given}
use Rattle.ssh_serving.proofs.Handing.{plain_row}
use Rattle.ssh_serving.proofs.Stopping.{inactive_input}
use Rattle.ssh_serving.proofs.Serving.{goes_on, turned, passed}
use Rattle.ssh_session.proofs.run.serve.Goals as goal

pub returns-in-Payload-clause-does : goal.returns-in-Payload-clause-does
returns-in-Payload-clause-does g c = λ w r.
    let s = rw c.as_slice.ensures at (c.serve_payload-flow.ensures.does w r) in
    (s.0, rw c.in-Payload.is s.1, s.2)

pub returns-in-Command-clause-does : goal.returns-in-Command-clause-does
returns-in-Command-clause-does g c = λ w r. (
  command_row w c.in-Command.ticket c.in-Command.command,
  rw c.in-Command.is refl,
  plain_row (command_row w c.in-Command.ticket c.in-Command.command) _ _ c.serve_command.new.self _
      (command_never w c.in-Command.ticket c.in-Command.command)
      (command_given w c.in-Command.ticket c.in-Command.command) (c.serve_command.ensures.does w r),
)

pub returns-in-OpenReply-clause-does : goal.returns-in-OpenReply-clause-does
returns-in-OpenReply-clause-does g c = λ w r. (
  command_row w c.in-OpenReply.ticket (Answer c.in-OpenReply.answer),
  rw c.in-OpenReply.is refl,
  plain_row (command_row w c.in-OpenReply.ticket (Answer c.in-OpenReply.answer)) _ _
      c.serve_command-in-OpenReply.new.self _
      (command_never w c.in-OpenReply.ticket (Answer c.in-OpenReply.answer))
      (command_given w c.in-OpenReply.ticket (Answer c.in-OpenReply.answer))
      (c.serve_command-in-OpenReply.ensures.does w r),
)

pub returns-in-End-clause-does : goal.returns-in-End-clause-does
returns-in-End-clause-does g c = λ w r. (
  Finish (Ends w),
  rw c.in-End.is refl,
  (serves_nothing Ended (λ flow world. Finish (comes flow world)) _ w c.args.server.now r, tt),
)

pub returns-in_err-keepalive_tick-in-KeepaliveTick-clause-does :
    goal.returns-in_err-keepalive_tick-in-KeepaliveTick-clause-does
returns-in_err-keepalive_tick-in-KeepaliveTick-clause-does g c = λ w r.
    let plan = acts (keepalive_acts w) w in
    let heard = g.O.Transport.heard c.args.outside.now in
    let session = c.keepalive_tick.new.self in
    let e = c.in_err-keepalive_tick-in-KeepaliveTick.field-0.0 in (
      plan,
      rw c.in-KeepaliveTick.is refl,
      plain_row plan heard heard session _ (tick_never w) (acts_given (keepalive_acts w) w)
          (passed plan (λ (_ : Unit {0}) world. Finish (Goes world))
          (λ (flow : Flow) world. Finish (comes flow world)) heard heard session session e _
          c.from_residual.ensures.1
          (completes (keepalive_acts w) w heard heard session (Err e)
          (turned (keepalive_acts w) w heard session (Err e)
          (c.in_err-keepalive_tick-in-KeepaliveTick.ensures.does w r)))),
    )

pub returns-in_ok-keepalive_tick-in-KeepaliveTick-clause-does :
    goal.returns-in_ok-keepalive_tick-in-KeepaliveTick-clause-does
returns-in_ok-keepalive_tick-in-KeepaliveTick-clause-does g c = λ w r.
    let heard = g.O.Transport.heard c.args.outside.now in
    let session = c.keepalive_tick.new.self in (
      acts (keepalive_acts w) w,
      rw c.in-KeepaliveTick.is refl,
      (
        goes_on (keepalive_acts w) w heard heard session
            (turned (keepalive_acts w) w heard session (Ok tt)
            (c.in_ok-keepalive_tick-in-KeepaliveTick.ensures.does w r)),
        tt,
      ),
    )

pub returns-in-InactivityTick-clause-does : goal.returns-in-InactivityTick-clause-does
unfolding inactive_input
returns-in-InactivityTick-clause-does g c = λ w r. (
  acts inactivity_acts w,
  rw c.in-InactivityTick.is refl,
  (inactive_input (λ (flow : Flow) world. Finish (comes flow world)) _ c.args.server.now, inl refl),
)

pub returns-in-RekeyTick-clause-does : goal.returns-in-RekeyTick-clause-does
returns-in-RekeyTick-clause-does g c = λ w r. (
  Finish (Goes w),
  rw c.in-RekeyTick.is refl,
  (serves_nothing Continue (λ flow world. Finish (comes flow world)) _ w c.args.server.now r, tt),
)
