-- A packet size that is not there, and one that is 0, after three numbers.
use Rattle.std.proofs.Common.{subst}
use Rattle.ssh_wire.specs.Field.{SpellsAll}
use Rattle.ssh_wire.specs.Open.{confirmation_fields, MisfitsConfirmation}
use Rattle.ssh_wire.specs.declared.error.LayoutError.TheVariants.{Wire}
use Rattle.ssh_wire.proofs.Opens.{four_numbers, no_fourth_number}
use Rattle.ssh_wire.proofs.Outcomes.{passed_on}
use Rattle.ssh_wire.proofs.open.ChannelOpenConfirmation.parse.Goals as goal

pub returns-in_err-maximum_packet_size-clause-misfit :
    goal.returns-in_err-maximum_packet_size-clause-misfit
returns-in_err-maximum_packet_size-clause-misfit c =
    let why = c.in_err-maximum_packet_size.field-0.0 in
    passed_on c.from_residual-in_err-maximum_packet_size.result (Wire why)
    (MisfitsConfirmation c.args.r.now.left)
    c.from_residual-in_err-maximum_packet_size.ensures.1
    (no_fourth_number c.args.r.now c.ahead-ahead.result c.u32.new.self c.u32-2.new.self
    c.u32-3.new.self
    c.in_ok-recipient_channel.recipient_channel c.in_ok-sender_channel.sender_channel
    c.in_ok-initial_window_size.initial_window_size why
    c.ahead-ahead.ensures c.in_ok-recipient_channel.ensures.ok c.in_ok-sender_channel.ensures.ok
    c.in_ok-initial_window_size.ensures.ok
    c.in_err-maximum_packet_size.ensures.misfit)

pub returns-then-maximum_packet_size-eq0-clause-misfit :
    goal.returns-then-maximum_packet_size-eq0-clause-misfit
returns-then-maximum_packet_size-eq0-clause-misfit c =
    let recipient = c.in_ok-recipient_channel.recipient_channel in
    let sender = c.in_ok-sender_channel.sender_channel in
    let window = c.in_ok-initial_window_size.initial_window_size in
    let start = c.args.r.now.left in
    let after = c.u32-4.new.self.left in (
      recipient,
      sender,
      window,
      after,
      subst (λ n. SpellsAll confirmation_fields (recipient, (sender, (window, (n, tt)))) start
          after) c.if-maximum_packet_size-eq0.true
          (four_numbers c.args.r.now c.ahead-ahead.result c.u32.new.self c.u32-2.new.self
          c.u32-3.new.self c.u32-4.new.self
          recipient sender window c.in_ok-maximum_packet_size.maximum_packet_size
          c.ahead-ahead.ensures c.in_ok-recipient_channel.ensures.ok
          c.in_ok-sender_channel.ensures.ok c.in_ok-initial_window_size.ensures.ok
          c.in_ok-maximum_packet_size.ensures.ok),
    )
