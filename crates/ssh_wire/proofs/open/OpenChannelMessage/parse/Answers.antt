-- A packet size that is not there, one that is 0, and what follows it.
use Rattle.std.proofs.Common.{◌≡◌, ◌⊎◌, inl, inr, ap, subst}
use Rattle.ssh_wire.specs.Open.{Leads, MisfitsOpen}
use Rattle.ssh_wire.specs.declared.error.WireError.TheVariants.{NoMemory}
use Rattle.ssh_wire.specs.declared.error.LayoutError.TheVariants.{Wire}
use Rattle.ssh_wire.proofs.Opens.{leads, no_packet_size}
use Rattle.ssh_wire.proofs.Outcomes.{passed_on}
use Rattle.ssh_wire.proofs.open.OpenChannelMessage.parse.Goals as goal

pub returns-in_err-recipient_maximum_packet_size-clause-misfit :
    goal.returns-in_err-recipient_maximum_packet_size-clause-misfit
returns-in_err-recipient_maximum_packet_size-clause-misfit c =
    let why = c.in_err-recipient_maximum_packet_size.field-0.0 in
    passed_on c.from_residual-in_err-recipient_maximum_packet_size.result (Wire why)
    (λ e. (e ≡ Wire NoMemory) ⊎ MisfitsOpen c.args.r.now.left e)
    c.from_residual-in_err-recipient_maximum_packet_size.ensures.1
    (inr (inl (no_packet_size c.args.r.now c.ahead-ahead.result c.text.new.self c.u32.new.self
    c.u32-2.new.self
    c.in_ok-name.name.now c.in_ok-recipient_channel.recipient_channel
    c.in_ok-recipient_window_size.recipient_window_size why
    c.ahead-ahead.ensures c.in_ok-name.ensures.ok c.in_ok-recipient_channel.ensures.ok
    c.in_ok-recipient_window_size.ensures.ok
    c.in_err-recipient_maximum_packet_size.ensures.misfit)))

pub returns-then-recipient_maximum_packet_size-eq0-clause-misfit :
    goal.returns-then-recipient_maximum_packet_size-eq0-clause-misfit
returns-then-recipient_maximum_packet_size-eq0-clause-misfit c =
    let name = c.in_ok-name.name.now in
    let sender = c.in_ok-recipient_channel.recipient_channel in
    let window = c.in_ok-recipient_window_size.recipient_window_size in
    let start = c.args.r.now.left in
    let after = c.u32-3.new.self.left in
    inr (
      name,
      sender,
      window,
      after,
      subst (λ n. Leads name sender window n start after)
          c.if-recipient_maximum_packet_size-eq0.true
          (leads c.args.r.now c.ahead-ahead.result c.text.new.self c.u32.new.self c.u32-2.new.self
          c.u32-3.new.self
          name sender window c.in_ok-recipient_maximum_packet_size.recipient_maximum_packet_size
          c.ahead-ahead.ensures c.in_ok-name.ensures.ok c.in_ok-recipient_channel.ensures.ok
          c.in_ok-recipient_window_size.ensures.ok
          c.in_ok-recipient_maximum_packet_size.ensures.ok),
    )

pub returns-in_err-typ-clause-misfit : goal.returns-in_err-typ-clause-misfit
returns-in_err-typ-clause-misfit c =
    let why = c.in_err-typ.field-0.0 in
    let name = c.in_ok-name.name.now in
    let sender = c.in_ok-recipient_channel.recipient_channel in
    let window = c.in_ok-recipient_window_size.recipient_window_size in
    let size = c.in_ok-recipient_maximum_packet_size.recipient_maximum_packet_size in
    passed_on c.from_residual-in_err-typ.result (Wire why)
    (λ e. (e ≡ Wire NoMemory) ⊎ MisfitsOpen c.args.r.now.left e)
    c.from_residual-in_err-typ.ensures.1
    (elim c.in_err-typ.ensures.misfit [
      | inl memory ↦ inl (ap Wire memory)
      | inr misfit ↦ inr (inr (
        name,
        sender,
        window,
        size,
        c.u32-3.new.self.left,
        leads c.args.r.now c.ahead-ahead.result c.text.new.self c.u32.new.self c.u32-2.new.self
            c.u32-3.new.self name sender window size
            c.ahead-ahead.ensures c.in_ok-name.ensures.ok c.in_ok-recipient_channel.ensures.ok
            c.in_ok-recipient_window_size.ensures.ok
            c.in_ok-recipient_maximum_packet_size.ensures.ok,
        c.if-recipient_maximum_packet_size-eq0.false,
        misfit,
      ))
    ])
