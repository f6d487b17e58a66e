-- Two fields and their end are the whole open.
use Rattle.std.proofs.Common.{refl}
use Rattle.ssh_wire.proofs.Opens.{whole_x11}
use Rattle.ssh_wire.proofs.channel_type.whole_x11.Goals as goal

pub returns-clause-ok : goal.returns-clause-ok
returns-clause-ok c =
    whole_x11 c.args.r.now c.text.new.self c.u32.new.self c.in_ok-new.field-0
    c.in_ok-originator_address.originator_address.now c.in_ok-originator_port.originator_port
    c.in_ok-new.ensures.ok c.in_ok-originator_address.ensures.ok c.in_ok-originator_port.ensures.ok
    (c.in_ok-end.ensures.ok.0 refl)
