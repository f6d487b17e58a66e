-- The fields of each known type, by its name; any other name is unknown.
use Rattle.std.proofs.Common.{ap, refl}
use Rattle.ssh_wire.specs.Open.{direct_tcpip, forwarded_tcpip, direct_streamlocal}
use Rattle.ssh_wire.specs.Open.{forwarded_streamlocal, type_named}
use Rattle.ssh_wire.specs.declared.channel_type.ChannelType.TheVariants.{DirectTcpip}
use Rattle.ssh_wire.specs.declared.channel_type.ChannelType.TheVariants.{ForwardedTcpIp}
use Rattle.ssh_wire.specs.declared.channel_type.ChannelType.TheVariants.{DirectStreamLocal}
use Rattle.ssh_wire.specs.declared.channel_type.ChannelType.TheVariants.{ForwardedStreamLocal}
use Rattle.ssh_wire.proofs.Opens.{of_known, of_unknown, no_known_name}
use Rattle.ssh_wire.proofs.channel_type.ChannelType.decode.Goals as goal

pub returns-in_ok-whole_tcpip-in-text-clause-ok : goal.returns-in_ok-whole_tcpip-in-text-clause-ok
returns-in_ok-whole_tcpip-in-text-clause-ok c =
    let read = c.in_ok-whole_tcpip-in-text in
    let info = read.field-0 in
    of_known c.args.name.now direct_tcpip (DirectTcpip info) (
      info.host_to_connect,
      (
        info.port_to_connect,
        (
          info.originator_address,
          (info.originator_port, tt),
        ),
      ),
    )
    c.args.r.now.left c.whole_tcpip.new.r.left (ap type_named c.in-text.is) read.ensures.ok refl
    read.ensures.moves.0

pub returns-in_ok-whole_tcpip-in-text-2-clause-ok :
    goal.returns-in_ok-whole_tcpip-in-text-2-clause-ok
returns-in_ok-whole_tcpip-in-text-2-clause-ok c =
    let read = c.in_ok-whole_tcpip-in-text-2 in
    let info = read.field-0 in
    of_known c.args.name.now forwarded_tcpip (ForwardedTcpIp info) (
      info.host_to_connect,
      (
        info.port_to_connect,
        (
          info.originator_address,
          (info.originator_port, tt),
        ),
      ),
    )
    c.args.r.now.left c.whole_tcpip-in-text-2.new.r.left (ap type_named c.in-text-2.is)
    read.ensures.ok refl read.ensures.moves.0

pub returns-in_ok-whole_direct_streamlocal-in-text-3-clause-ok :
    goal.returns-in_ok-whole_direct_streamlocal-in-text-3-clause-ok
returns-in_ok-whole_direct_streamlocal-in-text-3-clause-ok c =
    let read = c.in_ok-whole_direct_streamlocal-in-text-3 in
    let spelled = read.ensures.ok in
    of_known c.args.name.now direct_streamlocal (DirectStreamLocal read.field-0)
    (read.field-0.socket_path, (spelled.0, (spelled.1, tt)))
    c.args.r.now.left c.whole_direct_streamlocal.new.r.left (ap type_named c.in-text-3.is) spelled.2
    refl read.ensures.moves.0

pub returns-in_ok-whole_forwarded_streamlocal-in-text-4-clause-ok :
    goal.returns-in_ok-whole_forwarded_streamlocal-in-text-4-clause-ok
returns-in_ok-whole_forwarded_streamlocal-in-text-4-clause-ok c =
    let read = c.in_ok-whole_forwarded_streamlocal-in-text-4 in
    let spelled = read.ensures.ok in
    of_known c.args.name.now forwarded_streamlocal (ForwardedStreamLocal read.field-0)
    (read.field-0.socket_path, (spelled.0, tt))
    c.args.r.now.left c.whole_forwarded_streamlocal.new.r.left (ap type_named c.in-text-4.is)
    spelled.1 refl read.ensures.moves.0

pub returns-in_ok-new-in_default-clause-ok : goal.returns-in_ok-new-in_default-clause-ok
returns-in_ok-new-in_default-clause-ok c =
    of_unknown c.args.name.now c.in_ok-new-in_default.field-0 c.args.r.now.left
    (no_known_name c.args.name.now c.in_default.not-session c.in_default.not-x11
    c.in_default.not-text c.in_default.not-text-2
    c.in_default.not-text-3 c.in_default.not-text-4 c.in_default.not-text-5)
    c.in_ok-new-in_default.ensures.ok
