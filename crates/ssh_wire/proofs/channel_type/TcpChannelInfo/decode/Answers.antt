-- The last port is not there, after the three fields before it.
use Rattle.std.proofs.Common.{◌≡◌, ◌⊎◌, inr}
use Rattle.ssh_wire.specs.Field.{MisfitsAll}
use Rattle.ssh_wire.specs.Open.{tcpip_fields}
use Rattle.ssh_wire.specs.declared.error.WireError.TheVariants.{NoMemory}
use Rattle.ssh_wire.proofs.Opens.{no_originator_port}
use Rattle.ssh_wire.proofs.Outcomes.{passed_on}
use Rattle.ssh_wire.proofs.channel_type.TcpChannelInfo.decode.Goals as goal

pub returns-in_err-originator_port-clause-misfit :
    goal.returns-in_err-originator_port-clause-misfit
returns-in_err-originator_port-clause-misfit c =
    let why = c.in_err-originator_port.field-0.0 in
    passed_on c.from_residual-in_err-originator_port.result why
    (λ e. (e ≡ NoMemory) ⊎ MisfitsAll tcpip_fields c.args.r.now.left e)
    c.from_residual-in_err-originator_port.ensures.1
    (inr (no_originator_port c.args.r.now c.ahead-ahead.result c.text.new.self c.u32.new.self
    c.text-2.new.self
    c.in_ok-host_to_connect.host_to_connect.now c.in_ok-originator_address.originator_address.now
    c.in_ok-port_to_connect.port_to_connect why
    c.ahead-ahead.ensures c.in_ok-host_to_connect.ensures.ok c.in_ok-port_to_connect.ensures.ok
    c.in_ok-originator_address.ensures.ok
    c.in_err-originator_port.ensures.misfit))
