-- The first field that does not fit, or bytes after the last.
use Rattle.std.proofs.Common.{◌≡◌, ◌⊎◌, inl, inr}
use Rattle.ssh_wire.specs.Field.{MisfitsWhole}
use Rattle.ssh_wire.specs.Open.{tcpip_fields}
use Rattle.ssh_wire.specs.declared.error.WireError.TheVariants.{NoMemory}
use Rattle.ssh_wire.proofs.Fields.{misfits_whole, trailing}
use Rattle.ssh_wire.proofs.Outcomes.{passed_on, not_so}
use Rattle.ssh_wire.proofs.channel_type.whole_tcpip.Goals as goal

pub returns-in_err-info-clause-misfit : goal.returns-in_err-info-clause-misfit
returns-in_err-info-clause-misfit c =
    let why = c.in_err-info.field-0.0 in
    passed_on c.from_residual.result why (λ e. (e ≡ NoMemory)
    ⊎ MisfitsWhole tcpip_fields c.args.r.now.left e) c.from_residual.ensures.1
    (elim c.in_err-info.ensures.misfit [
      | inl memory ↦ inl memory
      | inr misfit ↦ inr (misfits_whole tcpip_fields c.args.r.now.left why misfit)
    ])

pub returns-in_err-end-clause-misfit : goal.returns-in_err-end-clause-misfit
returns-in_err-end-clause-misfit c =
    let why = c.in_err-end.field-0.0 in
    let info = c.in_ok-info.info in
    passed_on c.from_residual-in_err-end.result why
    (λ e. (e ≡ NoMemory) ⊎ MisfitsWhole tcpip_fields c.args.r.now.left e)
    c.from_residual-in_err-end.ensures.1
    (inr (trailing tcpip_fields (
      info.host_to_connect,
      (info.port_to_connect, (info.originator_address, (info.originator_port, tt))),
    )
    c.args.r.now.left c.decode.new.r.left why c.in_ok-info.ensures.ok.0
    (not_so c.in_err-end.ensures.ok) c.in_err-end.ensures.trailing))
