-- Bytes after the reserved field.
use Rattle.std.proofs.Common.{◌≡◌, ◌⊎◌, inr}
use Rattle.ssh_wire.specs.Field.{MisfitsWhole}
use Rattle.ssh_wire.specs.Open.{forwarded_streamlocal}
use Rattle.ssh_wire.specs.declared.error.WireError.TheVariants.{NoMemory}
use Rattle.ssh_wire.proofs.Fields.{trailing}
use Rattle.ssh_wire.proofs.Opens.{path_and_text}
use Rattle.ssh_wire.proofs.Outcomes.{passed_on, not_so}
use Rattle.ssh_wire.proofs.channel_type.whole_forwarded_streamlocal.Goals as goal

pub returns-in_err-end-clause-misfit : goal.returns-in_err-end-clause-misfit
returns-in_err-end-clause-misfit c =
    let why = c.in_err-end.field-0.0 in
    passed_on c.from_residual-in_err-end.result why
    (λ e. (e ≡ NoMemory) ⊎ MisfitsWhole forwarded_streamlocal.fields c.args.r.now.left e)
    c.from_residual-in_err-end.ensures.1
    (inr (trailing forwarded_streamlocal.fields (
      c.in_ok-info.info.socket_path,
      (c.in_ok-text.field-0.now, tt),
    )
    c.args.r.now.left c.text.new.self.left why
    (path_and_text c.args.r.now c.decode.new.r c.text.new.self c.in_ok-info.info.socket_path
    c.in_ok-text.field-0.now
    c.in_ok-info.ensures.ok c.in_ok-text.ensures.ok)
    (not_so c.in_err-end.ensures.ok) c.in_err-end.ensures.trailing))
