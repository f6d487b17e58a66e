-- A reserved number that is not there, bytes after it, and the whole open.
use Rattle.std.proofs.Common.{◌≡◌, ◌⊎◌, inr, refl}
use Rattle.ssh_wire.specs.Field.{MisfitsWhole}
use Rattle.ssh_wire.specs.Open.{direct_streamlocal}
use Rattle.ssh_wire.specs.declared.error.WireError.TheVariants.{NoMemory}
use Rattle.ssh_wire.proofs.Fields.{trailing, spells_whole}
use Rattle.ssh_wire.proofs.Opens.{path_and_reserved, no_reserved_number}
use Rattle.ssh_wire.proofs.Outcomes.{passed_on, not_so}
use Rattle.ssh_wire.proofs.channel_type.whole_direct_streamlocal.Goals as goal

pub returns-in_err-u32-clause-misfit : goal.returns-in_err-u32-clause-misfit
returns-in_err-u32-clause-misfit c =
    let why = c.in_err-u32.field-0.0 in
    passed_on c.from_residual-in_err-u32.result why
    (λ e. (e ≡ NoMemory) ⊎ MisfitsWhole direct_streamlocal.fields c.args.r.now.left e)
    c.from_residual-in_err-u32.ensures.1
    (inr (no_reserved_number c.args.r.now c.decode.new.r c.text.new.self
    c.in_ok-info.info.socket_path c.in_ok-text.field-0.now why
    c.in_ok-info.ensures.ok c.in_ok-text.ensures.ok c.in_err-u32.ensures.misfit))

pub returns-in_err-end-clause-misfit : goal.returns-in_err-end-clause-misfit
returns-in_err-end-clause-misfit c =
    let why = c.in_err-end.field-0.0 in
    passed_on c.from_residual-in_err-end.result why
    (λ e. (e ≡ NoMemory) ⊎ MisfitsWhole direct_streamlocal.fields c.args.r.now.left e)
    c.from_residual-in_err-end.ensures.1
    (inr (trailing direct_streamlocal.fields (
      c.in_ok-info.info.socket_path,
      (c.in_ok-text.field-0.now, (c.in_ok-u32.field-0, tt)),
    )
    c.args.r.now.left c.u32.new.self.left why
    (path_and_reserved c.args.r.now c.decode.new.r c.text.new.self c.u32.new.self
    c.in_ok-info.info.socket_path c.in_ok-text.field-0.now c.in_ok-u32.field-0
    c.in_ok-info.ensures.ok c.in_ok-text.ensures.ok c.in_ok-u32.ensures.ok)
    (not_so c.in_err-end.ensures.ok) c.in_err-end.ensures.trailing))

pub returns-clause-ok : goal.returns-clause-ok
returns-clause-ok c = (
  c.in_ok-text.field-0.now,
  c.in_ok-u32.field-0,
  spells_whole direct_streamlocal.fields (
    c.in_ok-info.info.socket_path,
    (c.in_ok-text.field-0.now, (c.in_ok-u32.field-0, tt)),
  )
      c.args.r.now.left c.u32.new.self.left
      (path_and_reserved c.args.r.now c.decode.new.r c.text.new.self c.u32.new.self
      c.in_ok-info.info.socket_path c.in_ok-text.field-0.now c.in_ok-u32.field-0
      c.in_ok-info.ensures.ok c.in_ok-text.ensures.ok c.in_ok-u32.ensures.ok)
      (c.in_ok-end.ensures.ok.0 refl),
)
