-- A type that is not known, and bytes after the key.
use Rattle.std.proofs.Common.{◌≡◌, ◌⊎◌, inr}
use Rattle.ssh_wire.proofs.Outcomes.{passed_on, not_so}
use Rattle.ssh_keys.specs.Keys.{LacksWholeKey, FailsKey}
use Rattle.ssh_keys.specs.declared.error.KeyError.TheVariants.{NoMemory}
use Rattle.ssh_keys.proofs.Layouts.{fails_type, no_key, lacks_after}
use Rattle.ssh_keys.proofs.Refusals.{from_field}
use Rattle.ssh_keys.proofs.public_key.PublicKey.read.Goals as goal

pub returns-in_err-typ-clause-refused : goal.returns-in_err-typ-clause-refused
returns-in_err-typ-clause-refused c =
    let why = c.in_err-typ.field-0.0 in
    passed_on c.from_residual.result why (λ e. (e ≡ NoMemory) ⊎ FailsKey c.args.blob.now e)
    c.from_residual.ensures.1
    (inr (fails_type c.new-r.result.left c.args.blob.now why c.new-r.ensures.left
    c.in_err-typ.ensures.refused))

pub returns-in_err-end-clause-refused : goal.returns-in_err-end-clause-refused
returns-in_err-end-clause-refused c =
    let typ = c.in_ok-typ.typ in
    let after = c.read_of_key.new.r.left in
    let r = c.from_residual-in_err-end.result in
    no_key r typ c.new-r.result.left c.args.blob.now after c.new-r.ensures.left
    c.in_ok-typ.ensures.ok
    (from_field r c.in_err-end.field-0.0 (LacksWholeKey typ after)
    c.from_residual-in_err-end.ensures.1
    (lacks_after c.in_ok-key.key typ after c.read_fields.new.r.left c.in_ok-key.ensures.ok.0
    c.in_ok-key.ensures.ok.1 (not_so c.in_err-end.ensures.ok)))
