-- A modulus that is not there.
use Rattle.ssh_wire.specs.Field.{Bytes}
use Rattle.std.proofs.Common.{[], ◌∷◌}
use Rattle.ssh_keys.specs.Keys.{LacksKey}
use Rattle.ssh_keys.specs.declared.key_type.KeyType.TheVariants as type
use Rattle.ssh_keys.proofs.Layouts.{lacks_rsa, no_second_string}
use Rattle.ssh_keys.proofs.Refusals.{from_field, lacking}
use Rattle.ssh_keys.proofs.public_key.read_rsa.Goals as goal

pub returns-in_err-n-clause-refused : goal.returns-in_err-n-clause-refused
returns-in_err-n-clause-refused c =
    let why = c.in_err-n.field-0.0 in
    let start = c.args.r.now in
    from_field c.from_residual-in_err-n.result why (LacksKey type.Rsa start.left)
    c.from_residual-in_err-n.ensures.1
    (lacks_rsa start.left (lacking (Bytes ∷ Bytes ∷ []) start.left why
    (no_second_string start c.bytes.new.self c.in_ok-e.e.now why c.in_ok-e.ensures.ok
    c.in_err-n.ensures.misfit)))
