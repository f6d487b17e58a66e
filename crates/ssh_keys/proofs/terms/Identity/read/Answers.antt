-- A key id that does not fit, and principals that are not there.
use Rattle.ssh_keys.specs.Certificates.{identity_fields, LacksIdentity}
use Rattle.ssh_keys.proofs.Refusals.{from_field, lacking}
use Rattle.ssh_keys.proofs.Statements.{no_key_id, no_principals, lacks_identity}
use Rattle.ssh_keys.proofs.terms.Identity.read.Goals as goal

pub returns-in_err-key_id-clause-refused : goal.returns-in_err-key_id-clause-refused
returns-in_err-key_id-clause-refused c =
    let why = c.in_err-key_id.field-0.0 in
    let start = c.args.r.now in
    from_field c.from_residual-in_err-key_id.result why (LacksIdentity start.left)
    c.from_residual-in_err-key_id.ensures.1
    (lacks_identity start.left (lacking identity_fields start.left why
    (no_key_id start c.u64.new.self c.u32.new.self c.in_ok-serial.serial c.in_ok-number.number why
    c.in_ok-serial.ensures.ok c.in_ok-number.ensures.ok c.in_err-key_id.ensures.misfit)))

pub returns-in_err-valid_principals-clause-refused : goal.returns-in_err-valid_principals-clause-refused
returns-in_err-valid_principals-clause-refused c =
    let why = c.in_err-valid_principals.field-0.0 in
    let start = c.args.r.now in
    from_field c.from_residual-in_err-valid_principals.result why (LacksIdentity start.left)
    c.from_residual-in_err-valid_principals.ensures.1
    (lacks_identity start.left (lacking identity_fields start.left why
    (no_principals start c.u64.new.self c.u32.new.self c.text.new.self c.in_ok-serial.serial
    c.in_ok-number.number c.in_ok-key_id.key_id.now why
    c.in_ok-serial.ensures.ok c.in_ok-number.ensures.ok c.in_ok-key_id.ensures.ok
    c.in_err-valid_principals.ensures.misfit)))
