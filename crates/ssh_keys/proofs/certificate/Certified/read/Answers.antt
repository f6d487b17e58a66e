-- The parts that are not there, and what was read.
use Rattle.std.proofs.Common.{[], ◌∷◌, sym, subst}
use Rattle.ssh_wire.specs.Field.{Bytes, SpellsAll}
use Rattle.ssh_keys.specs.Keys.{LacksKey, LacksFields}
use Rattle.ssh_keys.specs.Certificates.{LacksIdentity, validity_fields, option_fields}
use Rattle.ssh_keys.specs.Certificates.{LacksCertified}
use Rattle.ssh_keys.proofs.Refusals.{from_part}
use Rattle.ssh_keys.proofs.Statements.{lacks_key_after, lacks_identity_after, lacks_validity_after}
use Rattle.ssh_keys.proofs.Statements.{lacks_options_after, read_string}
use Rattle.ssh_keys.proofs.certificate.Certified.read.Goals as goal

pub returns-in_err-public_key-clause-refused : goal.returns-in_err-public_key-clause-refused
returns-in_err-public_key-clause-refused c =
    let a = c.bytes.new.self in
    from_part c.from_residual-in_err-public_key.result c.in_err-public_key.field-0.0
    (LacksKey c.args.typ a.left) (LacksCertified c.args.typ c.args.r.now.left)
    c.from_residual-in_err-public_key.ensures.1 c.in_err-public_key.ensures.refused
    (λ lacks. lacks_key_after c.args.typ c.args.r.now.left c.in_ok-nonce.nonce.now a.left
    (read_string c.args.r.now a c.in_ok-nonce.nonce.now c.in_ok-nonce.ensures.ok) lacks)

pub returns-in_err-identity-clause-refused : goal.returns-in_err-identity-clause-refused
returns-in_err-identity-clause-refused c =
    let a = c.bytes.new.self in
    let b = c.read_fields.new.r in
    from_part c.from_residual-in_err-identity.result c.in_err-identity.field-0.0
    (LacksIdentity b.left) (LacksCertified c.args.typ c.args.r.now.left)
    c.from_residual-in_err-identity.ensures.1 c.in_err-identity.ensures.refused
    (λ lacks. lacks_identity_after c.args.typ c.in_ok-public_key.public_key c.args.r.now.left
    c.in_ok-nonce.nonce.now a.left b.left
    (read_string c.args.r.now a c.in_ok-nonce.nonce.now c.in_ok-nonce.ensures.ok)
    c.in_ok-public_key.ensures.ok.0 c.in_ok-public_key.ensures.ok.1 lacks)

pub returns-in_err-validity-clause-refused : goal.returns-in_err-validity-clause-refused
returns-in_err-validity-clause-refused c =
    let a = c.bytes.new.self in
    let b = c.read_fields.new.r in
    let d = c.read.new.r in
    from_part c.from_residual-in_err-validity.result c.in_err-validity.field-0.0
    (LacksFields validity_fields d.left)
    (LacksCertified c.args.typ c.args.r.now.left) c.from_residual-in_err-validity.ensures.1
    c.in_err-validity.ensures.refused
    (λ lacks. lacks_validity_after c.args.typ c.in_ok-public_key.public_key
    c.in_ok-identity.identity c.args.r.now.left
    c.in_ok-nonce.nonce.now a.left b.left d.left
    (read_string c.args.r.now a c.in_ok-nonce.nonce.now c.in_ok-nonce.ensures.ok)
    c.in_ok-public_key.ensures.ok.0 c.in_ok-public_key.ensures.ok.1 c.in_ok-identity.ensures.ok
    lacks)

pub returns-in_err-options-clause-refused : goal.returns-in_err-options-clause-refused
returns-in_err-options-clause-refused c =
    let a = c.bytes.new.self in
    let b = c.read_fields.new.r in
    let d = c.read.new.r in
    let e = c.read-2.new.r in
    from_part c.from_residual-in_err-options.result c.in_err-options.field-0.0
    (LacksFields option_fields e.left)
    (LacksCertified c.args.typ c.args.r.now.left) c.from_residual-in_err-options.ensures.1
    c.in_err-options.ensures.refused
    (λ lacks. lacks_options_after c.args.typ c.in_ok-public_key.public_key c.in_ok-identity.identity
    c.in_ok-validity.validity c.args.r.now.left
    c.in_ok-nonce.nonce.now a.left b.left d.left e.left
    (read_string c.args.r.now a c.in_ok-nonce.nonce.now c.in_ok-nonce.ensures.ok)
    c.in_ok-public_key.ensures.ok.0 c.in_ok-public_key.ensures.ok.1 c.in_ok-identity.ensures.ok
    c.in_ok-validity.ensures.ok lacks)

pub returns-clause-ok : goal.returns-clause-ok
returns-clause-ok c =
    let start = c.args.r.now in
    let a = c.bytes.new.self in (
      c.in_ok-public_key.ensures.ok.0,
      (
        a.left,
        c.read_fields.new.r.left,
        c.read.new.r.left,
        c.read-2.new.r.left,
        subst (λ x. SpellsAll (Bytes ∷ []) (x, tt) start.left a.left)
            (sym c.in_ok-copy_from_slice.ensures)
            (read_string start a c.in_ok-nonce.nonce.now c.in_ok-nonce.ensures.ok),
        c.in_ok-public_key.ensures.ok.1,
        c.in_ok-identity.ensures.ok,
        c.in_ok-validity.ensures.ok,
        c.in_ok-options.ensures.ok,
      ),
    )
