-- No signature inside, and bytes after it.
use Rattle.ssh_wire.proofs.Outcomes.{not_so}
use Rattle.ssh_keys.specs.Keys.{LacksFields}
use Rattle.ssh_keys.specs.Signatures.{signature_fields, LacksSignature}
use Rattle.ssh_keys.proofs.Refusals.{from_field, from_part}
use Rattle.ssh_keys.proofs.Signed.{lacks_inner, lacks_inner_end}
use Rattle.ssh_keys.proofs.signature.Signature.decode_last.Goals as goal

pub returns-in_err-signature-clause-refused : goal.returns-in_err-signature-clause-refused
returns-in_err-signature-clause-refused c =
    let start = c.new-inside.result.left in
    from_part c.from_residual-in_err-signature.result c.in_err-signature.field-0.0
    (LacksFields signature_fields start) (LacksSignature c.args.r.now.left)
    c.from_residual-in_err-signature.ensures.1 c.in_err-signature.ensures.refused
    (λ lacks. lacks_inner c.args.r.now c.bytes.new.self c.in_ok-inner.inner.now start
    c.in_ok-inner.ensures.ok c.new-inside.ensures.left lacks)

pub returns-in_err-end-2-clause-refused : goal.returns-in_err-end-2-clause-refused
returns-in_err-end-2-clause-refused c =
    from_field c.from_residual-in_err-end-2.result c.in_err-end-2.field-0.0
    (LacksSignature c.args.r.now.left) c.from_residual-in_err-end-2.ensures.1
    (lacks_inner_end c.args.r.now c.bytes.new.self c.in_ok-inner.inner.now c.new-inside.result.left
    c.decode.new.r.left c.in_ok-signature.signature
    c.in_ok-inner.ensures.ok c.new-inside.ensures.left c.in_ok-signature.ensures.ok
    (not_so c.in_err-end-2.ensures.ok))
