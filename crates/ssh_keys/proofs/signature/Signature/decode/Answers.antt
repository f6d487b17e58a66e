-- A name that does not fit, and bytes that are not there.
use Rattle.std.proofs.Common.{inl, subst}
use Rattle.ssh_keys.specs.Keys.{LacksFields}
use Rattle.ssh_keys.specs.Signatures.{signature_fields}
use Rattle.ssh_keys.proofs.Layouts.{no_string_after_text}
use Rattle.ssh_keys.proofs.Refusals.{from_field, lacking}
use Rattle.ssh_keys.proofs.signature.Signature.decode.Goals as goal

pub returns-in_err-name-clause-refused : goal.returns-in_err-name-clause-refused
returns-in_err-name-clause-refused c =
    let why = c.in_err-name.field-0.0 in
    from_field c.from_residual.result why (LacksFields signature_fields c.args.r.now.left)
    c.from_residual.ensures.1
    (subst (λ at. LacksFields signature_fields at.left) c.ahead-ahead.ensures
    (lacking signature_fields c.ahead-ahead.result.left why (inl c.in_err-name.ensures.misfit)))

pub returns-in_err-blob-clause-refused : goal.returns-in_err-blob-clause-refused
returns-in_err-blob-clause-refused c =
    let why = c.in_err-blob.field-0.0 in
    let start = c.ahead-ahead.result in
    from_field c.from_residual-in_err-blob.result why
    (LacksFields signature_fields c.args.r.now.left) c.from_residual-in_err-blob.ensures.1
    (subst (λ at. LacksFields signature_fields at.left) c.ahead-ahead.ensures
    (lacking signature_fields start.left why
    (no_string_after_text start c.text.new.self c.in_ok-name.name.now why c.in_ok-name.ensures.ok
    c.in_err-blob.ensures.misfit)))
