-- Each part of the blob that is not there, and the certificate.
use Rattle.std.proofs.Common.{◌≡◌, ◌⊎◌, [], ◌∷◌, ◌++◌, ◌∙◌, ap, inl, inr, sym, subst}
use Rattle.ssh_wire.specs.Field.{Bytes}
use Rattle.ssh_wire.proofs.Outcomes.{passed_on}
use Rattle.ssh_keys.specs.Keys.{LacksFields, certificate_type_name, SpellsName}
use Rattle.ssh_keys.specs.Signatures.{LacksSignature}
use Rattle.ssh_keys.specs.Certificates.{LacksCertified, FailsSignatureKey, FailsCertificate}
use Rattle.ssh_keys.specs.declared.error.KeyError.TheVariants.{Blob, NoMemory}
use Rattle.ssh_keys.proofs.Parts.{mapped, fails_type, fails_after_type, fails_after_certified}
use Rattle.ssh_keys.proofs.Parts.{signed_part, reached, is_certificate}
use Rattle.ssh_keys.proofs.Refusals.{from_field, lacking}
use Rattle.ssh_keys.proofs.Statements.{read_string}
use Rattle.ssh_keys.proofs.certificate.Certificate.read.Goals as goal

pub returns-in_err-typ-clause-refused : goal.returns-in_err-typ-clause-refused
returns-in_err-typ-clause-refused c =
    let why = c.in_err-typ.field-0.0 in
    passed_on c.from_residual.result why (λ e. (e ≡ NoMemory) ⊎ FailsCertificate c.args.blob.now e)
    c.from_residual.ensures.1
    (inr (fails_type c.new-r.result.left c.args.blob.now why c.new-r.ensures.left
    c.in_err-typ.ensures.refused))

pub returns-in_err-part-clause-refused : goal.returns-in_err-part-clause-refused
returns-in_err-part-clause-refused c =
    let typ = c.in_ok-typ.typ in
    let a = c.read_of_certificate.new.r.left in
    let r = c.from_residual-in_err-part.result in
    mapped r (λ e. (e ≡ Blob) × LacksCertified typ a) (FailsCertificate c.args.blob.now)
    (passed_on r c.in_err-part.field-0.0 (λ e. (e ≡ NoMemory) ⊎ ((e ≡ Blob) × LacksCertified typ a))
    c.from_residual-in_err-part.ensures.1
    c.in_err-part.ensures.refused)
    (λ e lacks. fails_after_type typ c.new-r.result.left c.args.blob.now a e c.new-r.ensures.left
    c.in_ok-typ.ensures.ok (inl lacks))

pub returns-in_err-key-clause-refused : goal.returns-in_err-key-clause-refused
returns-in_err-key-clause-refused c =
    let why = c.in_err-key.field-0.0 in
    let a = c.read_of_certificate.new.r.left in
    let b = c.read.new.r.left in
    let r = c.from_residual-in_err-key.result in
    mapped r (λ e. (e ≡ Blob) × LacksFields (Bytes ∷ []) b) (FailsCertificate c.args.blob.now)
    (from_field r why (LacksFields (Bytes ∷ []) b) c.from_residual-in_err-key.ensures.1
    (lacking (Bytes ∷ []) b why (inl c.in_err-key.ensures.misfit)))
    (λ e lacks. fails_after_certified c.in_ok-typ.typ c.in_ok-part.part c.new-r.result.left
    c.args.blob.now a b e c.new-r.ensures.left
    c.in_ok-typ.ensures.ok c.in_ok-part.ensures.ok.0 c.in_ok-part.ensures.ok.1 (inl lacks))

pub returns-in_err-signature_key-clause-refused : goal.returns-in_err-signature_key-clause-refused
returns-in_err-signature_key-clause-refused c =
    let a = c.read_of_certificate.new.r.left in
    let b = c.read.new.r in
    let d = c.bytes.new.self in
    let key = c.in_ok-key.key.now in
    let r = c.from_residual-in_err-signature_key.result in
    mapped r (FailsSignatureKey key) (FailsCertificate c.args.blob.now)
    (passed_on r c.in_err-signature_key.field-0.0 (λ e. (e ≡ NoMemory) ⊎ FailsSignatureKey key e)
    c.from_residual-in_err-signature_key.ensures.1
    c.in_err-signature_key.ensures.refused)
    (λ e fails. fails_after_certified c.in_ok-typ.typ c.in_ok-part.part c.new-r.result.left
    c.args.blob.now a b.left e c.new-r.ensures.left
    c.in_ok-typ.ensures.ok c.in_ok-part.ensures.ok.0 c.in_ok-part.ensures.ok.1
    (inr (key, d.left, read_string b d key c.in_ok-key.ensures.ok, inl fails)))

pub returns-in_err-signature-clause-refused : goal.returns-in_err-signature-clause-refused
returns-in_err-signature-clause-refused c =
    let a = c.read_of_certificate.new.r.left in
    let b = c.read.new.r in
    let d = c.bytes.new.self in
    let key = c.in_ok-key.key.now in
    let r = c.from_residual-in_err-signature.result in
    mapped r (λ e. (e ≡ Blob) × LacksSignature d.left) (FailsCertificate c.args.blob.now)
    (passed_on r c.in_err-signature.field-0.0 (λ e. (e ≡ NoMemory)
    ⊎ ((e ≡ Blob) × LacksSignature d.left)) c.from_residual-in_err-signature.ensures.1
    c.in_err-signature.ensures.refused)
    (λ e lacks. fails_after_certified c.in_ok-typ.typ c.in_ok-part.part c.new-r.result.left
    c.args.blob.now a b.left e c.new-r.ensures.left
    c.in_ok-typ.ensures.ok c.in_ok-part.ensures.ok.0 c.in_ok-part.ensures.ok.1
    (inr (
      key,
      d.left,
      read_string b d key c.in_ok-key.ensures.ok,
      inr (c.in_ok-signature_key.signature_key, c.in_ok-signature_key.ensures.ok, lacks.0, lacks.1),
    )))

pub returns-clause-ok : goal.returns-clause-ok
returns-clause-ok c =
    let typ = c.in_ok-typ.typ in
    let blob = c.args.blob.now in
    let a = c.read_of_certificate.new.r.left in
    let b = c.read.new.r in
    let d = c.bytes.new.self in
    let key = c.in_ok-key.key.now in
    let named : SpellsName (certificate_type_name typ) blob a =
    subst (λ x. SpellsName (certificate_type_name typ) x a) c.new-r.ensures.left
    c.in_ok-typ.ensures.ok in
    let string = read_string b d key c.in_ok-key.ensures.ok in
    is_certificate c.signed_by.result c.in_ok-part.part typ c.in_ok-signature_key.signature_key
    c.in_ok-signature.signature c.in_ok-signed.signed blob key
    a b.left d.left c.signed_by.ensures.certified c.signed_by.ensures.signature_key
    c.signed_by.ensures.signature c.signed_by.ensures.signed
    named c.in_ok-part.ensures.ok.0 c.in_ok-part.ensures.ok.1 string
    c.in_ok-signature_key.ensures.ok
    (signed_part typ c.in_ok-part.part key blob a b.left d.left c.position.result named
    c.in_ok-part.ensures.ok.1 string
    (reached c.new-r.result c.read_of_certificate.new.r b d blob key c.position.result
    c.new-r.ensures.position c.new-r.ensures.left
    c.in_ok-typ.ensures.moves c.in_ok-part.ensures.moves c.in_ok-key.ensures.ok c.position.ensures)
    ∙ ap (λ x. x ++ d.left) (sym c.in_ok-signed.ensures)) c.in_ok-signature.ensures.ok
