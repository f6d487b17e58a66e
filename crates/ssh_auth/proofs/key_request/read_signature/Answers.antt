use Rattle.std.proofs.Common.{length, Err, inl, inr, refl}
use Rattle.ssh_wire.specs.Field.{Bytes}
use Rattle.ssh_auth.proofs.Signatures.{field_first, no_signature, more_than_signature}
use Rattle.ssh_auth.proofs.key_request.read_signature.Goals as goal

pub returns-in_err-signature : goal.returns-in_err-signature
returns-in_err-signature g c =
    let fields = c.args.fields.now in
    let field = field_first Bytes c.new-reader.result c.bytes.new.self fields
    c.in_ok-field.field.now c.new-reader.ensures.left c.in_ok-field.ensures.ok in
    no_signature c.from_residual-in_err-signature.result c.in_err-signature.field-0.0 fields
    c.in_ok-field.field.now c.bytes.new.self.left
    c.from_residual-in_err-signature.ensures.1
    (rw c.new-inside.ensures.left at c.in_err-signature.ensures.refused) field

pub returns-in-Err : goal.returns-in-Err
returns-in-Err g c =
    let fields = c.args.fields.now in
    let inner = c.in_ok-field.field.now in
    let after = c.bytes.new.self.left in
    let left = c.decode.new.r.left in
    let signature = c.in_ok-signature.signature in
    let field = field_first Bytes c.new-reader.result c.bytes.new.self fields inner
    c.new-reader.ensures.left c.in_ok-field.ensures.ok in
    let spelled = rw c.new-inside.ensures.left at c.in_ok-signature.ensures.ok in
    elim c.in-Err.ensures [
      | inl here ↦ more_than_signature (Err c.from.result) c.in-Err.e (length left) fields
          c.from.ensures here.1
          (inr (inner, after, signature, left, field, spelled, inl (here.0, refl)))
      | inr behind ↦ more_than_signature (Err c.from.result) c.in-Err.e (length after) fields
          c.from.ensures behind.1.1
          (inr (inner, after, signature, left, field, spelled, inr (behind.0, (behind.1.0, refl))))
    ]
