use Rattle.std.proofs.Common.{[], ◌∷◌, subst}
use Rattle.std.specs.Prelude.{◌==◌, not}
use Rattle.ssh_wire.specs.Field.{Flag, Text, Bytes, MisfitsAll}
use Rattle.ssh_wire.proofs.Fields.{misfit_here_all, misfit_later_all}
use Rattle.ssh_auth.specs.Publickey.{offer_fields}
use Rattle.ssh_auth.proofs.Responses.{fails_as}
use Rattle.ssh_auth.proofs.Signatures.{flag_read}
use Rattle.ssh_auth.proofs.key_request.read_offer_fields.Goals as goal

pub returns-in_err-name : goal.returns-in_err-name
returns-in_err-name c =
    let r = c.from_residual-in_err-name in
    let after = c.u8.new.self in
    let byte = c.in_ok-signed.field-0 in
    let why = c.in_err-name.field-0.0 in
    fails_as r.result _ _ why r.ensures.1
    (subst (λ l. MisfitsAll offer_fields l why) c.new-reader.ensures.left
    (misfit_later_all Flag (Text ∷ Bytes ∷ []) c.new-reader.result after (not (byte == 0)) why
    (flag_read c.new-reader.result after byte c.in_ok-signed.ensures.ok)
    (misfit_here_all Text (Bytes ∷ []) after.left why c.in_err-name.ensures.misfit)))

pub returns-in_err-blob : goal.returns-in_err-blob
returns-in_err-blob c =
    let r = c.from_residual-in_err-blob in
    let after = c.u8.new.self in
    let byte = c.in_ok-signed.field-0 in
    let why = c.in_err-blob.field-0.0 in
    fails_as r.result _ _ why r.ensures.1
    (subst (λ l. MisfitsAll offer_fields l why) c.new-reader.ensures.left
    (misfit_later_all Flag (Text ∷ Bytes ∷ []) c.new-reader.result after (not (byte == 0)) why
    (flag_read c.new-reader.result after byte c.in_ok-signed.ensures.ok)
    (misfit_later_all Text (Bytes ∷ []) after c.text.new.self c.in_ok-name.name.now why
    c.in_ok-name.ensures.ok
    (misfit_here_all Bytes [] c.text.new.self.left why c.in_err-blob.ensures.misfit))))
