use Rattle.std.proofs.Common.{inl, inr, refl}
use Rattle.ssh_auth.proofs.key_request.read_offer.Goals as goal

pub returns-in-Err-Blob-clause-refused : goal.returns-in-Err-Blob-clause-refused
returns-in-Err-Blob-clause-refused g c =
    let refused = rw c.in-Err-Blob.field-0-is at (rw c.in-Err-Blob.is at c.decode.ensures.refused)
    in
    elim refused [
      | inl memory ↦ inl memory
      | inr why ↦ inr (refl, why)
    ]
