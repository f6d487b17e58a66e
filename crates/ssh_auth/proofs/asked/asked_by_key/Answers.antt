use Rattle.std.proofs.Common.{inl, inr}
use Rattle.ssh_auth.specs.Read.{circumstances, all_fields}
use Rattle.ssh_auth.proofs.Telling.{unfit_offer, offers_none, broken_offer}
use Rattle.ssh_auth.proofs.asked.asked_by_key.Goals as goal

pub returns-in_default-clause-ok : goal.returns-in_default-clause-ok
returns-in_default-clause-ok g c =
    let request = c.args.request.now in
    λ verifier. unfit_offer (circumstances (g.V.Verifier.accepts verifier) request)
    (all_fields request) request.fields.now c.in_default.field-0 c.in_default.ensures

pub returns-in-Ok-None-clause-ok : goal.returns-in-Ok-None-clause-ok
returns-in-Ok-None-clause-ok g c =
    let request = c.args.request.now in
    let asked = c.in-Ok.asked in
    let nothing = rw c.in-Ok-None.field-0-is at c.in-Ok-None.ensures.ok in
    λ verifier. offers_none (circumstances (g.V.Verifier.accepts verifier) request)
    (all_fields request) request.fields.now asked.rest.now asked.name.now asked.blob.now
    asked.signed c.in-Ok.ensures nothing

pub returns-in-Err-Blob-clause-ok : goal.returns-in-Err-Blob-clause-ok
returns-in-Err-Blob-clause-ok g c =
    let request = c.args.request.now in
    let asked = c.in-Ok.asked in
    let refused = rw c.in-Err-Blob.field-0-is at c.in-Err-Blob.ensures.refused in
    λ verifier. elim refused [
      | inl memory ↦ absurd (cc)
      | inr fails ↦ broken_offer (circumstances (g.V.Verifier.accepts verifier) request)
          (all_fields request) request.fields.now asked.rest.now asked.name.now asked.blob.now
          asked.signed c.in-Ok.ensures fails.1
    ]
