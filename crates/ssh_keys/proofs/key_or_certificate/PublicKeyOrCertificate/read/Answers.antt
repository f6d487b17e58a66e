-- A blob that is no certificate, under a certificate's name.
use Rattle.std.proofs.Common.{◌≡◌, ◌⊎◌, inr}
use Rattle.ssh_wire.proofs.Outcomes.{passed_on}
use Rattle.ssh_keys.specs.Certificates.{FailsCertificate}
use Rattle.ssh_keys.specs.Offers.{FailsOffer}
use Rattle.ssh_keys.specs.declared.error.KeyError.TheVariants.{NoMemory}
use Rattle.ssh_keys.proofs.Parts.{mapped}
use Rattle.ssh_keys.proofs.key_or_certificate.PublicKeyOrCertificate.read.Goals as goal

pub returns-in_err-decode-in-Some-new_certificate-clause-refused :
    goal.returns-in_err-decode-in-Some-new_certificate-clause-refused
returns-in_err-decode-in-Some-new_certificate-clause-refused c =
    let blob = c.args.blob.now in
    let r = c.from_residual-in_err-decode-in-Some-new_certificate.result in
    let failed = c.in_err-decode-in-Some-new_certificate in
    mapped r (FailsCertificate blob) (FailsOffer c.args.pubkey_algo.now blob)
    (passed_on r failed.field-0.0 (λ e. (e ≡ NoMemory) ⊎ FailsCertificate blob e)
    c.from_residual-in_err-decode-in-Some-new_certificate.ensures.1
    failed.ensures.refused)
    (λ e fails. inr (inr (
      c.in-Some-new_certificate.field-0,
      c.in-Some-new_certificate.ensures,
      fails,
    )))
