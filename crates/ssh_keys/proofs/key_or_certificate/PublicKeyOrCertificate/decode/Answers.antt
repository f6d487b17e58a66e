-- There is one right answer.
use Rattle.ssh_keys.proofs.Offered.{only_offer_answer}
use Rattle.ssh_keys.proofs.key_or_certificate.PublicKeyOrCertificate.decode.Goals as goal

pub returns-clause-exactly : goal.returns-clause-exactly
returns-clause-exactly c = λ answer decoded.
    only_offer_answer c.args.pubkey_algo.now c.args.blob.now c.read.result answer c.read.ensures.ok
    c.read.ensures.refused decoded
