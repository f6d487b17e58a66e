-- There is one right answer.
use Rattle.ssh_keys.proofs.Exactness.{only_certificate_answer}
use Rattle.ssh_keys.proofs.certificate.Certificate.decode.Goals as goal

pub returns-clause-exactly : goal.returns-clause-exactly
returns-clause-exactly c = λ answer decoded.
    only_certificate_answer c.args.blob.now c.read.result answer c.read.ensures.ok
    c.read.ensures.refused decoded
