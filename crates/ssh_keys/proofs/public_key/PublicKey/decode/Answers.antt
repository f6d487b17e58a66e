-- There is one right answer.
use Rattle.ssh_keys.proofs.Once.{only_key_answer}
use Rattle.ssh_keys.proofs.public_key.PublicKey.decode.Goals as goal

pub returns-clause-exactly : goal.returns-clause-exactly
returns-clause-exactly c = λ answer decoded.
    only_key_answer c.args.blob.now c.read.result answer c.read.ensures.ok c.read.ensures.refused
    decoded
