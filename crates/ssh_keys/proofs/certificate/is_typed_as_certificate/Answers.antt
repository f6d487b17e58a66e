-- The blob begins with such a name exactly where it was read.
use Rattle.ssh_keys.proofs.Statements.{typed}
use Rattle.ssh_keys.proofs.certificate.is_typed_as_certificate.Goals as goal

pub returns : goal.returns
returns c =
    typed c.read_of_certificate.result c.is_ok.result c.new-r.result.left
    c.read_of_certificate.new.r.left c.args.blob.now c.is_ok.ensures.value
    c.read_of_certificate.ensures.ok c.read_of_certificate.ensures.refused c.new-r.ensures.left
