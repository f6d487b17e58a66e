-- What was written is the key's blob, no other is, and it is read as the key.
use Rattle.std.proofs.Common.{◌∙◌, sym}
use Rattle.ssh_keys.proofs.Blobs.{blob_is_key, only_blob, decodes_back}
use Rattle.ssh_keys.proofs.Refusals.{does_not_hold}
use Rattle.ssh_keys.proofs.public_key.PublicKey.blob.Goals as goal

pub returns-clause-ok : goal.returns-clause-ok
returns-clause-ok c =
    blob_is_key c.args.self.now c.in_ok-blob.blob
    (does_not_hold c.has_long_field.result c.has_long_field.ensures c.if-has_long_field.false)
    c.in_ok-blob.ensures.ok

pub returns-clause-only : goal.returns-clause-only
returns-clause-only c =
    λ other spelled. only_blob c.args.self.now other spelled ∙ sym c.in_ok-blob.ensures.ok

pub returns-clause-decodes : goal.returns-clause-decodes
returns-clause-decodes c = λ answer decoded.
    decodes_back c.args.self.now c.in_ok-blob.blob answer
    (blob_is_key c.args.self.now c.in_ok-blob.blob
    (does_not_hold c.has_long_field.result c.has_long_field.ensures c.if-has_long_field.false)
    c.in_ok-blob.ensures.ok)
    decoded
