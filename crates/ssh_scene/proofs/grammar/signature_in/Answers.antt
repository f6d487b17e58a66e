use Rattle.ssh_scene.proofs.Signatures.{without_key, without_message, without_signature}
use Rattle.ssh_scene.proofs.grammar.signature_in.Goals as goal

pub returns-in_default-2 : goal.returns-in_default-2
returns-in_default-2 c = without_message c.args.key.now c.args.algorithm.now c.args.message.now
    c.args.signature.now c.in_ok-message.field-0 c.in_ok-message.ensures c.in_default-2.is

pub returns-in_default-3 : goal.returns-in_default-3
returns-in_default-3 c = without_signature c.args.key.now c.args.algorithm.now c.args.message.now
    c.args.signature.now c.in_ok-signature.field-0 c.in_ok-signature.ensures c.in_default-3.is

pub returns-in_default-4 : goal.returns-in_default-4
returns-in_default-4 c = without_key c.args.key.now c.args.algorithm.now c.args.message.now
    c.args.signature.now c.in_ok-key.field-0 c.in_ok-key.ensures c.in_default-4.is
