use Rattle.std.proofs.Common.{subst}
use Rattle.ssh_scene.specs.Grammar.{IsHexIn}
use Rattle.ssh_scene.proofs.Signatures.{no_digits, no_key}
use Rattle.ssh_scene.proofs.grammar.key_in.Goals as goal

pub returns-in_default : goal.returns-in_default
returns-in_default c = no_digits c.args.digits.now c.in_ok-blob.field-0 c.in_ok-blob.ensures
    c.in_default.is

pub returns : goal.returns
returns c = no_key c.args.digits.now c.in-Some.blob c.as_slice.result.now c.decode.result
    c.in-Err.why (subst (IsHexIn c.args.digits.now) c.in-Some.is c.in_ok-blob.ensures)
    c.as_slice.ensures
    c.in-Err.is c.in_default-why.not-NoMemory c.decode.ensures.exactly
