use Rattle.std.proofs.Common.{rules, ◌≡◌, false, ◌∙◌, ap}
use Rattle.std.specs.Prelude.{bytes_eq}
use Rattle.ssh_keys.specs.Algorithms.{algorithm_name}
use Rattle.ssh_auth.proofs.Asks.{other_text}
use Rattle.ssh_keys.proofs.Agreement.{signature_once}
use Rattle.ssh_auth.proofs.Telling.{no_signature, no_key_signature}
use Rattle.ssh_auth.proofs.asked.message_and_signature.Goals as goal

pub returns-in-Err-Encoding-clause-ok : goal.returns-in-Err-Encoding-clause-ok
returns-in-Err-Encoding-clause-ok c = λ signature ends named. no_signature c.args.rest.now
    c.in-Err-Encoding.field-0 c.in-Err-Encoding.field-0-0 c.in-Err-Encoding.field-0-is
    c.in-Err-Encoding.ensures signature ends

pub returns-in-Err-Key-clause-ok : goal.returns-in-Err-Key-clause-ok
returns-in-Err-Key-clause-ok c = λ signature ends named. no_key_signature c.args.rest.now
    c.in-Err-Key.field-0 c.in-Err-Key.field-0-0 c.in-Err-Key.field-0-is
    c.in-Err-Key.ensures signature ends

pub returns-then-ne-clause-ok : goal.returns-then-ne-clause-ok
returns-then-ne-clause-ok c =
    let name = c.in-Ok.signature.name in
    let other : bytes_eq name (algorithm_name c.args.algorithm) ≡ false = search rules in
    λ signature ends named.
    other_text name (algorithm_name c.args.algorithm) other
    (ap (λ s. s.name) (signature_once c.in-Ok.signature signature c.args.rest.now c.in-Ok.ensures ends)
    ∙ named)
