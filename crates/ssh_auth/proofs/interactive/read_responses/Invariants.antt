use Rattle.std.proofs.Common.{◌≡◌, length, map}
use Rattle.ssh_wire.specs.Field.{SpellsAll}
use Rattle.ssh_auth.specs.Response.{strings, values}
use Rattle.ssh_auth.proofs.interactive.read_responses.Given as goal

-- so many strings were read, one after another
abbrev pub invariant-loop : goal.invariant-loop
invariant-loop l =
    let texts = map (λ text. text.now) l.responses.items in
    (length l.responses.items ≡ l.counter) × SpellsAll (strings texts) (values texts)
    l.initial.reader.left l.reader.left
