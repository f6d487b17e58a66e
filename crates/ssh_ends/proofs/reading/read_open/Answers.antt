use Rattle.std.proofs.Common.{◌≡◌, ◌⊎◌, sym, subst}
use Rattle.ssh_wire.specs.Open.{MisfitsOpen}
use Rattle.ssh_wire.specs.declared.error.LayoutError.TheVariants.{Wire}
use Rattle.ssh_wire.specs.declared.error.WireError.TheVariants.{NoMemory}
use Rattle.ssh_ends.specs.Incoming.{IsNo}
use Rattle.ssh_ends.proofs.Silences.{unread_open}
use Rattle.ssh_ends.proofs.reading.read_open.Goals as goal

pub returns-in-Err-clause-no : goal.returns-in-Err-clause-no
returns-in-Err-clause-no c =
    let why = c.in-Err.why in
    subst (IsNo 90 c.args.fields.now) (sym c.refusal.ensures)
    (unread_open c.args.fields.now why
    (subst (λ left. (why ≡ Wire NoMemory) ⊎ MisfitsOpen left why) c.new-reader.ensures.left
    c.in-Err.ensures.misfit))
