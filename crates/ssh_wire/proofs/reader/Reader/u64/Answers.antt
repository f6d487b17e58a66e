-- The eight bytes that were taken spell the number.
use Rattle.std.proofs.Common.{rules}
use Rattle.ssh_wire.proofs.Numbers.{spells_long}
use Rattle.ssh_wire.proofs.reader.Reader.u64.Goals as goal

pub returns-clause-ok : goal.returns-clause-ok
returns-clause-ok c = (
  c.in_ok-piece.piece.now,
  (spells_long c.in_ok-piece.piece.now c.from_be_bytes.result
      c.in_ok-piece.ensures.ok.1 (search rules) c.from_be_bytes.type_inv c.from_be_bytes.ensures),
  c.in_ok-piece.ensures.ok.0,
)
