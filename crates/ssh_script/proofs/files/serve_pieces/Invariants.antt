use Rattle.std.proofs.Common.{drop}
use Rattle.std.specs.String.{string_bytes}
use Rattle.ssh_script.proofs.FilesServed.{IsWrittenTo}
use Rattle.ssh_script.proofs.files.serve_pieces.Given as goal

-- the lines of the pieces so far were written
abbrev pub invariant-loop-piece : goal.invariant-loop-piece
invariant-loop-piece l = IsWrittenTo l.pieces (drop l.piece-index l.pieces) l.server
    (string_bytes l.fn.text) (string_bytes l.text)
