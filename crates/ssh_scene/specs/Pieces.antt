-- A script of what the client of a stream sends: lines that bring one piece each, as the client of a
-- file server sends it.
use Rattle.std.specs.Prelude.{ℕ, List, [], ◌∷◌, ◌++◌, Option, Some, None, Result, Ok, Err}
use Rattle.std.specs.Prelude.{Vec}
use Rattle.std.specs.Global.{Global}
use Rattle.ssh_scene.specs.declared.lines.InputLine.{InputLine}
use Rattle.ssh_scene.specs.declared.lines.InputLine.TheVariants as input
use Rattle.ssh_scene.specs.declared.lines.Line.TheVariants as line
use Rattle.ssh_scene.specs.Scene.{Taking, GivesBy}

-- the piece that an input line brings; the lines of a session are bad here
abbrev pub piece_of : InputLine → Option (List ℕ)
piece_of (input.Recv bytes) = Some bytes
piece_of one = None

abbrev pub with_piece : List (List ℕ) → Option (List ℕ) → Option (List (List ℕ))
with_piece pieces None = None
with_piece pieces (Some piece) = Some (pieces ++ piece ∷ [])

-- the pieces after one more line; None where it is bad
abbrev pub with_stream_line : Taking (List (List ℕ))
with_stream_line pieces None = None
with_stream_line pieces (Some line.Passed) = Some pieces
with_stream_line pieces (Some (line.Setting one)) = None
with_stream_line pieces (Some (line.Input one)) = with_piece pieces (piece_of one)

-- the lines bring these pieces, or this is the number of the first bad one
abbrev pub BringsPieces : List (List ℕ) → Result (List (List ℕ)) ℕ → Type 0
BringsPieces lines read = GivesBy with_stream_line 0 [] lines read

-- as the code holds them
abbrev pub pieces_seen : Result (Vec (List ℕ) Global) ℕ → Result (List (List ℕ)) ℕ
pieces_seen (Ok pieces) = Ok pieces.items
pieces_seen (Err number) = Err number
