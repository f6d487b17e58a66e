-- The bytes of a connection, both ways.
use Rattle.std.specs.Prelude.{ℕ, ◌==◌, cond, List, [], ◌∷◌, ◌++◌, flat_map, Option, Some, None}
use Rattle.std.specs.List.{find}
use Rattle.ssh_auth.specs.declared.question.Happening.TheVariants as what
use Rattle.ssh_auth.specs.declared.question.Lent.TheVariants.{Happened}
use Rattle.ssh_auth.specs.declared.question.Question.{Question}
use Rattle.ssh_auth.specs.declared.question.Question.TheVariants.{Lends}
use Rattle.ssh_gateway.specs.declared.switchboard.Connection.{Connection}
use Rattle.ssh_gateway.specs.Board.{Board, is_on, noted}
use Rattle.ssh_gateway.specs.Choosing.{Source, Sends}
use Rattle.ssh_gateway.specs.Turns.{Round, board_within, board_after}

-- these bytes came on the channel of the connection with this number
abbrev pub if_of : (id : ℕ) → Option Connection → (bytes : List ℕ) → List ℕ
if_of id None bytes = []
if_of id (Some one) bytes = cond (one.id == id) bytes []

abbrev pub came_by : (id : ℕ) → Question → Board → List ℕ
came_by id (Lends (Happened channel (what.Data bytes))) board =
    if_of id (find (is_on channel) board.connections) bytes
came_by id _ board = []

abbrev pub came : (id : ℕ) → List Question → Board → List ℕ
came id [] board = []
came id (question ∷ questions) board =
    came_by id question board ++ came id questions (noted question board)

-- the data that the peer sent on its channel while it stood, joined in order
abbrev pub incoming : {E F : Type 0} → (id : ℕ) → Board → List (Round E F) → List ℕ
incoming id board [] = []
incoming id board (round ∷ rounds) = came id round.asked (board_within round board)
    ++ incoming id (board_after round board) rounds

-- the data that were accepted on its channel, joined in order
abbrev pub sent_by : (id : ℕ) → Source → List ℕ
sent_by id (Sends earlier one later bytes) = cond (one.id == id) bytes []
sent_by id _ = []

abbrev pub outgoing : {E F : Type 0} → (id : ℕ) → List (Round E F) → List ℕ
outgoing id rounds = flat_map (λ round. sent_by id round.source) rounds
