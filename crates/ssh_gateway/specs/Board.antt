-- What a gateway goes by: the opens that nobody has decided, and the connections.
use Rattle.std.specs.Prelude.{ℕ, ◌==◌, not, Bool, true, List, [], ◌∷◌, ◌++◌}
use Rattle.std.specs.Prelude.{filter, Option, Some, None, Ok}
use Rattle.std.specs.List.{find, position, slice_get, slice_set}
use Rattle.ssh_wire.specs.declared.channel_id.ChannelId.{ChannelId}
use Rattle.ssh_auth.specs.declared.question.Happening.{Happening}
use Rattle.ssh_auth.specs.declared.question.Happening.TheVariants as what
use Rattle.ssh_auth.specs.declared.question.Lent.{Lent}
use Rattle.ssh_auth.specs.declared.question.Lent.TheVariants.{Opens, Happened}
use Rattle.ssh_auth.specs.declared.question.OpenType.{OpenType}
use Rattle.ssh_auth.specs.declared.question.OpenType.TheVariants as type
use Rattle.ssh_auth.specs.declared.question.Question.{Question}
use Rattle.ssh_auth.specs.declared.question.Question.TheVariants.{Lends}
use Rattle.ssh_gateway.specs.declared.switchboard.Asking.{Asking}
use Rattle.ssh_gateway.specs.declared.switchboard.Connection.{Connection}
use Rattle.ssh_gateway.specs.declared.targets.TargetCall.{TargetCall}
use Rattle.ssh_gateway.specs.declared.targets.TargetCall.TheVariants as call

pub record Board : Type 0 where
  -- the opens of channels to hosts that wait to be decided, the oldest first
  pub undecided : List Asking
  -- the connections that stand, by ascending number
  pub connections : List Connection
  -- the last number that was given to a connection, and to an input of the gateway's own
  pub last_id : ℕ
  pub last_ticket : ℕ
  -- when the last input came that the link gave
  pub moment : ℕ

abbrev pub opening_board : Board
opening_board = record {
  undecided = [];
  connections = [];
  last_id = 0;
  last_ticket = 0;
  moment = 0;
}

-- ---- what comes in on channels

-- it is the connection of this channel
abbrev pub is_on : ChannelId → Connection → Bool
is_on channel one = one.channel.0 == channel.0

-- its peer sends no more
abbrev pub ended_at : Option Connection → (place : ℕ) → List Connection → List Connection
ended_at None place all = all
ended_at (Some one) place all = slice_set all place (record one { peer_ended = true })

abbrev pub ended_by : Option ℕ → List Connection → List Connection
ended_by None all = all
ended_by (Some place) all = ended_at (slice_get all place) place all

-- what happened on this channel is noted
abbrev pub noted_on : ChannelId → Happening → Board → Board
noted_on channel what.Eof board = record board {
  connections = ended_by (position (is_on channel) board.connections) board.connections;
}
noted_on channel what.Close board = record board {
  connections = filter (λ one. not (is_on channel one)) board.connections;
}
noted_on channel _ board = board

-- an open of a channel to a host waits behind those before
abbrev pub noted_open : ChannelId → OpenType → Board → Board
noted_open channel (type.DirectTcpip host port from from_port) board = record board {
  undecided = board.undecided
      ++ record { channel = channel; host = host; port = port } ∷ [];
}
noted_open channel _ board = board

abbrev pub noted_lent : Lent → Board → Board
noted_lent (Opens channel type) board = noted_open channel type board
noted_lent (Happened channel happening) board = noted_on channel happening board
noted_lent _ board = board

abbrev pub noted : Question → Board → Board
noted (Lends lent) board = noted_lent lent board
noted _ board = board

abbrev pub all_noted : List Question → Board → Board
all_noted [] board = board
all_noted (question ∷ questions) board = all_noted questions (noted question board)

-- ---- what the targets are told of it

-- data are written, an end of file finishes, and a close closes
abbrev pub passed_on : Happening → (id : ℕ) → List TargetCall
passed_on (what.Data bytes) id = call.Write id bytes (Ok tt) ∷ []
passed_on what.Eof id = call.Finish id (Ok tt) ∷ []
passed_on what.Close id = call.Close id (Ok tt) ∷ []
passed_on _ id = []

abbrev pub passed_to : Happening → Option Connection → List TargetCall
passed_to happening None = []
passed_to happening (Some one) = passed_on happening one.id

-- on a channel that is no connection's nothing is
abbrev pub due_on : Question → List Connection → List TargetCall
due_on (Lends (Happened channel happening)) connections =
    passed_to happening (find (is_on channel) connections)
due_on _ connections = []

-- in order, each as the board is then
abbrev pub all_due : List Question → Board → List TargetCall
all_due [] board = []
all_due (question ∷ questions) board =
    due_on question board.connections ++ all_due questions (noted question board)
