-- How a gateway chooses the input of a turn.
use Rattle.std.specs.Prelude.{◌≡◌, ℕ, ◌+◌, ◌&&◌, ◌||◌, not, cond, Bool, true, false, List, [], ◌∷◌}
use Rattle.std.specs.Prelude.{◌++◌, drop, flat_map, Option, Some, None, Ok}
use Rattle.ssh_wire.specs.declared.channel_id.ChannelId.{ChannelId}
use Rattle.ssh_wire.specs.declared.open_failure.ChannelOpenFailure.{ChannelOpenFailure}
use Rattle.ssh_wire.specs.declared.open_failure.ChannelOpenFailure.TheVariants.{
  AdministrativelyProhibited,
  ConnectFailed,
}
use Rattle.ssh_link.specs.Asked.{IsAsked}
use Rattle.ssh_link.specs.declared.command.Command.TheVariants as command
use Rattle.ssh_link.specs.declared.frame.Input.{Input}
use Rattle.ssh_link.specs.declared.frame.InputKind.{InputKind}
use Rattle.ssh_link.specs.declared.frame.InputKind.TheVariants.{Command, OpenReply}
use Rattle.ssh_link.specs.declared.link.TraceEntry.{TraceEntry}
use Rattle.ssh_link.specs.declared.link.TraceEntry.TheVariants.{Took}
use Rattle.ssh_channels.specs.Does.{has}
use Rattle.ssh_channels.specs.Entry.{more_may_come}
use Rattle.ssh_rules.specs.Run.{wants_commands, who}
use Rattle.ssh_rules.specs.World.{World, in_exchange}
use Rattle.ssh_gateway.specs.declared.deciding.Verdict.{Verdict}
use Rattle.ssh_gateway.specs.declared.deciding.Verdict.TheVariants.{Prohibited, Unreachable, Granted}
use Rattle.ssh_gateway.specs.declared.switchboard.Asking.{Asking}
use Rattle.ssh_gateway.specs.declared.switchboard.Connection.{Connection}
use Rattle.ssh_gateway.specs.declared.targets.Arrived.TheVariants as arrived
use Rattle.ssh_gateway.specs.declared.targets.TargetCall.{TargetCall}
use Rattle.ssh_gateway.specs.declared.targets.TargetCall.TheVariants as call
use Rattle.ssh_gateway.specs.Board.{Board}

-- which user may connect to which host and port
abbrev pub Permits : Type 0
Permits = (user : List ℕ) → (host : List ℕ) → (port : ℕ) → Bool

-- what an input comes from; a connection stands between those before it and those behind it
pub data Source : Type 0 where
  -- the oldest open is decided so
  Decides : (asked : Asking) → (verdict : Verdict) → Source
  -- the target of a connection gave these bytes
  Sends : (earlier : List Connection) → (one : Connection) → (later : List Connection)
      → (bytes : List ℕ) → Source
  -- the target of a connection gives no more
  Ends : (earlier : List Connection) → (one : Connection) → (later : List Connection) → Source
  -- both directions of a connection have ended
  Closes : (earlier : List Connection) → (one : Connection) → (later : List Connection) → Source
  -- none of these, and the link is asked
  Waits : Source

-- ---- the decision on an open

-- opens are decided where replies to opens are wanted
abbrev pub to_decide : World → Board → List Asking
to_decide w board = cond (in_exchange w) [] board.undecided

-- a policy that permits this to users, where a user was let in
abbrev pub allows : Permits → (user : Option (List ℕ)) → Asking
    → Bool
allows permits None asked = false
allows permits (Some user) asked = permits user asked.host asked.port

abbrev pub is_prohibited : Verdict → Bool
is_prohibited Prohibited = true
is_prohibited _ = false

-- a connect is asked for unless it is prohibited, with the next number, and its answer is the
-- verdict
abbrev pub connects : (id : ℕ) → Asking → Verdict → List TargetCall
connects id asked Prohibited = []
connects id asked Unreachable = call.Connect id asked.host asked.port (Ok false) ∷ []
connects id asked Granted = call.Connect id asked.host asked.port (Ok true) ∷ []

-- why the open is refused, where it is (RFC 4254 section 5.1)
abbrev pub rejection : Verdict → Option ChannelOpenFailure
rejection Prohibited = Some AdministrativelyProhibited
rejection Unreachable = Some ConnectFailed
rejection Granted = None

-- ---- the connections

-- connections are heeded where commands are wanted
abbrev pub heeded : World → Board → List Connection
heeded w board = cond (wants_commands w) board.connections []

-- data would be accepted on its channel
abbrev pub may_send : World → Connection → Bool
may_send w one = has more_may_come one.channel.0 w.channels.lines

-- both directions have ended
abbrev pub is_over : Connection → Bool
is_over one = one.peer_ended && one.target_ended

-- the target of a connection that may send is read, and this is its answer where there is nothing
abbrev pub most : ℕ
most = 32768

abbrev pub silence : World → Connection → List TargetCall
silence w one = cond (may_send w one) (call.Read one.id most (Ok arrived.Nothing) ∷ []) []

abbrev pub silences : World → List Connection → List TargetCall
silences w connections = flat_map (silence w) connections

-- nothing is to be done for a connection whose target gave nothing: it may send, or has not ended in
-- both directions
abbrev pub IsIdle : World → Connection → Type 0
IsIdle w one = (may_send w one || not (is_over one)) ≡ true

abbrev pub AreIdle : World → List Connection → Type 0
AreIdle w [] = Unit {0}
AreIdle w (one ∷ more) = IsIdle w one × AreIdle w more

-- no open is to be decided, and the connection is the first for which something is to be done
abbrev pub IsFirst : World → Board → (earlier : List Connection) → Connection
    → (later : List Connection) → Type 0
IsFirst w board earlier one later = (to_decide w board ≡ [])
    × (heeded w board ≡ earlier ++ one ∷ later) × AreIdle w earlier

-- the source is chosen in this world and by this board, where the policy permits this, and these
-- calls of the targets are made for it: the oldest open first; else the first connection for which
-- its target has something, or which is over; else the link
abbrev pub IsChosen : Permits → World → Board → Source
    → List TargetCall → Type 0
IsChosen permits w board (Decides asked verdict) calls = (later : List Asking)
    × (to_decide w board ≡ asked ∷ later)
    × (is_prohibited verdict ≡ not (allows permits (who w.user) asked))
    × (calls ≡ connects (board.last_id + 1) asked verdict)
IsChosen permits w board (Sends earlier one later bytes) calls = IsFirst w board earlier one later
    × (may_send w one ≡ true)
    × (calls ≡ silences w earlier ++ call.Read one.id most (Ok (arrived.Bytes bytes)) ∷ [])
IsChosen permits w board (Ends earlier one later) calls = IsFirst w board earlier one later
    × (may_send w one ≡ true)
    × (calls ≡ silences w earlier ++ call.Read one.id most (Ok arrived.End) ∷ [])
IsChosen permits w board (Closes earlier one later) calls = IsFirst w board earlier one later
    × (may_send w one ≡ false) × (is_over one ≡ true) × (calls ≡ silences w earlier)
IsChosen permits w board Waits calls = (to_decide w board ≡ [])
    × AreIdle w (heeded w board) × (calls ≡ silences w (heeded w board))

-- ---- the input

-- the gateway's own input, with this ticket
abbrev pub own_kind : (ticket : ℕ) → Source → Option InputKind
own_kind ticket (Decides asked verdict) = Some (OpenReply ticket
    (record { channel = asked.channel; rejection = rejection verdict; texts = None }))
own_kind ticket (Sends earlier one later bytes) =
    Some (Command ticket (command.Data one.channel bytes))
own_kind ticket (Ends earlier one later) = Some (Command ticket (command.Eof one.channel))
own_kind ticket (Closes earlier one later) = Some (Command ticket (command.Close one.channel))
own_kind ticket Waits = None

-- it comes at the moment of the link's last one; any other is what the link gives, which is asked
-- neither for commands nor for replies
abbrev pub IsGiven : Option InputKind → (moment : ℕ) → Input → Type 0
IsGiven None moment input = IsAsked false false input.kind
IsGiven (Some kind) moment input = input ≡ record { moment = moment; kind = kind }

-- what the link tells where it is asked
abbrev pub took : Source → Input → List TraceEntry
took (Decides asked verdict) input = []
took (Sends earlier one later bytes) input = []
took (Ends earlier one later) input = []
took (Closes earlier one later) input = []
took Waits input = Took false false input ∷ []

-- ---- the board after it

-- a connection for the open that was granted
abbrev pub connected : (id : ℕ) → ChannelId → Connection
connected id channel =
    record { id = id; channel = channel; peer_ended = false; target_ended = false }

abbrev pub decided : ChannelId → Verdict → Board → Board
decided channel Prohibited board = record board {
  undecided = drop 1 board.undecided;
  last_ticket = board.last_ticket + 1;
}
decided channel Unreachable board = record board {
  undecided = drop 1 board.undecided;
  last_id = board.last_id + 1;
  last_ticket = board.last_ticket + 1;
}
decided channel Granted board = record board {
  undecided = drop 1 board.undecided;
  connections = board.connections ++ connected (board.last_id + 1) channel ∷ [];
  last_id = board.last_id + 1;
  last_ticket = board.last_ticket + 1;
}

-- these are the connections, and a command was given
abbrev pub with_connections : List Connection → Board → Board
with_connections connections board = record board {
  connections = connections;
  last_ticket = board.last_ticket + 1;
}

abbrev pub settled : Source → Board → Board
settled (Decides asked verdict) board = decided asked.channel verdict board
settled (Sends earlier one later bytes) board = with_connections board.connections board
settled (Ends earlier one later) board =
    with_connections (earlier ++ record one { target_ended = true } ∷ later) board
settled (Closes earlier one later) board = with_connections (earlier ++ later) board
settled Waits board = board

-- a connection that the gateway itself closed is closed to its target
abbrev pub closed_by : Source → List TargetCall
closed_by (Closes earlier one later) = call.Close one.id (Ok tt) ∷ []
closed_by _ = []
