-- How a table keeps the channels of a connection: it forgets what was sent (RFC 4254 section 5).
use Rattle.std.specs.Prelude.{◌≡◌, ◌≤◌, ◌+◌, ◌&&◌, ◌||◌, ℕ, not, List, [], ◌∷◌, length}
use Rattle.ssh_channels.specs.declared.params.ChannelParams.{ChannelParams}
use Rattle.ssh_channels.specs.declared.replies.Reply.{Reply}
use Rattle.ssh_channels.specs.Replies.{Wanted, held}
use Rattle.ssh_channels.specs.Cut.{left_of}
use Rattle.ssh_channels.specs.Entry.{Entry, IsDeferred, Sound}
use Rattle.ssh_channels.specs.Lines.{Lines}
use Rattle.ssh_channels.specs.Table.{Table}

-- of all replies a table keeps how many they are, and those that did not go out
abbrev pub kept_of : List Reply → Wanted
kept_of replies = record { count = length replies; unsent = held replies }

-- a line of a table is this channel: its credit is what is granted and not framed, what waits is
-- what is left of the accepted chunks after the framed bytes, and an EOF or a CLOSE is deferred
-- that was accepted and not sent
pub record Holds (key : ℕ) (line : ChannelParams) (e : Entry) : Type 0 where
  pub number : key ≡ e.number
  pub own : line.sender_channel.0 ≡ e.number
  pub peer : line.recipient_channel ≡ e.peer
  pub limit : line.recipient_maximum_packet_size ≡ e.limit
  pub packet : line.sender_maximum_packet_size ≡ e.packet
  pub confirmed : line.confirmed ≡ e.confirmed
  pub room : line.sender_window_size ≡ e.room
  pub target : line.target ≡ e.target
  pub replies : line.replies ≡ kept_of e.replies
  pub credit : e.granted ≡ e.framed + line.recipient_window_size
  pub waiting : line.waiting ≡ left_of e.framed e.chunks
  pub pending_eof : line.pending_eof ≡ e.eof && not e.told
  pub pending_close : line.pending_close ≡ e.close
  pub ended : line.ended ≡ e.eof || e.close
  pub sound : Sound e

-- each line is its channel, from a number on, and the numbers ascend
abbrev pub AllHold : (from : ℕ) → List (ℕ × ChannelParams) → List Entry → Type 0
AllHold from [] [] = Unit {0}
AllHold from [] (e ∷ es) = ⊥
AllHold from (line ∷ lines) [] = ⊥
AllHold from (line ∷ lines) (e ∷ es) =
    (from ≤ line.0) × Holds line.0 line.1 e × IsDeferred e × AllHold (line.0 + 1) lines es

-- a table has these channels, pending numbers and staged frames
pub record Stands (t : Table) (l : Lines) : Type 0 where
  pub entries : AllHold 0 t.lines l.entries
  pub pending : t.pending ≡ l.pending
  pub last : t.last ≡ l.last
  pub written : t.staged ≡ l.written
