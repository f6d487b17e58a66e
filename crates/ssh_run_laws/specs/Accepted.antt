-- The data that a channel accepted are those of the commands that were accepted on it, and what was
-- sent on its number holds the first of them (RFC 4254 section 5.2).
use Rattle.std.specs.Prelude.{◌≡◌, ◌==◌, ◌||◌, ◌⊎◌, ℕ, Bool, List, ◌++◌, map, flat_map}
use Rattle.std.specs.List.{filter}
use Rattle.ssh_wire.specs.Messages.{channel_data, channel_extended_data}
use Rattle.ssh_link.specs.Frames.{Frame}
use Rattle.ssh_link.specs.declared.link.TraceEntry.{TraceEntry}
use Rattle.ssh_auth.specs.Plan.{Plan, Event, Begins, Follows}
use Rattle.ssh_auth.specs.Publickey.{Acceptance}
use Rattle.ssh_channels.specs.declared.chunk.Chunk.{Chunk}
use Rattle.ssh_channels.specs.declared.chunk.DataKind.{DataKind}
use Rattle.ssh_channels.specs.Entry.{joined}
use Rattle.ssh_channels.specs.Layout.{data_frame}
use Rattle.ssh_channels.specs.Sent.{IsUnopened, message_of, since}
use Rattle.ssh_rules.specs.declared.error.Flow.{Flow}
use Rattle.ssh_rules.specs.Cause.{comes}
use Rattle.ssh_rules.specs.Ledger.{outgoing, told_with}
use Rattle.ssh_rules.specs.Outcome.{Outcome}
use Rattle.ssh_rules.specs.Run.{Owes, Turn, Run, entries}
use Rattle.ssh_rules.specs.World.{Settings, World, opening_world}
use Rattle.ssh_run_laws.specs.Channels.{accepted_on, bytes_on}
use Rattle.ssh_run_laws.specs.Deeds.{deeds}

-- CHANNEL_DATA is 94, CHANNEL_EXTENDED_DATA 95
abbrev pub is_data : Frame → Bool
is_data frame = (message_of frame.payload == channel_data.number)
    || (message_of frame.payload == channel_extended_data.number)

-- the data frames among these, of this side's channel of the number, hold the first of these bytes,
-- in order and each in the message of its kind
abbrev pub HoldFirst : (number : ℕ) → List (DataKind × ℕ) → List Frame → Type 0
HoldFirst number bytes frames = (peer : ℕ) × (pieces : List Chunk) × (later : List (DataKind × ℕ))
    × (filter is_data frames ≡ map (data_frame number peer) pieces)
    × (joined pieces ++ later ≡ bytes)

-- after these inputs
pub record IsAccepted {E F : Type 0} (accepts : Acceptance) (settings : Settings)
    (turns : List (Turn E F)) : Type 0 where
  pub world : World
  pub run : Run accepts (opening_world settings) turns world
  -- the channel of each number, or the last one that had it, accepted the data of the commands that
  -- were accepted there since it was opened, one after another
  pub bytes : (number : ℕ)
      → bytes_on number world.channels.lines ≡ accepted_on number (flat_map deeds turns)
  -- and at each moment since it was opened the data frames on its number hold the first of them
  pub sent : (number : ℕ) (seen rest : List TraceEntry) → flat_map entries turns ≡ seen ++ rest
      → IsUnopened number (outgoing rest world.channels.lines)
      → HoldFirst number (accepted_on number (flat_map deeds turns)) (since number seen)

-- of one more input, taken in this world behind these inputs, as far as it came
pub record IsNextAccepted {E F : Type 0} (accepts : Acceptance) (w : World)
    (turns : List (Turn E F)) (turn : Turn E F) : Type 0 where
  -- at each moment of it the data frames hold the first of the bytes that were accepted before it;
  -- or it can come to its end from there
  pub underway : (plan : Plan Outcome) (past rest : List (Event E F))
      → Owes accepts w turn.input plan → turn.events ≡ past ++ rest → Begins plan past
      → ((number : ℕ) (seen later : List TraceEntry) → told_with turns turn past ≡ seen ++ later
      → IsUnopened number (outgoing later w.channels.lines)
      → HoldFirst number (accepted_on number (flat_map deeds turns)) (since number seen))
      ⊎ ((more : List (Event E F)) × (flow : Flow) × (world : World)
      × Follows plan (past ++ more) (comes flow world))
  -- and however it comes there, they hold the first of these and of what was accepted in it, at that
  -- moment too
  pub sent : (plan : Plan Outcome) (past rest more : List (Event E F)) (flow : Flow)
      (world : World) → Owes accepts w turn.input plan → turn.events ≡ past ++ rest
      → Follows plan (past ++ more) (comes flow world)
      → (number : ℕ) (seen later : List TraceEntry)
      → told_with turns turn (past ++ more) ≡ seen ++ later
      → IsUnopened number (outgoing later world.channels.lines)
      → HoldFirst number (accepted_on number
      (flat_map deeds turns ++ deeds (record turn { events = past ++ more }))) (since number seen)
