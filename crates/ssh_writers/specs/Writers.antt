-- Who writes on the channels of a hub, and what they put there.
use Rattle.std.specs.Prelude.{◌≡◌, ◌%◌, ℕ, List, [], ◌++◌, replicate, None}
use Rattle.std.specs.Arc.{arc_value}
use mathlib.Core.List.{IsPrefix}
use Rattle.ssh_wire.specs.declared.channel_id.ChannelId.{ChannelId}
use Rattle.ssh_hub.specs.declared.history.Entry.{Entry}
use Rattle.ssh_hub.specs.declared.history.HubCall.{HubCall}
use Rattle.ssh_hub.specs.declared.history.HubReply.{HubReply}
use Rattle.ssh_hub.specs.declared.history.View.{View}
use Rattle.ssh_hub.specs.declared.lock.HubLock.{HubLock}
use Rattle.ssh_hub.specs.Does.{Does, entries}
use Rattle.ssh_hub.specs.Follow.{Follows}
use Rattle.ssh_hub.specs.History.{calls_by}
use Rattle.ssh_hub.specs.Words.{IsSeatOf}
use Rattle.ssh_handles.specs.Writing.{writes, to_write, written}
use Rattle.ssh_handles.specs.Written.{bytes_put}
use Rattle.ssh_writers.specs.declared.writer.Writer.{Writer}
use Rattle.ssh_writers.specs.declared.writer.Written.{Written}

-- the writer is one of this hub
abbrev pub IsWriterOf : HubLock → Writer → Type 0
IsWriterOf lock writer = arc_value writer.post.lock ≡ lock

-- the seat that came back is one of this hub
abbrev pub IsBackOf : HubLock → Written → Type 0
IsBackOf lock back = IsSeatOf lock back.seat

-- how many bytes each writer sends
unfoldable pub bytes_each : ℕ
bytes_each = 100000

-- and which: they tell the channels apart
abbrev pub bytes_for : ChannelId → List ℕ
bytes_for channel = replicate bytes_each (channel.0 % 251)

-- a seat that has made no call
abbrev pub HasMadeNone : View → Type 0
HasMadeNone v = calls_by v.number v.seen ≡ []

-- the seat wrote these bytes on the channel (RFC 4254 section 5.2), and then made other calls
unfoldable pub WritesFirst : ChannelId → List ℕ → View → View → Type 0
WritesFirst channel bytes v w = (calls more : List (HubCall × HubReply))
    × Follows (writes channel None) (to_write bytes) calls written
    × Does v (calls ++ more) w

-- in this history the calls of one seat begin with those that write these bytes on the channel, and
-- what these put is the bytes, in order
pub record HasWritten (channel : ChannelId) (bytes : List ℕ) (log : List Entry) : Type 0 where
  pub number : ℕ
  pub calls : List (HubCall × HubReply)
  pub stand : IsPrefix (entries number calls) (calls_by number log)
  pub follow : Follows (writes channel None) (to_write bytes) calls written
  pub put : bytes_put calls ≡ bytes
