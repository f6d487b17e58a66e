-- What was sent on the channels after each input of a run, and at each moment of the last one (RFC
-- 4254 section 5).
use Rattle.std.specs.Prelude.{◌≡◌, ◌≤◌, ℕ, List, ◌∷◌, ◌++◌, map, flat_map, take, Some, None}
use Rattle.std.specs.Prelude.{◌==◌, ◌⊎◌, [], Bool, true, false}
use Rattle.ssh_link.specs.Frames.{Frame}
use Rattle.ssh_link.specs.declared.frame.InputKind.{InputKind}
use Rattle.ssh_link.specs.declared.frame.InputKind.TheVariants.{Payload}
use Rattle.ssh_link.specs.declared.link.TraceEntry.{TraceEntry}
use Rattle.ssh_link.specs.declared.link.TraceEntry.TheVariants.{Sent}
use Rattle.ssh_auth.specs.Plan.{Plan, Event, Begins, Follows}
use Rattle.ssh_auth.specs.Publickey.{Acceptance}
use Rattle.ssh_channels.specs.Entry.{Entry, IsDue, accepted, due}
use Rattle.ssh_channels.specs.Lines.{Left, Lines, find, last_left}
use Rattle.ssh_channels.specs.Sent.{Ledgered, Each, Sends, StartsWith, IsUnopened, AllRefuse}
use Rattle.ssh_channels.specs.Sent.{RepliesInOrder, StartsInOrder}
use Rattle.ssh_channels.specs.Sent.{is_close, message_of, since, farewell}
use Rattle.ssh_rules.specs.declared.error.Flow.{Flow}
use Rattle.ssh_rules.specs.Exchanged.{ends_exchange}
use Rattle.ssh_rules.specs.Outcome.{Outcome, Ends}
use Rattle.ssh_rules.specs.Run.{Turn, Run, Owes, entries}
use Rattle.ssh_rules.specs.Cause.{comes}
use Rattle.ssh_rules.specs.World.{Settings, World, in_exchange, opening_world}

-- what was sent, and behind it what was written and waits for the end of an exchange of keys
abbrev pub outgoing : (past : List TraceEntry) → Lines → List TraceEntry
outgoing past l = past ++ map Sent l.written

-- of each channel, and of each number that was one's, when this was told
pub record SentSo (past : List TraceEntry) (l : Lines) : Type 0 where
  -- at every moment, also in an exchange of keys and in the midst of an input, from the opening of
  -- a channel on: what had been sent on it is the start of what it accepted
  pub starts : (n : ℕ) → (e : Entry) → (seen rest : List TraceEntry) → past ≡ seen ++ rest
      → find n l.entries ≡ Some e → IsUnopened n (outgoing rest l)
      → StartsWith e (take e.framed (accepted e)) (since n seen)
  -- and the replies that had been sent on it are those to its first requests that want one, to each
  -- as it was settled, in the order of the requests, and none behind one that is owed (section 5.4)
  pub replied : (n : ℕ) → (e : Entry) → (seen rest : List TraceEntry) → past ≡ seen ++ rest
      → find n l.entries ≡ Some e → IsUnopened n (outgoing rest l)
      → StartsInOrder e (since n seen)
  -- so are those that were sent on a channel that left, before its CLOSE
  pub replied_before : (n : ℕ) → (gone : Left) → find n l.entries ≡ None
      → last_left n l.left ≡ Some gone
      → (before after : List Frame)
      × (since n (outgoing past l) ≡ before ++ (farewell gone.entry ++ after))
      × RepliesInOrder gone.entry before
  -- of what a channel accepted no more is sent than the peer granted
  pub within : Each (λ e. e.framed ≤ e.granted) l
  -- behind a CLOSE nothing goes out on its number but an open, or the answer to one (section 5.3)
  pub last : (n : ℕ) → (front back : List Frame) → (close : Frame)
      → is_close close.payload ≡ true → since n (outgoing past l) ≡ front ++ close ∷ back
      → (find n l.entries ≡ None) × AllRefuse back
  -- and before a CLOSE that does not answer the peer's, all bytes go out that the channel accepted
  pub whole : (n : ℕ) → (gone : Left) → find n l.entries ≡ None → last_left n l.left ≡ Some gone
      → gone.by_peer ≡ false
      → (before after : List Frame)
      × (since n (outgoing past l) ≡ before ++ (farewell gone.entry ++ after))
      × Sends gone.entry (accepted gone.entry) before

-- where all that is due went out: exactly the first min(accepted, granted) bytes of each channel,
-- and each of its replies that none before it keeps back
abbrev pub SentAll : (past : List TraceEntry) → Lines → Type 0
SentAll past l = (n : ℕ) → (e : Entry) → find n l.entries ≡ Some e
    → Sends e (due e) (since n past) × RepliesInOrder e (since n past)

-- a KEXINIT, whose number is 20, begins an exchange of keys (RFC 4253 section 7.1)
abbrev pub is_kexinit : InputKind → Bool
is_kexinit (Payload payload) = message_of payload == 20
is_kexinit _ = false

-- the last of these inputs came outside an exchange of keys and began none, or it ended one: none
-- ran as its frames were handed on, but this side may have begun one behind them
abbrev pub EndsOutside : {E F : Type 0} → List (Turn E F) → Type 0
EndsOutside {E} {F} turns = (earlier : List (Turn E F)) × (last : Turn E F)
    × (turns ≡ earlier ++ last ∷ [])
    × (((last.replies ≡ true) × (is_kexinit last.input.kind ≡ false))
    ⊎ (ends_exchange last.events ≡ true))

-- no exchange of keys ran as the frames of the last of these inputs were handed on
abbrev pub IsOut : {E F : Type 0} → List (Turn E F) → World → Type 0
IsOut turns world = (in_exchange world ≡ false) ⊎ EndsOutside turns

-- in the world after these inputs, what was sent on each channel is what it has to be, and where no
-- exchange of keys ran as the last frames were handed on, all that is due is sent
pub record Ledgered_after {E F : Type 0} (accepts : Acceptance) (settings : Settings)
    (turns : List (Turn E F)) : Type 0 where
  pub world : World
  pub run : Run accepts (opening_world settings) turns world
  pub kept : Ledgered world.channels.lines (flat_map entries turns)
  pub due : IsOut turns world → Each IsDue world.channels.lines
  -- what that says of the frames that were sent
  pub sent : SentSo (flat_map entries turns) world.channels.lines
  pub sent_all : IsOut turns world → SentAll (flat_map entries turns) world.channels.lines

-- ---- the last input

-- when this was told the channels had sent what they have to, with the frames that were written
-- counted as sent; and what that says of the frames that were sent
abbrev pub IsLedgered : List TraceEntry → Lines → Type 0
IsLedgered told l = Ledgered l told × SentSo told l

-- what the link was told of these inputs, and of one more in which these events came
abbrev pub told_with : {E F : Type 0} → List (Turn E F) → Turn E F → List (Event E F)
    → List TraceEntry
told_with turns turn events = flat_map entries turns ++ entries (record turn { events = events })

-- of one more input, taken in this world behind these inputs, as far as it came
pub record IsNextLedgered {E F : Type 0} (accepts : Acceptance) (w : World)
    (turns : List (Turn E F)) (turn : Turn E F) : Type 0 where
  -- at each moment of it the channels, as they were before it, have sent what they have to; or it
  -- can come to its end from there
  pub underway : (plan : Plan Outcome) (past rest : List (Event E F))
      → Owes accepts w turn.input plan → turn.events ≡ past ++ rest → Begins plan past
      → IsLedgered (told_with turns turn past) w.channels.lines
      ⊎ ((more : List (Event E F)) × (flow : Flow) × (world : World)
      × Follows plan (past ++ more) (comes flow world))
  -- and however it comes there, whether the run then goes on or is over, the channels, as they are
  -- there, have sent what they have to, at that moment too
  pub sent : (plan : Plan Outcome) (past rest more : List (Event E F)) (flow : Flow)
      (world : World) → Owes accepts w turn.input plan → turn.events ≡ past ++ rest
      → Follows plan (past ++ more) (comes flow world)
      → IsLedgered (told_with turns turn (past ++ more)) world.channels.lines
  -- and where it ended the run outside an exchange of keys, all that is due is sent
  pub sent_all : (plan : Plan Outcome) (world : World) → Owes accepts w turn.input plan
      → Follows plan turn.events (Ends world) → in_exchange world ≡ false
      → SentAll (told_with turns turn turn.events) world.channels.lines
