-- The events of two ends, and what holds after each list of them.
use Rattle.std.specs.Prelude.{◌≡◌, ◌<◌, ◌+◌, ◌^◌, ℕ, true, false, List, [], ◌∷◌, ◌++◌, length}
use Rattle.std.specs.Prelude.{Option, Some, None}
use Rattle.ssh_channels.specs.declared.params.ChannelParams.{ChannelParams}
use Rattle.ssh_channels.specs.declared.chunk.Chunk.{Chunk}
use Rattle.ssh_channels.specs.declared.chunk.DataKind.{DataKind}
use Rattle.ssh_channels.specs.Entry.{joined}
use Rattle.ssh_channels.specs.Layout.{chunk}
use Rattle.ssh_channels.specs.Window as window
use Rattle.ssh_ends.specs.End.{kind_of}
use Rattle.ssh_ends.specs.Saying.{Data, Message}
use Rattle.ssh_ends.specs.Change.{Change, sending, ending, closing, aiming}
use Rattle.ssh_ends.specs.Pair.{Party, Pair, turned, on_channel, opens, takes, gives}
use Rattle.ssh_ends.specs.Strand.{IsCoded, data_in, granted_in, said_on}
use Rattle.ssh_ends.specs.declared.end.Delivered.{Delivered}
use Rattle.ssh_ends.specs.declared.event.EndEvent.{EndEvent}
use Rattle.ssh_ends.specs.declared.event.EndEvent.TheVariants.{Open, Eof, Close, Target, Move}
use Rattle.ssh_ends.specs.declared.event.EndEvent.TheVariants as event
use Rattle.ssh_ends.specs.declared.event.Side.{Side}
use Rattle.ssh_ends.specs.declared.event.Side.TheVariants.{A, B}

abbrev pub other : Side → Side
other A = B
other B = A

-- the side that the event is about: which accepts something, or takes a message
abbrev pub actor : EndEvent → Side
actor (Open side) = side
actor (event.Data side channel ext bytes) = side
actor (Eof side channel) = side
actor (Close side channel) = side
actor (Target side channel target) = side
actor (Move side) = other side

abbrev pub alone : (ℕ → (ChannelParams → Change) → Pair → Pair)
alone k change w = record w { near = on_channel k change w.near }

-- what it makes of the two, the actor being the near one
abbrev pub acts : (window packet : ℕ) → EndEvent → Pair → Pair
acts window packet (Open side) w = opens window packet w
acts window packet (event.Data side channel ext bytes) w =
    alone channel.0 (sending (chunk (kind_of ext) bytes)) w
acts window packet (Eof side channel) w = alone channel.0 ending w
acts window packet (Close side channel) w = alone channel.0 closing w
acts window packet (Target side channel target) w = alone channel.0 (aiming target) w
acts window packet (Move side) w = takes window packet w

-- of A and B, A is the near one
abbrev pub seen_by : Side → Pair → Pair
seen_by A w = w
seen_by B w = turned w

abbrev pub happens : (window packet : ℕ) → EndEvent → Pair → Pair
happens window packet e w =
    seen_by (actor e) (acts window packet e (seen_by (actor e) w))

-- what the actor delivers
abbrev pub gives_now : EndEvent → Pair → Option Delivered
gives_now (Move side) w = gives w
gives_now e w = None

abbrev pub delivers : EndEvent → Pair → Option Delivered
delivers e w = gives_now e (seen_by (actor e) w)

abbrev pub new_party : Party
new_party = record {
  line = λ n. None;
  partner = λ n. None;
  accepted = λ n. [];
  delivered = λ n. [];
  closed = λ n. false;
  last = 1;
  flight = [];
}

abbrev pub new_pair : Pair
new_pair = record { near = new_party; far = new_party }

-- these events, one after another
abbrev pub run_on : (window packet : ℕ) → List EndEvent → Pair → Pair
run_on window packet [] w = w
run_on window packet (e ∷ events) w =
    run_on window packet events (happens window packet e w)

abbrev pub after : (window packet : ℕ) → List EndEvent → Pair
after window packet events = run_on window packet events new_pair

-- data type codes and targets are numbers of four bytes
abbrev pub IsRanged : EndEvent → Type 0
IsRanged (event.Data side channel ext bytes) = IsCoded (kind_of ext)
IsRanged (Target side channel target) = target < 2 ^ 32
IsRanged e = Unit {0}

abbrev pub AreRanged : List EndEvent → Type 0
AreRanged [] = Unit {0}
AreRanged (e ∷ events) = IsRanged e × AreRanged events

-- ---- the promise

abbrev pub IsPrefixOf : (delivered accepted : List (DataKind × ℕ)) → Type 0
IsPrefixOf delivered accepted = (rest : List (DataKind × ℕ)) × (accepted ≡ delivered ++ rest)

-- of a channel that p calls n and q calls m: what q delivered, what is under way to it and what
-- waits at p are, joined in this order, all that p accepted; and the bytes that p may still send,
-- those under way and those that are granted under way add up to what q has room for
pub record IsWhole (n m : ℕ) (p q : Party) : Type 0 where
  pub sender : ChannelParams
  pub taker : ChannelParams
  pub at_sender : p.line n ≡ Some sender
  pub at_taker : q.line m ≡ Some taker
  pub bytes : p.accepted n
      ≡ (q.delivered m ++ data_in (said_on n p.flight)) ++ joined sender.waiting
  pub sum : sender.recipient_window_size
      + (length (data_in (said_on n p.flight)) + granted_in (said_on m q.flight))
      ≡ taker.sender_window_size

-- what goes from p to q
pub record Delivers (p q : Party) : Type 0 where
  -- on each opened channel what was delivered is the first part of what was accepted
  pub in_order : (n m : ℕ) → p.partner n ≡ Some m → IsPrefixOf (q.delivered m) (p.accepted n)
  -- while neither side wrote a CLOSE for it, nothing is lost
  pub whole : (n m : ℕ) → p.partner n ≡ Some m → p.closed n ≡ false → q.closed m ≡ false
      → IsWhole n m p q
  -- data that come to a channel are not larger than its room
  pub fits : (first : Message) (rest : List Message) (piece : Chunk) (l : ChannelParams)
      → p.flight ≡ first ∷ rest → first.saying ≡ Data piece → q.line first.peer ≡ Some l
      → window.fits (length piece.bytes) l ≡ true

abbrev pub Holds : Pair → Type 0
Holds w = Delivers w.near w.far × Delivers w.far w.near

-- each side has drawn fewer than 2^32 - 1 numbers, so that none was drawn twice
pub record FewDraws (w : Pair) : Type 0 where
  pub near : w.near.last < 2 ^ 32
  pub far : w.far.last < 2 ^ 32

-- the law of two ends, for each list of events
abbrev pub HoldsOfAll : (Pair → Type 0) → Type 0
HoldsOfAll Law = (window packet : ℕ) (events : List EndEvent) → window < 2 ^ 32 → 0 < packet
    → packet < 2 ^ 32 → AreRanged events → Law (after window packet events)
