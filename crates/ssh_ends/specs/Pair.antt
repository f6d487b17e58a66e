-- Two ends of a connection, which take one another's messages in order (RFC 4254 section 5).
use Rattle.std.specs.Prelude.{ℕ, ◌+◌, ◌==◌, ◌||◌, Bool, cond, List, [], ◌∷◌, ◌++◌}
use Rattle.std.specs.Prelude.{Option, Some, None}
use Rattle.std.specs.List.{list_any}
use Rattle.ssh_channels.specs.declared.params.ChannelParams.{ChannelParams}
use Rattle.ssh_channels.specs.declared.chunk.Chunk.{Chunk}
use Rattle.ssh_channels.specs.declared.chunk.DataKind.{DataKind}
use Rattle.ssh_channels.specs.Line.{opening, established}
use Rattle.ssh_ends.specs.End.{unless_dropped}
use Rattle.ssh_ends.specs.Saying.{Saying, Open, Confirm, Data, Message, letter, letters, is_close}
use Rattle.ssh_ends.specs.Saying.{code_of}
use Rattle.ssh_ends.specs.Change.{Change, hearing, coming}
use Rattle.ssh_ends.specs.declared.end.Delivered.{Delivered}

-- one side. Of each channel by this side's number:
pub record Party : Type 0 where
  -- the channel, where the side has it
  pub line : ℕ → Option ChannelParams
  -- where it is opened, the number that the other side has for it
  pub partner : ℕ → Option ℕ
  -- the bytes of data that were accepted on it, and that were delivered, each with its kind
  pub accepted : ℕ → List (DataKind × ℕ)
  pub delivered : ℕ → List (DataKind × ℕ)
  -- a CLOSE was written on it
  pub closed : ℕ → Bool
  -- and of all channels: the number that was drawn last, and the messages that the other side has
  -- not taken
  pub last : ℕ
  pub flight : List Message

-- the side that acts, and the other one
pub record Pair : Type 0 where
  pub near : Party
  pub far : Party

abbrev pub turned : Pair → Pair
turned w = record { near = w.far; far = w.near }

-- the same but for this number
abbrev pub at : {A : Type 0} → (k : ℕ) → A → (ℕ → A) → ℕ → A
at k value old n = cond (n == k) value (old n)

-- what its channel k, which is l, comes to
abbrev pub changed : (k : ℕ) → ChannelParams → Change → Party → Party
changed k l change p = record p {
  line = at k change.after p.line;
  accepted = at k (p.accepted k ++ change.accepts) p.accepted;
  delivered = at k (p.delivered k ++ change.delivers) p.delivered;
  closed = at k (p.closed k || list_any is_close change.says) p.closed;
  flight = p.flight ++ letters k l.recipient_channel change.says;
}

abbrev pub changed_at : (k : ℕ) → (ChannelParams → Change) → Option ChannelParams → Party → Party
changed_at k change None p = p
changed_at k change (Some l) p = changed k l (change l) p

abbrev pub on_channel : (k : ℕ) → (ChannelParams → Change) → Party → Party
on_channel k change p = changed_at k change (p.line k) p

-- a channel of the next number, and a message about it
abbrev pub begins : ChannelParams → (peer : ℕ) → Saying → Party → Party
begins l peer said p = record p {
  line = at (p.last + 1) (Some l) p.line;
  last = p.last + 1;
  flight = p.flight ++ letter (p.last + 1) peer said ∷ [];
}

-- this is left of what is under way to the other side
abbrev pub left : List Message → Party → Party
left rest p = record p { flight = rest }

abbrev pub partnered : (k peer : ℕ) → Party → Party
partnered k peer p = record p { partner = at k (Some peer) p.partner }

-- the near side opens a channel, with its window and its packet size
abbrev pub opens : (window packet : ℕ) → Pair → Pair
opens window packet w = record w {
  near = begins (opening (w.near.last + 1) window packet) 0 (Open window packet) w.near;
}

-- it takes an open of the other side's channel own, which is then opened
abbrev pub welcomes : (window packet : ℕ) → (own theirs limit : ℕ) → List Message → Pair → Pair
welcomes window packet own theirs limit rest w = record {
  near = partnered (w.near.last + 1) own
      (begins (established own (record { 0 = w.near.last + 1 }) theirs window limit packet) own
      (Confirm window packet) w.near);
  far = partnered own (w.near.last + 1) (left rest w.far);
}

-- it takes another message
abbrev pub hears : (own peer : ℕ) → Saying → List Message → Pair → Pair
hears own peer said rest w = record {
  near = on_channel peer (hearing own said) w.near;
  far = left rest w.far;
}

abbrev pub takes_said : (window packet : ℕ) → (own peer : ℕ) → Saying → List Message → Pair → Pair
takes_said window packet own peer (Open theirs limit) rest w =
    welcomes window packet own theirs limit rest w
takes_said window packet own peer said rest w = hears own peer said rest w

-- it takes the first message that is under way to it
abbrev pub takes_of : (window packet : ℕ) → List Message → Pair → Pair
takes_of window packet [] w = w
takes_of window packet (m ∷ rest) w = takes_said window packet m.own m.peer m.saying rest w

abbrev pub takes : (window packet : ℕ) → Pair → Pair
takes window packet w = takes_of window packet w.far.flight w

-- ---- what the near side delivers then

abbrev pub gives_at : (k : ℕ) → Chunk → Option ChannelParams → Option Delivered
gives_at k piece None = None
gives_at k piece (Some l) = unless_dropped (coming piece l) (record {
  channel = record { 0 = k };
  ext = code_of piece.kind;
  bytes = piece.bytes;
})

abbrev pub gives_said : (peer : ℕ) → Saying → Party → Option Delivered
gives_said peer (Data piece) p = gives_at peer piece (p.line peer)
gives_said peer said p = None

abbrev pub gives_of : List Message → Party → Option Delivered
gives_of [] p = None
gives_of (m ∷ rest) p = gives_said m.peer m.saying p

abbrev pub gives : Pair → Option Delivered
gives w = gives_of w.far.flight w.near
