-- What holds of two ends at every moment.
use Rattle.std.specs.Prelude.{◌≡◌, ◌≤◌, ◌<◌, ◌⊎◌, ◌^◌, ℕ, Bool, true, false, List, [], ◌∷◌}
use Rattle.std.specs.Prelude.{Option, Some, None}
use Rattle.ssh_channels.specs.declared.params.ChannelParams.{ChannelParams}
use Rattle.ssh_ends.specs.Saying.{Saying, Open, Confirm, Data, Message, is_open}
use Rattle.ssh_ends.specs.Pair.{Party, Pair}
use Rattle.ssh_ends.specs.Strand.{IsCoded, Strand, direction, said_on}

-- what may be said on a channel that is opened
abbrev pub IsSaid : Saying → Type 0
IsSaid (Open window packet) = ⊥
IsSaid (Confirm window packet) = ⊥
IsSaid (Data piece) = IsCoded piece.kind
IsSaid said = Unit {0}

abbrev pub AreSaid : List Saying → Type 0
AreSaid [] = Unit {0}
AreSaid (said ∷ sayings) = IsSaid said × AreSaid sayings

-- it begins with the confirmation
abbrev pub IsGreeting : List Saying → Type 0
IsGreeting (Confirm window packet ∷ sayings) =
    (0 < packet) × (packet < 2 ^ 32) × AreSaid sayings
IsGreeting sayings = ⊥

-- what comes to a side by what it knows of its channel: one that waits for its confirmation has
-- nothing to send, and no credit
abbrev pub HearsOf : (confirmed : Bool) → (peer : ℕ) → ChannelParams → List Saying → Type 0
HearsOf true peer l inward = (l.recipient_channel ≡ peer) × AreSaid inward
HearsOf false peer l inward =
    (l.waiting ≡ []) × (l.recipient_window_size ≡ 0) × IsGreeting inward

abbrev pub Hears : (peer : ℕ) → Option ChannelParams → List Saying → Type 0
Hears peer None inward = AreSaid inward
Hears peer (Some l) inward = HearsOf l.confirmed peer l inward

-- a channel that p calls n and q calls m, as p has it
pub record Half (n m : ℕ) (p q : Party) : Type 0 where
  pub strand : Strand (direction n m p q)
  pub hears : Hears m (p.line n) (said_on m q.flight)
  pub closed : p.line n ≡ None → p.closed n ≡ true

-- a number on which nothing was said
pub record IsFresh (n : ℕ) (p : Party) : Type 0 where
  pub line : p.line n ≡ None
  pub accepted : p.accepted n ≡ []
  pub delivered : p.delivered n ≡ []
  pub said : said_on n p.flight ≡ []

-- a channel whose open is under way
pub record IsAsked (n : ℕ) (p : Party) : Type 0 where
  pub params : ChannelParams
  pub packet : ℕ
  pub said : said_on n p.flight ≡ Open params.sender_window_size packet ∷ []
  pub line : p.line n ≡ Some params
  pub drawn : n ≤ p.last
  pub accepted : p.accepted n ≡ []
  pub delivered : p.delivered n ≡ []
  -- it waits for its confirmation, and has nothing to send
  pub confirmed : params.confirmed ≡ false
  pub credit : params.recipient_window_size ≡ 0
  pub waiting : params.waiting ≡ []
  pub small : params.sender_window_size < 2 ^ 32
  pub aimed : params.target < 2 ^ 32
  pub positive : 0 < packet
  pub fits : packet < 2 ^ 32

abbrev pub Stands : (n : ℕ) → Party → Option ℕ → Type 0
Stands n p None = IsFresh n p ⊎ IsAsked n p
Stands n p (Some m) = n ≤ p.last

-- each message is an open, or goes to the number that the other side has for the channel
abbrev pub AreRouted : (partner : ℕ → Option ℕ) → List Message → Type 0
AreRouted partner [] = Unit {0}
AreRouted partner (m ∷ rest) =
    ((is_open m.saying ≡ true) ⊎ (partner m.own ≡ Some m.peer)) × AreRouted partner rest

-- one side beside the other
pub record Beside (p q : Party) : Type 0 where
  pub halves : (n m : ℕ) → p.partner n ≡ Some m → Half n m p q
  pub partners : (n m : ℕ) → p.partner n ≡ Some m → q.partner m ≡ Some n
  pub stands : (n : ℕ) → Stands n p (p.partner n)
  pub routed : AreRouted p.partner p.flight

abbrev pub IsSound : Pair → Type 0
IsSound w = Beside w.near w.far × Beside w.far w.near
