-- One direction of a channel: what lies between the data that one side accepted and those that the
-- other delivered (RFC 4254 section 5.2).
use Rattle.std.specs.Prelude.{◌≡◌, ◌<◌, ◌+◌, ◌^◌, ℕ, List, [], ◌∷◌, ◌++◌, length}
use Rattle.std.specs.Prelude.{Option, Some, None, ◌==◌, cond}
use Rattle.std.specs.List.{flat_map}
use Rattle.ssh_channels.specs.declared.params.ChannelParams.{ChannelParams}
use Rattle.ssh_channels.specs.declared.chunk.Chunk.{Chunk}
use Rattle.ssh_channels.specs.declared.chunk.DataKind.{DataKind}
use Rattle.ssh_channels.specs.declared.chunk.DataKind.TheVariants.{Plain, Extended}
use Rattle.ssh_channels.specs.Entry.{tagged, joined}
use Rattle.ssh_ends.specs.Saying.{Saying, Confirm, Grant, Data, Message}
use Rattle.ssh_ends.specs.Pair.{Party}

-- what a side says on its channel n, of messages that are under way
abbrev pub said_on : (n : ℕ) → List Message → List Saying
said_on n [] = []
said_on n (m ∷ rest) = cond (n == m.own) (m.saying ∷ said_on n rest) (said_on n rest)

-- the bytes of data in it, each with its kind
abbrev pub data_of : Saying → List (DataKind × ℕ)
data_of (Data piece) = tagged piece
data_of said = []

abbrev pub data_in : List Saying → List (DataKind × ℕ)
data_in sayings = flat_map data_of sayings

-- how many bytes of data it lets its taker send: a window adjust, and the window of a confirmation
abbrev pub granted_by : Saying → ℕ
granted_by (Confirm window packet) = window
granted_by (Grant amount) = amount
granted_by said = 0

abbrev pub granted_in : List Saying → ℕ
granted_in [] = 0
granted_in (said ∷ sayings) = granted_by said + granted_in sayings

-- a data type code is a number of four bytes (section 5.2)
abbrev pub IsCoded : DataKind → Type 0
IsCoded Plain = Unit {0}
IsCoded (Extended code) = code < 2 ^ 32

abbrev pub AreCoded : List Chunk → Type 0
AreCoded [] = Unit {0}
AreCoded (piece ∷ pieces) = IsCoded piece.kind × AreCoded pieces

-- at the side that accepts: what waits there, and how many bytes it may still send
abbrev pub AtSender : Option ChannelParams → (rest : List (DataKind × ℕ)) → (credit : ℕ) → Type 0
AtSender None rest credit = Unit {0}
AtSender (Some l) rest credit =
    (rest ≡ joined l.waiting) × (credit ≡ l.recipient_window_size) × AreCoded l.waiting

-- at the side that delivers: nothing was passed over, and so many bytes may still come
abbrev pub AtTaker : Option ChannelParams → (lost : List (DataKind × ℕ)) → (room : ℕ) → Type 0
AtTaker None lost room = Unit {0}
AtTaker (Some l) lost room =
    (lost ≡ []) × (room ≡ l.sender_window_size) × (l.target < 2 ^ 32)

-- one direction as its two sides have it: what was accepted and delivered, what is under way, and
-- what is under way the other way
pub record Direction : Type 0 where
  pub sender : Option ChannelParams
  pub taker : Option ChannelParams
  pub accepted : List (DataKind × ℕ)
  pub delivered : List (DataKind × ℕ)
  pub out : List Saying
  pub back : List Saying

-- what came to a side that no longer had the channel is lost. While both have it, what was delivered,
-- what is under way and what waits are all that was accepted; and the credit, the bytes under way and
-- what is granted under way add up to the room
pub record Strand (d : Direction) : Type 0 where
  pub lost : List (DataKind × ℕ)
  pub rest : List (DataKind × ℕ)
  pub credit : ℕ
  pub room : ℕ
  pub bytes : d.accepted ≡ (d.delivered ++ (lost ++ data_in d.out)) ++ rest
  pub sum : credit + (length (data_in d.out) + granted_in d.back) ≡ room
  pub small : room < 2 ^ 32
  pub at_sender : AtSender d.sender rest credit
  pub at_taker : AtTaker d.taker lost room

abbrev pub direction : (n m : ℕ) → Party → Party → Direction
direction n m p q = record {
  sender = p.line n;
  taker = q.line m;
  accepted = p.accepted n;
  delivered = q.delivered m;
  out = said_on n p.flight;
  back = said_on m q.flight;
}
