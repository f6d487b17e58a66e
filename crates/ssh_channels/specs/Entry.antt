-- A channel as the standard sees it: all that was accepted for it and granted to it since it was
-- opened (RFC 4254 section 5).
use Rattle.std.specs.Prelude.{◌≡◌, ◌≤◌, ◌<◌, ◌+◌, ◌-◌, ◌^◌, ◌==◌, ◌&&◌, ◌||◌, ℕ, min, nat_le, Bool}
use Rattle.std.specs.Prelude.{true, false, not}
use Rattle.std.specs.Prelude.{cond, List, [], ◌∷◌, ◌++◌, length, map, take, drop, Option}
use Rattle.std.specs.List.{flat_map}
use Rattle.ssh_link.specs.Frames.{Frame}
use Rattle.ssh_channels.specs.declared.chunk.Chunk.{Chunk}
use Rattle.ssh_channels.specs.declared.chunk.DataKind.{DataKind}
use Rattle.ssh_channels.specs.declared.replies.Reply.{Reply}
use Rattle.ssh_channels.specs.declared.replies.Reply.TheVariants.{Owed}
use Rattle.ssh_channels.specs.Cut.{piece_limit, cut, left_of}
use Rattle.ssh_channels.specs.Layout.{as_uint32, data_frame, eof_frame, reply_frame}
use Rattle.ssh_channels.specs.Replies.{calls_one, settling, ready}

pub record Entry : Type 0 where
  -- this side's number of it, and the peer's (section 5.1)
  pub number : ℕ
  pub peer : ℕ
  -- the most bytes of data that the peer takes in one message, and the most that this side takes
  -- (section 5.1)
  pub limit : ℕ
  pub packet : ℕ
  -- both sides agreed to it; a channel that this side opens waits until the peer has (section 5.1)
  pub confirmed : Bool
  -- what each accepted data command brought, but no empty one (section 5.2)
  pub chunks : List Chunk
  -- how many bytes the peer granted in all, and how many of the accepted bytes are framed (section
  -- 5.2)
  pub granted : ℕ
  pub framed : ℕ
  -- how many bytes the peer may still send (section 5.2)
  pub room : ℕ
  -- up to how many bytes its room is filled (section 5.2)
  pub target : ℕ
  -- the reply of each request that wanted one, in the order of the requests; those before the first
  -- that is owed went out (section 5.4)
  pub replies : List Reply
  -- an EOF and a CLOSE were accepted, and an EOF frame was written (section 5.3)
  pub eof : Bool
  pub close : Bool
  pub told : Bool

-- a channel that both sides agreed to: its numbers, the peer's window, this side's, and their
-- packet sizes
abbrev pub opened : (number peer window room limit packet : ℕ) → Entry
opened number peer window room limit packet = record {
  number = number;
  peer = peer;
  limit = limit;
  packet = packet;
  confirmed = true;
  chunks = [];
  granted = window;
  framed = 0;
  room = room;
  target = as_uint32 room;
  replies = [];
  eof = false;
  close = false;
  told = false;
}

-- a channel that this side opens; the peer has named nothing yet (section 5.1)
abbrev pub asked : (number room packet : ℕ) → Entry
asked number room packet = record (opened number 0 0 room 0 packet) { confirmed = false }

-- the peer agrees to it, with its number, window and packet size (section 5.1)
abbrev pub agreed : (peer window limit : ℕ) → Entry → Entry
agreed peer window limit e =
    record e { peer = peer; limit = limit; granted = window; confirmed = true }

-- bytes with the message that they are sent in (section 5.2)
abbrev pub tagged : Chunk → List (DataKind × ℕ)
tagged c = map (λ byte. (c.kind, byte)) c.bytes

abbrev pub joined : List Chunk → List (DataKind × ℕ)
joined cs = flat_map tagged cs

-- all bytes that were accepted
abbrev pub accepted : Entry → List (DataKind × ℕ)
accepted e = joined e.chunks

-- what is to be sent of them: as many as the peer granted (section 5.2)
abbrev pub due : Entry → List (DataKind × ℕ)
due e = take (min (length (accepted e)) e.granted) (accepted e)

-- nothing waits
abbrev pub all_framed : Entry → Bool
all_framed e = nat_le (length (accepted e)) e.framed

-- more data are accepted, and a CLOSE is (section 5.3)
abbrev pub more_may_come : Entry → Bool
more_may_come e = e.confirmed && not (e.eof || e.close)

abbrev pub close_may_come : Entry → Bool
close_may_come e = e.confirmed && not e.close

-- the data frames that the peer's grants let out (section 5.2)
abbrev pub flush_out : Entry → List Frame
flush_out e =
    map (data_frame e.number e.peer) (cut (piece_limit e.limit) (e.granted - e.framed)
    (left_of e.framed e.chunks))

abbrev pub flushed : Entry → Entry
flushed e = record e { framed = min (length (accepted e)) e.granted }

-- the peer grants more; what it has granted and not got stays below 2^32 (section 5.2)
abbrev pub granting : (amount : ℕ) → Entry → Entry
granting amount e = record e {
  granted = e.granted + min amount
      (2 ^ 32 - 1 - (e.granted - length (accepted e)));
}

-- one more data command; an empty one adds nothing
abbrev pub accepting : Chunk → Entry → Entry
accepting chunk e = record e {
  chunks = cond (length chunk.bytes == 0) e.chunks (e.chunks ++ chunk
      ∷ []);
}

-- one more request wants a reply (section 5.4)
abbrev pub requesting : Entry → Entry
requesting e = record e { replies = e.replies ++ Owed ∷ [] }

-- the reply of this place, or any where no place is given, is owed; that one, or the first, is
-- settled, and what is ready with it goes out behind what went out before (section 5.4)
abbrev pub reply_may_come : (place : Option ℕ) → Entry → Bool
reply_may_come place e = calls_one place 0 e.replies

abbrev pub replying : (place : Option ℕ) → (success : Bool) → Entry → Entry
replying place success e = record e { replies = settling place success 0 e.replies }

abbrev pub replies_out : (place : Option ℕ) → (success : Bool) → Entry → List Frame
replies_out place success e = map (reply_frame e.number e.peer)
    (drop (length (ready e.replies)) (ready (settling place success 0 e.replies)))

-- an EOF and a CLOSE that are owed, as nothing waits before them (section 5.3)
abbrev pub tells_eof : Entry → Bool
tells_eof e = e.eof && not e.told && all_framed e

abbrev pub closes_now : Entry → Bool
closes_now e = e.close && all_framed e

-- the EOF frame that is owed, and the channel after it
abbrev pub eof_out : Entry → List Frame
eof_out e = cond (tells_eof e) (eof_frame e.number e.peer ∷ []) []

abbrev pub after_eof : Entry → Entry
after_eof e = record e { told = e.told || tells_eof e }

-- an EOF or a CLOSE that was accepted and not sent waits behind data
abbrev pub IsDeferred : Entry → Type 0
IsDeferred e = (tells_eof e ≡ false) × (closes_now e ≡ false)

-- all that is accepted and granted is framed
abbrev pub IsDue : Entry → Type 0
IsDue e = e.framed ≡ min (length (accepted e)) e.granted

-- what holds of a channel at every moment
pub record Sound (e : Entry) : Type 0 where
  -- no more is framed than accepted, and than granted
  pub low : e.framed ≤ length (accepted e)
  pub within : e.framed ≤ e.granted
  -- the credit is a number of four bytes (section 5.2)
  pub small : e.granted - e.framed < 2 ^ 32
  -- so is what its room is filled up to
  pub aimed : e.target < 2 ^ 32
  -- the peer takes data at all
  pub positive : e.confirmed ≡ true → 0 < e.limit
  -- nothing is accepted or granted on a channel that waits
  pub waits : e.confirmed ≡ false → (e.chunks ≡ []) × (e.granted ≡ 0) × (e.eof ≡ false)
      × (e.close ≡ false)
  -- and no request wants a reply there
  pub silent : e.confirmed ≡ false → e.replies ≡ []
  -- an EOF frame came after all data
  pub ended : e.told ≡ true → (e.eof ≡ true) × (length (accepted e) ≤ e.framed)
