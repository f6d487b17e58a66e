-- The channels of a connection with the frames that were written and not handed on, and what each
-- call does to them (RFC 4254 section 5).
use Rattle.std.specs.Prelude.{ℕ, ◌==◌, ◌||◌, ◌^◌, nat_lt, Bool, true, false, not, cond, List, []}
use Rattle.std.specs.Prelude.{◌∷◌, ◌++◌, map}
use Rattle.std.specs.Prelude.{Option, Some, None, is_some}
use Rattle.std.specs.List.{list_any}
use Rattle.std.specs.Ordering.{nat_cmp}
use Rattle.std.specs.BTreeMap.{is_at}
use Rattle.std.specs.BTreeSet.{insert_key}
use Rattle.std.specs.Set.{remove_key}
use Rattle.ssh_link.specs.Frames.{Frame}
use Rattle.ssh_channels.specs.declared.chunk.Chunk.{Chunk}
use Rattle.ssh_channels.specs.Layout.{bare_frame, close_frame}
use Rattle.ssh_channels.specs.Numbers.{first_free}
use Rattle.ssh_channels.specs.Entry.{Entry, opened, asked, agreed, all_framed, more_may_come}
use Rattle.ssh_channels.specs.Entry.{close_may_come, flush_out, requesting, reply_may_come}
use Rattle.ssh_channels.specs.Entry.{replying, replies_out}
use Rattle.ssh_channels.specs.Entry.{flushed, granting, accepting, closes_now, eof_out, after_eof}
use Rattle.ssh_channels.specs.Room.{coming, having, adjust_out}

-- a channel that left, as it was then, and whether the peer ended it: by its CLOSE, or as it
-- refused the open
pub record Left : Type 0 where
  pub entry : Entry
  pub by_peer : Bool

pub record Lines : Type 0 where
  -- the channels, whose numbers ascend
  pub entries : List Entry
  -- the numbers that are drawn for opens which are not answered yet, and the number that was drawn
  -- last (section 5.1)
  pub pending : List ℕ
  pub last : ℕ
  -- the frames that were not handed on, in order
  pub written : List Frame
  -- the channels that left, the last one first; nobody but the definitions knows them
  pub left : List Left

-- no channel; the first number that is drawn is 2
abbrev pub no_lines : Lines
no_lines = record { entries = []; pending = []; last = 1; written = []; left = [] }

-- the channel of this number
abbrev pub find : (number : ℕ) → List Entry → Option Entry
find number [] = None
find number (e ∷ es) = cond (number == e.number) (Some e) (find number es)

-- the channel of this one's number is this one from now on
abbrev pub put : Entry → List Entry → List Entry
put e [] = []
put e (f ∷ fs) = cond (e.number == f.number) (e ∷ fs) (f ∷ put e fs)

abbrev pub without : (number : ℕ) → List Entry → List Entry
without number [] = []
without number (e ∷ es) = cond (number == e.number) (without number es) (e ∷ without number es)

-- a new channel stands before those of higher numbers
abbrev pub added : Entry → List Entry → List Entry
added e [] = e ∷ []
added e (f ∷ fs) = cond (nat_lt e.number f.number) (e ∷ f ∷ fs) (f ∷ added e fs)

-- the last channel of this number that left
abbrev pub last_left : (number : ℕ) → List Left → Option Left
last_left number [] = None
last_left number (l ∷ ls) = cond (number == l.entry.number) (Some l) (last_left number ls)

abbrev pub numbers : List Entry → List ℕ
numbers es = map (λ e. e.number) es

abbrev pub write : List Frame → Lines → Lines
write frames l = record l { written = l.written ++ frames }

-- the channel is this one from now on, and these frames of it are written
abbrev pub turns : Entry → List Frame → Lines → Lines
turns e frames l = record l { entries = put e l.entries; written = l.written ++ frames }

-- the channel leaves
abbrev pub leaves : Entry → (by_peer : Bool) → List Frame → Lines → Lines
leaves e by_peer frames l = record l {
  entries = without e.number l.entries;
  written = l.written ++ frames;
  left = record { entry = e; by_peer = by_peer } ∷ l.left;
}

-- with a CLOSE frame behind these (section 5.3)
abbrev pub closes : Entry → (by_peer : Bool) → List Frame → Lines → Lines
closes e by_peer frames l = leaves e by_peer (frames ++ close_frame e.number e.peer ∷ []) l

-- these frames are written, and behind them the EOF that is owed and then the CLOSE that is, with
-- which the channel leaves (section 5.3)
abbrev pub settles : Entry → List Frame → Lines → Lines
settles e frames l = cond (closes_now e)
    (closes (after_eof e) false (frames ++ eof_out e) l)
    (turns (after_eof e) (frames ++ eof_out e) l)

-- a call on the channel of this number, where there is one
abbrev pub where_found : Option Entry → (Entry → Lines → Lines) → Lines → Lines
where_found None change l = l
where_found (Some e) change l = change e l

abbrev pub at : (number : ℕ) → (Entry → Lines → Lines) → Lines → Lines
at number change l = where_found (find number l.entries) change l

-- data (section 5.2) are accepted, and wait where data wait already or an exchange runs
abbrev pub takes_data : (number : ℕ) → Chunk → (is_rekeying : Bool) → Lines → Lines
takes_data number chunk is_rekeying l = at number (λ e l. cond (more_may_come e)
    (cond (is_rekeying || not (all_framed e))
    (turns (accepting chunk e) [] l)
    (turns (flushed (accepting chunk e)) (flush_out (accepting chunk e)) l))
    l) l

-- an EOF, and a CLOSE, is accepted (section 5.3)
abbrev pub takes_eof : (number : ℕ) → Lines → Lines
takes_eof number l = at number (λ e l. cond (more_may_come e) (settles (record e { eof = true }) []
    l) l) l

abbrev pub takes_close : (number : ℕ) → Lines → Lines
takes_close number l = at number (λ e l. cond (close_may_come e)
    (settles (record e { close = true }) [] l) l) l

-- the peer's CLOSE is answered by one, and what waits is dropped (section 5.3)
abbrev pub peer_closes : (number : ℕ) → Lines → Lines
peer_closes number l = at number (λ e l. cond e.confirmed (closes e true [] l) l) l

-- what the grants let out goes out
abbrev pub goes_on : (number : ℕ) → Lines → Lines
goes_on number l = at number (λ e. settles (flushed e) (flush_out e)) l

-- on each of these channels in turn, and on all
abbrev pub each_goes_on : List ℕ → Lines → Lines
each_goes_on [] l = l
each_goes_on (n ∷ ns) l = each_goes_on ns (goes_on n l)

abbrev pub all_go_on : Lines → Lines
all_go_on l = each_goes_on (numbers l.entries) l

-- the peer grants more: what the old grants let out goes first (section 5.2)
abbrev pub takes_grant : (number amount : ℕ) → Lines → Lines
takes_grant number amount l = at number (λ e l. cond e.confirmed
    (settles (flushed (granting amount (flushed e))) (flush_out e
    ++ flush_out (granting amount (flushed e))) l)
    l) l

-- so many bytes came in (section 5.2)
abbrev pub takes_in : (number count target : ℕ) → Lines → Lines
takes_in number count target l =
    at number (λ e. turns (having (coming count target e) count target e)
    (adjust_out (coming count target e) e)) l

-- a message that says no more than its number (section 5.4)
abbrev pub says : (number message : ℕ) → Lines → Lines
says number message l = at number
    (λ e l. cond e.confirmed (turns e (bare_frame message e.number e.peer ∷ []) l) l) l

-- its room is filled up to so many bytes from now on (section 5.2)
abbrev pub aims : (number target : ℕ) → Lines → Lines
aims number target l = at number (λ e. turns (record e { target = target }) []) l

-- a request on it wants a reply (section 5.4)
abbrev pub takes_request : (number : ℕ) → Lines → Lines
takes_request number l = at number (λ e l. cond e.confirmed (turns (requesting e) [] l) l) l

-- the reply of this place, or the first that is owed, is settled (section 5.4)
abbrev pub takes_reply : (number : ℕ) → (place : Option ℕ) → (success : Bool) → Lines → Lines
takes_reply number place success l = at number (λ e l. cond (reply_may_come place e)
    (turns (replying place success e) (replies_out place success e) l)
    l) l

-- the peer agrees to an open of this side's, or refuses it (section 5.1)
abbrev pub confirms : (number peer window limit : ℕ) → Lines → Lines
confirms number peer window limit l =
    at number (λ e l. cond (not e.confirmed) (turns (agreed peer window limit e) [] l) l) l

abbrev pub fails : (number : ℕ) → Lines → Lines
fails number l = at number (λ e l. cond (not e.confirmed) (leaves e true [] l) l) l

-- the next number that is free (section 5.1)
abbrev pub is_taken : Lines → ℕ → Bool
is_taken l n = is_some (find n l.entries) || list_any (is_at (nat_cmp n)) l.pending

abbrev pub next_number : Lines → Option ℕ
next_number l = first_free (2 ^ 32) l.last (is_taken l)

-- it is drawn for an open of the peer's, which is not answered yet
abbrev pub drawn : Option ℕ → Lines → Lines
drawn None l = l
drawn (Some n) l = record l { last = n; pending = insert_key nat_cmp l.pending n }

abbrev pub draws : Lines → Lines
draws l = drawn (next_number l) l

abbrev pub drops_pending : (number : ℕ) → Lines → Lines
drops_pending number l = record l { pending = remove_key (is_at (nat_cmp number)) l.pending }

-- it is this side's open's
abbrev pub asks : (room packet : ℕ) → Option ℕ → Lines → Lines
asks room packet None l = l
asks room packet (Some n) l =
    record l { last = n; entries = added (asked n room packet) l.entries }

abbrev pub asks_next : (room packet : ℕ) → Lines → Lines
asks_next room packet l = asks room packet (next_number l) l

-- it is that of an open of the peer's which is accepted at once
abbrev pub accepts : (peer window room limit packet : ℕ) → Option ℕ → Lines → Lines
accepts peer window room limit packet None l = l
accepts peer window room limit packet (Some n) l = record l {
  last = n;
  entries = added (opened n peer window room limit packet) l.entries;
}

abbrev pub accepts_next : (peer window room limit packet : ℕ) → Lines → Lines
accepts_next peer window room limit packet l =
    accepts peer window room limit packet (next_number l) l

-- an open of the peer's is accepted that waited; its number is no longer pending
abbrev pub joins : Entry → Lines → Lines
joins e l = record (drops_pending e.number l) { entries = added e l.entries }

abbrev pub adds : Entry → Lines → Lines
adds e l = cond (is_some (find e.number l.entries)) l (joins e l)

-- and this frame tells the peer of it
abbrev pub adds_with : Frame → Entry → Lines → Lines
adds_with frame e l = cond (is_some (find e.number l.entries)) l
    (write (frame ∷ []) (joins e l))

-- what was written is handed on, where no exchange runs
abbrev pub handed : (is_rekeying : Bool) → Lines → List Frame
handed is_rekeying l = cond is_rekeying [] l.written

abbrev pub hands_on : (is_rekeying : Bool) → Lines → Lines
hands_on is_rekeying l = cond is_rekeying l (record l { written = [] })
