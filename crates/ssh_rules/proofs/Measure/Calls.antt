-- What is counted of a connection: frames of one kind that were written, and those that may still
-- come. No call of the table makes more of them (RFC 4254 section 5).
use Rattle.std.proofs.Common.{◌≡◌, ◌≤◌, ◌+◌, ◌-◌, ◌&&◌, ◌||◌, ℕ, List, [], ◌∷◌, ◌++◌, map}
use Rattle.std.proofs.Common.{Bool, true, false, not, cond, Option, Some, None}
use Rattle.std.proofs.Common.{refl, arith}
use Rattle.std.specs.Prelude.{is_some}
use Rattle.std.specs.Ordering.{nat_cmp}
use Rattle.std.specs.BTreeMap.{is_at}
use Rattle.std.specs.Map.{lookup, remove_entry}
use Rattle.ssh_wire.specs.declared.channel_id.ChannelId.{ChannelId}
use Rattle.ssh_link.specs.Frames.{Frame}
use Rattle.ssh_auth.specs.declared.question.Question.{Question}
use Rattle.ssh_channels.specs.declared.adjusted.Adjusted.{Adjusted}
use Rattle.ssh_channels.specs.declared.adjusted.Adjusted.TheVariants.{Dropped, Kept, Granted}
use Rattle.ssh_channels.specs.declared.chunk.Chunk.{Chunk}
use Rattle.ssh_channels.specs.declared.chunk.DataKind.{DataKind}
use Rattle.ssh_channels.specs.declared.chunk.DataKind.TheVariants.{Plain, Extended}
use Rattle.ssh_channels.specs.Cut.{piece_limit, cut, left_of}
use Rattle.ssh_channels.specs.Entry.{Entry, asked, agreed, accepting, after_eof, all_framed}
use Rattle.ssh_channels.specs.Entry.{closes_now, eof_out, tells_eof, flush_out, flushed, granting}
use Rattle.ssh_channels.specs.Entry.{more_may_come, close_may_come, reply_may_come, replying}
use Rattle.ssh_channels.specs.Entry.{replies_out}
use Rattle.ssh_channels.specs.Layout.{chunk, data_frame, eof_frame, close_frame, adjust_frame}
use Rattle.ssh_channels.specs.Layout.{reply_frame}
use Rattle.ssh_channels.specs.Lines.{Lines, find, put, without, added, write, turns, closes}
use Rattle.ssh_channels.specs.Lines.{settles, where_found, takes_data, takes_eof, takes_close}
use Rattle.ssh_channels.specs.Lines.{peer_closes, takes_grant, takes_in, aims, takes_reply}
use Rattle.ssh_channels.specs.Lines.{confirms}
use Rattle.ssh_channels.specs.Lines.{fails, joins, asks, drops_pending, numbers, goes_on}
use Rattle.ssh_channels.specs.Lines.{each_goes_on, all_go_on}
use Rattle.ssh_channels.specs.Sent.{is_tagged, is_reply}
use Rattle.ssh_channels.specs.Room.{coming, having, adjust_out}
use Rattle.ssh_channels.proofs.Listed.{find_again}
use Rattle.ssh_rules.specs.Answered.{how_many, is_answer}
use Rattle.ssh_rules.specs.Exchange.{is_of_transport}
use Rattle.ssh_rules.specs.GlobalReplied.{is_global_reply}
use Rattle.ssh_rules.specs.Layout.{at_once}
use Rattle.ssh_rules.specs.Opening.{Opening}
use Rattle.ssh_rules.specs.Opens.{failure_frame}

-- ---- how many

-- one, where it is so
abbrev pub one_if : Bool → ℕ
one_if is = cond is 1 0

more_step : (b : Bool) (m n k : ℕ) → m ≡ n + k →
    cond b (m + 1) m ≡ cond b (n + 1) n + k
more_step true m n k h = omega (arith, h)
more_step false m n k h = h

pub how_many_both : {X : Type 0} (such : X → Bool) (xs ys : List X) →
    how_many such (xs ++ ys) ≡ how_many such xs + how_many such ys
how_many_both such [] ys = omega arith
how_many_both such (x ∷ xs) ys =
    more_step (such x) (how_many such (xs ++ ys)) (how_many such xs) (how_many such ys)
    (how_many_both such xs ys)

counts_one : (b : Bool) → cond b (0 + 1) 0 ≡ one_if b
counts_one true = refl
counts_one false = refl

-- one more, where it is such a one
pub how_many_one : {X : Type 0} (such : X → Bool) (xs : List X) (x : X) →
    how_many such (xs ++ x ∷ []) ≡ how_many such xs + one_if (such x)
how_many_one such xs x =
    let both = how_many_both such xs (x ∷ []) in
    let one = counts_one (such x) in
    omega (arith, both, one)

same_step : (a b : Bool) (m n : ℕ) → a ≡ b → m ≡ n → cond a (m + 1) m ≡ cond b (n + 1) n
same_step true true m n is h = omega (arith, h)
same_step false false m n is h = h
same_step true false m n is h = absurd (cc)
same_step false true m n is h = absurd (cc)

-- tests that say the same find as many
pub how_many_same : {X : Type 0} (such so : X → Bool) (xs : List X) →
    ((x : X) → such x ≡ so x) → how_many such xs ≡ how_many so xs
how_many_same such so [] h = refl
how_many_same such so (x ∷ xs) h =
    same_step (such x) (so x) (how_many such xs) (how_many so xs) (h x)
    (how_many_same such so xs h)

-- ---- tests that fail

pub untold : (b c : Bool) → c ≡ false → (b && c) ≡ false
untold true c h = h
untold false c h = refl

-- a frame of no channel is on no number
pub no_channel : (number : ℕ) (channel : Option ChannelId) (b : Bool) → channel ≡ None →
    (is_tagged number channel && b) ≡ false
no_channel number None b h = refl
no_channel number (Some channel) b h = absurd (cc)

pub no_more : (b : Bool) (n : ℕ) → b ≡ false → one_if b + n ≤ n
no_more true n h = absurd (cc)
no_more false n h = omega arith

-- ---- frames that are silent

-- none of these frames is such a one
abbrev pub AreSilent : (such : Frame → Bool) → List Frame → Type 0
AreSilent such [] = Unit {0}
AreSilent such (frame ∷ frames) = (such frame ≡ false) × AreSilent such frames

pub silent_none : (such : Frame → Bool) (frames : List Frame) → AreSilent such frames →
    how_many such frames ≡ 0
silent_none such [] h = refl
silent_none such (frame ∷ frames) h = rw h.0 (silent_none such frames h.1)

pub silent_both : (such : Frame → Bool) (xs ys : List Frame) → AreSilent such xs →
    AreSilent such ys → AreSilent such (xs ++ ys)
silent_both such [] ys h k = k
silent_both such (x ∷ xs) ys h k = (h.0, silent_both such xs ys h.1 k)

-- nor is a reply, where neither a success nor a failure is
pub replies_silent : (such : Frame → Bool) (own peer : ℕ) →
    ((success : Bool) → such (reply_frame own peer success) ≡ false) → (said : List Bool) →
    AreSilent such (map (reply_frame own peer) said)
replies_silent such own peer none [] = tt
replies_silent such own peer none (success ∷ said) =
    (none success, replies_silent such own peer none said)

-- ---- what is counted

-- it answers no open, and replies to no global request
abbrev pub IsNoAnswer : Frame → Type 0
IsNoAnswer frame = (is_answer frame ≡ false) × (is_global_reply frame ≡ false)

-- it replies to no request
abbrev pub IsNoReply : Frame → Type 0
IsNoReply frame = (is_reply frame ≡ false) × (is_global_reply frame ≡ false)

-- frames of one kind, with those that may still come: answers to opens, or replies to requests, or
-- such ones on a channel, or replies to global requests
pub record Measure : Type 0 where
  pub such : Frame → Bool
  -- so many may still come by what the channels want, so many by the opens that wait, and so many
  -- by whether the peer's last global request wants a reply
  pub due : List Entry → ℕ
  pub waiting : List (ℕ × Opening) → ℕ
  pub globally : (wanted : Bool) → ℕ
  -- and one once this was asked
  pub asks : Question → Bool
  pub untagged : (frame : Frame) → frame.channel ≡ None → is_global_reply frame ≡ false
      → such frame ≡ false
  -- a frame of an exchange of keys is none
  pub exchanged : (frame : Frame) → frame.channel ≡ None → is_of_transport frame.payload ≡ true
      → such frame ≡ false
  pub other : (frame : Frame) → is_answer frame ≡ false → IsNoReply frame → such frame ≡ false
  -- no more may come as a channel changes whose replies are as before, or leaves, or is added and
  -- has none
  pub kept : (e f : Entry) (entries : List Entry) → find e.number entries ≡ Some f
      → e.replies ≡ f.replies → due (put e entries) ≤ due entries
  pub parted : (number : ℕ) (entries : List Entry) → due (without number entries) ≤ due entries
  pub begun : (e : Entry) (entries : List Entry) → e.replies ≡ []
      → due (added e entries) ≤ due entries
  -- the replies that go out as one is settled are of those that may come, and so is the answer to
  -- an open that waits
  pub replied : (place : Option ℕ) (success : Bool) (e : Entry) (entries : List Entry)
      → find e.number entries ≡ Some e
      → how_many such (replies_out place success e) + due (put (replying place success e) entries)
      ≤ due entries
  pub answered : (number : ℕ) (payload : List ℕ) (opening : Opening) (opens : List (ℕ × Opening))
      → IsNoReply (failure_frame number payload)
      → lookup (is_at (nat_cmp number)) opens ≡ Some opening
      → one_if (such (failure_frame number payload))
      + waiting (remove_entry (is_at (nat_cmp number)) opens) ≤ waiting opens
  -- and so is the reply that the peer's last global request wants
  pub settled : (payload : List ℕ) → one_if (such (at_once payload)) + globally false
      ≤ globally true

-- ---- frames that are not counted

data_no_answer : (own peer : ℕ) (kind : DataKind) (bytes : List ℕ) →
    is_answer (data_frame own peer (chunk kind bytes)) ≡ false
data_no_answer own peer Plain bytes = refl
data_no_answer own peer (Extended code) bytes = refl

data_no_reply : (own peer : ℕ) (kind : DataKind) (bytes : List ℕ) →
    IsNoReply (data_frame own peer (chunk kind bytes))
data_no_reply own peer Plain bytes = (refl, refl)
data_no_reply own peer (Extended code) bytes = (refl, refl)

data_silent : (of : Measure) (own peer : ℕ) (pieces : List Chunk) →
    AreSilent of.such (map (data_frame own peer) pieces)
data_silent of own peer [] = tt
data_silent of own peer (p ∷ pieces) = (
  of.other (data_frame own peer p) (data_no_answer own peer p.kind p.bytes)
      (data_no_reply own peer p.kind p.bytes),
  data_silent of own peer pieces,
)

flush_silent : (of : Measure) (e : Entry) → AreSilent of.such (flush_out e)
flush_silent of e = data_silent of e.number e.peer
    (cut (piece_limit e.limit) (e.granted - e.framed) (left_of e.framed e.chunks))

eof_step : (b : Bool) (of : Measure) (e : Entry) →
    AreSilent of.such (cond b (eof_frame e.number e.peer ∷ []) [])
eof_step true of e = (of.other (eof_frame e.number e.peer) refl (refl, refl), tt)
eof_step false of e = tt

eof_silent : (of : Measure) (e : Entry) → AreSilent of.such (eof_out e)
eof_silent of e = eof_step (tells_eof e) of e

close_silent : (of : Measure) (e : Entry) → AreSilent of.such (close_frame e.number e.peer ∷ [])
close_silent of e = (of.other (close_frame e.number e.peer) refl (refl, refl), tt)

-- ---- calls of the table

abbrev pub lines_owe : Measure → Lines → ℕ
lines_owe of l = how_many of.such l.written + of.due l.entries

-- no more than so many were written or may still come by what the channels want
abbrev pub LinesOwe : Measure → (k : ℕ) → Lines → Type 0
LinesOwe of k l = lines_owe of l ≤ k

pub silent_more : (of : Measure) (k : ℕ) (written frames : List Frame)
    (entries later : List Entry) →
    AreSilent of.such frames → of.due later ≤ of.due entries →
    how_many of.such written + of.due entries ≤ k →
    how_many of.such (written ++ frames) + of.due later ≤ k
silent_more of k written frames entries later s d h =
    let both = how_many_both of.such written frames in
    let none = silent_none of.such frames s in
    omega (arith, both, none, d, h)

turned : (of : Measure) (k : ℕ) (e f : Entry) (frames : List Frame) (l : Lines) →
    find e.number l.entries ≡ Some f → e.replies ≡ f.replies → AreSilent of.such frames →
    LinesOwe of k l → LinesOwe of k (turns e frames l)
turned of k e f frames l at same s h =
    silent_more of k l.written frames l.entries (put e l.entries) s (of.kept e f l.entries at same)
    h

gone : (of : Measure) (k number : ℕ) (frames : List Frame) (l : Lines) →
    AreSilent of.such frames → LinesOwe of k l →
    how_many of.such (l.written ++ frames) + of.due (without number l.entries) ≤ k
gone of k number frames l s h =
    silent_more of k l.written frames l.entries (without number l.entries) s
    (of.parted number l.entries) h

pub written_owe : (of : Measure) (k : ℕ) (frames : List Frame) (l : Lines) →
    AreSilent of.such frames → LinesOwe of k l → LinesOwe of k (write frames l)
written_owe of k frames l s h =
    silent_more of k l.written frames l.entries l.entries s (omega arith) h

settled_step : (b : Bool) (of : Measure) (k : ℕ) (e f : Entry) (frames : List Frame) (l : Lines) →
    find e.number l.entries ≡ Some f → e.replies ≡ f.replies → AreSilent of.such frames →
    LinesOwe of k l →
    LinesOwe of k (cond b (closes (after_eof e) false frames l) (turns (after_eof e) frames l))
settled_step true of k e f frames l at same s h =
    gone of k e.number (frames ++ close_frame e.number e.peer ∷ []) l
    (silent_both of.such frames (close_frame e.number e.peer ∷ []) s (close_silent of e)) h
settled_step false of k e f frames l at same s h = turned of k (after_eof e) f frames l at same s h

settled : (of : Measure) (k : ℕ) (e f : Entry) (frames : List Frame) (l : Lines) →
    find e.number l.entries ≡ Some f → e.replies ≡ f.replies → AreSilent of.such frames →
    LinesOwe of k l → LinesOwe of k (settles e frames l)
settled of k e f frames l at same s h =
    settled_step (closes_now e) of k e f (frames ++ eof_out e) l at same
    (silent_both of.such frames (eof_out e) s (eof_silent of e)) h

pub chosen : (b : Bool) (of : Measure) (k : ℕ) (l m : Lines) → LinesOwe of k l → LinesOwe of k m →
    LinesOwe of k (cond b l m)
chosen true of k l m h j = h
chosen false of k l m h j = j

pub found : (o : Option Entry) (of : Measure) (k m : ℕ) (change : Entry → Lines → Lines)
    (l : Lines) → find m l.entries ≡ o →
    ((e : Entry) → find e.number l.entries ≡ Some e → LinesOwe of k (change e l)) →
    LinesOwe of k l → LinesOwe of k (where_found o change l)
found None of k m change l is c h = h
found (Some e) of k m change l is c h = c e (find_again m l.entries e is)

-- the calls that rows and commands make
pub data_owe : (of : Measure) (k m : ℕ) (piece : Chunk) (is_rekeying : Bool) (l : Lines) →
    LinesOwe of k l → LinesOwe of k (takes_data m piece is_rekeying l)
data_owe of k m piece is_rekeying l h = found (find m l.entries) of k m _ l refl
    (λ e is. chosen (more_may_come e) of k _ _
    (chosen (is_rekeying || not (all_framed e)) of k _ _
    (turned of k (accepting piece e) e [] l is refl tt h)
    (turned of k (flushed (accepting piece e)) e (flush_out (accepting piece e)) l is refl
    (flush_silent of (accepting piece e)) h)) h) h

pub eof_owe : (of : Measure) (k m : ℕ) (l : Lines) → LinesOwe of k l → LinesOwe of k (takes_eof m l)
eof_owe of k m l h = found (find m l.entries) of k m _ l refl
    (λ e is. chosen (more_may_come e) of k _ _
    (settled of k (record e { eof = true }) e [] l is refl tt h) h) h

pub close_owe : (of : Measure) (k m : ℕ) (l : Lines) → LinesOwe of k l →
    LinesOwe of k (takes_close m l)
close_owe of k m l h = found (find m l.entries) of k m _ l refl
    (λ e is. chosen (close_may_come e) of k _ _
    (settled of k (record e { close = true }) e [] l is refl tt h) h) h

pub peer_close_owe : (of : Measure) (k m : ℕ) (l : Lines) → LinesOwe of k l →
    LinesOwe of k (peer_closes m l)
peer_close_owe of k m l h = found (find m l.entries) of k m _ l refl
    (λ e is. chosen e.confirmed of k _ _
    (gone of k e.number (close_frame e.number e.peer ∷ []) l (close_silent of e) h) h) h

pub grant_owe : (of : Measure) (k m amount : ℕ) (l : Lines) → LinesOwe of k l →
    LinesOwe of k (takes_grant m amount l)
grant_owe of k m amount l h = found (find m l.entries) of k m _ l refl
    (λ e is. chosen e.confirmed of k _ _
    (settled of k (flushed (granting amount (flushed e))) e
    (flush_out e ++ flush_out (granting amount (flushed e))) l is refl
    (silent_both of.such (flush_out e) (flush_out (granting amount (flushed e)))
    (flush_silent of e) (flush_silent of (granting amount (flushed e)))) h) h) h

-- what waits goes on
goes_on_owe : (of : Measure) (k m : ℕ) (l : Lines) → LinesOwe of k l → LinesOwe of k (goes_on m l)
goes_on_owe of k m l h = found (find m l.entries) of k m _ l refl
    (λ e is. settled of k (flushed e) e (flush_out e) l is refl (flush_silent of e) h) h

each_owe : (of : Measure) (k : ℕ) (ns : List ℕ) (l : Lines) → LinesOwe of k l →
    LinesOwe of k (each_goes_on ns l)
each_owe of k [] l h = h
each_owe of k (n ∷ ns) l h = each_owe of k ns (goes_on n l) (goes_on_owe of k n l h)

pub all_owe : (of : Measure) (k : ℕ) (l : Lines) → LinesOwe of k l → LinesOwe of k (all_go_on l)
all_owe of k l h = each_owe of k (numbers l.entries) l h

adjusted : (of : Measure) (k count target : ℕ) (came : Adjusted) (e : Entry) (l : Lines) →
    find e.number l.entries ≡ Some e → LinesOwe of k l →
    LinesOwe of k (turns (having came count target e) (adjust_out came e) l)
adjusted of k count target Dropped e l is h = turned of k e e [] l is refl tt h
adjusted of k count target Kept e l is h =
    turned of k (record e { room = e.room - count }) e [] l is refl tt h
adjusted of k count target (Granted amount) e l is h =
    turned of k (record e { room = target }) e (adjust_frame e.number e.peer amount ∷ []) l is refl
    (of.other (adjust_frame e.number e.peer amount) refl (refl, refl), tt) h

pub adjust_owe : (of : Measure) (k m count target : ℕ) (l : Lines) → LinesOwe of k l →
    LinesOwe of k (takes_in m count target l)
adjust_owe of k m count target l h = found (find m l.entries) of k m _ l refl
    (λ e is. adjusted of k count target (coming count target e) e l is h) h

pub confirmed_owe : (of : Measure) (k m peer window limit : ℕ) (l : Lines) → LinesOwe of k l →
    LinesOwe of k (confirms m peer window limit l)
confirmed_owe of k m peer window limit l h = found (find m l.entries) of k m _ l refl
    (λ e is. chosen (not e.confirmed) of k _ _
    (turned of k (agreed peer window limit e) e [] l is refl tt h) h) h

pub failed_owe : (of : Measure) (k m : ℕ) (l : Lines) → LinesOwe of k l → LinesOwe of k (fails m l)
failed_owe of k m l h = found (find m l.entries) of k m _ l refl
    (λ e is. chosen (not e.confirmed) of k _ _ (gone of k e.number [] l tt h) h) h

-- its room is filled up to another target
pub aims_owe : (of : Measure) (k m target : ℕ) (l : Lines) → LinesOwe of k l →
    LinesOwe of k (aims m target l)
aims_owe of k m target l h = found (find m l.entries) of k m _ l refl
    (λ e is. turned of k (record e { target = target }) e [] l is refl tt h) h

-- a channel that is new has no reply
pub joined_owe : (of : Measure) (k : ℕ) (e : Entry) (l : Lines) → e.replies ≡ [] →
    LinesOwe of k l → LinesOwe of k (joins e l)
joined_owe of k e l none h = let more = of.begun e l.entries none in omega (arith, more, h)

pub asked_owe : (of : Measure) (k room packet : ℕ) (drawn : Option ℕ) (l : Lines) →
    LinesOwe of k l → LinesOwe of k (asks room packet drawn l)
asked_owe of k room packet None l h = h
asked_owe of k room packet (Some n) l h =
    let more = of.begun (asked n room packet) l.entries refl in omega (arith, more, h)

-- ---- replies to requests (RFC 4254 section 5.4)

-- one is settled, and those that are ready go out
reply_step : (b : Bool) (of : Measure) (k : ℕ) (place : Option ℕ) (success : Bool) (e : Entry)
    (l : Lines) → find e.number l.entries ≡ Some e → LinesOwe of k l →
    LinesOwe of k (cond b (turns (replying place success e) (replies_out place success e) l) l)
reply_step false of k place success e l at h = h
reply_step true of k place success e l at h =
    let out = replies_out place success e in
    let paid = of.replied place success e l.entries at in
    let both = how_many_both of.such l.written out in
    omega (arith, both, paid, h)

pub reply_owe : (of : Measure) (k m : ℕ) (place : Option ℕ) (success : Bool) (l : Lines) →
    LinesOwe of k l → LinesOwe of k (takes_reply m place success l)
reply_owe of k m place success l h = found (find m l.entries) of k m _ l refl
    (λ e at. reply_step (reply_may_come place e) of k place success e l at h) h
