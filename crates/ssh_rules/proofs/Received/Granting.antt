-- What this side granted on a number, frame by frame, and the room that its channel has (RFC 4254
-- section 5.2). No call of the table but one makes more room.
use Rattle.std.proofs.Common.{◌≡◌, ◌≤◌, ◌<◌, ◌+◌, ◌-◌, ◌==◌, ◌&&◌, ◌||◌, ℕ, zero, suc, List, []}
use Rattle.std.proofs.Common.{◌∷◌, ◌++◌, map, length, drop, Bool, true, false, not, cond, Option, Some, None}
use Rattle.std.proofs.Common.{refl, sym, ◌∙◌, ap, arith}
use Rattle.ssh_link.specs.Frames.{Frame}
use Rattle.ssh_link.specs.declared.link.TraceEntry.{TraceEntry}
use Rattle.ssh_link.specs.declared.link.TraceEntry.TheVariants.{Sent}
use Rattle.ssh_channels.specs.declared.chunk.Chunk.{Chunk}
use Rattle.ssh_channels.specs.declared.chunk.DataKind.{DataKind}
use Rattle.ssh_channels.specs.declared.chunk.DataKind.TheVariants.{Plain, Extended}
use Rattle.ssh_channels.specs.Cut.{piece_limit, cut, left_of}
use Rattle.ssh_channels.specs.Entry.{Entry, agreed, accepting, after_eof, all_framed, closes_now}
use Rattle.ssh_channels.specs.Entry.{eof_out, tells_eof, flush_out, flushed, granting}
use Rattle.ssh_channels.specs.Entry.{more_may_come, close_may_come, requesting, reply_may_come}
use Rattle.ssh_channels.specs.Entry.{replying, replies_out}
use Rattle.ssh_channels.specs.Layout.{chunk, data_frame, eof_frame, close_frame, reply_frame}
use Rattle.ssh_channels.specs.Replies.{ready, settling}
use Rattle.ssh_channels.specs.Lines.{Lines, find, put, without, write, turns, closes, settles}
use Rattle.ssh_channels.specs.Lines.{where_found, takes_data, takes_eof, takes_close, peer_closes}
use Rattle.ssh_channels.specs.Lines.{takes_grant, takes_request, takes_reply, aims, confirms, fails}
use Rattle.ssh_channels.specs.Lines.{numbers, goes_on}
use Rattle.ssh_channels.specs.Lines.{each_goes_on, all_go_on}
use Rattle.ssh_channels.specs.Sent.{is_tagged, is_opening, after_frame, since_from, since}
use Rattle.ssh_channels.proofs.Listed.{one_number, found_put, find_other, find_again, find_without}
use Rattle.ssh_channels.proofs.Listed.{without_other}
use Rattle.ssh_rules.specs.Received.{added_by, added_by_all, was_opened, adjusted_on}
use Rattle.ssh_rules.specs.World.{Settings}
use Rattle.ssh_rules.proofs.Measure.Calls.{AreSilent, silent_both, replies_silent, untold}

-- ---- frame by frame

-- a frame opens a channel on this number
abbrev pub opens_on : (number : ℕ) → Frame → Bool
opens_on number frame = is_tagged number frame.channel && is_opening frame.payload

-- What was granted on a number is counted so: 0 where no channel was opened there, and else the
-- bytes that were granted and one more.

-- so many bytes more, where a channel was opened
abbrev pub lifted : (grew more : ℕ) → ℕ
lifted zero more = 0
lifted (suc grew) more = suc grew + more

-- this was granted, and then this frame went out; a channel begins with this window
abbrev pub grown : (number window grew : ℕ) → Frame → ℕ
grown number window grew frame = cond (is_tagged number frame.channel)
    (cond (is_opening frame.payload) (suc window) (lifted grew (added_by frame))) grew

abbrev pub grown_by : (number window grew : ℕ) → List Frame → ℕ
grown_by number window grew [] = grew
grown_by number window grew (frame ∷ frames) =
    grown_by number window (grown number window grew frame) frames

abbrev pub grown_told : (number window grew : ℕ) → TraceEntry → ℕ
grown_told number window grew (Sent frame) = grown number window grew frame
grown_told number window grew _ = grew

abbrev pub grown_in : (number window grew : ℕ) → List TraceEntry → ℕ
grown_in number window grew [] = grew
grown_in number window grew (entry ∷ entries) =
    grown_in number window (grown_told number window grew entry) entries

-- nothing is taken from it
lifted_more : (grew more : ℕ) → grew ≤ lifted grew more
lifted_more zero more = omega arith
lifted_more (suc grew) more = omega arith

pub lifted_so : (grew more : ℕ) → 0 < grew → lifted grew more ≡ grew + more
lifted_so zero more h = absurd (omega (arith, h))
lifted_so (suc grew) more h = refl

-- the count after these frames, where a channel was opened before them, or none
abbrev counted : (opened : Bool) → (window : ℕ) → List Frame → ℕ
counted opened window frames = cond opened (suc (window + added_by_all frames)) 0

added_both : (xs ys : List Frame) → added_by_all (xs ++ ys) ≡ added_by_all xs + added_by_all ys
added_both [] ys = omega arith
added_both (x ∷ xs) ys = let both = added_both xs ys in omega (arith, both)

frame_step : (opened tagged opens : Bool) (window : ℕ) (frames : List Frame) (frame : Frame) →
    cond tagged (cond opens (suc window) (lifted (counted opened window frames) (added_by frame)))
    (counted opened window frames)
    ≡ counted (opened || (tagged && opens)) window
    (cond tagged (cond opens [] (frames ++ frame ∷ [])) frames)
frame_step true true true window frames frame = omega arith
frame_step false true true window frames frame = omega arith
frame_step true true false window frames frame =
    let both = added_both frames (frame ∷ []) in omega (arith, both)
frame_step false true false window frames frame = refl
frame_step true false opens window frames frame = refl
frame_step false false opens window frames frame = refl

or_none : (b : Bool) → b ≡ (b || false)
or_none true = refl
or_none false = refl

or_both : (a b c : Bool) → ((a || b) || c) ≡ (a || (b || c))
or_both true b c = refl
or_both false b c = refl

-- frame by frame it is what the frames since a channel was opened come to
pub since_grown : (n window : ℕ) (opened : Bool) (frames : List Frame)
    (trace : List TraceEntry) → grown_in n window (counted opened window frames) trace
    ≡ counted (opened || was_opened n trace) window (since_from n frames trace)
since_grown n window opened frames [] = ap (λ b. counted b window frames) (or_none opened)
since_grown n window opened frames (Sent frame ∷ trace) =
    let later = after_frame n frames frame in
    ap (λ g. grown_in n window g trace)
    (frame_step opened (is_tagged n frame.channel) (is_opening frame.payload) window frames frame)
    ∙ (since_grown n window (opened || opens_on n frame) later trace
    ∙ ap (λ b. counted b window (since_from n later trace))
    (or_both opened (opens_on n frame) (was_opened n trace)))
since_grown n window opened frames (_ ∷ trace) = since_grown n window opened frames trace

granted_step : (opened : Bool) (window : ℕ) (frames : List Frame) →
    counted opened window frames - 1 ≡ cond opened (window + added_by_all frames) 0
granted_step true window frames = omega arith
granted_step false window frames = omega arith

-- what was granted on a number, counted frame by frame
pub granted_grown : (settings : Settings) (n : ℕ) (told : List TraceEntry) →
    grown_in n settings.config.window_size 0 told - 1 ≡ adjusted_on settings n told
granted_grown settings n told =
    let window = settings.config.window_size in
    ap (λ g. g - 1) (since_grown n window false [] told)
    ∙ granted_step (was_opened n told) window (since n told)

pub sent_grown : (n window grew : ℕ) (frames : List Frame) →
    grown_in n window grew (map Sent frames) ≡ grown_by n window grew frames
sent_grown n window grew [] = refl
sent_grown n window grew (frame ∷ frames) = sent_grown n window (grown n window grew frame) frames

pub grown_in_both : (n window grew : ℕ) (xs ys : List TraceEntry) →
    grown_in n window grew (xs ++ ys) ≡ grown_in n window (grown_in n window grew xs) ys
grown_in_both n window grew [] ys = refl
grown_in_both n window grew (x ∷ xs) ys =
    grown_in_both n window (grown_told n window grew x) xs ys

pub grown_both : (n window grew : ℕ) (xs ys : List Frame) →
    grown_by n window grew (xs ++ ys) ≡ grown_by n window (grown_by n window grew xs) ys
grown_both n window grew [] ys = refl
grown_both n window grew (x ∷ xs) ys = grown_both n window (grown n window grew x) xs ys

grown_step : (tagged opens : Bool) (window grew more : ℕ) → (tagged && opens) ≡ false →
    grew ≤ cond tagged (cond opens (suc window) (lifted grew more)) grew
grown_step true true window grew more h = absurd (cc)
grown_step true false window grew more h = lifted_more grew more
grown_step false opens window grew more h = omega arith

-- frames that open no channel on it take nothing from it
grown_more : (n window grew : ℕ) (frames : List Frame) → AreSilent (opens_on n) frames →
    grew ≤ grown_by n window grew frames
grown_more n window grew [] h = omega arith
grown_more n window grew (frame ∷ frames) h =
    let first = grown_step (is_tagged n frame.channel) (is_opening frame.payload) window grew
    (added_by frame) h.0 in
    let later = grown_more n window (grown n window grew frame) frames h.1 in
    omega (arith, first, later)

pub unopened : (n : ℕ) (frame : Frame) → is_opening frame.payload ≡ false →
    opens_on n frame ≡ false
unopened n frame is = untold (is_tagged n frame.channel) (is_opening frame.payload) is

-- ---- the room

-- how many bytes the peer may still send on a number, counted in the same way: 0 where no channel
-- is, and else one more
abbrev pub room_of : Option Entry → ℕ
room_of None = 0
room_of (Some e) = suc e.room

-- with those that were passed they are no more than were granted, and so are those that were passed
abbrev pub AreGranted : (passed room grew : ℕ) → Type 0
AreGranted passed room grew = (passed + room ≤ grew) × (passed ≤ grew - 1)

abbrev pub Roomy : (number passed window grew : ℕ) → Lines → Type 0
Roomy number passed window grew l =
    AreGranted passed (room_of (find number l.entries)) (grown_by number window grew l.written)

-- where fewer were passed
pub fewer_granted : (passed fewer room grew : ℕ) → fewer ≤ passed → AreGranted passed room grew →
    AreGranted fewer room grew
fewer_granted passed fewer room grew few h =
    let first = h.0 in
    let second = h.1 in
    (omega (arith, few, first), omega (arith, few, second))

pub put_here : (n : ℕ) (e f : Entry) (entries : List Entry) → n ≡ e.number →
    find e.number entries ≡ Some f → room_of (find n (put e entries)) ≡ suc e.room
put_here n e f entries same at =
    ap (λ m. room_of (find m (put e entries))) same ∙ ap room_of (found_put e entries f at)

pub put_there : (n : ℕ) (e : Entry) (entries : List Entry) → (n == e.number) ≡ false →
    room_of (find n (put e entries)) ≡ room_of (find n entries)
put_there n e entries apart = ap room_of (find_other n e entries apart)

put_room : (b : Bool) (n : ℕ) (e f : Entry) (entries : List Entry) → (n == e.number) ≡ b →
    find e.number entries ≡ Some f → e.room ≡ f.room →
    room_of (find n (put e entries)) ≡ room_of (find n entries)
put_room true n e f entries t at same =
    let is = one_number n e.number t in
    put_here n e f entries is at ∙ ap suc same
    ∙ sym (ap (λ m. room_of (find m entries)) is ∙ ap room_of at)
put_room false n e f entries t at same = put_there n e entries t

without_room : (b : Bool) (n m : ℕ) (entries : List Entry) → (n == m) ≡ b →
    room_of (find n (without m entries)) ≤ room_of (find n entries)
without_room true n m entries t =
    let none = ap (λ k. room_of (find n (without k entries))) (sym (one_number n m t))
    ∙ ap room_of (find_without n entries) in
    omega (arith, none)
without_room false n m entries t =
    let same = ap room_of (without_other m n entries t) in omega (arith, same)

data_unopened : (n own peer : ℕ) (kind : DataKind) (bytes : List ℕ) →
    opens_on n (data_frame own peer (chunk kind bytes)) ≡ false
data_unopened n own peer Plain bytes = unopened n (data_frame own peer (chunk Plain bytes)) refl
data_unopened n own peer (Extended code) bytes =
    unopened n (data_frame own peer (chunk (Extended code) bytes)) refl

module _ (n passed window grew : ℕ)
  where
    data_silent : (own peer : ℕ) (pieces : List Chunk)
        → AreSilent (opens_on n) (map (data_frame own peer) pieces)
    data_silent own peer [] = tt
    data_silent own peer (p ∷ pieces) =
        (data_unopened n own peer p.kind p.bytes, data_silent own peer pieces)

    flush_silent : (e : Entry) → AreSilent (opens_on n) (flush_out e)
    flush_silent e = data_silent e.number e.peer
        (cut (piece_limit e.limit) (e.granted - e.framed) (left_of e.framed e.chunks))

    eof_step : (b : Bool) (e : Entry)
        → AreSilent (opens_on n) (cond b (eof_frame e.number e.peer ∷ []) [])
    eof_step true e = (unopened n (eof_frame e.number e.peer) refl, tt)
    eof_step false e = tt

    eof_silent : (e : Entry) → AreSilent (opens_on n) (eof_out e)
    eof_silent e = eof_step (tells_eof e) e

    close_silent : (e : Entry) → AreSilent (opens_on n) (close_frame e.number e.peer ∷ [])
    close_silent e = (unopened n (close_frame e.number e.peer) refl, tt)

    silent_more : (frames : List Frame) (l : Lines) (later : List Entry)
        → AreSilent (opens_on n) frames
        → room_of (find n later) ≤ room_of (find n l.entries) → Roomy n passed window grew l
        → AreGranted passed (room_of (find n later)) (grown_by n window grew (l.written ++ frames))
    silent_more frames l later s d h =
        let both = grown_both n window grew l.written frames in
        let more = grown_more n window (grown_by n window grew l.written) frames s in
        let first = h.0 in
        let second = h.1 in
        (omega (arith, both, more, d, first), omega (arith, both, more, second))

    pub written_room : (frames : List Frame) (l : Lines) → AreSilent (opens_on n) frames
        → Roomy n passed window grew l → Roomy n passed window grew (write frames l)
    written_room frames l s h = silent_more frames l l.entries s (omega arith) h

    pub turned : (e f : Entry) (frames : List Frame) (l : Lines)
        → find e.number l.entries ≡ Some f → e.room ≡ f.room → AreSilent (opens_on n) frames
        → Roomy n passed window grew l → Roomy n passed window grew (turns e frames l)
    turned e f frames l at same s h =
        let room = put_room (n == e.number) n e f l.entries refl at same in
        silent_more frames l (put e l.entries) s (omega (arith, room)) h

    gone : (m : ℕ) (frames : List Frame) (l : Lines) → AreSilent (opens_on n) frames
        → Roomy n passed window grew l
        → AreGranted passed (room_of (find n (without m l.entries)))
        (grown_by n window grew (l.written ++ frames))
    gone m frames l s h =
        silent_more frames l (without m l.entries) s
        (without_room (n == m) n m l.entries refl) h

    settled_step : (b : Bool) (e f : Entry) (frames : List Frame) (l : Lines)
        → find e.number l.entries ≡ Some f → e.room ≡ f.room → AreSilent (opens_on n) frames
        → Roomy n passed window grew l
        → Roomy n passed window grew
        (cond b (closes (after_eof e) false frames l) (turns (after_eof e) frames l))
    settled_step true e f frames l at same s h =
        gone e.number (frames ++ close_frame e.number e.peer ∷ []) l
        (silent_both (opens_on n) frames (close_frame e.number e.peer ∷ []) s (close_silent e)) h
    settled_step false e f frames l at same s h = turned (after_eof e) f frames l at same s h

    settled : (e f : Entry) (frames : List Frame) (l : Lines)
        → find e.number l.entries ≡ Some f → e.room ≡ f.room → AreSilent (opens_on n) frames
        → Roomy n passed window grew l → Roomy n passed window grew (settles e frames l)
    settled e f frames l at same s h =
        settled_step (closes_now e) e f (frames ++ eof_out e) l at same
        (silent_both (opens_on n) frames (eof_out e) s (eof_silent e)) h

    chosen : (b : Bool) (l m : Lines) → Roomy n passed window grew l
        → Roomy n passed window grew m → Roomy n passed window grew (cond b l m)
    chosen true l m h j = h
    chosen false l m h j = j

    found : (o : Option Entry) (m : ℕ) (change : Entry → Lines → Lines) (l : Lines)
        → find m l.entries ≡ o
        → ((e : Entry) → find e.number l.entries ≡ Some e
        → Roomy n passed window grew (change e l))
        → Roomy n passed window grew l → Roomy n passed window grew (where_found o change l)
    found None m change l is c h = h
    found (Some e) m change l is c h = c e (find_again m l.entries e is)

    -- the calls that rows and commands make
    pub data_room : (m : ℕ) (piece : Chunk) (is_rekeying : Bool) (l : Lines)
        → Roomy n passed window grew l
        → Roomy n passed window grew (takes_data m piece is_rekeying l)
    data_room m piece is_rekeying l h = found (find m l.entries) m _ l refl
        (λ e is. chosen (more_may_come e) _ _
        (chosen (is_rekeying || not (all_framed e)) _ _
        (turned (accepting piece e) e [] l is refl tt h)
        (turned (flushed (accepting piece e)) e (flush_out (accepting piece e)) l is refl
        (flush_silent (accepting piece e)) h)) h) h

    pub eof_room : (m : ℕ) (l : Lines) → Roomy n passed window grew l
        → Roomy n passed window grew (takes_eof m l)
    eof_room m l h = found (find m l.entries) m _ l refl
        (λ e is. chosen (more_may_come e) _ _
        (settled (record e { eof = true }) e [] l is refl tt h) h) h

    pub close_room : (m : ℕ) (l : Lines) → Roomy n passed window grew l
        → Roomy n passed window grew (takes_close m l)
    close_room m l h = found (find m l.entries) m _ l refl
        (λ e is. chosen (close_may_come e) _ _
        (settled (record e { close = true }) e [] l is refl tt h) h) h

    pub peer_close_room : (m : ℕ) (l : Lines) → Roomy n passed window grew l
        → Roomy n passed window grew (peer_closes m l)
    peer_close_room m l h = found (find m l.entries) m _ l refl
        (λ e is. chosen e.confirmed _ _
        (gone e.number (close_frame e.number e.peer ∷ []) l (close_silent e) h) h) h

    pub grant_room : (m amount : ℕ) (l : Lines) → Roomy n passed window grew l
        → Roomy n passed window grew (takes_grant m amount l)
    grant_room m amount l h = found (find m l.entries) m _ l refl
        (λ e is. chosen e.confirmed _ _
        (settled (flushed (granting amount (flushed e))) e
        (flush_out e ++ flush_out (granting amount (flushed e))) l is refl
        (silent_both (opens_on n) (flush_out e) (flush_out (granting amount (flushed e)))
        (flush_silent e) (flush_silent (granting amount (flushed e)))) h) h) h

    goes_on_room : (m : ℕ) (l : Lines) → Roomy n passed window grew l
        → Roomy n passed window grew (goes_on m l)
    goes_on_room m l h = found (find m l.entries) m _ l refl
        (λ e is. settled (flushed e) e (flush_out e) l is refl (flush_silent e) h) h

    each_room : (ms : List ℕ) (l : Lines) → Roomy n passed window grew l
        → Roomy n passed window grew (each_goes_on ms l)
    each_room [] l h = h
    each_room (m ∷ ms) l h = each_room ms (goes_on m l) (goes_on_room m l h)

    pub all_room : (l : Lines) → Roomy n passed window grew l
        → Roomy n passed window grew (all_go_on l)
    all_room l h = each_room (numbers l.entries) l h

    pub aims_room : (m target : ℕ) (l : Lines) → Roomy n passed window grew l
        → Roomy n passed window grew (aims m target l)
    aims_room m target l h = found (find m l.entries) m _ l refl
        (λ e is. turned (record e { target = target }) e [] l is refl tt h) h

    -- a request, and the replies that go out as one is settled, which open no channel
    pub request_room : (m : ℕ) (l : Lines) → Roomy n passed window grew l
        → Roomy n passed window grew (takes_request m l)
    request_room m l h = found (find m l.entries) m _ l refl
        (λ e is. chosen e.confirmed _ _ (turned (requesting e) e [] l is refl tt h) h) h

    reply_unopened : (own peer : ℕ) (success : Bool)
        → opens_on n (reply_frame own peer success) ≡ false
    reply_unopened own peer true = unopened n (reply_frame own peer true) refl
    reply_unopened own peer false = unopened n (reply_frame own peer false) refl

    replied_silent : (place : Option ℕ) (success : Bool) (e : Entry)
        → AreSilent (opens_on n) (replies_out place success e)
    replied_silent place success e =
        replies_silent (opens_on n) e.number e.peer (reply_unopened e.number e.peer)
        (drop (length (ready e.replies)) (ready (settling place success 0 e.replies)))

    pub reply_room : (m : ℕ) (success : Bool) (l : Lines) (place : Option ℕ)
        → Roomy n passed window grew l → Roomy n passed window grew (takes_reply m place success l)
    reply_room m success l place h = found (find m l.entries) m _ l refl
        (λ e is. chosen (reply_may_come place e) _ _
        (turned (replying place success e) e (replies_out place success e) l is refl
        (replied_silent place success e) h) h) h

    pub confirmed_room : (m peer limit granted : ℕ) (l : Lines) → Roomy n passed window grew l
        → Roomy n passed window grew (confirms m peer granted limit l)
    confirmed_room m peer limit granted l h = found (find m l.entries) m _ l refl
        (λ e is. chosen (not e.confirmed) _ _
        (turned (agreed peer granted limit e) e [] l is refl tt h) h) h

    pub failed_room : (m : ℕ) (l : Lines) → Roomy n passed window grew l
        → Roomy n passed window grew (fails m l)
    failed_room m l h = found (find m l.entries) m _ l refl
        (λ e is. chosen (not e.confirmed) _ _ (gone e.number [] l tt h) h) h
