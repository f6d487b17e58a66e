-- What was sent on each number stays what has to be sent there, call by call.
use Rattle.std.proofs.Common.{◌≡◌, ◌<◌, ◌^◌, ◌==◌, ◌&&◌, ◌||◌, ◌-◌, ℕ, Bool, true, false, not, cond}
use Rattle.std.proofs.Common.{Option, Some, None}
use Rattle.std.proofs.Common.{List, [], ◌∷◌, ◌++◌, map, refl, sym, ◌∙◌, ap, subst, append_assoc}
use Rattle.std.proofs.Common.{rules}
use Rattle.std.proofs.lemmas.List.{append-nil}
use Rattle.ssh_wire.specs.declared.channel_id.ChannelId.{ChannelId}
use Rattle.ssh_link.specs.Frames.{Frame}
use Rattle.ssh_link.specs.declared.link.TraceEntry.{TraceEntry}
use Rattle.ssh_link.specs.declared.link.TraceEntry.TheVariants.{Sent}
use Rattle.ssh_channels.specs.declared.adjusted.Adjusted.{Adjusted}
use Rattle.ssh_channels.specs.declared.adjusted.Adjusted.TheVariants.{Dropped, Kept, Granted}
use Rattle.ssh_channels.specs.declared.chunk.Chunk.{Chunk}
use Rattle.ssh_channels.specs.declared.chunk.DataKind.{DataKind}
use Rattle.ssh_channels.specs.declared.chunk.DataKind.TheVariants.{Plain, Extended}
use Rattle.ssh_channels.specs.Layout.{chunk, data_frame, eof_frame, close_frame, bare_frame}
use Rattle.ssh_channels.specs.Layout.{adjust_frame, reply_frame}
use Rattle.ssh_channels.specs.Cut.{piece_limit, cut, left_of}
use Rattle.ssh_channels.specs.Entry.{Entry, agreed, all_framed, more_may_come, close_may_come}
use Rattle.ssh_channels.specs.Entry.{flush_out}
use Rattle.ssh_channels.specs.Entry.{flushed, granting, accepting, tells_eof, closes_now, eof_out}
use Rattle.ssh_channels.specs.Entry.{after_eof, requesting, reply_may_come, replying, replies_out}
use Rattle.ssh_channels.specs.Room.{coming, having, adjust_out}
use Rattle.ssh_channels.specs.Lines.{Left, Lines, find, put, without, added, last_left, write}
use Rattle.ssh_channels.specs.Lines.{turns, leaves, closes}
use Rattle.ssh_channels.specs.Lines.{settles}
use Rattle.ssh_channels.specs.Lines.{where_found, at, takes_data, takes_eof, takes_close}
use Rattle.ssh_channels.specs.Lines.{peer_closes, goes_on}
use Rattle.ssh_channels.specs.Lines.{takes_grant, takes_in, says, aims, takes_request}
use Rattle.ssh_channels.specs.Lines.{takes_reply, confirms, fails}
use Rattle.ssh_channels.specs.Sent.{is_opening, is_refusal, is_flow, is_reply, is_beside, since}
use Rattle.ssh_channels.specs.Sent.{Before}
use Rattle.ssh_channels.specs.Sent.{IsLeft, IsGone, IsKept}
use Rattle.ssh_channels.specs.Sent.{AllKept}
use Rattle.ssh_channels.specs.Sent.{Ledgered, AllRefuse, may_stage, may_stage_on, may_go}
use Rattle.ssh_channels.specs.Sent.{message_of, farewell}
use Rattle.ssh_channels.proofs.Entries.{and_left, and_right, more_confirmed}
use Rattle.ssh_channels.proofs.Befores.{before_flush, before_grant, before_accept, before_eof}
use Rattle.ssh_channels.proofs.Befores.{before_close}
use Rattle.ssh_channels.proofs.Befores.{before_beside}
use Rattle.ssh_channels.proofs.Befores.{before_room, before_aimed, before_request}
use Rattle.ssh_channels.proofs.Befores.{before_reply, before_told}
use Rattle.ssh_channels.proofs.Befores.{before_agreed, left_after_all, left_by_peer, left_refused}
use Rattle.ssh_channels.proofs.Listed.{one_number, found_put, find_other, find_again, find_without}
use Rattle.ssh_channels.proofs.Listed.{without_other}
use Rattle.ssh_channels.proofs.Listed.{find_new, find_beside}
use Rattle.ssh_channels.proofs.Traces.{AllOn, Others, on_both, on_others, since_on, since_others}
use Rattle.ssh_channels.proofs.Traces.{since_opens}
use Rattle.ssh_channels.proofs.Traces.{since_none}
use Rattle.ssh_channels.proofs.Traces.{one_others, written_more}

not_true : (b : Bool) → not b ≡ true → b ≡ false
not_true false h = refl
not_true true h = absurd (cc)

-- ---- the frames of a call are its channel's

data_on_one : (n peer : ℕ) (kind : DataKind) (bytes : List ℕ) →
    is_opening (data_frame n peer (chunk kind bytes)).payload ≡ false
data_on_one n peer Plain bytes = refl
data_on_one n peer (Extended code) bytes = refl

data_on : (n peer : ℕ) (ps : List Chunk) → AllOn n (map (data_frame n peer) ps)
data_on n peer [] = tt
data_on n peer (p ∷ ps) = (refl, data_on_one n peer p.kind p.bytes, data_on n peer ps)

flush_on : (e : Entry) → AllOn e.number (flush_out e)
flush_on e = data_on e.number e.peer (cut (piece_limit e.limit) (e.granted - e.framed)
    (left_of e.framed e.chunks))

eof_on_at : (b : Bool) (n peer : ℕ) → AllOn n (cond b (eof_frame n peer ∷ []) [])
eof_on_at true n peer = (refl, refl, tt)
eof_on_at false n peer = tt

eof_on : (e : Entry) → AllOn e.number (eof_out e)
eof_on e = eof_on_at (tells_eof e) e.number e.peer

close_on : (n peer : ℕ) → AllOn n (close_frame n peer ∷ [])
close_on n peer = (refl, refl, tt)

-- ---- one channel changed, left, or came

put_at : (b : Bool) (n : ℕ) (e f : Entry) (es : List Entry) (left : List Left)
    (trace more : List TraceEntry) →
    (n == e.number) ≡ b → find e.number es ≡ Some f → AllKept es left trace →
    Before e (since e.number (trace ++ more)) →
    Others e.number more → IsKept (find n (put e es)) (last_left n left) (since n (trace ++ more))
put_at true n e f es left trace more t h old new others =
    let same : n ≡ e.number = one_number n e.number t in
    let at : IsKept (find e.number (put e es)) (last_left e.number left)
    (since e.number (trace ++ more)) =
    subst (λ o. IsKept o (last_left e.number left) (since e.number (trace ++ more)))
    (sym (found_put e es f h)) new in
    subst (λ k. IsKept (find k (put e es)) (last_left k left) (since k (trace ++ more))) (sym same)
    at
put_at false n e f es left trace more t h old new others =
    subst (λ o. IsKept o (last_left n left) (since n (trace ++ more))) (sym (find_other n e es t))
    (subst (IsKept (find n es) (last_left n left))
    (sym (since_others e.number n trace more others t)) (old n))

gone_at : (b : Bool) (n : ℕ) (l : Left) (es : List Entry) (left : List Left)
    (trace more : List TraceEntry) →
    (n == l.entry.number) ≡ b → AllKept es left trace
    → IsLeft l (since l.entry.number (trace ++ more)) →
    Others l.entry.number more →
    IsKept (find n (without l.entry.number es)) (cond b (Some l) (last_left n left))
    (since n (trace ++ more))
gone_at true n l es left trace more t old new others =
    let same : n ≡ l.entry.number = one_number n l.entry.number t in
    let at : IsKept (find l.entry.number (without l.entry.number es)) (Some l)
    (since l.entry.number (trace ++ more)) =
    subst (λ o. IsKept o (Some l) (since l.entry.number (trace ++ more)))
    (sym (find_without l.entry.number es)) new in
    subst (λ k. IsKept (find k (without l.entry.number es)) (Some l) (since k (trace ++ more)))
    (sym same) at
gone_at false n l es left trace more t old new others =
    subst (λ o. IsKept o (last_left n left) (since n (trace ++ more)))
    (sym (without_other l.entry.number n es t))
    (subst (IsKept (find n es) (last_left n left))
    (sym (since_others l.entry.number n trace more others t)) (old n))

opened_at : (b : Bool) (n : ℕ) (e : Entry) (es : List Entry) (left : List Left)
    (trace more : List TraceEntry) →
    (n == e.number) ≡ b → find e.number es ≡ None → AllKept es left trace
    → Before e (since e.number (trace ++ more)) →
    Others e.number more → IsKept (find n (added e es)) (last_left n left) (since n (trace ++ more))
opened_at true n e es left trace more t h old new others =
    let same : n ≡ e.number = one_number n e.number t in
    let at : IsKept (find e.number (added e es)) (last_left e.number left)
    (since e.number (trace ++ more)) =
    subst (λ o. IsKept o (last_left e.number left) (since e.number (trace ++ more)))
    (sym (find_new e es h)) new in
    subst (λ k. IsKept (find k (added e es)) (last_left k left) (since k (trace ++ more)))
    (sym same) at
opened_at false n e es left trace more t h old new others =
    subst (λ o. IsKept o (last_left n left) (since n (trace ++ more))) (sym (find_beside n e es t))
    (subst (IsKept (find n es) (last_left n left))
    (sym (since_others e.number n trace more others t)) (old n))

-- what was sent on a number that is a channel's
pub found_before : (n : ℕ) (l : Lines) (e : Entry) (past : List TraceEntry) → find n l.entries
    ≡ Some e →
    Ledgered l past → Before e (since e.number (past ++ map Sent l.written))
found_before n l e past is h =
    let k : find e.number l.entries ≡ Some e = find_again n l.entries e is in
    subst (λ o. IsKept o (last_left e.number l.left) (since e.number (past ++ map Sent l.written)))
    k (h e.number)

module _ (l : Lines) (past : List TraceEntry) (h : Ledgered l past) where
  -- all that is sent, with what was written
  abbrev pub sent : List TraceEntry
  sent = past ++ map Sent l.written

  turns_kept : (e f : Entry) (frames : List Frame) → find e.number l.entries ≡ Some f
      → AllOn e.number frames →
      Before e (since e.number sent ++ frames) → Ledgered (turns e frames l) past
  turns_kept e f frames is on new = λ n.
      let s : since e.number (sent ++ map Sent frames) ≡ since e.number sent ++ frames =
      since_on e.number sent frames on in
      subst (λ t. IsKept (find n (put e l.entries)) (last_left n l.left) (since n t))
      (sym (written_more past l.written frames))
      (put_at (n == e.number) n e f l.entries l.left sent (map Sent frames) refl is h
      (subst (Before e) (sym s) new) (on_others e.number frames on))

  leaves_kept : (e : Entry) (by_peer : Bool) (frames : List Frame) → AllOn e.number frames →
      IsLeft (record { entry = e; by_peer = by_peer }) (since e.number sent ++ frames) →
      Ledgered (leaves e by_peer frames l) past
  leaves_kept e by_peer frames on new = λ n.
      let gone : Left = record { entry = e; by_peer = by_peer } in
      let s : since e.number (sent ++ map Sent frames) ≡ since e.number sent ++ frames =
      since_on e.number sent frames on in
      subst (λ t. IsKept (find n (without e.number l.entries)) (last_left n (gone ∷ l.left))
      (since n t))
      (sym (written_more past l.written frames))
      (gone_at (n == e.number) n gone l.entries l.left sent (map Sent frames) refl h
      (subst (IsLeft gone) (sym s) new) (on_others e.number frames on))

  -- what is owed behind these frames goes out
  settles_at : (b : Bool) (e f : Entry) (frames : List Frame) → closes_now e ≡ b
      → find e.number l.entries ≡ Some f →
      AllOn e.number frames → Before e (since e.number sent ++ frames) →
      Ledgered (cond b (closes (after_eof e) false (frames ++ eof_out e) l)
      (turns (after_eof e) (frames ++ eof_out e) l))
      past
  settles_at true e f frames c is on new =
      let all = frames ++ eof_out e in
      let told : Before (after_eof e) (since e.number sent ++ all) =
      subst (Before (after_eof e)) (append_assoc (since e.number sent) frames (eof_out e))
      (before_told e (since e.number sent ++ frames) new) in
      leaves_kept (after_eof e) false (all ++ close_frame e.number e.peer ∷ [])
      (on_both e.number all (close_frame e.number e.peer ∷ []) (on_both e.number frames (eof_out e)
      on (eof_on e))
      (close_on e.number e.peer))
      (subst (IsLeft (record { entry = after_eof e; by_peer = false }))
      (append_assoc (since e.number sent) all (close_frame e.number e.peer ∷ []))
      (left_after_all (after_eof e) (since e.number sent ++ all) c told))
  settles_at false e f frames c is on new =
      let all = frames ++ eof_out e in
      turns_kept (after_eof e) f all is (on_both e.number frames (eof_out e) on (eof_on e))
      (subst (Before (after_eof e)) (append_assoc (since e.number sent) frames (eof_out e))
      (before_told e (since e.number sent ++ frames) new))

  settles_kept : (e f : Entry) (frames : List Frame) → find e.number l.entries ≡ Some f
      → AllOn e.number frames →
      Before e (since e.number sent ++ frames) → Ledgered (settles e frames l) past
  settles_kept e f frames is on new = settles_at (closes_now e) e f frames refl is on new

  -- no frame more
  still : (e : Entry) (P : List Frame → Type 0) → P (since e.number sent)
      → P (since e.number sent ++ [])
  still e P p = subst P (sym (append-nil (since e.number sent))) p

  -- a call keeps the law where it keeps it on the channel that it finds
  at_found : (o : Option Entry) (n : ℕ) (change : Entry → Lines → Lines) → find n l.entries ≡ o →
      ((e : Entry) → find e.number l.entries ≡ Some e → Before e (since e.number sent)
      → Ledgered (change e l) past) →
      Ledgered (where_found o change l) past
  at_found None n change is keeps = h
  at_found (Some e) n change is keeps = keeps e (find_again n l.entries e is)
      (found_before n l e past is h)

  at_kept : (n : ℕ) (change : Entry → Lines → Lines) →
      ((e : Entry) → find e.number l.entries ≡ Some e → Before e (since e.number sent)
      → Ledgered (change e l) past) →
      Ledgered (at n change l) past
  at_kept n change keeps = at_found (find n l.entries) n change refl keeps

  where_may : (b : Bool) (l' : Lines) → (b ≡ true → Ledgered l' past) → Ledgered (cond b l' l) past
  where_may true l' k = k refl
  where_may false l' k = h

  -- ---- the calls

  beside_flow : (f : Frame) → is_beside f ≡ true → is_flow f ≡ false
  beside_flow f b = not_true (is_flow f)
      (and_right (not (is_opening f.payload) && not (is_refusal f.payload)) (not (is_flow f))
      (and_left (not (is_opening f.payload) && not (is_refusal f.payload) && not (is_flow f))
      (not (is_reply f)) b))

  beside_reply : (f : Frame) → is_beside f ≡ true → is_reply f ≡ false
  beside_reply f b = not_true (is_reply f)
      (and_right (not (is_opening f.payload) && not (is_refusal f.payload) && not (is_flow f))
      (not (is_reply f)) b)

  beside_opening : (f : Frame) → is_beside f ≡ true → is_opening f.payload ≡ false
  beside_opening f b =
      not_true (is_opening f.payload) (and_left (not (is_opening f.payload))
      (not (is_refusal f.payload))
      (and_left (not (is_opening f.payload) && not (is_refusal f.payload)) (not (is_flow f))
      (and_left (not (is_opening f.payload) && not (is_refusal f.payload) && not (is_flow f))
      (not (is_reply f)) b)))

  pub says_kept : (n message : ℕ) → is_beside (bare_frame message 0 0) ≡ true
      → Ledgered (says n message l) past
  says_kept n message b = at_kept n
      (λ e l. cond e.confirmed (turns e (bare_frame message e.number e.peer ∷ []) l) l)
      (λ e is k. where_may e.confirmed (turns e (bare_frame message e.number e.peer ∷ []) l)
      (λ c. turns_kept e e (bare_frame message e.number e.peer ∷ []) is
      (refl, beside_opening (bare_frame message 0 0) b, tt)
      (before_beside e (since e.number sent) (bare_frame message e.number e.peer)
      (beside_flow (bare_frame message 0 0) b) (beside_reply (bare_frame message 0 0) b) k)))

  data_at : (b : Bool) (e : Entry) (c : Chunk) → find e.number l.entries ≡ Some e → more_may_come e
      ≡ true →
      Before e (since e.number sent) → Ledgered (cond b (turns (accepting c e) [] l)
      (turns (flushed (accepting c e)) (flush_out (accepting c e)) l)) past
  data_at true e c is m k =
      turns_kept (accepting c e) e [] is tt (still e (Before (accepting c e))
      (before_accept c e (since e.number sent) m k))
  data_at false e c is m k =
      turns_kept (flushed (accepting c e)) e (flush_out (accepting c e)) is
      (flush_on (accepting c e))
      (before_flush (accepting c e) (since e.number sent) (before_accept c e (since e.number sent) m
      k))

  pub data_kept : (n : ℕ) (c : Chunk) (is_rekeying : Bool) → Ledgered (takes_data n c is_rekeying l)
      past
  data_kept n c is_rekeying = at_kept n (λ e l. cond (more_may_come e)
      (cond (is_rekeying || not (all_framed e)) (turns (accepting c e) [] l)
      (turns (flushed (accepting c e)) (flush_out (accepting c e)) l)) l)
      (λ e is k. where_may (more_may_come e) (cond (is_rekeying || not (all_framed e))
      (turns (accepting c e) [] l)
      (turns (flushed (accepting c e)) (flush_out (accepting c e)) l))
      (λ m. data_at (is_rekeying || not (all_framed e)) e c is m k))

  pub eof_kept : (n : ℕ) → Ledgered (takes_eof n l) past
  eof_kept n = at_kept n (λ e l. cond (more_may_come e) (settles (record e { eof = true }) [] l) l)
      (λ e is k. where_may (more_may_come e) (settles (record e { eof = true }) [] l)
      (λ m. settles_kept (record e { eof = true }) e [] is tt
      (still e (Before (record e { eof = true }))
      (before_eof e (since e.number sent) (more_confirmed e m) k))))

  pub close_kept : (n : ℕ) → Ledgered (takes_close n l) past
  close_kept n = at_kept n (λ e l. cond (close_may_come e) (settles (record e { close = true }) []
      l) l)
      (λ e is k. where_may (close_may_come e) (settles (record e { close = true }) [] l)
      (λ m. settles_kept (record e { close = true }) e [] is tt
      (still e (Before (record e { close = true }))
      (before_close e (since e.number sent) (and_left e.confirmed (not e.close) m) k))))

  pub peer_close_kept : (n : ℕ) → Ledgered (peer_closes n l) past
  peer_close_kept n = at_kept n (λ e l. cond e.confirmed (closes e true [] l) l)
      (λ e is k. where_may e.confirmed (closes e true [] l)
      (λ c. leaves_kept e true (close_frame e.number e.peer ∷ []) (close_on e.number e.peer)
      (left_by_peer e (since e.number sent) c k)))

  pub goes_on_kept : (n : ℕ) → Ledgered (goes_on n l) past
  goes_on_kept n = at_kept n (λ e. settles (flushed e) (flush_out e))
      (λ e is k. settles_kept (flushed e) e (flush_out e) is (flush_on e)
      (before_flush e (since e.number sent) k))

  pub grant_kept : (n amount : ℕ) → Ledgered (takes_grant n amount l) past
  grant_kept n amount = at_kept n (λ e l. cond e.confirmed
      (settles (flushed (granting amount (flushed e))) (flush_out e
      ++ flush_out (granting amount (flushed e))) l) l)
      (λ e is k. where_may e.confirmed
      (settles (flushed (granting amount (flushed e))) (flush_out e
      ++ flush_out (granting amount (flushed e))) l)
      (λ c. let g = granting amount (flushed e) in
      let fs = since e.number sent in
      settles_kept (flushed g) e (flush_out e ++ flush_out g) is
      (on_both e.number (flush_out e) (flush_out g) (flush_on e) (flush_on g))
      (subst (Before (flushed g)) (append_assoc fs (flush_out e) (flush_out g))
      (before_flush g (fs ++ flush_out e)
      (before_grant amount (flushed e) (fs ++ flush_out e) c refl (before_flush e fs k))))))

  adjust_at : (a : Adjusted) (e : Entry) (count target : ℕ) → find e.number l.entries ≡ Some e →
      Before e (since e.number sent) → Ledgered (turns (having a count target e) (adjust_out a e) l)
      past
  adjust_at Dropped e count target is k = turns_kept e e [] is tt (still e (Before e) k)
  adjust_at Kept e count target is k =
      let e' = record e { room = e.room - count } in
      turns_kept e' e [] is tt (still e (Before e')
      (before_room (e.room - count) e (since e.number sent) k))
  adjust_at (Granted amount) e count target is k =
      let e' = record e { room = target } in
      turns_kept e' e (adjust_frame e.number e.peer amount ∷ []) is (refl, refl, tt)
      (before_beside e' (since e.number sent) (adjust_frame e.number e.peer amount) refl refl
      (before_room target e (since e.number sent) k))

  pub adjust_kept : (n count target : ℕ) → Ledgered (takes_in n count target l) past
  adjust_kept n count target =
      at_kept n (λ e. turns (having (coming count target e) count target e)
      (adjust_out (coming count target e) e))
      (λ e is k. adjust_at (coming count target e) e count target is k)

  pub aims_kept : (n target : ℕ) → target < 2 ^ 32 → Ledgered (aims n target l) past
  aims_kept n target small = at_kept n (λ e. turns (record e { target = target }) [])
      (λ e is k. turns_kept (record e { target = target }) e [] is tt
      (still e (Before (record e { target = target }))
      (before_aimed target e (since e.number sent) small k)))

  pub request_kept : (n : ℕ) → Ledgered (takes_request n l) past
  request_kept n = at_kept n (λ e l. cond e.confirmed (turns (requesting e) [] l) l)
      (λ e is k. where_may e.confirmed (turns (requesting e) [] l)
      (λ c. turns_kept (requesting e) e [] is tt
      (still e (Before (requesting e)) (before_request e (since e.number sent) c k))))

  reply_opens_none : (n peer : ℕ) (success : Bool) →
      is_opening (reply_frame n peer success).payload ≡ false
  reply_opens_none n peer true = refl
  reply_opens_none n peer false = refl

  replies_on : (n peer : ℕ) (said : List Bool) → AllOn n (map (reply_frame n peer) said)
  replies_on n peer [] = tt
  replies_on n peer (success ∷ said) =
      (refl, reply_opens_none n peer success, replies_on n peer said)

  pub reply_kept : (n : ℕ) (place : Option ℕ) (success : Bool)
      → Ledgered (takes_reply n place success l) past
  reply_kept n place success = at_kept n (λ e l. cond (reply_may_come place e)
      (turns (replying place success e) (replies_out place success e) l) l)
      (λ e is k. where_may (reply_may_come place e)
      (turns (replying place success e) (replies_out place success e) l)
      (λ m. turns_kept (replying place success e) e (replies_out place success e) is
      (replies_on e.number e.peer _) (before_reply place success e (since e.number sent) k)))

  pub confirms_kept : (n peer window limit : ℕ) → 0 < limit → window < 2 ^ 32 →
      Ledgered (confirms n peer window limit l) past
  confirms_kept n peer window limit p w = at_kept n (λ e l. cond (not e.confirmed)
      (turns (agreed peer window limit e) [] l) l)
      (λ e is k. where_may (not e.confirmed) (turns (agreed peer window limit e) [] l)
      (λ c. turns_kept (agreed peer window limit e) e [] is tt
      (still e (Before (agreed peer window limit e))
      (before_agreed peer window limit e (since e.number sent) (not_true e.confirmed c) p w k))))

  pub fails_kept : (n : ℕ) → Ledgered (fails n l) past
  fails_kept n = at_kept n (λ e l. cond (not e.confirmed) (leaves e true [] l) l)
      (λ e is k. where_may (not e.confirmed) (leaves e true [] l)
      (λ c. leaves_kept e true [] tt (left_refused e (since e.number sent) (not_true e.confirmed c)
      k)))

  -- ---- opens

  pub added_kept : (e : Entry) (f : Frame) → find e.number l.entries ≡ None →
      f.channel ≡ Some (record { 0 = e.number }) →
      is_opening f.payload ≡ true → Before e [] →
      AllKept (added e l.entries) l.left (past ++ map Sent (l.written ++ f ∷ []))
  added_kept e f free on opens new = λ n.
      subst (λ t. IsKept (find n (added e l.entries)) (last_left n l.left) (since n t))
      (sym (written_more past l.written (f ∷ [])))
      (opened_at (n == e.number) n e l.entries l.left sent (Sent f ∷ []) refl free h
      (subst (Before e) (sym (since_opens e.number sent f on opens)) new)
      (one_others e.number f on))

  -- ---- frames that are staged

  live_at : (b : Bool) (n k : ℕ) (e : Entry) (f : Frame) → (k == n) ≡ b → f.channel
      ≡ Some (record { 0 = n }) →
      find n l.entries ≡ Some e → is_beside f ≡ true →
      IsKept (find k l.entries) (last_left k l.left) (since k (sent ++ map Sent (f ∷ [])))
  live_at true n k e f t on is b =
      let all : AllOn n (f ∷ []) = (on, beside_opening f b, tt) in
      let s : since n (sent ++ map Sent (f ∷ [])) ≡ since n sent ++ f ∷ [] =
      since_on n sent (f ∷ []) all in
      let old : Before e (since n sent) = subst (λ o. IsKept o (last_left n l.left) (since n sent))
      is (h n) in
      let new : Before e (since n (sent ++ map Sent (f ∷ []))) =
      subst (Before e) (sym s) (before_beside e (since n sent) f (beside_flow f b)
      (beside_reply f b) old) in
      subst (λ m. IsKept (find m l.entries) (last_left m l.left)
      (since m (sent ++ map Sent (f ∷ []))))
      (sym (one_number k n t))
      (subst (λ o. IsKept o (last_left n l.left) (since n (sent ++ map Sent (f ∷ [])))) (sym is)
      new)
  live_at false n k e f t on is b =
      subst (IsKept (find k l.entries) (last_left k l.left))
      (sym (since_others n k sent (map Sent (f ∷ [])) (one_others n f on) t)) (h k)

  stage_live : (n : ℕ) (e : Entry) (f : Frame) → f.channel ≡ Some (record { 0 = n })
      → find n l.entries ≡ Some e →
      is_beside f ≡ true → Ledgered (write (f ∷ []) l) past
  stage_live n e f on is b = λ k.
      subst (λ t. IsKept (find k l.entries) (last_left k l.left) (since k t))
      (sym (written_more past l.written (f ∷ [])))
      (live_at (k == n) n k e f refl on is b)

  -- an open of the peer's on a number that is no channel's is refused
  refusal_opening : (f : Frame) → is_refusal f.payload ≡ true → is_opening f.payload ≡ false
  refusal_opening f r =
      let k : message_of f.payload ≡ 92 = search rules in
      ap (λ n. (n == 90) || (n == 91)) k

  refuse_both : (xs ys : List Frame) → AllRefuse xs → AllRefuse ys → AllRefuse (xs ++ ys)
  refuse_both [] ys a b = b
  refuse_both (x ∷ xs) ys a b = (a.0, refuse_both xs ys a.1 b)

  refused : (o : Option Left) (fs : List Frame) (f : Frame) → is_refusal f.payload ≡ true
      → IsGone o fs →
      IsGone o (fs ++ f ∷ [])
  refused None fs f r g = refuse_both fs (f ∷ []) g (r, tt)
  refused (Some gone) fs f r (before, after, b, all, is, how) =
      let bye = farewell gone.entry in (
        before,
        after ++ f ∷ [],
        b,
        refuse_both after (f ∷ []) all (r, tt),
        ap (λ l. l ++ f ∷ []) is ∙ append_assoc before (bye ++ after) (f ∷ [])
            ∙ ap (λ l. before ++ l) (append_assoc bye after (f ∷ [])),
        how,
      )

  free_at : (b : Bool) (n k : ℕ) (f : Frame) → (k == n) ≡ b → f.channel ≡ Some (record { 0 = n }) →
      find n l.entries ≡ None → is_refusal f.payload ≡ true →
      IsKept (find k l.entries) (last_left k l.left) (since k (sent ++ map Sent (f ∷ [])))
  free_at true n k f t on is r =
      let all : AllOn n (f ∷ []) = (on, refusal_opening f r, tt) in
      let s : since n (sent ++ map Sent (f ∷ [])) ≡ since n sent ++ f ∷ [] =
      since_on n sent (f ∷ []) all in
      let old : IsGone (last_left n l.left) (since n sent) =
      subst (λ o. IsKept o (last_left n l.left) (since n sent)) is (h n) in
      let new : IsGone (last_left n l.left) (since n (sent ++ map Sent (f ∷ []))) =
      subst (IsGone (last_left n l.left)) (sym s) (refused (last_left n l.left) (since n sent) f r
      old) in
      subst (λ m. IsKept (find m l.entries) (last_left m l.left)
      (since m (sent ++ map Sent (f ∷ []))))
      (sym (one_number k n t))
      (subst (λ o. IsKept o (last_left n l.left) (since n (sent ++ map Sent (f ∷ [])))) (sym is)
      new)
  free_at false n k f t on is r =
      subst (IsKept (find k l.entries) (last_left k l.left))
      (sym (since_others n k sent (map Sent (f ∷ [])) (one_others n f on) t)) (h k)

  stage_free : (n : ℕ) (f : Frame) → f.channel ≡ Some (record { 0 = n }) → find n l.entries ≡ None →
      is_refusal f.payload ≡ true → Ledgered (write (f ∷ []) l) past
  stage_free n f on is r = λ k.
      subst (λ t. IsKept (find k l.entries) (last_left k l.left) (since k t))
      (sym (written_more past l.written (f ∷ [])))
      (free_at (k == n) n k f refl on is r)

  stage_none : (f : Frame) → f.channel ≡ None → Ledgered (write (f ∷ []) l) past
  stage_none f on = λ k.
      let s : since k (sent ++ map Sent (f ∷ [])) ≡ since k sent = since_none k sent (Sent f ∷ [])
      (on, tt) in
      subst (λ t. IsKept (find k l.entries) (last_left k l.left) (since k t))
      (sym (written_more past l.written (f ∷ [])))
      (subst (IsKept (find k l.entries) (last_left k l.left)) (sym s) (h k))

  stage_some : (o : Option Entry) (n : ℕ) (f : Frame) → f.channel ≡ Some (record { 0 = n })
      → find n l.entries ≡ o →
      may_go o f ≡ true → Ledgered (write (f ∷ []) l) past
  stage_some None n f on is m = stage_free n f on is m
  stage_some (Some e) n f on is m = stage_live n e f on is m

  stage_at : (o : Option ChannelId) (f : Frame) → f.channel ≡ o → may_stage_on o f l ≡ true →
      Ledgered (write (f ∷ []) l) past
  stage_at None f on m = stage_none f on
  stage_at (Some c) f on m = stage_some (find c.0 l.entries) c.0 f on refl m

  pub stage_kept : (f : Frame) → may_stage f l ≡ true → Ledgered (write (f ∷ []) l) past
  stage_kept f m = stage_at f.channel f refl m
