-- A call leaves every other channel as it is.
use Rattle.std.proofs.Common.{◌≡◌, ◌==◌, ◌||◌, ℕ, Bool, true, false, cond, List, [], ◌∷◌, ◌++◌}
use Rattle.std.proofs.Common.{not}
use Rattle.std.proofs.Common.{refl, sym, ◌∙◌, ap, subst, Option, Some, None, is_some}
use Rattle.std.specs.declared.cmp.Ordering.{Ordering}
use Rattle.std.specs.declared.cmp.Ordering.TheVariants.{Less, Equal, Greater}
use Rattle.std.specs.Ordering.{nat_cmp, match_ordering, is_eq}
use Rattle.std.specs.BTreeMap.{is_at, insert_entry}
use Rattle.std.specs.Map.{lookup, set_value, remove_entry}
use Rattle.ssh_link.specs.Frames.{Frame}
use Rattle.ssh_channels.specs.declared.params.ChannelParams.{ChannelParams}
use Rattle.ssh_channels.specs.declared.adjusted.Adjusted.{Adjusted}
use Rattle.ssh_channels.specs.declared.adjusted.Adjusted.TheVariants.{Dropped, Kept, Granted}
use Rattle.ssh_channels.specs.Room.{coming, having, adjust_out}
use Rattle.ssh_channels.specs.Line as line
use Rattle.ssh_channels.specs.Window.{adjusted, adjusted_frames, aimed}
use Rattle.ssh_channels.specs.Table.{Table, line_at, is_live, put, write, act, act_on}
use Rattle.ssh_channels.specs.Numbers as numbers
use Rattle.ssh_channels.specs.Layout.{bare_frame, close_frame}
use Rattle.ssh_channels.specs.declared.chunk.Chunk.{Chunk}
use Rattle.ssh_channels.specs.Calls.{Op, Byte, Send, Eof, Close, Peer_close, Flush_line, Flush_all}
use Rattle.ssh_channels.specs.Calls.{Grant, Adjust, Draw}
use Rattle.ssh_channels.specs.Calls.{Open_next, Accept_next, Drop_pending, Insert, Confirm}
use Rattle.ssh_channels.specs.Calls.{Fail_open, Set_target, Request, Settle, Stage, op, confirm}
use Rattle.ssh_channels.specs.Entry.{Entry, opened, asked, agreed, all_framed, more_may_come}
use Rattle.ssh_channels.specs.Entry.{close_may_come, closes_now, eof_out, after_eof, flush_out}
use Rattle.ssh_channels.specs.Entry.{flushed, granting, accepting, requesting, reply_may_come}
use Rattle.ssh_channels.specs.Entry.{replying, replies_out}
use Rattle.ssh_channels.specs.Lines.{Lines, find, turns, leaves, closes, settles, where_found, at}
use Rattle.ssh_channels.specs.Lines.{drawn}
use Rattle.ssh_channels.specs.Lines.{takes_data, takes_eof, takes_close, peer_closes, goes_on}
use Rattle.ssh_channels.specs.Lines.{takes_grant, takes_in, says, aims, takes_request, takes_reply}
use Rattle.ssh_channels.specs.Lines.{confirms, fails, asks, accepts, accepts_next, adds, joins}
use Rattle.ssh_channels.specs.Lines.{next_number}
use Rattle.ssh_channels.specs.Others.{is_this, is_about}
use Rattle.ssh_channels.specs.Does.{does, entry_of}
use Rattle.ssh_channels.proofs.Listed.{find_other, find_beside, without_other, found_number}
use Rattle.ssh_channels.proofs.Noting.{same_number}
use Rattle.ssh_channels.proofs.Standing.{at_is}

-- ---- of a table

abbrev line_in : ℕ → List (ℕ × ChannelParams) → Option ChannelParams
line_in n lines = lookup (is_at (nat_cmp n)) lines

module _ (n k : ℕ) (v : ChannelParams) (apart : (n == k) ≡ false) where
  not_here : is_at (nat_cmp n) k ≡ false
  not_here = at_is n k ∙ apart

  not_there : (q : ℕ) → is_at (nat_cmp k) q ≡ true → is_at (nat_cmp n) q ≡ false
  not_there q t = subst (λ m. is_at (nat_cmp n) m ≡ false) (same_number k q t) not_here

  set_step : (b : Bool) (x : ℕ × ChannelParams) (xs : List (ℕ × ChannelParams))
      → is_at (nat_cmp k) x.0 ≡ b
      → line_in n (set_value (is_at (nat_cmp k)) xs v) ≡ line_in n xs
      → line_in n (cond b ((x.0, v) ∷ xs) (x ∷ set_value (is_at (nat_cmp k)) xs v))
      ≡ line_in n (x ∷ xs)
  set_step true x xs t ih = rw (not_there x.0 t) refl
  set_step false x xs t ih = ap (λ o. cond (is_at (nat_cmp n) x.0) (Some x.1) o) ih

  pub set_other : (xs : List (ℕ × ChannelParams))
      → lookup (is_at (nat_cmp n)) (set_value (is_at (nat_cmp k)) xs v)
      ≡ lookup (is_at (nat_cmp n)) xs
  set_other [] = refl
  set_other (x ∷ xs) = set_step (is_at (nat_cmp k) x.0) x xs refl (set_other xs)

  gone_step : (b : Bool) (x : ℕ × ChannelParams) (xs : List (ℕ × ChannelParams))
      → is_at (nat_cmp k) x.0 ≡ b
      → line_in n (remove_entry (is_at (nat_cmp k)) xs) ≡ line_in n xs
      → line_in n (cond b xs (x ∷ remove_entry (is_at (nat_cmp k)) xs)) ≡ line_in n (x ∷ xs)
  gone_step true x xs t ih = rw (not_there x.0 t) refl
  gone_step false x xs t ih = ap (λ o. cond (is_at (nat_cmp n) x.0) (Some x.1) o) ih

  pub gone_other : (xs : List (ℕ × ChannelParams))
      → lookup (is_at (nat_cmp n)) (remove_entry (is_at (nat_cmp k)) xs)
      ≡ lookup (is_at (nat_cmp n)) xs
  gone_other [] = refl
  gone_other (x ∷ xs) = gone_step (is_at (nat_cmp k) x.0) x xs refl (gone_other xs)

  come_step : (o : Ordering) (x : ℕ × ChannelParams) (xs : List (ℕ × ChannelParams))
      → nat_cmp k x.0 ≡ o → line_in n (insert_entry nat_cmp xs k v) ≡ line_in n xs
      → line_in n (match_ordering o ((k, v) ∷ x ∷ xs) ((x.0, v) ∷ xs)
      (x ∷ insert_entry nat_cmp xs k v)) ≡ line_in n (x ∷ xs)
  come_step Less x xs t ih = rw not_here refl
  come_step Equal x xs t ih = rw (not_there x.0 (ap is_eq t)) refl
  come_step Greater x xs t ih = ap (λ o. cond (is_at (nat_cmp n) x.0) (Some x.1) o) ih

  pub come_other : (xs : List (ℕ × ChannelParams))
      → lookup (is_at (nat_cmp n)) (insert_entry nat_cmp xs k v) ≡ lookup (is_at (nat_cmp n)) xs
  come_other [] = rw not_here refl
  come_other (x ∷ xs) = come_step (nat_cmp k x.0) x xs refl (come_other xs)

module _ (n : ℕ) (t : Table) where
  either : (b : Bool) (x y : Table) → line_at n x ≡ line_at n t → line_at n y ≡ line_at n t →
      line_at n (cond b x y) ≡ line_at n t
  either true x y h k = h
  either false x y h k = k

  put_other : (k : ℕ) (o : Option ChannelParams) → (n == k) ≡ false →
      line_at n (put k o t) ≡ line_at n t
  put_other k None h = gone_other n k (line.opening 0 0 0) h t.lines
  put_other k (Some l) h = set_other n k l h t.lines

  on_other : (test : ChannelParams → Bool) (frames : ChannelParams → List Frame)
      (after : ChannelParams → Option ChannelParams) (k : ℕ) (o : Option ChannelParams) →
      (n == k) ≡ false → line_at n (act_on test frames after k o t) ≡ line_at n t
  on_other test frames after k None h = refl
  on_other test frames after k (Some l) h =
      either (test l) (write (frames l) (put k (after l) t)) t (put_other k (after l) h) refl

  act_other : (test : ChannelParams → Bool) (frames : ChannelParams → List Frame)
      (after : ChannelParams → Option ChannelParams) (k : ℕ) → (n == k) ≡ false →
      line_at n (act test frames after k t) ≡ line_at n t
  act_other test frames after k h = on_other test frames after k (line_at k t) h

  drawn_other : (o : Option ℕ) → line_at n (numbers.drawn o t) ≡ line_at n t
  drawn_other None = refl
  drawn_other (Some m) = refl

  opened_other : (window packet : ℕ) (o : Option ℕ) → is_this n o ≡ false →
      line_at n (numbers.opened window packet o t) ≡ line_at n t
  opened_other window packet None h = refl
  opened_other window packet (Some m) h =
      come_other n m (line.opening m window packet) h t.lines

  accepted_other : (peer window room packet own_packet : ℕ) (o : Option ℕ) → is_this n o ≡ false →
      line_at n (numbers.accepted peer window room packet own_packet o t) ≡ line_at n t
  accepted_other peer window room packet own_packet None h = refl
  accepted_other peer window room packet own_packet (Some m) h =
      come_other n m (line.established peer (record { 0 = m }) window room packet own_packet) h
      t.lines

  insert_other : (l : ChannelParams) → (n == l.sender_channel.0) ≡ false →
      line_at n (numbers.insert l t) ≡ line_at n t
  insert_other l h = either (is_live l.sender_channel.0 t) t (numbers.add l t) refl
      (come_other n l.sender_channel.0 l h t.lines)

  pub line_stays : (o : Op) → is_about n (numbers.next_number t) o ≡ false →
      line_at n (op o t) ≡ line_at n t
  line_stays (Byte k message) h = act_other line.is_established
      (λ l. bare_frame message k l.recipient_channel ∷ []) (λ l. Some l) k h
  line_stays (Send k chunk is_rekeying) h = act_other line.may_send
      (line.taking_frames k chunk is_rekeying) (λ l. Some (line.taking chunk is_rekeying l)) k h
  line_stays (Eof k) h =
      act_other line.may_send (line.ending_frames k) (λ l. Some (line.ending l)) k h
  line_stays (Close k) h = act_other line.may_close (line.closing_frames k) line.closing k h
  line_stays (Peer_close k) h = act_other line.is_established
      (λ l. close_frame k l.recipient_channel ∷ []) (λ l. None) k h
  line_stays (Flush_line k is_rekeying) h = act_other (λ l. true) (line.goes k) line.stays k h
  line_stays (Flush_all is_rekeying) h = absurd (cc)
  line_stays (Grant k amount) h = act_other line.is_established (line.granting_frames k amount)
      (λ l. line.stays (line.granted amount l)) k h
  line_stays (Adjust k count target) h = act_other (λ l. true) (adjusted_frames k count target)
      (λ l. Some (adjusted count target l)) k h
  line_stays Draw h = drawn_other (numbers.next_number t)
  line_stays (Open_next window packet) h =
      opened_other window packet (numbers.next_number t) h
  line_stays (Accept_next peer window room packet own_packet) h =
      either (packet == 0) t (numbers.accept_next peer window room packet own_packet t) refl
      (accepted_other peer window room packet own_packet (numbers.next_number t) h)
  line_stays (Drop_pending k) h = refl
  line_stays (Insert l) h = either (l.recipient_maximum_packet_size == 0) t (numbers.insert l t)
      refl (insert_other l h)
  line_stays (Confirm msg) h = either (msg.maximum_packet_size == 0) t (confirm msg t) refl
      (act_other line.is_opening (λ l. []) (λ l. Some (line.confirmed_by msg.sender_channel
      msg.initial_window_size msg.maximum_packet_size l)) msg.recipient_channel h)
  line_stays (Fail_open k) h = act_other line.is_opening (λ l. []) (λ l. None) k h
  line_stays (Set_target k target) h =
      act_other (λ l. true) (λ l. []) (λ l. Some (aimed target l)) k h
  line_stays (Request k) h =
      act_other line.is_established (λ l. []) (λ l. Some (line.requested l)) k h
  line_stays (Settle k place success) h = act_other (line.owes_reply place)
      (line.reply_frames k place success) (λ l. Some (line.replied place success l)) k h
  line_stays (Stage frame) h = refl

-- ---- of a connection

-- the channel is as it is among these
abbrev Stays : (n : ℕ) → Lines → Lines → Type 0
Stays n l l' = find n l'.entries ≡ find n l.entries

either_one : (b : Bool) (n : ℕ) (l x y : Lines) → Stays n l x → Stays n l y → Stays n l (cond b x y)
either_one true n l x y h k = h
either_one false n l x y h k = k

turned : (n : ℕ) (l : Lines) (e : Entry) (frames : List Frame) → (n == e.number) ≡ false →
    Stays n l (turns e frames l)
turned n l e frames h = find_other n e l.entries h

parted : (n : ℕ) (l : Lines) (e : Entry) (by_peer : Bool) (frames : List Frame) →
    (n == e.number) ≡ false → Stays n l (leaves e by_peer frames l)
parted n l e by_peer frames h = without_other e.number n l.entries h

settled : (n : ℕ) (l : Lines) (e : Entry) (frames : List Frame) → (n == e.number) ≡ false →
    Stays n l (settles e frames l)
settled n l e frames h =
    let f = after_eof e in
    let out = frames ++ eof_out e in
    either_one (closes_now e) n l (closes f false out l) (turns f out l)
    (parted n l f false (out ++ close_frame f.number f.peer ∷ []) h) (turned n l f out h)

found_other : (o : Option Entry) (n k : ℕ) (change : Entry → Lines → Lines) (l : Lines) →
    find k l.entries ≡ o → (n == k) ≡ false →
    ((e : Entry) → (n == e.number) ≡ false → Stays n l (change e l)) →
    Stays n l (where_found o change l)
found_other None n k change l is h c = refl
found_other (Some e) n k change l is h c =
    c e (subst (λ m. (n == m) ≡ false) (sym (found_number k l.entries e is)) h)

at_other : (n k : ℕ) (change : Entry → Lines → Lines) (l : Lines) → (n == k) ≡ false →
    ((e : Entry) → (n == e.number) ≡ false → Stays n l (change e l)) → Stays n l (at k change l)
at_other n k change l h c = found_other (find k l.entries) n k change l refl h c

module _ (n k : ℕ) (l : Lines) (h : (n == k) ≡ false) where
  says_other : (message : ℕ) → Stays n l (says k message l)
  says_other message = at_other n k _ l h
      (λ e g. either_one e.confirmed n l _ _
      (turned n l e (bare_frame message e.number e.peer ∷ []) g) refl)

  data_other : (chunk : Chunk) (is_rekeying : Bool) → Stays n l (takes_data k chunk is_rekeying l)
  data_other chunk is_rekeying = at_other n k _ l h
      (λ e g. either_one (more_may_come e) n l _ _
      (either_one (is_rekeying || not (all_framed e)) n l _ _
      (turned n l (accepting chunk e) [] g)
      (turned n l (flushed (accepting chunk e)) (flush_out (accepting chunk e)) g)) refl)

  eof_other : Stays n l (takes_eof k l)
  eof_other = at_other n k _ l h (λ e g. either_one (more_may_come e) n l _ _
      (settled n l (record e { eof = true }) [] g) refl)

  close_other : Stays n l (takes_close k l)
  close_other = at_other n k _ l h (λ e g. either_one (close_may_come e) n l _ _
      (settled n l (record e { close = true }) [] g) refl)

  peer_close_other : Stays n l (peer_closes k l)
  peer_close_other = at_other n k _ l h
      (λ e g. either_one e.confirmed n l _ _
      (parted n l e true (close_frame e.number e.peer ∷ []) g) refl)

  goes_other : Stays n l (goes_on k l)
  goes_other = at_other n k _ l h (λ e g. settled n l (flushed e) (flush_out e) g)

  grant_other : (amount : ℕ) → Stays n l (takes_grant k amount l)
  grant_other amount = at_other n k _ l h (λ e g. either_one e.confirmed n l _ _
      (settled n l (flushed (granting amount (flushed e)))
      (flush_out e ++ flush_out (granting amount (flushed e))) g) refl)

  having_other : (r : Adjusted) (e : Entry) (count target : ℕ) → (n == e.number) ≡ false →
      Stays n l (turns (having r count target e) (adjust_out r e) l)
  having_other Dropped e count target g = turned n l e [] g
  having_other Kept e count target g = turned n l (having Kept count target e) [] g
  having_other (Granted amount) e count target g =
      turned n l (having (Granted amount) count target e) (adjust_out (Granted amount) e) g

  adjust_other : (count target : ℕ) → Stays n l (takes_in k count target l)
  adjust_other count target = at_other n k _ l h
      (λ e g. having_other (coming count target e) e count target g)

  aims_other : (target : ℕ) → Stays n l (aims k target l)
  aims_other target = at_other n k _ l h (λ e g. turned n l (record e { target = target }) [] g)

  request_other : Stays n l (takes_request k l)
  request_other = at_other n k _ l h
      (λ e g. either_one e.confirmed n l _ _ (turned n l (requesting e) [] g) refl)

  reply_other : (place : Option ℕ) (success : Bool) → Stays n l (takes_reply k place success l)
  reply_other place success = at_other n k _ l h
      (λ e g. either_one (reply_may_come place e) n l _ _
      (turned n l (replying place success e) (replies_out place success e) g) refl)

  confirms_other : (peer window limit : ℕ) → Stays n l (confirms k peer window limit l)
  confirms_other peer window limit = at_other n k _ l h
      (λ e g. either_one (not e.confirmed) n l _ _
      (turned n l (agreed peer window limit e) [] g) refl)

  fails_other : Stays n l (fails k l)
  fails_other = at_other n k _ l h
      (λ e g. either_one (not e.confirmed) n l _ _ (parted n l e true [] g) refl)

module _ (n : ℕ) (l : Lines) where
  drawn_beside : (o : Option ℕ) → Stays n l (drawn o l)
  drawn_beside None = refl
  drawn_beside (Some m) = refl

  asks_other : (room packet : ℕ) (o : Option ℕ) → is_this n o ≡ false →
      Stays n l (asks room packet o l)
  asks_other room packet None h = refl
  asks_other room packet (Some m) h = find_beside n (asked m room packet) l.entries h

  accepts_other : (peer window room limit packet : ℕ) (o : Option ℕ) → is_this n o ≡ false →
      Stays n l (accepts peer window room limit packet o l)
  accepts_other peer window room limit packet None h = refl
  accepts_other peer window room limit packet (Some m) h =
      find_beside n (opened m peer window room limit packet) l.entries h

  adds_other : (e : Entry) → (n == e.number) ≡ false → Stays n l (adds e l)
  adds_other e h = either_one (is_some (find e.number l.entries)) n l l (joins e l) refl
      (find_beside n e l.entries h)

  pub entry_stays : (o : Op) → is_about n (next_number l) o ≡ false →
      find n (does o l).entries ≡ find n l.entries
  entry_stays (Byte k message) h = says_other n k l h message
  entry_stays (Send k chunk is_rekeying) h = data_other n k l h chunk is_rekeying
  entry_stays (Eof k) h = eof_other n k l h
  entry_stays (Close k) h = close_other n k l h
  entry_stays (Peer_close k) h = peer_close_other n k l h
  entry_stays (Flush_line k is_rekeying) h = goes_other n k l h
  entry_stays (Flush_all is_rekeying) h = absurd (cc)
  entry_stays (Grant k amount) h = grant_other n k l h amount
  entry_stays (Adjust k count target) h = adjust_other n k l h count target
  entry_stays Draw h = drawn_beside (next_number l)
  entry_stays (Open_next window packet) h = asks_other window packet (next_number l) h
  entry_stays (Accept_next peer window room packet own_packet) h =
      either_one (packet == 0) n l l (accepts_next peer window room packet own_packet l) refl
      (accepts_other peer window room packet own_packet (next_number l) h)
  entry_stays (Drop_pending k) h = refl
  entry_stays (Insert p) h =
      either_one (p.recipient_maximum_packet_size == 0) n l l (adds (entry_of p) l) refl
      (adds_other (entry_of p) h)
  entry_stays (Confirm msg) h =
      either_one (msg.maximum_packet_size == 0) n l l (confirms msg.recipient_channel
      msg.sender_channel msg.initial_window_size msg.maximum_packet_size l) refl
      (confirms_other n msg.recipient_channel l h msg.sender_channel msg.initial_window_size
      msg.maximum_packet_size)
  entry_stays (Fail_open k) h = fails_other n k l h
  entry_stays (Set_target k target) h = aims_other n k l h target
  entry_stays (Request k) h = request_other n k l h
  entry_stays (Settle k place success) h = reply_other n k l h place success
  entry_stays (Stage frame) h = refl
