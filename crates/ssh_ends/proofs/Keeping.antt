-- A table keeps a side's channels at each call.
use Rattle.std.proofs.Common.{◌≡◌, ◌<◌, ◌+◌, ◌%◌, ◌^◌, ◌==◌, ◌||◌, ℕ, Bool, true, false, not}
use Rattle.std.proofs.Common.{cond, List, [], ◌∷◌, ◌++◌, map, length, refl, sym, ◌∙◌, ap, subst}
use Rattle.std.proofs.Common.{Option, Some, None, is_some, append_assoc, arith}
use Rattle.std.proofs.lemmas.List.{append-nil, map-append}
use Rattle.std.specs.List.{list_any}
use Rattle.std.specs.Ordering.{nat_cmp}
use Rattle.std.specs.BTreeMap.{is_at, insert_entry}
use Rattle.ssh_link.specs.Frames.{Frame}
use Rattle.ssh_channels.specs.declared.params.ChannelParams.{ChannelParams}
use Rattle.ssh_channels.specs.declared.chunk.Chunk.{Chunk}
use Rattle.ssh_channels.specs.declared.adjusted.Adjusted.{Adjusted}
use Rattle.ssh_channels.specs.declared.adjusted.Adjusted.TheVariants.{Dropped, Kept, Granted}
use Rattle.ssh_channels.specs.Layout.{data_frame, close_frame}
use Rattle.ssh_channels.specs.Entry.{tagged}
use Rattle.ssh_channels.specs.Cut.{piece_limit, cut}
use Rattle.ssh_channels.specs.Line as line
use Rattle.ssh_channels.specs.Window.{adjust_frames, adjusting, adjusted, adjusted_frames, aimed}
use Rattle.ssh_channels.specs.Table.{Table, line_at, is_pending, put, write, act, act_on}
use Rattle.ssh_channels.specs.Numbers as numbers
use Rattle.ssh_channels.specs.Calls as calls
use Rattle.ssh_channels.proofs.Frees.{free_found}
use Rattle.ssh_ends.specs.Saying.{Saying, Confirm, Data, Eof, Close, Grant, letter, letters}
use Rattle.ssh_ends.specs.Saying.{frame_of}
use Rattle.ssh_ends.specs.Saying.{frame_saying}
use Rattle.ssh_ends.specs.Change.{Change, silent, saying, unchanged, data_out, ends_out, all_out}
use Rattle.ssh_ends.specs.Change.{grant_out, hearing_data}
use Rattle.ssh_ends.specs.Change.{adjust_out, sending, ending, closing, aiming, hearing}
use Rattle.ssh_ends.specs.Pair.{Party, changed, changed_at, on_channel, begins, partnered}
use Rattle.ssh_ends.specs.Sound.{Beside}
use Rattle.ssh_ends.specs.Ends.{Keeps}
use Rattle.ssh_ends.proofs.Sides.{one_number, not_same}
use Rattle.ssh_ends.proofs.Lookups.{find, put_finds, put_rises, IsAbove, is_above, added_here}
use Rattle.ssh_ends.proofs.Lookups.{added_other, added_rises}
use Rattle.ssh_ends.proofs.Openings.{next_is_fresh}

-- ---- what is said is what is written

abbrev pub frames : (k peer : ℕ) → List Saying → List Frame
frames k peer said = map frame_of (letters k peer said)

frames_both : (k peer : ℕ) (xs ys : List Saying)
    → frames k peer (xs ++ ys) ≡ frames k peer xs ++ frames k peer ys
frames_both k peer [] ys = refl
frames_both k peer (x ∷ xs) ys =
    ap (λ fs. frame_saying k peer x ∷ fs) (frames_both k peer xs ys)

data_written : (k peer : ℕ) (cs : List Chunk)
    → map (data_frame k peer) cs ≡ frames k peer (map Data cs)
data_written k peer [] = refl
data_written k peer (c ∷ cs) = ap (λ fs. data_frame k peer c ∷ fs) (data_written k peer cs)

sent_written : (k : ℕ) (l : ChannelParams)
    → line.sent k l ≡ frames k l.recipient_channel (data_out l)
sent_written k l = data_written k l.recipient_channel
    (cut (piece_limit l.recipient_maximum_packet_size) l.recipient_window_size l.waiting)

ends_at : (done eof close : Bool) (k : ℕ) (l : ChannelParams) → l.pending_eof ≡ eof
    → l.pending_close ≡ close
    → line.deferred_if k done l ≡ frames k l.recipient_channel (ends_out done l)
ends_at false eof close k l e c = refl
ends_at true true true k l e c = rw (e, c) refl
ends_at true true false k l e c = rw (e, c) refl
ends_at true false true k l e c = rw (e, c) refl
ends_at true false false k l e c = rw (e, c) refl

all_written : (k : ℕ) (l : ChannelParams)
    → line.goes k l ≡ frames k l.recipient_channel (all_out l)
all_written k l =
    let done = line.nothing_waits (line.flushed l) in
    ap (λ fs. fs ++ line.deferred_if k done l) (sent_written k l)
    ∙ ap (λ fs. frames k l.recipient_channel (data_out l) ++ fs)
    (ends_at done l.pending_eof l.pending_close k l refl refl)
    ∙ sym (frames_both k l.recipient_channel (data_out l) (ends_out done l))

grant_written : (k amount : ℕ) (l : ChannelParams)
    → line.granting_frames k amount l ≡ frames k l.recipient_channel (grant_out amount l)
grant_written k amount l =
    let g = line.granted amount l in
    ap (λ fs. fs ++ line.goes k g) (sent_written k l)
    ∙ ap (λ fs. frames k l.recipient_channel (data_out l) ++ fs) (all_written k g)
    ∙ sym (frames_both k l.recipient_channel (data_out l) (all_out g))

taking_at : (b : Bool) (k : ℕ) (c : Chunk) (l : ChannelParams)
    → cond (not b) [] (line.sent k (line.alone c l))
    ≡ frames k l.recipient_channel (cond (not b) [] (data_out (line.alone c l)))
taking_at true k c l = sent_written k (line.alone c l)
taking_at false k c l = refl

one_at : (b : Bool) (k peer : ℕ) (x : Saying)
    → cond b (frame_saying k peer x ∷ []) [] ≡ frames k peer (cond b (x ∷ []) [])
one_at true k peer x = refl
one_at false k peer x = refl

adjust_written : (a : Adjusted) (k : ℕ) (l : ChannelParams)
    → adjust_frames a k l ≡ frames k l.recipient_channel (adjust_out a)
adjust_written Dropped k l = refl
adjust_written Kept k l = refl
adjust_written (Granted amount) k l = refl

-- ---- a call on one channel

same_line : (b : Bool) (n k : ℕ) (l : ChannelParams) (p : Party) → (n == k) ≡ b
    → p.line k ≡ Some l → p.line n ≡ cond b (Some l) (p.line n)
same_line true n k l p t is = ap p.line (one_number n k t) ∙ is
same_line false n k l p t is = refl

-- nothing changes
keeps_idle : (k : ℕ) (l : ChannelParams) (t : Table) (flight : List Frame) (p : Party)
    → p.line k ≡ Some l → Keeps t flight p → Keeps t flight (changed k l (unchanged l) p)
keeps_idle k l t flight p is h = record {
  rises = h.rises;
  lines = λ n. h.lines n ∙ same_line (n == k) n k l p refl is;
  pending = h.pending;
  last = h.last;
  frames = h.frames ∙ ap (map frame_of) (sym (append-nil p.flight));
}

idle_of : (o : Option ChannelParams) (k : ℕ) (t : Table) (flight : List Frame) (p : Party)
    → p.line k ≡ o → Keeps t flight p → Keeps t flight (changed_at k unchanged o p)
idle_of None k t flight p is h = h
idle_of (Some l) k t flight p is h = keeps_idle k l t flight p is h

pub keeps_same : (k : ℕ) (t : Table) (flight : List Frame) (p : Party) → Keeps t flight p
    → Keeps t flight (on_channel k unchanged p)
keeps_same k t flight p h = idle_of (p.line k) k t flight p refl h

put_pending : (o : Option ChannelParams) (k : ℕ) (t : Table) → (put k o t).pending ≡ t.pending
put_pending None k t = refl
put_pending (Some l) k t = refl

put_last : (o : Option ChannelParams) (k : ℕ) (t : Table) → (put k o t).last ≡ t.last
put_last None k t = refl
put_last (Some l) k t = refl

put_staged : (o : Option ChannelParams) (k : ℕ) (t : Table) → (put k o t).staged ≡ t.staged
put_staged None k t = refl
put_staged (Some l) k t = refl

abbrev chosen : (ChannelParams → Bool) → (ChannelParams → Change) → ChannelParams → Change
chosen test change l = cond (test l) (change l) (unchanged l)

module _ (test : ChannelParams → Bool) (written : ChannelParams → List Frame)
    (after : ChannelParams → Option ChannelParams) (change : ChannelParams → Change) (k : ℕ)
    (says : (l : ChannelParams) → written l ≡ frames k l.recipient_channel (change l).says)
    (leaves : (l : ChannelParams) → after l ≡ (change l).after) where
  acted_at : (b : Bool) (l : ChannelParams) (t : Table) (flight : List Frame) (p : Party)
      → line_at k t ≡ Some l → p.line k ≡ Some l → Keeps t flight p
      → Keeps (cond b (write (written l) (put k (after l) t)) t) flight
      (changed k l (cond b (change l) (unchanged l)) p)
  acted_at false l t flight p found is h = keeps_idle k l t flight p is h
  acted_at true l t flight p found is h = record {
    rises = put_rises (after l) k t h.rises;
    lines = λ n. put_finds (after l) n k l t h.rises found
        ∙ ap (λ o. cond (n == k) o (line_at n t)) (leaves l)
        ∙ ap (λ o. cond (n == k) (change l).after o) (h.lines n);
    pending = put_pending (after l) k t ∙ h.pending;
    last = put_last (after l) k t ∙ h.last;
    frames = ap (λ fs. flight ++ (fs ++ written l)) (put_staged (after l) k t)
        ∙ sym (append_assoc flight t.staged (written l))
        ∙ ap (λ fs. fs ++ written l) h.frames
        ∙ ap (λ fs. map frame_of p.flight ++ fs) (says l)
        ∙ sym (map-append frame_of p.flight (letters k l.recipient_channel (change l).says));
  }

  acted_of : (o : Option ChannelParams) (t : Table) (flight : List Frame) (p : Party)
      → line_at k t ≡ o → p.line k ≡ o → Keeps t flight p
      → Keeps (act_on test written after k o t) flight (changed_at k (chosen test change) o p)
  acted_of None t flight p found is h = h
  acted_of (Some l) t flight p found is h = acted_at (test l) l t flight p found is h

  pub keeps_act : (t : Table) (flight : List Frame) (p : Party) → Keeps t flight p
      → Keeps (act test written after k t) flight (on_channel k (chosen test change) p)
  keeps_act t flight p h =
      subst (λ o. Keeps (act test written after k t) flight
      (changed_at k (chosen test change) o p)) (h.lines k)
      (acted_of (line_at k t) t flight p refl (sym (h.lines k)) h)

-- ---- each call

module _ (k : ℕ) (t : Table) (flight : List Frame) (p : Party) (h : Keeps t flight p) where
  pub keeps_send : (c : Chunk)
      → Keeps (calls.send k c false t) flight (on_channel k (sending c) p)
  keeps_send c = keeps_act line.may_send (line.taking_frames k c false)
      (λ l. Some (line.taking c false l))
      (λ l. record {
        after = Some (line.taking c false l);
        says = cond (not (line.nothing_waits l)) [] (data_out (line.alone c l));
        accepts = tagged c;
        delivers = [];
      }) k (λ l. taking_at (line.nothing_waits l) k c l) (λ l. refl) t flight p h

  pub keeps_eof : Keeps (calls.eof k t) flight (on_channel k ending p)
  keeps_eof = keeps_act line.may_send (line.ending_frames k) (λ l. Some (line.ending l))
      (λ l. saying (cond (line.nothing_waits l) (Eof ∷ []) []) (Some (line.ending l))) k
      (λ l. one_at (line.nothing_waits l) k l.recipient_channel Eof) (λ l. refl) t flight p h

  pub keeps_close : Keeps (calls.close k t) flight (on_channel k closing p)
  keeps_close = keeps_act line.may_close (line.closing_frames k) line.closing
      (λ l. saying (cond (line.nothing_waits l) (Close ∷ []) []) (line.closing l)) k
      (λ l. one_at (line.nothing_waits l) k l.recipient_channel Close) (λ l. refl) t flight p h

  pub keeps_target : (target : ℕ)
      → Keeps (calls.set_target k target t) flight (on_channel k (aiming target) p)
  keeps_target target = keeps_act (λ l. true) (λ l. []) (λ l. Some (aimed target l))
      (aiming target) k (λ l. refl) (λ l. refl) t flight p h

  pub keeps_grant : (own amount : ℕ)
      → Keeps (calls.grant k amount t) flight (on_channel k (hearing own (Grant amount)) p)
  keeps_grant own amount = keeps_act line.is_established (line.granting_frames k amount)
      (λ l. line.stays (line.granted amount l))
      (λ l. saying (grant_out amount l) (line.stays (line.granted amount l))) k
      (grant_written k amount) (λ l. refl) t flight p h

  pub keeps_peer_close : (own : ℕ)
      → Keeps (calls.peer_close k t) flight (on_channel k (hearing own Close) p)
  keeps_peer_close own = keeps_act line.is_established
      (λ l. close_frame k l.recipient_channel ∷ []) (λ l. None)
      (λ l. saying (Close ∷ []) None) k (λ l. refl) (λ l. refl) t flight p h

  pub keeps_confirm : (own window packet : ℕ)
      → Keeps (calls.confirm (record {
        recipient_channel = k;
        sender_channel = own;
        initial_window_size = window;
        maximum_packet_size = packet;
      }) t) flight (on_channel k (hearing own (Confirm window packet)) p)
  keeps_confirm own window packet = keeps_act line.is_opening (λ l. [])
      (λ l. Some (line.confirmed_by own window packet l))
      (λ l. silent (Some (line.confirmed_by own window packet l))) k (λ l. refl) (λ l. refl) t
      flight p h

  data_of : (own : ℕ) (piece : Chunk) (o : Option ChannelParams) → line_at k t ≡ o
      → p.line k ≡ o → Keeps (act_on (λ l. true)
      (adjusted_frames k (length piece.bytes) (calls.target_of o))
      (λ l. Some (adjusted (length piece.bytes) (calls.target_of o) l)) k o t) flight
      (changed_at k (hearing own (Data piece)) o p)
  data_of own piece None found is = h
  data_of own piece (Some l) found is =
      let count = length piece.bytes in
      acted_at (λ x. true) (adjusted_frames k count l.target)
      (λ x. Some (adjusted count l.target x))
      (λ x. record {
        after = Some (adjusted count l.target x);
        says = adjust_out (adjusting count l.target x);
        accepts = [];
        delivers = hearing_data (adjusting count l.target x) piece x;
      }) k (λ x. adjust_written (adjusting count l.target x) k x) (λ x. refl) true l t flight p
      found is h

  pub keeps_data : (own : ℕ) (piece : Chunk)
      → Keeps (calls.adjust k (length piece.bytes) (calls.target_at k t) t) flight
      (on_channel k (hearing own (Data piece)) p)
  keeps_data own piece =
      subst (λ o. Keeps (calls.adjust k (length piece.bytes) (calls.target_at k t) t) flight
      (changed_at k (hearing own (Data piece)) o p)) (h.lines k)
      (data_of own piece (line_at k t) refl (sym (h.lines k)))

-- ---- a channel of the next number

next_mod : (a b : ℕ) → a ≡ b → b + 1 < 2 ^ 32 → b + 1 ≡ (a + 1) % 2 ^ 32
next_mod a b same room = omega arith

-- the same side
keeps_like : (t : Table) (flight : List Frame) (p p' : Party) → Keeps t flight p
    → ((n : ℕ) → p.line n ≡ p'.line n) → p.last ≡ p'.last → p.flight ≡ p'.flight
    → Keeps t flight p'
keeps_like t flight p p' h line last said = record {
  rises = h.rises;
  lines = λ n. h.lines n ∙ line n;
  pending = h.pending;
  last = h.last ∙ last;
  frames = h.frames ∙ ap (map frame_of) said;
}

module _ (t : Table) (flight : List Frame) (p q : Party) (h : Keeps t flight p) (b : Beside p q)
    (room : p.last + 1 < 2 ^ 32) where
  abbrev k : ℕ
  k = p.last + 1

  unknown : (n : ℕ) → p.last < n → line_at n t ≡ None
  unknown n above = h.lines n ∙ (next_is_fresh n p q b above).1.line

  all_below : IsAbove k t.lines
  all_below = is_above k t.lines (λ n le. unknown n (omega arith))

  not_taken : numbers.is_taken t k ≡ false
  not_taken = ap (λ o. is_some o || is_pending k t) (unknown k (omega arith))
      ∙ ap (λ ns. list_any (is_at (nat_cmp k)) ns) h.pending

  pub next_is : numbers.next_number t ≡ Some (p.last + 1)
  next_is = free_found (2 ^ 32) t.last k (numbers.is_taken t) (omega arith)
      (next_mod t.last p.last h.last room) not_taken

  added_at : (c : Bool) (n : ℕ) (l : ChannelParams) → (n == k) ≡ c
      → find n (insert_entry nat_cmp t.lines k l) ≡ cond c (Some l) (p.line n)
  added_at true n l t' =
      subst (λ m. find m (insert_entry nat_cmp t.lines k l) ≡ Some l) (sym (one_number n k t'))
      (added_here k l t.lines all_below)
  added_at false n l t' =
      added_other n k l t.lines (not_same n k t') ∙ h.lines n

  -- a channel of the next number comes, with a message about it
  keeps_new : (l : ChannelParams) (peer : ℕ) (x : Saying)
      → Keeps (calls.stage (frame_saying k peer x) (record t {
        last = k;
        lines = insert_entry nat_cmp t.lines k l;
      })) flight (begins l peer x p)
  keeps_new l peer x =
      record {
        rises = added_rises 0 k l t.lines (omega arith) all_below h.rises;
        lines = λ n. added_at (n == k) n l refl;
        pending = h.pending;
        last = refl;
        frames = sym (append_assoc flight t.staged (frame_saying k peer x ∷ []))
            ∙ ap (λ fs. fs ++ frame_saying k peer x ∷ []) h.frames
            ∙ sym (map-append frame_of p.flight (letter k peer x ∷ []));
      }

  begun_is : (window packet peer : ℕ) (x : Saying)
      → calls.stage (frame_saying k peer x) (numbers.open_next window packet t)
      ≡ calls.stage (frame_saying k peer x) (numbers.opened window packet (Some k) t)
  begun_is window packet peer x =
      ap (λ o. calls.stage (frame_saying k peer x) (numbers.opened window packet o t)) next_is

  pub keeps_begun : (window packet peer : ℕ) (x : Saying)
      → Keeps (calls.stage (frame_saying (p.last + 1) peer x) (numbers.open_next window packet t))
      flight (begins (line.opening (p.last + 1) window packet) peer x p)
  keeps_begun window packet peer x =
      subst (λ y. Keeps y flight (begins (line.opening k window packet) peer x p))
      (sym (begun_is window packet peer x)) (keeps_new (line.opening k window packet) peer x)

  -- one that the other side opened, and that is accepted at once
  pub keeps_welcome : (window packet own theirs limit : ℕ)
      → Keeps (calls.stage (frame_saying (p.last + 1) own (Confirm window packet))
      (numbers.accept_next own theirs window limit packet t)) flight
      (partnered (p.last + 1) own (begins (line.established own (record { 0 = p.last + 1 }) theirs
      window limit packet) own (Confirm window packet) p))
  keeps_welcome window packet own theirs limit =
      let l = line.established own (record { 0 = k }) theirs window limit packet in
      let told = λ (o : Option ℕ).
      calls.stage (frame_saying k own (Confirm window packet))
      (numbers.accepted own theirs window limit packet o t) in
      let p1 = begins l own (Confirm window packet) p in
      keeps_like (told (numbers.next_number t)) flight p1 (partnered k own p1)
      (subst (λ o. Keeps (told o) flight p1) (sym next_is)
      (keeps_new l own (Confirm window packet))) (λ n. refl) refl refl
