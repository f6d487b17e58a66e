-- What holds of each channel: it is sound, and where no exchange runs, all that is due is framed.
use Rattle.std.proofs.Common.{◌≡◌, ◌<◌, ◌-◌, ◌==◌, ◌||◌, ℕ, Bool, true, false, not, cond, Option}
use Rattle.std.proofs.Common.{Some}
use Rattle.std.proofs.Common.{None, is_some, List, [], ◌∷◌, ◌++◌, length, refl, sym, ◌∙◌, ap, subst}
use Rattle.std.proofs.Common.{rules, arith}
use Rattle.std.specs.Prelude.{IfSome}
use Rattle.ssh_link.specs.Frames.{Frame}
use Rattle.ssh_link.specs.declared.link.TraceEntry.{TraceEntry}
use Rattle.ssh_channels.specs.declared.params.ChannelParams.{ChannelParams}
use Rattle.ssh_channels.specs.declared.adjusted.Adjusted.{Adjusted}
use Rattle.ssh_channels.specs.declared.adjusted.Adjusted.TheVariants.{Dropped, Kept, Granted}
use Rattle.ssh_channels.specs.declared.chunk.Chunk.{Chunk}
use Rattle.ssh_channels.specs.Layout.{bare_frame}
use Rattle.ssh_channels.specs.Table.{Table, line_at}
use Rattle.ssh_channels.specs.Calls.{Op, Byte, Send, Eof, Close, Peer_close, Flush_line, Flush_all}
use Rattle.ssh_channels.specs.Calls.{Grant, Adjust, Draw}
use Rattle.ssh_channels.specs.Calls.{Open_next, Accept_next, Drop_pending, Insert, Confirm}
use Rattle.ssh_channels.specs.Calls.{Fail_open}
use Rattle.ssh_channels.specs.Calls.{Set_target, Request, Settle, Stage}
use Rattle.ssh_channels.specs.Entry.{Entry, opened, asked, agreed, accepted, joined, all_framed}
use Rattle.ssh_channels.specs.Entry.{more_may_come, close_may_come}
use Rattle.ssh_channels.specs.Entry.{flush_out, flushed, granting, accepting, closes_now, eof_out}
use Rattle.ssh_channels.specs.Entry.{after_eof, IsDue}
use Rattle.ssh_channels.specs.Entry.{IsDeferred}
use Rattle.ssh_channels.specs.Entry.{Sound}
use Rattle.ssh_channels.specs.Room.{coming, having, adjust_out}
use Rattle.ssh_channels.specs.Lines.{Lines, find, put, without, added, turns, leaves, closes}
use Rattle.ssh_channels.specs.Lines.{settles, where_found, at}
use Rattle.ssh_channels.specs.Lines.{takes_data, takes_eof, takes_close, peer_closes, goes_on}
use Rattle.ssh_channels.specs.Lines.{each_goes_on, all_go_on}
use Rattle.ssh_channels.specs.Lines.{takes_grant, takes_in, says, aims, takes_request}
use Rattle.ssh_channels.specs.Lines.{takes_reply, confirms, fails, drawn}
use Rattle.ssh_channels.specs.Entry.{requesting, reply_may_come, replying, replies_out}
use Rattle.ssh_channels.specs.Lines.{next_number}
use Rattle.ssh_channels.specs.Lines.{asks, accepts, adds, joins, numbers}
use Rattle.ssh_channels.specs.Stands.{Stands}
use Rattle.ssh_channels.specs.Sent.{Each, Ledgered}
use Rattle.ssh_channels.specs.Does.{does, entry_of, is_idle}
use Rattle.ssh_channels.proofs.Accounts.{found_before}
use Rattle.ssh_channels.proofs.Booked.{next_absent}
use Rattle.ssh_channels.proofs.Entries.{accepted_length}
use Rattle.ssh_channels.proofs.Listed.{one_number, found_put, find_other, find_again, find_without}
use Rattle.ssh_channels.proofs.Listed.{without_other}
use Rattle.ssh_channels.proofs.Listed.{find_new}
use Rattle.ssh_channels.proofs.Listed.{find_beside, found_number}
use Rattle.ssh_channels.proofs.Standing.{Found, found}

-- ---- of each channel

module _ (P : Entry → Type 0) (l : Lines) where
  turned_at : (b : Bool) (m : ℕ) (e f : Entry) → (m == e.number) ≡ b → find e.number l.entries
      ≡ Some f → P e →
      Each P l → IfSome (find m (put e l.entries)) P
  turned_at true m e f t is p h =
      let k : find m (put e l.entries) ≡ Some e =
      ap (λ n. find n (put e l.entries)) (one_number m e.number t) ∙ found_put e l.entries f is in
      subst (λ o. IfSome o P) (sym k) p
  turned_at false m e f t is p h = subst (λ o. IfSome o P) (sym (find_other m e l.entries t)) (h m)

  turns_each : (e f : Entry) (frames : List Frame) → find e.number l.entries ≡ Some f → P e
      → Each P l →
      Each P (turns e frames l)
  turns_each e f frames is p h = λ m. turned_at (m == e.number) m e f refl is p h

  gone_at : (b : Bool) (m : ℕ) (e : Entry) → (m == e.number) ≡ b → Each P l →
      IfSome (find m (without e.number l.entries)) P
  gone_at true m e t h =
      let k : find m (without e.number l.entries) ≡ None =
      ap (λ n. find n (without e.number l.entries)) (one_number m e.number t)
      ∙ find_without e.number l.entries in
      subst (λ o. IfSome o P) (sym k) tt
  gone_at false m e t h = subst (λ o. IfSome o P) (sym (without_other e.number m l.entries t)) (h m)

  leaves_each : (e : Entry) (by_peer : Bool) (frames : List Frame) → Each P l
      → Each P (leaves e by_peer frames l)
  leaves_each e by_peer frames h = λ m. gone_at (m == e.number) m e refl h

  settles_at : (b : Bool) (e f : Entry) (frames : List Frame) → find e.number l.entries ≡ Some f
      → P (after_eof e) →
      Each P l →
      Each P (cond b (closes (after_eof e) false (frames ++ eof_out e) l)
      (turns (after_eof e) (frames ++ eof_out e) l))
  settles_at true e f frames is p h = leaves_each (after_eof e) false [] h
  settles_at false e f frames is p h = turns_each (after_eof e) f (frames ++ eof_out e) is p h

  settles_each : (e f : Entry) (frames : List Frame) → find e.number l.entries ≡ Some f
      → P (after_eof e) → Each P l →
      Each P (settles e frames l)
  settles_each e f frames is p h = settles_at (closes_now e) e f frames is p h

  at_found : (o : Option Entry) (n : ℕ) (change : Entry → Lines → Lines) → find n l.entries ≡ o →
      ((e : Entry) → find e.number l.entries ≡ Some e → P e → Each P (change e l)) → Each P l →
      Each P (where_found o change l)
  at_found None n change is keeps h = h
  at_found (Some e) n change is keeps h =
      keeps e (find_again n l.entries e is) (subst (λ o. IfSome o P) is (h n))

  at_each : (n : ℕ) (change : Entry → Lines → Lines) →
      ((e : Entry) → find e.number l.entries ≡ Some e → P e → Each P (change e l)) → Each P l
      → Each P (at n change l)
  at_each n change keeps h = at_found (find n l.entries) n change refl keeps h

  where_may : (b : Bool) (l' : Lines) → (b ≡ true → Each P l') → Each P l → Each P (cond b l' l)
  where_may true l' k h = k refl
  where_may false l' k h = h

  added_at : (b : Bool) (m : ℕ) (e : Entry) → (m == e.number) ≡ b → find e.number l.entries ≡ None
      → P e → Each P l →
      IfSome (find m (added e l.entries)) P
  added_at true m e t is p h =
      let k : find m (added e l.entries) ≡ Some e =
      ap (λ n. find n (added e l.entries)) (one_number m e.number t) ∙ find_new e l.entries is in
      subst (λ o. IfSome o P) (sym k) p
  added_at false m e t is p h = subst (λ o. IfSome o P) (sym (find_beside m e l.entries t)) (h m)

  added_each : (e : Entry) → find e.number l.entries ≡ None → P e → Each P l →
      (m : ℕ) → IfSome (find m (added e l.entries)) P
  added_each e is p h = λ m. added_at (m == e.number) m e refl is p h

  -- the one that is found
  pub here : (n : ℕ) (e : Entry) → find n l.entries ≡ Some e → Each P l → P e
  here n e is h = subst (λ o. IfSome o P) is (h n)

-- ---- what is sound

sound_at : (o : Option Entry) (n : ℕ) (l : Lines) (past : List TraceEntry) → find n l.entries ≡ o
    → Ledgered l past →
    IfSome o Sound
sound_at None n l past is h = tt
sound_at (Some e) n l past is h = (found_before n l e past is h).sound

pub all_sound : (l : Lines) (past : List TraceEntry) → Ledgered l past → Each Sound l
all_sound l past h = λ n. sound_at (find n l.entries) n l past refl h

-- ---- what is deferred

deferred_at : (n : ℕ) (p : Option ChannelParams) (e : Option Entry) → Found n p e
    → IfSome e IsDeferred
deferred_at n p None f = tt
deferred_at n None (Some e) f = absurd f
deferred_at n (Some p) (Some e) f = f.1

pub all_deferred : (t : Table) (l : Lines) → Stands t l → Each IsDeferred l
all_deferred t l s = λ n.
    deferred_at n (line_at n t) (find n l.entries) (found 0 n t.lines l.entries s.entries)

-- ---- what is due

-- where all is framed that is due, and some is not, the grants are used up
short : (b : Bool) (e : Entry) → all_framed e ≡ b → not b ≡ true → IsDue e → e.framed ≡ e.granted
short true e t u d = absurd (cc)
short false e t u d = let k : e.framed < length (accepted e) = search rules in omega arith

due_more : (chunk : Chunk) (e : Entry) → not (all_framed e) ≡ true → IsDue e
    → IsDue (accepting chunk e)
due_more chunk e u d =
    let k : e.framed ≡ e.granted = short (all_framed e) e refl u d in
    let a = accepted_length chunk e in
    omega arith

data_at : (b : Bool) (l : Lines) (e : Entry) (chunk : Chunk) → not (all_framed e) ≡ b →
    find e.number l.entries ≡ Some e → IsDue e → Each IsDue l →
    Each IsDue (cond b (turns (accepting chunk e) [] l)
    (turns (flushed (accepting chunk e)) (flush_out (accepting chunk e)) l))
data_at true l e chunk t is d h = turns_each IsDue l (accepting chunk e) e [] is
    (due_more chunk e t d) h
data_at false l e chunk t is d h =
    turns_each IsDue l (flushed (accepting chunk e)) e (flush_out (accepting chunk e)) is refl h

in_due : (a : Adjusted) (l : Lines) (e : Entry) (count target : ℕ) → find e.number l.entries
    ≡ Some e → IsDue e →
    Each IsDue l → Each IsDue (turns (having a count target e) (adjust_out a e) l)
in_due Dropped l e count target is d h = turns_each IsDue l e e [] is d h
in_due Kept l e count target is d h = turns_each IsDue l (record e { room = e.room - count }) e []
    is d h
in_due (Granted amount) l e count target is d h = turns_each IsDue l (record e { room = target }) e
    [] is d h

agreed_due : (peer window limit : ℕ) (e : Entry) → e.confirmed ≡ false → Sound e
    → IsDue (agreed peer window limit e)
agreed_due peer window limit e c s =
    let none : length (accepted e) ≡ 0 = ap (λ cs. length (joined cs)) (s.waits c).0 in
    let low = s.low in
    omega arith

not_true : (b : Bool) → not b ≡ true → b ≡ false
not_true false h = refl
not_true true h = absurd (cc)

module _ (l : Lines) (sound : Each Sound l) (h : Each IsDue l) where
  data_due : (n : ℕ) (chunk : Chunk) → Each IsDue (takes_data n chunk false l)
  data_due n chunk = at_each IsDue l n _ (λ e is d. where_may IsDue l (more_may_come e) _
      (λ m. data_at (not (all_framed e)) l e chunk refl is d h) h) h

  eof_due : (n : ℕ) → Each IsDue (takes_eof n l)
  eof_due n = at_each IsDue l n _ (λ e is d. where_may IsDue l (more_may_come e) _
      (λ m. settles_each IsDue l (record e { eof = true }) e [] is d h) h) h

  close_due : (n : ℕ) → Each IsDue (takes_close n l)
  close_due n = at_each IsDue l n _ (λ e is d. where_may IsDue l (close_may_come e) _
      (λ m. settles_each IsDue l (record e { close = true }) e [] is d h) h) h

  peer_close_due : (n : ℕ) → Each IsDue (peer_closes n l)
  peer_close_due n = at_each IsDue l n _ (λ e is d. where_may IsDue l e.confirmed _
      (λ m. leaves_each IsDue l e true [] h) h) h

  goes_on_due : (n : ℕ) → Each IsDue (goes_on n l)
  goes_on_due n = at_each IsDue l n _ (λ e is d. settles_each IsDue l (flushed e) e (flush_out e) is
      refl h) h

  grant_due : (n amount : ℕ) → Each IsDue (takes_grant n amount l)
  grant_due n amount = at_each IsDue l n _ (λ e is d. where_may IsDue l e.confirmed _
      (λ m. settles_each IsDue l (flushed (granting amount (flushed e))) e
      (flush_out e ++ flush_out (granting amount (flushed e))) is refl h) h) h

  adjust_due : (n count target : ℕ) → Each IsDue (takes_in n count target l)
  adjust_due n count target =
      at_each IsDue l n _ (λ e is d. in_due (coming count target e) l e count target is d h) h

  says_due : (n message : ℕ) → Each IsDue (says n message l)
  says_due n message = at_each IsDue l n _ (λ e is d. where_may IsDue l e.confirmed _
      (λ m. turns_each IsDue l e e (bare_frame message e.number e.peer ∷ []) is d h) h) h

  aims_due : (n target : ℕ) → Each IsDue (aims n target l)
  aims_due n target =
      at_each IsDue l n _ (λ e is d. turns_each IsDue l (record e { target = target }) e [] is d h)
      h

  request_due : (n : ℕ) → Each IsDue (takes_request n l)
  request_due n = at_each IsDue l n _ (λ e is d. where_may IsDue l e.confirmed _
      (λ m. turns_each IsDue l (requesting e) e [] is d h) h) h

  reply_due : (n : ℕ) (place : Option ℕ) (success : Bool)
      → Each IsDue (takes_reply n place success l)
  reply_due n place success = at_each IsDue l n _
      (λ e is d. where_may IsDue l (reply_may_come place e) _
      (λ m. turns_each IsDue l (replying place success e) e (replies_out place success e) is d h)
      h) h

  confirms_due : (n peer window limit : ℕ) → Each IsDue (confirms n peer window limit l)
  confirms_due n peer window limit = at_each IsDue l n _
      (λ e is d. where_may IsDue l (not e.confirmed) _
      (λ m. turns_each IsDue l (agreed peer window limit e) e [] is
      (agreed_due peer window limit e (not_true e.confirmed m) (here Sound l e.number e is sound))
      h) h) h

  fails_due : (n : ℕ) → Each IsDue (fails n l)
  fails_due n = at_each IsDue l n _ (λ e is d. where_may IsDue l (not e.confirmed) _
      (λ m. leaves_each IsDue l e true [] h) h) h

  drawn_due : (o : Option ℕ) → Each IsDue (drawn o l)
  drawn_due None = h
  drawn_due (Some n) = h

  asks_due : (room packet : ℕ) (o : Option ℕ) → next_number l ≡ o
      → Each IsDue (asks room packet o l)
  asks_due room packet None is = h
  asks_due room packet (Some n) is =
      added_each IsDue l (asked n room packet) (next_absent n l is) (omega arith) h

  accepts_due : (peer window room limit packet : ℕ) (o : Option ℕ) → next_number l ≡ o
      → Each IsDue (accepts peer window room limit packet o l)
  accepts_due peer window room limit packet None is = h
  accepts_due peer window room limit packet (Some n) is =
      added_each IsDue l (opened n peer window room limit packet) (next_absent n l is) (omega arith)
      h

  adds_at : (o : Option Entry) (e : Entry) → find e.number l.entries ≡ o → IsDue e →
      Each IsDue (cond (is_some o) l (joins e l))
  adds_at None e is d = added_each IsDue l e is d h
  adds_at (Some f) e is d = h

  adds_due : (e : Entry) → IsDue e → Each IsDue (adds e l)
  adds_due e d = adds_at (find e.number l.entries) e refl d

  unless_due : (b : Bool) (l' : Lines) → Each IsDue l' → Each IsDue (cond b l l')
  unless_due true l' k = h
  unless_due false l' k = k

-- ---- the end of an exchange: all channels go on

goes_here : (P : Entry → Type 0) (o : Option Entry) (n : ℕ) (l : Lines) → find n l.entries ≡ o →
    ((e : Entry) → find n l.entries ≡ Some e
    → IfSome (find n (settles (flushed e) (flush_out e) l).entries) P) →
    IfSome (find n (where_found o (λ e. settles (flushed e) (flush_out e)) l).entries) P
goes_here P None n l is k = subst (λ o. IfSome o P) (sym is) tt
goes_here P (Some e) n l is k = k e is

settled_here : (b : Bool) (n : ℕ) (e : Entry) (l : Lines) → find n l.entries ≡ Some e →
    IfSome (find n (cond b (closes (after_eof (flushed e)) false (flush_out e
    ++ eof_out (flushed e)) l)
    (turns (after_eof (flushed e)) (flush_out e ++ eof_out (flushed e)) l)).entries) IsDue
settled_here true n e l is =
    let k : e.number ≡ n = found_number n l.entries e is in
    subst (λ m. IfSome (find m (without e.number l.entries)) IsDue) k
    (subst (λ o. IfSome o IsDue) (sym (find_without e.number l.entries)) tt)
settled_here false n e l is =
    let f = after_eof (flushed e) in
    let k : e.number ≡ n = found_number n l.entries e is in
    subst (λ m. IfSome (find m (put f l.entries)) IsDue) k
    (subst (λ o. IfSome o IsDue) (sym (found_put f l.entries e (find_again n l.entries e is))) refl)

due_here : (n : ℕ) (l : Lines) → IfSome (find n (goes_on n l).entries) IsDue
due_here n l =
    goes_here IsDue (find n l.entries) n l refl (λ e is. settled_here (closes_now (flushed e)) n e l
    is)

-- the others are as they were
other_settled : (b : Bool) (m : ℕ) (e : Entry) (l : Lines) → (m == e.number) ≡ false →
    find m (cond b (closes (after_eof (flushed e)) false (flush_out e ++ eof_out (flushed e)) l)
    (turns (after_eof (flushed e)) (flush_out e ++ eof_out (flushed e)) l)).entries
    ≡ find m l.entries
other_settled true m e l t = without_other e.number m l.entries t
other_settled false m e l t = find_other m (after_eof (flushed e)) l.entries t

other_at : (o : Option Entry) (n m : ℕ) (l : Lines) → find n l.entries ≡ o → (m == n) ≡ false →
    find m (where_found o (λ e. settles (flushed e) (flush_out e)) l).entries ≡ find m l.entries
other_at None n m l is t = refl
other_at (Some e) n m l is t =
    other_settled (closes_now (flushed e)) m e l
    (subst (λ k. (m == k) ≡ false) (sym (found_number n l.entries e is)) t)

others : (n m : ℕ) (l : Lines) → (m == n) ≡ false → find m (goes_on n l).entries ≡ find m l.entries
others n m l t = other_at (find n l.entries) n m l refl t

abbrev has : ℕ → List ℕ → Bool
has m [] = false
has m (n ∷ ns) = (m == n) || has m ns

abbrev EachOff : List ℕ → Lines → Type 0
EachOff ns l = (m : ℕ) → has m ns ≡ false → IfSome (find m l.entries) IsDue

neither : (a b : Bool) → a ≡ false → b ≡ false → (a || b) ≡ false
neither false false h k = refl
neither true b h k = absurd (cc)
neither false true h k = absurd (cc)

off_at : (b : Bool) (n m : ℕ) (ns : List ℕ) (l : Lines) → (m == n) ≡ b → EachOff (n ∷ ns) l
    → has m ns ≡ false →
    IfSome (find m (goes_on n l).entries) IsDue
off_at true n m ns l t h k =
    subst (λ j. IfSome (find j (goes_on n l).entries) IsDue) (sym (one_number m n t)) (due_here n l)
off_at false n m ns l t h k =
    subst (λ o. IfSome o IsDue) (sym (others n m l t)) (h m (neither (m == n) (has m ns) t k))

each_off : (ns : List ℕ) (l : Lines) → EachOff ns l → Each IsDue (each_goes_on ns l)
each_off [] l h = λ m. h m refl
each_off (n ∷ ns) l h = each_off ns (goes_on n l) (λ m k. off_at (m == n) n m ns l refl h k)

split : (a b : Bool) → (a || b) ≡ false → (a ≡ false) × (b ≡ false)
split false b h = (refl, h)
split true b h = absurd (cc)

no_number : (m : ℕ) (es : List Entry) → has m (numbers es) ≡ false → find m es ≡ None
no_number m [] h = refl
no_number m (e ∷ es) h =
    let t = split (m == e.number) (has m (numbers es)) h in
    rw t.0 (no_number m es t.1)

pub all_due : (l : Lines) → Each IsDue (all_go_on l)
all_due l = each_off (numbers l.entries) l (λ m h. subst (λ o. IfSome o IsDue)
    (sym (no_number m l.entries h)) tt)

-- ---- all calls

pub op_due : (o : Op) (l : Lines) → is_idle o ≡ true → Each Sound l → Each IsDue l
    → Each IsDue (does o l)
op_due (Byte n message) l i s h = says_due l s h n message
op_due (Send n chunk true) l i s h = absurd (cc)
op_due (Send n chunk false) l i s h = data_due l s h n chunk
op_due (Eof n) l i s h = eof_due l s h n
op_due (Close n) l i s h = close_due l s h n
op_due (Peer_close n) l i s h = peer_close_due l s h n
op_due (Flush_line n is_rekeying) l i s h = goes_on_due l s h n
op_due (Flush_all is_rekeying) l i s h = all_due l
op_due (Grant n amount) l i s h = grant_due l s h n amount
op_due (Adjust n count target) l i s h = adjust_due l s h n count target
op_due Draw l i s h = drawn_due l s h (next_number l)
op_due (Open_next window packet) l i s h = asks_due l s h window packet (next_number l) refl
op_due (Accept_next peer window room packet own_packet) l i s h =
    unless_due l s h (packet == 0) _
    (accepts_due l s h peer window room packet own_packet (next_number l) refl)
op_due (Drop_pending n) l i s h = h
op_due (Insert line) l i s h =
    unless_due l s h (line.recipient_maximum_packet_size == 0) _
    (adds_due l s h (entry_of line) (omega arith))
op_due (Confirm msg) l i s h =
    unless_due l s h (msg.maximum_packet_size == 0) _
    (confirms_due l s h msg.recipient_channel msg.sender_channel msg.initial_window_size
    msg.maximum_packet_size)
op_due (Fail_open n) l i s h = fails_due l s h n
op_due (Set_target n target) l i s h = aims_due l s h n target
op_due (Request n) l i s h = request_due l s h n
op_due (Settle n place success) l i s h = reply_due l s h n place success
op_due (Stage frame) l i s h = h
