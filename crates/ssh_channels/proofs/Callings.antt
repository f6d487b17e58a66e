-- Each call of a table, as it is for the channels.
use Rattle.std.proofs.Common.{◌≡◌, ◌<◌, ◌≤◌, ◌-◌, ◌^◌, ◌==◌, ◌&&◌, ◌||◌, ℕ, List, [], ◌∷◌, ◌++◌}
use Rattle.std.proofs.Common.{length, map, Bool, Option}
use Rattle.std.proofs.Common.{true}
use Rattle.std.proofs.Common.{false, not, cond, nat_le, Some, None, rules, refl, sym, ◌∙◌, ap}
use Rattle.std.proofs.Common.{subst, arith}
use Rattle.std.proofs.Common.{append_assoc}
use Rattle.std.proofs.lemmas.List.{append-nil, nil_from_length}
use Rattle.ssh_channels.specs.declared.params.ChannelParams.{ChannelParams}
use Rattle.ssh_channels.specs.declared.chunk.Chunk.{Chunk}
use Rattle.ssh_channels.specs.declared.adjusted.Adjusted.{Adjusted}
use Rattle.ssh_channels.specs.declared.adjusted.Adjusted.TheVariants.{Dropped, Kept, Granted}
use Rattle.ssh_channels.specs.declared.replies.Reply.{Reply}
use Rattle.ssh_channels.specs.Replies as replies
use Rattle.ssh_channels.specs.Replies.{Wanted, one_more, owes, sent}
use Rattle.ssh_channels.specs.Layout.{bare_frame, data_frame, close_frame, reply_frame}
use Rattle.ssh_channels.specs.Cut.{piece_limit, pieces, cut, left_of, credit_left}
use Rattle.ssh_channels.specs.Line as line
use Rattle.ssh_channels.specs.Window as window
use Rattle.std.specs.Map.{keys_of}
use Rattle.ssh_channels.specs.Table.{Table, put, write, act}
use Rattle.ssh_channels.specs.Calls as calls
use Rattle.ssh_channels.specs.Entry.{Entry, agreed, all_framed, more_may_come, close_may_come}
use Rattle.ssh_channels.specs.Entry.{flush_out, flushed}
use Rattle.ssh_channels.specs.Entry.{granting, accepting, tells_eof, closes_now, eof_out, after_eof}
use Rattle.ssh_channels.specs.Entry.{IsDeferred, Sound, requesting, reply_may_come, replying}
use Rattle.ssh_channels.specs.Entry.{replies_out}
use Rattle.ssh_channels.specs.Room.{coming, having, adjust_out}
use Rattle.ssh_channels.specs.Lines.{Lines, turns, closes, leaves, settles, takes_data, takes_eof}
use Rattle.ssh_channels.specs.Lines.{takes_close}
use Rattle.ssh_channels.specs.Lines.{peer_closes}
use Rattle.ssh_channels.specs.Lines.{goes_on, each_goes_on, all_go_on, takes_grant, takes_in, says}
use Rattle.ssh_channels.specs.Lines.{aims, takes_request, takes_reply, confirms}
use Rattle.ssh_channels.specs.Lines.{fails}
use Rattle.ssh_channels.specs.Stands.{Holds, Stands, kept_of}
use Rattle.ssh_channels.proofs.Entries.{and_left, more_eof, more_close, sound_room}
use Rattle.ssh_channels.proofs.Entries.{sound_aimed, sound_requesting, sound_replying}
use Rattle.ssh_channels.proofs.Replying.{more_kept, owed_kept, settled_kept, sent_kept}
use Rattle.ssh_channels.proofs.Holding as holding
use Rattle.ssh_channels.proofs.Standing.{same_numbers}
use Rattle.ssh_channels.proofs.Steps.{turned, parts, settled, acts, acts_all}

not_true : (b : Bool) → not b ≡ true → b ≡ false
not_true false h = refl
not_true true h = absurd (cc)

-- nothing is owed where nothing was asked for
no_eof : (eof told all : Bool) → eof ≡ false → (eof && not told && all) ≡ false
no_eof false told all h = refl
no_eof true told all h = absurd (cc)

no_close : (close all : Bool) → close ≡ false → (close && all) ≡ false
no_close false all h = refl
no_close true all h = absurd (cc)

pub never_ended : (e : Entry) → e.eof ≡ false → e.close ≡ false → IsDeferred e
never_ended e x y = (no_eof e.eof e.told (all_framed e) x, no_close e.close (all_framed e) y)

pub says_stands : (n message : ℕ) (t : Table) (l : Lines) → Stands t l →
    Stands (calls.byte n message t) (says n message l)
says_stands n message t l s =
    acts line.is_established (λ p. bare_frame message n p.recipient_channel ∷ []) (λ p. Some p) n t
    l (λ e. e.confirmed)
    (λ e. turns e (bare_frame message e.number e.peer ∷ [])) s (λ p e h d. h.confirmed)
    (λ p e h d m. turned t l n p e _ (bare_frame message e.number e.peer ∷ []) s h d
    (let a = h.number in let b = h.peer in cc))

-- data that go out at once: nothing waited before them
module _ (n : ℕ) (chunk : Chunk) (p : ChannelParams) (e : Entry) (h : Holds n p e)
    (m : more_may_come e ≡ true)
    (none : p.waiting ≡ []) where
  with_both : (credit : ℕ) (waiting : List Chunk) → ChannelParams
  with_both credit waiting = record p { recipient_window_size = credit; waiting = waiting }

  empty_left : length chunk.bytes ≡ 0 → left_of p.recipient_window_size (chunk ∷ [])
      ≡ left_of p.recipient_window_size []
  empty_left z =
      let k : length chunk.bytes ≤ p.recipient_window_size = omega arith in
      let t : nat_le (length chunk.bytes) p.recipient_window_size ≡ true = search rules in
      rw t refl

  empty_credit : length chunk.bytes ≡ 0 →
      credit_left p.recipient_window_size (chunk ∷ []) ≡ credit_left p.recipient_window_size []
  empty_credit z =
      let k : length chunk.bytes ≤ p.recipient_window_size = omega arith in
      let t : nat_le (length chunk.bytes) p.recipient_window_size ≡ true = search rules in
      rw t (omega arith)

  empty_cut : (limit : ℕ) → length chunk.bytes ≡ 0 →
      cut limit p.recipient_window_size (chunk ∷ []) ≡ cut limit p.recipient_window_size []
  empty_cut limit z =
      let k : length chunk.bytes ≤ p.recipient_window_size = omega arith in
      let t : nat_le (length chunk.bytes) p.recipient_window_size ≡ true = search rules in
      let b : chunk.bytes ≡ [] = nil_from_length chunk.bytes z in
      let c : pieces limit chunk.kind chunk.bytes ≡ [] = ap (λ bytes. pieces limit chunk.kind bytes)
      b in
      rw t (ap (λ x. x ++ []) c)

  empty_flushed : length chunk.bytes ≡ 0 → line.flushed (line.alone chunk p) ≡ line.flushed p
  empty_flushed z =
      ap (λ c. record p {
        recipient_window_size = c;
        waiting = left_of p.recipient_window_size
            (chunk ∷ []);
      })
      (empty_credit z ∙ ap (credit_left p.recipient_window_size) (sym none))
      ∙ ap (λ w. record p {
        recipient_window_size = credit_left p.recipient_window_size p.waiting;
        waiting = w;
      }) (empty_left z ∙ ap (left_of p.recipient_window_size) (sym none))

  empty_sent : length chunk.bytes ≡ 0 → line.sent n (line.alone chunk p) ≡ line.sent n p
  empty_sent z =
      let limit = piece_limit p.recipient_maximum_packet_size in
      ap (map (data_frame n p.recipient_channel))
      (empty_cut limit z ∙ ap (cut limit p.recipient_window_size) (sym none))

  full_alone : (length chunk.bytes == 0) ≡ false → line.waits_behind chunk p ≡ line.alone chunk p
  full_alone t = rw t (ap (λ w. record p { waiting = w ++ chunk ∷ [] }) none)

  alone_at : (b : Bool) → (length chunk.bytes == 0) ≡ b →
      Holds n (line.flushed (line.alone chunk p)) (flushed (accepting chunk e))
      × (line.sent n (line.alone chunk p) ≡ flush_out (accepting chunk e))
  alone_at true t =
      let z : length chunk.bytes ≡ 0 = search rules in
      let a : accepting chunk e ≡ e = rw t refl in (
        subst (λ x. Holds n (line.flushed (line.alone chunk p)) (flushed x)) (sym a)
            (subst (λ x. Holds n x (flushed e)) (sym (empty_flushed z))
            (holding.flushed_holds n p e h)),
        empty_sent z ∙ holding.sent_same n p e h ∙ ap flush_out (sym a),
      )
  alone_at false t =
      let k : Holds n (line.alone chunk p) (accepting chunk e) =
      subst (λ x. Holds n x (accepting chunk e)) (full_alone t) (holding.behind_holds n p e h chunk
      m) in (
        holding.flushed_holds n (line.alone chunk p) (accepting chunk e) k,
        holding.sent_same n (line.alone chunk p) (accepting chunk e) k,
      )

all_true : (a b : Bool) → (a || not b) ≡ false → b ≡ true
all_true a true h = refl
all_true true false h = absurd (cc)
all_true false false h = absurd (cc)

module _ (n : ℕ) (chunk : Chunk) (is_rekeying : Bool) (t : Table) (l : Lines) (s : Stands t l) where
  taken_at : (b : Bool) (p : ChannelParams) (e : Entry) → Holds n p e → more_may_come e ≡ true →
      (is_rekeying || not (line.nothing_waits p)) ≡ b → (is_rekeying || not (all_framed e)) ≡ b →
      Stands (write (cond b [] (line.sent n (line.alone chunk p)))
      (put n (Some (cond b (line.waits_behind chunk p) (line.flushed (line.alone chunk p)))) t))
      (cond b (turns (accepting chunk e) [] l) (turns (flushed (accepting chunk e))
      (flush_out (accepting chunk e)) l))
  taken_at true p e h m u v =
      turned t l n (line.waits_behind chunk p) (accepting chunk e) [] [] s
      (holding.behind_holds n p e h chunk m)
      (never_ended (accepting chunk e) (more_eof e m) (more_close e m)) refl
  taken_at false p e h m u v =
      let w : line.nothing_waits p ≡ true = all_true is_rekeying (line.nothing_waits p) u in
      let none : p.waiting ≡ [] = nil_from_length p.waiting (search rules) in
      let k = alone_at n chunk p e h m none (length chunk.bytes == 0) refl in
      turned t l n (line.flushed (line.alone chunk p)) (flushed (accepting chunk e))
      (line.sent n (line.alone chunk p)) (flush_out (accepting chunk e)) s k.0
      (never_ended (flushed (accepting chunk e)) (more_eof e m) (more_close e m)) k.1

  taken : (p : ChannelParams) (e : Entry) → Holds n p e → more_may_come e ≡ true →
      Stands (write (line.taking_frames n chunk is_rekeying p)
      (put n (Some (line.taking chunk is_rekeying p)) t))
      (cond (is_rekeying || not (all_framed e)) (turns (accepting chunk e) [] l)
      (turns (flushed (accepting chunk e)) (flush_out (accepting chunk e)) l))
  taken p e h m =
      let b = is_rekeying || not (all_framed e) in
      let w : (is_rekeying || not (line.nothing_waits p)) ≡ b =
      ap (λ x. is_rekeying || not x) (holding.waits_same n p e h) in
      subst (λ x. Stands (write (cond x [] (line.sent n (line.alone chunk p)))
      (put n (Some (cond x (line.waits_behind chunk p) (line.flushed (line.alone chunk p)))) t))
      (cond b (turns (accepting chunk e) [] l) (turns (flushed (accepting chunk e))
      (flush_out (accepting chunk e)) l)))
      (sym w) (taken_at b p e h m w refl)

pub may_send_same : (n : ℕ) (p : ChannelParams) (e : Entry) → Holds n p e → line.may_send p
    ≡ more_may_come e
may_send_same n p e h = let a = h.confirmed in let b = h.ended in cc

pub data_stands : (n : ℕ) (chunk : Chunk) (is_rekeying : Bool) (t : Table) (l : Lines) → Stands t l
    →
    Stands (calls.send n chunk is_rekeying t) (takes_data n chunk is_rekeying l)
data_stands n chunk is_rekeying t l s =
    acts line.may_send (line.taking_frames n chunk is_rekeying)
    (λ p. Some (line.taking chunk is_rekeying p)) n t l
    more_may_come
    (λ e l. cond (is_rekeying || not (all_framed e)) (turns (accepting chunk e) [] l)
    (turns (flushed (accepting chunk e)) (flush_out (accepting chunk e)) l)) s
    (λ p e h d. may_send_same n p e h) (λ p e h d m. taken n chunk is_rekeying t l s p e h m)

pub eof_stands : (n : ℕ) (t : Table) (l : Lines) → Stands t l → Stands (calls.eof n t)
    (takes_eof n l)
eof_stands n t l s =
    acts line.may_send (line.ending_frames n) (λ p. Some (line.ending p)) n t l more_may_come
    (λ e. settles (record e { eof = true }) []) s (λ p e h d. may_send_same n p e h)
    (λ p e h d m. settled false t l n (line.ending p) (record e { eof = true })
    (Some (line.ending p))
    (line.ending_frames n p) [] (no_close e.close (all_framed e) (more_close e m)) s
    (holding.ending_holds n p e h m)
    refl (holding.ending_same n p e h m ∙ sym (append-nil (eof_out (record e { eof = true })))))

close_frames : (n : ℕ) (p : ChannelParams) (e : Entry) → Holds n p e → IsDeferred e →
    line.closing_frames n p
    ≡ eof_out (record e { close = true }) ++ cond (all_framed e) (close_frame e.number e.peer ∷ [])
    []
close_frames n p e h d =
    let t : tells_eof (record e { close = true }) ≡ false = d.0 in
    let a = h.number in
    let b = h.peer in
    let w = holding.waits_same n p e h in
    let k : line.closing_frames n p ≡ cond (all_framed e) (close_frame e.number e.peer ∷ []) [] =
    cc in
    rw t k

pub may_close_same : (n : ℕ) (p : ChannelParams) (e : Entry) → Holds n p e → line.may_close p
    ≡ close_may_come e
may_close_same n p e h = let a = h.confirmed in let b = h.pending_close in cc

confirmed_closing : (e : Entry) → close_may_come e ≡ true → e.confirmed ≡ true
confirmed_closing e m = and_left e.confirmed (not e.close) m

pub close_stands : (n : ℕ) (t : Table) (l : Lines) → Stands t l → Stands (calls.close n t)
    (takes_close n l)
close_stands n t l s =
    acts line.may_close (line.closing_frames n) line.closing n t l close_may_come
    (λ e. settles (record e { close = true }) []) s (λ p e h d. may_close_same n p e h)
    (λ p e h d m. settled (all_framed e) t l n (record p { ended = true; pending_close = true })
    (record e { close = true }) (line.closing p) (line.closing_frames n p) [] refl s
    (holding.closing_holds n p e h (confirmed_closing e m) d.0)
    (ap (λ b. cond b None (Some (record p { ended = true; pending_close = true })))
    (holding.waits_same n p e h))
    (close_frames n p e h d))

pub peer_close_stands : (n : ℕ) (t : Table) (l : Lines) → Stands t l →
    Stands (calls.peer_close n t) (peer_closes n l)
peer_close_stands n t l s =
    acts line.is_established (λ p. close_frame n p.recipient_channel ∷ []) (λ p. None) n t l
    (λ e. e.confirmed)
    (λ e. closes e true []) s (λ p e h d. h.confirmed)
    (λ p e h d m. parts t l n e true (close_frame n p.recipient_channel ∷ [])
    (close_frame e.number e.peer ∷ []) s
    h.number (let a = h.number in let b = h.peer in cc))

-- what waits goes on, and what is owed behind it
and_swap : (a b : Bool) → a && b ≡ b && a
and_swap true true = refl
and_swap true false = refl
and_swap false true = refl
and_swap false false = refl

module _ (n : ℕ) (p : ChannelParams) (e : Entry) (h : Holds n p e) where
  flush_done : line.nothing_waits (line.flushed p) ≡ all_framed (flushed e)
  flush_done = holding.waits_same n (line.flushed p) (flushed e) (holding.flushed_holds n p e h)

  pub flush_closes : line.closes p ≡ closes_now (flushed e)
  flush_closes =
      let a = flush_done in
      let b = h.pending_close in
      let k = and_swap (all_framed (flushed e)) e.close in
      cc

  pub flush_holds : Holds n (line.settled p) (after_eof (flushed e))
  flush_holds =
      holding.told_holds n (line.flushed p) (flushed e) (holding.flushed_holds n p e h)
      (line.nothing_waits (line.flushed p)) flush_done

  pub flush_stays : line.stays p ≡ cond (closes_now (flushed e)) None (Some (line.settled p))
  flush_stays = ap (λ b. cond b None (Some (line.settled p))) flush_closes

  pub flush_frames : line.goes n p ≡ flush_out e ++ (eof_out (flushed e)
      ++ cond (closes_now (flushed e)) (close_frame e.number e.peer ∷ []) [])
  flush_frames =
      ap (λ x. x ++ line.deferred_if n (line.nothing_waits (line.flushed p)) p)
      (holding.sent_same n p e h)
      ∙ ap (λ x. flush_out e ++ x) (holding.deferred_same n (line.flushed p) (flushed e)
      (holding.flushed_holds n p e h) (line.nothing_waits (line.flushed p)) flush_done)

pub flush_stands : (n : ℕ) (t : Table) (l : Lines) → Stands t l → Stands (calls.flush_line n t)
    (goes_on n l)
flush_stands n t l s =
    acts_all (line.goes n) line.stays n t l (λ e. settles (flushed e) (flush_out e)) s
    (λ p e h d. settled (closes_now (flushed e)) t l n (line.settled p) (flushed e) (line.stays p)
    (line.goes n p)
    (flush_out e) refl s (flush_holds n p e h) (flush_stays n p e h) (flush_frames n p e h))

each_stands : (ns : List ℕ) (t : Table) (l : Lines) → Stands t l →
    Stands (calls.flush_each ns t) (each_goes_on ns l)
each_stands [] t l s = s
each_stands (n ∷ ns) t l s = each_stands ns (calls.flush_line n t) (goes_on n l)
    (flush_stands n t l s)

pub all_stands : (t : Table) (l : Lines) → Stands t l → Stands (calls.flush_all t) (all_go_on l)
all_stands t l s =
    subst (λ ns. Stands (calls.flush_all t) (each_goes_on ns l))
    (same_numbers 0 t.lines l.entries s.entries)
    (each_stands (keys_of t.lines) t l s)

-- a grant
module _ (n amount : ℕ) (p : ChannelParams) (e : Entry) (h : Holds n p e) (c : e.confirmed ≡ true)
  where
    pub granted_holds : Holds n (line.granted amount p) (granting amount (flushed e))
    granted_holds =
        holding.raised_holds n (line.flushed p) (flushed e) (holding.flushed_holds n p e h) amount c
        refl

    grant_frames : line.granting_frames n amount p
        ≡ (flush_out e ++ flush_out (granting amount (flushed e)))
        ++ (eof_out (flushed (granting amount (flushed e)))
        ++ cond (closes_now (flushed (granting amount (flushed e)))) (close_frame e.number e.peer
        ∷ []) [])
    grant_frames =
        let g = granting amount (flushed e) in
        ap (λ x. x ++ line.goes n (line.granted amount p)) (holding.sent_same n p e h)
        ∙ ap (λ x. flush_out e ++ x) (flush_frames n (line.granted amount p) g granted_holds)
        ∙ sym (append_assoc (flush_out e) (flush_out g) (eof_out (flushed g)
        ++ cond (closes_now (flushed g)) (close_frame e.number e.peer ∷ []) []))

pub grant_stands : (n amount : ℕ) (t : Table) (l : Lines) → Stands t l →
    Stands (calls.grant n amount t) (takes_grant n amount l)
grant_stands n amount t l s =
    acts line.is_established (line.granting_frames n amount)
    (λ p. line.stays (line.granted amount p)) n t l
    (λ e. e.confirmed)
    (λ e. settles (flushed (granting amount (flushed e))) (flush_out e
    ++ flush_out (granting amount (flushed e)))) s
    (λ p e h d. h.confirmed)
    (λ p e h d c. let g = granting amount (flushed e) in
    settled (closes_now (flushed g)) t l n (line.settled (line.granted amount p)) (flushed g)
    (line.stays (line.granted amount p)) (line.granting_frames n amount p) (flush_out e
    ++ flush_out g) refl s
    (flush_holds n (line.granted amount p) g (granted_holds n amount p e h c))
    (flush_stays n (line.granted amount p) g (granted_holds n amount p e h c))
    (grant_frames n amount p e h c))

-- what comes in
pub coming_same : (n count target : ℕ) (p : ChannelParams) (e : Entry) → Holds n p e →
    window.adjusting count target p ≡ coming count target e
coming_same n count target p e h = let a = h.confirmed in let b = h.room in cc

roomy : (n room : ℕ) (p : ChannelParams) (e : Entry) → Holds n p e →
    Holds n (record p { sender_window_size = room }) (record e { room = room })
roomy n room p e h = record {
  number = h.number;
  own = h.own;
  peer = h.peer;
  limit = h.limit;
  packet = h.packet;
  confirmed = h.confirmed;
  room = refl;
  target = h.target;
  replies = h.replies;
  credit = h.credit;
  waiting = h.waiting;
  pending_eof = h.pending_eof;
  pending_close = h.pending_close;
  ended = h.ended;
  sound = sound_room room e h.sound;
}

in_at : (a : Adjusted) (n count target : ℕ) (t : Table) (l : Lines) (p : ChannelParams) (e : Entry)
    → Stands t l →
    Holds n p e → IsDeferred e →
    Stands (write (window.adjust_frames a n p) (put n (Some (window.room_after a count target p))
    t))
    (turns (having a count target e) (adjust_out a e) l)
in_at Dropped n count target t l p e s h d = turned t l n p e [] [] s h d refl
in_at Kept n count target t l p e s h d =
    let k : Holds n (record p { sender_window_size = p.sender_window_size - count })
    (record e { room = e.room - count })
    = subst (λ r. Holds n (record p { sender_window_size = r - count })
    (record e { room = e.room - count }))
    (sym h.room) (roomy n (e.room - count) p e h) in
    turned t l n _ _ [] [] s k d refl
in_at (Granted amount) n count target t l p e s h d =
    turned t l n _ _ _ _ s (roomy n target p e h) d (let a = h.number in let b = h.peer in cc)

pub adjust_stands : (n count target : ℕ) (t : Table) (l : Lines) → Stands t l →
    Stands (calls.adjust n count target t) (takes_in n count target l)
adjust_stands n count target t l s =
    acts_all (window.adjusted_frames n count target) (λ p. Some (window.adjusted count target p)) n
    t l
    (λ e. turns (having (coming count target e) count target e) (adjust_out (coming count target e)
    e)) s
    (λ p e h d. subst (λ a. Stands (write (window.adjusted_frames n count target p)
    (put n (Some (window.adjusted count target p)) t))
    (turns (having a count target e) (adjust_out a e) l))
    (coming_same n count target p e h) (in_at (window.adjusting count target p) n count target t l p
    e s h d))

-- an open of this side's
pub confirm_stands : (n peer window limit : ℕ) (t : Table) (l : Lines) → 0 < limit → window < 2 ^ 32
    → Stands t l →
    Stands (act line.is_opening (λ p. []) (λ p. Some (line.confirmed_by peer window limit p)) n t)
    (confirms n peer window limit l)
confirm_stands n peer window limit t l k w s =
    acts line.is_opening (λ p. []) (λ p. Some (line.confirmed_by peer window limit p)) n t l
    (λ e. not e.confirmed)
    (λ e. turns (agreed peer window limit e) []) s (λ p e h d. ap not h.confirmed)
    (λ p e h d m. let c : e.confirmed ≡ false = not_true e.confirmed m in
    turned t l n (line.confirmed_by peer window limit p) (agreed peer window limit e) [] [] s
    (holding.agreed_holds n p e h peer window limit c k w)
    (never_ended (agreed peer window limit e) (h.sound.waits c).2 (h.sound.waits c).3) refl)

pub fail_stands : (n : ℕ) (t : Table) (l : Lines) → Stands t l → Stands (calls.fail_open n t)
    (fails n l)
fail_stands n t l s =
    acts line.is_opening (λ p. []) (λ p. None) n t l (λ e. not e.confirmed) (λ e. leaves e true [])
    s
    (λ p e h d. ap not h.confirmed) (λ p e h d m. parts t l n e true [] [] s h.number refl)

-- the room is filled up to another number of bytes
aiming_holds : (n target : ℕ) (p : ChannelParams) (e : Entry) → target < 2 ^ 32 → Holds n p e →
    Holds n (window.aimed target p) (record e { target = target })
aiming_holds n target p e small h = record {
  number = h.number;
  own = h.own;
  peer = h.peer;
  limit = h.limit;
  packet = h.packet;
  confirmed = h.confirmed;
  room = h.room;
  target = refl;
  replies = h.replies;
  credit = h.credit;
  waiting = h.waiting;
  pending_eof = h.pending_eof;
  pending_close = h.pending_close;
  ended = h.ended;
  sound = sound_aimed target e small h.sound;
}

pub aims_stands : (n target : ℕ) (t : Table) (l : Lines) → target < 2 ^ 32 → Stands t l →
    Stands (calls.set_target n target t) (aims n target l)
aims_stands n target t l small s =
    acts_all (λ p. []) (λ p. Some (window.aimed target p)) n t l
    (λ e. turns (record e { target = target }) []) s
    (λ p e h d. turned t l n (window.aimed target p) (record e { target = target }) [] [] s
    (aiming_holds n target p e small h) d refl)

-- other replies are wanted
wanted_holds : (n : ℕ) (w : Wanted) (replies : List Reply) (p : ChannelParams) (e : Entry)
    → w ≡ kept_of replies → Sound (record e { replies = replies }) → Holds n p e →
    Holds n (record p { replies = w }) (record e { replies = replies })
wanted_holds n w replies p e is s h = record {
  number = h.number;
  own = h.own;
  peer = h.peer;
  limit = h.limit;
  packet = h.packet;
  confirmed = h.confirmed;
  room = h.room;
  target = h.target;
  replies = is;
  credit = h.credit;
  waiting = h.waiting;
  pending_eof = h.pending_eof;
  pending_close = h.pending_close;
  ended = h.ended;
  sound = s;
}

pub request_stands : (n : ℕ) (t : Table) (l : Lines) → Stands t l →
    Stands (calls.request n t) (takes_request n l)
request_stands n t l s =
    acts line.is_established (λ p. []) (λ p. Some (line.requested p)) n t l (λ e. e.confirmed)
    (λ e. turns (requesting e) []) s (λ p e h d. h.confirmed)
    (λ p e h d m. turned t l n (line.requested p) (requesting e) [] [] s
    (wanted_holds n _ (requesting e).replies p e (ap one_more h.replies ∙ more_kept e.replies)
    (sound_requesting e m h.sound) h) d refl)

pub owes_same : (n : ℕ) (place : Option ℕ) (p : ChannelParams) (e : Entry) → Holds n p e →
    line.owes_reply place p ≡ reply_may_come place e
owes_same n place p e h = ap (owes place) h.replies ∙ owed_kept place e.replies

reply_said : (n : ℕ) (place : Option ℕ) (success : Bool) (p : ChannelParams) (e : Entry)
    → Holds n p e → line.reply_frames n place success p ≡ replies_out place success e
reply_said n place success p e h =
    ap (λ k. map (reply_frame k p.recipient_channel) (sent place success p.replies)) h.number
    ∙ ap (λ k. map (reply_frame e.number k) (sent place success p.replies)) h.peer
    ∙ ap (map (reply_frame e.number e.peer))
    (ap (sent place success) h.replies ∙ sent_kept place success e.replies)

pub reply_stands : (n : ℕ) (place : Option ℕ) (success : Bool) (t : Table) (l : Lines)
    → Stands t l → Stands (calls.settle n place success t) (takes_reply n place success l)
reply_stands n place success t l s =
    acts (line.owes_reply place) (line.reply_frames n place success)
    (λ p. Some (line.replied place success p)) n t l (reply_may_come place)
    (λ e. turns (replying place success e) (replies_out place success e)) s
    (λ p e h d. owes_same n place p e h)
    (λ p e h d m. turned t l n (line.replied place success p) (replying place success e)
    (line.reply_frames n place success p) (replies_out place success e) s
    (wanted_holds n _ (replying place success e).replies p e
    (ap (replies.settled place success) h.replies ∙ settled_kept place success e.replies)
    (sound_replying place success e h.sound) h) d (reply_said n place success p e h))
