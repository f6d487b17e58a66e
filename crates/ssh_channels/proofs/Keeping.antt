-- Each call of a table does to the channels what the standard says, and answers so.
use Rattle.std.proofs.Common.{◌≡◌, ◌<◌, ◌^◌, ◌-◌, ◌==◌, ℕ, [], ◌∷◌, ◌++◌, Bool, true, false, not}
use Rattle.std.proofs.Common.{cond, Option, Some, None, rules, refl, sym, ap, subst, arith}
use Rattle.ssh_wire.specs.declared.open.ChannelOpenConfirmation.{ChannelOpenConfirmation}
use Rattle.ssh_channels.specs.declared.params.ChannelParams.{ChannelParams}
use Rattle.ssh_channels.specs.Line as line
use Rattle.ssh_channels.specs.Table as table
use Rattle.ssh_channels.specs.Table.{Table, line_at}
use Rattle.ssh_channels.specs.Calls as calls
use Rattle.ssh_channels.specs.Calls.{Op, Byte, Send, Eof, Close, Peer_close, Flush_line, Flush_all}
use Rattle.ssh_channels.specs.Calls.{Grant, Adjust}
use Rattle.ssh_channels.specs.Calls.{Draw, op}
use Rattle.ssh_channels.specs.Calls.{Open_next, Accept_next, Drop_pending, Insert, Confirm}
use Rattle.ssh_channels.specs.Calls.{Fail_open}
use Rattle.ssh_channels.specs.Calls.{Set_target, Request, Settle, Stage}
use Rattle.ssh_channels.specs.Paths.{Accepts, Framed, Credit, Room, Number, Place, Refused, answer}
use Rattle.ssh_channels.specs.Entry.{Entry, flushed, granting, reply_may_come}
use Rattle.ssh_channels.specs.Replies.{Wanted}
use Rattle.ssh_channels.specs.Lines.{Lines, find, adds_with}
use Rattle.ssh_channels.specs.Stands.{Holds, Stands}
use Rattle.ssh_channels.specs.Does as does
use Rattle.ssh_channels.specs.Does.{IsMeant, goes_out, credit_after, coming_of, place_of, answers}
use Rattle.ssh_channels.specs.Does.{entry_of}
use Rattle.ssh_link.specs.Frames.{Frame}
use Rattle.ssh_channels.proofs.Holding as holding
use Rattle.ssh_channels.proofs.Standing.{Found, found}
use Rattle.ssh_channels.proofs.Callings as callings
use Rattle.ssh_channels.proofs.Opening as opening

pub some_packet : (packet : ℕ) → (packet == 0) ≡ false → 0 < packet
some_packet packet t =
    let z : packet ≡ 0 → ⊥ = λ e. absurd (let k : (packet == 0) ≡ true = search rules in cc) in
    omega arith

unless_at : (b : Bool) (packet : ℕ) (t t' : Table) (l l' : Lines) → (packet == 0) ≡ b → Stands t l →
    (0 < packet → Stands t' l') → Stands (cond (packet == 0) t t') (cond (packet == 0) l l')
unless_at true packet t t' l l' e s h = rw e s
unless_at false packet t t' l l' e s h = rw e (h (some_packet packet e))

insert_stands : (line : ChannelParams) (t : Table) (l : Lines) → IsMeant (Insert line) → Stands t l
    →
    Stands (op (Insert line) t) (does.does (Insert line) l)
insert_stands p t l (peer, room, packet, own_packet, window, small, is) s =
    subst (λ x. Stands (op (Insert x) t) (does.does (Insert x) l)) (sym is)
    (unless_at (packet == 0) packet t _ l _ refl s
    (λ k. opening.add_stands t l s peer p.sender_channel window room packet own_packet k small))

confirm_stands : (msg : ChannelOpenConfirmation) (t : Table) (l : Lines) → IsMeant (Confirm msg)
    → Stands t l →
    Stands (op (Confirm msg) t) (does.does (Confirm msg) l)
confirm_stands msg t l small s =
    unless_at (msg.maximum_packet_size == 0) msg.maximum_packet_size t _ l _ refl s
    (λ k. callings.confirm_stands msg.recipient_channel msg.sender_channel msg.initial_window_size
    msg.maximum_packet_size t l k small s)

accept_stands : (peer window room packet own_packet : ℕ) (t : Table) (l : Lines) → window < 2 ^ 32
    → Stands t l → let o = Accept_next peer window room packet own_packet in
    Stands (op o t) (does.does o l)
accept_stands peer window room packet own_packet t l small s =
    unless_at (packet == 0) packet t _ l _ refl s
    (λ k. opening.accept_stands t l s peer window room packet own_packet k small)

-- a channel that comes with the frame that tells the peer of it
pub insert_with_stands : (frame : Frame) (line : ChannelParams) (t : Table) (l : Lines)
    → IsMeant (Insert line) → 0 < line.recipient_maximum_packet_size → Stands t l →
    Stands (calls.insert_with frame line t) (adds_with frame (entry_of line) l)
insert_with_stands frame p t l (peer, room, packet, own_packet, window, small, is) some s =
    let k : 0 < packet = subst (λ (x : ChannelParams). 0 < x.recipient_maximum_packet_size) is some
    in
    subst (λ x. Stands (calls.insert_with frame x t) (adds_with frame (entry_of x) l)) (sym is)
    (opening.add_with_stands t l s peer p.sender_channel window room packet own_packet k small
    frame)

pub op_stands : (o : Op) (t : Table) (l : Lines) → IsMeant o → Stands t l
    → Stands (op o t) (does.does o l)
op_stands (Byte n message) t l m s = callings.says_stands n message t l s
op_stands (Send n chunk is_rekeying) t l m s = callings.data_stands n chunk is_rekeying t l s
op_stands (Eof n) t l m s = callings.eof_stands n t l s
op_stands (Close n) t l m s = callings.close_stands n t l s
op_stands (Peer_close n) t l m s = callings.peer_close_stands n t l s
op_stands (Flush_line n is_rekeying) t l m s = callings.flush_stands n t l s
op_stands (Flush_all is_rekeying) t l m s = callings.all_stands t l s
op_stands (Grant n amount) t l m s = callings.grant_stands n amount t l s
op_stands (Adjust n count target) t l m s = callings.adjust_stands n count target t l s
op_stands Draw t l m s = opening.draw_stands t l s
op_stands (Open_next window packet) t l m s = opening.ask_stands t l s window packet
op_stands (Accept_next peer window room packet own_packet) t l m s =
    accept_stands peer window room packet own_packet t l m s
op_stands (Drop_pending n) t l m s = opening.drop_stands t l s n
op_stands (Insert p) t l m s = insert_stands p t l m s
op_stands (Confirm msg) t l m s = confirm_stands msg t l m s
op_stands (Fail_open n) t l m s = callings.fail_stands n t l s
op_stands (Set_target n target) t l m s = callings.aims_stands n target t l m s
op_stands (Request n) t l m s = callings.request_stands n t l s
op_stands (Settle n place success) t l m s = callings.reply_stands n place success t l s
op_stands (Stage frame) t l m s = record {
  entries = s.entries;
  pending = s.pending;
  last = s.last;
  written = ap (λ fs. fs ++ frame ∷ []) s.written;
}

-- what a call answers
is_one_same : (n : ℕ) (test : ChannelParams → Bool) (may : Entry → Bool) (p : Option ChannelParams)
    (e : Option Entry) → Found n p e → ((p : ChannelParams) (e : Entry) → Holds n p e → test p
    ≡ may e) →
    table.is_one test p ≡ does.is_one may e
is_one_same n test may None None f h = refl
is_one_same n test may None (Some e) f h = absurd f
is_one_same n test may (Some p) None f h = absurd f
is_one_same n test may (Some p) (Some e) f h = h p e f.0

goes_same : (n : ℕ) (p : Option ChannelParams) (e : Option Entry) → Found n p e → calls.framed_of p
    ≡ goes_out e
goes_same n None None f = refl
goes_same n None (Some e) f = absurd f
goes_same n (Some p) None f = absurd f
goes_same n (Some p) (Some e) f =
    let a = f.0.credit in
    let b = (holding.flushed_holds n p e f.0).credit in
    let c = f.0.sound.low in
    omega arith

credit_at : (b : Bool) (n amount : ℕ) (p : ChannelParams) (e : Entry) → Holds n p e → p.confirmed
    ≡ b →
    e.confirmed ≡ b → calls.credit_of amount (Some p) ≡ credit_after amount (Some e)
credit_at true n amount p e h x y =
    let g = granting amount (flushed e) in
    let k = holding.flushed_holds n (line.granted amount p) g (callings.granted_holds n amount p e h
    y) in
    let c = k.credit in
    let z : (line.settled (line.granted amount p)).recipient_window_size ≡ (flushed g).granted -
    (flushed g).framed =
    omega arith in
    rw (x, y) (ap (λ n. Some n) z)
credit_at false n amount p e h x y = rw (x, y) refl

credit_same : (n amount : ℕ) (p : Option ChannelParams) (e : Option Entry) → Found n p e →
    calls.credit_of amount p ≡ credit_after amount e
credit_same n amount None None f = refl
credit_same n amount None (Some e) f = absurd f
credit_same n amount (Some p) None f = absurd f
credit_same n amount (Some p) (Some e) f = credit_at e.confirmed n amount p e f.0 f.0.confirmed refl

coming_same : (n count target : ℕ) (p : Option ChannelParams) (e : Option Entry) → Found n p e →
    calls.adjusting_of count target p ≡ coming_of count target e
coming_same n count target None None f = refl
coming_same n count target None (Some e) f = absurd f
coming_same n count target (Some p) None f = absurd f
coming_same n count target (Some p) (Some e) f = callings.coming_same n count target p e f.0

place_at : (b : Bool) (n : ℕ) (p : ChannelParams) (e : Entry) → Holds n p e → p.confirmed ≡ b →
    e.confirmed ≡ b → calls.place_of (Some p) ≡ place_of (Some e)
place_at true n p e h x y = rw (x, y) (ap (λ (w : Wanted). Some w.count) h.replies)
place_at false n p e h x y = rw (x, y) refl

place_same : (n : ℕ) (p : Option ChannelParams) (e : Option Entry) → Found n p e →
    calls.place_of p ≡ place_of e
place_same n None None f = refl
place_same n None (Some e) f = absurd f
place_same n (Some p) None f = absurd f
place_same n (Some p) (Some e) f = place_at e.confirmed n p e f.0 f.0.confirmed refl

module _ (t : Table) (l : Lines) (s : Stands t l) where
  at : (n : ℕ) → Found n (line_at n t) (find n l.entries)
  at n = found 0 n t.lines l.entries s.entries

  has_same : (n : ℕ) (test : ChannelParams → Bool) (may : Entry → Bool) →
      ((p : ChannelParams) (e : Entry) → Holds n p e → test p ≡ may e) → table.has test n t
      ≡ does.has may n l
  has_same n test may h = is_one_same n test may (line_at n t) (find n l.entries) (at n) h

  established : (n : ℕ) → table.has line.is_established n t ≡ does.has (λ e. e.confirmed) n l
  established n = has_same n line.is_established (λ e. e.confirmed) (λ p e h. h.confirmed)

  opens : (n : ℕ) → table.has line.is_opening n t ≡ does.has (λ e. not e.confirmed) n l
  opens n = has_same n line.is_opening (λ e. not e.confirmed) (λ p e h. ap not h.confirmed)

  pub op_answers : (o : Op) → answer o t ≡ answers o l
  op_answers (Byte n message) = ap Accepts (established n)
  op_answers (Send n chunk is_rekeying) =
      ap Accepts (has_same n line.may_send _ (λ p e h. callings.may_send_same n p e h))
  op_answers (Eof n) = ap Accepts (has_same n line.may_send _ (λ p e h. callings.may_send_same n p e
      h))
  op_answers (Close n) = ap Accepts
      (has_same n line.may_close _ (λ p e h. callings.may_close_same n p e h))
  op_answers (Peer_close n) = ap Accepts (established n)
  op_answers (Flush_line n is_rekeying) = ap Framed (goes_same n (line_at n t) (find n l.entries)
      (at n))
  op_answers (Flush_all is_rekeying) = refl
  op_answers (Grant n amount) = ap Credit (credit_same n amount (line_at n t) (find n l.entries)
      (at n))
  op_answers (Adjust n count target) =
      ap Room (coming_same n count target (line_at n t) (find n l.entries) (at n))
  op_answers Draw = ap Number (opening.next_same t l s)
  op_answers (Open_next window packet) = ap Number (opening.next_same t l s)
  op_answers (Accept_next peer window room packet own_packet) =
      ap (λ o. cond (packet == 0) Refused (Number o)) (opening.next_same t l s)
  op_answers (Drop_pending n) = ap Accepts (opening.pending_same t l s n)
  op_answers (Insert p) =
      ap (λ b. cond (p.recipient_maximum_packet_size == 0) Refused (Accepts (not b)))
      (opening.live_same t l s p.sender_channel.0)
  op_answers (Confirm msg) =
      ap (λ b. cond (msg.maximum_packet_size == 0) Refused (Accepts b))
      (opens msg.recipient_channel)
  op_answers (Fail_open n) = ap Accepts (opens n)
  op_answers (Set_target n target) = ap Accepts (opening.live_same t l s n)
  op_answers (Request n) = ap Place (place_same n (line_at n t) (find n l.entries) (at n))
  op_answers (Settle n place success) =
      ap Accepts (has_same n (line.owes_reply place) (reply_may_come place)
      (λ p e h. callings.owes_same n place p e h))
  op_answers (Stage frame) = refl
