-- What each message is to the side that takes it.
use Rattle.std.proofs.Common.{◌≡◌, ◌≤◌, ◌<◌, ◌+◌, ◌-◌, ◌/◌, ◌^◌, ◌&&◌, ℕ, min, Bool, true}
use Rattle.std.proofs.Common.{false, not, cond, nat_le, nat_lt, List, [], ◌∷◌, ◌++◌, length}
use Rattle.std.proofs.Common.{refl, sym, ◌∙◌, ap, subst, Option, Some, None, append_assoc}
use Rattle.std.proofs.Common.{arith, rules, length-append, ◌||◌, inl, inr}
use Rattle.std.proofs.lemmas.List.{append-nil}
use Rattle.std.specs.List.{list_any}
use Rattle.ssh_channels.specs.declared.params.ChannelParams.{ChannelParams}
use Rattle.ssh_channels.specs.declared.chunk.Chunk.{Chunk}
use Rattle.ssh_channels.specs.declared.chunk.DataKind.{DataKind}
use Rattle.ssh_channels.specs.declared.adjusted.Adjusted.{Adjusted}
use Rattle.ssh_channels.specs.declared.adjusted.Adjusted.TheVariants.{Dropped, Kept, Granted}
use Rattle.ssh_channels.specs.Entry.{tagged, joined}
use Rattle.ssh_channels.specs.Line as line
use Rattle.ssh_channels.specs.Window.{fits, room_after}
use Rattle.ssh_channels.proofs.Joined.{tagged_length}
use Rattle.ssh_ends.specs.Saying.{Saying, Open, Confirm, Grant, Data, Eof, Close, is_close, is_open}
use Rattle.ssh_ends.specs.Change.{Change, silent, saying, unchanged, data_out, ends_out}
use Rattle.ssh_ends.specs.Change.{grant_out, adjust_out}
use Rattle.ssh_ends.specs.Change.{hearing_data, hearing}
use Rattle.ssh_ends.specs.Strand.{AreCoded, AtSender, AtTaker, Strand}
use Rattle.ssh_ends.specs.Strand.{data_in, data_of, granted_in, granted_by}
use Rattle.ssh_ends.specs.Sound.{AreSaid, Hears}
use Rattle.ssh_ends.proofs.Strands.{data_both, granted_both, said_both, way, Turn, Moves}
use Rattle.ssh_ends.proofs.Strands.{moves_turn, when_confirmed, as_confirmed}
use Rattle.ssh_ends.proofs.Strands.{said_confirmed, hears_next, when_waiting, moves_forth}
use Rattle.ssh_ends.proofs.Strands.{NoGreeting}
use Rattle.ssh_ends.proofs.Turns.{flushes, IsQuiet, leaves}
use Rattle.ssh_ends.proofs.Turns.{nothing_said, idle, chosen, no_one, close_quiet, eof_quiet}

-- ---- what comes of a message

heard_moves : (m : ℕ) (l : ChannelParams) (x : Saying) (c : Change) → Moves l c (granted_by x)
    → data_of x ≡ [] → NoGreeting x → Turn m l (x ∷ []) c
heard_moves m l x c mv dataless denied =
    moves_turn m l (x ∷ []) c (granted_by x) mv
    (λ out. ap (λ xs. xs ++ data_in out) dataless) (λ back. refl)
    (λ inward h. hears_next m l x inward denied h)

-- what never comes to it
never : (m : ℕ) (l : ChannelParams) (x : Saying)
    → ((inward : List Saying) → Hears m (Some l) (x ∷ inward) → ⊥)
    → Turn m l (x ∷ []) (unchanged l)
never m l x denied = record {
  forth = λ other accepted delivered out back h s. absurd (denied back h);
  come = λ other accepted delivered out back h s. absurd (denied out h);
  hears = λ inward h. absurd (denied inward h);
  said = λ h. tt;
  shuts = λ is. absurd (no_one l is);
  routes = λ inward h. inl refl;
}

-- where it is not confirmed
not_yet : (m : ℕ) (l : ChannelParams) (x : Saying) → NoGreeting x → l.confirmed ≡ false
    → (inward : List Saying) → Hears m (Some l) (x ∷ inward) → ⊥
not_yet m l x denied is inward h =
    denied inward (when_waiting l.confirmed m l (x ∷ inward) is h).2

-- a grant
ends_quiet : (done eof close : Bool)
    → IsQuiet (cond done (cond eof (Eof ∷ []) [] ++ cond close (Close ∷ []) []) [])
ends_quiet false eof close = nothing_said
ends_quiet true true true = record { dataless = refl; none = refl; said = (tt, (tt, tt)) }
ends_quiet true true false = eof_quiet
ends_quiet true false true = close_quiet
ends_quiet true false false = nothing_said

ends_close : (done eof close : Bool) → done && close ≡ true → list_any is_close
    (cond done (cond eof (Eof ∷ []) [] ++ cond close (Close ∷ []) []) []) ≡ true
ends_close true true true t = refl
ends_close true false true t = refl
ends_close true eof false t = absurd (cc)
ends_close false eof close t = absurd (cc)

pub second_true : (a b : Bool) → b ≡ true → a || b ≡ true
second_true true b h = refl
second_true false b h = h

close_behind : (xs ys : List Saying) → list_any is_close ys ≡ true
    → list_any is_close (xs ++ ys) ≡ true
close_behind [] ys h = h
close_behind (x ∷ xs) ys h =
    second_true (is_close x) (list_any is_close (xs ++ ys)) (close_behind xs ys h)

goes_at : (b : Bool) (l : ChannelParams) → cond b None (Some l) ≡ None → b ≡ true
goes_at true l is = refl
goes_at false l is = absurd (no_one l is)

grant_moves : (amount : ℕ) (l : ChannelParams) → l.confirmed ≡ true
    → Moves l (saying (grant_out amount l) (line.stays (line.granted amount l))) amount
grant_moves amount l sure =
    let g = line.granted amount l in
    let done = line.nothing_waits (line.flushed g) in
    let first = data_out l in
    let second = data_out g in
    let ends = ends_out done g in
    let rest = joined (line.flushed g).waiting in
    let f = flushes l in
    let k = flushes g in
    let q = ends_quiet done g.pending_eof g.pending_close in
    let raises : g.recipient_window_size
    ≡ min (2 ^ 32 - 1) ((line.flushed l).recipient_window_size + amount) = refl in
    let all : data_in (grant_out amount l) ≡ data_in first ++ data_in second =
    data_both first (second ++ ends)
    ∙ ap (λ xs. data_in first ++ xs) (data_both second ends
    ∙ ap (λ xs. data_in second ++ xs) q.dataless ∙ append-nil (data_in second)) in
    record {
      rest = rest;
      credit = (line.flushed g).recipient_window_size;
      bytes = append-nil (joined l.waiting) ∙ f.bytes
          ∙ ap (λ xs. data_in first ++ xs) k.bytes
          ∙ sym (append_assoc (data_in first) (data_in second) rest)
          ∙ ap (λ xs. xs ++ rest) (sym all);
      spends = λ small. omega (
        arith,
        small,
        f.spent,
        k.spent,
        raises,
        ap length all,
        length-append (data_in first) (data_in second),
      );
      sender = λ h. chosen (λ o. AtSender o rest (line.flushed g).recipient_window_size)
          (line.closes g) None (Some (line.settled g)) (λ t. tt)
          (λ t. (refl, refl, k.coded (f.coded h)));
      taker = λ lost room h. chosen (λ o. AtTaker o lost room) (line.closes g) None
          (Some (line.settled g)) (λ t. tt) (λ t. h);
      grants = omega (
        arith,
        granted_both first (second ++ ends),
        granted_both second ends,
        f.granted,
        k.granted,
        q.none,
      );
      delivers = refl;
      said = λ h. said_both first (second ++ ends) (f.said h)
          (said_both second ends (k.said (f.coded h)) q.said);
      shuts = λ is. close_behind first (second ++ ends) (close_behind second ends
          (ends_close done g.pending_eof g.pending_close
          (goes_at (line.closes g) (line.settled g) is)));
      hears = λ m inward h.
          let both = when_confirmed l.confirmed m l inward sure h in
          chosen (λ o. Hears m o inward) (line.closes g) None (Some (line.settled g))
          (λ t. both.1)
          (λ t. as_confirmed l.confirmed m (line.settled g) inward sure both.0 both.1);
      routes = inr sure;
    }

grant_turn : (b : Bool) (m amount : ℕ) (l : ChannelParams) → l.confirmed ≡ b
    → Turn m l (Grant amount ∷ []) (cond b
    (saying (grant_out amount l) (line.stays (line.granted amount l))) (unchanged l))
grant_turn true m amount l t =
    heard_moves m l (Grant amount)
    (saying (grant_out amount l) (line.stays (line.granted amount l)))
    (grant_moves amount l t) refl (λ inward h. h)
grant_turn false m amount l t =
    never m l (Grant amount) (not_yet m l (Grant amount) (λ inward h. h) t)

close_turn : (b : Bool) (m : ℕ) (l : ChannelParams) → l.confirmed ≡ b
    → Turn m l (Close ∷ []) (cond b (saying (Close ∷ []) None) (unchanged l))
close_turn true m l t =
    heard_moves m l Close (saying (Close ∷ []) None)
    (leaves l (Close ∷ []) t close_quiet refl) refl (λ inward h. h)
close_turn false m l t = never m l Close (not_yet m l Close (λ inward h. h) t)

-- a confirmation
confirm_turn : (b : Bool) (m window packet : ℕ) (l : ChannelParams) → l.confirmed ≡ b
    → Turn m l (Confirm window packet ∷ [])
    (cond (not b) (silent (Some (line.confirmed_by m window packet l))) (unchanged l))
confirm_turn true m window packet l t =
    never m l (Confirm window packet)
    (λ inward h. (when_confirmed l.confirmed m l (Confirm window packet ∷ inward) t h).1.0)
confirm_turn false m window packet l t = record {
  forth = λ other accepted delivered out back h s.
      let waits = when_waiting l.confirmed m l (Confirm window packet ∷ back) t h in
      let g : granted_in (Confirm window packet ∷ back) ≡ window + granted_in back = refl in
      record {
        lost = s.lost;
        rest = s.rest;
        credit = window;
        room = s.room;
        bytes = append-nil accepted ∙ s.bytes
            ∙ ap (λ xs. (delivered ++ (s.lost ++ data_in xs)) ++ s.rest) (sym (append-nil out));
        sum = omega (
          arith,
          s.sum,
          s.at_sender.1,
          waits.1,
          g,
          ap (λ xs. length (data_in xs)) (append-nil out),
        );
        small = s.small;
        at_sender = (s.at_sender.0, refl, s.at_sender.2);
        at_taker = s.at_taker;
      };
  come = λ other accepted delivered out back h s. record {
    lost = s.lost;
    rest = s.rest;
    credit = s.credit;
    room = s.room;
    bytes = s.bytes
        ∙ ap (λ xs. (xs ++ (s.lost ++ data_in out)) ++ s.rest) (sym (append-nil delivered));
    sum = omega (arith, s.sum, ap granted_in (append-nil back));
    small = s.small;
    at_sender = s.at_sender;
    at_taker = s.at_taker;
  };
  hears = λ inward h.
      (refl, (when_waiting l.confirmed m l (Confirm window packet ∷ inward) t h).2.2);
  said = λ h. tt;
  shuts = λ is. absurd (no_one (line.confirmed_by m window packet l) is);
  routes = λ inward h. inl refl;
}

-- data are not larger than the room
pub data_fits : (l : ChannelParams) (piece : Chunk) (other : Option ChannelParams)
    (accepted delivered : List (DataKind × ℕ)) (out back : List Saying)
    → Strand (way other (Some l) accepted delivered (Data piece ∷ out) back)
    → length piece.bytes ≤ l.sender_window_size
data_fits l piece other accepted delivered out back s =
    omega (
      arith,
      s.sum,
      s.at_taker.1,
      length-append (tagged piece) (data_in out),
      tagged_length piece,
    )

-- and the room is less by them, or filled again
record IsFilled (l l' : ChannelParams) (count : ℕ) (says : List Saying) : Type 0 where
  waiting : l'.waiting ≡ l.waiting
  credit : l'.recipient_window_size ≡ l.recipient_window_size
  confirmed : l'.confirmed ≡ l.confirmed
  number : l'.recipient_channel ≡ l.recipient_channel
  target : l'.target ≡ l.target
  dataless : data_in says ≡ []
  said : AreSaid says
  room : l'.sender_window_size + count ≡ l.sender_window_size + granted_in says
  small : l.sender_window_size < 2 ^ 32 → l.target < 2 ^ 32 → l'.sender_window_size < 2 ^ 32

filled : (m : ℕ) (l l' : ChannelParams) (piece : Chunk) (says : List Saying)
    → IsFilled l l' (length piece.bytes) says
    → Turn m l (Data piece ∷ []) (record {
      after = Some l';
      says = says;
      accepts = [];
      delivers = tagged piece;
    })
filled m l l' piece says fill = record {
  forth = λ other accepted delivered out back h s.
      let same : data_in (out ++ says) ≡ data_in out =
      data_both out says ∙ ap (λ xs. data_in out ++ xs) fill.dataless
      ∙ append-nil (data_in out) in
      let g : granted_in (Data piece ∷ back) ≡ 0 + granted_in back = refl in
      record {
        lost = s.lost;
        rest = s.rest;
        credit = s.credit;
        room = s.room;
        bytes = append-nil accepted ∙ s.bytes
            ∙ ap (λ xs. (delivered ++ (s.lost ++ xs)) ++ s.rest) (sym same);
        sum = omega (arith, s.sum, g, ap length same);
        small = s.small;
        at_sender = (
          s.at_sender.0 ∙ ap joined (sym fill.waiting),
          s.at_sender.1 ∙ sym fill.credit,
          subst AreCoded (sym fill.waiting) s.at_sender.2,
        );
        at_taker = s.at_taker;
      };
  come = λ other accepted delivered out back h s. record {
    lost = [];
    rest = s.rest;
    credit = s.credit;
    room = l'.sender_window_size;
    bytes = s.bytes
        ∙ ap (λ xs. (delivered ++ (xs ++ (tagged piece ++ data_in out))) ++ s.rest) s.at_taker.0
        ∙ ap (λ xs. xs ++ s.rest) (sym (append_assoc delivered (tagged piece) (data_in out)));
    sum = omega (
      arith,
      s.sum,
      s.at_taker.1,
      fill.room,
      granted_both back says,
      length-append (tagged piece) (data_in out),
      tagged_length piece,
    );
    small = fill.small (subst (λ n. n < 2 ^ 32) s.at_taker.1 s.small) s.at_taker.2;
    at_sender = s.at_sender;
    at_taker = (refl, refl, subst (λ n. n < 2 ^ 32) (sym fill.target) s.at_taker.2);
  };
  hears = λ inward h.
      let sure = said_confirmed l.confirmed m l (Data piece) inward (λ more denied. denied) h in
      let both = when_confirmed l.confirmed m l (Data piece ∷ inward) sure h in
      as_confirmed l'.confirmed m l' inward (fill.confirmed ∙ sure) (fill.number ∙ both.0)
      both.1.1;
  said = λ h. fill.said;
  shuts = λ is. absurd (no_one l' is);
  routes = λ inward h.
      let sure = said_confirmed l.confirmed m l (Data piece) inward (λ more denied. denied) h in
      inr (when_confirmed l.confirmed m l (Data piece ∷ inward) sure h).0;
}

second_of : (a b : Bool) → a && b ≡ true → b ≡ true
second_of true b h = h
second_of false b h = absurd (cc)

abbrev data_as : Adjusted → Chunk → ChannelParams → Change
data_as answer piece l = record {
  after = Some (room_after answer (length piece.bytes) l.target l);
  says = adjust_out answer;
  accepts = [];
  delivers = hearing_data answer piece l;
}

pub fits_at : (count : ℕ) (l : ChannelParams) → l.confirmed ≡ true → count ≤ l.sender_window_size
    → fits count l ≡ true
fits_at count l sure le =
    let t : nat_le count l.sender_window_size ≡ true = search rules in
    rw sure t

data_turn : (fit low : Bool) (m : ℕ) (l : ChannelParams) (piece : Chunk)
    → fits (length piece.bytes) l ≡ fit
    → nat_lt (l.sender_window_size - length piece.bytes) (l.target / 2) ≡ low
    → Turn m l (Data piece ∷ []) (data_as (cond fit (cond low
    (Granted (l.target - (l.sender_window_size - length piece.bytes))) Kept) Dropped) piece l)
data_turn true true m l piece t u =
    let count = length piece.bytes in
    let v : nat_le count l.sender_window_size ≡ true = second_of l.confirmed _ t in
    let le : count ≤ l.sender_window_size = search rules in
    let lt : l.sender_window_size - count < l.target / 2 = search rules in
    let amount = l.target - (l.sender_window_size - count) in
    let after = record l { sender_window_size = l.target } in
    let a : after.sender_window_size ≡ l.target = refl in
    let g : granted_in (Grant amount ∷ []) ≡ amount + 0 = refl in
    filled m l after piece (Grant amount ∷ []) (record {
      waiting = refl;
      credit = refl;
      confirmed = refl;
      number = refl;
      target = refl;
      dataless = refl;
      said = (tt, tt);
      room = omega (arith, le, lt, a, g);
      small = λ room target. target;
    })
data_turn true false m l piece t u =
    let count = length piece.bytes in
    let v : nat_le count l.sender_window_size ≡ true = second_of l.confirmed _ t in
    let le : count ≤ l.sender_window_size = search rules in
    let after = record l { sender_window_size = l.sender_window_size - count } in
    let a : after.sender_window_size ≡ l.sender_window_size - count = refl in
    let g : granted_in [] ≡ 0 = refl in
    filled m l after piece [] (record {
      waiting = refl;
      credit = refl;
      confirmed = refl;
      number = refl;
      target = refl;
      dataless = refl;
      said = tt;
      room = omega (arith, le, a, g);
      small = λ room target. omega (arith, room, a);
    })
data_turn false low m l piece t u = record {
  forth = λ other accepted delivered out back h s.
      moves_forth l (unchanged l) 0 (idle l) (Data piece ∷ []) other accepted delivered out back
      refl s;
  come = λ other accepted delivered out back h s.
      let sure = said_confirmed l.confirmed m l (Data piece) out (λ more denied. denied) h in
      let yes : fits (length piece.bytes) l ≡ true =
      fits_at (length piece.bytes) l sure (data_fits l piece other accepted delivered out back s) in
      absurd (let e : true ≡ false = sym yes ∙ t in cc);
  hears = λ inward h. hears_next m l (Data piece) inward (λ more denied. denied) h;
  said = λ h. tt;
  shuts = λ is. absurd (no_one l is);
  routes = λ inward h. inl refl;
}

-- each message but an open
pub heard_turn : (m : ℕ) (x : Saying) (l : ChannelParams) → is_open x ≡ false
    → Turn m l (x ∷ []) (hearing m x l)
heard_turn m (Open window packet) l denied = absurd (cc)
heard_turn m (Confirm window packet) l denied = confirm_turn l.confirmed m window packet l refl
heard_turn m (Grant amount) l denied = grant_turn l.confirmed m amount l refl
heard_turn m (Data piece) l denied =
    data_turn (fits (length piece.bytes) l)
    (nat_lt (l.sender_window_size - length piece.bytes) (l.target / 2)) m l piece refl refl
heard_turn m Eof l denied = heard_moves m l Eof (unchanged l) (idle l) refl (λ inward h. h)
heard_turn m Close l denied = close_turn l.confirmed m l refl
