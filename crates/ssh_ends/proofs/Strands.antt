-- One direction of a channel, whatever one of its sides does.
use Rattle.std.proofs.Common.{◌≡◌, ◌<◌, ◌+◌, ◌^◌, ℕ, Bool, true, false, List, [], ◌∷◌, ◌++◌, length}
use Rattle.std.proofs.Common.{refl, sym, ◌∙◌, ap, Option, Some, None, append_assoc, arith}
use Rattle.std.proofs.Common.{◌⊎◌, inl, inr}
use Rattle.std.proofs.Common.{length-append}
use Rattle.std.proofs.lemmas.Grind.{flat_map-append}
use Rattle.std.proofs.lemmas.List.{append-nil}
use Rattle.std.specs.List.{list_any}
use Rattle.ssh_channels.specs.declared.params.ChannelParams.{ChannelParams}
use Rattle.ssh_channels.specs.declared.chunk.DataKind.{DataKind}
use Rattle.ssh_channels.specs.Entry.{joined}
use Rattle.ssh_ends.specs.Saying.{Saying, Open, Confirm, Grant, Data, Eof, Close, is_close}
use Rattle.ssh_ends.specs.Change.{Change}
use Rattle.ssh_ends.specs.Strand.{AreCoded, AtSender, AtTaker, Direction, Strand}
use Rattle.ssh_ends.specs.Strand.{data_in, data_of, granted_by, granted_in}
use Rattle.ssh_ends.specs.Sound.{AreSaid, IsGreeting, HearsOf, Hears}

pub data_both : (xs ys : List Saying) → data_in (xs ++ ys) ≡ data_in xs ++ data_in ys
data_both xs ys = flat_map-append data_of xs ys

pub granted_both : (xs ys : List Saying) → granted_in (xs ++ ys) ≡ granted_in xs + granted_in ys
granted_both [] ys = omega arith
granted_both (x ∷ xs) ys = omega (arith, granted_both xs ys)

pub said_both : (xs ys : List Saying) → AreSaid xs → AreSaid ys → AreSaid (xs ++ ys)
said_both [] ys h k = k
said_both (x ∷ xs) ys h k = (h.0, said_both xs ys h.1 k)

abbrev pub way : (sender taker : Option ChannelParams) → (accepted delivered : List (DataKind × ℕ))
    → (out back : List Saying) → Direction
way sender taker accepted delivered out back = record {
  sender = sender;
  taker = taker;
  accepted = accepted;
  delivered = delivered;
  out = out;
  back = back;
}

-- what a change of its channel, on which these messages are taken, is to a side
pub record Turn (m : ℕ) (l : ChannelParams) (taken : List Saying) (c : Change) : Type 0 where
  -- the data that it sends
  pub forth : (other : Option ChannelParams) (accepted delivered : List (DataKind × ℕ))
      (out back : List Saying) → Hears m (Some l) (taken ++ back)
      → Strand (way (Some l) other accepted delivered out (taken ++ back))
      → Strand (way c.after other (accepted ++ c.accepts) delivered (out ++ c.says) back)
  -- the data that it takes
  pub come : (other : Option ChannelParams) (accepted delivered : List (DataKind × ℕ))
      (out back : List Saying) → Hears m (Some l) (taken ++ out)
      → Strand (way other (Some l) accepted delivered (taken ++ out) back)
      → Strand (way other c.after accepted (delivered ++ c.delivers) out (back ++ c.says))
  pub hears : (inward : List Saying) → Hears m (Some l) (taken ++ inward)
      → Hears m c.after inward
  pub said : AreCoded l.waiting → AreSaid c.says
  pub shuts : c.after ≡ None → list_any is_close c.says ≡ true
  -- what is said goes to the other side's number
  pub routes : (inward : List Saying) → Hears m (Some l) (taken ++ inward)
      → (c.says ≡ []) ⊎ (l.recipient_channel ≡ m)

-- a change that spends the credit, to which an amount was added, on data, and leaves the room
pub record Moves (l : ChannelParams) (c : Change) (amount : ℕ) : Type 0 where
  pub rest : List (DataKind × ℕ)
  pub credit : ℕ
  pub bytes : joined l.waiting ++ c.accepts ≡ data_in c.says ++ rest
  pub spends : l.recipient_window_size + amount < 2 ^ 32
      → credit + length (data_in c.says) ≡ l.recipient_window_size + amount
  pub sender : AreCoded l.waiting → AtSender c.after rest credit
  pub taker : (lost : List (DataKind × ℕ)) (room : ℕ) → AtTaker (Some l) lost room
      → AtTaker c.after lost room
  pub grants : granted_in c.says ≡ 0
  pub delivers : c.delivers ≡ []
  pub said : AreCoded l.waiting → AreSaid c.says
  pub shuts : c.after ≡ None → list_any is_close c.says ≡ true
  pub hears : (m : ℕ) (inward : List Saying) → Hears m (Some l) inward → Hears m c.after inward
  pub routes : (c.says ≡ []) ⊎ (l.confirmed ≡ true)

-- accepted bytes, of which more wait
more_waits : {A : Type 0} (accepted delivered lost under waiting more new rest : List A)
    → accepted ≡ (delivered ++ (lost ++ under)) ++ waiting → waiting ++ more ≡ new ++ rest
    → accepted ++ more ≡ (delivered ++ (lost ++ (under ++ new))) ++ rest
more_waits accepted delivered lost under waiting more new rest is waits =
    ap (λ xs. xs ++ more) is ∙ append_assoc (delivered ++ (lost ++ under)) waiting more
    ∙ ap (λ xs. (delivered ++ (lost ++ under)) ++ xs) waits
    ∙ sym (append_assoc (delivered ++ (lost ++ under)) new rest)
    ∙ ap (λ xs. xs ++ rest) (append_assoc delivered (lost ++ under) new
    ∙ ap (λ xs. delivered ++ xs) (append_assoc lost under new))

module _ (l : ChannelParams) (c : Change) (amount : ℕ) (mv : Moves l c amount)
    (taken : List Saying) (other : Option ChannelParams)
    (accepted delivered : List (DataKind × ℕ)) (out back : List Saying) where
  -- what is taken grants that amount
  pub moves_forth : granted_in (taken ++ back) ≡ amount + granted_in back
      → Strand (way (Some l) other accepted delivered out (taken ++ back))
      → Strand (way c.after other (accepted ++ c.accepts) delivered (out ++ c.says) back)
  moves_forth granted s =
      let spent = mv.spends (omega (arith, s.sum, s.small, granted, s.at_sender.1)) in
      let waits : joined l.waiting ≡ s.rest = sym s.at_sender.0 in
      record {
        lost = s.lost;
        rest = mv.rest;
        credit = mv.credit;
        room = s.room;
        bytes = more_waits accepted delivered s.lost (data_in out) s.rest c.accepts
            (data_in c.says) mv.rest s.bytes (ap (λ xs. xs ++ c.accepts) (sym waits) ∙ mv.bytes)
            ∙ ap (λ xs. (delivered ++ (s.lost ++ xs)) ++ mv.rest) (sym (data_both out c.says));
        sum = omega (
          arith,
          s.sum,
          spent,
          granted,
          s.at_sender.1,
          ap length (data_both out c.says),
          length-append (data_in out) (data_in c.says),
        );
        small = s.small;
        at_sender = mv.sender s.at_sender.2;
        at_taker = s.at_taker;
      }

  -- it brings no data
  pub moves_come : data_in (taken ++ out) ≡ data_in out
      → Strand (way other (Some l) accepted delivered (taken ++ out) back)
      → Strand (way other c.after accepted (delivered ++ c.delivers) out (back ++ c.says))
  moves_come dataless s = record {
    lost = s.lost;
    rest = s.rest;
    credit = s.credit;
    room = s.room;
    bytes = s.bytes ∙ ap (λ xs. (delivered ++ (s.lost ++ xs)) ++ s.rest) dataless
        ∙ ap (λ xs. (xs ++ (s.lost ++ data_in out)) ++ s.rest)
        (sym (ap (λ xs. delivered ++ xs) mv.delivers ∙ append-nil delivered));
    sum = omega (arith, s.sum, ap length dataless, granted_both back c.says, mv.grants);
    small = s.small;
    at_sender = s.at_sender;
    at_taker = mv.taker s.lost s.room s.at_taker;
  }

-- what comes to a side that is confirmed
pub when_confirmed : (b : Bool) (m : ℕ) (l : ChannelParams) (inward : List Saying) → b ≡ true
    → HearsOf b m l inward → (l.recipient_channel ≡ m) × AreSaid inward
when_confirmed true m l inward is h = h
when_confirmed false m l inward is h = absurd (cc)

pub as_confirmed : (b : Bool) (m : ℕ) (l : ChannelParams) (inward : List Saying) → b ≡ true
    → l.recipient_channel ≡ m → AreSaid inward → HearsOf b m l inward
as_confirmed true m l inward is number said = (number, said)
as_confirmed false m l inward is number said = absurd (cc)

routed_by : (m : ℕ) (l : ChannelParams) (Silent : Type 0) (inward : List Saying)
    → Silent ⊎ (l.confirmed ≡ true) → Hears m (Some l) inward
    → Silent ⊎ (l.recipient_channel ≡ m)
routed_by m l Silent inward (inl silent) h = inl silent
routed_by m l Silent inward (inr sure) h = inr (when_confirmed l.confirmed m l inward sure h).0

-- such a change, with these messages taken
pub moves_turn : (m : ℕ) (l : ChannelParams) (taken : List Saying) (c : Change) (amount : ℕ)
    → Moves l c amount → ((out : List Saying) → data_in (taken ++ out) ≡ data_in out)
    → ((back : List Saying) → granted_in (taken ++ back) ≡ amount + granted_in back)
    → ((inward : List Saying) → Hears m (Some l) (taken ++ inward) → Hears m (Some l) inward)
    → Turn m l taken c
moves_turn m l taken c amount mv dataless granted heard = record {
  forth = λ other accepted delivered out back h s.
      moves_forth l c amount mv taken other accepted delivered out back (granted back) s;
  come = λ other accepted delivered out back h s.
      moves_come l c amount mv taken other accepted delivered out back (dataless out) s;
  hears = λ inward h. mv.hears m inward (heard inward h);
  said = mv.said;
  shuts = mv.shuts;
  routes = λ inward h. routed_by m l (c.says ≡ []) inward mv.routes (heard inward h);
}

-- with nothing taken
pub alone_turn : (m : ℕ) (l : ChannelParams) (c : Change) → Moves l c 0 → Turn m l [] c
alone_turn m l c mv =
    moves_turn m l [] c 0 mv (λ out. refl) (λ back. omega arith) (λ inward h. h)

-- a message that does not confirm the channel comes to a side that is confirmed
abbrev pub NoGreeting : Saying → Type 0
NoGreeting x = (inward : List Saying) → IsGreeting (x ∷ inward) → ⊥

pub said_confirmed : (b : Bool) (m : ℕ) (l : ChannelParams) (x : Saying) (inward : List Saying)
    → NoGreeting x → HearsOf b m l (x ∷ inward) → b ≡ true
said_confirmed true m l x inward denied h = refl
said_confirmed false m l x inward denied h = absurd (denied inward h.2)

pub hears_next : (m : ℕ) (l : ChannelParams) (x : Saying) (inward : List Saying) → NoGreeting x
    → Hears m (Some l) (x ∷ inward) → Hears m (Some l) inward
hears_next m l x inward denied h =
    let sure = said_confirmed l.confirmed m l x inward denied h in
    let both = when_confirmed l.confirmed m l (x ∷ inward) sure h in
    as_confirmed l.confirmed m l inward sure both.0 both.1.1

pub when_waiting : (b : Bool) (m : ℕ) (l : ChannelParams) (inward : List Saying) → b ≡ false
    → HearsOf b m l inward
    → (l.waiting ≡ []) × (l.recipient_window_size ≡ 0) × IsGreeting inward
when_waiting true m l inward is h = absurd (cc)
when_waiting false m l inward is h = h

-- more is said to a side
greeting_more : (xs ys : List Saying) → AreSaid ys → IsGreeting xs → IsGreeting (xs ++ ys)
greeting_more [] ys said h = absurd h
greeting_more (Open window packet ∷ xs) ys said h = absurd h
greeting_more (Confirm window packet ∷ xs) ys said h = (h.0, h.1, said_both xs ys h.2 said)
greeting_more (Grant amount ∷ xs) ys said h = absurd h
greeting_more (Data piece ∷ xs) ys said h = absurd h
greeting_more (Eof ∷ xs) ys said h = absurd h
greeting_more (Close ∷ xs) ys said h = absurd h

more_at : (b : Bool) (m : ℕ) (l : ChannelParams) (xs ys : List Saying) → AreSaid ys
    → HearsOf b m l xs → HearsOf b m l (xs ++ ys)
more_at true m l xs ys said h = (h.0, said_both xs ys h.1 said)
more_at false m l xs ys said h = (h.0, h.1, greeting_more xs ys said h.2)

pub hears_more : (m : ℕ) (o : Option ChannelParams) (xs ys : List Saying) → AreSaid ys
    → Hears m o xs → Hears m o (xs ++ ys)
hears_more m None xs ys said h = said_both xs ys h said
hears_more m (Some l) xs ys said h = more_at l.confirmed m l xs ys said h

-- ---- a side that no longer has the channel

module _ (other : Option ChannelParams) (accepted delivered : List (DataKind × ℕ)) (x : Saying)
    (out back : List Saying) where
  pub gone_forth : Strand (way None other accepted delivered out (x ∷ back))
      → Strand (way None other accepted delivered out back)
  gone_forth s =
      let g : granted_in (x ∷ back) ≡ granted_by x + granted_in back = refl in
      record {
        lost = s.lost;
        rest = s.rest;
        credit = s.credit + granted_by x;
        room = s.room;
        bytes = s.bytes;
        sum = omega (arith, s.sum, g);
        small = s.small;
        at_sender = tt;
        at_taker = s.at_taker;
      }

  pub gone_come : Strand (way other None accepted delivered (x ∷ out) back)
      → Strand (way other None accepted delivered out back)
  gone_come s = record {
    lost = s.lost ++ data_of x;
    rest = s.rest;
    credit = s.credit;
    room = s.credit + (length (data_in out) + granted_in back);
    bytes = s.bytes ∙ ap (λ xs. (delivered ++ xs) ++ s.rest)
        (sym (append_assoc s.lost (data_of x) (data_in out)));
    sum = refl;
    small = omega (arith, s.sum, s.small, length-append (data_of x) (data_in out));
    at_sender = s.at_sender;
    at_taker = tt;
  }
