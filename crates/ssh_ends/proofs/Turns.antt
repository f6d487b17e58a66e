-- What each event is to the side on whose channel it happens.
use Rattle.std.proofs.Common.{◌≡◌, ◌<◌, ◌+◌, ◌-◌, ◌^◌, ◌==◌, ◌&&◌, ℕ, Bool, true}
use Rattle.std.proofs.Common.{false, not, cond, nat_le, List, [], ◌∷◌, ◌++◌, length, take}
use Rattle.std.proofs.Common.{drop, map, refl, sym, ◌∙◌, ap, subst, Some, None}
use Rattle.std.proofs.Common.{arith, rules, length-take, zero, suc, ◌⊎◌, inl, inr}
use Rattle.std.proofs.lemmas.List.{append-nil, take-append-drop}
use Rattle.std.specs.List.{list_any}
use Rattle.ssh_channels.specs.declared.params.ChannelParams.{ChannelParams}
use Rattle.ssh_channels.specs.declared.chunk.Chunk.{Chunk}
use Rattle.ssh_channels.specs.declared.chunk.DataKind.{DataKind}
use Rattle.ssh_channels.specs.Entry.{tagged, joined}
use Rattle.ssh_channels.specs.Cut.{piece_limit, pieces_in, pieces, cut, left_of}
use Rattle.ssh_channels.specs.Layout.{chunk}
use Rattle.ssh_channels.specs.Line as line
use Rattle.ssh_channels.specs.Window.{aimed}
use Rattle.ssh_channels.proofs.Joined.{joined_both, joined_cut, joined_left, credit_spent}
use Rattle.ssh_channels.proofs.Joined.{some_limit}
use Rattle.ssh_ends.specs.Saying.{Saying, Data, Eof, Close, is_close}
use Rattle.ssh_ends.specs.Change.{Change, silent, saying, unchanged, data_out}
use Rattle.ssh_ends.specs.Change.{sending, ending, closing, aiming}
use Rattle.ssh_ends.specs.Strand.{IsCoded, AreCoded}
use Rattle.ssh_ends.specs.Strand.{data_in, granted_in}
use Rattle.ssh_ends.specs.Sound.{AreSaid, HearsOf, Hears}
use Rattle.ssh_ends.proofs.Strands.{Turn, Moves}
use Rattle.ssh_ends.proofs.Strands.{alone_turn, when_confirmed, as_confirmed}

-- ---- what waits goes out

pub data_said : (cs : List Chunk) → data_in (map Data cs) ≡ joined cs
data_said [] = refl
data_said (c ∷ cs) = ap (λ xs. tagged c ++ xs) (data_said cs)

pub none_granted : (cs : List Chunk) → granted_in (map Data cs) ≡ 0
none_granted [] = refl
none_granted (c ∷ cs) = omega (arith, none_granted cs)

pub all_said : (cs : List Chunk) → AreCoded cs → AreSaid (map Data cs)
all_said [] h = tt
all_said (c ∷ cs) h = (h.0, all_said cs h.1)

-- a cut keeps data type codes
pub coded_both : (xs ys : List Chunk) → AreCoded xs → AreCoded ys → AreCoded (xs ++ ys)
coded_both [] ys h k = k
coded_both (x ∷ xs) ys h k = (h.0, coded_both xs ys h.1 k)

coded_pieces : (fuel limit : ℕ) (kind : DataKind) (bytes : List ℕ) → IsCoded kind
    → AreCoded (pieces_in fuel limit kind bytes)
coded_pieces zero limit kind bytes h = tt
coded_pieces (suc fuel) limit kind [] h = tt
coded_pieces (suc fuel) limit kind (b ∷ bs) h =
    (h, coded_pieces fuel limit kind (drop limit (b ∷ bs)) h)

pub either : {A : Type 0} (P : A → Type 0) (b : Bool) (x y : A) → P x → P y → P (cond b x y)
either P true x y h k = h
either P false x y h k = k

coded_cut : (limit credit : ℕ) (cs : List Chunk) → AreCoded cs → AreCoded (cut limit credit cs)
coded_cut limit credit [] h = tt
coded_cut limit credit (c ∷ cs) h =
    either AreCoded (nat_le (length c.bytes) credit)
    (pieces limit c.kind c.bytes ++ cut limit (credit - length c.bytes) cs)
    (pieces limit c.kind (take credit c.bytes))
    (coded_both (pieces limit c.kind c.bytes) (cut limit (credit - length c.bytes) cs)
    (coded_pieces (length c.bytes) limit c.kind c.bytes h.0)
    (coded_cut limit (credit - length c.bytes) cs h.1))
    (coded_pieces (length (take credit c.bytes)) limit c.kind (take credit c.bytes) h.0)

coded_left : (credit : ℕ) (cs : List Chunk) → AreCoded cs → AreCoded (left_of credit cs)
coded_left credit [] h = tt
coded_left credit (c ∷ cs) h =
    either AreCoded (nat_le (length c.bytes) credit) (left_of (credit - length c.bytes) cs)
    (chunk c.kind (drop credit c.bytes) ∷ cs) (coded_left (credit - length c.bytes) cs h.1) h

-- within the credit
pub record Flushes (l : ChannelParams) : Type 0 where
  pub bytes : joined l.waiting ≡ data_in (data_out l) ++ joined (line.flushed l).waiting
  pub spent : (line.flushed l).recipient_window_size + length (data_in (data_out l))
      ≡ l.recipient_window_size
  pub coded : AreCoded l.waiting → AreCoded (line.flushed l).waiting
  pub said : AreCoded l.waiting → AreSaid (data_out l)
  pub granted : granted_in (data_out l) ≡ 0

pub flushes : (l : ChannelParams) → Flushes l
flushes l =
    let limit = piece_limit l.recipient_maximum_packet_size in
    let credit = l.recipient_window_size in
    let waiting = l.waiting in
    let out : data_in (data_out l) ≡ take credit (joined waiting) =
    data_said (cut limit credit waiting)
    ∙ joined_cut limit credit waiting (some_limit l.recipient_maximum_packet_size) in
    record {
      bytes = sym (take-append-drop credit (joined waiting))
          ∙ ap (λ xs. xs ++ drop credit (joined waiting)) (sym out)
          ∙ ap (λ xs. data_in (data_out l) ++ xs) (sym (joined_left credit waiting));
      spent = omega (
        arith,
        ap length out,
        length-take credit (joined waiting),
        credit_spent credit waiting,
      );
      coded = coded_left credit waiting;
      said = λ h. all_said (cut limit credit waiting) (coded_cut limit credit waiting h);
      granted = none_granted (cut limit credit waiting);
    }

-- ---- changes that say nothing of data

-- the same but for what plays no part in what is under way
pub record IsLike (l l' : ChannelParams) : Type 0 where
  pub waiting : l'.waiting ≡ l.waiting
  pub credit : l'.recipient_window_size ≡ l.recipient_window_size
  pub room : l'.sender_window_size ≡ l.sender_window_size
  pub confirmed : l'.confirmed ≡ l.confirmed
  pub number : l'.recipient_channel ≡ l.recipient_channel
  pub target : l.target < 2 ^ 32 → l'.target < 2 ^ 32

like_at : (b : Bool) (m : ℕ) (l l' : ChannelParams) (inward : List Saying) → IsLike l l'
    → HearsOf b m l inward → HearsOf b m l' inward
like_at true m l l' inward like h = (like.number ∙ h.0, h.1)
like_at false m l l' inward like h = (like.waiting ∙ h.0, like.credit ∙ h.1, h.2)

hears_like : (m : ℕ) (l l' : ChannelParams) (inward : List Saying) → IsLike l l'
    → Hears m (Some l) inward → Hears m (Some l') inward
hears_like m l l' inward like h =
    subst (λ b. HearsOf b m l' inward) (sym like.confirmed) (like_at l.confirmed m l l' inward like
    h)

pub record IsQuiet (says : List Saying) : Type 0 where
  pub dataless : data_in says ≡ []
  pub none : granted_in says ≡ 0
  pub said : AreSaid says

pub no_one : (l : ChannelParams) → Some l ≡ None → ⊥
no_one l is = cc

pub quiet : (l l' : ChannelParams) (says : List Saying) → IsLike l l' → IsQuiet says
    → (says ≡ []) ⊎ (l.confirmed ≡ true) → Moves l (saying says (Some l')) 0
quiet l l' says like q routes = record {
  rest = joined l'.waiting;
  credit = l'.recipient_window_size;
  bytes = append-nil (joined l.waiting) ∙ ap joined (sym like.waiting)
      ∙ ap (λ xs. xs ++ joined l'.waiting) (sym q.dataless);
  spends = λ small. omega (arith, like.credit, ap length q.dataless);
  sender = λ h. (refl, refl, subst AreCoded (sym like.waiting) h);
  taker = λ lost room h. (h.0, h.1 ∙ sym like.room, like.target h.2);
  grants = q.none;
  delivers = refl;
  said = λ h. q.said;
  shuts = λ is. absurd (no_one l' is);
  hears = λ m inward h. hears_like m l l' inward like h;
  routes = routes;
}

pub leaves : (l : ChannelParams) (says : List Saying) → l.confirmed ≡ true → IsQuiet says
    → list_any is_close says ≡ true → Moves l (saying says None) 0
leaves l says sure q closes = record {
  rest = joined l.waiting;
  credit = l.recipient_window_size;
  bytes = append-nil (joined l.waiting)
      ∙ ap (λ xs. xs ++ joined l.waiting) (sym q.dataless);
  spends = λ small. omega (arith, ap length q.dataless);
  sender = λ h. tt;
  taker = λ lost room h. tt;
  grants = q.none;
  delivers = refl;
  said = λ h. q.said;
  shuts = λ is. closes;
  hears = λ m inward h. (when_confirmed l.confirmed m l inward sure h).1;
  routes = inr sure;
}

pub same_like : (l : ChannelParams) → IsLike l l
same_like l = record {
  waiting = refl;
  credit = refl;
  room = refl;
  confirmed = refl;
  number = refl;
  target = λ h. h;
}

pub nothing_said : IsQuiet []
nothing_said = record { dataless = refl; none = refl; said = tt }

pub idle : (l : ChannelParams) → Moves l (unchanged l) 0
idle l = quiet l l [] (same_like l) nothing_said (inl refl)

-- ---- what the side itself does

pub chosen : {A : Type 0} (P : A → Type 0) (b : Bool) (x y : A) → (b ≡ true → P x) → (b ≡ false → P y)
    → P (cond b x y)
chosen P true x y h k = h refl
chosen P false x y h k = k refl

first_true : (a b : Bool) → a && b ≡ true → a ≡ true
first_true true b h = refl
first_true false b h = absurd (cc)

first_false : (a b : Bool) → a ≡ false → a && b ≡ false
first_false true b h = absurd (cc)
first_false false b h = refl

-- an event of this side alone: it is a turn where the channel is opened, and changes nothing that
-- matters where its open is under way
pub record Own (l : ChannelParams) (c : Change) : Type 0 where
  pub turn : (m : ℕ) → Turn m l [] c
  pub asked : l.confirmed ≡ false → (l' : ChannelParams) × (c ≡ silent (Some l')) × IsLike l l'

own_if : (b : Bool) (l : ChannelParams) (c : Change) → (b ≡ true → l.confirmed ≡ true)
    → (b ≡ true → Moves l c 0) → Own l (cond b c (unchanged l))
own_if true l c sure mv = record {
  turn = λ m. alone_turn m l c (mv refl);
  asked = λ denied. let yes : l.confirmed ≡ true = sure refl in absurd (let e : true ≡ false = sym yes ∙ denied in cc);
}
own_if false l c sure mv = record {
  turn = λ m. alone_turn m l (unchanged l) (idle l);
  asked = λ denied. (l, refl, same_like l);
}

-- data
pub no_items : {A : Type 0} (xs : List A) → (length xs == 0) ≡ true → xs ≡ []
no_items [] t = refl
no_items (x ∷ xs) t = let n : length (x ∷ xs) ≡ 0 = search rules in absurd (omega arith)

waits_more : (b : Bool) (c : Chunk) (l : ChannelParams) → (length c.bytes == 0) ≡ b
    → joined l.waiting ++ tagged c ≡ joined (cond b l.waiting (l.waiting ++ c ∷ []))
waits_more true c l t =
    ap (λ bytes. joined l.waiting ++ tagged (chunk c.kind bytes)) (no_items c.bytes t)
    ∙ append-nil (joined l.waiting)
waits_more false c l t =
    sym (joined_both l.waiting (c ∷ [])
    ∙ ap (λ xs. joined l.waiting ++ xs) (append-nil (tagged c)))

abbrev sent_as : Bool → Chunk → ChannelParams → Change
sent_as nothing c l = record {
  after = Some (cond (not nothing) (line.waits_behind c l) (line.flushed (line.alone c l)));
  says = cond (not nothing) [] (data_out (line.alone c l));
  accepts = tagged c;
  delivers = [];
}

sent_moves : (b : Bool) (c : Chunk) (l : ChannelParams) → line.nothing_waits l ≡ b
    → l.confirmed ≡ true → IsCoded c.kind → Moves l (sent_as b c l) 0
sent_moves true c l t sure coded =
    let only = line.alone c l in
    let f = flushes only in
    let same : only.recipient_window_size ≡ l.recipient_window_size = refl in
    record {
      rest = joined (line.flushed only).waiting;
      credit = (line.flushed only).recipient_window_size;
      bytes = ap (λ cs. joined cs ++ tagged c) (no_items l.waiting t)
          ∙ sym (append-nil (tagged c)) ∙ f.bytes;
      spends = λ small. omega (arith, f.spent, same);
      sender = λ h. (refl, refl, f.coded (coded, tt));
      taker = λ lost room h. h;
      grants = f.granted;
      delivers = refl;
      said = λ h. f.said (coded, tt);
      shuts = λ is. absurd (no_one (line.flushed only) is);
      hears = λ m inward h.
          let both = when_confirmed l.confirmed m l inward sure h in
          as_confirmed l.confirmed m (line.flushed only) inward sure both.0 both.1;
      routes = inr sure;
    }
sent_moves false c l t sure coded =
    let after = line.waits_behind c l in
    record {
      rest = joined after.waiting;
      credit = l.recipient_window_size;
      bytes = waits_more (length c.bytes == 0) c l refl;
      spends = λ small. omega arith;
      sender = λ h. (
        refl,
        refl,
        either AreCoded (length c.bytes == 0) l.waiting (l.waiting ++ c ∷ []) h
            (coded_both l.waiting (c ∷ []) h (coded, tt)),
      );
      taker = λ lost room h. h;
      grants = refl;
      delivers = refl;
      said = λ h. tt;
      shuts = λ is. absurd (no_one after is);
      hears = λ m inward h.
          let both = when_confirmed l.confirmed m l inward sure h in
          as_confirmed l.confirmed m after inward sure both.0 both.1;
      routes = inl refl;
    }

pub sending_own : (c : Chunk) (l : ChannelParams) → IsCoded c.kind → Own l (sending c l)
sending_own c l coded =
    own_if (line.may_send l) l (sent_as (line.nothing_waits l) c l)
    (first_true l.confirmed (not l.ended))
    (λ t. sent_moves (line.nothing_waits l) c l refl (first_true l.confirmed (not l.ended) t) coded)

-- an end of the data, and a close
one_quiet : (b : Bool) (x : Saying) → IsQuiet (x ∷ []) → IsQuiet (cond b (x ∷ []) [])
one_quiet b x q = either IsQuiet b (x ∷ []) [] q nothing_said

pub eof_quiet : IsQuiet (Eof ∷ [])
eof_quiet = record { dataless = refl; none = refl; said = (tt, tt) }

pub close_quiet : IsQuiet (Close ∷ [])
close_quiet = record { dataless = refl; none = refl; said = (tt, tt) }

pub ending_own : (l : ChannelParams) → Own l (ending l)
ending_own l =
    own_if (line.may_send l) l
    (saying (cond (line.nothing_waits l) (Eof ∷ []) []) (Some (line.ending l)))
    (first_true l.confirmed (not l.ended))
    (λ t. quiet l (line.ending l) (cond (line.nothing_waits l) (Eof ∷ []) [])
    (record {
      waiting = refl;
      credit = refl;
      room = refl;
      confirmed = refl;
      number = refl;
      target = λ h. h;
    })
    (one_quiet (line.nothing_waits l) Eof eof_quiet)
    (inr (first_true l.confirmed (not l.ended) t)))

closing_moves : (b : Bool) (l : ChannelParams) → l.confirmed ≡ true
    → Moves l (saying (cond b (Close ∷ []) [])
    (cond b None (Some (record l { ended = true; pending_close = true })))) 0
closing_moves true l sure = leaves l (Close ∷ []) sure close_quiet refl
closing_moves false l sure =
    quiet l (record l { ended = true; pending_close = true }) []
    (record {
      waiting = refl;
      credit = refl;
      room = refl;
      confirmed = refl;
      number = refl;
      target = λ h. h;
    }) nothing_said (inl refl)

pub closing_own : (l : ChannelParams) → Own l (closing l)
closing_own l =
    own_if (line.may_close l) l
    (saying (cond (line.nothing_waits l) (Close ∷ []) []) (line.closing l))
    (first_true l.confirmed (not l.pending_close))
    (λ t. closing_moves (line.nothing_waits l) l
    (first_true l.confirmed (not l.pending_close) t))

aimed_like : (target : ℕ) (l : ChannelParams) → target < 2 ^ 32 → IsLike l (aimed target l)
aimed_like target l small = record {
  waiting = refl;
  credit = refl;
  room = refl;
  confirmed = refl;
  number = refl;
  target = λ h. small;
}

pub aiming_own : (target : ℕ) (l : ChannelParams) → target < 2 ^ 32 → Own l (aiming target l)
aiming_own target l small = record {
  turn = λ m. alone_turn m l (aiming target l)
      (quiet l (aimed target l) [] (aimed_like target l small) nothing_said (inl refl));
  asked = λ denied. (aimed target l, refl, aimed_like target l small);
}
