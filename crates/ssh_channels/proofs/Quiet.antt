-- Channels on which nothing waits stay as they are when all are flushed.
use Rattle.std.proofs.Common.{◌≡◌, ◌+◌, ◌==◌, ◌&&◌, ◌||◌, ℕ, suc, List, [], ◌∷◌, ◌++◌, length}
use Rattle.std.proofs.Common.{map, take, Bool, true, false, not, cond, Option, Some, None, is_some}
use Rattle.std.proofs.Common.{refl, sym, ◌∙◌, ap}
use Rattle.std.specs.List.{filter, list_any}
use Rattle.std.specs.Ordering.{nat_cmp}
use Rattle.std.specs.BTreeMap.{is_at}
use Rattle.std.specs.List.Sorted.{IsStrictlySortedBy}
use Rattle.std.specs.Map.{lookup, set_value, remove_entry, keys_of}
use Rattle.std.proofs.lemmas.List.{append-nil}
use Rattle.std.proofs.lemmas.List.Kept.{IsStrictlySortedBy-filter}
use Rattle.std.proofs.lemmas.Map.Steps.{set_value_same}
use Rattle.std.proofs.lemmas.Map.Views.{any-filter_same}
use Rattle.ssh_link.specs.Frames.{Frame}
use Rattle.ssh_channels.specs.declared.params.ChannelParams.{ChannelParams}
use Rattle.ssh_channels.specs.declared.chunk.Chunk.{Chunk}
use Rattle.ssh_channels.specs.Layout.{data_frame, eof_frame, close_frame}
use Rattle.ssh_channels.specs.Cut.{piece_limit, cut, left_of, credit_left}
use Rattle.ssh_channels.specs.Line as line
use Rattle.ssh_channels.specs.Line.{something_waits, settled, goes, stays}
use Rattle.ssh_channels.specs.Table.{Table, line_at, put, write, act_on, is_one, AreWaiting}
use Rattle.ssh_channels.specs.Calls.{flush_each, flush_line}
use Rattle.ssh_channels.specs.Paths.{IsPart}
use Rattle.ssh_channels.proofs.Lines.{stays_so}
use Rattle.ssh_channels.proofs.Waits.{none_of, no_data, and_less}
use Rattle.ssh_channels.proofs.Noting.{is_member, line_in, same_number}
use Rattle.ssh_channels.proofs.Ascending.{at_itself, never_both, same_ascending}

-- nothing goes out on such a channel, and it is as it was
module _ (n : ℕ) (l : ChannelParams) (q : something_waits l ≡ false) where
  empty : l.waiting ≡ []
  empty = no_data l.waiting (none_of (line.data_waits l) l.pending_eof l.pending_close q).0

  no_eof : l.pending_eof ≡ false
  no_eof = (none_of (line.data_waits l) l.pending_eof l.pending_close q).1

  no_close : l.pending_close ≡ false
  no_close = (none_of (line.data_waits l) l.pending_eof l.pending_close q).2

  settled_same : settled l ≡ l
  settled_same =
      ap (λ (w : List Chunk). record l {
        recipient_window_size = credit_left l.recipient_window_size w;
        waiting = left_of l.recipient_window_size w;
        pending_eof = l.pending_eof && not (length (left_of l.recipient_window_size w) == 0);
      }) empty
      ∙ ap (λ b. record l { waiting = []; pending_eof = b })
      (and_less l.pending_eof (not (length {A = Chunk} [] == 0)) no_eof ∙ sym no_eof)
      ∙ ap (λ (w : List Chunk). record l { waiting = w }) (sym empty)

  second_none : (a b : Bool) → b ≡ false → (a && b) ≡ false
  second_none true b h = h
  second_none false b h = refl

  stays_same : stays l ≡ Some l
  stays_same =
      stays_so l l (second_none (line.nothing_waits (line.flushed l)) l.pending_close no_close)
      (sym settled_same)

  none_deferred : (done e c : Bool) (fs gs : List Frame) → e ≡ false → c ≡ false →
      cond done (cond e fs [] ++ cond c gs []) [] ≡ []
  none_deferred true e c fs gs h k = rw (h, k) refl
  none_deferred false e c fs gs h k = refl

  goes_none : goes n l ≡ []
  goes_none =
      ap (λ w. map (data_frame n l.recipient_channel)
      (cut (piece_limit l.recipient_maximum_packet_size) l.recipient_window_size w)
      ++ line.deferred_if n (line.nothing_waits (line.flushed l)) l) empty
      ∙ none_deferred (line.nothing_waits (line.flushed l)) l.pending_eof l.pending_close
      (eof_frame n l.recipient_channel ∷ []) (close_frame n l.recipient_channel ∷ []) no_eof
      no_close

quiet_at : (n : ℕ) (t : Table) (o : Option ChannelParams) → o ≡ line_at n t →
    is_one something_waits o ≡ false → act_on (λ l. true) (goes n) stays n o t ≡ t
quiet_at n t None h q = refl
quiet_at n t (Some l) h q =
    ap (λ fs. write fs (put n (stays l) t)) (goes_none n l q)
    ∙ ap (λ o. write [] (put n o t)) (stays_same n l q)
    ∙ ap (λ ls. record t { lines = ls; staged = t.staged ++ [] })
    (set_value_same (is_at (nat_cmp n)) t.lines l (sym h))
    ∙ ap (λ s. record t { staged = s }) (append-nil t.staged)

pub quiet_flush : (n : ℕ) (t : Table) → is_one something_waits (line_at n t) ≡ false →
    flush_line n t ≡ t
quiet_flush n t q = quiet_at n t (line_at n t) refl q

-- a call on one channel leaves the others
module _ (p q : ℕ → Bool) (apart : (x : ℕ) → p x ≡ true → q x ≡ false) where
  set_other_at : (b : Bool) (e : ℕ × ChannelParams) (es : List (ℕ × ChannelParams))
      (w : ChannelParams) → p e.0 ≡ b → lookup q (set_value p es w) ≡ lookup q es →
      lookup q (set_value p (e ∷ es) w) ≡ lookup q (e ∷ es)
  set_other_at true e es w t r = let u = apart e.0 t in rw (t, u) refl
  set_other_at false e es w t r = rw t (ap (λ o. cond (q e.0) (Some e.1) o) r)

  set_other : (es : List (ℕ × ChannelParams)) (w : ChannelParams) →
      lookup q (set_value p es w) ≡ lookup q es
  set_other [] w = refl
  set_other (e ∷ es) w = set_other_at (p e.0) e es w refl (set_other es w)

  remove_other_at : (b : Bool) (e : ℕ × ChannelParams) (es : List (ℕ × ChannelParams)) →
      p e.0 ≡ b → lookup q (remove_entry p es) ≡ lookup q es →
      lookup q (remove_entry p (e ∷ es)) ≡ lookup q (e ∷ es)
  remove_other_at true e es t r = let u = apart e.0 t in rw (t, u) refl
  remove_other_at false e es t r = rw t (ap (λ o. cond (q e.0) (Some e.1) o) r)

  remove_other : (es : List (ℕ × ChannelParams)) → lookup q (remove_entry p es) ≡ lookup q es
  remove_other [] = refl
  remove_other (e ∷ es) = remove_other_at (p e.0) e es refl (remove_other es)

both_ways_at : (b : Bool) (n k : ℕ) → is_at (nat_cmp n) k ≡ b → is_at (nat_cmp k) n ≡ false →
    is_at (nat_cmp n) k ≡ false
both_ways_at true n k t h =
    let e : n ≡ k = same_number n k t in
    absurd (never_both (is_at (nat_cmp k) n) h
    (ap (λ m. is_at (nat_cmp m) n) (sym e) ∙ at_itself n))
both_ways_at false n k t h = t

lies_apart : (n k : ℕ) → is_at (nat_cmp k) n ≡ false → (x : ℕ) → is_at (nat_cmp k) x ≡ true →
    is_at (nat_cmp n) x ≡ false
lies_apart n k h x t =
    ap (is_at (nat_cmp n)) (sym (same_number k x t))
    ∙ both_ways_at (is_at (nat_cmp n) k) n k refl h

put_other : (n k : ℕ) (t : Table) (o : Option ChannelParams) (fs : List Frame) →
    is_at (nat_cmp k) n ≡ false → line_at n (write fs (put k o t)) ≡ line_at n t
put_other n k t None fs h =
    remove_other (is_at (nat_cmp k)) (is_at (nat_cmp n)) (lies_apart n k h) t.lines
put_other n k t (Some l) fs h =
    set_other (is_at (nat_cmp k)) (is_at (nat_cmp n)) (lies_apart n k h) t.lines l

flush_other_at : (n k : ℕ) (t : Table) (o : Option ChannelParams) → is_at (nat_cmp k) n ≡ false →
    line_at n (act_on (λ l. true) (goes k) stays k o t) ≡ line_at n t
flush_other_at n k t None h = refl
flush_other_at n k t (Some l) h = put_other n k t (stays l) (goes k l) h

flush_other : (n k : ℕ) (t : Table) → is_at (nat_cmp k) n ≡ false →
    line_at n (flush_line k t) ≡ line_at n t
flush_other n k t h = flush_other_at n k t (line_at k t) h

-- something waits on no other channel than these
abbrev pub AreQuiet : (ℕ → Bool) → Table → Type 0
AreQuiet waits t = (n : ℕ) → waits n ≡ false → is_one something_waits (line_at n t) ≡ false

differ_at : (b : Bool) (waits : ℕ → Bool) (n k : ℕ) → is_at (nat_cmp k) n ≡ b → waits n ≡ false →
    waits k ≡ true → is_at (nat_cmp k) n ≡ false
differ_at true waits n k t f u =
    absurd (never_both (waits k) (ap waits (same_number k n t) ∙ f) u)
differ_at false waits n k t f u = t

still_quiet : (waits : ℕ → Bool) (k : ℕ) (t : Table) → waits k ≡ true → AreQuiet waits t →
    AreQuiet waits (flush_line k t)
still_quiet waits k t u a = λ n f.
    ap (is_one something_waits)
    (flush_other n k t (differ_at (is_at (nat_cmp k) n) waits n k refl f u)) ∙ a n f

picked_at : (b : Bool) (waits : ℕ → Bool) (n : ℕ) (ns : List ℕ) (t : Table) → waits n ≡ b →
    AreQuiet waits t →
    ((t' : Table) → AreQuiet waits t' → flush_each ns t' ≡ flush_each (filter waits ns) t') →
    flush_each ns (flush_line n t)
    ≡ flush_each (cond b (n ∷ filter waits ns) (filter waits ns)) t
picked_at true waits n ns t u a r = r (flush_line n t) (still_quiet waits n t u a)
picked_at false waits n ns t u a r = ap (flush_each ns) (quiet_flush n t (a n u)) ∙ r t a

-- so those need not be flushed
pub flush_picked : (waits : ℕ → Bool) (ns : List ℕ) (t : Table) → AreQuiet waits t →
    flush_each ns t ≡ flush_each (filter waits ns) t
flush_picked waits [] t a = refl
flush_picked waits (n ∷ ns) t a =
    picked_at (waits n) waits n ns t refl a (λ t' a'. flush_picked waits ns t' a')

-- the first few of these channels are the first few of all, but for those that stay as they are
abbrev IsFew : (keys done : List ℕ) → Table → Type 0
IsFew keys done t = (count : ℕ) × (flush_each done t ≡ flush_each (take count keys) t)

few_at : (b : Bool) (waits : ℕ → Bool) (k d : ℕ) (ks ds rest : List ℕ) (t : Table) →
    waits k ≡ b → AreQuiet waits t →
    cond b (k ∷ filter waits ks) (filter waits ks) ≡ d ∷ (ds ++ rest) →
    ((done' : List ℕ) (t' : Table) → AreQuiet waits t' → filter waits ks ≡ done' ++ rest →
    IsFew ks done' t') → IsFew (k ∷ ks) (d ∷ ds) t
few_at true waits k d ks ds rest t u a e r =
    let h : k ≡ d = cc in
    let i : filter waits ks ≡ ds ++ rest = cc in
    let f = r ds (flush_line k t) (still_quiet waits k t u a) i in (
      suc f.0,
      ap (λ m. flush_each ds (flush_line m t)) (sym h) ∙ f.1,
    )
few_at false waits k d ks ds rest t u a e r =
    let f = r (d ∷ ds) t a e in (
      suc f.0,
      f.1 ∙ ap (flush_each (take f.0 ks)) (sym (quiet_flush k t (a k u))),
    )

pub few : (waits : ℕ → Bool) (keys done rest : List ℕ) (t : Table) → AreQuiet waits t →
    filter waits keys ≡ done ++ rest → IsFew keys done t
few waits keys [] rest t a e = (0, refl)
few waits [] (d ∷ ds) rest t a e = absurd (cc)
few waits (k ∷ ks) (d ∷ ds) rest t a e =
    few_at (waits k) waits k d ks ds rest t refl a e
    (λ done' t' a' e'. few waits ks done' rest t' a' e')

-- these are the channels of a table on which something waits, in ascending order
abbrev pub Picks : Table → List ℕ → Type 0
Picks t ns = (waits : ℕ → Bool) × AreQuiet waits t × (filter waits (keys_of t.lines) ≡ ns)

pub picked_all : (t : Table) (ns : List ℕ) → Picks t ns →
    flush_each ns t ≡ flush_each (keys_of t.lines) t
picked_all t ns (waits, a, e) =
    sym (flush_picked waits (keys_of t.lines) t a ∙ ap (λ ks. flush_each ks t) e)

pub picked_part : (t t' : Table) (done rest : List ℕ) → Picks t (done ++ rest) →
    t' ≡ flush_each done t → IsPart t t'
picked_part t t' done rest (waits, a, e) h =
    let f = few waits (keys_of t.lines) done rest t a e in (f.0, h ∙ f.1)

-- the numbers that a table keeps are these
live_at : (b : Bool) (test : ℕ → Bool) (e : ℕ × ChannelParams) (es : List (ℕ × ChannelParams)) →
    is_some (lookup test es) ≡ list_any test (keys_of es) →
    is_some (cond b (Some e.1) (lookup test es)) ≡ (b || list_any test (keys_of es))
live_at true test e es r = refl
live_at false test e es r = r

live_member : (test : ℕ → Bool) (es : List (ℕ × ChannelParams)) →
    is_some (lookup test es) ≡ list_any test (keys_of es)
live_member test [] = refl
live_member test (e ∷ es) = live_at (test e.0) test e es (live_member test es)

live_so : (o : Option ChannelParams) → is_one something_waits o ≡ true → is_some o ≡ true
live_so None h = absurd (cc)
live_so (Some l) h = refl

and_same : (a b : Bool) → (a ≡ true → b ≡ true) → (a && b) ≡ a
and_same true b f = f refl
and_same false b f = refl

pub picks : (numbers : List ℕ) (t : Table) → AreWaiting numbers t.lines →
    IsStrictlySortedBy nat_cmp numbers → IsStrictlySortedBy nat_cmp (keys_of t.lines) →
    Picks t numbers
picks numbers t a s s' =
    let waits : ℕ → Bool = λ n. is_member n numbers in (
      waits,
      λ n f. sym (a n) ∙ f,
      same_ascending (filter waits (keys_of t.lines)) numbers
          (IsStrictlySortedBy-filter nat_cmp waits (keys_of t.lines) s') s
          (λ q. any-filter_same (is_at (nat_cmp q)) waits (waits q)
          (λ k h. ap waits (sym (same_number q k h))) (keys_of t.lines)
          ∙ and_same (waits q) (is_member q (keys_of t.lines))
          (λ h. sym (live_member (is_at (nat_cmp q)) t.lines)
          ∙ live_so (line_in q t.lines) (sym (a q) ∙ h))),
    )
