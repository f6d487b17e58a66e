-- The numbers of the channels on which something waits.
use Rattle.std.proofs.Common.{◌≡◌, ◌==◌, ◌&&◌, ℕ, List, Bool, true, false, not, cond}
use Rattle.std.proofs.Common.{Option, Some, None, is_some, rules, refl, sym, ◌∙◌, ap, subst}
use Rattle.std.specs.List.{list_any}
use Rattle.std.specs.Ordering.{nat_cmp}
use Rattle.std.specs.BTreeMap.{is_at}
use Rattle.std.specs.Cmp.{unsigned_tied, nat_cmp_total, eq_by_cmp_equiv}
use Rattle.std.specs.List.Sorted.{IsStrictlySortedBy}
use Rattle.std.specs.Map.{lookup, set_value, remove_entry, keys_of}
use Rattle.std.proofs.lemmas.Map.{lookup-set_value, lookup-remove_entry}
use Rattle.std.proofs.lemmas.Map.Keys.{IsDistinct-from_sorted}
use Rattle.std.proofs.lemmas.Map.Steps.{set_value_same}
use Rattle.ssh_channels.specs.declared.params.ChannelParams.{ChannelParams}
use Rattle.ssh_channels.specs.Line.{something_waits}
use Rattle.ssh_channels.specs.Table.{is_one, AreWaiting}

abbrev pub is_member : ℕ → List ℕ → Bool
is_member n numbers = list_any (is_at (nat_cmp n)) numbers

abbrev pub line_in : ℕ → List (ℕ × ChannelParams) → Option ChannelParams
line_in n lines = lookup (is_at (nat_cmp n)) lines

pub same_number : (n q : ℕ) → is_at (nat_cmp n) q ≡ true → n ≡ q
same_number n q h = let k : (n == q) ≡ true = sym (unsigned_tied n q) ∙ h in search rules

one_number : (n x y : ℕ) → is_at (nat_cmp n) x ≡ true → is_at (nat_cmp n) y ≡ is_at (nat_cmp x) y
one_number n x y h = ap (λ k. is_at (nat_cmp k) y) (same_number n x h)

-- at this number that is noted, and the others stay
abbrev pub Notes : (n : ℕ) → (waits : Bool) → (numbers numbers' : List ℕ) → Type 0
Notes n waits numbers numbers' = (q : ℕ) → is_member q numbers'
    ≡ cond (is_at (nat_cmp n) q) waits (is_member q numbers)

-- the channel of this number is that one, or gone, and the others stay
abbrev pub Becomes : (n : ℕ) → Option ChannelParams → (lines lines' : List (ℕ × ChannelParams))
    → Type 0
Becomes n o lines lines' = (q : ℕ) → line_in q lines'
    ≡ cond (is_at (nat_cmp n) q) o (line_in q lines)

noted_at : (b waits m : Bool) (o p : Option ChannelParams) → m ≡ is_one something_waits p →
    waits ≡ is_one something_waits o → cond b waits m ≡ is_one something_waits (cond b o p)
noted_at true waits m o p h e = e
noted_at false waits m o p h e = h

pub noted : (n : ℕ) (numbers numbers' : List ℕ) (lines lines' : List (ℕ × ChannelParams))
    (waits : Bool) (o : Option ChannelParams) → Notes n waits numbers numbers' →
    Becomes n o lines lines' → waits ≡ is_one something_waits o → AreWaiting numbers lines →
    AreWaiting numbers' lines'
noted n numbers numbers' lines lines' waits o m k e a = λ q.
    m q ∙ noted_at (is_at (nat_cmp n) q) waits (is_member q numbers) o (line_in q lines) (a q) e
    ∙ ap (is_one something_waits) (sym (k q))

-- what stands in the numbers of a channel that is there
member_is : (n q : ℕ) (numbers : List ℕ) (lines : List (ℕ × ChannelParams)) (l : ChannelParams) →
    AreWaiting numbers lines → Some l ≡ line_in n lines → is_at (nat_cmp n) q ≡ true →
    is_member q numbers ≡ something_waits l
member_is n q numbers lines l a h t =
    ap (λ k. is_member k numbers) (sym (same_number n q t)) ∙ a n
    ∙ ap (is_one something_waits) (sym h)

kept_at : (b m w : Bool) → (b ≡ true → m ≡ w) → m ≡ cond b w m
kept_at true m w h = h refl
kept_at false m w h = refl

kept_note : (n : ℕ) (numbers : List ℕ) (lines : List (ℕ × ChannelParams)) (l : ChannelParams) →
    AreWaiting numbers lines → Some l ≡ line_in n lines →
    Notes n (something_waits l) numbers numbers
kept_note n numbers lines l a h = λ q. kept_at (is_at (nat_cmp n) q) (is_member q numbers)
    (something_waits l) (member_is n q numbers lines l a h)

still_at : (b waits m w : Bool) → (b ≡ true → m ≡ w) → (waits ≡ true → w ≡ true) →
    cond b (waits && m) m ≡ cond b waits m
still_at true true m w h s = h refl ∙ s refl
still_at true false m w h s = refl
still_at false waits m w h s = refl

-- a number that stays only where something waits still
abbrev pub Stays : (n : ℕ) → (waits : Bool) → (numbers numbers' : List ℕ) → Type 0
Stays n waits numbers numbers' = (q : ℕ) → is_member q numbers'
    ≡ cond (is_at (nat_cmp n) q) (waits && is_member q numbers) (is_member q numbers)

pub still_note : (n : ℕ) (numbers numbers' : List ℕ) (lines : List (ℕ × ChannelParams))
    (l : ChannelParams) (waits : Bool) → AreWaiting numbers lines → Some l ≡ line_in n lines →
    (waits ≡ true → something_waits l ≡ true) → Stays n waits numbers numbers' →
    Notes n waits numbers numbers'
still_note n numbers numbers' lines l waits a h s k = λ q.
    k q ∙ still_at (is_at (nat_cmp n) q) waits (is_member q numbers) (something_waits l)
    (member_is n q numbers lines l a h) s

pub set_line : (n : ℕ) (lines lines' : List (ℕ × ChannelParams)) (l l' : ChannelParams) →
    Some l ≡ line_in n lines → lines' ≡ set_value (is_at (nat_cmp n)) lines l' →
    Becomes n (Some l') lines lines'
set_line n lines lines' l l' h s = λ q.
    ap (line_in q) s
    ∙ lookup-set_value (eq_by_cmp_equiv nat_cmp_total) (is_at (nat_cmp n)) (one_number n) q l' lines
    (ap is_some (sym h))

pub gone_line : (n : ℕ) (lines lines' : List (ℕ × ChannelParams)) →
    IsStrictlySortedBy nat_cmp (keys_of lines) → lines' ≡ remove_entry (is_at (nat_cmp n)) lines →
    Becomes n None lines lines'
gone_line n lines lines' sorted s = λ q.
    ap (line_in q) s
    ∙ lookup-remove_entry (eq_by_cmp_equiv nat_cmp_total) (is_at (nat_cmp n)) (one_number n) q lines
    (IsDistinct-from_sorted nat_cmp (keys_of lines) sorted)

-- what was read goes back
pub same_waiting : (n : ℕ) (lines lines' : List (ℕ × ChannelParams)) (l : ChannelParams)
    (numbers : List ℕ) → Some l ≡ line_in n lines →
    lines' ≡ set_value (is_at (nat_cmp n)) lines l → AreWaiting numbers lines →
    AreWaiting numbers lines'
same_waiting n lines lines' l numbers h s a =
    subst (AreWaiting numbers) (sym (s ∙ set_value_same (is_at (nat_cmp n)) lines l (sym h))) a

-- another channel stands in its place, on which something waits just where it did
pub other_waiting : (n : ℕ) (lines lines' : List (ℕ × ChannelParams)) (l l' : ChannelParams)
    (numbers : List ℕ) → Some l ≡ line_in n lines →
    lines' ≡ set_value (is_at (nat_cmp n)) lines l' → AreWaiting numbers lines →
    something_waits l ≡ something_waits l' → AreWaiting numbers lines'
other_waiting n lines lines' l l' numbers h s a e =
    noted n numbers numbers lines lines' (something_waits l) (Some l')
    (kept_note n numbers lines l a h) (set_line n lines lines' l l' h s) e a

-- another channel stands in its place, and what waits on it is noted
pub put_waiting : (n : ℕ) (lines lines' : List (ℕ × ChannelParams)) (l l' : ChannelParams)
    (numbers numbers' : List ℕ) (waits : Bool) → Some l ≡ line_in n lines →
    lines' ≡ set_value (is_at (nat_cmp n)) lines l' → AreWaiting numbers lines →
    Notes n waits numbers numbers' → waits ≡ something_waits l' → AreWaiting numbers' lines'
put_waiting n lines lines' l l' numbers numbers' waits h s a m e =
    noted n numbers numbers' lines lines' waits (Some l') m (set_line n lines lines' l l' h s) e a

-- the channel left
pub gone_waiting : (n : ℕ) (lines lines' : List (ℕ × ChannelParams)) (numbers numbers' : List ℕ) →
    Becomes n None lines lines' → AreWaiting numbers lines → Notes n false numbers numbers' →
    AreWaiting numbers' lines'
gone_waiting n lines lines' numbers numbers' k a m =
    noted n numbers numbers' lines lines' false None m k refl a

-- one more came, on which nothing waits
none_at : (n q : ℕ) (numbers : List ℕ) (lines : List (ℕ × ChannelParams)) → AreWaiting numbers lines
    → line_in n lines ≡ None → is_at (nat_cmp n) q ≡ true → is_member q numbers ≡ false
none_at n q numbers lines a h t =
    ap (λ k. is_member k numbers) (sym (same_number n q t)) ∙ a n ∙ ap (is_one something_waits) h

pub came_waiting : (n : ℕ) (lines lines' : List (ℕ × ChannelParams)) (l : ChannelParams)
    (numbers : List ℕ) → line_in n lines ≡ None → Becomes n (Some l) lines lines' →
    AreWaiting numbers lines → something_waits l ≡ false → AreWaiting numbers lines'
came_waiting n lines lines' l numbers h k a e =
    noted n numbers numbers lines lines' false (Some l)
    (λ q. kept_at (is_at (nat_cmp n) q) (is_member q numbers) false
    (none_at n q numbers lines a h)) k (sym e) a

-- what waited goes on: something waits still, or the channel left
still_so : (w g : Bool) → g ≡ false → (w && not g) ≡ w
still_so true g h = ap not h
still_so false g h = refl

none_so : (w g : Bool) → g ≡ true → (w && not g) ≡ false
none_so true g h = ap not h
none_so false g h = refl

pub went_on : (n : ℕ) (lines lines' : List (ℕ × ChannelParams)) (l l' : ChannelParams)
    (numbers numbers' : List ℕ) (waits gone : Bool) → Some l ≡ line_in n lines →
    lines' ≡ set_value (is_at (nat_cmp n)) lines l' → AreWaiting numbers lines →
    waits ≡ something_waits l' && not gone →
    (something_waits l' ≡ true → something_waits l ≡ true) → gone ≡ false →
    Stays n waits numbers numbers' → AreWaiting numbers' lines'
went_on n lines lines' l l' numbers numbers' waits gone h s a e f u k =
    let w : waits ≡ something_waits l' = e ∙ still_so (something_waits l') gone u in
    put_waiting n lines lines' l l' numbers numbers' waits h s a
    (still_note n numbers numbers' lines l waits a h (λ t. f (sym w ∙ t)) k) w

pub went_away : (n : ℕ) (lines lines' : List (ℕ × ChannelParams)) (l' : ChannelParams)
    (numbers numbers' : List ℕ) (waits gone : Bool) → IsStrictlySortedBy nat_cmp (keys_of lines) →
    lines' ≡ remove_entry (is_at (nat_cmp n)) lines → AreWaiting numbers lines →
    waits ≡ something_waits l' && not gone → gone ≡ true → Stays n waits numbers numbers' →
    AreWaiting numbers' lines'
went_away n lines lines' l' numbers numbers' waits gone sorted s a e u k =
    let w : waits ≡ false = e ∙ none_so (something_waits l') gone u in
    gone_waiting n lines lines' numbers numbers' (gone_line n lines lines' sorted s) a
    (λ q. k q
    ∙ ap (λ b. cond (is_at (nat_cmp n) q) (b && is_member q numbers) (is_member q numbers)) w)

-- what was noted ahead is taken back
back_at : (b w waits m m' m'' : Bool) → (w ≡ true → waits ≡ true) → m' ≡ cond b waits m →
    m'' ≡ cond b (w && m') m' → m'' ≡ cond b w m
back_at true true waits m m' m'' s e f = f ∙ e ∙ s refl
back_at true false waits m m' m'' s e f = f
back_at false w waits m m' m'' s e f = f ∙ e

pub taken_back : (n : ℕ) (w waits : Bool) (numbers numbers' numbers'' : List ℕ) →
    (w ≡ true → waits ≡ true) → Notes n waits numbers numbers' → Stays n w numbers' numbers'' →
    Notes n w numbers numbers''
taken_back n w waits numbers numbers' numbers'' s e f = λ q.
    back_at (is_at (nat_cmp n) q) w waits (is_member q numbers) (is_member q numbers')
    (is_member q numbers'') s (e q) (f q)
