-- A channel of a table that is changed, removed or added, by its number.
use Rattle.std.proofs.Common.{◌≡◌, ◌≤◌, ◌<◌, ◌+◌, ◌==◌, ℕ, Bool, true, false, cond, List, [], ◌∷◌}
use Rattle.std.proofs.Common.{refl, sym, ◌∙◌, ap, subst, Option, Some, None, arith, rules, Greater}
use Rattle.std.proofs.Common.{nat_le}
use Rattle.std.specs.Ordering.{nat_cmp}
use Rattle.std.specs.Cmp.{nat_cmp_is, unsigned_tied}
use Rattle.std.specs.BTreeMap.{is_at, insert_entry}
use Rattle.std.specs.Map.{lookup, set_value, remove_entry}
use Rattle.ssh_channels.specs.declared.params.ChannelParams.{ChannelParams}
use Rattle.ssh_channels.specs.Line.{opening}
use Rattle.ssh_channels.specs.Table.{Table, line_at, put}
use Rattle.ssh_channels.proofs.Others.{set_other, gone_other, come_other}
use Rattle.ssh_ends.specs.Ends.{Rises}
use Rattle.ssh_ends.proofs.Sides.{same_number, one_number, apart, not_same}

abbrev Lines : Type 0
Lines = List (ℕ × ChannelParams)

abbrev pub find : ℕ → List (ℕ × ChannelParams) → Option ChannelParams
find n lines = lookup (is_at (nat_cmp n)) lines

is_number : (n m : ℕ) → is_at (nat_cmp n) m ≡ (n == m)
is_number n m = unsigned_tied n m

looks : (b : Bool) (n : ℕ) (x : ℕ × ChannelParams) (xs : Lines) → (n == x.0) ≡ b
    → find n (x ∷ xs) ≡ cond b (Some x.1) (find n xs)
looks b n x xs t = ap (λ c. cond c (Some x.1) (find n xs)) (is_number n x.0 ∙ t)

rises_less : (least less : ℕ) (xs : Lines) → less ≤ least → Rises least xs → Rises less xs
rises_less least less [] le h = tt
rises_less least less (x ∷ xs) le h = (omega (arith, h.0), h.1)

pub find_below : (n least : ℕ) (xs : List (ℕ × ChannelParams)) → Rises least xs → n < least
    → find n xs ≡ None
find_below n least [] h lt = refl
find_below n least (x ∷ xs) h lt =
    looks false n x xs (apart n x.0 (λ is. omega (arith, h.0)))
    ∙ find_below n (x.0 + 1) xs h.1 (omega (arith, h.0))

-- ---- changed

abbrev changed_to : (k : ℕ) → ChannelParams → Lines → Lines
changed_to k l xs = set_value (is_at (nat_cmp k)) xs l

changed_is : (k : ℕ) (l : ChannelParams) (x : ℕ × ChannelParams) (xs : Lines)
    → changed_to k l (x ∷ xs) ≡ cond (k == x.0) ((x.0, l) ∷ xs) (x ∷ changed_to k l xs)
changed_is k l x xs =
    ap (λ b. cond b ((x.0, l) ∷ xs) (x ∷ changed_to k l xs)) (is_number k x.0)

here_at : (b : Bool) (k : ℕ) (l v : ChannelParams) (x : ℕ × ChannelParams) (xs : Lines)
    → (k == x.0) ≡ b → find k (x ∷ xs) ≡ Some v
    → (find k xs ≡ Some v → find k (changed_to k l xs) ≡ Some l)
    → find k (cond b ((x.0, l) ∷ xs) (x ∷ changed_to k l xs)) ≡ Some l
here_at true k l v x xs t is next = looks true k (x.0, l) xs t
here_at false k l v x xs t is next =
    looks false k x (changed_to k l xs) t ∙ next (sym (looks false k x xs t) ∙ is)

pub changed_here : (k : ℕ) (l v : ChannelParams) (xs : List (ℕ × ChannelParams))
    → find k xs ≡ Some v → find k (set_value (is_at (nat_cmp k)) xs l) ≡ Some l
changed_here k l v [] is = absurd (let e : None ≡ Some v = is in cc)
changed_here k l v (x ∷ xs) is =
    ap (find k) (changed_is k l x xs)
    ∙ here_at (k == x.0) k l v x xs refl is (changed_here k l v xs)

pub changed_other : (n k : ℕ) (l : ChannelParams) (xs : List (ℕ × ChannelParams))
    → (n ≡ k → ⊥) → find n (set_value (is_at (nat_cmp k)) xs l) ≡ find n xs
changed_other n k l xs other = set_other n k l (apart n k other) xs

changed_rises_at : (b : Bool) (least k : ℕ) (l : ChannelParams) (x : ℕ × ChannelParams)
    (xs : Lines) → Rises least (x ∷ xs) → Rises (x.0 + 1) (changed_to k l xs)
    → Rises least (cond b ((x.0, l) ∷ xs) (x ∷ changed_to k l xs))
changed_rises_at true least k l x xs h next = (h.0, h.1)
changed_rises_at false least k l x xs h next = (h.0, next)

pub changed_rises : (least k : ℕ) (l : ChannelParams) (xs : List (ℕ × ChannelParams))
    → Rises least xs → Rises least (set_value (is_at (nat_cmp k)) xs l)
changed_rises least k l [] h = tt
changed_rises least k l (x ∷ xs) h =
    changed_rises_at (is_at (nat_cmp k) x.0) least k l x xs h (changed_rises (x.0 + 1) k l xs h.1)

-- ---- removed

abbrev removed_from : (k : ℕ) → Lines → Lines
removed_from k xs = remove_entry (is_at (nat_cmp k)) xs

removed_is : (k : ℕ) (x : ℕ × ChannelParams) (xs : Lines)
    → removed_from k (x ∷ xs) ≡ cond (k == x.0) xs (x ∷ removed_from k xs)
removed_is k x xs = ap (λ b. cond b xs (x ∷ removed_from k xs)) (is_number k x.0)

gone_at : (b : Bool) (least k : ℕ) (x : ℕ × ChannelParams) (xs : Lines) → (k == x.0) ≡ b
    → Rises least (x ∷ xs) → find k (removed_from k xs) ≡ None
    → find k (cond b xs (x ∷ removed_from k xs)) ≡ None
gone_at true least k x xs t h next =
    let same : k ≡ x.0 = one_number k x.0 t in find_below k (x.0 + 1) xs h.1 (omega arith)
gone_at false least k x xs t h next = looks false k x (removed_from k xs) t ∙ next

pub removed_here : (least k : ℕ) (xs : List (ℕ × ChannelParams)) → Rises least xs
    → find k (remove_entry (is_at (nat_cmp k)) xs) ≡ None
removed_here least k [] h = refl
removed_here least k (x ∷ xs) h =
    ap (find k) (removed_is k x xs)
    ∙ gone_at (k == x.0) least k x xs refl h (removed_here (x.0 + 1) k xs h.1)

pub removed_other : (n k : ℕ) (xs : List (ℕ × ChannelParams)) → (n ≡ k → ⊥)
    → find n (remove_entry (is_at (nat_cmp k)) xs) ≡ find n xs
removed_other n k xs other = gone_other n k (opening 0 0 0) (apart n k other) xs

removed_rises_at : (b : Bool) (least k : ℕ) (x : ℕ × ChannelParams) (xs : Lines)
    → Rises least (x ∷ xs) → Rises (x.0 + 1) (removed_from k xs)
    → Rises least (cond b xs (x ∷ removed_from k xs))
removed_rises_at true least k x xs h next =
    rises_less (x.0 + 1) least xs (omega (arith, h.0)) h.1
removed_rises_at false least k x xs h next = (h.0, next)

pub removed_rises : (least k : ℕ) (xs : List (ℕ × ChannelParams)) → Rises least xs
    → Rises least (remove_entry (is_at (nat_cmp k)) xs)
removed_rises least k [] h = tt
removed_rises least k (x ∷ xs) h =
    removed_rises_at (is_at (nat_cmp k) x.0) least k x xs h (removed_rises (x.0 + 1) k xs h.1)

-- ---- added, above all others

abbrev pub IsAbove : ℕ → List (ℕ × ChannelParams) → Type 0
IsAbove k [] = Unit {0}
IsAbove k (x ∷ xs) = (x.0 < k) × IsAbove k xs

above_first : (b : Bool) (k : ℕ) (x : ℕ × ChannelParams) (xs : Lines) → nat_le k x.0 ≡ b
    → ((n : ℕ) → k ≤ n → find n (x ∷ xs) ≡ None) → x.0 < k
above_first true k x xs t none =
    let le : k ≤ x.0 = search rules in
    let e : Some x.1 ≡ None = sym (looks true x.0 x xs (same_number x.0)) ∙ none x.0 le in
    absurd (cc)
above_first false k x xs t none = search rules

pub is_above : (k : ℕ) (xs : List (ℕ × ChannelParams)) → ((n : ℕ) → k ≤ n → find n xs ≡ None)
    → IsAbove k xs
is_above k [] none = tt
is_above k (x ∷ xs) none =
    let lt : x.0 < k = above_first (nat_le k x.0) k x xs refl none in (
      lt,
      is_above k xs (λ n le.
          sym (looks false n x xs (apart n x.0 (λ is. omega arith))) ∙ none n le),
    )

past : (k : ℕ) (l : ChannelParams) (x : ℕ × ChannelParams) (xs : Lines) → x.0 < k
    → insert_entry nat_cmp (x ∷ xs) k l ≡ x ∷ insert_entry nat_cmp xs k l
past k l x xs lt =
    let more : nat_cmp k x.0 ≡ Greater = sym (nat_cmp_is k x.0 Greater lt) in rw more refl

pub added_here : (k : ℕ) (l : ChannelParams) (xs : List (ℕ × ChannelParams)) → IsAbove k xs
    → find k (insert_entry nat_cmp xs k l) ≡ Some l
added_here k l [] h = looks true k (k, l) [] (same_number k)
added_here k l (x ∷ xs) h =
    let lt : x.0 < k = h.0 in
    ap (find k) (past k l x xs h.0)
    ∙ (looks false k x (insert_entry nat_cmp xs k l) (apart k x.0 (λ is. omega arith))
    ∙ added_here k l xs h.1)

pub added_other : (n k : ℕ) (l : ChannelParams) (xs : List (ℕ × ChannelParams))
    → (n ≡ k → ⊥) → find n (insert_entry nat_cmp xs k l) ≡ find n xs
added_other n k l xs other = come_other n k l (apart n k other) xs

pub added_rises : (least k : ℕ) (l : ChannelParams) (xs : List (ℕ × ChannelParams)) → least ≤ k
    → IsAbove k xs → Rises least xs → Rises least (insert_entry nat_cmp xs k l)
added_rises least k l [] le h r = (le, tt)
added_rises least k l (x ∷ xs) le h r =
    let lt : x.0 < k = h.0 in
    subst (Rises least) (sym (past k l x xs h.0))
    (r.0, added_rises (x.0 + 1) k l xs (omega arith) h.1 r.1)

-- ---- a channel of a table is now this one, or gone

put_at : (b : Bool) (o : Option ChannelParams) (n k : ℕ) (v : ChannelParams) (t : Table)
    → (n == k) ≡ b → Rises 0 t.lines → line_at k t ≡ Some v
    → line_at n (put k o t) ≡ cond b o (line_at n t)
put_at true None n k v t same r is =
    subst (λ m. line_at m (put k None t) ≡ None) (sym (one_number n k same))
    (removed_here 0 k t.lines r)
put_at true (Some l) n k v t same r is =
    subst (λ m. line_at m (put k (Some l) t) ≡ Some l) (sym (one_number n k same))
    (changed_here k l v t.lines is)
put_at false None n k v t same r is = removed_other n k t.lines (not_same n k same)
put_at false (Some l) n k v t same r is = changed_other n k l t.lines (not_same n k same)

pub put_finds : (o : Option ChannelParams) (n k : ℕ) (v : ChannelParams) (t : Table)
    → Rises 0 t.lines → line_at k t ≡ Some v
    → line_at n (put k o t) ≡ cond (n == k) o (line_at n t)
put_finds o n k v t r is = put_at (n == k) o n k v t refl r is

pub put_rises : (o : Option ChannelParams) (k : ℕ) (t : Table) → Rises 0 t.lines
    → Rises 0 (put k o t).lines
put_rises None k t r = removed_rises 0 k t.lines r
put_rises (Some l) k t r = changed_rises 0 k l t.lines r
