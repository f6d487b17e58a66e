-- The replies of a channel: all of them, and those that a table keeps.
use Rattle.std.proofs.Common.{◌≡◌, ◌<◌, ◌≤◌, ◌+◌, ◌-◌, ◌==◌, ◌&&◌, ℕ, zero, suc, Bool, true}
use Rattle.std.proofs.Common.{false, cond, Option, Some, None, List, [], ◌∷◌, ◌++◌, length, drop}
use Rattle.std.proofs.Common.{set, get_or, IfSome, IfNone}
use Rattle.std.proofs.Common.{rules, refl, sym, ◌∙◌, ap, subst, arith, length-append}
use Rattle.ssh_channels.specs.declared.replies.Reply.{Reply}
use Rattle.ssh_channels.specs.declared.replies.Reply.TheVariants.{Owed, Settled}
use Rattle.ssh_channels.specs.Replies.{is_called, calls_one, settling, ready, held, Wanted, one_more}
use Rattle.ssh_channels.specs.Replies.{first_place, owes, sent, settled, StandsAt}
use Rattle.ssh_channels.specs.Stands.{kept_of}

-- ---- all of them, and those that did not go out

longer : (rs : List Reply) (r : Reply) → length (rs ++ r ∷ []) ≡ length rs + 1
longer [] r = omega arith
longer (x ∷ rs) r = let h = longer rs r in omega (arith, h)

pub ready_more : (rs : List Reply) → ready (rs ++ Owed ∷ []) ≡ ready rs
ready_more [] = refl
ready_more (Owed ∷ rs) = refl
ready_more (Settled success ∷ rs) = ap (λ l. success ∷ l) (ready_more rs)

pub held_more : (rs : List Reply) → held (rs ++ Owed ∷ []) ≡ held rs ++ Owed ∷ []
held_more [] = refl
held_more (Owed ∷ rs) = refl
held_more (Settled success ∷ rs) = held_more rs

pub more_kept : (rs : List Reply) → one_more (kept_of rs) ≡ kept_of (rs ++ Owed ∷ [])
more_kept rs =
    ap (λ n. record { count = n; unsent = held rs ++ Owed ∷ [] }) (sym (longer rs Owed))
    ∙ ap (λ l. record { count = length (rs ++ Owed ∷ []); unsent = l }) (sym (held_more rs))

-- each is ready or held
parted : (rs : List Reply) → length (ready rs) + length (held rs) ≡ length rs
parted [] = omega arith
parted (Owed ∷ rs) = omega arith
parted (Settled success ∷ rs) = let h = parted rs in omega (arith, h)

module _ (place : Option ℕ) (success : Bool) where
  -- what is ready is never called, so a call may begin behind it
  no_more : (first : ℕ) → first ≡ first + 0
  no_more first = omega arith

  one_on : (first : ℕ) (rs : List Reply) → (first + 1) + length (ready rs)
      ≡ first + suc (length (ready rs))
  one_on first rs = omega arith

  ready_uncalled : (o : Option ℕ) (first : ℕ) (s : Bool) → is_called o first (Settled s) ≡ false
  ready_uncalled None first s = refl
  ready_uncalled (Some p) first s = refl

  called_held : (first : ℕ) (rs : List Reply) →
      calls_one place first rs ≡ calls_one place (first + length (ready rs)) (held rs)
  called_held first [] = refl
  called_held first (Owed ∷ rs) = ap (λ n. calls_one place n (Owed ∷ rs)) (no_more first)
  called_held first (Settled s ∷ rs) =
      rw (ready_uncalled place first s) (called_held (first + 1) rs
      ∙ ap (λ n. calls_one place n (held rs)) (one_on first rs))

  settling_held : (first : ℕ) (rs : List Reply) → held (settling place success first rs)
      ≡ held (settling place success (first + length (ready rs)) (held rs))
  settling_held first [] = refl
  settling_held first (Owed ∷ rs) =
      ap (λ n. held (settling place success n (Owed ∷ rs))) (no_more first)
  settling_held first (Settled s ∷ rs) =
      rw (ready_uncalled place first s) (settling_held (first + 1) rs
      ∙ ap (λ n. held (settling place success n (held rs))) (one_on first rs))

  settling_ready : (first : ℕ) (rs : List Reply) → ready (settling place success first rs)
      ≡ ready rs ++ ready (settling place success (first + length (ready rs)) (held rs))
  settling_ready first [] = refl
  settling_ready first (Owed ∷ rs) =
      ap (λ n. ready (settling place success n (Owed ∷ rs))) (no_more first)
  settling_ready first (Settled s ∷ rs) =
      rw (ready_uncalled place first s) (ap (λ l. s ∷ l) (settling_ready (first + 1) rs
      ∙ ap (λ n. ready rs ++ ready (settling place success n (held rs))) (one_on first rs)))

  as_long_at : (b : Bool) (r : Reply) (rs rs' : List Reply) → length rs' ≡ length rs →
      length (cond b (Settled success ∷ rs) (r ∷ rs')) ≡ length (r ∷ rs)
  as_long_at true r rs rs' h = refl
  as_long_at false r rs rs' h = ap suc h

  as_long : (first : ℕ) (rs : List Reply) → length (settling place success first rs) ≡ length rs
  as_long first [] = refl
  as_long first (r ∷ rs) =
      as_long_at (is_called place first r) r rs _ (as_long (first + 1) rs)

  behind : (rs : List Reply) → length rs - length (held rs) ≡ 0 + length (ready rs)
  behind rs = let h = parted rs in omega (arith, h)

  pub settled_kept : (rs : List Reply) →
      settled place success (kept_of rs) ≡ kept_of (settling place success 0 rs)
  settled_kept rs =
      ap (λ n. record {
        count = length rs;
        unsent = held (settling place success n (held rs));
      }) (behind rs)
      ∙ ap (λ l. record { count = length rs; unsent = l }) (sym (settling_held 0 rs))
      ∙ ap (λ n. record { count = n; unsent = held (settling place success 0 rs) })
      (sym (as_long 0 rs))

  dropped : (front back : List Bool) → drop (length front) (front ++ back) ≡ back
  dropped [] back = refl
  dropped (b ∷ front) back = dropped front back

  pub sent_kept : (rs : List Reply) → sent place success (kept_of rs)
      ≡ drop (length (ready rs)) (ready (settling place success 0 rs))
  sent_kept rs =
      ap (λ n. ready (settling place success n (held rs))) (behind rs)
      ∙ sym (dropped (ready rs) _)
      ∙ ap (drop (length (ready rs))) (sym (settling_ready 0 rs))

  -- what went out before is the start of what is ready now
  pub ready_on : (rs : List Reply) →
      ready rs ++ drop (length (ready rs)) (ready (settling place success 0 rs))
      ≡ ready (settling place success 0 rs)
  ready_on rs =
      ap (λ l. ready rs ++ drop (length (ready rs)) l) (settling_ready 0 rs)
      ∙ ap (λ l. ready rs ++ l) (dropped (ready rs) _)
      ∙ sym (settling_ready 0 rs)

  -- and as many as go out are held no longer
  pub held_out : (rs : List Reply) →
      length (drop (length (ready rs)) (ready (settling place success 0 rs)))
      + length (held (settling place success 0 rs)) ≡ length (held rs)
  held_out rs =
      let out = drop (length (ready rs)) (ready (settling place success 0 rs)) in
      let before = parted rs in
      let after = parted (settling place success 0 rs) in
      let long = as_long 0 rs in
      let both = length-append (ready rs) out in
      let whole = ap length (ready_on rs) in
      omega (arith, before, after, long, both, whole)

pub owed_kept : (place : Option ℕ) (rs : List Reply) →
    owes place (kept_of rs) ≡ calls_one place 0 rs
owed_kept place rs =
    ap (λ n. calls_one place n (held rs)) (behind place true rs)
    ∙ sym (called_held place true 0 rs)

-- ---- those that did not go out, the first of which is owed

-- one more at the end
pub more_fits : (rs rs' : List Reply) (count : ℕ) → rs' ≡ rs ++ Owed ∷ [] →
    (length rs ≤ count) × (ready rs ≡ []) → (length rs' ≤ count + 1) × (ready rs' ≡ [])
more_fits rs rs' count is h =
    let few = h.0 in
    let more : length rs' ≡ length rs + 1 = ap length is ∙ longer rs Owed in
    (omega (arith, few, more), ap ready is ∙ ready_more rs ∙ h.1)

-- those that are held when the others left
held_ready : (rs : List Reply) → ready (held rs) ≡ []
held_ready [] = refl
held_ready (Owed ∷ rs) = refl
held_ready (Settled success ∷ rs) = held_ready rs

held_fewer : (rs : List Reply) → length (held rs) ≤ length rs
held_fewer rs = let h = parted rs in omega (arith, h)

set_length : (rs : List Reply) (index : ℕ) (r : Reply) → length (set rs index r) ≡ length rs
set_length [] index r = refl
set_length (x ∷ rs) zero r = refl
set_length (x ∷ rs) (suc index) r = ap suc (set_length rs index r)

-- one is settled, and those that are ready leave
pub settled_fits : (rs rs' : List Reply) (count index : ℕ) (r : Reply) → rs' ≡ held (set rs index r)
    → (length rs ≤ count) × (ready rs ≡ []) → (length rs' ≤ count) × (ready rs' ≡ [])
settled_fits rs rs' count index r is h =
    let few = h.0 in
    let k : length rs' ≡ length (held (set rs index r)) = ap length is in
    let fewer = held_fewer (set rs index r) in
    let long = set_length rs index r in
    (omega (arith, few, k, fewer, long), ap ready is ∙ held_ready (set rs index r))

-- ---- the one that stands at an index

set_back : (rs : List Reply) (index : ℕ) (r : Reply) → get_or rs index Owed ≡ Owed →
    set (set rs index r) index Owed ≡ rs
set_back [] index r h = refl
set_back (x ∷ rs) zero r h = ap (λ y. y ∷ rs) (sym h)
set_back (x ∷ rs) (suc index) r h = ap (λ l. x ∷ l) (set_back rs index r h)

own_place : (first : ℕ) → (first + 0 == first) ≡ true
own_place first = let h : first + 0 ≡ first = omega arith in search rules

later_place : (first index : ℕ) → (first + suc index == first) ≡ false
later_place first index =
    let h : first + suc index ≡ first → ⊥ = λ e. omega (arith, e) in search rules

uncalled : (first place : ℕ) (r : Reply) → (place == first) ≡ false →
    is_called (Some place) first r ≡ false
uncalled first place Owed h = h
uncalled first place (Settled s) h = refl

-- by its place
called_here : (success : Bool) (first index : ℕ) (rs : List Reply) → index < length rs →
    get_or rs index Owed ≡ Owed →
    (calls_one (Some (first + index)) first rs ≡ true)
    × (settling (Some (first + index)) success first rs ≡ set rs index (Settled success))
called_here success first index [] l h = absurd (omega (arith, l))
called_here success first zero (Owed ∷ rs) l h =
    let t = own_place first in (rw t refl, rw t refl)
called_here success first zero (Settled s ∷ rs) l h = absurd (cc)
called_here success first (suc index) (r ∷ rs) l h =
    let t = uncalled first (first + suc index) r (later_place first index) in
    let less : index < length rs = omega (arith, l) in
    let n : (first + 1) + index ≡ first + suc index = omega arith in
    let k = called_here success (first + 1) index rs less h in (
      rw t (ap (λ p. calls_one (Some p) (first + 1) rs) (sym n) ∙ k.0),
      rw t (ap (λ l. r ∷ l) (ap (λ p. settling (Some p) success (first + 1) rs) (sym n) ∙ k.1)),
    )

-- one that went out is not called
pub none_before : (place first : ℕ) (rs : List Reply) → place < first →
    calls_one (Some place) first rs ≡ false
none_before place first [] h = refl
none_before place first (r ∷ rs) h =
    let differs : place ≡ first → ⊥ = λ e. omega (arith, e, h) in
    let k : (place == first) ≡ false = search rules in
    rw (uncalled first place r k) (none_before place (first + 1) rs (omega (arith, h)))

-- nor is one that is settled, or that does not stand there
none_here : (first index : ℕ) (rs : List Reply) (success : Bool) →
    get_or rs index (Settled success) ≡ Settled success →
    calls_one (Some (first + index)) first rs ≡ false
none_here first index [] success h = refl
none_here first zero (Owed ∷ rs) success h = absurd (cc)
none_here first zero (Settled s ∷ rs) success h =
    none_before (first + 0) (first + 1) rs (omega arith)
none_here first (suc index) (r ∷ rs) success h =
    let t = uncalled first (first + suc index) r (later_place first index) in
    let n : (first + 1) + index ≡ first + suc index = omega arith in
    rw t (ap (λ p. calls_one (Some p) (first + 1) rs) (sym n)
    ∙ none_here (first + 1) index rs success h)

-- without a place
called_first : (success : Bool) (first : ℕ) (rs : List Reply) → 0 < length rs →
    get_or rs 0 Owed ≡ Owed →
    (calls_one None first rs ≡ true)
    × (settling None success first rs ≡ set rs 0 (Settled success))
called_first success first [] l h = absurd (omega (arith, l))
called_first success first (Owed ∷ rs) l h = (refl, refl)
called_first success first (Settled s ∷ rs) l h = absurd (cc)

pub none_first : (first : ℕ) (rs : List Reply) (success : Bool) → ready rs ≡ [] →
    get_or rs 0 (Settled success) ≡ Settled success → calls_one None first rs ≡ false
none_first first [] success h k = refl
none_first first (Owed ∷ rs) success h k = absurd (cc)
none_first first (Settled s ∷ rs) success h k = absurd (cc)

pub stands_first : (w : Wanted) → 0 < length w.unsent → get_or w.unsent 0 Owed ≡ Owed →
    StandsAt None w 0
stands_first w l h = record {
  owed = (called_first true (first_place w) w.unsent l h).0;
  there = l;
  settles = λ success. (called_first success (first_place w) w.unsent l h).1;
  undone = λ success. set_back w.unsent 0 (Settled success) h;
}

pub stands_at : (w : Wanted) (place index : ℕ) → first_place w + index ≡ place →
    index < length w.unsent → get_or w.unsent index Owed ≡ Owed →
    StandsAt (Some place) w index
stands_at w place index is l h =
    subst (λ p. StandsAt (Some p) w index) is (record {
      owed = (called_here true (first_place w) index w.unsent l h).0;
      there = l;
      settles = λ success. (called_here success (first_place w) index w.unsent l h).1;
      undone = λ success. set_back w.unsent index (Settled success) h;
    })

pub stands_nowhere : (w : Wanted) (place index : ℕ) (success : Bool) → first_place w + index
    ≡ place → get_or w.unsent index (Settled success) ≡ Settled success →
    owes (Some place) w ≡ false
stands_nowhere w place index success is h =
    subst (λ p. owes (Some p) w ≡ false) is
    (none_here (first_place w) index w.unsent success h)

-- ---- what a search answers

pub some_so : (P Q : ℕ → Type 0) (o : Option ℕ) → ((i : ℕ) → P i → Q i) → IfSome o P → IfSome o Q
some_so P Q None f h = tt
some_so P Q (Some i) f h = f i h

pub none_so : (P Q : Type 0) (o : Option ℕ) → (P → Q) → IfNone o P → IfNone o Q
none_so P Q None f h = f h
none_so P Q (Some i) f h = tt
