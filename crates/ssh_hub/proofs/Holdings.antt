-- What a seat has reserved, after one change.
use Rattle.std.proofs.Common.{◌≡◌, ◌≢◌, ℕ, ◌+◌, ◌-◌, ◌≤◌, min, Bool, true, false, cond, eqb, eq-eqb, ne_eqb, ltb, ◌||◌, List, [], ◌∷◌, Option, Some, None, refl, ap, sym, ◌∙◌, arith}
use Rattle.std.proofs.lemmas.Bool.{eqb-true, ltb-true, ltb-false}
use Rattle.std.specs.declared.cmp.Ordering.{Ordering}
use Rattle.std.specs.declared.cmp.Ordering.TheVariants.{Less, Equal, Greater}
use Rattle.std.specs.Ordering.{nat_cmp, is_eq, match_ordering}
use Rattle.std.specs.BTreeMap.{is_at}
use Rattle.ssh_hub.specs.World.{Map, find, with_new, with_changed}
use Rattle.ssh_hub.specs.Lists.{data_channel}
use Rattle.ssh_hub.specs.Outcomes.{put_at}
use Rattle.ssh_hub.specs.Reserved.{bytes_on, is_on, reservation, with_more, with_less, lessened, less_at, FitsBeside, reserved_after, reserved_by, or_none}
use Rattle.ssh_hub.specs.Laws.{total_on}
use Rattle.ssh_hub.specs.declared.answers.Reserve.{Reserve}
use Rattle.ssh_hub.specs.declared.answers.Reserve.TheVariants.{Got, Empty, Gone, Ended}
use Rattle.ssh_hub.specs.declared.answers.Put.TheVariants.{Done as IsPut}
use Rattle.ssh_hub.specs.declared.history.HubCall.{HubCall}
use Rattle.ssh_hub.specs.declared.history.HubCall.TheVariants.{
  ReserveBytes,
  ReleaseBytes,
  PutCommand,
}
use Rattle.ssh_hub.specs.declared.history.HubReply.{HubReply}
use Rattle.ssh_hub.specs.declared.history.HubReply.TheVariants.{Reserved, WasPut}
use Rattle.ssh_hub.specs.declared.history.Entry.{Entry}
use Rattle.ssh_hub.specs.declared.reservations.Reservation.{Reservation}

-- no channel stands there twice
abbrev pub AreDistinct : List Reservation → Type 0
AreDistinct [] = Unit {0}
AreDistinct (r ∷ rs) = (is_on r.channel rs ≡ false) × AreDistinct rs

-- bytes of a channel that are more

more_head : (b : Bool) (c n : ℕ) (r : Reservation) (rs : List Reservation)
    → eqb r.channel c ≡ b → bytes_on c (with_more c n rs) ≡ bytes_on c rs + n
    → bytes_on c (cond b (reservation c (r.bytes + n) ∷ rs) (r ∷ with_more c n rs))
    ≡ cond b r.bytes (bytes_on c rs) + n
more_head true c n r rs is rec = ap (λ (b : Bool). cond b (r.bytes + n) (bytes_on c rs))
    (eq-eqb c c refl)
more_head false c n r rs is rec = ap (λ (b : Bool). cond b r.bytes (bytes_on c (with_more c n rs)))
    is ∙ rec

pub more_here : (c n : ℕ) (rs : List Reservation)
    → bytes_on c (with_more c n rs) ≡ bytes_on c rs + n
more_here c n [] = ap (λ (b : Bool). cond b n 0) (eq-eqb c c refl) ∙ omega arith
more_here c n (r ∷ rs) = more_head (eqb r.channel c) c n r rs refl (more_here c n rs)

else_head : (b : Bool) (d c n : ℕ) (r : Reservation) (rs : List Reservation) → d ≢ c
    → eqb r.channel d ≡ b → bytes_on c (with_more d n rs) ≡ bytes_on c rs
    → bytes_on c (cond b (reservation d (r.bytes + n) ∷ rs) (r ∷ with_more d n rs))
    ≡ bytes_on c (r ∷ rs)
else_head true d c n r rs ne is rec =
    let same : r.channel ≡ d = eqb-true r.channel d is in
    ap (λ (b : Bool). cond b (r.bytes + n) (bytes_on c rs)) (ne_eqb d c ne)
    ∙ sym (ap (λ (b : Bool). cond b r.bytes (bytes_on c rs))
    (ne_eqb r.channel c (λ e. ne (sym same ∙ e))))
else_head false d c n r rs ne is rec = ap (λ (m : ℕ). cond (eqb r.channel c) r.bytes m) rec

pub more_else : (d c n : ℕ) (rs : List Reservation) → d ≢ c
    → bytes_on c (with_more d n rs) ≡ bytes_on c rs
more_else d c n [] ne = ap (λ (b : Bool). cond b n 0) (ne_eqb d c ne)
more_else d c n (r ∷ rs) ne = else_head (eqb r.channel d) d c n r rs ne refl
    (more_else d c n rs ne)

-- bytes of a channel that are fewer

none_head : (b : Bool) (c : ℕ) (r : Reservation) (rs : List Reservation)
    → (b || is_on c rs) ≡ false → (is_on c rs ≡ false → bytes_on c rs ≡ 0)
    → cond b r.bytes (bytes_on c rs) ≡ 0
none_head true c r rs none rec = absurd (cc none)
none_head false c r rs none rec = rec none

pub none_on : (c : ℕ) (rs : List Reservation) → is_on c rs ≡ false → bytes_on c rs ≡ 0
none_on c [] none = refl
none_on c (r ∷ rs) none = none_head (eqb r.channel c) c r rs none (λ n. none_on c rs n)

-- what is left of one reservation, where no other is on its channel
lessened_here : (b : Bool) (c n : ℕ) (r : Reservation) (rs : List Reservation) → r.channel ≡ c
    → bytes_on c rs ≡ 0 → ltb n r.bytes ≡ b
    → bytes_on c (cond b (reservation r.channel (r.bytes - n) ∷ rs) rs) + min n r.bytes ≡ r.bytes
lessened_here true c n r rs same none is =
    let e : cond (eqb r.channel c) (r.bytes - n) (bytes_on c rs) ≡ r.bytes - n =
    ap (λ (b : Bool). cond b (r.bytes - n) (bytes_on c rs)) (eq-eqb r.channel c same) in
    let below = ltb-true n r.bytes is in omega arith
lessened_here false c n r rs same none is = let all = ltb-false n r.bytes is in omega arith

less_head : (b : Bool) (c n : ℕ) (r : Reservation) (rs : List Reservation) → eqb r.channel c ≡ b
    → is_on r.channel rs ≡ false
    → bytes_on c (with_less c n rs) + min n (bytes_on c rs) ≡ bytes_on c rs
    → bytes_on c (cond b (lessened n r rs) (r ∷ with_less c n rs))
    + min n (cond b r.bytes (bytes_on c rs)) ≡ cond b r.bytes (bytes_on c rs)
less_head true c n r rs is alone rec =
    let same : r.channel ≡ c = eqb-true r.channel c is in
    lessened_here (ltb n r.bytes) c n r rs same
    (none_on c rs (ap (λ (k : ℕ). is_on k rs) (sym same) ∙ alone)) refl
less_head false c n r rs is alone rec =
    let e : cond (eqb r.channel c) r.bytes (bytes_on c (with_less c n rs))
    ≡ bytes_on c (with_less c n rs) =
    ap (λ (b : Bool). cond b r.bytes (bytes_on c (with_less c n rs))) is in
    omega arith

pub less_here : (c n : ℕ) (rs : List Reservation) → AreDistinct rs
    → bytes_on c (with_less c n rs) + min n (bytes_on c rs) ≡ bytes_on c rs
less_here c n [] d = omega arith
less_here c n (r ∷ rs) d = less_head (eqb r.channel c) c n r rs refl d.0 (less_here c n rs d.1)

lessened_else : (b : Bool) (c n : ℕ) (r : Reservation) (rs : List Reservation) → r.channel ≢ c
    → bytes_on c (cond b (reservation r.channel (r.bytes - n) ∷ rs) rs) ≡ bytes_on c rs
lessened_else true c n r rs ne = ap (λ (b : Bool). cond b (r.bytes - n) (bytes_on c rs))
    (ne_eqb r.channel c ne)
lessened_else false c n r rs ne = refl

less_else_head : (b : Bool) (d c n : ℕ) (r : Reservation) (rs : List Reservation) → d ≢ c
    → eqb r.channel d ≡ b → bytes_on c (with_less d n rs) ≡ bytes_on c rs
    → bytes_on c (cond b (lessened n r rs) (r ∷ with_less d n rs)) ≡ bytes_on c (r ∷ rs)
less_else_head true d c n r rs ne is rec =
    let same : r.channel ≡ d = eqb-true r.channel d is in
    let other : r.channel ≢ c = λ e. ne (sym same ∙ e) in
    lessened_else (ltb n r.bytes) c n r rs other
    ∙ sym (ap (λ (b : Bool). cond b r.bytes (bytes_on c rs)) (ne_eqb r.channel c other))
less_else_head false d c n r rs ne is rec = ap (λ (m : ℕ). cond (eqb r.channel c) r.bytes m) rec

pub less_else : (d c n : ℕ) (rs : List Reservation) → d ≢ c
    → bytes_on c (with_less d n rs) ≡ bytes_on c rs
less_else d c n [] ne = refl
less_else d c n (r ∷ rs) ne = less_else_head (eqb r.channel d) d c n r rs ne refl
    (less_else d c n rs ne)

-- no channel comes to stand there twice

more_on_head : (b : Bool) (d c n : ℕ) (r : Reservation) (rs : List Reservation) → d ≢ c
    → eqb r.channel d ≡ b → is_on c (with_more d n rs) ≡ is_on c rs
    → is_on c (cond b (reservation d (r.bytes + n) ∷ rs) (r ∷ with_more d n rs))
    ≡ is_on c (r ∷ rs)
more_on_head true d c n r rs ne is rec =
    let same : r.channel ≡ d = eqb-true r.channel d is in
    ap (λ (k : ℕ). eqb k c || is_on c rs) (sym same)
more_on_head false d c n r rs ne is rec = ap (λ (x : Bool). eqb r.channel c || x) rec

more_on : (d c n : ℕ) (rs : List Reservation) → d ≢ c
    → is_on c (with_more d n rs) ≡ is_on c rs
more_on d c n [] ne = ap (λ (b : Bool). b || false) (ne_eqb d c ne)
more_on d c n (r ∷ rs) ne = more_on_head (eqb r.channel d) d c n r rs ne refl (more_on d c n rs ne)

more_distinct_head : (b : Bool) (c n : ℕ) (r : Reservation) (rs : List Reservation)
    → eqb r.channel c ≡ b → is_on r.channel rs ≡ false → AreDistinct rs
    → AreDistinct (with_more c n rs)
    → AreDistinct (cond b (reservation c (r.bytes + n) ∷ rs) (r ∷ with_more c n rs))
more_distinct_head true c n r rs is alone d rec =
    let same : r.channel ≡ c = eqb-true r.channel c is in
    (ap (λ (k : ℕ). is_on k rs) (sym same) ∙ alone, d)
more_distinct_head false c n r rs is alone d rec =
    let ne : c ≢ r.channel = λ e. absurd (cc (sym is ∙ eq-eqb r.channel c (sym e))) in
    (more_on c r.channel n rs ne ∙ alone, rec)

more_distinct : (c n : ℕ) (rs : List Reservation) → AreDistinct rs → AreDistinct (with_more c n rs)
more_distinct c n [] d = (refl, tt)
more_distinct c n (r ∷ rs) d = more_distinct_head (eqb r.channel c) c n r rs refl d.0 d.1
    (more_distinct c n rs d.1)

or_false : (b : Bool) → (b || false) ≡ b
or_false true = refl
or_false false = refl

lessened_on : (b : Bool) (c n : ℕ) (r : Reservation) (rs : List Reservation)
    → (eqb r.channel c || is_on c rs) ≡ false
    → is_on c (cond b (reservation r.channel (r.bytes - n) ∷ rs) rs) ≡ false
lessened_on true c n r rs none = none
lessened_on false c n r rs none = or_right (eqb r.channel c) (is_on c rs) none
  where
    or_right : (x y : Bool) → (x || y) ≡ false → y ≡ false
    or_right true y e = absurd (cc e)
    or_right false y e = e

less_on_head : (b : Bool) (d c n : ℕ) (r : Reservation) (rs : List Reservation)
    → (eqb r.channel c || is_on c rs) ≡ false
    → (is_on c rs ≡ false → is_on c (with_less d n rs) ≡ false)
    → is_on c (cond b (lessened n r rs) (r ∷ with_less d n rs)) ≡ false
less_on_head true d c n r rs none rec = lessened_on (ltb n r.bytes) c n r rs none
less_on_head false d c n r rs none rec = both (eqb r.channel c) none rec
  where
    both : (b : Bool) → (b || is_on c rs) ≡ false
        → (is_on c rs ≡ false → is_on c (with_less d n rs) ≡ false)
        → (b || is_on c (with_less d n rs)) ≡ false
    both true e rec = absurd (cc e)
    both false e rec = rec e

less_on : (d c n : ℕ) (rs : List Reservation) → is_on c rs ≡ false
    → is_on c (with_less d n rs) ≡ false
less_on d c n [] none = refl
less_on d c n (r ∷ rs) none = less_on_head (eqb r.channel d) d c n r rs none
    (λ e. less_on d c n rs e)

lessened_distinct : (b : Bool) (n : ℕ) (r : Reservation) (rs : List Reservation)
    → is_on r.channel rs ≡ false → AreDistinct rs
    → AreDistinct (cond b (reservation r.channel (r.bytes - n) ∷ rs) rs)
lessened_distinct true n r rs alone d = (alone, d)
lessened_distinct false n r rs alone d = d

less_distinct_head : (b : Bool) (c n : ℕ) (r : Reservation) (rs : List Reservation)
    → is_on r.channel rs ≡ false → AreDistinct rs → AreDistinct (with_less c n rs)
    → AreDistinct (cond b (lessened n r rs) (r ∷ with_less c n rs))
less_distinct_head true c n r rs alone d rec = lessened_distinct (ltb n r.bytes) n r rs alone d
less_distinct_head false c n r rs alone d rec = (less_on c r.channel n rs alone, rec)

less_distinct : (c n : ℕ) (rs : List Reservation) → AreDistinct rs → AreDistinct (with_less c n rs)
less_distinct c n [] d = tt
less_distinct c n (r ∷ rs) d = less_distinct_head (eqb r.channel c) c n r rs d.0 d.1
    (less_distinct c n rs d.1)

less_at_distinct : (x : Option ℕ) (n : ℕ) (rs : List Reservation) → AreDistinct rs
    → AreDistinct (less_at x n rs)
less_at_distinct None n rs d = d
less_at_distinct (Some c) n rs d = less_distinct c n rs d

-- so it is after each call
pub after_distinct : (c : HubCall) (r : HubReply) (rs : List Reservation) → AreDistinct rs
    → AreDistinct (reserved_after c r rs)
after_distinct (ReserveBytes c want) (Reserved (Got n)) rs d = more_distinct c.0 n rs d
after_distinct (ReleaseBytes c amount) r rs d = less_distinct c.0 amount rs d
after_distinct (PutCommand m spend wanted) (WasPut (IsPut t)) rs d =
    less_at_distinct (data_channel m) spend rs d
after_distinct c r rs d = d

pub own_distinct : (es : List Entry) (rs : List Reservation) → AreDistinct rs
    → AreDistinct (reserved_by es rs)
own_distinct [] rs d = d
own_distinct (e ∷ es) rs d = own_distinct es (reserved_after e.call e.reply rs)
    (after_distinct e.call e.reply rs d)

-- what all seats have, where one seat has other bytes than before

changed_head : (b : Bool) (k c : ℕ) (e : ℕ × List Reservation) (es : Map (List Reservation))
    (v w : List Reservation) → cond b (Some e.1) (find k es) ≡ Some v
    → (find k es ≡ Some v
    → total_on c (with_changed es k w) + bytes_on c v ≡ total_on c es + bytes_on c w)
    → total_on c (cond b ((e.0, w) ∷ es) (e ∷ with_changed es k w)) + bytes_on c v
    ≡ total_on c (e ∷ es) + bytes_on c w
changed_head true k c e es v w is rec =
    let same : bytes_on c e.1 ≡ bytes_on c v = ap (bytes_on c) (some_same e.1 v is) in omega arith
  where
    some_same : (x y : List Reservation) → Some x ≡ Some y → x ≡ y
    some_same x y e = cc e
changed_head false k c e es v w is rec = let r = rec is in omega arith

changed_total : (k c : ℕ) (es : Map (List Reservation)) (v w : List Reservation)
    → find k es ≡ Some v
    → total_on c (with_changed es k w) + bytes_on c v ≡ total_on c es + bytes_on c w
changed_total k c [] v w is = absurd (cc is)
changed_total k c (e ∷ es) v w is = changed_head (is_at (nat_cmp k) e.0) k c e es v w is
    (λ r. changed_total k c es v w r)

new_head : (o : Ordering) (k c : ℕ) (e : ℕ × List Reservation) (es : Map (List Reservation))
    (v : List Reservation) → cond (is_eq o) (Some e.1) (find k es) ≡ None
    → (find k es ≡ None → total_on c (with_new es k v) ≡ total_on c es + bytes_on c v)
    → total_on c (match_ordering o ((k, v) ∷ e ∷ es) ((e.0, v) ∷ es) (e ∷ with_new es k v))
    ≡ total_on c (e ∷ es) + bytes_on c v
new_head Less k c e es v none rec = omega arith
new_head Equal k c e es v none rec = absurd (cc none)
new_head Greater k c e es v none rec = let r = rec none in omega arith

new_total : (k c : ℕ) (es : Map (List Reservation)) (v : List Reservation) → find k es ≡ None
    → total_on c (with_new es k v) ≡ total_on c es + bytes_on c v
new_total k c [] v none = omega arith
new_total k c (e ∷ es) v none = new_head (nat_cmp k e.0) k c e es v none
    (λ n. new_total k c es v n)

pub put_total : (k c : ℕ) (es : Map (List Reservation)) (v : List Reservation)
    (o : Option (List Reservation)) → find k es ≡ o
    → total_on c (put_at es k v o) + bytes_on c (or_none o) ≡ total_on c es + bytes_on c v
put_total k c es v None is = let n = new_total k c es v is in omega arith
put_total k c es v (Some x) is = changed_total k c es x v is

found_head : (b : Bool) (k c : ℕ) (e : ℕ × List Reservation) (es : Map (List Reservation))
    (v : List Reservation) → cond b (Some e.1) (find k es) ≡ Some v
    → (find k es ≡ Some v → bytes_on c v ≤ total_on c es)
    → bytes_on c v ≤ total_on c (e ∷ es)
found_head true k c e es v is rec =
    let same : bytes_on c e.1 ≡ bytes_on c v = ap (bytes_on c) (some_same e.1 v is) in omega arith
  where
    some_same : (x y : List Reservation) → Some x ≡ Some y → x ≡ y
    some_same x y e = cc e
found_head false k c e es v is rec = let r = rec is in omega arith

found_below : (k c : ℕ) (es : Map (List Reservation)) (v : List Reservation) → find k es ≡ Some v
    → bytes_on c v ≤ total_on c es
found_below k c [] v is = absurd (cc is)
found_below k c (e ∷ es) v is = found_head (is_at (nat_cmp k) e.0) k c e es v is
    (λ r. found_below k c es v r)

-- one seat has no more than all of them together
pub one_of_all : (k c : ℕ) (es : Map (List Reservation)) (o : Option (List Reservation))
    → find k es ≡ o → bytes_on c (or_none o) ≤ total_on c es
one_of_all k c es None is = omega arith
one_of_all k c es (Some x) is = found_below k c es x is

pub fits_beside_fewer : (m n : ℕ) (r : Reserve) → m ≤ n → FitsBeside n r → FitsBeside m r
fits_beside_fewer m n (Got got) most fits = omega arith
fits_beside_fewer m n Empty most fits = tt
fits_beside_fewer m n Gone most fits = tt
fits_beside_fewer m n (Ended at) most fits = tt
