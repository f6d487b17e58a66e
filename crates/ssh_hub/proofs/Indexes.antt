-- Where a reservation stands in a seat's memory, and what changes there.
use Rattle.std.proofs.Common.{
  ◌≡◌,
  ℕ,
  ◌+◌,
  ◌-◌,
  ◌<◌,
  Bool,
  true,
  false,
  cond,
  eqb,
  ltb,
  ◌||◌,
  List,
  [],
  ◌∷◌,
  ◌++◌,
  length,
  take,
  get_or,
  set,
  Option,
  Some,
  None,
  refl,
  ap,
  sym,
  ◌∙◌,
  subst,
  suc,
  zero,
  arith,
}
use Rattle.std.specs.Prelude.{remove, is_some}
use Rattle.std.proofs.lemmas.Bool.{eqb-true, ltb-true}
use Rattle.ssh_hub.specs.Reserved.{
  bytes_on,
  is_on,
  is_roomy,
  one_on,
  index_of,
  reservation,
  with_more,
  lessened,
  with_less,
}
use Rattle.ssh_hub.specs.declared.reservations.Reservation.{Reservation}

-- no first element is found, and none behind it
not_first : (b : Bool) (o : Option ℕ) → cond b (Some 0) (one_on o) ≡ None → (b ≡ false) × (o ≡ None)
not_first true o e = absurd (cc e)
not_first false None e = (refl, refl)
not_first false (Some i) e = absurd (cc e)

more_passed : (c : ℕ) (xs : List Reservation) (i : ℕ) (d : Reservation) → i < length xs
    → index_of c (take i xs) ≡ None → eqb (get_or xs i d).channel c ≡ false
    → index_of c (take (suc i) xs) ≡ None
more_passed c [] i d in_it none other = absurd (omega arith)
more_passed c (x ∷ xs) zero d in_it none other = ap (λ (b : Bool). cond b (Some 0) None) other
more_passed c (x ∷ xs) (suc i) d in_it none other =
    let p = not_first (eqb x.channel c) (index_of c (take i xs)) none in
    ap (λ (b : Bool). cond b (Some 0) (one_on (index_of c (take (suc i) xs)))) p.0
    ∙ ap one_on (more_passed c xs i d (omega arith) p.1 other)

-- one element more was passed
pub index_more : (c : ℕ) (xs : List Reservation) (i : ℕ) (d : Reservation) → i < length xs
    → index_of c (take i xs) ≡ None → eqb (get_or xs i d).channel c ≡ false
    → index_of c (take (i + 1) xs) ≡ None
index_more c xs i d in_it none other = let next : i + 1 ≡ suc i = omega arith in
    ap (λ (n : ℕ). index_of c (take n xs)) next ∙ more_passed c xs i d in_it none other

-- the first one is here
pub index_here : (c : ℕ) (xs : List Reservation) (i : ℕ) (d : Reservation) → i < length xs
    → index_of c (take i xs) ≡ None → eqb (get_or xs i d).channel c ≡ true
    → Some i ≡ index_of c xs
index_here c [] i d in_it none here = absurd (omega arith)
index_here c (x ∷ xs) zero d in_it none here =
    sym (ap (λ (b : Bool). cond b (Some 0) (one_on (index_of c xs))) here)
index_here c (x ∷ xs) (suc i) d in_it none here =
    let p = not_first (eqb x.channel c) (index_of c (take i xs)) none in
    let next : suc i ≡ i + 1 = omega arith in
    ap (λ (n : ℕ). Some n) next
    ∙ (ap one_on (index_here c xs i d (omega arith) p.1 here)
    ∙ sym (ap (λ (b : Bool). cond b (Some 0) (one_on (index_of c xs))) p.0))

-- a reservation that is there, by its place

one_more : (o : Option ℕ) (i : ℕ) → one_on o ≡ Some i → (j : ℕ) × (o ≡ Some j) × (i ≡ suc j)
one_more None i e = absurd (cc e)
one_more (Some j) i e = let is = some_same (j + 1) i e in (j, refl, omega arith)
  where
    some_same : (x y : ℕ) → Some x ≡ Some y → x ≡ y
    some_same x y e = cc e

-- what holds of the first element, and of a later one if it holds behind the first, holds of it
module _ (c : ℕ) (P : List Reservation → ℕ → Type 0)
    (here : (x : Reservation) (xs : List Reservation) → eqb x.channel c ≡ true → P (x ∷ xs) 0)
    (later : (x : Reservation) (xs : List Reservation) (i : ℕ) → eqb x.channel c ≡ false
    → P xs i → P (x ∷ xs) (suc i)) where
  found_by : (b : Bool) (x : Reservation) (xs : List Reservation) (i : ℕ) → eqb x.channel c ≡ b
      → cond b (Some 0) (one_on (index_of c xs)) ≡ Some i
      → ((j : ℕ) → index_of c xs ≡ Some j → P xs j) → P (x ∷ xs) i
  found_by true x xs i is e rec = subst_at (some_same 0 i e) (here x xs is)
    where
      some_same : (x y : ℕ) → Some x ≡ Some y → x ≡ y
      some_same x y e = cc e

      subst_at : 0 ≡ i → P (x ∷ xs) 0 → P (x ∷ xs) i
      subst_at e p = subst (P (x ∷ xs)) e p
  found_by false x xs i is e rec = let m = one_more (index_of c xs) i e in
      subst (P (x ∷ xs)) (sym m.2) (later x xs m.0 is (rec m.0 m.1))

  found : (xs : List Reservation) (i : ℕ) → index_of c xs ≡ Some i → P xs i
  found [] i e = absurd (cc e)
  found (x ∷ xs) i e = found_by (eqb x.channel c) x xs i refl e (λ j f. found xs j f)

pub index_below : (c : ℕ) (xs : List Reservation) (i : ℕ) → index_of c xs ≡ Some i → i < length xs
index_below c = found c (λ xs i. i < length xs) (λ x xs is. omega arith)
    (λ x xs i is below. omega arith)

pub index_bytes : (c : ℕ) (xs : List Reservation) (i : ℕ) → index_of c xs ≡ Some i
    → (d : Reservation) → bytes_on c xs ≡ (get_or xs i d).bytes
index_bytes c = found c (λ xs i. (d : Reservation) → bytes_on c xs ≡ (get_or xs i d).bytes)
    (λ x xs is d. ap (λ (b : Bool). cond b x.bytes (bytes_on c xs)) is)
    (λ x xs i is rec d. ap (λ (b : Bool). cond b x.bytes (bytes_on c xs)) is ∙ rec d)

pub index_on : (c : ℕ) (xs : List Reservation) (i : ℕ) → index_of c xs ≡ Some i
    → is_on c xs ≡ true
index_on c = found c (λ xs i. is_on c xs ≡ true)
    (λ x xs is. ap (λ (b : Bool). b || is_on c xs) is)
    (λ x xs i is rec. ap (λ (b : Bool). b || is_on c xs) is ∙ rec)

pub more_at : (c n : ℕ) (xs : List Reservation) (i : ℕ) → index_of c xs ≡ Some i
    → (d : Reservation)
    → with_more c n xs ≡ set xs i (reservation (get_or xs i d).channel ((get_or xs i d).bytes + n))
more_at c n = found c (λ xs i. (d : Reservation) → with_more c n xs
    ≡ set xs i (reservation (get_or xs i d).channel ((get_or xs i d).bytes + n)))
    (λ x xs is d. ap (λ (b : Bool). cond b (reservation c (x.bytes + n) ∷ xs) (x ∷ with_more c n xs))
    is ∙ ap (λ (k : ℕ). reservation k (x.bytes + n) ∷ xs) (sym (eqb-true x.channel c is)))
    (λ x xs i is rec d.
    ap (λ (b : Bool). cond b (reservation c (x.bytes + n) ∷ xs) (x ∷ with_more c n xs)) is
    ∙ ap (λ ys. x ∷ ys) (rec d))

pub less_at_place : (c n : ℕ) (xs : List Reservation) (i : ℕ) → index_of c xs ≡ Some i
    → (d : Reservation) → ltb n (get_or xs i d).bytes ≡ true
    → with_less c n xs ≡ set xs i (reservation (get_or xs i d).channel ((get_or xs i d).bytes - n))
less_at_place c n = found c (λ xs i. (d : Reservation) → ltb n (get_or xs i d).bytes ≡ true
    → with_less c n xs
    ≡ set xs i (reservation (get_or xs i d).channel ((get_or xs i d).bytes - n)))
    (λ x xs is d below.
    ap (λ (b : Bool). cond b (lessened n x xs) (x ∷ with_less c n xs)) is
    ∙ ap (λ (b : Bool). cond b (reservation x.channel (x.bytes - n) ∷ xs) xs) below)
    (λ x xs i is rec d below.
    ap (λ (b : Bool). cond b (lessened n x xs) (x ∷ with_less c n xs)) is
    ∙ ap (λ ys. x ∷ ys) (rec d below))

pub gone_at : (c n : ℕ) (xs : List Reservation) (i : ℕ) → index_of c xs ≡ Some i
    → (d : Reservation) → ltb n (get_or xs i d).bytes ≡ false → with_less c n xs ≡ remove xs i
gone_at c n = found c (λ xs i. (d : Reservation) → ltb n (get_or xs i d).bytes ≡ false
    → with_less c n xs ≡ remove xs i)
    (λ x xs is d all.
    ap (λ (b : Bool). cond b (lessened n x xs) (x ∷ with_less c n xs)) is
    ∙ ap (λ (b : Bool). cond b (reservation x.channel (x.bytes - n) ∷ xs) xs) all)
    (λ x xs i is rec d all.
    ap (λ (b : Bool). cond b (lessened n x xs) (x ∷ with_less c n xs)) is
    ∙ ap (λ ys. x ∷ ys) (rec d all))

-- a reservation that is not there

module _ (c : ℕ) (P : List Reservation → Type 0) (empty : P [])
    (later : (x : Reservation) (xs : List Reservation) → eqb x.channel c ≡ false
    → P xs → P (x ∷ xs)) where
  absent : (xs : List Reservation) → index_of c xs ≡ None → P xs
  absent [] e = empty
  absent (x ∷ xs) e = let p = not_first (eqb x.channel c) (index_of c xs) e in
      later x xs p.0 (absent xs p.1)

pub absent_bytes : (c : ℕ) (xs : List Reservation) → index_of c xs ≡ None → bytes_on c xs ≡ 0
absent_bytes c = absent c (λ xs. bytes_on c xs ≡ 0) refl
    (λ x xs is rec. ap (λ (b : Bool). cond b x.bytes (bytes_on c xs)) is ∙ rec)

pub absent_on : (c : ℕ) (xs : List Reservation) → index_of c xs ≡ None → is_on c xs ≡ false
absent_on c = absent c (λ xs. is_on c xs ≡ false) refl
    (λ x xs is rec. ap (λ (b : Bool). b || is_on c xs) is ∙ rec)

pub absent_more : (c n : ℕ) (xs : List Reservation) → index_of c xs ≡ None
    → with_more c n xs ≡ xs ++ reservation c n ∷ []
absent_more c n = absent c (λ xs. with_more c n xs ≡ xs ++ reservation c n ∷ []) refl
    (λ x xs is rec.
    ap (λ (b : Bool). cond b (reservation c (x.bytes + n) ∷ xs) (x ∷ with_more c n xs)) is
    ∙ ap (λ ys. x ∷ ys) rec)

pub absent_less : (c n : ℕ) (xs : List Reservation) → index_of c xs ≡ None → with_less c n xs ≡ xs
absent_less c n = absent c (λ xs. with_less c n xs ≡ xs) refl
    (λ x xs is rec. ap (λ (b : Bool). cond b (lessened n x xs) (x ∷ with_less c n xs)) is
    ∙ ap (λ ys. x ∷ ys) rec)

-- room for one reservation more, where there is none on the channel

room_left_by : (b x : Bool) → (b || x) ≡ true → b ≡ false → x ≡ true
room_left_by true x e is = absurd (cc is)
room_left_by false x e is = e

pub room_left : (c room : ℕ) (xs : List Reservation) → is_roomy room xs c ≡ true
    → index_of c xs ≡ None → length xs < room
room_left c room xs roomy none = ltb-true (length xs) room
    (room_left_by (is_on c xs) (ltb (length xs) room) roomy (absent_on c xs none))

on_index : (c : ℕ) (xs : List Reservation) (o : Option ℕ) → index_of c xs ≡ o
    → is_on c xs ≡ is_some o
on_index c xs None is = absent_on c xs is
on_index c xs (Some i) is = index_on c xs i is

pub roomy_by : (c room : ℕ) (xs : List Reservation)
    → is_roomy room xs c ≡ (is_some (index_of c xs) || ltb (length xs) room)
roomy_by c room xs = ap (λ (b : Bool). b || ltb (length xs) room)
    (on_index c xs (index_of c xs) refl)
