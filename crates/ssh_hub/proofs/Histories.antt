-- Histories that go on.
use Rattle.std.proofs.Common.{
  ◌≡◌,
  ◌≢◌,
  ℕ,
  ◌+◌,
  ◌<◌,
  ◌≤◌,
  ◌⊎◌,
  Bool,
  true,
  false,
  eqb,
  eq-eqb,
  ne_eqb,
  ltb,
  List,
  [],
  ◌∷◌,
  ◌++◌,
  length,
  if◌then◌else◌,
  Some,
  None,
  Option,
  refl,
  ap,
  sym,
  ◌∙◌,
  subst,
  inl,
  inr,
  ⊎_elim,
  arith,
  append_assoc,
  length-append,
}
use mathlib.Core.List.{IsPrefix}
use Rattle.ssh_hub.specs.World.{Held, World}
use Rattle.ssh_hub.specs.Reserved.{at_hand, reservations}
use Rattle.ssh_hub.specs.Step.{opening, hub_step}
use Rattle.ssh_hub.specs.History.{run, IsLegal, calls_by, Grows, one_on, newest}
use Rattle.ssh_hub.specs.Rule.{drawn_by}
use Rattle.ssh_hub.specs.declared.answers.Config2.{Config2}
use Rattle.ssh_hub.specs.declared.history.HubCall.{HubCall}
use Rattle.ssh_hub.specs.declared.history.HubReply.{HubReply}
use Rattle.ssh_hub.specs.declared.history.Entry.{Entry}
use Rattle.ssh_hub.proofs.Begins.{none_more, none_before}
use Rattle.ssh_hub.proofs.Counts.{act_counts, act_draws}

pub run_snoc : (w : World) (es : List Entry) (e : Entry) → run w (es ++ e ∷ [])
    ≡ (hub_step (run w es) e.by e.call).0
run_snoc w [] e = refl
run_snoc w (x ∷ xs) e = run_snoc (hub_step w x.by x.call).0 xs e

pub legal_snoc : (w : World) (es : List Entry) (e : Entry) → IsLegal w es → e.reply
    ≡ (hub_step (run w es) e.by e.call).1 → IsLegal w (es ++ e ∷ [])
legal_snoc w [] e l is = (is, tt)
legal_snoc w (x ∷ xs) e l is = (l.0, legal_snoc (hub_step w x.by x.call).0 xs e l.1 is)

-- a legal history is legal up to each place, and from there on
pub legal_parts : (w : World) (xs ys : List Entry) → IsLegal w (xs ++ ys) → IsLegal w xs
    × IsLegal (run w xs) ys
legal_parts w [] ys l = (tt, l)
legal_parts w (x ∷ xs) ys l = let rest = legal_parts (hub_step w x.by x.call).0 xs ys l.1 in
    ((l.0, rest.0), rest.1)

pub legal_before : (k : Config2) (xs ys : List Entry) → IsLegal (opening k) (xs ++ ys)
    → IsLegal (opening k) xs
legal_before k xs ys l = (legal_parts (opening k) xs ys l).0

-- the same list before both, or neither
both_ways : (b : Bool) (x : Entry) (all xs ys : List Entry) → all ≡ xs ++ ys
    → (if b then (x ∷ all) else all) ≡ (if b then (x ∷ xs) else xs) ++ ys
both_ways true x all xs ys e = ap (λ l. x ∷ l) e
both_ways false x all xs ys e = e

pub calls_by_append : (n : ℕ) (xs ys : List Entry) → calls_by n (xs ++ ys) ≡ calls_by n xs
    ++ calls_by n ys
calls_by_append n [] ys = refl
calls_by_append n (x ∷ xs) ys = both_ways (eqb x.by n) x (calls_by n (xs ++ ys)) (calls_by n xs)
    (calls_by n ys) (calls_by_append n xs ys)

pub calls_by_mine : (n : ℕ) (xs : List Entry) (e : Entry) → e.by ≡ n → calls_by n (xs ++ e ∷ [])
    ≡ calls_by n xs ++ e ∷ []
calls_by_mine n xs e is = calls_by_append n xs (e ∷ []) ∙ ap (λ l. calls_by n xs ++ l)
    (ap (λ (b : Bool). if b then (e ∷ []) else []) (eq-eqb e.by n is))

pub calls_by_other : (n : ℕ) (xs : List Entry) (e : Entry) → e.by ≢ n → calls_by n (xs ++ e ∷ [])
    ≡ calls_by n xs
calls_by_other n xs e not = calls_by_append n xs (e ∷ [])
    ∙ (ap (λ l. calls_by n xs ++ l) (ap (λ (b : Bool). if b then (e ∷ []) else [])
    (ne_eqb e.by n not)) ∙ Rattle.std.proofs.Common.append-nil (calls_by n xs))

pub grows_of : (n : ℕ) (seen log : List Entry) → IsPrefix seen log → calls_by n log
    ≡ calls_by n seen → Grows n seen log
grows_of n seen log p same = (
  p.0,
  sym p.1,
  none_more (calls_by n seen) (calls_by n p.0)
      (sym (calls_by_append n seen p.0) ∙ (ap (calls_by n) p.1 ∙ same)),
)

pub none_of : (n : ℕ) (seen log : List Entry) → IsPrefix seen log → calls_by n log ≡ []
    → calls_by n seen ≡ []
none_of n seen log p none_there = none_before (calls_by n seen) (calls_by n p.0)
    (sym (calls_by_append n seen p.0) ∙ (ap (calls_by n) p.1 ∙ none_there))

-- no call of n stands between two beginnings, if none stands after the shorter one
pub between_mine : (n : ℕ) (a b c : List Entry) → IsPrefix a b → IsPrefix b c → calls_by n c
    ≡ calls_by n a → calls_by n c ≡ calls_by n b
between_mine n a b c p q same =
    let to_b : calls_by n a ++ calls_by n p.0 ≡ calls_by n b = sym (calls_by_append n a p.0)
    ∙ ap (calls_by n) p.1 in
    let to_c : calls_by n b ++ calls_by n q.0 ≡ calls_by n c = sym (calls_by_append n b q.0)
    ∙ ap (calls_by n) q.1 in
    let all : calls_by n a ++ (calls_by n p.0 ++ calls_by n q.0) ≡ calls_by n a =
    sym (append_assoc (calls_by n a) (calls_by n p.0) (calls_by n q.0))
    ∙ (ap (λ l. l ++ calls_by n q.0) to_b ∙ (to_c ∙ same)) in
    let none_there : calls_by n p.0 ≡ [] = none_before (calls_by n p.0) (calls_by n q.0)
    (none_more (calls_by n a) (calls_by n p.0 ++ calls_by n q.0) all) in
    same ∙ (sym (Rattle.std.proofs.Common.append-nil (calls_by n a))
    ∙ (ap (λ l. calls_by n a ++ l) (sym none_there) ∙ to_b))

-- of the facts about a call that the lock needs, these alone speak of what a call does: `Counts`
-- has them

-- a call draws no number, or the next one
pub numbers_drawn : (w : World) (by : ℕ) (c : HubCall) (r : HubReply) → r ≡ (hub_step w by c).1
    → ((drawn_by c r None ≡ None) × ((hub_step w by c).0.hub.seats ≡ w.hub.seats))
    ⊎ ((drawn_by c r None ≡ Some (w.hub.seats + 1))
    × ((hub_step w by c).0.hub.seats ≡ w.hub.seats + 1))
numbers_drawn w by c r is = ⊎_elim
    (λ t. inl (subst (λ (x : HubReply). drawn_by c x None ≡ None) (sym is) t.0, t.1))
    (λ t. inr (
      subst (λ (x : HubReply). drawn_by c x None ≡ Some (w.hub.seats + 1)) (sym is) t.0,
      t.1,
    ))
    (act_draws w.hub by (at_hand c (reservations by w)) c)

pub seats_more : (w : World) (by : ℕ) (c : HubCall)
    → (w.hub.seats ≤ (hub_step w by c).0.hub.seats)
    × ((hub_step w by c).0.hub.seats ≤ w.hub.seats + 1)
seats_more w by c = let n = act_counts w.hub by (at_hand c (reservations by w)) c in
    (n.seats, n.seat)

-- what a history adds to the numbers
pub record Below (w x : Held) (n : ℕ) : Type 0 where
  pub place : x.place ≡ w.place + n
  pub seats : x.seats ≤ w.seats + n
  pub tickets : x.tickets ≤ w.tickets + n
  pub slots : x.slots ≤ w.slots + n

pub counts_below : (w : World) (es : List Entry) → Below w.hub (run w es).hub (length es)
counts_below w [] = record {
  place = omega arith;
  seats = omega arith;
  tickets = omega arith;
  slots = omega arith;
}
counts_below w (e ∷ es) =
    let rec = counts_below (hub_step w e.by e.call).0 es in
    let one = act_counts w.hub e.by (at_hand e.call (reservations e.by w)) e.call in
    let p = rec.place in
    let p1 = one.place in
    record { place = omega arith; seats = omega arith; tickets = omega arith; slots = omega arith }

pub seats_below : (w : World) (es : List Entry) → (run w es).hub.seats ≤ w.hub.seats + length es
seats_below w es = (counts_below w es).seats

-- the newest call

pub newest_mine : (n : ℕ) (xs : List Entry) (e : Entry) → e.by ≡ n → newest n (xs ++ e ∷ [])
    ≡ Some (length xs)
newest_mine n [] e is = ap (one_on None) (eq-eqb e.by n is)
newest_mine n (x ∷ xs) e is = ap (λ (o : Option ℕ). one_on o (eqb x.by n)) (newest_mine n xs e is)
    ∙ ap (λ (k : ℕ). Some k) (omega arith)

none_newer : (b : Bool) (x : Entry) (c : List Entry) (o : Option ℕ) → (if b then (x ∷ c) else c)
    ≡ [] → (c ≡ [] → o ≡ None) → one_on o b ≡ None
none_newer true x c o e rec = absurd (cc e)
none_newer false x c o e rec = ap (λ (p : Option ℕ). one_on p false) (rec e)

pub newest_none : (n : ℕ) (xs : List Entry) → calls_by n xs ≡ [] → newest n xs ≡ None
newest_none n [] e = refl
newest_none n (x ∷ xs) e = none_newer (eqb x.by n) x (calls_by n xs) (newest n xs) e
    (newest_none n xs)

newest_more : (n : ℕ) (xs ys : List Entry) → calls_by n ys ≡ [] → newest n (xs ++ ys) ≡ newest n xs
newest_more n [] ys e = newest_none n ys e
newest_more n (x ∷ xs) ys e = ap (λ (o : Option ℕ). one_on o (eqb x.by n)) (newest_more n xs ys e)

pub newest_on : (n : ℕ) (a b : List Entry) → Grows n a b → newest n b ≡ newest n a
newest_on n a b g = ap (newest n) g.1 ∙ newest_more n a g.0 g.2

pub mine_on : (n : ℕ) (a b : List Entry) → Grows n a b → calls_by n b ≡ calls_by n a
mine_on n a b g = ap (calls_by n) g.1
    ∙ (calls_by_append n a g.0 ∙ (ap (λ l. calls_by n a ++ l) g.2
    ∙ Rattle.std.proofs.Common.append-nil (calls_by n a)))
