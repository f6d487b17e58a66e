-- Two sides, of which an event changes what is said on one channel.
use Rattle.std.proofs.Common.{◌≡◌, ◌≤◌, ◌+◌, ◌==◌, ℕ, Bool, true, false, cond, List, [], ◌∷◌}
use Rattle.std.proofs.Common.{◌++◌, ◌||◌, refl, sym, ◌∙◌, ap, subst, Option, Some, None}
use Rattle.std.proofs.Common.{◌⊎◌, inl, inr, arith, rules}
use Rattle.std.proofs.lemmas.List.{append-nil}
use Rattle.std.specs.List.{list_any}
use Rattle.ssh_channels.specs.declared.params.ChannelParams.{ChannelParams}
use Rattle.ssh_channels.specs.declared.chunk.DataKind.{DataKind}
use Rattle.ssh_ends.specs.Saying.{Saying, Message, letter, letters, is_close}
use Rattle.ssh_ends.specs.Change.{Change}
use Rattle.ssh_ends.specs.Pair.{Party, at, changed, left}
use Rattle.ssh_ends.specs.Strand.{Strand, said_on}
use Rattle.ssh_ends.specs.Sound.{Hears, Half, IsFresh, IsAsked, Stands, AreRouted, Beside}
use Rattle.ssh_ends.proofs.Strands.{way}

-- ---- numbers

pub same_number : (n : ℕ) → (n == n) ≡ true
same_number n = search rules

pub one_number : (n k : ℕ) → (n == k) ≡ true → n ≡ k
one_number n k t = search rules

apart_at : (b : Bool) (n k : ℕ) → (n == k) ≡ b → (n ≡ k → ⊥) → (n == k) ≡ false
apart_at true n k t other = absurd (other (one_number n k t))
apart_at false n k t other = t

pub apart : (n k : ℕ) → (n ≡ k → ⊥) → (n == k) ≡ false
apart n k other = apart_at (n == k) n k refl other

pub not_same : (n k : ℕ) → (n == k) ≡ false → n ≡ k → ⊥
not_same n k t is =
    let yes : (n == k) ≡ true = subst (λ j. (n == j) ≡ true) is (same_number n) in
    let e : true ≡ false = sym yes ∙ t in cc

pub at_here : {A : Type 0} (k : ℕ) (value : A) (old : ℕ → A) → at k value old k ≡ value
at_here k value old = ap (λ b. cond b value (old k)) (same_number k)

pub at_other : {A : Type 0} (k : ℕ) (value : A) (old : ℕ → A) (n : ℕ) → (n ≡ k → ⊥)
    → at k value old n ≡ old n
at_other k value old n other = ap (λ b. cond b value (old n)) (apart n k other)

pub one_value : (m j : ℕ) (o : Option ℕ) → o ≡ Some m → o ≡ Some j → m ≡ j
one_value m j o is also = let e : Some m ≡ Some j = sym is ∙ also in cc

pub no_value : (m : ℕ) (o : Option ℕ) → o ≡ Some m → o ≡ None → ⊥
no_value m o is none = let e : Some m ≡ None = sym is ∙ none in cc

-- ---- what is said on a channel

said_step : (b : Bool) (x : Saying) (xs ys : List Saying)
    → cond b (x ∷ (xs ++ ys)) (xs ++ ys) ≡ cond b (x ∷ xs) xs ++ ys
said_step true x xs ys = refl
said_step false x xs ys = refl

pub said_joined : (n : ℕ) (xs ys : List Message) → said_on n (xs ++ ys) ≡ said_on n xs ++ said_on n ys
said_joined n [] ys = refl
said_joined n (x ∷ xs) ys =
    ap (λ said. cond (n == x.own) (x.saying ∷ said) said) (said_joined n xs ys)
    ∙ said_step (n == x.own) x.saying (said_on n xs) (said_on n ys)

pub said_next : (x : Message) (rest : List Message) → said_on x.own (x ∷ rest)
    ≡ x.saying ∷ said_on x.own rest
said_next x rest =
    ap (λ b. cond b (x.saying ∷ said_on x.own rest) (said_on x.own rest)) (same_number x.own)

pub said_past : (n : ℕ) (x : Message) (rest : List Message) → (n ≡ x.own → ⊥)
    → said_on n (x ∷ rest) ≡ said_on n rest
said_past n x rest other =
    ap (λ b. cond b (x.saying ∷ said_on n rest) (said_on n rest)) (apart n x.own other)

letters_here : (k peer : ℕ) (said : List Saying) → said_on k (letters k peer said) ≡ said
letters_here k peer [] = refl
letters_here k peer (x ∷ said) =
    said_next (letter k peer x) (letters k peer said) ∙ ap (λ xs. x ∷ xs) (letters_here k peer said)

letters_past : (n k peer : ℕ) (said : List Saying) → (n ≡ k → ⊥)
    → said_on n (letters k peer said) ≡ []
letters_past n k peer [] other = refl
letters_past n k peer (x ∷ said) other =
    said_past n (letter k peer x) (letters k peer said) other ∙ letters_past n k peer said other

pub more_here : (k peer : ℕ) (ms : List Message) (said : List Saying)
    → said_on k (ms ++ letters k peer said) ≡ said_on k ms ++ said
more_here k peer ms said =
    said_joined k ms (letters k peer said)
    ∙ ap (λ xs. said_on k ms ++ xs) (letters_here k peer said)

pub more_past : (n k peer : ℕ) (ms : List Message) (said : List Saying) → (n ≡ k → ⊥)
    → said_on n (ms ++ letters k peer said) ≡ said_on n ms
more_past n k peer ms said other =
    said_joined n ms (letters k peer said)
    ∙ ap (λ xs. said_on n ms ++ xs) (letters_past n k peer said other)
    ∙ append-nil (said_on n ms)

-- ---- events elsewhere

-- but for channel k, a side has what it had
pub record Elsewhere (k : ℕ) (p p' : Party) : Type 0 where
  pub grows : p.last ≤ p'.last
  pub partner : (n : ℕ) → (n ≡ k → ⊥) → p'.partner n ≡ p.partner n
  pub line : (n : ℕ) → (n ≡ k → ⊥) → p'.line n ≡ p.line n
  pub accepted : (n : ℕ) → (n ≡ k → ⊥) → p'.accepted n ≡ p.accepted n
  pub delivered : (n : ℕ) → (n ≡ k → ⊥) → p'.delivered n ≡ p.delivered n
  pub closed : (n : ℕ) → (n ≡ k → ⊥) → p'.closed n ≡ p.closed n
  pub said : (n : ℕ) → (n ≡ k → ⊥) → said_on n p'.flight ≡ said_on n p.flight

pub all_same : (k : ℕ) (p : Party) → Elsewhere k p p
all_same k p = record {
  grows = omega arith;
  partner = λ n other. refl;
  line = λ n other. refl;
  accepted = λ n other. refl;
  delivered = λ n other. refl;
  closed = λ n other. refl;
  said = λ n other. refl;
}

pub changed_elsewhere : (k : ℕ) (l : ChannelParams) (c : Change) (p : Party)
    → Elsewhere k p (changed k l c p)
changed_elsewhere k l c p = record {
  grows = omega arith;
  partner = λ n other. refl;
  line = λ n other. at_other k c.after p.line n other;
  accepted = λ n other. at_other k (p.accepted k ++ c.accepts) p.accepted n other;
  delivered = λ n other. at_other k (p.delivered k ++ c.delivers) p.delivered n other;
  closed = λ n other. at_other k (p.closed k || list_any is_close c.says) p.closed n other;
  said = λ n other. more_past n k l.recipient_channel p.flight c.says other;
}

pub left_elsewhere : (x : Message) (rest : List Message) (q : Party) → q.flight ≡ x ∷ rest
    → Elsewhere x.own q (left rest q)
left_elsewhere x rest q is = record {
  grows = omega arith;
  partner = λ n other. refl;
  line = λ n other. refl;
  accepted = λ n other. refl;
  delivered = λ n other. refl;
  closed = λ n other. refl;
  said = λ n other. sym (ap (said_on n) is ∙ said_past n x rest other);
}

pub same_way : (s s' t t' : Option ChannelParams) (a a' d d' : List (DataKind × ℕ))
    (o o' b b' : List Saying) → s ≡ s' → t ≡ t' → a ≡ a' → d ≡ d' → o ≡ o' → b ≡ b'
    → way s t a d o b ≡ way s' t' a' d' o' b'
same_way s s' t t' a a' d d' o o' b b' e f g h i j = cc

-- they leave a direction alone
pub half_elsewhere : (k j n m : ℕ) (p p' q q' : Party) → Elsewhere k p p' → Elsewhere j q q'
    → (n ≡ k → ⊥) → (m ≡ j → ⊥) → Half n m p q → Half n m p' q'
half_elsewhere k j n m p p' q q' e f other also h = record {
  strand = subst Strand (same_way (p.line n) (p'.line n) (q.line m) (q'.line m) (p.accepted n)
      (p'.accepted n) (q.delivered m) (q'.delivered m) (said_on n p.flight) (said_on n p'.flight)
      (said_on m q.flight) (said_on m q'.flight) (sym (e.line n other)) (sym (f.line m also))
      (sym (e.accepted n other)) (sym (f.delivered m also)) (sym (e.said n other))
      (sym (f.said m also))) h.strand;
  hears = subst (λ o. Hears m o (said_on m q'.flight)) (sym (e.line n other))
      (subst (λ said. Hears m (p.line n) said) (sym (f.said m also)) h.hears);
  closed = λ none. e.closed n other ∙ h.closed (sym (e.line n other) ∙ none);
}

fresh_elsewhere : (k n : ℕ) (p p' : Party) → Elsewhere k p p' → (n ≡ k → ⊥) → IsFresh n p
    → IsFresh n p'
fresh_elsewhere k n p p' e other h = record {
  line = e.line n other ∙ h.line;
  accepted = e.accepted n other ∙ h.accepted;
  delivered = e.delivered n other ∙ h.delivered;
  said = e.said n other ∙ h.said;
}

asked_elsewhere : (k n : ℕ) (p p' : Party) → Elsewhere k p p' → (n ≡ k → ⊥) → IsAsked n p
    → IsAsked n p'
asked_elsewhere k n p p' e other h = record {
  drawn = omega (arith, h.drawn, e.grows);
  params = h.params;
  packet = h.packet;
  line = e.line n other ∙ h.line;
  confirmed = h.confirmed;
  waiting = h.waiting;
  credit = h.credit;
  small = h.small;
  aimed = h.aimed;
  positive = h.positive;
  fits = h.fits;
  accepted = e.accepted n other ∙ h.accepted;
  delivered = e.delivered n other ∙ h.delivered;
  said = e.said n other ∙ h.said;
}

stands_at : (o : Option ℕ) (k n : ℕ) (p p' : Party) → Elsewhere k p p' → (n ≡ k → ⊥)
    → Stands n p o → Stands n p' o
stands_at None k n p p' e other (inl h) = inl (fresh_elsewhere k n p p' e other h)
stands_at None k n p p' e other (inr h) = inr (asked_elsewhere k n p p' e other h)
stands_at (Some m) k n p p' e other h = omega (arith, h, e.grows)

pub stands_elsewhere : (k n : ℕ) (p p' : Party) → Elsewhere k p p' → (n ≡ k → ⊥)
    → Stands n p (p.partner n) → Stands n p' (p'.partner n)
stands_elsewhere k n p p' e other h =
    subst (Stands n p') (sym (e.partner n other)) (stands_at (p.partner n) k n p p' e other h)

-- ---- one side beside the other

-- the two have opened the channel that p calls k and q calls j, now or before
module _ (k j : ℕ) (p p' q q' : Party) (b : Beside p q) (e : Elsewhere k p p') (f : Elsewhere j q q')
    (alone : (n m : ℕ) → p.partner n ≡ Some m → (n ≡ k → ⊥) → m ≡ j → ⊥)
    (ours : p'.partner k ≡ Some j) (theirs : q'.partner j ≡ Some k) where
  partner_here : (n m : ℕ) → (n == k) ≡ true → p'.partner n ≡ Some m → (n ≡ k) × (m ≡ j)
  partner_here n m t is =
      let same : n ≡ k = one_number n k t in
      (same, one_value m j (p'.partner k) (subst (λ x. p'.partner x ≡ Some m) same is) ours)

  half_at : (t : Bool) (n m : ℕ) → (n == k) ≡ t → Half k j p' q' → p'.partner n ≡ Some m
      → Half n m p' q'
  half_at true n m t new is =
      let same = partner_here n m t is in
      subst (λ x. Half x m p' q') (sym same.0) (subst (λ x. Half k x p' q') (sym same.1) new)
  half_at false n m t new is =
      let other = not_same n k t in
      let was : p.partner n ≡ Some m = sym (e.partner n other) ∙ is in
      half_elsewhere k j n m p p' q q' e f other (alone n m was other) (b.halves n m was)

  partner_at : (t : Bool) (n m : ℕ) → (n == k) ≡ t → p'.partner n ≡ Some m
      → q'.partner m ≡ Some n
  partner_at true n m t is =
      let same = partner_here n m t is in
      subst (λ x. q'.partner m ≡ Some x) (sym same.0)
      (subst (λ x. q'.partner x ≡ Some k) (sym same.1) theirs)
  partner_at false n m t is =
      let other = not_same n k t in
      let was : p.partner n ≡ Some m = sym (e.partner n other) ∙ is in
      f.partner m (alone n m was other) ∙ b.partners n m was

  stand_at : (t : Bool) (n : ℕ) → (n == k) ≡ t → k ≤ p'.last → Stands n p' (p'.partner n)
  stand_at true n t drawn =
      let same : n ≡ k = one_number n k t in
      subst (λ x. Stands x p' (p'.partner x)) (sym same)
      (subst (Stands k p') (sym ours) drawn)
  stand_at false n t drawn = stands_elsewhere k n p p' e (not_same n k t) (b.stands n)

  pub beside_step : Half k j p' q' → k ≤ p'.last → AreRouted p'.partner p'.flight → Beside p' q'
  beside_step new drawn routed = record {
    halves = λ n m is. half_at (n == k) n m refl new is;
    partners = λ n m is. partner_at (n == k) n m refl is;
    stands = λ n. stand_at (n == k) n refl drawn;
    routed = routed;
  }

-- the channel k of p is not opened, before and after
module _ (k : ℕ) (p p' q : Party) (e : Elsewhere k p p') (none : p.partner k ≡ None)
    (still : p'.partner k ≡ None) where
  opened_other : (n m : ℕ) → p.partner n ≡ Some m → n ≡ k → ⊥
  opened_other n m is same =
      no_value m (p.partner k) (subst (λ x. p.partner x ≡ Some m) same is) none

  was_opened_at : (t : Bool) (n m : ℕ) → (n == k) ≡ t → p'.partner n ≡ Some m
      → (n ≡ k → ⊥) × (p.partner n ≡ Some m)
  was_opened_at true n m t is =
      let same : n ≡ k = one_number n k t in
      absurd (no_value m (p'.partner k) (subst (λ x. p'.partner x ≡ Some m) same is) still)
  was_opened_at false n m t is =
      let other = not_same n k t in (other, sym (e.partner n other) ∙ is)

  was_opened : (n m : ℕ) → p'.partner n ≡ Some m → (n ≡ k → ⊥) × (p.partner n ≡ Some m)
  was_opened n m is = was_opened_at (n == k) n m refl is

  lone_stand : (t : Bool) (n : ℕ) → (n == k) ≡ t → Beside p q → Stands k p' None
      → Stands n p' (p'.partner n)
  lone_stand true n t b new =
      subst (λ x. Stands x p' (p'.partner x)) (sym (one_number n k t))
      (subst (Stands k p') (sym still) new)
  lone_stand false n t b new = stands_elsewhere k n p p' e (not_same n k t) (b.stands n)

  -- no number of q's is another one than itself plus one, so all of q is elsewhere
  next_apart : (m : ℕ) → m ≡ m + 1 → ⊥
  next_apart m is = omega arith

  pub lone_near : Beside p q → Stands k p' None → AreRouted p'.partner p'.flight → Beside p' q
  lone_near b new routed = record {
    halves = λ n m is.
        let was = was_opened n m is in
        half_elsewhere k (m + 1) n m p p' q q e (all_same (m + 1) q) was.0 (next_apart m)
        (b.halves n m was.1);
    partners = λ n m is. b.partners n m (was_opened n m is).1;
    stands = λ n. lone_stand (n == k) n refl b new;
    routed = routed;
  }

  pub lone_far : Beside q p → Beside q p'
  lone_far b = record {
    halves = λ m n is.
        let other = opened_other n m (b.partners m n is) in
        half_elsewhere (m + 1) k m n q q p p' (all_same (m + 1) q) e (next_apart m) other
        (b.halves m n is);
    partners = λ m n is.
        let ours = b.partners m n is in e.partner n (opened_other n m ours) ∙ ours;
    stands = b.stands;
    routed = b.routed;
  }

-- ---- routes

pub routed_both : (partner : ℕ → Option ℕ) (xs ys : List Message) → AreRouted partner xs
    → AreRouted partner ys → AreRouted partner (xs ++ ys)
routed_both partner [] ys h k = k
routed_both partner (x ∷ xs) ys h k = (h.0, routed_both partner xs ys h.1 k)

pub letters_routed : (partner : ℕ → Option ℕ) (k peer : ℕ) (said : List Saying)
    → (said ≡ []) ⊎ (partner k ≡ Some peer) → AreRouted partner (letters k peer said)
letters_routed partner k peer [] h = tt
letters_routed partner k peer (x ∷ said) (inl none) = absurd (let e : x ∷ said ≡ [] = none in cc)
letters_routed partner k peer (x ∷ said) (inr is) =
    (inr is, letters_routed partner k peer said (inr is))

pub routed_more : (partner partner' : ℕ → Option ℕ) (ms : List Message)
    → ((n m : ℕ) → partner n ≡ Some m → partner' n ≡ Some m) → AreRouted partner ms
    → AreRouted partner' ms
routed_more partner partner' [] more h = tt
routed_more partner partner' (x ∷ ms) more ((inl opens), h) =
    (inl opens, routed_more partner partner' ms more h)
routed_more partner partner' (x ∷ ms) more ((inr is), h) =
    (inr (more x.own x.peer is), routed_more partner partner' ms more h)
