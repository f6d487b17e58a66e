-- Opening a channel, and accepting one, keeps two sides sound.
use Rattle.std.proofs.Common.{◌≡◌, ◌<◌, ◌+◌, ◌^◌, ℕ, min, Bool, true, false, List}
use Rattle.std.proofs.Common.{[], ◌∷◌, ◌++◌, refl, sym, ◌∙◌, ap, subst, Option, Some, None}
use Rattle.std.proofs.Common.{inl, inr, arith, ◌-◌, length}
use Rattle.ssh_channels.specs.declared.params.ChannelParams.{ChannelParams}
use Rattle.ssh_channels.specs.Entry.{joined}
use Rattle.ssh_channels.specs.Line.{opening, established}
use Rattle.ssh_ends.specs.Saying.{Saying, Open, Confirm, Message, letter}
use Rattle.ssh_ends.specs.Pair.{Party, Pair, begins, left, partnered, opens, welcomes}
use Rattle.ssh_ends.specs.Strand.{AreCoded, Strand, said_on, data_in, granted_in}
use Rattle.ssh_ends.specs.Sound.{AreSaid, HearsOf, Hears, Half, IsFresh, IsAsked}
use Rattle.ssh_ends.specs.Sound.{Stands, AreRouted, Beside, IsSound}
use Rattle.ssh_ends.proofs.Strands.{way}
use Rattle.ssh_ends.proofs.Sides.{Elsewhere, same_way, at_here, at_other, no_value}
use Rattle.ssh_ends.proofs.Sides.{said_next, said_past, more_here, more_past, beside_step}
use Rattle.ssh_ends.proofs.Sides.{lone_near, lone_far, routed_both, routed_more}
use Rattle.ssh_ends.proofs.Events.{no_line}

-- the next number was not drawn
next_at : (o : Option ℕ) (n : ℕ) (p : Party) → p.last < n → Stands n p o → (o ≡ None) × IsFresh n p
next_at None n p above (inl fresh) = (refl, fresh)
next_at None n p above (inr a) = absurd (omega (arith, a.drawn, above))
next_at (Some m) n p above drawn = absurd (omega (arith, drawn, above))

pub next_is_fresh : (n : ℕ) (p q : Party) → Beside p q → p.last < n
    → (p.partner n ≡ None) × IsFresh n p
next_is_fresh n p q b above = next_at (p.partner n) n p above (b.stands n)

-- a channel of that number begins
pub begins_elsewhere : (l : ChannelParams) (peer : ℕ) (x : Saying) (p : Party)
    → Elsewhere (p.last + 1) p (begins l peer x p)
begins_elsewhere l peer x p = record {
  grows = let e : (begins l peer x p).last ≡ p.last + 1 = refl in omega (arith, e);
  partner = λ n other. refl;
  line = λ n other. at_other (p.last + 1) (Some l) p.line n other;
  accepted = λ n other. refl;
  delivered = λ n other. refl;
  closed = λ n other. refl;
  said = λ n other. more_past n (p.last + 1) peer p.flight (x ∷ []) other;
}

begins_said : (l : ChannelParams) (peer : ℕ) (x : Saying) (p : Party)
    → IsFresh (p.last + 1) p → said_on (p.last + 1) (begins l peer x p).flight ≡ x ∷ []
begins_said l peer x p fresh =
    more_here (p.last + 1) peer p.flight (x ∷ []) ∙ ap (λ xs. xs ++ x ∷ []) fresh.said

pub open_sound : (window packet : ℕ) (w : Pair) → window < 2 ^ 32 → 0 < packet → packet < 2 ^ 32
    → IsSound w → IsSound (opens window packet w)
open_sound window packet w wide some small s =
    let p = w.near in
    let k = p.last + 1 in
    let l = opening k window packet in
    let p' = begins l 0 (Open window packet) p in
    let new = next_is_fresh k p w.far s.0 (omega arith) in
    let aimed : l.target ≡ min window (2 ^ 32 - 1) = refl in
    let e = begins_elsewhere l 0 (Open window packet) p in (
      lone_near k p p' w.far e new.0 new.0 s.0
          (inr (record {
            drawn = omega arith;
            params = l;
            packet = packet;
            line = at_here k (Some l) p.line;
            confirmed = refl;
            waiting = refl;
            credit = refl;
            small = wide;
            aimed = omega (arith, aimed);
            positive = some;
            fits = small;
            accepted = new.1.accepted;
            delivered = new.1.delivered;
            said = begins_said l 0 (Open window packet) p new.1;
          }))
          (routed_both p.partner p.flight _ s.0.routed (inl refl, tt)),
      lone_far k p p' w.far e new.0 new.0 s.1,
    )

-- ---- the open that comes next is the one that the other side asked for

no_open_said : (b : Bool) (m : ℕ) (l : ChannelParams) (window packet : ℕ) (inward : List Saying)
    → HearsOf b m l (Open window packet ∷ inward) → ⊥
no_open_said true m l window packet inward h = h.1.0
no_open_said false m l window packet inward h = h.2

no_open_heard : (o : Option ChannelParams) (m window packet : ℕ) (inward : List Saying)
    → Hears m o (Open window packet ∷ inward) → ⊥
no_open_heard None m window packet inward h = h.0
no_open_heard (Some l) m window packet inward h =
    no_open_said l.confirmed m l window packet inward h

asked_at : (o : Option ℕ) (n window packet : ℕ) (rest : List Saying) (p q : Party)
    → q.partner n ≡ o → Beside p q → Beside q p → said_on n q.flight ≡ Open window packet ∷ rest
    → Stands n q o → (q.partner n ≡ None) × IsAsked n q
asked_at None n window packet rest p q none b d said (inl fresh) =
    absurd (let e : Open window packet ∷ rest ≡ [] = sym said ∙ fresh.said in cc)
asked_at None n window packet rest p q none b d said (inr a) = (none, a)
asked_at (Some m) n window packet rest p q is b d said stands =
    absurd (no_open_heard (p.line m) n window packet rest
    (subst (λ xs. Hears n (p.line m) xs) said (b.halves m n (d.partners n m is)).hears))

same_open : (window packet w l : ℕ) (rest : List Saying) → Open window packet ∷ []
    ≡ Open w l ∷ rest → (w ≡ window) × (l ≡ packet) × (rest ≡ [])
same_open window packet w l rest is = (cc, cc, cc)

pub asked_first : (theirs limit own peer : ℕ) (rest : List Message) (p q : Party) → Beside p q
    → Beside q p → q.flight ≡ letter own peer (Open theirs limit) ∷ rest
    → (a : IsAsked own q) × ((theirs ≡ a.params.sender_window_size) × (limit ≡ a.packet))
asked_first theirs limit own peer rest p q b d is =
    let said : said_on own q.flight ≡ Open theirs limit ∷ said_on own rest =
    ap (said_on own) is ∙ said_next (letter own peer (Open theirs limit)) rest in
    let a = (asked_at (q.partner own) own theirs limit (said_on own rest) p q refl b d said
    (d.stands own)).1 in
    let told = same_open a.params.sender_window_size a.packet theirs limit (said_on own rest)
    (sym a.said ∙ said) in
    (a, (told.0, told.1))

module _ (window packet theirs limit own peer : ℕ) (rest : List Message) (p q : Party)
    (wide : window < 2 ^ 32) (some : 0 < packet) (small : packet < 2 ^ 32) (b : Beside p q)
    (d : Beside q p) (is : q.flight ≡ letter own peer (Open theirs limit) ∷ rest) where
  said_now : said_on own q.flight ≡ Open theirs limit ∷ said_on own rest
  said_now = ap (said_on own) is ∙ said_next (letter own peer (Open theirs limit)) rest

  asked : (q.partner own ≡ None) × IsAsked own q
  asked = asked_at (q.partner own) own theirs limit (said_on own rest) p q refl b d said_now
      (d.stands own)

  told : (theirs ≡ asked.1.params.sender_window_size) × (limit ≡ asked.1.packet)
      × (said_on own rest ≡ [])
  told = same_open asked.1.params.sender_window_size asked.1.packet theirs limit
      (said_on own rest) (sym asked.1.said ∙ said_now)

  abbrev k : ℕ
  k = p.last + 1

  abbrev line : ChannelParams
  line = established own (record { 0 = p.last + 1 }) theirs window limit packet

  abbrev near_after : Party
  near_after = partnered (p.last + 1) own (begins line own (Confirm window packet) p)

  abbrev far_after : Party
  far_after = partnered own (p.last + 1) (left rest q)

  fresh : (p.partner k ≡ None) × IsFresh k p
  fresh = next_is_fresh k p q b (omega arith)

  near_elsewhere : Elsewhere k p near_after
  near_elsewhere =
      let e = begins_elsewhere line own (Confirm window packet) p in
      record {
        grows = e.grows;
        partner = λ n other. at_other k (Some own) p.partner n other;
        line = e.line;
        accepted = e.accepted;
        delivered = e.delivered;
        closed = e.closed;
        said = e.said;
      }

  far_elsewhere : Elsewhere own q far_after
  far_elsewhere = record {
    grows = omega arith;
    partner = λ n other. at_other own (Some k) q.partner n other;
    line = λ n other. refl;
    accepted = λ n other. refl;
    delivered = λ n other. refl;
    closed = λ n other. refl;
    said = λ n other. sym (ap (said_on n) is
        ∙ said_past n (letter own peer (Open theirs limit)) rest other);
  }

  ours : near_after.partner k ≡ Some own
  ours = at_here k (Some own) p.partner

  its : far_after.partner own ≡ Some k
  its = at_here own (Some k) q.partner

  near_alone : (n m : ℕ) → p.partner n ≡ Some m → (n ≡ k → ⊥) → m ≡ own → ⊥
  near_alone n m at_p other same =
      no_value n (q.partner own)
      (subst (λ x. q.partner x ≡ Some n) same (b.partners n m at_p)) asked.0

  far_alone : (n m : ℕ) → q.partner n ≡ Some m → (n ≡ own → ⊥) → m ≡ k → ⊥
  far_alone n m at_q other same =
      no_value n (p.partner k)
      (subst (λ x. p.partner x ≡ Some n) same (d.partners n m at_q)) fresh.0

  says_confirm : said_on k near_after.flight ≡ Confirm window packet ∷ []
  says_confirm = begins_said line own (Confirm window packet) p fresh.1

  line_here : near_after.line k ≡ Some line
  line_here = at_here k (Some line) p.line

  forth_begins : Strand (way (Some line) (Some asked.1.params) [] []
      (Confirm window packet ∷ []) [])
  forth_begins =
      let n : length (data_in (Confirm window packet ∷ [])) ≡ 0 = refl in
      let g : granted_in [] ≡ 0 = refl in
      record {
        lost = [];
        rest = [];
        credit = theirs;
        room = theirs;
        bytes = refl;
        sum = omega (arith, n, g);
        small = subst (λ x. x < 2 ^ 32) (sym told.0) asked.1.small;
        at_sender = (refl, refl, tt);
        at_taker = (refl, told.0, asked.1.aimed);
      }

  come_begins : Strand (way (Some asked.1.params) (Some line) [] [] []
      (Confirm window packet ∷ []))
  come_begins =
      let n : length (data_in []) ≡ 0 = refl in
      let g : granted_in (Confirm window packet ∷ []) ≡ window + 0 = refl in
      let aimed : line.target ≡ min window (2 ^ 32 - 1) = refl in
      record {
        lost = [];
        rest = [];
        credit = 0;
        room = window;
        bytes = refl;
        sum = omega (arith, n, g);
        small = wide;
        at_sender = (
          sym (ap joined asked.1.waiting),
          sym asked.1.credit,
          subst AreCoded (sym asked.1.waiting) tt,
        );
        at_taker = (refl, refl, omega (arith, aimed));
      }

  half_here : Half k own near_after far_after
  half_here = record {
    strand = subst Strand (same_way (Some line) (near_after.line k) (Some asked.1.params)
        (q.line own) [] (p.accepted k) [] (q.delivered own) (Confirm window packet ∷ [])
        (said_on k near_after.flight) [] (said_on own rest) (sym line_here)
        (sym asked.1.line) (sym fresh.1.accepted) (sym asked.1.delivered) (sym says_confirm)
        (sym told.2)) forth_begins;
    hears = subst (λ o. Hears own o (said_on own rest)) (sym line_here)
        (refl, subst AreSaid (sym told.2) tt);
    closed = λ none. absurd (no_line line (near_after.line k) line_here none);
  }

  half_there : Half own k far_after near_after
  half_there = record {
    strand = subst Strand (same_way (Some asked.1.params) (q.line own) (Some line)
        (near_after.line k) [] (q.accepted own) [] (p.delivered k) [] (said_on own rest)
        (Confirm window packet ∷ []) (said_on k near_after.flight) (sym asked.1.line)
        (sym line_here) (sym asked.1.accepted) (sym fresh.1.delivered) (sym told.2)
        (sym says_confirm)) come_begins;
    hears = subst (λ o. Hears k o (said_on k near_after.flight)) (sym asked.1.line)
        (subst (λ xs. Hears k (Some asked.1.params) xs) (sym says_confirm)
        (subst (λ t. HearsOf t k asked.1.params (Confirm window packet ∷ []))
        (sym asked.1.confirmed) (asked.1.waiting, asked.1.credit, (some, small, tt))));
    closed = λ none. absurd (no_line asked.1.params (q.line own) asked.1.line none);
  }

  near_routed : AreRouted near_after.partner near_after.flight
  near_routed = routed_both near_after.partner p.flight _
      (routed_more p.partner near_after.partner p.flight
      (λ n m at_p. at_other k (Some own) p.partner n
      (λ same. no_value m (p.partner k) (subst (λ x. p.partner x ≡ Some m) same at_p) fresh.0)
      ∙ at_p) b.routed) (inr ours, tt)

  far_routed : AreRouted far_after.partner rest
  far_routed = routed_more q.partner far_after.partner rest
      (λ n m at_q. at_other own (Some k) q.partner n
      (λ same. no_value m (q.partner own) (subst (λ x. q.partner x ≡ Some m) same at_q) asked.0)
      ∙ at_q) (subst (AreRouted q.partner) is d.routed).1

  pub welcome_sound : IsSound (welcomes window packet own theirs limit rest (record {
    near = p;
    far = q;
  }))
  welcome_sound = (
    beside_step k own p near_after q far_after b near_elsewhere far_elsewhere near_alone ours
        its half_here (omega arith) near_routed,
    beside_step own k q far_after p near_after d far_elsewhere near_elsewhere far_alone its ours
        half_there asked.1.drawn far_routed,
  )
