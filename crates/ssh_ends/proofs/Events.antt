-- Each event keeps two sides sound.
use Rattle.std.proofs.Common.{◌≡◌, ◌≤◌, ◌<◌, ◌^◌, ℕ, true, false, List}
use Rattle.std.proofs.Common.{[], ◌∷◌, ◌++◌, ◌||◌, refl, sym, ◌∙◌, ap, subst, Option, Some, None}
use Rattle.std.proofs.Common.{◌⊎◌, inl, inr}
use Rattle.std.proofs.lemmas.List.{append-nil}
use Rattle.std.specs.List.{list_any}
use Rattle.ssh_channels.specs.declared.params.ChannelParams.{ChannelParams}
use Rattle.ssh_ends.specs.Saying.{Saying, Open, Message, is_open, is_close}
use Rattle.ssh_ends.specs.Change.{Change, silent, hearing}
use Rattle.ssh_ends.specs.Pair.{Party, Pair, changed, changed_at, on_channel, left}
use Rattle.ssh_ends.specs.Pair.{hears}
use Rattle.ssh_ends.specs.Strand.{Strand, direction, said_on}
use Rattle.ssh_ends.specs.Sound.{AreSaid, Hears, Half, IsAsked}
use Rattle.ssh_ends.specs.Sound.{Stands, AreRouted, Beside, IsSound}
use Rattle.ssh_ends.proofs.Strands.{way, Turn, hears_more, gone_forth, gone_come}
use Rattle.ssh_ends.proofs.Turns.{IsLike, Own}
use Rattle.ssh_ends.proofs.Hearings.{second_true, heard_turn}
use Rattle.ssh_ends.proofs.Sides.{Elsewhere, all_same, changed_elsewhere, left_elsewhere, same_way}
use Rattle.ssh_ends.proofs.Sides.{at_here, one_value, said_next}
use Rattle.ssh_ends.proofs.Sides.{more_here, beside_step, lone_near, lone_far}
use Rattle.ssh_ends.proofs.Sides.{routed_both, letters_routed}

pub no_line : (l : ChannelParams) (o : Option ChannelParams) → o ≡ Some l → o ≡ None → ⊥
no_line l o is none = let e : Some l ≡ None = sym is ∙ none in cc

pub one_line : (l k : ChannelParams) (o : Option ChannelParams) → o ≡ Some l → o ≡ Some k → l ≡ k
one_line l k o is also = let e : Some l ≡ Some k = sym is ∙ also in cc

-- an opened channel has one number at each side
alone_of : (p q : Party) (k j : ℕ) → Beside p q → q.partner j ≡ Some k → (n m : ℕ)
    → p.partner n ≡ Some m → (n ≡ k → ⊥) → m ≡ j → ⊥
alone_of p q k j b theirs n m is other same =
    other (one_value n k (q.partner j)
    (subst (λ x. q.partner x ≡ Some n) same (b.partners n m is)) theirs)

pub drawn_of : (p q : Party) (k j : ℕ) → Beside p q → p.partner k ≡ Some j → k ≤ p.last
drawn_of p q k j b is = subst (Stands k p) is (b.stands k)

route_of : (p : Party) (k j : ℕ) (l : ChannelParams) (c : Change) → p.partner k ≡ Some j
    → (c.says ≡ []) ⊎ (l.recipient_channel ≡ j)
    → (c.says ≡ []) ⊎ (p.partner k ≡ Some l.recipient_channel)
route_of p k j l c is (inl none) = inl none
route_of p k j l c is (inr number) = inr (is ∙ ap (λ n. Some n) (sym number))

-- ---- an opened channel changes at one side, which may take the next message of it

module _ (p q : Party) (k j : ℕ) (l : ChannelParams) (c : Change) (taken : List Saying)
    (rest : List Message) (b : Beside p q) (d : Beside q p) (ours : p.partner k ≡ Some j)
    (line : p.line k ≡ Some l) (t : Turn j l taken c) (f : Elsewhere j q (left rest q))
    (said : said_on j q.flight ≡ taken ++ said_on j rest) where
  theirs : q.partner j ≡ Some k
  theirs = b.partners k j ours

  here : Half k j p q
  here = b.halves k j ours

  there : Half j k q p
  there = d.halves j k theirs

  heard_now : Hears j (Some l) (taken ++ said_on j rest)
  heard_now = subst (λ o. Hears j o (taken ++ said_on j rest)) line
      (subst (λ xs. Hears j (p.line k) xs) said here.hears)

  forth_now : Strand (way (Some l) (q.line j) (p.accepted k) (q.delivered j) (said_on k p.flight)
      (taken ++ said_on j rest))
  forth_now = subst Strand (same_way (p.line k) (Some l) (q.line j) (q.line j) (p.accepted k)
      (p.accepted k) (q.delivered j) (q.delivered j) (said_on k p.flight) (said_on k p.flight)
      (said_on j q.flight) (taken ++ said_on j rest) line refl refl refl refl said) here.strand

  come_now : Strand (way (q.line j) (Some l) (q.accepted j) (p.delivered k)
      (taken ++ said_on j rest) (said_on k p.flight))
  come_now = subst Strand (same_way (q.line j) (q.line j) (p.line k) (Some l) (q.accepted j)
      (q.accepted j) (p.delivered k) (p.delivered k) (said_on j q.flight)
      (taken ++ said_on j rest) (said_on k p.flight) (said_on k p.flight) refl line refl refl said
      refl) there.strand

  says_now : AreSaid c.says
  says_now = t.said forth_now.at_sender.2

  out_now : said_on k (changed k l c p).flight ≡ said_on k p.flight ++ c.says
  out_now = more_here k l.recipient_channel p.flight c.says

  line_now : (changed k l c p).line k ≡ c.after
  line_now = at_here k c.after p.line

  new_here : Half k j (changed k l c p) (left rest q)
  new_here = record {
    strand = subst Strand (same_way c.after ((changed k l c p).line k) (q.line j) (q.line j)
        (p.accepted k ++ c.accepts) ((changed k l c p).accepted k) (q.delivered j) (q.delivered j)
        (said_on k p.flight ++ c.says) (said_on k (changed k l c p).flight) (said_on j rest)
        (said_on j rest) (sym line_now) refl
        (sym (at_here k (p.accepted k ++ c.accepts) p.accepted)) refl (sym out_now) refl)
        (t.forth (q.line j) (p.accepted k) (q.delivered j) (said_on k p.flight) (said_on j rest)
        heard_now forth_now);
    hears = subst (λ o. Hears j o (said_on j rest)) (sym line_now)
        (t.hears (said_on j rest) heard_now);
    closed = λ none. at_here k (p.closed k || list_any is_close c.says) p.closed
        ∙ second_true (p.closed k) (list_any is_close c.says) (t.shuts (sym line_now ∙ none));
  }

  new_there : Half j k (left rest q) (changed k l c p)
  new_there = record {
    strand = subst Strand (same_way (q.line j) (q.line j) c.after ((changed k l c p).line k)
        (q.accepted j) (q.accepted j) (p.delivered k ++ c.delivers)
        ((changed k l c p).delivered k) (said_on j rest) (said_on j rest)
        (said_on k p.flight ++ c.says) (said_on k (changed k l c p).flight) refl (sym line_now)
        refl (sym (at_here k (p.delivered k ++ c.delivers) p.delivered)) refl (sym out_now))
        (t.come (q.line j) (q.accepted j) (p.delivered k) (said_on j rest) (said_on k p.flight)
        heard_now come_now);
    hears = subst (λ xs. Hears k (q.line j) xs) (sym out_now)
        (hears_more k (q.line j) (said_on k p.flight) c.says says_now there.hears);
    closed = there.closed;
  }

  pub changes : AreRouted q.partner rest
      → Beside (changed k l c p) (left rest q) × Beside (left rest q) (changed k l c p)
  changes routed = (
    beside_step k j p (changed k l c p) q (left rest q) b (changed_elsewhere k l c p) f
        (alone_of p q k j b theirs) ours theirs new_here (drawn_of p q k j b ours)
        (routed_both p.partner p.flight _ b.routed (letters_routed p.partner k l.recipient_channel
        c.says (route_of p k j l c ours (t.routes (said_on j rest) heard_now)))),
    beside_step j k q (left rest q) p (changed k l c p) d f (changed_elsewhere k l c p)
        (alone_of q p j k d ours) theirs ours new_there (drawn_of q p j k d theirs) routed,
  )

-- ---- what a side does itself

-- its open of the channel is under way
asked_still : (k : ℕ) (l l' : ChannelParams) (p : Party) → IsLike l l' → (a : IsAsked k p)
    → a.params ≡ l → IsAsked k (changed k l (silent (Some l')) p)
asked_still k l l' p like a is =
    let room : l'.sender_window_size ≡ a.params.sender_window_size =
    like.room ∙ ap (λ (x : ChannelParams). x.sender_window_size) (sym is) in
    record {
      drawn = a.drawn;
      params = l';
      packet = a.packet;
      line = at_here k (Some l') p.line;
      confirmed = like.confirmed
          ∙ (ap (λ (x : ChannelParams). x.confirmed) (sym is) ∙ a.confirmed);
      waiting = like.waiting ∙ (ap (λ (x : ChannelParams). x.waiting) (sym is) ∙ a.waiting);
      credit = like.credit
          ∙ (ap (λ (x : ChannelParams). x.recipient_window_size) (sym is) ∙ a.credit);
      small = subst (λ n. n < 2 ^ 32) (sym room) a.small;
      aimed = like.target (subst (λ (x : ChannelParams). x.target < 2 ^ 32) is a.aimed);
      positive = a.positive;
      fits = a.fits;
      accepted = at_here k (p.accepted k ++ []) p.accepted
          ∙ (append-nil (p.accepted k) ∙ a.accepted);
      delivered = at_here k (p.delivered k ++ []) p.delivered
          ∙ (append-nil (p.delivered k) ∙ a.delivered);
      said = more_here k l.recipient_channel p.flight []
          ∙ (append-nil (said_on k p.flight)
          ∙ (a.said ∙ ap (λ n. Open n a.packet ∷ []) (sym room)));
    }

silent_sound : (p q : Party) (k : ℕ) (l l' : ChannelParams) → Beside p q → Beside q p
    → p.partner k ≡ None → IsLike l l' → (a : IsAsked k p) → a.params ≡ l
    → IsSound (record { near = changed k l (silent (Some l')) p; far = q })
silent_sound p q k l l' b d none like a is =
    let p' = changed k l (silent (Some l')) p in
    let e = changed_elsewhere k l (silent (Some l')) p in (
      lone_near k p p' q e none none b (inr (asked_still k l l' p like a is))
          (routed_both p.partner p.flight _ b.routed (letters_routed p.partner k
          l.recipient_channel [] (inl refl))),
      lone_far k p p' q e none none d,
    )

asked_own : (p q : Party) (k : ℕ) (l : ChannelParams) (c : Change) → Beside p q → Beside q p
    → p.partner k ≡ None → p.line k ≡ Some l → Own l c → Stands k p None
    → IsSound (record { near = changed k l c p; far = q })
asked_own p q k l c b d none line own (inl fresh) = absurd (no_line l (p.line k) line fresh.line)
asked_own p q k l c b d none line own (inr a) =
    let is : a.params ≡ l = one_line a.params l (p.line k) a.line line in
    let same = own.asked (subst (λ (x : ChannelParams). x.confirmed ≡ false) is a.confirmed) in
    subst (λ x. IsSound (record { near = changed k l x p; far = q })) (sym same.1)
    (silent_sound p q k l same.0 b d none same.2 a is)

own_of : (o : Option ℕ) (p q : Party) (k : ℕ) (l : ChannelParams) (c : Change) → p.partner k ≡ o
    → p.line k ≡ Some l → Own l c → IsSound (record { near = p; far = q })
    → IsSound (record { near = changed k l c p; far = q })
own_of None p q k l c none line own s =
    asked_own p q k l c s.0 s.1 none line own (subst (Stands k p) none (s.0.stands k))
own_of (Some j) p q k l c ours line own s =
    changes p q k j l c [] q.flight s.0 s.1 ours line (own.turn j) (all_same j q) refl s.1.routed

own_at : (o : Option ChannelParams) (k : ℕ) (change : ChannelParams → Change) (w : Pair)
    → w.near.line k ≡ o → ((l : ChannelParams) → Own l (change l)) → IsSound w
    → IsSound (record w { near = changed_at k change o w.near })
own_at None k change w line own s = s
own_at (Some l) k change w line own s =
    own_of (w.near.partner k) w.near w.far k l (change l) refl line (own l) s

pub own_sound : (k : ℕ) (change : ChannelParams → Change) (w : Pair)
    → ((l : ChannelParams) → Own l (change l)) → IsSound w
    → IsSound (record w { near = on_channel k change w.near })
own_sound k change w own s = own_at (w.near.line k) k change w refl own s

-- ---- what it takes

routed_first : (partner : ℕ → Option ℕ) (x : Message) → is_open x.saying ≡ false
    → (is_open x.saying ≡ true) ⊎ (partner x.own ≡ Some x.peer) → partner x.own ≡ Some x.peer
routed_first partner x denied (inl asks) = absurd (let e : true ≡ false = sym asks ∙ denied in cc)
routed_first partner x denied (inr is) = is

-- the number of the side that takes it
pub goes_to : (p q : Party) (x : Message) (rest : List Message) → Beside q p
    → q.flight ≡ x ∷ rest → is_open x.saying ≡ false → q.partner x.own ≡ Some x.peer
goes_to p q x rest d is denied =
    routed_first q.partner x denied (subst (AreRouted q.partner) is d.routed).0

module _ (p q : Party) (x : Message) (rest : List Message) (b : Beside p q) (d : Beside q p)
    (is : q.flight ≡ x ∷ rest) (denied : is_open x.saying ≡ false) where
  to_it : q.partner x.own ≡ Some x.peer
  to_it = goes_to p q x rest d is denied

  from_it : p.partner x.peer ≡ Some x.own
  from_it = d.partners x.own x.peer to_it

  comes : said_on x.own q.flight ≡ x.saying ∷ said_on x.own rest
  comes = ap (said_on x.own) is ∙ said_next x rest

  routed_rest : AreRouted q.partner rest
  routed_rest = (subst (AreRouted q.partner) is d.routed).1

  forth_gone : p.line x.peer ≡ None
      → Strand (direction x.peer x.own p (left rest q))
  forth_gone none =
      subst Strand (same_way None (p.line x.peer) (q.line x.own) (q.line x.own)
      (p.accepted x.peer) (p.accepted x.peer) (q.delivered x.own) (q.delivered x.own)
      (said_on x.peer p.flight) (said_on x.peer p.flight) (said_on x.own rest)
      (said_on x.own rest) (sym none) refl refl refl refl refl)
      (gone_forth (q.line x.own) (p.accepted x.peer) (q.delivered x.own) x.saying
      (said_on x.peer p.flight) (said_on x.own rest)
      (subst Strand (same_way (p.line x.peer) None (q.line x.own) (q.line x.own)
      (p.accepted x.peer) (p.accepted x.peer) (q.delivered x.own) (q.delivered x.own)
      (said_on x.peer p.flight) (said_on x.peer p.flight) (said_on x.own q.flight)
      (x.saying ∷ said_on x.own rest) none refl refl refl refl comes)
      (b.halves x.peer x.own from_it).strand))

  come_gone : p.line x.peer ≡ None → Strand (direction x.own x.peer (left rest q) p)
  come_gone none =
      subst Strand (same_way (q.line x.own) (q.line x.own) None (p.line x.peer)
      (q.accepted x.own) (q.accepted x.own) (p.delivered x.peer) (p.delivered x.peer)
      (said_on x.own rest) (said_on x.own rest) (said_on x.peer p.flight)
      (said_on x.peer p.flight) refl (sym none) refl refl refl refl)
      (gone_come (q.line x.own) (q.accepted x.own) (p.delivered x.peer) x.saying
      (said_on x.own rest) (said_on x.peer p.flight)
      (subst Strand (same_way (q.line x.own) (q.line x.own) (p.line x.peer) None
      (q.accepted x.own) (q.accepted x.own) (p.delivered x.peer) (p.delivered x.peer)
      (said_on x.own q.flight) (x.saying ∷ said_on x.own rest) (said_on x.peer p.flight)
      (said_on x.peer p.flight) refl none refl refl comes refl)
      (d.halves x.own x.peer to_it).strand))

  gone_hears : p.line x.peer ≡ None → Hears x.own (p.line x.peer) (said_on x.own rest)
  gone_hears none =
      let h : AreSaid (x.saying ∷ said_on x.own rest) =
      subst (λ o. Hears x.own o (x.saying ∷ said_on x.own rest)) none
      (subst (λ xs. Hears x.own (p.line x.peer) xs) comes (b.halves x.peer x.own from_it).hears) in
      subst (λ o. Hears x.own o (said_on x.own rest)) (sym none) h.1

  -- its channel is gone
  gone_sound : p.line x.peer ≡ None → IsSound (record { near = p; far = left rest q })
  gone_sound none =
      let f = left_elsewhere x rest q is in (
        beside_step x.peer x.own p p q (left rest q) b (all_same x.peer p) f
            (alone_of p q x.peer x.own b to_it) from_it to_it
            (record {
              strand = forth_gone none;
              hears = gone_hears none;
              closed = (b.halves x.peer x.own from_it).closed;
            }) (drawn_of p q x.peer x.own b from_it) b.routed,
        beside_step x.own x.peer q (left rest q) p p d f (all_same x.peer p)
            (alone_of q p x.own x.peer d from_it) to_it from_it
            (record {
              strand = come_gone none;
              hears = (d.halves x.own x.peer to_it).hears;
              closed = (d.halves x.own x.peer to_it).closed;
            }) (drawn_of q p x.own x.peer d to_it) routed_rest,
      )

  heard_of : (o : Option ChannelParams) → p.line x.peer ≡ o → IsSound (record {
    near = changed_at x.peer (hearing x.own x.saying) o p;
    far = left rest q;
  })
  heard_of None none = gone_sound none
  heard_of (Some l) line =
      changes p q x.peer x.own l (hearing x.own x.saying l) (x.saying ∷ []) rest b d from_it line
      (heard_turn x.own x.saying l denied) (left_elsewhere x rest q is) comes routed_rest

  pub heard_sound : IsSound (hears x.own x.peer x.saying rest (record { near = p; far = q }))
  heard_sound = heard_of (p.line x.peer) refl
