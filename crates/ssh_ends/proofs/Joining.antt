-- Two ends keep two sides at each event.
use Rattle.std.proofs.Common.{◌≡◌, ◌≤◌, ◌<◌, ◌+◌, ◌^◌, ℕ, Bool, true, false, List}
use Rattle.std.proofs.Common.{◌∷◌, length, refl, sym, ◌∙◌, ap, subst, Option, Some}
use Rattle.std.proofs.Common.{None, arith, length-append}
use Rattle.ssh_channels.specs.declared.params.ChannelParams.{ChannelParams}
use Rattle.ssh_channels.specs.declared.chunk.Chunk.{Chunk}
use Rattle.ssh_channels.specs.Entry.{tagged}
use Rattle.ssh_channels.specs.Line as line
use Rattle.ssh_channels.specs.Table.{is_one}
use Rattle.ssh_channels.proofs.Joined.{tagged_length}
use Rattle.ssh_ends.specs.Incoming.{Says}
use Rattle.ssh_ends.specs.Saying.{Saying, Open, Confirm, Grant, Data, Eof, Close, Message, letter}
use Rattle.ssh_ends.specs.Saying.{heard_in, frame_saying, is_open}
use Rattle.ssh_ends.specs.Pair.{Party}
use Rattle.ssh_ends.specs.Strand.{IsCoded, said_on, data_in, granted_in}
use Rattle.ssh_ends.specs.Sound.{HearsOf, Hears, Beside}
use Rattle.ssh_ends.specs.declared.incoming.Incoming.{Incoming}
use Rattle.ssh_ends.proofs.Sides.{said_next}
use Rattle.ssh_ends.proofs.Events.{goes_to, drawn_of}
use Rattle.ssh_ends.proofs.Openings.{asked_first}
use Rattle.ssh_ends.proofs.Heard.{HasRoom, says_once, says_it}

-- ---- what the first message says has room in a frame

coded_at : (b : Bool) (m : ℕ) (l : ChannelParams) (piece : Chunk) (inward : List Saying)
    → HearsOf b m l (Data piece ∷ inward) → IsCoded piece.kind
coded_at true m l piece inward h = h.1.0
coded_at false m l piece inward h = absurd h.2

coded_of : (o : Option ChannelParams) (m : ℕ) (piece : Chunk) (inward : List Saying)
    → Hears m o (Data piece ∷ inward) → IsCoded piece.kind
coded_of None m piece inward h = h.0
coded_of (Some l) m piece inward h = coded_at l.confirmed m l piece inward h

-- a confirmation comes to a side that waits for it
abbrev pub Waits : Option ChannelParams → (packet : ℕ) → Type 0
Waits o packet = (0 < packet) × (packet < 2 ^ 32) × (is_one line.is_opening o ≡ true)

waits_at : (b : Bool) (m window packet : ℕ) (l : ChannelParams) (inward : List Saying)
    → l.confirmed ≡ b → HearsOf b m l (Confirm window packet ∷ inward) → Waits (Some l) packet
waits_at true m window packet l inward is h = absurd h.1.0
waits_at false m window packet l inward is h = (h.2.0, h.2.1, rw is refl)

pub waits_of : (o : Option ChannelParams) (m window packet : ℕ) (inward : List Saying)
    → Hears m o (Confirm window packet ∷ inward) → Waits o packet
waits_of None m window packet inward h = absurd h.0
waits_of (Some l) m window packet inward h =
    waits_at l.confirmed m window packet l inward refl h

module _ (p q : Party) (x : Message) (rest : List Message) (b : Beside p q) (d : Beside q p)
    (is : q.flight ≡ x ∷ rest) (denied : is_open x.saying ≡ false) where
  to_it : q.partner x.own ≡ Some x.peer
  to_it = goes_to p q x rest d is denied

  from_it : p.partner x.peer ≡ Some x.own
  from_it = d.partners x.own x.peer to_it

  comes : said_on x.own q.flight ≡ x.saying ∷ said_on x.own rest
  comes = ap (said_on x.own) is ∙ said_next x rest

  pub first_heard : Hears x.own (p.line x.peer) (x.saying ∷ said_on x.own rest)
  first_heard =
      subst (λ xs. Hears x.own (p.line x.peer) xs) comes (b.halves x.peer x.own from_it).hears

  pub first_own : x.own ≤ q.last
  first_own = drawn_of q p x.own x.peer d to_it

  pub first_peer : x.peer ≤ p.last
  first_peer = drawn_of p q x.peer x.own b from_it

  pub first_granted : granted_in (x.saying ∷ said_on x.own rest) < 2 ^ 32
  first_granted =
      let s = (b.halves x.peer x.own from_it).strand in
      omega (arith, s.sum, s.small, ap granted_in comes)

  pub first_length : length (data_in (x.saying ∷ said_on x.own rest)) < 2 ^ 32
  first_length =
      let s = (d.halves x.own x.peer to_it).strand in
      omega (arith, s.sum, s.small, ap (λ xs. length (data_in xs)) comes)

module _ (p q : Party) (b : Beside p q) (d : Beside q p) where
  room_first : (x : Saying) (own peer : ℕ) (rest : List Message)
      → q.flight ≡ letter own peer x ∷ rest → HasRoom x
  room_first (Open window packet) own peer rest is =
      let a = asked_first window packet own peer rest p q b d is in (
        subst (λ n. n < 2 ^ 32) (sym a.1.0) a.0.small,
        subst (λ n. 0 < n) (sym a.1.1) a.0.positive,
        subst (λ n. n < 2 ^ 32) (sym a.1.1) a.0.fits,
      )
  room_first (Confirm window packet) own peer rest is =
      let m = letter own peer (Confirm window packet) in
      let w = waits_of (p.line peer) own window packet (said_on own rest)
      (first_heard p q m rest b d is refl) in
      let g : granted_in (Confirm window packet ∷ said_on own rest)
      ≡ window + granted_in (said_on own rest) = refl in
      (omega (arith, first_granted p q m rest b d is refl, g), w.0, w.1)
  room_first (Grant amount) own peer rest is =
      let m = letter own peer (Grant amount) in
      let g : granted_in (Grant amount ∷ said_on own rest)
      ≡ amount + granted_in (said_on own rest) = refl in
      omega (arith, first_granted p q m rest b d is refl, g)
  room_first (Data piece) own peer rest is =
      let m = letter own peer (Data piece) in (
        coded_of (p.line peer) own piece (said_on own rest)
            (first_heard p q m rest b d is refl),
        omega (
          arith,
          first_length p q m rest b d is refl,
          length-append (tagged piece) (data_in (said_on own rest)),
          tagged_length piece,
        ),
      )
  room_first Eof own peer rest is = tt
  room_first Close own peer rest is = tt

  -- it says one thing, and says it
  abbrev IsOnce : Saying → (own peer : ℕ) → Type 0
  IsOnce x own peer = ((said : Incoming) → Says said (frame_saying own peer x).payload
      → said ≡ heard_in own peer x) × Says (heard_in own peer x) (frame_saying own peer x).payload

  once_other : (x : Saying) (own peer : ℕ) (rest : List Message)
      → q.flight ≡ letter own peer x ∷ rest → p.last < 2 ^ 32 → q.last < 2 ^ 32
      → is_open x ≡ false → IsOnce x own peer
  once_other x own peer rest is near far denied =
      let m = letter own peer x in
      let mine : own < 2 ^ 32 = omega (arith, first_own p q m rest b d is denied, far) in
      let yours : peer < 2 ^ 32 = omega (arith, first_peer p q m rest b d is denied, near) in
      let room = room_first x own peer rest is in (
        λ said says. says_once own peer mine yours x said room says,
        says_it own peer mine yours x room,
      )

  pub once : (x : Saying) (own peer : ℕ) (rest : List Message)
      → q.flight ≡ letter own peer x ∷ rest → p.last < 2 ^ 32 → q.last < 2 ^ 32
      → IsOnce x own peer
  once (Open window packet) own peer rest is near far =
      let a = asked_first window packet own peer rest p q b d is in
      let mine : own < 2 ^ 32 = omega (arith, a.0.drawn, far) in
      let room = room_first (Open window packet) own peer rest is in (
        λ said says. says_once own 0 mine (omega arith) (Open window packet) said room says,
        says_it own 0 mine (omega arith) (Open window packet) room,
      )
  once (Confirm window packet) own peer rest is near far =
      once_other (Confirm window packet) own peer rest is near far refl
  once (Grant amount) own peer rest is near far =
      once_other (Grant amount) own peer rest is near far refl
  once (Data piece) own peer rest is near far =
      once_other (Data piece) own peer rest is near far refl
  once Eof own peer rest is near far = once_other Eof own peer rest is near far refl
  once Close own peer rest is near far = once_other Close own peer rest is near far refl
