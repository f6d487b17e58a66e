-- One of two ends turns to an event, as its side does.
use Rattle.std.proofs.Common.{◌≡◌, ◌≤◌, ◌<◌, ◌+◌, ◌^◌, ℕ, true, false, List, [], ◌∷◌}
use Rattle.std.proofs.Common.{◌++◌, map, length, refl, sym, ◌∙◌, ap, subst, Option, Some, None}
use Rattle.std.proofs.Common.{inl, inr, arith}
use Rattle.std.proofs.lemmas.List.{append-nil}
use Rattle.ssh_link.specs.Frames.{Frame}
use Rattle.ssh_channels.specs.declared.params.ChannelParams.{ChannelParams}
use Rattle.ssh_channels.specs.declared.chunk.Chunk.{Chunk}
use Rattle.ssh_channels.specs.Layout.{chunk}
use Rattle.ssh_channels.specs.Line as line
use Rattle.ssh_channels.specs.Table.{Table, line_at, is_one}
use Rattle.ssh_channels.specs.Numbers as numbers
use Rattle.ssh_channels.specs.Calls as calls
use Rattle.ssh_ends.specs.End.{EndTable, with_table, kind_of, Takes, TakesNot, taking, passing}
use Rattle.ssh_ends.specs.End.{unless_dropped, HasNoNumber, IsUncalledFor, accepts_under}
use Rattle.ssh_ends.specs.End.{opens as opens_own}
use Rattle.ssh_ends.specs.Saying.{Saying, Open, Confirm, Grant, Data, Eof, Close, Message, letter}
use Rattle.ssh_ends.specs.Saying.{heard_in, frame_of, frame_saying, code_of}
use Rattle.ssh_ends.specs.Pair.{Party, Pair, begins, left, partnered, takes_said, takes_of}
use Rattle.ssh_ends.specs.Pair.{gives_at, gives_said, gives_of, changed_at, on_channel}
use Rattle.ssh_ends.specs.Change.{Change, sending, ending, closing, aiming, hearing}
use Rattle.ssh_ends.specs.Strand.{said_on}
use Rattle.ssh_ends.specs.Sound.{Beside}
use Rattle.ssh_ends.specs.Run.{acts, gives_now}
use Rattle.ssh_ends.specs.Ends.{Post, Keeps, IsPost, handed_on, Accepted, accepting, opened_as}
use Rattle.ssh_ends.specs.Ends.{TookOf, TakesNone, Turned, Stops}
use Rattle.ssh_ends.specs.declared.end.Delivered.{Delivered}
use Rattle.ssh_ends.specs.declared.error.EndError.{EndError}
use Rattle.ssh_ends.specs.declared.error.EndError.TheVariants as error
use Rattle.ssh_ends.specs.declared.event.EndEvent.{EndEvent}
use Rattle.ssh_ends.specs.declared.event.EndEvent.TheVariants as event
use Rattle.ssh_ends.proofs.Joining.{Waits, waits_of, first_heard, once}
use Rattle.ssh_ends.proofs.Keeping.{keeps_same, keeps_send, keeps_eof, keeps_close, keeps_target}
use Rattle.ssh_ends.proofs.Keeping.{keeps_grant, keeps_peer_close, keeps_confirm, keeps_data}
use Rattle.ssh_ends.proofs.Keeping.{next_is, keeps_begun, keeps_welcome}

-- ---- no side draws back

changed_last : (o : Option ChannelParams) (k : ℕ) (change : ChannelParams → Change) (p : Party)
    → (changed_at k change o p).last ≡ p.last
changed_last None k change p = refl
changed_last (Some l) k change p = refl

same_last : (k : ℕ) (change : ChannelParams → Change) (p : Party)
    → p.last ≤ (on_channel k change p).last
same_last k change p = omega (arith, changed_last (p.line k) k change p)

-- a side draws one number or none, and the other none
pub record Draws (w w' : Pair) : Type 0 where
  pub near : w.near.last ≤ w'.near.last
  pub far : w'.far.last ≡ w.far.last

draws_said : (window packet own peer : ℕ) (x : Saying) (rest : List Message) (w : Pair)
    → Draws w (takes_said window packet own peer x rest w)
draws_said window packet own peer (Open theirs limit) rest w =
    let e : (takes_said window packet own peer (Open theirs limit) rest w).near.last
    ≡ w.near.last + 1 = refl in
    record { near = omega (arith, e); far = refl }
draws_said window packet own peer (Confirm v l) rest w =
    record { near = same_last peer (hearing own (Confirm v l)) w.near; far = refl }
draws_said window packet own peer (Grant amount) rest w =
    record { near = same_last peer (hearing own (Grant amount)) w.near; far = refl }
draws_said window packet own peer (Data piece) rest w =
    record { near = same_last peer (hearing own (Data piece)) w.near; far = refl }
draws_said window packet own peer Eof rest w =
    record { near = same_last peer (hearing own Eof) w.near; far = refl }
draws_said window packet own peer Close rest w =
    record { near = same_last peer (hearing own Close) w.near; far = refl }

draws_of : (window packet : ℕ) (ms : List Message) (w : Pair)
    → Draws w (takes_of window packet ms w)
draws_of window packet [] w = record { near = omega arith; far = refl }
draws_of window packet (m ∷ rest) w = draws_said window packet m.own m.peer m.saying rest w

pub acts_draws : (window packet : ℕ) (e : EndEvent) (w : Pair) → Draws w (acts window packet e w)
acts_draws window packet (event.Open side) w =
    let e : (acts window packet (event.Open side) w).near.last ≡ w.near.last + 1 = refl in
    record { near = omega (arith, e); far = refl }
acts_draws window packet (event.Data side channel ext bytes) w =
    record { near = same_last channel.0 (sending (chunk (kind_of ext) bytes)) w.near; far = refl }
acts_draws window packet (event.Eof side channel) w =
    record { near = same_last channel.0 ending w.near; far = refl }
acts_draws window packet (event.Close side channel) w =
    record { near = same_last channel.0 closing w.near; far = refl }
acts_draws window packet (event.Target side channel target) w =
    record { near = same_last channel.0 (aiming target) w.near; far = refl }
acts_draws window packet (event.Move side) w = draws_of window packet w.far.flight w

-- ---- frames are handed on

handed_keeps : (t : Table) (flight : List Frame) (p : Party) → Keeps t flight p
    → Keeps (record t { staged = [] }) (flight ++ t.staged) p
handed_keeps t flight p h = record {
  rises = h.rises;
  lines = h.lines;
  pending = h.pending;
  last = h.last;
  frames = append-nil (flight ++ t.staged) ∙ h.frames;
}

post_after : (window packet : ℕ) (x : Post) (t : Table) (p p' : Party) → IsPost window packet x p
    → Keeps t x.flight p' → IsPost window packet (handed_on (with_table t x.end) x.flight) p'
post_after window packet x t p p' h keeps = record {
  window_is = h.window_is;
  packet_is = h.packet_is;
  keeps = handed_keeps t x.flight p' keeps;
  handed = refl;
}

pub flight_is : (window packet : ℕ) (y : Post) (q : Party) → IsPost window packet y q
    → y.flight ≡ map frame_of q.flight
flight_is window packet y q h =
    sym (append-nil y.flight) ∙ ap (λ fs. y.flight ++ fs) (sym h.handed) ∙ h.keeps.frames

left_post : (window packet : ℕ) (y : Post) (q : Party) (rest : List Message)
    → IsPost window packet y q
    → IsPost window packet (record y { flight = map frame_of rest }) (left rest q)
left_post window packet y q rest h = record {
  window_is = h.window_is;
  packet_is = h.packet_is;
  keeps = record {
    rises = h.keeps.rises;
    lines = h.keeps.lines;
    pending = h.keeps.pending;
    last = h.keeps.last;
    frames = ap (λ fs. map frame_of rest ++ fs) h.handed ∙ append-nil (map frame_of rest);
  };
  handed = h.handed;
}

partnered_post : (window packet own k : ℕ) (y : Post) (q : Party) → IsPost window packet y q
    → IsPost window packet y (partnered own k q)
partnered_post window packet own k y q h = record {
  window_is = h.window_is;
  packet_is = h.packet_is;
  keeps = record {
    rises = h.keeps.rises;
    lines = h.keeps.lines;
    pending = h.keeps.pending;
    last = h.keeps.last;
    frames = h.keeps.frames;
  };
  handed = h.handed;
}

-- both ends keep both sides, and this is delivered
abbrev pub Follow : (window packet : ℕ) → (near far : Post) → Pair → (d given : Option Delivered)
    → Type 0
Follow window packet near far w d given =
    IsPost window packet near w.near × IsPost window packet far w.far × (d ≡ given)

module _ (window packet : ℕ) (x y : Post) (p q : Party) (here : IsPost window packet x p)
    (there : IsPost window packet y q) (b : Beside p q) (d : Beside q p) (far : q.last < 2 ^ 32) where
  abbrev w : Pair
  w = record { near = p; far = q }

  abbrev table : Table
  table = x.end.table

  -- ---- it opens a channel, or accepts one

  sized : (P : (window packet : ℕ) → Type 0) → P x.end.window x.end.packet → P window packet
  sized P h = subst (λ v. P v packet) here.window_is
      (subst (λ v. P x.end.window v) here.packet_is h)

  opens_keeps : p.last + 1 < 2 ^ 32 → Keeps (opened_as (numbers.next_number table) x.end) x.flight
      (begins (line.opening (p.last + 1) window packet) 0 (Open window packet) p)
  opens_keeps room =
      let k = p.last + 1 in
      subst (λ o. Keeps (opened_as o x.end) x.flight
      (begins (line.opening k window packet) 0 (Open window packet) p))
      (sym (next_is table x.flight p q here.keeps b room))
      (sized (λ v l. Keeps (opens_own k x.end) x.flight
      (begins (line.opening k v l) 0 (Open v l) p))
      (keeps_begun table x.flight p q here.keeps b room x.end.window x.end.packet 0
      (Open x.end.window x.end.packet)))

  welcome_keeps : (own theirs limit : ℕ) → p.last + 1 < 2 ^ 32
      → Keeps (accepts_under (numbers.next_number table) own theirs limit x.end) x.flight
      (partnered (p.last + 1) own (begins (line.established own (record { 0 = p.last + 1 }) theirs
      window limit packet) own (Confirm window packet) p))
  welcome_keeps own theirs limit room =
      let k = p.last + 1 in
      subst (λ o. Keeps (accepts_under o own theirs limit x.end) x.flight
      (partnered k own (begins (line.established own (record { 0 = k }) theirs window limit packet)
      own (Confirm window packet) p)))
      (sym (next_is table x.flight p q here.keeps b room))
      (sized (λ v l. Keeps (accepts_under (Some k) own theirs limit x.end) x.flight
      (partnered k own (begins (line.established own (record { 0 = k }) theirs v limit l) own
      (Confirm v l) p)))
      (keeps_welcome table x.flight p q here.keeps b room x.end.window x.end.packet own theirs
      limit))

  -- ---- it accepts something

  accepts : (e : EndEvent) (x' y' : Post) (given : Option Delivered) (p' : Party)
      → Keeps (accepting e x.end) x.flight p' → Accepted e x x' → y' ≡ y → given ≡ None
      → Follow window packet x' y' (record { near = p'; far = q }) given None
  accepts e x' y' given p' keeps is same none = (
    subst (λ z. IsPost window packet z p') (sym is)
        (post_after window packet x (accepting e x.end) p p' here keeps),
    subst (λ z. IsPost window packet z q) (sym same) there,
    none,
  )

  -- ---- it takes a message

  taking_keeps : (m : Saying) (own peer : ℕ) (rest : List Message)
      → (takes_said window packet own peer m rest w).near.last < 2 ^ 32
      → Keeps (taking (heard_in own peer m) x.end) x.flight
      (takes_said window packet own peer m rest w).near
  taking_keeps (Open theirs limit) own peer rest room = welcome_keeps own theirs limit room
  taking_keeps (Confirm v l) own peer rest room =
      keeps_confirm peer table x.flight p here.keeps own v l
  taking_keeps (Grant amount) own peer rest room =
      keeps_grant peer table x.flight p here.keeps own amount
  taking_keeps (Data piece) own peer rest room =
      keeps_data peer table x.flight p here.keeps own piece
  taking_keeps Eof own peer rest room = keeps_same peer table x.flight p here.keeps
  taking_keeps Close own peer rest room =
      keeps_peer_close peer table x.flight p here.keeps own

  far_post : (m : Saying) (own peer : ℕ) (rest : List Message)
      → IsPost window packet (record y { flight = map frame_of rest })
      (takes_said window packet own peer m rest w).far
  far_post (Open theirs limit) own peer rest =
      partnered_post window packet own (p.last + 1) (record y { flight = map frame_of rest })
      (left rest q) (left_post window packet y q rest there)
  far_post (Confirm v l) own peer rest = left_post window packet y q rest there
  far_post (Grant amount) own peer rest = left_post window packet y q rest there
  far_post (Data piece) own peer rest = left_post window packet y q rest there
  far_post Eof own peer rest = left_post window packet y q rest there
  far_post Close own peer rest = left_post window packet y q rest there

  passing_at : (o : Option ChannelParams) (peer : ℕ) (piece : Chunk)
      → unless_dropped (calls.adjusting_of (length piece.bytes) (calls.target_of o) o) (record {
        channel = record { 0 = peer };
        ext = code_of piece.kind;
        bytes = piece.bytes;
      }) ≡ gives_at peer piece o
  passing_at None peer piece = refl
  passing_at (Some l) peer piece = refl

  passing_is : (m : Saying) (own peer : ℕ) → passing (heard_in own peer m) x.end ≡ gives_said peer m p
  passing_is (Open theirs limit) own peer = refl
  passing_is (Confirm v l) own peer = refl
  passing_is (Grant amount) own peer = refl
  passing_is (Data piece) own peer =
      passing_at (line_at peer table) peer piece
      ∙ ap (λ o. gives_at peer piece o) (here.keeps.lines peer)
  passing_is Eof own peer = refl
  passing_is Close own peer = refl

  takes_first : (m : Saying) (own peer : ℕ) (rest : List Message) (x' y' : Post)
      (given : Option Delivered) → q.flight ≡ letter own peer m ∷ rest → p.last < 2 ^ 32
      → (takes_said window packet own peer m rest w).near.last < 2 ^ 32
      → (end : EndTable) × Takes (frame_saying own peer m).payload x.end end given
      × (x' ≡ handed_on end x.flight) × (y' ≡ record y { flight = map frame_of rest })
      → Follow window packet x' y' (takes_said window packet own peer m rest w) given
      (gives_said peer m p)
  takes_first m own peer rest x' y' given is near room
      (end, (said, says, (granted, after, gave)), handed, other) =
      let same : said ≡ heard_in own peer m =
      (once p q b d m own peer rest is near far).0 said says in
      let now : end ≡ with_table (taking (heard_in own peer m) x.end) x.end =
      after ∙ ap (λ i. with_table (taking i x.end) x.end) same in (
        subst (λ z. IsPost window packet z (takes_said window packet own peer m rest w).near)
            (sym (handed ∙ ap (λ t. handed_on t x.flight) now))
            (post_after window packet x (taking (heard_in own peer m) x.end) p
            (takes_said window packet own peer m rest w).near here
            (taking_keeps m own peer rest room)),
        subst (λ z. IsPost window packet z (takes_said window packet own peer m rest w).far)
            (sym other) (far_post m own peer rest),
        gave ∙ (ap (λ i. passing i x.end) same ∙ passing_is m own peer),
      )

  takes_at : (ms : List Message) (x' y' : Post) (given : Option Delivered) → q.flight ≡ ms
      → p.last < 2 ^ 32 → (takes_of window packet ms w).near.last < 2 ^ 32
      → TookOf (map frame_of ms) x y x' y' given
      → Follow window packet x' y' (takes_of window packet ms w) given (gives_of ms p)
  takes_at [] x' y' given is near room (same, other, none) = (
    subst (λ z. IsPost window packet z p) (sym same) here,
    subst (λ z. IsPost window packet z q) (sym other) there,
    none,
  )
  takes_at (m ∷ rest) x' y' given is near room took =
      takes_first m.saying m.own m.peer rest x' y' given is near room took

  -- ---- each event

  pub turns : (e : EndEvent) (x' y' : Post) (given : Option Delivered)
      → (acts window packet e w).near.last < 2 ^ 32 → Turned e x y x' y' given
      → Follow window packet x' y' (acts window packet e w) given (gives_now e w)
  turns (event.Open side) x' y' given room (is, same, none) =
      accepts (event.Open side) x' y' given (acts window packet (event.Open side) w).near
      (opens_keeps room) is same none
  turns (event.Data side channel ext bytes) x' y' given room (is, same, none) =
      accepts (event.Data side channel ext bytes) x' y' given
      (acts window packet (event.Data side channel ext bytes) w).near
      (keeps_send channel.0 table x.flight p here.keeps (chunk (kind_of ext) bytes)) is same none
  turns (event.Eof side channel) x' y' given room (is, same, none) =
      accepts (event.Eof side channel) x' y' given
      (acts window packet (event.Eof side channel) w).near
      (keeps_eof channel.0 table x.flight p here.keeps) is same none
  turns (event.Close side channel) x' y' given room (is, same, none) =
      accepts (event.Close side channel) x' y' given
      (acts window packet (event.Close side channel) w).near
      (keeps_close channel.0 table x.flight p here.keeps) is same none
  turns (event.Target side channel target) x' y' given room (is, same, none) =
      accepts (event.Target side channel target) x' y' given
      (acts window packet (event.Target side channel target) w).near
      (keeps_target channel.0 table x.flight p here.keeps target) is same none
  turns (event.Move side) x' y' given room took =
      takes_at q.flight x' y' given refl
      (let near = (acts_draws window packet (event.Move side) w).near in omega (arith, near, room))
      room (subst (λ fs. TookOf fs x y x' y' given) (flight_is window packet y q there) took)

  -- ---- and what stops it is want of memory

  numbered : (n : ℕ) → numbers.next_number table ≡ Some n → numbers.next_number table ≡ None → ⊥
  numbered n some none = let e : Some n ≡ None = sym some ∙ none in cc

  next_free : p.last + 1 < 2 ^ 32 → numbers.next_number table ≡ None → ⊥
  next_free room none =
      numbered (p.last + 1) (next_is table x.flight p q here.keeps b room) none

  full_never : (m : Saying) (own peer : ℕ) (rest : List Message)
      → (takes_said window packet own peer m rest w).near.last < 2 ^ 32
      → HasNoNumber (heard_in own peer m) x.end → ⊥
  full_never (Open theirs limit) own peer rest room none = next_free room none
  full_never (Confirm v l) own peer rest room none = none
  full_never (Grant amount) own peer rest room none = none
  full_never (Data piece) own peer rest room none = none
  full_never Eof own peer rest room none = none
  full_never Close own peer rest room none = none

  called_for : (m : Saying) (own peer : ℕ) (rest : List Message)
      → q.flight ≡ letter own peer m ∷ rest → IsUncalledFor (heard_in own peer m) x.end → ⊥
  called_for (Open theirs limit) own peer rest is un = un
  called_for (Confirm v l) own peer rest is un =
      let waits : Waits (p.line peer) l = waits_of (p.line peer) own v l (said_on own rest)
      (first_heard p q (letter own peer (Confirm v l)) rest b d is refl) in
      let e : true ≡ false = sym waits.2
      ∙ (ap (is_one line.is_opening) (sym (here.keeps.lines peer)) ∙ un) in
      cc
  called_for (Grant amount) own peer rest is un = un
  called_for (Data piece) own peer rest is un = un
  called_for Eof own peer rest is un = un
  called_for Close own peer rest is un = un

  refused_first : (why : EndError) (m : Saying) (own peer : ℕ) (rest : List Message)
      → q.flight ≡ letter own peer m ∷ rest → p.last < 2 ^ 32
      → (takes_said window packet own peer m rest w).near.last < 2 ^ 32
      → TakesNot (frame_saying own peer m).payload x.end why → why ≡ error.NoMemory
  refused_first error.NoMemory m own peer rest is near room h = refl
  refused_first error.Full m own peer rest is near room (said, says, none) =
      absurd (full_never m own peer rest room (subst (λ i. HasNoNumber i x.end)
      ((once p q b d m own peer rest is near far).0 said says) none))
  refused_first error.Unexpected m own peer rest is near room (inl quiet) =
      absurd (quiet (heard_in own peer m) (once p q b d m own peer rest is near far).1)
  refused_first error.Unexpected m own peer rest is near room (inr (said, says, un)) =
      absurd (called_for m own peer rest is (subst (λ i. IsUncalledFor i x.end)
      ((once p q b d m own peer rest is near far).0 said says) un))

  refused_at : (ms : List Message) (why : EndError) → q.flight ≡ ms → p.last < 2 ^ 32
      → (takes_of window packet ms w).near.last < 2 ^ 32
      → TakesNone (map frame_of ms) x.end why → why ≡ error.NoMemory
  refused_at [] why is near room h = absurd h
  refused_at (m ∷ rest) why is near room h =
      refused_first why m.saying m.own m.peer rest is near room h

  pub stops : (e : EndEvent) (why : EndError) → (acts window packet e w).near.last < 2 ^ 32
      → Stops e x y why → why ≡ error.NoMemory
  stops (event.Open side) why room none = absurd (next_free room none)
  stops (event.Data side channel ext bytes) why room none = absurd none
  stops (event.Eof side channel) why room none = absurd none
  stops (event.Close side channel) why room none = absurd none
  stops (event.Target side channel target) why room none = absurd none
  stops (event.Move side) why room none =
      refused_at q.flight why refl
      (let near = (acts_draws window packet (event.Move side) w).near in omega (arith, near, room))
      room (subst (λ fs. TakesNone fs x.end why) (flight_is window packet y q there) none)
