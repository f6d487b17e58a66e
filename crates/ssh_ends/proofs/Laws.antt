-- The law of two ends, for each list of events.
use Rattle.std.proofs.Common.{◌≡◌, ◌<◌, ◌^◌, ℕ, true, false, List, [], ◌∷◌, ◌++◌}
use Rattle.std.proofs.Common.{refl, sym, ◌∙◌, ap, subst, Option, Some, None, append_assoc, arith}
use Rattle.std.proofs.Common.{length, inl}
use Rattle.ssh_channels.specs.declared.params.ChannelParams.{ChannelParams}
use Rattle.ssh_channels.specs.declared.chunk.Chunk.{Chunk}
use Rattle.ssh_channels.specs.Layout.{chunk}
use Rattle.ssh_channels.specs.Window as window
use Rattle.ssh_ends.specs.End.{kind_of}
use Rattle.ssh_ends.specs.Saying.{Saying, Open, Confirm, Grant, Data, Eof, Close, Message, letter}
use Rattle.ssh_ends.specs.Saying.{is_open}
use Rattle.ssh_ends.specs.Change.{sending, ending, closing, aiming}
use Rattle.ssh_ends.specs.Pair.{Party, Pair, turned, takes_said, takes_of}
use Rattle.ssh_ends.specs.Strand.{Strand, said_on, data_in}
use Rattle.ssh_ends.specs.Sound.{Hears, Half, Beside, IsSound}
use Rattle.ssh_ends.specs.Run.{IsRanged, AreRanged, acts, seen_by, actor, happens, run_on, after}
use Rattle.ssh_ends.specs.Run.{new_party, new_pair, IsWhole, Delivers, Holds, HoldsOfAll}
use Rattle.ssh_ends.specs.declared.event.EndEvent.{EndEvent}
use Rattle.ssh_ends.specs.declared.event.EndEvent.TheVariants as event
use Rattle.ssh_ends.specs.declared.event.Side.{Side}
use Rattle.ssh_ends.specs.declared.event.Side.TheVariants.{A, B}
use Rattle.ssh_ends.proofs.Strands.{way, said_confirmed}
use Rattle.ssh_ends.proofs.Turns.{sending_own, ending_own, closing_own, aiming_own}
use Rattle.ssh_ends.proofs.Hearings.{data_fits, fits_at}
use Rattle.ssh_ends.proofs.Sides.{same_way, said_next}
use Rattle.ssh_ends.proofs.Events.{own_sound, heard_sound, goes_to}
use Rattle.ssh_ends.proofs.Openings.{open_sound, welcome_sound}

-- ---- what holds at each moment is kept

pub record Sizes (window packet : ℕ) : Type 0 where
  pub wide : window < 2 ^ 32
  pub some : 0 < packet
  pub small : packet < 2 ^ 32

module _ (window packet : ℕ) (z : Sizes window packet) where
  take_said_sound : (x : Saying) (own peer : ℕ) (rest : List Message) (p q : Party)
      → Beside p q → Beside q p → q.flight ≡ letter own peer x ∷ rest
      → IsSound (takes_said window packet own peer x rest (record { near = p; far = q }))
  take_said_sound (Open theirs limit) own peer rest p q b d is =
      welcome_sound window packet theirs limit own peer rest p q z.wide z.some z.small b d is
  take_said_sound (Confirm w l) own peer rest p q b d is =
      heard_sound p q (letter own peer (Confirm w l)) rest b d is refl
  take_said_sound (Grant amount) own peer rest p q b d is =
      heard_sound p q (letter own peer (Grant amount)) rest b d is refl
  take_said_sound (Data piece) own peer rest p q b d is =
      heard_sound p q (letter own peer (Data piece)) rest b d is refl
  take_said_sound Eof own peer rest p q b d is =
      heard_sound p q (letter own peer Eof) rest b d is refl
  take_said_sound Close own peer rest p q b d is =
      heard_sound p q (letter own peer Close) rest b d is refl

  take_of_sound : (ms : List Message) (w : Pair) → w.far.flight ≡ ms → IsSound w
      → IsSound (takes_of window packet ms w)
  take_of_sound [] w is s = s
  take_of_sound (m ∷ rest) w is s =
      take_said_sound m.saying m.own m.peer rest w.near w.far s.0 s.1 is

  acts_sound : (e : EndEvent) (w : Pair) → IsRanged e → IsSound w → IsSound (acts window packet e w)
  acts_sound (event.Open side) w h s = open_sound window packet w z.wide z.some z.small s
  acts_sound (event.Data side channel ext bytes) w h s =
      own_sound channel.0 (sending (chunk (kind_of ext) bytes)) w
      (λ l. sending_own (chunk (kind_of ext) bytes) l h) s
  acts_sound (event.Eof side channel) w h s = own_sound channel.0 ending w ending_own s
  acts_sound (event.Close side channel) w h s = own_sound channel.0 closing w closing_own s
  acts_sound (event.Target side channel target) w h s =
      own_sound channel.0 (aiming target) w (λ l. aiming_own target l h) s
  acts_sound (event.Move side) w h s = take_of_sound w.far.flight w refl s

  seen_sound : (side : Side) (e : EndEvent) (w : Pair) → IsRanged e → IsSound w
      → IsSound (seen_by side (acts window packet e (seen_by side w)))
  seen_sound A e w h s = acts_sound e w h s
  seen_sound B e w h s = let t = acts_sound e (turned w) h (s.1, s.0) in (t.1, t.0)

  pub happens_sound : (e : EndEvent) (w : Pair) → IsRanged e → IsSound w
      → IsSound (happens window packet e w)
  happens_sound e w h s = seen_sound (actor e) e w h s

  pub run_sound : (events : List EndEvent) (w : Pair) → AreRanged events → IsSound w
      → IsSound (run_on window packet events w)
  run_sound [] w h s = s
  run_sound (e ∷ events) w h s =
      run_sound events (happens window packet e w) h.1 (happens_sound e w h.0 s)

new_beside : Beside new_party new_party
new_beside = record {
  halves = λ n m is. absurd (let e : None ≡ Some m = is in cc);
  partners = λ n m is. absurd (let e : None ≡ Some m = is in cc);
  stands = λ n. inl (record { line = refl; accepted = refl; delivered = refl; said = refl });
  routed = tt;
}

pub new_sound : IsSound new_pair
new_sound = (new_beside, new_beside)

-- ---- what it says

module _ (p q : Party) (b : Beside p q) (d : Beside q p) where
  whole_at : (n m : ℕ) (o r : Option ChannelParams) → p.line n ≡ o → q.line m ≡ r
      → Half n m p q → Half m n q p → p.closed n ≡ false → q.closed m ≡ false → IsWhole n m p q
  whole_at n m None r none there h g unshut also =
      absurd (let e : true ≡ false = sym (h.closed none) ∙ unshut in cc)
  whole_at n m (Some l) None here none h g unshut also =
      absurd (let e : true ≡ false = sym (g.closed none) ∙ also in cc)
  whole_at n m (Some l) (Some r) here there h g unshut also =
      let s : Strand (way (Some l) (Some r) (p.accepted n) (q.delivered m) (said_on n p.flight)
      (said_on m q.flight)) = subst Strand (same_way (p.line n) (Some l) (q.line m) (Some r)
      (p.accepted n) (p.accepted n) (q.delivered m) (q.delivered m) (said_on n p.flight)
      (said_on n p.flight) (said_on m q.flight) (said_on m q.flight) here there refl refl refl
      refl) h.strand in
      record {
        sender = l;
        taker = r;
        at_sender = here;
        at_taker = there;
        bytes = s.bytes
            ∙ ap (λ xs. (q.delivered m ++ (xs ++ data_in (said_on n p.flight))) ++ s.rest)
            s.at_taker.0
            ∙ ap (λ xs. (q.delivered m ++ data_in (said_on n p.flight)) ++ xs) s.at_sender.0;
        sum = omega (arith, s.sum, s.at_sender.1, s.at_taker.1);
      }

  fits_first : (x : Message) (rest : List Message) (piece : Chunk) (l : ChannelParams)
      → p.flight ≡ x ∷ rest → x.saying ≡ Data piece → q.line x.peer ≡ Some l
      → p.partner x.own ≡ Some x.peer → window.fits (length piece.bytes) l ≡ true
  fits_first x rest piece l is said line ours =
      let next : said_on x.own p.flight ≡ Data piece ∷ said_on x.own rest =
      ap (said_on x.own) is ∙ (said_next x rest ∙ ap (λ y. y ∷ said_on x.own rest) said) in
      let h = b.halves x.own x.peer ours in
      let g = d.halves x.peer x.own (b.partners x.own x.peer ours) in
      let s : Strand (way (p.line x.own) (Some l) (p.accepted x.own) (q.delivered x.peer)
      (Data piece ∷ said_on x.own rest) (said_on x.peer q.flight)) =
      subst Strand (same_way (p.line x.own) (p.line x.own) (q.line x.peer) (Some l)
      (p.accepted x.own) (p.accepted x.own) (q.delivered x.peer) (q.delivered x.peer)
      (said_on x.own p.flight) (Data piece ∷ said_on x.own rest) (said_on x.peer q.flight)
      (said_on x.peer q.flight) refl line refl refl next refl) h.strand in
      let heard : Hears x.own (Some l) (Data piece ∷ said_on x.own rest) =
      subst (λ o. Hears x.own o (Data piece ∷ said_on x.own rest)) line
      (subst (λ xs. Hears x.own (q.line x.peer) xs) next g.hears) in
      fits_at (length piece.bytes) l
      (said_confirmed l.confirmed x.own l (Data piece) (said_on x.own rest) (λ more denied. denied) heard)
      (data_fits l piece (p.line x.own) (p.accepted x.own) (q.delivered x.peer)
      (said_on x.own rest) (said_on x.peer q.flight) s)

  delivers_at : Delivers p q
  delivers_at = record {
    in_order = λ n m is.
        let s = (b.halves n m is).strand in (
          (s.lost ++ data_in (said_on n p.flight)) ++ s.rest,
          s.bytes ∙ append_assoc (q.delivered m) (s.lost ++ data_in (said_on n p.flight)) s.rest,
        );
    whole = λ n m is unshut also.
        whole_at n m (p.line n) (q.line m) refl refl (b.halves n m is)
        (d.halves m n (b.partners n m is)) unshut also;
    fits = λ x rest piece l is said line.
        fits_first x rest piece l is said line
        (goes_to q p x rest b is (ap is_open said));
  }

pub sound_holds : (w : Pair) → IsSound w → Holds w
sound_holds w s = (delivers_at w.near w.far s.0 s.1, delivers_at w.far w.near s.1 s.0)

pub law : HoldsOfAll Holds
law window packet events wide some small ranged =
    sound_holds (after window packet events)
    (run_sound window packet (record { wide = wide; some = some; small = small }) events new_pair
    ranged new_sound)
