-- What happens to two ends happens to two sides.
use Rattle.std.proofs.Common.{◌≡◌, ◌<◌, ◌^◌, ℕ, List, [], ◌∷◌, ◌++◌, refl, sym, ◌∙◌, ap, subst}
use Rattle.std.proofs.Common.{Option, Result, Ok, Err, IfOk, IfErr, OnOk}
use Rattle.std.proofs.Common.{◌⊎◌, inl, inr}
use Rattle.ssh_ends.specs.Pair.{Pair, turned}
use Rattle.ssh_ends.specs.Sound.{IsSound}
use Rattle.ssh_ends.specs.Run.{IsRanged, AreRanged, actor, acts, seen_by, happens, run_on, after}
use Rattle.ssh_ends.specs.Run.{delivers, gives_now, new_pair, Holds, FewDraws}
use Rattle.ssh_ends.specs.Ends.{Post, Posts, IsPost, StandsAt, Turned, Stops, Happens, FailsFor}
use Rattle.ssh_ends.specs.declared.end.Delivered.{Delivered}
use Rattle.ssh_ends.specs.declared.error.EndError.{EndError}
use Rattle.ssh_ends.specs.declared.error.EndError.TheVariants as error
use Rattle.ssh_ends.specs.declared.event.EndEvent.{EndEvent}
use Rattle.ssh_ends.specs.declared.event.Side.TheVariants.{A, B}
use Rattle.ssh_ends.proofs.Laws.{run_sound, new_sound, sound_holds}
use Rattle.ssh_ends.proofs.Turning.{acts_draws, turns, stops}

-- one event more
pub run_more : (window packet : ℕ) (events : List EndEvent) (e : EndEvent) (w : Pair)
    → run_on window packet (events ++ e ∷ []) w
    ≡ happens window packet e (run_on window packet events w)
run_more window packet [] e w = refl
run_more window packet (x ∷ events) e w =
    run_more window packet events e (happens window packet x w)

pub ranged_more : (events : List EndEvent) (e : EndEvent) → AreRanged events → IsRanged e
    → AreRanged (events ++ e ∷ [])
ranged_more [] e h k = (k, tt)
ranged_more (x ∷ events) e h k = (h.0, ranged_more events e h.1 k)

pub sound_after : (window packet : ℕ) (events : List EndEvent) (ends : Posts)
    → StandsAt window packet events ends → IsSound (after window packet events)
sound_after window packet events ends s =
    run_sound window packet (record { wide = s.wide; some = s.some; small = s.small }) events
    new_pair s.ranged new_sound

holds_more : (window packet : ℕ) (events : List EndEvent) (e : EndEvent) (ends : Posts)
    → StandsAt window packet events ends → IsRanged e
    → Holds (after window packet (events ++ e ∷ []))
holds_more window packet events e ends s ranged =
    sound_holds (after window packet (events ++ e ∷ []))
    (run_sound window packet (record { wide = s.wide; some = s.some; small = s.small })
    (events ++ e ∷ []) new_pair (ranged_more events e s.ranged ranged) new_sound)

module _ (window packet : ℕ) (events : List EndEvent) (e : EndEvent) (a b : Post)
    (s : StandsAt window packet events (record { a = a; b = b }))
    (few : FewDraws (after window packet (events ++ e ∷ []))) where
  abbrev w : Pair
  w = after window packet events

  sound : IsSound w
  sound = sound_after window packet events (record { a = a; b = b }) s

  -- it is about A
  module _ (is : actor e ≡ A) where
    next_a : after window packet (events ++ e ∷ []) ≡ acts window packet e w
    next_a = run_more window packet events e new_pair
        ∙ ap (λ side. seen_by side (acts window packet e (seen_by side w))) is

    room_a : (acts window packet e w).near.last < 2 ^ 32
    room_a = subst (λ v. v.near.last < 2 ^ 32) next_a few.near

    far_a : w.far.last < 2 ^ 32
    far_a = subst (λ n. n < 2 ^ 32) (acts_draws window packet e w).far
        (subst (λ v. v.far.last < 2 ^ 32) next_a few.far)

    pub turns_a : (a' b' : Post) (d : Option Delivered) → IsRanged e → Turned e a b a' b' d
        → StandsAt window packet (events ++ e ∷ []) (record { a = a'; b = b' })
        × Holds (after window packet (events ++ e ∷ []))
        × (d ≡ delivers e (after window packet events))
    turns_a a' b' d ranged turned =
        let f = turns window packet a b w.near w.far s.a s.b sound.0 sound.1 far_a e a' b' d room_a
        turned in (
          record {
            wide = s.wide;
            some = s.some;
            small = s.small;
            ranged = ranged_more events e s.ranged ranged;
            a = subst (λ v. IsPost window packet a' v.near) (sym next_a) f.0;
            b = subst (λ v. IsPost window packet b' v.far) (sym next_a) f.1;
          },
          holds_more window packet events e (record { a = a; b = b }) s ranged,
          f.2 ∙ ap (λ side. gives_now e (seen_by side w)) (sym is),
        )

    pub stops_a : (why : EndError) → Stops e a b why → why ≡ error.NoMemory
    stops_a why stopped =
        stops window packet a b w.near w.far s.a s.b sound.0 sound.1 far_a e why room_a stopped

  -- it is about B
  module _ (is : actor e ≡ B) where
    next_b : after window packet (events ++ e ∷ []) ≡ turned (acts window packet e (turned w))
    next_b = run_more window packet events e new_pair
        ∙ ap (λ side. seen_by side (acts window packet e (seen_by side w))) is

    room_b : (acts window packet e (turned w)).near.last < 2 ^ 32
    room_b = subst (λ v. v.far.last < 2 ^ 32) next_b few.far

    far_b : w.near.last < 2 ^ 32
    far_b = subst (λ n. n < 2 ^ 32) (acts_draws window packet e (turned w)).far
        (subst (λ v. v.near.last < 2 ^ 32) next_b few.near)

    pub turns_b : (a' b' : Post) (d : Option Delivered) → IsRanged e → Turned e b a b' a' d
        → StandsAt window packet (events ++ e ∷ []) (record { a = a'; b = b' })
        × Holds (after window packet (events ++ e ∷ []))
        × (d ≡ delivers e (after window packet events))
    turns_b a' b' d ranged it_turned =
        let f = turns window packet b a w.far w.near s.b s.a sound.1 sound.0 far_b e b' a' d room_b
        it_turned in (
          record {
            wide = s.wide;
            some = s.some;
            small = s.small;
            ranged = ranged_more events e s.ranged ranged;
            a = subst (λ v. IsPost window packet a' v.near) (sym next_b) f.1;
            b = subst (λ v. IsPost window packet b' v.far) (sym next_b) f.0;
          },
          holds_more window packet events e (record { a = a; b = b }) s ranged,
          f.2 ∙ ap (λ side. gives_now e (seen_by side w)) (sym is),
        )

    pub stops_b : (why : EndError) → Stops e b a why → why ≡ error.NoMemory
    stops_b why stopped =
        stops window packet b a w.far w.near s.b s.a sound.1 sound.0 far_b e why room_b stopped

-- ---- the two ends of new

pub new_stands : (window packet : ℕ) (ends : Posts) → window < 2 ^ 32 → 0 < packet
    → packet < 2 ^ 32 → IsPost window packet ends.a new_pair.near
    → IsPost window packet ends.b new_pair.far → StandsAt window packet [] ends
new_stands window packet ends wide some small a b =
    record { wide = wide; some = some; small = small; ranged = tt; a = a; b = b }

-- ---- by what a turn answers

module _ (e : EndEvent) (a b a' b' : Post) where
  pub a_happens : (r : Result (Option Delivered) EndError) → actor e ≡ A
      → IfOk r (Turned e a b a' b') → OnOk r (IsRanged e)
      → IfOk r (Happens e (record { a = a; b = b }) (record { a = a'; b = b' }))
  a_happens (Ok d) is it_turned ranged =
      λ window packet events s few. turns_a window packet events e a b s few is a' b' d ranged it_turned
  a_happens (Err why) is it_turned ranged = tt

  pub b_happens : (r : Result (Option Delivered) EndError) → actor e ≡ B
      → IfOk r (Turned e b a b' a') → OnOk r (IsRanged e)
      → IfOk r (Happens e (record { a = a; b = b }) (record { a = a'; b = b' }))
  b_happens (Ok d) is it_turned ranged =
      λ window packet events s few. turns_b window packet events e a b s few is a' b' d ranged it_turned
  b_happens (Err why) is it_turned ranged = tt

  pub a_fails : (r : Result (Option Delivered) EndError) → actor e ≡ A
      → IfErr r (λ why. (why ≡ error.NoMemory) ⊎ Stops e a b why)
      → IfErr r (FailsFor e (record { a = a; b = b }))
  a_fails (Ok d) is h = tt
  a_fails (Err why) is (inl memory) = λ window packet events s few. memory
  a_fails (Err why) is (inr stopped) =
      λ window packet events s few. stops_a window packet events e a b s few is why stopped

  pub b_fails : (r : Result (Option Delivered) EndError) → actor e ≡ B
      → IfErr r (λ why. (why ≡ error.NoMemory) ⊎ Stops e b a why)
      → IfErr r (FailsFor e (record { a = a; b = b }))
  b_fails (Ok d) is h = tt
  b_fails (Err why) is (inl memory) = λ window packet events s few. memory
  b_fails (Err why) is (inr stopped) =
      λ window packet events s few. stops_b window packet events e a b s few is why stopped
