-- A run is one: its inputs and the answers to its questions determine what happens in it.
use Rattle.std.proofs.Common.{◌≡◌, ◌⊎◌, ℕ, List, [], ◌∷◌, ◌++◌, Option, Some, None, Result, Ok}
use Rattle.std.proofs.Common.{Err, refl, sym, ◌∙◌, ap, subst, inl, inr, append-nil, length}
use Rattle.std.proofs.Common.{◌+◌, ◌<◌, ◌≤◌, arith, length-append}
use Rattle.std.proofs.lemmas.List.{length-map}
use Rattle.std.specs.Prelude.{option_to_list}
use Rattle.ssh_link.specs.Faults.{Rose}
use Rattle.ssh_auth.specs.Publickey.{Acceptance}
use Rattle.ssh_auth.specs.Plan.{Plan, Event, OutsideError, Handler_error, Exchange_error}
use Rattle.ssh_rules.specs.declared.error.RunError.{RunError}
use Rattle.ssh_rules.specs.declared.error.RunError.TheVariants as error
use Rattle.ssh_rules.specs.Account.{Told, Concludes, Closes, Ran}
use Rattle.ssh_rules.specs.Once.{AreAnsweredAlike, AreGivenAlike, inputs_of, IsDetermined}
use Rattle.ssh_rules.specs.Once.{IsSameRun, AreTakenAlike, IsSameOutside}
use Rattle.ssh_rules.specs.Outcome.{Outcome, Goes, Ends, Fails, Encoding, Inconsistent, Key}
use Rattle.ssh_rules.specs.Outcome.{Unsupported, Starved, Channels_full, Keepalive_timeout}
use Rattle.ssh_rules.specs.Outcome.{Inactivity_timeout, Pending}
use Rattle.ssh_rules.specs.Replied.{events_of}
use Rattle.ssh_rules.specs.Run.{Owes, Turn, IsTaken, Turns, Run}
use Rattle.ssh_rules.specs.Short.{IsShortOf}
use Rattle.ssh_rules.specs.World.{Settings, World, opening_world}
use Rattle.ssh_rules.proofs.Determined.Plans.{input_one}
use Rattle.ssh_rules.proofs.Determined.Walking.{Comes, Walks, walked, IsFed, walks_longer, one_walk}
use Rattle.ssh_rules.proofs.Determined.Walking.{alike_later, alike_back}

-- how the walk along a plan ends, and how a run does
abbrev pub End : (E F : Type 0) → Type 0
End E F = Result Outcome (OutsideError E F)

abbrev pub RunEnd : (E F : Type 0) → Type 0
RunEnd E F = Result (Unit {0}) (RunError E F)

-- ---- two plans that one input owes

-- one plan comes to both ends
abbrev Meet : {E F : Type 0} → (xs ys : List (Event E F)) → (o p : End E F) → Type 0
Meet xs ys o p = (plan : Plan Outcome) × Walks plan xs o × Walks plan ys p

meets : {E F : Type 0} (plan other : Plan Outcome) (xs ys : List (Event E F)) (o p : End E F)
    → IsShortOf plan other ⊎ IsShortOf other plan → IsFed o → IsFed p → Walks plan xs o
    → Walks other ys p → Meet xs ys o p
meets plan other xs ys o p (inl s) f g h k = (other, walks_longer plan other xs o f s h, k)
meets plan other xs ys o p (inr s) f g h k = (plan, h, walks_longer other plan ys p g s k)

-- ---- how a turn ends a run

-- by what its plan comes to
abbrev pub Matches : {E F : Type 0} → End E F → RunEnd E F → Type 0
Matches (Ok (Goes w)) result = ⊥
Matches (Ok (Ends w)) result = result ≡ Ok tt
Matches (Ok (Fails (Encoding why))) result = result ≡ Err (error.Encoding why)
Matches (Ok (Fails Inconsistent)) result = result ≡ Err error.Inconsistent
Matches (Ok (Fails (Key why))) result = result ≡ Err (error.Key why)
Matches (Ok (Fails Unsupported)) result = result ≡ Err error.UnsupportedAuthMethod
Matches (Ok (Fails Starved)) result = ⊥
Matches (Ok (Fails Channels_full)) result = result ≡ Err error.ChannelsFull
Matches (Ok (Fails Keepalive_timeout)) result = result ≡ Err error.KeepaliveTimeout
Matches (Ok (Fails Inactivity_timeout)) result = result ≡ Err error.InactivityTimeout
Matches (Ok (Fails Pending)) result = result ≡ Err error.Pending
Matches (Err (Handler_error e)) result = result ≡ Err (error.Handler e)
Matches (Err (Exchange_error f)) result = result ≡ Err (error.Kex f)

matches_once : {E F : Type 0} (o : End E F) (r s : RunEnd E F) → Matches o r → Matches o s → r ≡ s
matches_once (Ok (Goes w)) r s h k = absurd h
matches_once (Ok (Ends w)) r s h k = h ∙ sym k
matches_once (Ok (Fails (Encoding why))) r s h k = h ∙ sym k
matches_once (Ok (Fails Inconsistent)) r s h k = h ∙ sym k
matches_once (Ok (Fails (Key why))) r s h k = h ∙ sym k
matches_once (Ok (Fails Unsupported)) r s h k = h ∙ sym k
matches_once (Ok (Fails Starved)) r s h k = absurd h
matches_once (Ok (Fails Channels_full)) r s h k = h ∙ sym k
matches_once (Ok (Fails Keepalive_timeout)) r s h k = h ∙ sym k
matches_once (Ok (Fails Inactivity_timeout)) r s h k = h ∙ sym k
matches_once (Ok (Fails Pending)) r s h k = h ∙ sym k
matches_once (Err (Handler_error e)) r s h k = h ∙ sym k
matches_once (Err (Exchange_error f)) r s h k = h ∙ sym k

matches_fed : {E F : Type 0} (o : End E F) (r : RunEnd E F) → Matches o r → IsFed o
matches_fed (Ok (Goes w)) r h = tt
matches_fed (Ok (Ends w)) r h = tt
matches_fed (Ok (Fails (Encoding why))) r h = tt
matches_fed (Ok (Fails Inconsistent)) r h = tt
matches_fed (Ok (Fails (Key why))) r h = tt
matches_fed (Ok (Fails Unsupported)) r h = tt
matches_fed (Ok (Fails Starved)) r h = h
matches_fed (Ok (Fails Channels_full)) r h = tt
matches_fed (Ok (Fails Keepalive_timeout)) r h = tt
matches_fed (Ok (Fails Inactivity_timeout)) r h = tt
matches_fed (Ok (Fails Pending)) r h = tt
matches_fed (Err e) r h = tt

abbrev pub Came : {E F : Type 0} → Plan Outcome → List (Event E F) → RunEnd E F → Type 0
Came {E} {F} plan events result =
    (o : End E F) × Comes plan events o × Matches o result

pub came : {E F : Type 0} (plan : Plan Outcome) (events : List (Event E F)) (rose : Type 0)
    (result : RunEnd E F) → Concludes plan events rose result → IsDetermined result
    → Came plan events result
came plan events rose (Ok done) c d = (Ok (Ends c.0), c.1, refl)
came plan events rose (Err error.NoMemory) c d = absurd (d.0 refl)
came plan events rose (Err error.LinkFault) c d = absurd (d.1 refl)
came plan events rose (Err error.InputLimit) c d = absurd c
came plan events rose (Err (error.Encoding why)) c d = (Ok (Fails (Encoding why)), c, refl)
came plan events rose (Err error.Inconsistent) c d = (Ok (Fails Inconsistent), c, refl)
came plan events rose (Err (error.Key why)) c d = (Ok (Fails (Key why)), c, refl)
came plan events rose (Err error.UnsupportedAuthMethod) c d = (Ok (Fails Unsupported), c, refl)
came plan events rose (Err (error.Handler e)) c d = (Err (Handler_error e), c, refl)
came plan events rose (Err (error.Kex f)) c d = (Err (Exchange_error f), c, refl)
came plan events rose (Err error.ChannelsFull) c d = (Ok (Fails Channels_full), c, refl)
came plan events rose (Err error.KeepaliveTimeout) c d = (Ok (Fails Keepalive_timeout), c, refl)
came plan events rose (Err error.InactivityTimeout) c d =
    (Ok (Fails Inactivity_timeout), c, refl)
came plan events rose (Err error.Pending) c d = (Ok (Fails Pending), c, refl)

abbrev pub Ended : {E F : Type 0} → Acceptance → World → Turn E F → RunEnd E F → Type 0
Ended accepts w turn result = (plan : Plan Outcome) × Owes accepts w turn.input plan
    × Came plan turn.events result × IsTaken w turn

-- how the rest of a run ends in this world, after so many inputs: by one more turn, or with none
-- at the limit
abbrev Stops : {E F : Type 0} → Acceptance → World → (count max : ℕ) → Option (Turn E F)
    → RunEnd E F → Type 0
Stops accepts w count max (Some turn) result = (count < max) × Ended accepts w turn result
Stops accepts w count max None result = (count ≡ max) × (result ≡ Err error.InputLimit)

stops_bare : {E F : Type 0} (accepts : Acceptance) (w : World) (count max : ℕ) (rose : Type 0)
    (result : RunEnd E F) → Closes accepts w count max None rose result → IsDetermined result
    → (count ≡ max) × (result ≡ Err error.InputLimit)
stops_bare accepts w count max rose (Err error.NoMemory) c d = absurd (d.0 refl)
stops_bare accepts w count max rose (Err error.LinkFault) c d = absurd (d.1 refl)
stops_bare accepts w count max rose (Err error.InputLimit) c d = (c, refl)
stops_bare accepts w count max rose _ c d = absurd c

stops : {E F : Type 0} (accepts : Acceptance) (w : World) (count max : ℕ)
    (last : Option (Turn E F)) (rose : Type 0) (result : RunEnd E F)
    → Closes accepts w count max last rose result → IsDetermined result
    → Stops accepts w count max last result
stops accepts w count max (Some turn) rose result c d =
    (c.0, (c.2.0, c.2.1, came c.2.0 turn.events rose result c.2.2 d, c.1))
stops accepts w count max None rose result c d =
    stops_bare accepts w count max rose result c d

-- ---- two turns at one place

turn_same : {E F : Type 0} (t u : Turn E F) → t.input ≡ u.input → t.commands ≡ u.commands
    → t.replies ≡ u.replies → t.events ≡ u.events → t ≡ u
turn_same t u e c r f =
    λ i. record { input = e i; commands = c i; replies = r i; events = f i }

-- where the same was asked for, the same was taken
abbrev pub TakenSo : {E F : Type 0} → (t u : Turn E F) → Type 0
TakenSo t u = t.commands ≡ u.commands → t.replies ≡ u.replies → t.input ≡ u.input

-- whatever they come to
pub turn_once : {E F : Type 0} (accepts : Acceptance) (w : World) (t u : Turn E F)
    (plan other : Plan Outcome) (more others : List (Event E F)) (o p : End E F)
    → TakenSo t u → IsTaken w t → IsTaken w u → Owes accepts w t.input plan
    → Owes accepts w u.input other → IsFed o → IsFed p → Comes plan t.events o
    → Comes other u.events p → AreAnsweredAlike (t.events ++ more) (u.events ++ others)
    → (t ≡ u) × (o ≡ p)
turn_once accepts w t u plan other more others o p so i j a b fed also_fed f g alike =
    let c : t.commands ≡ u.commands = i.0 ∙ sym j.0 in
    let r : t.replies ≡ u.replies = i.1 ∙ sym j.1 in
    let e : t.input ≡ u.input = so c r in
    let owed : Owes accepts w t.input other =
    subst (λ input. Owes accepts w input other) (sym e) b in
    let m = meets plan other t.events u.events o p (input_one accepts w t.input plan other a owed)
    fed also_fed (walked plan t.events o f) (walked other u.events p g) in
    let s = one_walk m.0 t.events u.events more others o p m.1 m.2 alike in
    (turn_same t u e c r s.0, s.1)

-- what goes on does not end the run
pub gone_not_last : {E F : Type 0} (accepts : Acceptance) (w mid : World) (t u : Turn E F)
    (more others : List (Event E F)) (s : RunEnd E F) → TakenSo t u
    → Turns accepts w t mid → Ended accepts w u s
    → AreAnsweredAlike (t.events ++ more) (u.events ++ others) → ⊥
gone_not_last accepts w mid t u more others s so a b alike =
    let m = turn_once accepts w t u a.0 b.0 more others (Ok (Goes mid)) b.2.0 so a.3 b.3 a.1 b.1 tt
    (matches_fed b.2.0 s b.2.2) a.2 b.2.1 alike in
    subst (λ o. Matches o s) (sym m.1) b.2.2

pub last_once : {E F : Type 0} (accepts : Acceptance) (w : World) (t u : Turn E F)
    (r s : RunEnd E F) → TakenSo t u → Ended accepts w t r → Ended accepts w u s
    → AreAnsweredAlike (t.events ++ []) (u.events ++ []) → (t ≡ u) × (r ≡ s)
last_once accepts w t u r s so a b alike =
    let m = turn_once accepts w t u a.0 b.0 [] [] a.2.0 b.2.0 so a.3 b.3 a.1 b.1
    (matches_fed a.2.0 r a.2.2) (matches_fed b.2.0 s b.2.2) a.2.1 b.2.1 alike in
    (m.0, matches_once a.2.0 r s a.2.2 (subst (λ o. Matches o s) (sym m.1) b.2.2))

-- ---- turns that are taken alike

taken_first : {E F : Type 0} (t u : Turn E F) (ts us : List (Turn E F))
    → AreTakenAlike (t ∷ ts) (u ∷ us) → TakenSo t u
taken_first t u ts us alike = alike [] ts us t u refl refl

both : {A : Type 0} (x y : A) (xs ys : List A) → x ≡ y → xs ≡ ys → x ∷ xs ≡ y ∷ ys
both x y xs ys e f = cc

taken_later : {E F : Type 0} (t u : Turn E F) (ts us : List (Turn E F)) → t ≡ u
    → AreTakenAlike (t ∷ ts) (u ∷ us) → AreTakenAlike ts us
taken_later t u ts us e alike past later rest turn other h k =
    alike (t ∷ past) later rest turn other (ap (λ l. t ∷ l) h)
    (both u t us (past ++ other ∷ rest) (sym e) k)

taken_back : {E F : Type 0} (ts us : List (Turn E F)) → AreTakenAlike ts us → AreTakenAlike us ts
taken_back ts us alike past later rest turn other h k c r =
    sym (alike past rest later other turn k h (sym c) (sym r))

firsts : {A : Type 0} (x y : A) (xs ys : List A) → x ∷ xs ≡ y ∷ ys → x ≡ y
firsts x y xs ys e = cc

others_too : {A : Type 0} (x y : A) (xs ys : List A) → x ∷ xs ≡ y ∷ ys → xs ≡ ys
others_too x y xs ys e = cc

next_input : {E F : Type 0} (past later rest : List (Turn E F)) (t u : Turn E F)
    → inputs_of (past ++ t ∷ later) ≡ inputs_of (past ++ u ∷ rest) → t.input ≡ u.input
next_input [] later rest t u e =
    firsts t.input u.input (inputs_of later) (inputs_of rest) e
next_input (one ∷ past) later rest t u e = next_input past later rest t u
    (others_too one.input one.input (inputs_of (past ++ t ∷ later))
    (inputs_of (past ++ u ∷ rest)) e)

-- the same inputs are
taken_so : {E F : Type 0} (ts us : List (Turn E F)) → inputs_of ts ≡ inputs_of us
    → AreTakenAlike ts us
taken_so ts us e past later rest turn other h k c r = next_input past later rest turn other
    (sym (ap inputs_of h) ∙ e ∙ ap inputs_of k)

-- ---- the rest of a run, from this world on, after so many inputs

record Rest {E F : Type 0} (accepts : Acceptance) (w : World) (count max : ℕ)
    (turns : List (Turn E F)) (last : Option (Turn E F)) (result : RunEnd E F) : Type 0 where
  world : World
  run : Run accepts w turns world
  stops : Stops accepts world (count + length turns) max last result

abbrev taken : {E F : Type 0} → List (Turn E F) → Option (Turn E F) → List (Turn E F)
taken turns last = turns ++ option_to_list last

abbrev Same : {E F : Type 0} → (ts us : List (Turn E F)) → (last most : Option (Turn E F))
    → (w v : World) → (r s : RunEnd E F) → Type 0
Same ts us last most w v r s = (ts ≡ us) × (last ≡ most) × (w ≡ v) × (r ≡ s)

abbrev goes : {E F : Type 0} → World → End E F
goes w = Ok (Goes w)

goes_once : {E F : Type 0} (w v : World) → goes {E = E} {F = F} w ≡ goes v → w ≡ v
goes_once w v e = cc

within : {E F : Type 0} (accepts : Acceptance) (w : World) (n max : ℕ) (ts : List (Turn E F))
    (last : Option (Turn E F)) (r : RunEnd E F) → Rest accepts w n max ts last r
    → n + length ts ≤ max
within accepts w n max ts (Some t) r h =
    let c : n + length ts < max = h.stops.0 in omega arith
within accepts w n max ts None r h =
    let c : n + length ts ≡ max = h.stops.0 in omega arith

-- one more input does not fit into a rest that is over at the limit
one_too_many : {E F : Type 0} (accepts : Acceptance) (w : World) (n max : ℕ) (t : Turn E F)
    (r s : RunEnd E F) → Rest accepts w n max [] None r → Rest accepts w n max [] (Some t) s → ⊥
one_too_many accepts w n max t r s h k =
    let a : n + 0 ≡ max = h.stops.0 in
    let b : n + 0 < max = k.stops.0 in
    absurd (omega arith)

too_many : {E F : Type 0} (accepts : Acceptance) (w : World) (n max : ℕ) (t : Turn E F)
    (ts : List (Turn E F)) (last : Option (Turn E F)) (r s : RunEnd E F)
    → Rest accepts w n max [] None r → Rest accepts w n max (t ∷ ts) last s → ⊥
too_many accepts w n max t ts last r s h k =
    let a : n + 0 ≡ max = h.stops.0 in
    let b : n + length (t ∷ ts) ≤ max = within accepts w n max (t ∷ ts) last s k in
    absurd (omega arith)

-- a rest that goes on is none that ends with its first input
not_both : {E F : Type 0} (accepts : Acceptance) (w : World) (n max : ℕ) (t u : Turn E F)
    (ts : List (Turn E F)) (last : Option (Turn E F)) (r s : RunEnd E F)
    → Rest accepts w n max (t ∷ ts) last r → Rest accepts w n max [] (Some u) s
    → IsSameOutside (t ∷ taken ts last) (u ∷ []) → ⊥
not_both accepts w n max t u ts last r s h k alike =
    gone_not_last accepts w h.run.0 t u (events_of (taken ts last)) [] s
    (taken_first t u (taken ts last) [] alike.0) h.run.1
    (subst (λ v. Ended accepts v u s) k.run k.stops.1) alike.1

outside_back : {E F : Type 0} (ts us : List (Turn E F)) → IsSameOutside ts us
    → IsSameOutside us ts
outside_back ts us alike =
    (taken_back ts us alike.0, alike_back (events_of ts) (events_of us) alike.1)

abbrev rest_next : {E F : Type 0} (accepts : Acceptance) (w : World) (n max : ℕ) (t : Turn E F)
    (ts : List (Turn E F)) (last : Option (Turn E F)) (r : RunEnd E F)
    (h : Rest accepts w n max (t ∷ ts) last r) → Rest accepts h.run.0 (n + 1) max ts last r
rest_next accepts w n max t ts last r h =
    let e : n + length (t ∷ ts) ≡ (n + 1) + length ts = omega arith in
    record {
      world = h.world;
      run = h.run.2;
      stops = subst (λ m. Stops accepts h.world m max last r) e h.stops;
    }

-- it is one
rest_once : {E F : Type 0} (accepts : Acceptance) (w : World) (n max : ℕ)
    (ts us : List (Turn E F)) (last most : Option (Turn E F)) (r s : RunEnd E F)
    (h : Rest accepts w n max ts last r) (k : Rest accepts w n max us most s)
    → IsSameOutside (taken ts last) (taken us most)
    → Same ts us last most h.world k.world r s
rest_once accepts w n max [] [] None None r s h k alike =
    (refl, refl, h.run ∙ sym k.run, h.stops.1 ∙ sym k.stops.1)
rest_once accepts w n max [] [] None (Some u) r s h k alike =
    absurd (one_too_many accepts w n max u r s h k)
rest_once accepts w n max [] [] (Some t) None r s h k alike =
    absurd (one_too_many accepts w n max t s r k h)
rest_once accepts w n max [] [] (Some t) (Some u) r s h k alike =
    let m = last_once accepts w t u r s (taken_first t u [] [] alike.0)
    (subst (λ y. Ended accepts y t r) h.run h.stops.1)
    (subst (λ y. Ended accepts y u s) k.run k.stops.1) alike.1 in
    (refl, ap Some m.0, h.run ∙ sym k.run, m.1)
rest_once accepts w n max (t ∷ ts) [] last None r s h k alike =
    absurd (too_many accepts w n max t ts last s r k h)
rest_once accepts w n max (t ∷ ts) [] last (Some u) r s h k alike =
    absurd (not_both accepts w n max t u ts last r s h k alike)
rest_once accepts w n max [] (u ∷ us) None most r s h k alike =
    absurd (too_many accepts w n max u us most r s h k)
rest_once accepts w n max [] (u ∷ us) (Some t) most r s h k alike =
    absurd (not_both accepts w n max u t us most s r k h
    (outside_back (t ∷ []) (u ∷ taken us most) alike))
rest_once {E} {F} accepts w n max (t ∷ ts) (u ∷ us) last most r s h k alike =
    let more = events_of (taken ts last) in
    let others = events_of (taken us most) in
    let m = turn_once accepts w t u h.run.1.0 k.run.1.0 more others (goes h.run.0)
    (goes k.run.0) (taken_first t u (taken ts last) (taken us most) alike.0) h.run.1.3 k.run.1.3
    h.run.1.1 k.run.1.1 tt tt h.run.1.2 k.run.1.2 alike.1 in
    let g : h.run.0 ≡ k.run.0 = goes_once {E = E} {F = F} h.run.0 k.run.0 m.1 in
    let second : Rest accepts k.run.0 (n + 1) max us most s =
    rest_next accepts w n max u us most s k in
    let moved : Rest accepts h.run.0 (n + 1) max us most s = record {
      world = k.world;
      run = subst (λ y. Run accepts y us k.world) (sym g) k.run.2;
      stops = second.stops;
    } in
    let answered : AreAnsweredAlike more others = alike_later t.events more others
    (subst (λ z. AreAnsweredAlike (t.events ++ more) (z.events ++ others)) (sym m.0) alike.1) in
    let later = rest_once accepts h.run.0 (n + 1) max ts us last most r s
    (rest_next accepts w n max t ts last r h) moved
    (taken_later t u (taken ts last) (taken us most) m.0 alike.0, answered) in
    (both t u ts us m.0 later.0, later.1, later.2, later.3)

-- ---- the law

-- the same inputs, with the same answers, are the same outside
outside_of : {E F : Type 0} (turns others : List (Turn E F)) → AreGivenAlike turns others
    → IsSameOutside turns others
outside_of turns others alike = (taken_so turns others alike.0, alike.1)

as_many : {E F : Type 0} (turns others : List (Turn E F)) → inputs_of turns ≡ inputs_of others
    → length turns ≡ length others
as_many turns others e =
    sym (length-map turns (λ turn. turn.input)) ∙ ap length e
    ∙ length-map others (λ turn. turn.input)

-- of finished inputs
pub finished_once : {E F : Type 0} (accepts : Acceptance) (w world other : World)
    (turns others : List (Turn E F)) → Run accepts w turns world → Run accepts w others other
    → AreGivenAlike turns others → (turns ≡ others) × (world ≡ other)
finished_once {E} {F} accepts w world other turns others h k alike =
    let limit : RunEnd E F = Err error.InputLimit in
    let n : length turns ≡ length others = as_many turns others alike.0 in
    let first : Rest accepts w 0 (length turns) turns None limit =
    record { world = world; run = h; stops = (omega arith, refl) } in
    let second : Rest accepts w 0 (length turns) others None limit =
    record { world = other; run = k; stops = (omega arith, refl) } in
    let one : AreGivenAlike (turns ++ []) others =
    subst (λ ts. AreGivenAlike ts others) (sym (append-nil turns)) alike in
    let two : AreGivenAlike (turns ++ []) (others ++ []) =
    subst (λ us. AreGivenAlike (turns ++ []) us) (sym (append-nil others)) one in
    let m = rest_once accepts w 0 (length turns) turns others None None limit limit first second
    (outside_of (turns ++ []) (others ++ []) two) in
    (m.0, m.2)

-- of accounts
abbrev rest_of : {E F : Type 0} (accepts : Acceptance) (settings : Settings)
    (before after : Told E F) (max : ℕ) (result : RunEnd E F)
    (account : Ran accepts settings before after max result) → IsDetermined result
    → Rest accepts (opening_world settings) 0 max account.turns account.last result
rest_of accepts settings before after max result account d =
    let e : length account.turns ≡ 0 + length account.turns = omega arith in
    record {
      world = account.world;
      run = account.run;
      stops = subst (λ m. Stops accepts account.world m max account.last result) e
          (stops accepts account.world (length account.turns) max account.last
          (Rose before.faults after.faults) result account.closes d);
    }

-- where outside of them all is the same, under one limit
pub outside_once : {E F : Type 0} (accepts : Acceptance) (settings : Settings)
    (before after earlier later : Told E F) (max : ℕ) (result answer : RunEnd E F)
    (account : Ran accepts settings before after max result)
    (other : Ran accepts settings earlier later max answer)
    → IsSameOutside (account.turns ++ option_to_list account.last)
    (other.turns ++ option_to_list other.last) → IsDetermined result → IsDetermined answer
    → IsSameRun account other
outside_once accepts settings before after earlier later max result answer account other alike
    d e =
    let m = rest_once accepts (opening_world settings) 0 max account.turns other.turns account.last
    other.last result answer (rest_of accepts settings before after max result account d)
    (rest_of accepts settings earlier later max answer other e) alike in
    record { turns = m.0; world = m.2; last = m.1; answered = m.3 }

-- a rest under the limit that it just reaches
limited : {E F : Type 0} (accepts : Acceptance) (w : World) (count max most : ℕ)
    (last : Option (Turn E F)) (r : RunEnd E F) → most ≡ count + length (option_to_list last)
    → Stops accepts w count max last r → Stops accepts w count most last r
limited accepts w count max most (Some t) r e h =
    let f : most ≡ count + length (t ∷ []) = e in (omega arith, h.1)
limited accepts w count max most None r e h =
    let f : most ≡ count + 0 = e in (omega arith, h.1)

abbrev rest_within : {E F : Type 0} (accepts : Acceptance) (w : World) (max most : ℕ)
    (ts : List (Turn E F)) (last : Option (Turn E F)) (r : RunEnd E F)
    (h : Rest accepts w 0 max ts last r) → most ≡ length (taken ts last)
    → Rest accepts w 0 most ts last r
rest_within accepts w max most ts last r h e =
    let n : length (taken ts last) ≡ length ts + length (option_to_list last) =
    length-append ts (option_to_list last) in
    record {
      world = h.world;
      run = h.run;
      stops = limited accepts h.world (0 + length ts) max most last r (omega arith) h.stops;
    }

-- where the same inputs were taken, whatever the limits
pub run_once : {E F : Type 0} (accepts : Acceptance) (settings : Settings)
    (before after earlier later : Told E F) (max most : ℕ) (result answer : RunEnd E F)
    (account : Ran accepts settings before after max result)
    (other : Ran accepts settings earlier later most answer)
    → AreGivenAlike (account.turns ++ option_to_list account.last)
    (other.turns ++ option_to_list other.last) → IsDetermined result → IsDetermined answer
    → IsSameRun account other
run_once accepts settings before after earlier later max most result answer account other alike
    d e =
    let w = opening_world settings in
    let ts = taken account.turns account.last in
    let us = taken other.turns other.last in
    let m = rest_once accepts w 0 (length ts) account.turns other.turns account.last other.last
    result answer
    (rest_within accepts w max (length ts) account.turns account.last result
    (rest_of accepts settings before after max result account d) refl)
    (rest_within accepts w most (length ts) other.turns other.last answer
    (rest_of accepts settings earlier later most answer other e) (as_many ts us alike.0))
    (outside_of ts us alike) in
    record { turns = m.0; world = m.2; last = m.1; answered = m.3 }
