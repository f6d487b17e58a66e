-- An open of the peer's gets at most one answer, by induction over a run (RFC 4254 section 5.1).
use Rattle.std.proofs.Common.{◌≡◌, ◌⊎◌, ◌≤◌, ◌+◌, ◌==◌, ◌&&◌, ◌||◌, ℕ, List, [], ◌∷◌, ◌++◌, Bool}
use Rattle.std.proofs.Common.{true, false, not, cond, Option, Result}
use Rattle.std.proofs.Common.{refl, sym, ◌∙◌, subst, inl, inr, arith, append_assoc}
use Rattle.std.specs.List.{list_any}
use Rattle.std.specs.Prelude.{option_to_list}
use Rattle.ssh_link.specs.declared.kex.KexCall.TheVariants as kex
use Rattle.ssh_auth.specs.Plan.{Plan, Finish, Ask, Tell, Event, Called, Stepped, Told}
use Rattle.ssh_auth.specs.Plan.{Follows, after, calls_in}
use Rattle.ssh_auth.specs.Publickey.{Acceptance}
use Rattle.ssh_rules.specs.declared.error.RunError.{RunError}
use Rattle.ssh_rules.specs.Account.{Closes}
use Rattle.ssh_rules.specs.Answered.{how_many, is_answer, is_answer_on, sends_answer}
use Rattle.ssh_rules.specs.Answered.{open_returned_on, is_open, is_none, is_uncalled}
use Rattle.ssh_rules.specs.Answered.{is_uncalled_outside, is_uncalled_inside, shown}
use Rattle.ssh_rules.specs.Answered.{answers_left, called_events, draws, is_drawn, is_held_on}
use Rattle.ssh_rules.specs.Answered.{HoldAnswers, Answered}
use Rattle.ssh_channels.specs.Lines.{next_number}
use Rattle.ssh_rules.specs.Opening.{Opening}
use Rattle.ssh_rules.specs.Outcome.{Outcome, Goes}
use Rattle.ssh_rules.specs.Run.{Turn, Turns, Run, Owes, IsTaken, calls_of, finish_input}
use Rattle.ssh_rules.specs.Run.{asks_for_keys}
use Rattle.ssh_rules.specs.World.{Settings, World, in_exchange, opening_world}
use Rattle.ssh_rules.proofs.Authorised.Run.{AllWalk, run_walks, last_walks, behind}
use Rattle.ssh_rules.proofs.Answered.Inputs.{CoveredOnce, kind_covered, covered_more, most_on, once_more}
use Rattle.ssh_rules.proofs.Answered.Measure.{answers_on, asks_open, waiting_once}
use Rattle.ssh_rules.proofs.Ledger.Inputs.{run_kept, nothing_kept}
use Rattle.ssh_rules.proofs.Answered.CallbackEvents.{turn_called}
use Rattle.ssh_rules.proofs.Measure.Events.{Covered, Allowed, input_allowed, returned, left_through}
use Rattle.ssh_rules.proofs.Measure.Events.{Within, within_first, within_few, walks_within}
use Rattle.ssh_rules.proofs.Measure.Events.{follows_covered}
use Rattle.ssh_rules.proofs.Plans.Emptied.{IsUnheld, owed_emptied, nothing_left}
use Rattle.ssh_rules.proofs.Authorised.Guards.{Walks}
use Rattle.ssh_rules.proofs.Measure.Calls.{one_if, how_many_same, how_many_both}
use Rattle.ssh_rules.proofs.Measure.Commands.{OwesUpTo, owing}
use Rattle.ssh_rules.proofs.Ledger.Pending.{IsReserved}
use Rattle.ssh_rules.proofs.Plans.Telling.{kind_silent}
use Rattle.ssh_rules.proofs.Answered.NoCallback.{IsUncalled, kind_uncalled, uncalled_few, uncalled_same}
use Rattle.ssh_rules.proofs.Answered.NoCallback.{finished_uncalled}
use Rattle.ssh_rules.proofs.Ledger.Waiting.{AllWaiting}

-- ---- tests

both_true : (a b : Bool) → (a && b) ≡ true → (a ≡ true) × (b ≡ true)
both_true true true h = (refl, refl)
both_true true false h = absurd (cc)
both_true false b h = absurd (cc)

other_inside : (a b : Bool) → (a && b) ≡ false → a ≡ true → (a && not b) ≡ true
other_inside true true h is = absurd (cc)
other_inside true false h is = refl
other_inside false b h is = absurd (cc)

was_false : (b : Bool) → not b ≡ true → b ≡ false
was_false true h = absurd (cc)
was_false false h = refl

-- replies to opens are asked for outside an exchange of keys
pub taken_outside : {E F : Type 0} (w : World) (turn : Turn E F) → IsTaken w turn →
    turn.replies ≡ true → in_exchange w ≡ false
taken_outside w turn taken is = was_false (in_exchange w) (sym taken.1 ∙ is)

-- ---- an open outside an exchange in whose input no callback is made

turn_uncalled : {E F : Type 0} (accepts : Acceptance) (w : World) (turn : Turn E F)
    (plan : Plan Outcome) → Owes accepts w turn.input plan → IsTaken w turn → IsUnheld w →
    is_uncalled_outside turn ≡ true →
    (first : Plan Outcome) × IsUncalled w first
    × (plan ≡ after first (finish_input (asks_for_keys turn.input.kind)))
    × (is_none (calls_of turn) ≡ true)
turn_uncalled accepts w turn plan o taken none is =
    let outside = both_true (is_uncalled turn) turn.replies is in
    let both = both_true (is_open turn.input.kind) (is_none (calls_of turn)) outside.0 in
    let idle = taken_outside w turn taken outside.1 in
    let first = kind_uncalled accepts w turn.input.moment turn.input.kind o.0 o.1 both.0
    (none idle, idle) in
    (o.0, first, o.2, both.1)

turn_few : {E F : Type 0} (accepts : Acceptance) (w : World) (turn : Turn E F) (plan : Plan Outcome)
    → Owes accepts w turn.input plan → IsTaken w turn → IsUnheld w → Walks plan turn.events →
    is_uncalled_outside turn ≡ true → how_many (sends_answer is_answer) turn.events ≤ 1
turn_few accepts w turn plan o taken none walks is =
    let u = turn_uncalled accepts w turn plan o taken none is in
    uncalled_few (asks_for_keys turn.input.kind) w u.0 turn.events u.1
    (subst (λ p. Walks p turn.events) u.2 walks) u.3

-- ---- the other inputs

-- in an input in which a callback is made, something is asked before its end
called_covered : {E F : Type 0} (ticked : Bool) (number left most : ℕ) (plan : Plan Outcome)
    (events : List (Event E F)) → CoveredOnce number left most plan →
    Walks (after plan (finish_input ticked)) events → is_none (calls_in events) ≡ false →
    Covered (answers_on number) left plan
called_covered ticked number left most (Finish outcome) events c h called =
    absurd (let none = finished_uncalled ticked outcome events h in cc)
called_covered ticked number left most (Ask question next) events c h called = c
called_covered ticked number left most (Tell entry next) events c h called = c

-- an open in which none is made came in an exchange, and one more answer is left for it on the
-- number that it draws
once_step : {E F : Type 0} (none : Bool) (number left most k : ℕ) (turn : Turn E F)
    (first : Plan Outcome) → is_none (calls_of turn) ≡ none → is_open turn.input.kind ≡ true →
    CoveredOnce number left most first →
    Walks (after first (finish_input (asks_for_keys turn.input.kind))) turn.events →
    is_uncalled_outside turn ≡ false → left ≤ most → left ≤ k →
    (is_uncalled_inside turn ≡ true → most ≤ k) → Covered (answers_on number) k first
once_step true number left most k turn first none opens c walks is low l more =
    let uncalled : is_uncalled turn ≡ true = rw (opens, none) refl in
    covered_more (answers_on number) most k first
    (more (other_inside (is_uncalled turn) turn.replies is uncalled))
    (once_more number left most first low c)
once_step false number left most k turn first none opens c walks is low l more =
    covered_more (answers_on number) left k first l
    (called_covered (asks_for_keys turn.input.kind) number left most first turn.events c walks none)

covered_step : {E F : Type 0} (number left most k : ℕ) (turn : Turn E F) (first : Plan Outcome) →
    ((is_open turn.input.kind ≡ true) × CoveredOnce number left most first)
    ⊎ Covered (answers_on number) left first →
    Walks (after first (finish_input (asks_for_keys turn.input.kind))) turn.events →
    is_uncalled_outside turn ≡ false → left ≤ most → left ≤ k →
    (is_uncalled_inside turn ≡ true → most ≤ k) → Covered (answers_on number) k first
covered_step number left most k turn first (inl c) walks is low l more =
    once_step (is_none (calls_of turn)) number left most k turn first refl c.0 c.1 walks is low l
    more
covered_step number left most k turn first (inr c) walks is low l more =
    covered_more (answers_on number) left k first l c

less_for : (left : ℕ) (b : Bool) → left ≤ left + one_if b
less_for left b = omega arith

turn_allowed : {E F : Type 0} (accepts : Acceptance) (number left k : ℕ) (w : World)
    (turn : Turn E F) (plan : Plan Outcome) → Owes accepts w turn.input plan →
    OwesUpTo (answers_on number) left w → Walks plan turn.events →
    is_uncalled_outside turn ≡ false → left ≤ k →
    (is_uncalled_inside turn ≡ true → most_on number left (next_number w.channels.lines) ≤ k) →
    Allowed (answers_on number) k plan
turn_allowed accepts number left k w turn plan o h walks is l more =
    let drawn = next_number w.channels.lines in
    rw o.2 (input_allowed (answers_on number) (asks_for_keys turn.input.kind) k o.0
    (kind_silent accepts w turn.input.moment turn.input.kind o.0 o.1)
    (covered_step number left (most_on number left drawn) k turn o.0
    (kind_covered accepts number left w turn.input.moment turn.input.kind o.0 o.1 h)
    (subst (λ p. Walks p turn.events) o.2 walks) is (less_for left (is_drawn number drawn)) l more))

-- ---- one input

-- so many are left for an input: one more, where it is an open in an exchange that is refused at
-- once on this number
abbrev left_for : {E F : Type 0} → (number left : ℕ) → World → Turn E F → ℕ
left_for number left w turn = left + one_if (is_held_on number w turn)

more_for : (left : ℕ) (a b : Bool) → a ≡ true → left + one_if b ≤ left + one_if (a && b)
more_for left true b is = omega arith
more_for left false b is = absurd (cc)

turn_within : {E F : Type 0} (outside : Bool) (accepts : Acceptance) (number left : ℕ) (w : World)
    (turn : Turn E F) (plan : Plan Outcome) → is_uncalled_outside turn ≡ outside →
    Owes accepts w turn.input plan → OwesUpTo (answers_on number) left w → Walks plan turn.events →
    Within (answers_on number) (left_for number left w turn) (cond outside [] turn.events)
turn_within true accepts number left w turn plan is o h walks = tt
turn_within false accepts number left w turn plan is o h walks =
    let k = left_for number left w turn in
    walks_within (answers_on number) k plan turn.events
    (turn_allowed accepts number left k w turn plan o h walks is
    (less_for left (is_held_on number w turn))
    (more_for left (is_uncalled_inside turn) (draws number w))) walks

turn_covered : {E F : Type 0} (outside : Bool) (accepts : Acceptance) (number left : ℕ) (w : World)
    (turn : Turn E F) (plan : Plan Outcome) (mid : World) → is_uncalled_outside turn ≡ outside →
    Owes accepts w turn.input plan → IsTaken w turn → IsUnheld w →
    OwesUpTo (answers_on number) left w → Walks plan turn.events →
    Follows plan turn.events (Goes mid) →
    OwesUpTo (answers_on number)
    (left_through (answers_on number) (left_for number left w turn) (cond outside [] turn.events))
    mid
turn_covered {E} {F} true accepts number left w turn plan mid is o taken none h walks f =
    let u = turn_uncalled accepts w turn plan o taken none is in
    let same = uncalled_same (asks_for_keys turn.input.kind) w u.0 turn.events mid u.1
    (subst (λ p. Follows {E = E} {F = F} p turn.events (Goes mid)) u.2 f) u.3 in
    let less = less_for left (is_held_on number w turn) in
    rw (same.1, same.0) (omega (arith, h, less))
turn_covered false accepts number left w turn plan mid is o taken none h walks f =
    let k = left_for number left w turn in
    follows_covered (answers_on number) k plan turn.events mid
    (turn_allowed accepts number left k w turn plan o h walks is
    (less_for left (is_held_on number w turn))
    (more_for left (is_uncalled_inside turn) (draws number w))) f

-- ---- counts

-- the callback of an open of the number returned where the question about it was answered
returned_same : {E F : Type 0} (number : ℕ) (event : Event E F) →
    returned (asks_open number) event ≡ open_returned_on number event
returned_same number (Called call) = refl
returned_same number (Stepped (kex.Begun answer)) = refl
returned_same number (Stepped (kex.Stepped payload answer)) = refl
returned_same number (Told entry) = refl

abbrev sent : {E F : Type 0} → (number : ℕ) → List (Event E F) → ℕ
sent number events = how_many (sends_answer (is_answer_on number)) events

abbrev back : {E F : Type 0} → (number : ℕ) → List (Event E F) → ℕ
back number events = how_many (open_returned_on number) events

few_answers : {E F : Type 0} (number left : ℕ) (events : List (Event E F)) →
    Within (answers_on number) left events →
    sent number events + left_through (answers_on number) left events ≤ left + back number events
few_answers number left events h =
    let few : sent number events + left_through (answers_on number) left events
    ≤ left + how_many (returned (asks_open number)) events =
    within_few (answers_on number) left events h in
    let same = how_many_same (returned (asks_open number)) (open_returned_on number) events
    (returned_same number) in
    omega (arith, few, same)

counts_more : (b : Bool) (n : ℕ) → cond b (n + 1) n ≡ n + one_if b
counts_more true n = omega arith
counts_more false n = omega arith

-- what is so of the events of one input, and of those behind it
sum_few : {E F : Type 0} (number left later inside : ℕ) (b : Bool) (xs ys : List (Event E F)) →
    sent number xs + later ≤ (left + one_if b) + back number xs →
    sent number ys ≤ later + back number ys + inside →
    sent number (xs ++ ys) ≤ left + back number (xs ++ ys) + cond b (inside + 1) inside
sum_few number left later inside b xs ys h k =
    let s = how_many_both (sends_answer (is_answer_on number)) xs ys in
    let r = how_many_both (open_returned_on number) xs ys in
    let more = counts_more b inside in
    omega (arith, s, r, more, h, k)

-- ---- a run

-- no more answers are sent in these events, which are of these inputs, than were left, and than come
-- to be
abbrev FewIn : {E F : Type 0} → Acceptance → (number left : ℕ) → World → List (Turn E F)
    → List (Event E F) → Type 0
FewIn accepts number left w turns events = (held : ℕ) × HoldAnswers accepts number w turns held
    × (sent number events ≤ left + back number events + held)

-- one input, and then these
few_more : {E F : Type 0} (accepts : Acceptance) (number left later : ℕ) (w mid : World)
    (turn : Turn E F) (turns : List (Turn E F)) (xs ys : List (Event E F)) →
    Turns accepts w turn mid →
    sent number xs + later ≤ (left + one_if (is_held_on number w turn)) + back number xs →
    FewIn accepts number later mid turns ys → FewIn accepts number left w (turn ∷ turns) (xs ++ ys)
few_more accepts number left later w mid turn turns xs ys leads few (held, count, rest) = (
  cond (is_held_on number w turn) (held + 1) held,
  (held, refl, inr (mid, leads, count)),
  sum_few number left later held (is_held_on number w turn) xs ys few rest,
)

few_in : {E F : Type 0} (accepts : Acceptance) (number left : ℕ) (w : World)
    (before : List (Turn E F)) (turn : Turn E F) (after : List (Turn E F))
    (past more : List (Event E F)) → AllWalk accepts w (before ++ turn ∷ after) → IsUnheld w →
    OwesUpTo (answers_on number) left w → shown turn ≡ past ++ more →
    FewIn accepts number left w (before ++ turn ∷ []) (called_events before ++ past)
few_in accepts number left w [] turn after past more (plan, owes, walks, next, taken) none h is =
    let k = left_for number left w turn in
    let within = turn_within (is_uncalled_outside turn) accepts number left w turn plan refl owes h
    walks in
    let few = few_answers number k past
    (within_first (answers_on number) k past more
    (subst (Within (answers_on number) k) is within)) in
    let one = counts_more (is_held_on number w turn) 0 in (
      cond (is_held_on number w turn) 1 0,
      (0, refl, inl (refl, refl)),
      omega (arith, few, one),
    )
few_in accepts number left w (t ∷ before) turn after past more (plan, owes, walks, inl last, taken)
    none h is =
    absurd (nothing_left before turn after last)
few_in accepts number left w (t ∷ before) turn after past more (plan, owes, walks, inr next, taken)
    none h is =
    let k = left_for number left w t in
    let within = turn_within (is_uncalled_outside t) accepts number left w t plan refl owes h walks
    in
    let few = few_answers number k (shown t) within in
    let later = left_through (answers_on number) k (shown t) in
    let rest = few_in accepts number later next.0 before turn after past more next.2
    (owed_emptied accepts w t plan next.0 owes next.1)
    (turn_covered (is_uncalled_outside t) accepts number left w t plan next.0 refl owes taken none h
    walks next.1) is in
    subst (FewIn accepts number left w (t ∷ (before ++ turn ∷ [])))
    (sym (append_assoc (shown t) (called_events before) past))
    (few_more accepts number left later w next.0 t (before ++ turn ∷ []) (shown t)
    (called_events before ++ past) (plan, owes, next.1, taken) few rest)

-- where at most one is such, it is one where any is
any_step : (b any : Bool) (n : ℕ) → cond b (n + 1) n ≤ 1 → n ≤ cond any 1 0 →
    cond b (n + 1) n ≤ cond (b || any) 1 0
any_step true any n h k = h
any_step false any n h k = k

less_step : (b : Bool) (n : ℕ) → cond b (n + 1) n ≤ 1 → n ≤ 1
less_step true n h = omega (arith, h)
less_step false n h = h

any_many : {X : Type 0} (such : X → Bool) (xs : List X) → how_many such xs ≤ 1 →
    how_many such xs ≤ cond (list_any such xs) 1 0
any_many such [] h = omega arith
any_many such (x ∷ xs) h =
    any_step (such x) (list_any such xs) (how_many such xs) h
    (any_many such xs (less_step (such x) (how_many such xs) h))

-- so many answers are owed in a world where opens wait on different numbers
waiting_left : (number : ℕ) (w : World) →
    AllWaiting 0 (IsReserved w.channels.lines) w.channels.opens →
    owing (answers_on number) w ≤ answers_left number w
waiting_left number w h =
    let once = waiting_once 0 number (IsReserved w.channels.lines) w.channels.opens h in
    let one = any_many (λ (one : ℕ × Opening). number == one.0) w.channels.opens once in
    omega (arith, one)

-- nothing is held outside an exchange in the world that a run leads to
run_unheld : {E F : Type 0} (accepts : Acceptance) (w : World) (turns : List (Turn E F))
    (world : World) → Run accepts w turns world → IsUnheld w → IsUnheld world
run_unheld accepts w [] world run h = subst IsUnheld (sym run) h
run_unheld accepts w (turn ∷ turns) world run h =
    let t = run.1 in
    run_unheld accepts run.0 turns world run.2
    (owed_emptied accepts w turn t.0 run.0 t.1 t.2)

empty_first : {A : Type 0} (xs ys : List A) → xs ++ ys ≡ [] → xs ≡ []
empty_first [] ys h = refl
empty_first (x ∷ xs) ys h = absurd (cc)

-- from an input on, so with all that is sent
span_few : {E F : Type 0} (accepts : Acceptance) (number left : ℕ) (w : World)
    (span more : List (Turn E F)) → AllWalk accepts w (span ++ more) → IsUnheld w →
    OwesUpTo (answers_on number) left w → FewIn accepts number left w span (called_events span)
span_few accepts number left w [] more all none h = (0, refl, omega arith)
span_few {E} {F} accepts number left w (t ∷ span) more (plan, owes, walks, inl last, taken) none h =
    let k = left_for number left w t in
    let within = turn_within (is_uncalled_outside t) accepts number left w t plan refl owes h walks
    in
    let few = few_answers number k (shown t) within in
    let empty = empty_first span more last in (
      cond (is_held_on number w t) 1 0,
      (0, refl, inl (empty, refl)),
      sum_few number left (left_through (answers_on number) k (shown t)) 0 (is_held_on number w t)
          (shown t) (called_events span) few (rw empty (omega arith)),
    )
span_few accepts number left w (t ∷ span) more (plan, owes, walks, inr next, taken) none h =
    let k = left_for number left w t in
    let within = turn_within (is_uncalled_outside t) accepts number left w t plan refl owes h walks
    in
    let few = few_answers number k (shown t) within in
    let later = left_through (answers_on number) k (shown t) in
    few_more accepts number left later w next.0 t span (shown t) (called_events span)
    (plan, owes, next.1, taken) few
    (span_few accepts number later next.0 span more next.2
    (owed_emptied accepts w t plan next.0 owes next.1)
    (turn_covered (is_uncalled_outside t) accepts number left w t plan next.0 refl owes taken none h
    walks next.1))

-- a run answers each open once at most
pub answered : {E F : Type 0} (accepts : Acceptance) (settings : Settings) (turns : List (Turn E F))
    (world : World) (count max : ℕ) (last : Option (Turn E F)) (rose : Type 0)
    (result : Result (Unit {0}) (RunError E F)) →
    Run accepts (opening_world settings) turns world →
    Closes accepts world count max last rose result →
    Answered accepts settings (turns ++ option_to_list last)
answered accepts settings turns world count max last rose result run closes =
    let w = opening_world settings in
    let all = run_walks accepts w turns world (option_to_list last) run
    (last_walks accepts world count max last rose result closes) in
    record {
      called_once = λ before after turn is.
          let at = behind accepts w before turn after (subst (AllWalk accepts w) is all) in
          turn_called accepts at.world turn at.walks.0 at.walks.1 at.walks.2;
      at_once = λ before after turn is uncalled.
          let at = behind accepts w before turn after (subst (AllWalk accepts w) is all) in
          turn_few accepts at.world turn at.walks.0 at.walks.1 at.walks.4
          (run_unheld accepts w before at.world at.run (λ idle. refl)) at.walks.2 uncalled;
      after_call = λ before after turn past more is shows number.
          let few = few_in accepts number 0 w before turn after past more
          (subst (AllWalk accepts w) is all) (λ idle. refl) (omega arith) shows
          in (few.0, few.1, omega (arith, few.2));
      since = λ before span more turn is.
          let at = behind accepts w before turn (span ++ more) (subst (AllWalk accepts w) is all) in
          let none = run_unheld accepts w before at.world at.run (λ idle. refl) in
          let kept = run_kept accepts [] w before at.world at.run (nothing_kept settings) in
          record {
            world = at.world;
            run = at.run;
            within = λ number.
                let left = waiting_left number at.world kept.waiting in
                span_few accepts number (answers_left number at.world) at.world
                (turn ∷ span) more at.walks none left;
          };
    }
