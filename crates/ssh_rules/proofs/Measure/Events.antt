-- How many frames that a measure counts are sent, event by event: no more than may come (RFC 4254
-- section 5).
use Rattle.std.proofs.Common.{◌≡◌, ◌≤◌, ◌+◌, ◌-◌, ℕ, List, [], ◌∷◌, ◌++◌, map, Bool, true, false}
use Rattle.std.proofs.Common.{cond, Option, Some, None}
use Rattle.std.proofs.Common.{refl, sym, ap, subst, inl, inr, arith}
use Rattle.ssh_link.specs.Frames.{Frame}
use Rattle.ssh_link.specs.declared.link.TraceEntry.{TraceEntry}
use Rattle.ssh_link.specs.declared.link.TraceEntry.TheVariants.{Sent}
use Rattle.ssh_auth.specs.declared.question.Question.{Question}
use Rattle.ssh_auth.specs.Plan.{Plan, Finish, Ask, Tell, Answer, Event, Told, asked_in, Follows}
use Rattle.ssh_auth.specs.Plan.{after}
use Rattle.ssh_auth.proofs.Back.{asked_so, refused_so}
use Rattle.ssh_channels.specs.Lines.{Lines, handed, hands_on}
use Rattle.ssh_rules.specs.Acts.{acts, tell_all}
use Rattle.ssh_rules.specs.Answered.{how_many, sends_answer}
use Rattle.ssh_rules.specs.Outcome.{Outcome, Goes, Ends, Fails}
use Rattle.ssh_rules.specs.Run.{finish_input, handed_on, going_out, goes_unless_ended, begins}
use Rattle.ssh_rules.specs.Run.{is_due, is_over}
use Rattle.ssh_rules.specs.World.{World, is_held}
use Rattle.ssh_rules.proofs.Plans.Acting.{PlanComes, ActsCome, acts_come}
use Rattle.ssh_rules.proofs.Answered.CallbackRows.{asked_silent}
use Rattle.ssh_rules.proofs.Authorised.Guards.{Walks}
use Rattle.ssh_rules.proofs.Measure.Calls.{Measure, one_if, lines_owe}
use Rattle.ssh_rules.proofs.Measure.Commands.{owing, OwesUpTo, ComesUpTo, law, exchanged_upto}
use Rattle.ssh_rules.proofs.Plans.Settled.{Anything}
use Rattle.ssh_rules.proofs.Plans.Telling.{IsUnsent, SendsNone, acts_send_none}

-- ---- plans

-- so many may be sent from then on, where this was asked: one more, where it makes one
abbrev pub asked_more : Measure → (left : ℕ) → Question → ℕ
asked_more of left question = cond (of.asks question) (left + 1) left

-- and where this was told: one less, where it was such a frame
abbrev pub is_told : (such : Frame → Bool) → TraceEntry → Bool
is_told such (Sent frame) = such frame
is_told such _ = false

abbrev pub told_more : Measure → (left : ℕ) → TraceEntry → ℕ
told_more of left entry = cond (is_told of.such entry) (left - 1) left

-- where so many may be sent, and one from each question on that makes one, what may still come is
-- covered
abbrev pub Covered : Measure → (left : ℕ) → Plan Outcome → Type 0
Covered of left (Finish (Goes w)) = owing of w ≤ left
Covered of left (Finish (Ends w)) = owing of w ≤ left
Covered of left (Finish (Fails fault)) = Unit {0}
Covered of left (Ask question next) = (answer : Answer question)
    → Covered of (asked_more of left question) (next answer)
Covered of left (Tell entry next) = Covered of left next

pub still_low : (b : Bool) (k left : ℕ) → k ≤ left → k ≤ cond b (left + 1) left
still_low true k left h = omega (arith, h)
still_low false k left h = h

pub covered : (of : Measure) (k left : ℕ) (plan : Plan Outcome) → k ≤ left →
    PlanComes Anything (ComesUpTo of k) plan → Covered of left plan
covered of k left (Finish (Goes w)) l h = omega (arith, l, h)
covered of k left (Finish (Ends w)) l h = omega (arith, l, h)
covered of k left (Finish (Fails fault)) l h = tt
covered of k left (Ask question next) l h = λ answer.
    covered of k (asked_more of left question) (next answer)
    (still_low (of.asks question) k left l) (h answer tt)
covered of k left (Tell entry next) l h = covered of k left next l h

-- whatever is answered, no more frames are sent than are left, and no more may come in the world
-- that it comes to
abbrev pub Allowed : Measure → (left : ℕ) → Plan Outcome → Type 0
Allowed of left (Finish (Goes w)) = owing of w ≤ left
Allowed of left (Finish _) = Unit {0}
Allowed of left (Ask question next) = (answer : Answer question)
    → Allowed of (asked_more of left question) (next answer)
Allowed of left (Tell entry next) = (one_if (is_told of.such entry) ≤ left)
    × Allowed of (told_more of left entry) next

frame_step : (b : Bool) (of : Measure) (left n rest : ℕ) (frame : Frame) (next : Plan Outcome) →
    of.such frame ≡ b → cond b (n + 1) n + rest ≤ left →
    ((l : ℕ) → n + rest ≤ l → Allowed of l next) → Allowed of left (Tell (Sent frame) next)
frame_step true of left n rest frame next is l h =
    rw is (omega (arith, l), h (left - 1) (omega (arith, l)))
frame_step false of left n rest frame next is l h = rw is (omega arith, h left l)

frames_allowed : (of : Measure) (left rest : ℕ) (frames : List Frame) (next : Plan Outcome) →
    how_many of.such frames + rest ≤ left → ((l : ℕ) → rest ≤ l → Allowed of l next) →
    Allowed of left (tell_all (map Sent frames) next)
frames_allowed of left rest [] next l h = h left (omega (arith, l))
frames_allowed of left rest (frame ∷ frames) next l h =
    frame_step (of.such frame) of left (how_many of.such frames) rest frame
    (tell_all (map Sent frames) next) refl l
    (λ m e. frames_allowed of m rest frames next e h)

-- a frame of an exchange of keys is none
unsent_told : (of : Measure) (entry : TraceEntry) → IsUnsent entry →
    is_told of.such entry ≡ false
unsent_told of (Sent frame) h = of.exchanged frame h.0 h.1
unsent_told of _ h = refl

-- a plan that tells no other frame
silent_allowed : (of : Measure) (left : ℕ) (plan : Plan Outcome) → SendsNone plan →
    Covered of left plan → Allowed of left plan
silent_allowed of left (Finish (Goes w)) s h = h
silent_allowed of left (Finish (Ends w)) s h = tt
silent_allowed of left (Finish (Fails fault)) s h = tt
silent_allowed of left (Ask question next) s h = λ answer.
    silent_allowed of (asked_more of left question) (next answer) (s answer) (h answer)
silent_allowed of left (Tell entry next) s h =
    let same = unsent_told of entry s.0 in
    rw same (omega arith, silent_allowed of left next s.1 h)

-- at the end of an input this side may begin an exchange
begins_come : (of : Measure) (k : ℕ) (due : Bool) (w : World) → OwesUpTo of k w →
    ActsCome (law of k) (begins due) w
begins_come of k true w h = (exchanged_upto of k w h, λ world j. tt)
begins_come of k false w h = tt

begins_allowed : (of : Measure) (left : ℕ) (due : Bool) (w : World) → OwesUpTo of left w →
    Allowed of left (acts (begins due) w)
begins_allowed of left due w h =
    silent_allowed of left (acts (begins due) w) (acts_send_none (begins due) w)
    (covered of left left (acts (begins due) w) (omega arith)
    (acts_come (law of left) (begins due) w h (begins_come of left due w h)))

ended_allowed : (of : Measure) (left : ℕ) (ended due : Bool) (w : World) → OwesUpTo of left w →
    Allowed of left (cond ended (Finish (Ends w)) (acts (begins due) w))
ended_allowed of left true due w h = tt
ended_allowed of left false due w h = begins_allowed of left due w h

-- what is handed on is less by so many, and what is held stays
held_same : (of : Measure) (held : Bool) (l : Lines) (rest : ℕ) →
    how_many of.such (handed held l) + (lines_owe of (hands_on held l) + rest)
    ≡ lines_owe of l + rest
held_same of true l rest = omega arith
held_same of false l rest = omega arith

passed_allowed : (of : Measure) (left : ℕ) (w : World) (next : World → Plan Outcome) →
    OwesUpTo of left w → ((l : ℕ) (v : World) → OwesUpTo of l v → Allowed of l (next v)) →
    Allowed of left (tell_all (map Sent (going_out w)) (next (handed_on w)))
passed_allowed of left w next h f =
    let same = held_same of (is_held w) w.channels.lines
    (of.waiting w.channels.opens + of.globally w.globals.wanted) in
    frames_allowed of left (owing of (handed_on w)) (going_out w) (next (handed_on w))
    (omega (arith, same, h)) (λ l e. f l (handed_on w) e)

finished_allowed : (of : Measure) (ticked : Bool) (left : ℕ) (outcome : Outcome) →
    Covered of left (Finish outcome) → Allowed of left (finish_input ticked outcome)
finished_allowed of ticked left (Goes w) h = passed_allowed of left w (goes_unless_ended ticked) h
    (λ l v e. ended_allowed of l v.disconnected (is_due ticked v) v e)
finished_allowed of ticked left (Ends w) h = passed_allowed of left w is_over h (λ l v e. tt)
finished_allowed of ticked left (Fails fault) h = tt

pub input_allowed : (of : Measure) (ticked : Bool) (left : ℕ) (plan : Plan Outcome) →
    SendsNone plan → Covered of left plan → Allowed of left (after plan (finish_input ticked))
input_allowed of ticked left (Finish outcome) s h = finished_allowed of ticked left outcome h
input_allowed of ticked left (Ask question next) s h = λ answer.
    input_allowed of ticked (asked_more of left question) (next answer) (s answer) (h answer)
input_allowed of ticked left (Tell entry next) s h =
    let same = unsent_told of entry s.0 in
    rw same (omega arith, input_allowed of ticked left next s.1 h)

-- ---- events

-- a question of this kind was answered
abbrev pub asks_in : (asks : Question → Bool) → Option Question → Bool
asks_in asks None = false
asks_in asks (Some question) = asks question

abbrev pub returned : {E F : Type 0} → (asks : Question → Bool) → Event E F → Bool
returned asks event = asks_in asks (asked_in event)

-- so many may be sent after an event: one less after such a frame, and one more after a question
-- that makes one
abbrev pub left_after : {E F : Type 0} → Measure → (left : ℕ) → Event E F → ℕ
left_after of left event = cond (sends_answer of.such event) (left - 1)
    (cond (returned of.asks event) (left + 1) left)

-- and after these events
abbrev pub left_through : {E F : Type 0} → Measure → (left : ℕ) → List (Event E F) → ℕ
left_through of left [] = left
left_through of left (event ∷ events) = left_through of (left_after of left event) events

-- each of these frames that is sent may be
abbrev pub Within : {E F : Type 0} → Measure → (left : ℕ) → List (Event E F) → Type 0
Within of left [] = Unit {0}
Within of left (event ∷ events) = (one_if (sends_answer of.such event) ≤ left)
    × Within of (left_after of left event) events

pub within_both : {E F : Type 0} (of : Measure) (left : ℕ) (xs ys : List (Event E F)) →
    Within of left xs → Within of (left_through of left xs) ys → Within of left (xs ++ ys)
within_both of left [] ys h k = k
within_both of left (x ∷ xs) ys h k = (h.0, within_both of (left_after of left x) xs ys h.1 k)

pub within_rest : {E F : Type 0} (of : Measure) (left : ℕ) (past more : List (Event E F)) →
    Within of left (past ++ more) → Within of (left_through of left past) more
within_rest of left [] more h = h
within_rest of left (x ∷ past) more h = within_rest of (left_after of left x) past more h.1

pub within_first : {E F : Type 0} (of : Measure) (left : ℕ) (past more : List (Event E F)) →
    Within of left (past ++ more) → Within of left past
within_first of left [] more h = tt
within_first of left (x ∷ past) more h =
    (h.0, within_first of (left_after of left x) past more h.1)

few_step : (s r : Bool) (left n t c : ℕ) → one_if s ≤ left →
    n + t ≤ cond s (left - 1) (cond r (left + 1) left) + c →
    cond s (n + 1) n + t ≤ left + cond r (c + 1) c
few_step true true left n t c h k = omega (arith, h, k)
few_step true false left n t c h k = omega (arith, h, k)
few_step false true left n t c h k = omega (arith, k)
few_step false false left n t c h k = k

-- so no more are sent than are left, and one for each question that makes one, but for those that
-- are left then
pub within_few : {E F : Type 0} (of : Measure) (left : ℕ) (events : List (Event E F)) →
    Within of left events → how_many (sends_answer of.such) events + left_through of left events
    ≤ left + how_many (returned of.asks) events
within_few of left [] h = omega arith
within_few of left (x ∷ events) h =
    few_step (sends_answer of.such x) (returned of.asks x) left
    (how_many (sends_answer of.such) events) (left_through of (left_after of left x) events)
    (how_many (returned of.asks) events) h.0
    (within_few of (left_after of left x) events h.1)

-- ---- plans and their events

-- an event in which this was asked sends nothing, and counts as the question does
asked_counts : {E F : Type 0} (of : Measure) (event : Event E F) (question : Question) →
    asked_in event ≡ Some question →
    (sends_answer of.such event ≡ false) × (returned of.asks event ≡ of.asks question)
asked_counts of event question is =
    (asked_silent of.such event question is, ap (asks_in of.asks) is)

told_counts : (E F : Type 0) (such : Frame → Bool) (entry : TraceEntry) →
    sends_answer {E = E} {F = F} such (Told entry) ≡ is_told such entry
told_counts E F such (Sent frame) = refl
told_counts E F such _ = refl

-- an answered question
asked_within : {E F : Type 0} (of : Measure) (left : ℕ) (question : Question) (event : Event E F)
    (events : List (Event E F)) → asked_in event ≡ Some question →
    Within of (asked_more of left question) events → Within of left (event ∷ events)
asked_within of left question event events is h =
    let c = asked_counts of event question is in rw (c.0, c.1) (omega arith, h)

pub walks_within : {E F : Type 0} (of : Measure) (left : ℕ) (plan : Plan Outcome)
    (events : List (Event E F)) → Allowed of left plan → Walks plan events → Within of left events
walks_within of left plan [] h w = tt
walks_within of left (Finish outcome) (event ∷ events) h w = absurd w
walks_within of left (Ask question next) (event ∷ events) h (inl w) =
    asked_within of left question event events (asked_so question w.0 event w.1)
    (walks_within of (asked_more of left question) (next w.0) events (h w.0) w.2)
walks_within of left (Ask question next) (event ∷ events) h (inr w) =
    asked_within of left question event events (refused_so question w.0 event w.1)
    (subst (Within of (asked_more of left question)) (sym w.2) tt)
walks_within {E} {F} of left (Tell entry next) (event ∷ events) h w =
    subst (λ x. Within of left (x ∷ events)) (sym w.0)
    (rw (told_counts E F of.such entry)
    (h.0, walks_within of (told_more of left entry) next events h.1 w.1))

-- what may still come in the world that it came to is covered
pub follows_covered : {E F : Type 0} (of : Measure) (left : ℕ) (plan : Plan Outcome)
    (events : List (Event E F)) (world : World) → Allowed of left plan →
    Follows plan events (Goes world) → owing of world ≤ left_through of left events
follows_covered of left plan [] world h f = subst (Allowed of left) f h
follows_covered of left (Finish other) (event ∷ events) world h f = absurd f
follows_covered of left (Ask question next) (event ∷ events) world h f =
    let c = asked_counts of event question (asked_so question f.0 event f.1) in
    rw (c.0, c.1) (follows_covered of (asked_more of left question) (next f.0) events world
    (h f.0) f.2)
follows_covered {E} {F} of left (Tell entry next) (event ∷ events) world h f =
    subst (λ x. owing of world ≤ left_through of left (x ∷ events)) (sym f.0)
    (rw (told_counts E F of.such entry)
    (follows_covered of (told_more of left entry) next events world h.1 f.1))
