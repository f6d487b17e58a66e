-- At each moment of the last input of a run, what was sent on the channels is what it has to be
-- (RFC 4254 section 5).
use Rattle.std.proofs.Common.{◌≡◌, ◌⊎◌, List, [], ◌∷◌, ◌++◌, map, Bool, true, false, cond}
use Rattle.std.proofs.Common.{Option, Some, None, refl, sym, subst, inl, inr}
use Rattle.std.specs.Prelude.{flat_map, IfSome}
use Rattle.ssh_link.specs.declared.link.TraceEntry.{TraceEntry}
use Rattle.ssh_link.specs.declared.link.TraceEntry.TheVariants.{Sent}
use Rattle.ssh_auth.specs.declared.question.Question.{Question}
use Rattle.ssh_auth.specs.Plan.{Plan, Finish, Ask, Tell, Answer, Answered, answered, Event, Called}
use Rattle.ssh_auth.specs.Plan.{Stepped, Told, Reaches, Follows, after, told_in}
use Rattle.ssh_auth.specs.Publickey.{Acceptance}
use Rattle.ssh_channels.specs.Sent.{IsQuiet}
use Rattle.ssh_rules.specs.declared.error.Flow.{Flow}
use Rattle.ssh_rules.specs.declared.error.Flow.TheVariants.{Continue, Ended}
use Rattle.ssh_rules.specs.Acts.{Beginning, acts, frames_given, moved, payloads_given, tell_all}
use Rattle.ssh_rules.specs.Ledger.{IsLedgered, IsNextLedgered, told_with}
use Rattle.ssh_rules.specs.Outcome.{Outcome, Goes, Ends, Fails}
use Rattle.ssh_rules.specs.Run.{Turn, Run, Owes, asks_for_keys, begins, entries, finish_input}
use Rattle.ssh_rules.specs.Run.{going_out, goes_unless_ended, handed_on, is_due, is_over}
use Rattle.ssh_rules.specs.Cause.{comes}
use Rattle.ssh_rules.specs.World.{Settings, World, opening_world}
use Rattle.ssh_rules.proofs.Ledger.Inputs.{all_quiet, comes_kept, never_told, nothing_kept, quiet_entry}
use Rattle.ssh_rules.proofs.Ledger.Inputs.{run_kept}
use Rattle.ssh_rules.proofs.Plans.Emptied.{comes_emptied}
use Rattle.ssh_rules.proofs.Ledger.Commands.{Kept, ComesKept}
use Rattle.ssh_rules.proofs.Ledger.Sums.{sent_so, sent_all}
use Rattle.ssh_rules.proofs.Plans.Telling.{IsUnsent, SendsNone, kind_silent}

-- ---- plans that can come to their end

-- each question can be answered, and whatever is answered, no fault comes of it
abbrev CanEnd : Plan Outcome → Type 0
CanEnd (Finish (Fails why)) = ⊥
CanEnd (Finish outcome) = Unit {0}
CanEnd (Ask question next) = Answer question
    × ((answer : Answer question) → CanEnd (next answer))
CanEnd (Tell entry next) = CanEnd next

-- behind these events the plan can come to its end
abbrev Completes : {E F : Type 0} → Plan Outcome → List (Event E F) → Type 0
Completes {E} {F} plan past = (more : List (Event E F)) × (flow : Flow) × (world : World)
    × Follows plan (past ++ more) (comes flow world)

completes : {E F : Type 0} (plan : Plan Outcome) (past : List (Event E F)) (rest : Plan Outcome)
    → CanEnd plan → Reaches plan past rest → Completes plan past
completes (Finish (Goes w)) [] rest c r = ([], Continue, w, refl)
completes (Finish (Ends w)) [] rest c r = ([], Ended, w, refl)
completes (Finish (Fails why)) [] rest c r = absurd c
completes (Finish outcome) (event ∷ past) rest c r = absurd r
completes {E} {F} (Ask question next) [] rest c r =
    let all = completes {E = E} {F = F} (next c.0) [] (next c.0) (c.1 c.0) refl in
    (answered question c.0 ∷ all.0, all.1, all.2, (c.0, refl, all.3))
completes (Ask question next) (event ∷ past) rest c r =
    let all = completes (next r.0) past rest (c.1 r.0) r.2 in
    (all.0, all.1, all.2, (r.0, r.1, all.3))
completes {E} {F} (Tell entry next) [] rest c r =
    let all = completes {E = E} {F = F} next [] next c refl in
    (Told entry ∷ all.0, all.1, all.2, (refl, all.3))
completes (Tell entry next) (event ∷ past) rest c r =
    let all = completes next past rest c r.1 in (all.0, all.1, all.2, (r.0, all.3))

-- the end of an input is such a plan
tells_end : (entries : List TraceEntry) (next : Plan Outcome) → CanEnd next
    → CanEnd (tell_all entries next)
tells_end [] next h = h
tells_end (entry ∷ entries) next h = tells_end entries next h

begun_ends : (due : Bool) (w : World) → CanEnd (acts (begins due) w)
begun_ends true w = (
  [],
  λ payload. tells_end (map Sent (frames_given (payloads_given Beginning payload)))
      (Finish (Goes (moved Beginning payload w))) tt,
)
begun_ends false w = tt

over_ends : (over due : Bool) (w : World)
    → CanEnd (cond over (Finish (Ends w)) (acts (begins due) w))
over_ends true due w = tt
over_ends false due w = begun_ends due w

goes_end : (ticked : Bool) (w : World) → CanEnd (finish_input ticked (Goes w))
goes_end ticked w =
    let v = handed_on w in
    tells_end (map Sent (going_out w)) (goes_unless_ended ticked v)
    (over_ends v.disconnected (is_due ticked v) v)

ends_end : (ticked : Bool) (w : World) → CanEnd (finish_input ticked (Ends w))
ends_end ticked w = tells_end (map Sent (going_out w)) (is_over (handed_on w)) tt

-- ---- moments of an input

-- nothing went out on a channel so far, or the plan can come to its end
abbrev IsMoment : {E F : Type 0} → Plan Outcome → List (Event E F) → Type 0
IsMoment plan past = IsQuiet (told_in past) ⊎ Completes plan past

asked_quiet : {E F : Type 0} (question : Question) (answer : Answer question) (event : Event E F)
    (past : List (Event E F)) → Answered question answer event → IsQuiet (told_in past)
    → IsQuiet (told_in (event ∷ past))
asked_quiet question answer (Called call) past a q = q
asked_quiet question answer (Stepped step) past a q = q
asked_quiet question answer (Told entry) past a q = absurd (never_told question answer entry a)

told_quiet : {E F : Type 0} (entry : TraceEntry) (event : Event E F) (past : List (Event E F))
    → event ≡ Told entry → IsUnsent entry → IsQuiet (told_in past)
    → IsQuiet (told_in (event ∷ past))
told_quiet {E} {F} entry event past is s q =
    subst (λ e. IsQuiet (told_in {E = E} {F = F} (e ∷ past))) (sym is)
    (quiet_entry entry (told_in past) s q)

asked_moment : {E F : Type 0} (question : Question) (next : Answer question → Plan Outcome)
    (answer : Answer question) (event : Event E F) (past : List (Event E F))
    → Answered question answer event → IsMoment (next answer) past
    → IsMoment (Ask question next) (event ∷ past)
asked_moment question next answer event past a (inl q) =
    inl (asked_quiet question answer event past a q)
asked_moment question next answer event past a (inr all) =
    inr (all.0, all.1, all.2, (answer, a, all.3))

told_moment : {E F : Type 0} (entry : TraceEntry) (next : Plan Outcome) (event : Event E F)
    (past : List (Event E F)) → event ≡ Told entry → IsUnsent entry → IsMoment next past
    → IsMoment (Tell entry next) (event ∷ past)
told_moment entry next event past is s (inl q) = inl (told_quiet entry event past is s q)
told_moment entry next event past is s (inr all) = inr (all.0, all.1, all.2, (is, all.3))

finished_moment : {E F : Type 0} (ticked : Bool) (outcome : Outcome) (past : List (Event E F))
    (rest : Plan Outcome) → Reaches (finish_input ticked outcome) past rest
    → IsMoment (finish_input ticked outcome) past
finished_moment ticked (Goes w) past rest r =
    inr (completes (finish_input ticked (Goes w)) past rest (goes_end ticked w) r)
finished_moment ticked (Ends w) past rest r =
    inr (completes (finish_input ticked (Ends w)) past rest (ends_end ticked w) r)
finished_moment ticked (Fails why) [] rest r = inl tt
finished_moment ticked (Fails why) (event ∷ past) rest r = absurd r

-- before its end no frame of a channel goes out
moment : {E F : Type 0} (ticked : Bool) (plan : Plan Outcome) (past : List (Event E F))
    (rest : Plan Outcome) → SendsNone plan → Reaches (after plan (finish_input ticked)) past rest
    → IsMoment (after plan (finish_input ticked)) past
moment ticked (Finish outcome) past rest s r = finished_moment ticked outcome past rest r
moment ticked (Ask question next) [] rest s r = inl tt
moment ticked (Ask question next) (event ∷ past) rest s r =
    asked_moment question (λ answer. after (next answer) (finish_input ticked)) r.0 event past r.1
    (moment ticked (next r.0) past rest (s r.0) r.2)
moment ticked (Tell entry next) [] rest s r = inl tt
moment ticked (Tell entry next) (event ∷ past) rest s r =
    told_moment entry (after next (finish_input ticked)) event past r.0 s.0
    (moment ticked next past rest s.1 r.1)

-- ---- inputs

-- the run goes on or is over
by_flow : (past : List TraceEntry) (flow : Flow) (world : World)
    → ComesKept past (comes flow world) → Kept past world
by_flow past Continue world k = k
by_flow past Ended world k = k

next_kept : {E F : Type 0} (accepts : Acceptance) (w : World) (turns : List (Turn E F))
    (turn : Turn E F) (events : List (Event E F)) (plan : Plan Outcome) (flow : Flow)
    (world : World) → Kept (flat_map entries turns) w → Owes accepts w turn.input plan
    → Follows plan events (comes flow world) → Kept (told_with turns turn events) world
next_kept accepts w turns turn events plan flow world k o f =
    by_flow (told_with turns turn events) flow world
    (comes_kept accepts (flat_map entries turns) w (record turn { events = events }) plan
    (comes flow world) o f k)

kept_so : (told : List TraceEntry) (world : World) → Kept told world
    → IsLedgered told world.channels.lines
kept_so told world k = (k.ledger, sent_so told world.channels.lines k.ledger)

-- where nothing went out on a channel, what was sent before it was sent
next_underway : {E F : Type 0} (w : World) (turns : List (Turn E F)) (turn : Turn E F)
    (plan : Plan Outcome) (past : List (Event E F)) → Kept (flat_map entries turns) w
    → IsMoment plan past
    → IsLedgered (told_with turns turn past) w.channels.lines ⊎ Completes plan past
next_underway w turns turn plan past k (inl q) =
    inl (kept_so (told_with turns turn past) w
    (all_quiet (flat_map entries turns) (entries (record turn { events = past })) w q k))
next_underway w turns turn plan past k (inr all) = inr all

pub next_ledgered : {E F : Type 0} (accepts : Acceptance) (w : World) (turns : List (Turn E F))
    (turn : Turn E F) → Kept (flat_map entries turns) w → IsNextLedgered accepts w turns turn
next_ledgered {E} {F} accepts w turns turn k = record {
  underway = λ plan past rest o is b.
      let kind = turn.input.kind in
      next_underway w turns turn plan past k
      (subst (λ p. IsMoment {E = E} {F = F} p past) (sym o.2)
      (moment (asks_for_keys kind) o.0 past b.0
      (kind_silent accepts w turn.input.moment kind o.0 o.1)
      (subst (λ p. Reaches {E = E} {F = F} p past b.0) o.2 b.1)));
  sent = λ plan past rest more flow world o is f.
      kept_so (told_with turns turn (past ++ more)) world
      (next_kept accepts w turns turn (past ++ more) plan flow world k o f);
  sent_all = λ plan world o f idle.
      let kept = next_kept accepts w turns turn turn.events plan Ended world k o f in
      sent_all (told_with turns turn turn.events) world.channels.lines
      (comes_emptied accepts w turn plan (Ends world) o f idle) (kept.due idle) kept.ledger;
}

pub last_ledgered : {E F : Type 0} (accepts : Acceptance) (settings : Settings)
    (turns : List (Turn E F)) (world : World) (last : Option (Turn E F))
    → Run accepts (opening_world settings) turns world
    → IfSome last (IsNextLedgered accepts world turns)
last_ledgered accepts settings turns world None run = tt
last_ledgered accepts settings turns world (Some turn) run =
    next_ledgered accepts world turns turn
    (run_kept accepts [] (opening_world settings) turns world run (nothing_kept settings))
