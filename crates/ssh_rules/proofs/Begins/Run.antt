-- An exchange of keys begins for the peer's KEXINIT, or behind all frames of an input where it is
-- due.
use Rattle.std.proofs.Common.{◌≡◌, ◌⊎◌, ◌+◌, ℕ, List, [], ◌∷◌, ◌++◌, map, Bool, true}
use Rattle.std.proofs.Common.{false, not, refl, sym, ◌∙◌, ap, subst, inl, inr, Option, Some}
use Rattle.std.proofs.Common.{cond, Result}
use Rattle.std.proofs.lemmas.List.{append-nil}
use Rattle.std.specs.Prelude.{option_to_list}
use Rattle.ssh_link.specs.declared.frame.Input.{Input}
use Rattle.ssh_link.specs.declared.frame.InputKind.{InputKind}
use Rattle.ssh_link.specs.declared.frame.InputKind.TheVariants as input
use Rattle.ssh_link.specs.declared.kex.KexCall.TheVariants as kex
use Rattle.ssh_link.specs.declared.link.TraceEntry.{TraceEntry}
use Rattle.ssh_link.specs.declared.link.TraceEntry.TheVariants.{Sent}
use Rattle.ssh_auth.specs.declared.question.Question.{Question}
use Rattle.ssh_auth.specs.declared.question.Question.TheVariants as ask
use Rattle.ssh_auth.specs.Plan.{Plan, Finish, Ask, Tell, Answer, Answered, Event, Called, Stepped}
use Rattle.ssh_auth.specs.Plan.{Told, after}
use Rattle.ssh_auth.specs.Plan.{Follows, asked_in}
use Rattle.ssh_auth.specs.Publickey.{Acceptance}
use Rattle.ssh_rules.specs.declared.error.RunError.{RunError}
use Rattle.ssh_rules.specs.Account.{Closes}
use Rattle.ssh_rules.specs.Acts.{Beginning, tell_all}
use Rattle.ssh_rules.specs.Acts.{done, acts, moved}
use Rattle.ssh_rules.specs.Acts.{frames_given}
use Rattle.ssh_rules.specs.Beginning.{is_beginning, IsForPeer, IsForItself, BeginsByRule}
use Rattle.ssh_rules.specs.Outcome.{Outcome, Goes, Ends, Fails}
use Rattle.ssh_rules.specs.Rows.{row}
use Rattle.ssh_rules.specs.Run.{Turn, Run, Owes, OwesKind, asks_for_keys, begins}
use Rattle.ssh_rules.specs.Run.{finish_input, going_out, goes_unless_ended, handed_on}
use Rattle.ssh_rules.specs.Run.{Turns as Leads_on, is_due}
use Rattle.ssh_rules.specs.World.{Settings, World}
use Rattle.ssh_rules.specs.World.{opening_world}
use Rattle.ssh_rules.proofs.Authorised.Run.{AllWalk, last_walks, run_walks}
use Rattle.ssh_rules.proofs.Plans.Emptied.{nothing_left}
use Rattle.ssh_rules.proofs.Authorised.Guards.{Walks, asked_event, either}
use Rattle.ssh_rules.proofs.Begins.Rows.{asks_beginning, IsElse, NeverBegins, BeginsFirst}
use Rattle.ssh_rules.proofs.Begins.Rows.{kind_begins}

-- ---- what happened

-- the row was done, its frames were handed on, and then an exchange was due
abbrev pub Behind : {E F : Type 0} → (plan : Plan Outcome) → (ticked : Bool)
    → (past : List (Event E F)) → Type 0
Behind {E} {F} plan ticked past = (world : World) × (done : List (Event E F))
    × Follows plan done (Goes world)
    × (past ≡ done ++ map Told (map Sent (going_out world)))
    × (is_due ticked (handed_on world) ≡ true)

-- an event that is a beginning answers the question that asks for it
begin_asks : {E F : Type 0} (event : Event E F) (question : Question)
    → asked_in event ≡ Some question → is_beginning event ≡ true → asks_beginning question ≡ true
begin_asks (Called call) question is begins = absurd (cc)
begin_asks (Stepped (kex.Begun answer)) question is begins =
    let e : Some ask.Begins ≡ Some question = is in
    let same : ask.Begins ≡ question = cc in
    ap asks_beginning (sym same)
begin_asks (Stepped (kex.Stepped payload answer)) question is begins = absurd (cc)
begin_asks (Told entry) question is begins = absurd (cc)

-- another question is not answered by a beginning
never_both : (b : Bool) → b ≡ true → b ≡ false → ⊥
never_both true is not_so = absurd (cc)
never_both false is not_so = absurd (cc)

not_answered : {E F : Type 0} (question : Question) (next : Answer question → Plan Outcome)
    (event : Event E F) (events : List (Event E F)) → IsElse question
    → Walks (Ask question next) (event ∷ events) → is_beginning event ≡ true → ⊥
not_answered question next event events other walks begins =
    never_both (asks_beginning question)
    (begin_asks event question (asked_event question next event events walks) begins) other

-- nothing that is told is a beginning
not_told : {E F : Type 0} (entry : TraceEntry) (event : Event E F) → event ≡ Told entry
    → is_beginning event ≡ true → ⊥
not_told entry event is begins =
    never_both (is_beginning event) begins (ap is_beginning is)

-- one more event before
later_behind : {E F : Type 0} (question : Question) (next : Answer question → Plan Outcome)
    (ticked : Bool) (x : Event E F) (past : List (Event E F)) (answer : Answer question)
    → Answered question answer x → Behind (next answer) ticked past
    → Behind (Ask question next) ticked (x ∷ past)
later_behind question next ticked x past answer is b = (
  b.0,
  x ∷ b.1,
  (answer, is, b.2),
  ap (λ xs. x ∷ xs) b.3,
  b.4,
)

told_behind : {E F : Type 0} (entry : TraceEntry) (next : Plan Outcome) (ticked : Bool)
    (x : Event E F) (past : List (Event E F)) → x ≡ Told entry → Behind next ticked past
    → Behind (Tell entry next) ticked (x ∷ past)
told_behind entry next ticked x past is b =
    (b.0, x ∷ b.1, (is, b.2), ap (λ xs. x ∷ xs) b.3, b.4)

-- behind these entries the plan comes to a beginning
abbrev pub FirstTold : {E F : Type 0} → List TraceEntry → Plan Outcome
    → (past more : List (Event E F)) → Event E F → Type 0
FirstTold {E} {F} entries next past more event = (rest : List (Event E F))
    × (past ≡ map Told entries ++ rest) × Walks next (rest ++ event ∷ more)

told_first : {E F : Type 0} (entries : List TraceEntry) (next : Plan Outcome)
    (past more : List (Event E F)) (event : Event E F) → is_beginning event ≡ true
    → Walks (tell_all entries next) (past ++ event ∷ more)
    → FirstTold entries next past more event
told_first [] next past more event begins walks = (past, refl, walks)
told_first (entry ∷ entries) next [] more event begins walks =
    absurd (not_told entry event walks.0 begins)
told_first (entry ∷ entries) next (x ∷ past) more event begins walks =
    let t = told_first entries next past more event begins walks.1 in
    (t.0, ap (λ y. y ∷ past) walks.0 ∙ ap (λ xs. Told entry ∷ xs) t.1, t.2)

-- nothing follows the end of a plan
no_more : {E F : Type 0} (outcome : Outcome) (rest more : List (Event E F)) (event : Event E F)
    → Walks (Finish outcome) (rest ++ event ∷ more) → ⊥
no_more outcome [] more event walks = walks
no_more outcome (x ∷ rest) more event walks = walks

-- behind the frames an exchange begins where it is due, and first of all
frames_alone : {E F : Type 0} (frames : List TraceEntry) (outcome : Outcome)
    (past more : List (Event E F)) (event : Event E F) → is_beginning event ≡ true
    → Walks (tell_all frames (Finish outcome)) (past ++ event ∷ more) → ⊥
frames_alone frames outcome past more event begins walks =
    let t = told_first frames (Finish outcome) past more event begins walks in
    no_more outcome t.0 more event t.2

due_first : {E F : Type 0} (due : Bool) (w : World) (rest more : List (Event E F))
    (event : Event E F) → is_beginning event ≡ true
    → Walks (acts (begins due) w) (rest ++ event ∷ more) → (rest ≡ []) × (due ≡ true)
due_first false w [] more event begins walks = absurd walks
due_first false w (x ∷ rest) more event begins walks = absurd walks
due_first true w [] more event begins walks = (refl, refl)
due_first true w (x ∷ rest) more event begins (inl walks) =
    absurd (frames_alone (map Sent (frames_given (walks.0 ∷ [])))
    (Goes (moved Beginning walks.0 w)) rest more event begins walks.2)
due_first true w (x ∷ rest) more event begins (inr walks) =
    absurd (nothing_left rest event more walks.2)

ends_first : {E F : Type 0} (ended due : Bool) (w : World) (rest more : List (Event E F))
    (event : Event E F) → is_beginning event ≡ true
    → Walks (cond ended (Finish (Ends w)) (acts (begins due) w)) (rest ++ event ∷ more)
    → (rest ≡ []) × (due ≡ true)
ends_first true due w [] more event begins walks = absurd walks
ends_first true due w (x ∷ rest) more event begins walks = absurd walks
ends_first false due w rest more event begins walks = due_first due w rest more event begins walks

finish_behind : {E F : Type 0} (ticked : Bool) (outcome : Outcome) (past more : List (Event E F))
    (event : Event E F) → is_beginning event ≡ true
    → Walks (finish_input ticked outcome) (past ++ event ∷ more)
    → Behind (Finish outcome) ticked past
finish_behind ticked (Goes w) past more event begins walks =
    let v = handed_on w in
    let t = told_first (map Sent (going_out w)) (goes_unless_ended ticked v) past more event begins
    walks in
    let e = ends_first v.disconnected (is_due ticked v) v t.0 more event begins t.2 in (
      w,
      [],
      refl,
      t.1 ∙ ap (λ xs. map Told (map Sent (going_out w)) ++ xs) e.0
          ∙ append-nil (map Told (map Sent (going_out w))),
      e.1,
    )
finish_behind ticked (Ends w) past more event begins walks =
    absurd (frames_alone (map Sent (going_out w)) (Ends (handed_on w)) past more event begins walks)
finish_behind ticked (Fails why) [] more event begins walks = absurd walks
finish_behind ticked (Fails why) (x ∷ past) more event begins walks = absurd walks

-- a plan that never asks for it comes to it behind its frames alone
never_behind : {E F : Type 0} (plan : Plan Outcome) (ticked : Bool) (past more : List (Event E F))
    (event : Event E F) → NeverBegins plan → is_beginning event ≡ true
    → Walks (after plan (finish_input ticked)) (past ++ event ∷ more) → Behind plan ticked past
never_behind (Finish outcome) ticked past more event never begins walks =
    finish_behind ticked outcome past more event begins walks
never_behind (Ask question next) ticked [] more event never begins walks =
    absurd (not_answered question (λ answer. after (next answer) (finish_input ticked)) event more
    never.0 walks begins)
never_behind (Ask question next) ticked (x ∷ past) more event never begins (inl walks) =
    later_behind question next ticked x past walks.0 walks.1
    (never_behind (next walks.0) ticked past more event (never.1 walks.0) begins walks.2)
never_behind (Ask question next) ticked (x ∷ past) more event never begins (inr walks) =
    absurd (nothing_left past event more walks.2)
never_behind (Tell entry next) ticked [] more event never begins walks =
    absurd (not_told entry event walks.0 begins)
never_behind (Tell entry next) ticked (x ∷ past) more event never begins walks =
    told_behind entry next ticked x past walks.0
    (never_behind next ticked past more event never begins walks.1)

-- ---- an input

-- one that begins an exchange at once may come to another behind its frames
asked_behind : {E F : Type 0} (next : Answer ask.Begins → Plan Outcome) (ticked : Bool)
    (x : Event E F) (past more : List (Event E F)) (event : Event E F)
    → ((answer : Answer ask.Begins) → NeverBegins (next answer)) → is_beginning event ≡ true
    → Walks (Ask ask.Begins (λ answer. after (next answer) (finish_input ticked)))
    (x ∷ (past ++ event ∷ more)) → Behind (Ask ask.Begins next) ticked (x ∷ past)
asked_behind next ticked x past more event never begins (inl walks) =
    later_behind ask.Begins next ticked x past walks.0 walks.1
    (never_behind (next walks.0) ticked past more event (never walks.0) begins walks.2)
asked_behind next ticked x past more event never begins (inr walks) =
    absurd (nothing_left past event more walks.2)

first_or_behind : {E F : Type 0} (w : World) (kind : InputKind) (plan : Plan Outcome)
    (ticked : Bool) (past more : List (Event E F)) (event : Event E F) → BeginsFirst w kind plan
    → is_beginning event ≡ true
    → Walks (after plan (finish_input ticked)) (past ++ event ∷ more)
    → IsForPeer w kind past ⊎ Behind plan ticked past
first_or_behind w kind plan ticked [] more event first begins walks =
    inl (first.0, first.1, refl)
first_or_behind {E} {F} w kind plan ticked (x ∷ past) more event
    (kexinit, idle, (next, is, never)) begins walks =
    inr (subst (λ p. Behind p ticked (x ∷ past)) (sym is)
    (asked_behind next ticked x past more event never begins
    (subst (λ p. Walks (after p (finish_input ticked)) (x ∷ (past ++ event ∷ more))) is walks)))

abbrev pub Because : {E F : Type 0} → Acceptance → World → Input → List (Event E F) → Type 0
Because accepts w input past = IsForPeer w input.kind past ⊎ IsForItself accepts w input past

behind_itself : {E F : Type 0} (accepts : Acceptance) (w : World) (input : Input)
    (plan : Plan Outcome) (past : List (Event E F))
    → OwesKind accepts w input.moment input.kind plan
    → Behind plan (asks_for_keys input.kind) past → Because accepts w input past
behind_itself accepts w input plan past owes b = inr (plan, b.0, b.1, owes, b.2, b.3, b.4)

input_because : {E F : Type 0} (accepts : Acceptance) (w : World) (input : Input)
    (row : Plan Outcome) (past more : List (Event E F)) (event : Event E F)
    → OwesKind accepts w input.moment input.kind row
    → NeverBegins row ⊎ BeginsFirst w input.kind row → is_beginning event ≡ true
    → Walks (after row (finish_input (asks_for_keys input.kind))) (past ++ event ∷ more)
    → Because accepts w input past
input_because accepts w input row past more event owes (inl never) begins walks =
    behind_itself accepts w input row past owes
    (never_behind row (asks_for_keys input.kind) past more event never begins walks)
input_because accepts w input row past more event owes (inr first) begins walks =
    either (λ peer. inl peer) (λ b. behind_itself accepts w input row past owes b)
    (first_or_behind w input.kind row (asks_for_keys input.kind) past more event first begins walks)

owed_because : {E F : Type 0} (accepts : Acceptance) (w : World) (input : Input)
    (plan : Plan Outcome) (past more : List (Event E F)) (event : Event E F)
    → Owes accepts w input plan → is_beginning event ≡ true → Walks plan (past ++ event ∷ more)
    → Because accepts w input past
owed_because accepts w input plan past more event (row, owes, is) begins walks =
    input_because accepts w input row past more event owes
    (kind_begins accepts w input.moment input.kind row owes) begins
    (subst (λ p. Walks p (past ++ event ∷ more)) is walks)

-- ---- inputs one after another

turns_because : {E F : Type 0} (accepts : Acceptance) (w : World) (turns : List (Turn E F))
    → AllWalk accepts w turns → (pre post : List (Turn E F)) (turn : Turn E F)
    (past more : List (Event E F)) (event : Event E F) → turns ≡ pre ++ turn ∷ post
    → turn.events ≡ past ++ event ∷ more → is_beginning event ≡ true
    → (v : World) × Run accepts w pre v × Because accepts v turn.input past
turns_because accepts w [] all [] post turn past more event is splits begins = absurd (cc)
turns_because accepts w [] all (p ∷ pre) post turn past more event is splits begins = absurd (cc)
turns_because {E} {F} accepts w (t ∷ turns) all [] post turn past more event is splits begins =
    let same : t ≡ turn = cc in
    let walks : Walks all.0 (past ++ event ∷ more) =
    subst (Walks all.0) (ap (λ u. u.events) same ∙ splits) all.2 in
    subst (λ u. (v : World) × Run {E = E} {F = F} accepts w [] v × Because accepts v u.input past)
    same
    (w, refl, owed_because accepts w t.input all.0 past more event all.1 begins walks)
turns_because accepts w (t ∷ turns) (plan, owes, walks, inl none, taken) (p ∷ pre) post turn past
    more event is splits begins =
    let rest : turns ≡ pre ++ turn ∷ post = cc in
    absurd (nothing_left pre turn post (sym rest ∙ none))
turns_because accepts w (t ∷ turns) (plan, owes, walks, inr next, taken) (p ∷ pre) post turn past
    more event is splits begins =
    let same : t ≡ p = cc in
    let rest : turns ≡ pre ++ turn ∷ post = cc in
    let found = turns_because accepts next.0 turns next.2 pre post turn past more event rest splits
    begins in (
      found.0,
      (next.0, subst (λ u. Leads_on accepts w u next.0) same (plan, owes, next.1, taken), found.1),
      found.2,
    )

pub begins_by_rule : {E F : Type 0} (accepts : Acceptance) (settings : Settings)
    (turns : List (Turn E F)) (world : World) (count max : ℕ) (last : Option (Turn E F))
    (rose : Type 0) (result : Result (Unit {0}) (RunError E F))
    → Run accepts (opening_world settings) turns world
    → Closes accepts world count max last rose result
    → BeginsByRule accepts settings (turns ++ option_to_list last)
begins_by_rule accepts settings turns world count max last rose result run closes =
    λ before after turn past more event is splits begins.
    turns_because accepts (opening_world settings) (turns ++ option_to_list last)
    (run_walks accepts (opening_world settings) turns world (option_to_list last) run
    (last_walks accepts world count max last rose result closes)) before after turn past more event
    is splits begins
