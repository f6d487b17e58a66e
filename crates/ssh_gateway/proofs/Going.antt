-- From turn to turn.
use Rattle.std.proofs.Common.{◌≡◌, ◌≢◌, ◌≤◌, ◌<◌, ◌+◌, ℕ, List, [], ◌∷◌, ◌++◌, Option, Some, None}
use Rattle.std.proofs.Common.{Result, Ok, Err, refl, sym, ◌∙◌, ap, subst, inl, inr, false, length}
use Rattle.std.proofs.Common.{arith, append_assoc}
use Rattle.std.specs.Prelude.{flat_map, map}
use Rattle.std.proofs.lemmas.List.{append-nil, length-append}
use Rattle.std.proofs.lemmas.List.Concat.{flat_map-append}
use Rattle.ssh_link.specs.Faults.{Rose}
use Rattle.ssh_link.specs.Told.{Adds}
use Rattle.ssh_link.proofs.Tellings.{adds_both, adds_nil}
use Rattle.ssh_auth.specs.declared.call.Call.{Call}
use Rattle.ssh_auth.specs.declared.question.Question.{Question}
use Rattle.ssh_auth.specs.Publickey.{Acceptance}
use Rattle.ssh_handler.specs.declared.recorded.RecordError.{RecordError}
use Rattle.ssh_handler.specs.declared.recorded.RecordError.TheVariants as record_error
use Rattle.ssh_rules.specs.declared.error.Flow.TheVariants.{Continue, Ended}
use Rattle.ssh_rules.specs.declared.error.RunError.{RunError}
use Rattle.ssh_rules.specs.declared.error.RunError.TheVariants as run
use Rattle.ssh_rules.specs.Outcome.{Outcome, Goes, Ends, Fails}
use Rattle.ssh_rules.specs.Run.{Run, steps_of}
use Rattle.ssh_rules.specs.Valid.{IsValid}
use Rattle.ssh_rules.specs.World.{Settings, World, opening_world}
use Rattle.ssh_rules.proofs.Ended.Run.{run_live}
use Rattle.ssh_rules.proofs.Plans.Settled.{stays_set}
use Rattle.ssh_session.specs.Between.{untold}
use Rattle.ssh_session.specs.Serve.{Refines}
use Rattle.ssh_session.specs.declared.session.Session.{Session}
use Rattle.ssh_gateway.specs.declared.error.GatewayError.{GatewayError}
use Rattle.ssh_gateway.specs.declared.error.GatewayError.TheVariants as error
use Rattle.ssh_gateway.specs.Admitting.{admissions}
use Rattle.ssh_gateway.specs.Answering.{of_authentication}
use Rattle.ssh_gateway.specs.Board.{Board, opening_board}
use Rattle.ssh_gateway.specs.Choosing.{Permits}
use Rattle.ssh_gateway.specs.Gateway.{EndsSo, EndIsValid, IsComplete, UnfinishedSo, Gatewayed}
use Rattle.ssh_gateway.specs.Gateway.{Attended}
use Rattle.ssh_gateway.specs.Raised.{lowered}
use Rattle.ssh_gateway.specs.Serving.{Outside, IsServed, IsBroken, ServesNone, Turned, Breaks}
use Rattle.ssh_gateway.specs.Serving.{KeepsTelling, UnlessSilenced, UnlessCallbackFailed, IsShort}
use Rattle.ssh_gateway.specs.Serving.{UnlessShortCallback}
use Rattle.ssh_gateway.specs.Turns.{Round, Rounds, IsRound, board_after, link_entries, target_calls}
use Rattle.ssh_gateway.proofs.Bytes.{writes_so, reads_so}
use Rattle.ssh_gateway.proofs.Laws.{one_run_of, rounds_more, decides_in, comes_to, opens_in}
use Rattle.ssh_gateway.proofs.Unfinished.{once_in, short_so, unfinished_so}

-- these turns were finished, and it goes on
pub record Going {E F : Type 0} (accepts : Acceptance) (permits : Permits) (settings : Settings)
    (count : ℕ) (board : Board) (name name' : ℕ) (first : List (Call E))
    (told : Option (List (Call E))) (asked : Option (List Question)) (before now : Outside F)
    (session : Session) : Type 0 where
  pub rounds : List (Round E F)
  pub world : World
  pub run : Rounds accepts permits opening_board (opening_world settings) rounds board world
  pub long : length rounds ≡ count
  pub stepped : Adds before.beneath.steps now.beneath.steps
      (flat_map (λ round. steps_of round.turn) rounds)
  pub linked : Adds before.beneath.trace now.beneath.trace (flat_map link_entries rounds)
  pub asked_of : Adds before.targets now.targets (flat_map target_calls rounds)
  pub refines : Refines session world
  pub all_told : untold session ≡ []
  pub live : world.disconnected ≡ false
  pub set : world.settings ≡ settings
  pub same : name' ≡ name
  pub calls : List (Call E)
  pub told_is : told ≡ Some calls
  pub admitted : of_authentication calls ≡ of_authentication first
      ++ flat_map (λ round. admissions round.turn.events) rounds
  pub kept : asked ≡ Some []
  pub later : before.beneath.faults ≤ now.beneath.faults
  pub target_later : before.target_faults ≤ now.target_faults

pub starts : {E F : Type 0} (accepts : Acceptance) (permits : Permits) (settings : Settings)
    (board : Board) (name : ℕ) (calls : List (Call E)) (told : Option (List (Call E)))
    (asked : Option (List Question)) (before : Outside F) (session : Session)
    → board ≡ opening_board → Refines session (opening_world settings) → untold session ≡ []
    → told ≡ Some calls → asked ≡ Some []
    → Going accepts permits settings 0 board name name calls told asked before before session
starts accepts permits settings board name calls told asked before session opens r t told_is kept =
    record {
      rounds = [];
      world = opening_world settings;
      run = (opens, refl);
      long = refl;
      stepped = adds_nil before.beneath.steps;
      linked = adds_nil before.beneath.trace;
      asked_of = adds_nil before.targets;
      refines = r;
      all_told = t;
      live = refl;
      set = refl;
      same = refl;
      calls = calls;
      told_is = told_is;
      admitted = sym (append-nil (of_authentication calls));
      kept = kept;
      later = omega arith;
      target_later = omega arith;
    }

-- ---- one more

told_more : {A B : Type 0} (f : A → List B) (xs : List A) (x : A) (a b c : Option (List B))
    → Adds a b (flat_map f xs) → Adds b c (f x) → Adds a c (flat_map f (xs ++ x ∷ []))
told_more f xs x a b c h k = subst (Adds a c)
    (sym (flat_map-append f xs (x ∷ []) ∙ ap (λ l. flat_map f xs ++ l) (append-nil (f x))))
    (adds_both a b c (flat_map f xs) (f x) h k)

admitted_more : {E F : Type 0} (first calls after : List (Call E)) (rounds : List (Round E F))
    (round : Round E F) → of_authentication calls ≡ of_authentication first
    ++ flat_map (λ one. admissions one.turn.events) rounds
    → of_authentication after ≡ of_authentication calls ++ admissions round.turn.events
    → of_authentication after ≡ of_authentication first
    ++ flat_map (λ one. admissions one.turn.events) (rounds ++ round ∷ [])
admitted_more {E} {F} first calls after rounds round was more =
    let before = flat_map (λ (one : Round E F). admissions one.turn.events) rounds in
    let last = admissions round.turn.events in
    let all : flat_map (λ (one : Round E F). admissions one.turn.events) (rounds ++ round ∷ [])
    ≡ before ++ last =
    flat_map-append (λ (one : Round E F). admissions one.turn.events) rounds (round ∷ [])
    ∙ ap (λ l. before ++ l) (append-nil last) in
    more ∙ (ap (λ l. l ++ last) was
    ∙ (append_assoc (of_authentication first) before last
    ∙ ap (λ l. of_authentication first ++ l) (sym all)))

-- a turn after which the run goes on, or is over
went : (session : Session) (outcome : Outcome) → IsServed session Continue outcome
    → (world : World) × (outcome ≡ Goes world) × Refines session world
went session (Goes world) r = (world, refl, r)
went session (Ends world) r = absurd r
went session (Fails why) r = absurd r

is_over : (session : Session) (outcome : Outcome) → IsServed session Ended outcome
    → (world : World) × (outcome ≡ Ends world)
is_over session (Ends world) r = (world, refl)
is_over session (Goes world) r = absurd r
is_over session (Fails why) r = absurd r

pub goes_on : {E F : Type 0} (accepts : Acceptance) (permits : Permits) (settings : Settings)
    (count : ℕ) (board board' : Board) (name mid_name name' : ℕ) (first : List (Call E))
    (told told' : Option (List (Call E))) (asked asked' : Option (List Question))
    (before now after : Outside F) (session session' : Session)
    (going : Going accepts permits settings count board name mid_name first told asked before now
    session)
    → Turned accepts permits board board' going.world mid_name name' going.calls told' asked' now
    after session' Continue → untold session' ≡ []
    → Going accepts permits settings (count + 1) board' name name' first told' asked' before after
    session'
goes_on {E} {F} accepts permits settings count board board' name mid_name name' first told told' asked
    asked' before now after session session' going turned all_told =
    let gone = went session' turned.outcome turned.served in
    let world = gone.0 in
    let round = turned.round in
    let is : IsRound accepts permits board going.world round (Goes world) =
    subst (IsRound accepts permits board going.world round) gone.1 turned.is in
    let long = going.long in
    record {
      rounds = going.rounds ++ round ∷ [];
      world = world;
      run = rounds_more accepts permits opening_board (opening_world settings) going.rounds board
          going.world round board' world going.run is turned.board_is;
      long = length-append going.rounds (round ∷ []) ∙ ap (λ n. n + 1) long;
      stepped = told_more (λ one. steps_of one.turn) going.rounds round before.beneath.steps
          now.beneath.steps after.beneath.steps going.stepped turned.tells.0;
      linked = told_more link_entries going.rounds round before.beneath.trace now.beneath.trace
          after.beneath.trace going.linked turned.tells.1;
      asked_of = told_more target_calls going.rounds round before.targets now.targets after.targets
          going.asked_of turned.tells.2;
      refines = gone.2;
      all_told = all_told;
      live = run_live accepts going.world (round.turn ∷ []) world
          (world, (is.comes.plan, is.comes.owes, is.comes.follows, is.begins.taken), refl)
          going.live;
      set = stays_set accepts settings going.world round.turn.input is.comes.plan round.turn.events
          world is.comes.owes is.comes.follows going.set;
      same = turned.same ∙ going.same;
      calls = turned.admitted.0;
      told_is = turned.admitted.1;
      admitted = admitted_more first going.calls turned.admitted.0 going.rounds round going.admitted
          turned.admitted.2;
      kept = turned.empty;
      later = let x = going.later in let y = turned.later in omega (arith, x, y);
      target_later = let x = going.target_later in let y = turned.target_later in
          omega (arith, x, y);
    }

-- ---- the end

not_target : {E F : Type 0} (why : RunError (RecordError E) F)
    → error.TargetFault ≡ lowered why → ⊥
not_target (run.Handler (record_error.Inner e)) is = cc
not_target (run.Handler record_error.NoMemory) is = cc
not_target (run.Handler record_error.Untold) is = cc
not_target why is = cc

no_rise : (before between after : ℕ) → before ≤ between → Rose between after → after ≡ before → ⊥
no_rise before between after h rose same = omega (arith, h, rose, same)

broken_complete : {E F : Type 0} (accepts : Acceptance) (permits : Permits) (board : Board)
    (w : World) (before between after : Outside F) (e : GatewayError E F)
    → before.beneath.faults ≤ between.beneath.faults → before.target_faults ≤ between.target_faults
    → after.beneath.faults ≡ before.beneath.faults → after.target_faults ≡ before.target_faults
    → IsBroken accepts permits board w between after e
    → ((none : ServesNone accepts permits board w between after e)
    → IsValid accepts w none.round.turn) → ⊥
broken_complete accepts permits board w before between after e h k same target_same (inl none) valid =
    no_rise before.target_faults between.target_faults after.target_faults k none.1 target_same
broken_complete accepts permits board w before between after e h k same target_same
    (inr (inl none)) valid =
    no_rise before.beneath.faults between.beneath.faults after.beneath.faults h none.1 same
broken_complete accepts permits board w before between after e h k same target_same
    (inr (inr (inl none))) valid =
    no_rise before.beneath.faults between.beneath.faults after.beneath.faults h
    (none.fair (valid none)) same
broken_complete accepts permits board w before between after e h k same target_same
    (inr (inr (inr none))) valid =
    no_rise before.target_faults between.target_faults after.target_faults k none.1 target_same

completes : {E F : Type 0} (accepts : Acceptance) (permits : Permits) (max : ℕ) (board : Board)
    (w : World) (count : ℕ) (before between after : Outside F)
    (result : Result (Unit {0}) (GatewayError E F))
    → EndsSo accepts permits max board w count between after result
    → before.beneath.faults ≤ between.beneath.faults → before.target_faults ≤ between.target_faults
    → after.beneath.faults ≡ before.beneath.faults → after.target_faults ≡ before.target_faults
    → EndIsValid accepts permits board w between after result → IsComplete result
completes accepts permits max board w count before between after (Ok done) ends h k s t valid = tt
completes accepts permits max board w count before between after (Err error.NoMemory) ends h k s t
    valid = tt
completes accepts permits max board w count before between after (Err error.TurnLimit) ends h k s t
    valid = tt
completes accepts permits max board w count before between after (Err error.TargetFault) ends h k s t
    valid = broken_complete accepts permits board w before between after error.TargetFault h k s t
    ends.1 (λ none. absurd (not_target none.why none.is))
completes accepts permits max board w count before between after (Err (error.Run e)) ends h k s t
    valid = broken_complete accepts permits board w before between after (error.Run e) h k s t ends.1
    valid

unfinished_by : {E F : Type 0} (accepts : Acceptance) (permits : Permits) (max : ℕ) (board : Board)
    (w first : World) (rounds : List (Round E F)) (between after : Outside F)
    (result : Result (Unit {0}) (GatewayError E F))
    → Rounds accepts permits opening_board first rounds board w
    → (ends : EndsSo accepts permits max board w (length rounds) between after result)
    → UnfinishedSo accepts permits max board w rounds between after result ends
unfinished_by accepts permits max board w first rounds between after (Ok done) run ends = tt
unfinished_by accepts permits max board w first rounds between after (Err error.NoMemory) run
    (inl none) = tt
unfinished_by accepts permits max board w first rounds between after (Err error.NoMemory) run
    (inr ends) = short_so accepts permits board w first rounds between after run ends.1
unfinished_by accepts permits max board w first rounds between after (Err error.TurnLimit) run ends =
    tt
unfinished_by accepts permits max board w first rounds between after (Err error.TargetFault) run ends =
    unfinished_so accepts permits board w first rounds between after error.TargetFault run ends.1
unfinished_by accepts permits max board w first rounds between after (Err (error.Run e)) run ends =
    unfinished_so accepts permits board w first rounds between after (error.Run e) run ends.1

gatewayed : {E F : Type 0} (accepts : Acceptance) (permits : Permits) (settings : Settings)
    (count max : ℕ) (board : Board) (name name' : ℕ) (first : List (Call E))
    (told : Option (List (Call E))) (asked : Option (List Question))
    (before now after : Outside F) (session : Session)
    (result : Result (Unit {0}) (GatewayError E F))
    (going : Going accepts permits settings count board name name' first told asked before now
    session)
    (ends : EndsSo accepts permits max board going.world (length going.rounds) now after result)
    → Gatewayed accepts permits settings max before after result
gatewayed accepts permits settings count max board name name' first told asked before now after session
    result going ends = record {
      rounds = going.rounds;
      board = board;
      world = going.world;
      run = going.run;
      one_run = one_run_of accepts permits opening_board (opening_world settings) going.rounds board
          going.world going.run;
      between = now;
      stepped = going.stepped;
      linked = going.linked;
      asked = going.asked_of;
      ends = ends;
      decides = λ earlier later round is. decides_in accepts permits settings earlier later round
          board going.world (subst (λ l. Rounds accepts permits opening_board
          (opening_world settings) l board going.world) is going.run);
      comes_to = λ earlier later is. comes_to accepts permits settings earlier later board
          going.world (subst (λ l. Rounds accepts permits opening_board (opening_world settings) l
          board going.world) is going.run);
      opens = λ earlier later round asked is source. opens_in accepts permits settings earlier later
          round asked board going.world (subst (λ l. Rounds accepts permits opening_board
          (opening_world settings) l board going.world) is going.run) source;
      once = λ earlier later round is. once_in accepts permits opening_board
          (opening_world settings) earlier later round board going.world
          (subst (λ l. Rounds accepts permits opening_board (opening_world settings) l board
          going.world) is going.run);
      unfinished = unfinished_by accepts permits max board going.world (opening_world settings)
          going.rounds now after result going.run ends;
      writes = λ id earlier later is. writes_so id accepts permits opening_board (opening_world settings)
          earlier later board going.world
          (subst (λ l. Rounds accepts permits opening_board (opening_world settings) l board going.world)
          is going.run);
      reads = λ id earlier later is. reads_so id accepts permits opening_board (opening_world settings)
          earlier later board going.world
          (subst (λ l. Rounds accepts permits opening_board (opening_world settings) l board going.world)
          is going.run);
      complete = λ same target_same valid. completes accepts permits max board going.world
          (length going.rounds) before now after result ends going.later going.target_later same
          target_same valid;
    }

-- one more turn, as far as it came
keeps_more : {E F : Type 0} (accepts : Acceptance) (permits : Permits) (settings : Settings)
    (count : ℕ) (board : Board) (name mid_name name' : ℕ) (first : List (Call E))
    (told told' : Option (List (Call E))) (asked : Option (List Question))
    (before now : Outside F) (session : Session) (made : List (Call E))
    (going : Going accepts permits settings count board name mid_name first told asked before now
    session)
    → KeepsTelling mid_name name' going.calls told' made
    → KeepsTelling name name' first told'
    (flat_map (λ round. admissions round.turn.events) going.rounds ++ made)
keeps_more {E} {F} accepts permits settings count board name mid_name name' first told told' asked before
    now session made going (same, (after, is, more)) = (
      same ∙ going.same,
      (
        after,
        is,
        more ∙ (ap (λ l. l ++ made) going.admitted
            ∙ append_assoc (of_authentication first)
            (flat_map (λ (round : Round E F). admissions round.turn.events) going.rounds) made),
      ),
    )

pub ended : {E F : Type 0} (accepts : Acceptance) (permits : Permits) (settings : Settings)
    (count max : ℕ) (board board' : Board) (name mid_name name' : ℕ) (first : List (Call E))
    (told told' : Option (List (Call E))) (asked asked' : Option (List Question))
    (before now after : Outside F) (session session' : Session)
    (going : Going accepts permits settings count board name mid_name first told asked before now
    session)
    → count < max
    → Turned accepts permits board board' going.world mid_name name' going.calls told' asked' now
    after session' Ended
    → Attended {E = E} accepts permits settings max (told' ≡ None)
    (KeepsTelling name name' first told') before after (Ok tt)
unfolding gatewayed
ended {E} {F} accepts permits settings count max board board' name mid_name name' first told told' asked
    asked' before now after session session' going few turned =
    let over = is_over session' turned.outcome turned.served in
    let long = going.long in
    let ends : EndsSo {E = E} accepts permits max board going.world (length going.rounds) now after
    (Ok tt) = (
      subst (λ n. n < max) (sym long) few,
      (
        turned.round,
        over.0,
        subst (IsRound accepts permits board going.world turned.round) over.1 turned.is,
        turned.tells,
      ),
    ) in
    record {
      whole = gatewayed accepts permits settings count max board name mid_name first told asked before
          now after session (Ok tt) going ends;
      admitted = keeps_more accepts permits settings count board name mid_name name' first told told'
          asked before now session (admissions turned.round.turn.events) going
          (turned.same, turned.admitted);
      answered = turned.is.comes.answered;
    }

-- of two facts that hold unless a handler tells no longer, what the first one brings, and the other
silenced_or : {E F : Type 0} (why : RunError E F) (Silent P Q R : Type 0) → (P → R)
    → UnlessSilenced (error.Run why) Silent (P × Q) → UnlessSilenced (error.Run why) Silent R
silenced_or (run.Handler e) Silent P Q R f (inl silent) = inl silent
silenced_or (run.Handler e) Silent P Q R f (inr both) = inr (f both.0)
silenced_or why Silent P Q R f both = f both.0

silenced_and : {E F : Type 0} (why : RunError E F) (Silent P Q : Type 0)
    → UnlessSilenced (error.Run why) Silent (P × Q) → UnlessSilenced (error.Run why) Silent Q
silenced_and (run.Handler e) Silent P Q (inl silent) = inl silent
silenced_and (run.Handler e) Silent P Q (inr both) = inr both.1
silenced_and why Silent P Q both = both.1

-- .. and of two that hold unless a callback answered an error as memory was wanting
callback_map : {E F : Type 0} (why : RunError E F) (P R : Type 0) → (P → R)
    → UnlessCallbackFailed why P → UnlessCallbackFailed why R
callback_map (run.Handler e) P R f h = tt
callback_map why P R f h = f h

pub short_map : {E F : Type 0} (accepts : Acceptance) (permits : Permits) (board : Board)
    (w : World) (before after : Outside F) (short : IsShort E accepts permits board w before after)
    (P R : Type 0) → (P → R) → UnlessShortCallback accepts permits board w before after short P
    → UnlessShortCallback accepts permits board w before after short R
short_map accepts permits board w before after (inl none) P R f h = f h
short_map accepts permits board w before after (inr (inl none)) P R f h = f h
short_map accepts permits board w before after (inr (inr (inl none))) P R f h =
    callback_map none.why P R f h
short_map accepts permits board w before after (inr (inr (inr none))) P R f h = f h

-- a turn that was not finished
unfinished : {E F : Type 0} (accepts : Acceptance) (permits : Permits) (settings : Settings)
    (count max : ℕ) (board : Board) (name mid_name name' : ℕ) (first : List (Call E))
    (told told' : Option (List (Call E))) (asked : Option (List Question))
    (before now after : Outside F) (session : Session)
    (going : Going accepts permits settings count board name mid_name first told asked before now
    session) (e : GatewayError E F)
    → length going.rounds < max → e ≢ error.TurnLimit
    → Breaks accepts permits board going.world mid_name name' going.calls told' now after e
    → Attended accepts permits settings max (told' ≡ None) (KeepsTelling name name' first told')
    before after (Err e)
unfolding gatewayed
unfinished accepts permits settings count max board name mid_name name' first told told' asked before
    now after session going error.NoMemory few other breaks =
    let both = breaks.short refl in
    record {
      whole = gatewayed accepts permits settings count max board name mid_name first told asked before
          now after session (Err error.NoMemory) going (inr (few, both.0));
      admitted = short_map accepts permits board going.world now after both.0 _ _
          (λ keeps. keeps_more accepts permits settings count board name mid_name name' first told
          told' asked before now session _ going keeps.0) both.1;
      answered = short_map accepts permits board going.world now after both.0 _ _
          (λ keeps. keeps.1) both.1;
    }
unfinished accepts permits settings count max board name mid_name name' first told told' asked before
    now after session going error.TurnLimit few other breaks = absurd (other refl)
unfinished accepts permits settings count max board name mid_name name' first told told' asked before
    now after session going error.TargetFault few other breaks =
    let both = breaks.broken (λ is. cc) in
    record {
      whole = gatewayed accepts permits settings count max board name mid_name first told asked before
          now after session (Err error.TargetFault) going (few, both.0);
      admitted = keeps_more accepts permits settings count board name mid_name name' first told told'
          asked before now session _ going both.1.0;
      answered = both.1.1;
    }
unfinished accepts permits settings count max board name mid_name name' first told told' asked before
    now after session going (error.Run e) few other breaks =
    let both = breaks.broken (λ is. cc) in
    record {
      whole = gatewayed accepts permits settings count max board name mid_name first told asked before
          now after session (Err (error.Run e)) going (few, both.0);
      admitted = silenced_or e (told' ≡ None) _ _ _
          (keeps_more accepts permits settings count board name mid_name name' first told told'
          asked before now session _ going) both.1;
      answered = silenced_and e (told' ≡ None) _ _ both.1;
    }

pub broken : {E F : Type 0} (accepts : Acceptance) (permits : Permits) (settings : Settings)
    (count max : ℕ) (board : Board) (name mid_name name' : ℕ) (first : List (Call E))
    (told told' : Option (List (Call E))) (asked : Option (List Question))
    (before now after : Outside F) (session : Session) (e : GatewayError E F)
    (going : Going accepts permits settings count board name mid_name first told asked before now
    session)
    → count < max → e ≢ error.TurnLimit
    → Breaks accepts permits board going.world mid_name name' going.calls told' now after e
    → Attended accepts permits settings max (told' ≡ None) (KeepsTelling name name' first told')
    before after (Err e)
broken accepts permits settings count max board name mid_name name' first told told' asked before now
    after session e going few other breaks =
    let long = going.long in
    unfinished accepts permits settings count max board name mid_name name' first told told' asked
    before now after session going e (subst (λ n. n < max) (sym long) few) other breaks

pub limited : {E F : Type 0} (accepts : Acceptance) (permits : Permits) (settings : Settings)
    (count max : ℕ) (board : Board) (name name' : ℕ) (first : List (Call E))
    (told : Option (List (Call E))) (asked : Option (List Question)) (before now : Outside F)
    (session : Session)
    (going : Going accepts permits settings count board name name' first told asked before now
    session)
    → count ≡ max
    → Attended {E = E} accepts permits settings max (told ≡ None)
    (KeepsTelling name name' first told) before now (Err error.TurnLimit)
unfolding gatewayed
limited accepts permits settings count max board name name' first told asked before now session going
    all =
    let long = going.long in
    record {
      whole = gatewayed accepts permits settings count max board name name' first told asked before now
          now session (Err error.TurnLimit) going (long ∙ all, refl);
      admitted = (
        going.same,
        (
          going.calls,
          going.told_is,
          going.admitted ∙ ap (λ l. of_authentication first ++ l) (sym (append-nil _)),
        ),
      );
      answered = refl;
    }
