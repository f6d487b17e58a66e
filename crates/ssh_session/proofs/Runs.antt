-- From input to input of a run.
use Rattle.std.proofs.Common.{◌≡◌, ◌<◌, ◌≤◌, ◌+◌, ℕ, List, [], ◌∷◌, ◌++◌, length, Option, Some}
use Rattle.std.proofs.Common.{None, Result, Ok, Err, Bool, false, not}
use Rattle.std.proofs.Common.{refl, sym, ◌∙◌, ap, subst, arith}
use Rattle.std.specs.Prelude.{flat_map}
use Rattle.std.proofs.lemmas.List.{append-nil, length-append}
use Rattle.std.proofs.lemmas.List.Concat.{flat_map-append}
use Rattle.ssh_link.specs.Asked.{IsAsked}
use Rattle.ssh_link.specs.Faults.{Rose, RoseIfKept}
use Rattle.ssh_link.specs.Told.{Adds, ToldBy}
use Rattle.ssh_link.proofs.Tellings.{adds_nil, adds_both}
use Rattle.ssh_link.specs.declared.frame.Input.{Input}
use Rattle.ssh_link.specs.declared.kex.KexCall.{KexCall}
use Rattle.ssh_link.specs.declared.link.LinkFault.{LinkFault}
use Rattle.ssh_link.specs.declared.link.LinkFault.TheVariants.{Failed, NoMemory}
use Rattle.ssh_link.specs.declared.link.TraceEntry.{TraceEntry}
use Rattle.ssh_link.specs.declared.link.TraceEntry.TheVariants.{Took}
use Rattle.ssh_auth.specs.declared.call.Call.{Call}
use Rattle.ssh_auth.specs.Publickey.{Acceptance}
use Rattle.ssh_auth.specs.Plan.{told_in}
use Rattle.ssh_handler.specs.declared.config.Config.{Config}
use Rattle.ssh_rules.specs.declared.error.Flow.TheVariants.{Continue, Ended}
use Rattle.ssh_rules.specs.declared.error.RunError.{RunError}
use Rattle.ssh_rules.specs.declared.error.RunError.TheVariants as error
use Rattle.ssh_session.specs.declared.session.Session.{Session}
use Rattle.ssh_rules.specs.Account.{Told, Closes, Ran, RanTo, Laws}
use Rattle.ssh_session.specs.Steps.{Steps, StepsTo}
use Rattle.ssh_rules.specs.Failure.{error_of_link}
use Rattle.ssh_rules.specs.Run.{Owes, Turn, Turns, Run, calls_of, steps_of, entries}
use Rattle.ssh_rules.specs.Run.{wants_commands}
use Rattle.ssh_rules.specs.Cause.{cause_of, may_stop}
use Rattle.ssh_session.specs.Serve.{Refines, IsSuited}
use Rattle.ssh_rules.specs.World.{Settings, World, in_exchange, opening_world}
use Rattle.ssh_rules.proofs.Lawful.{lawful}
use Rattle.ssh_rules.proofs.Plans.Settled.{stays_set}
use Rattle.ssh_serving.proofs.Handing.{cut_later}
use Rattle.ssh_serving.proofs.Serving.{told_then, told_none, caused_rose}

-- a run that goes on: this many inputs were finished
pub record Going {E F : Type 0} (accepts : Acceptance) (settings : Settings)
    (before after : Told E F)
    (count : ℕ) (session : Session) : Type 0 where
  pub turns : List (Turn E F)
  pub world : World
  pub run : Run accepts (opening_world settings) turns world
  pub called : Adds before.calls after.calls (flat_map calls_of turns)
  pub stepped : Adds before.steps after.steps (flat_map steps_of turns)
  pub told : Adds before.trace after.trace (flat_map entries turns)
  pub later : before.faults ≤ after.faults
  pub counted : length turns ≡ count
  pub refines : Refines session world
  pub set : world.settings ≡ settings

pub starts : (E F : Type 0) (accepts : Acceptance) (settings : Settings) (before : Told E F)
    (session : Session) →
    Refines session (opening_world settings) → Going accepts settings before before 0 session
starts E F accepts settings before session r = record {
  turns = [];
  world = opening_world settings;
  run = refl;
  called = adds_nil before.calls;
  stepped = adds_nil before.steps;
  told = adds_nil before.trace;
  later = omega arith;
  counted = refl;
  refines = r;
  set = refl;
}

run_more : {E F : Type 0} (accepts : Acceptance) (w : World) (turns : List (Turn E F)) (mid : World)
    (turn : Turn E F) (world : World) →
    Run accepts w turns mid → Turns accepts mid turn world → Run accepts w (turns ++ turn ∷ [])
    world
run_more accepts w [] mid turn world h t = (
  world,
  subst (λ v. Turns accepts v turn world) h t,
  refl,
)
run_more accepts w (first ∷ turns) mid turn world h t =
    (h.0, h.1, run_more accepts h.0 turns mid turn world h.2 t)

-- one more turn, in the calls and in the trace
called_more : {E F : Type 0} (stops : Bool) (a b c : Option (List (Call E)))
    (turns : List (Turn E F))
    (turn : Turn E F) →
    Adds a b (flat_map calls_of turns) → ToldBy stops b c (calls_of turn)
    → ToldBy stops a c (flat_map calls_of (turns ++ turn ∷ []))
called_more stops a b c turns turn h k =
    let e = flat_map-append calls_of turns (turn ∷ []) ∙ ap (λ l. flat_map calls_of turns ++ l)
    (append-nil (calls_of turn)) in
    subst (ToldBy stops a c) (sym e) (told_then stops a b c (flat_map calls_of turns)
    (calls_of turn) h k)

stepped_more : {E F : Type 0} (a b c : Option (List (KexCall F))) (turns : List (Turn E F))
    (turn : Turn E F) → Adds a b (flat_map steps_of turns) → Adds b c (steps_of turn) →
    Adds a c (flat_map steps_of (turns ++ turn ∷ []))
stepped_more a b c turns turn h k =
    let e = flat_map-append steps_of turns (turn ∷ []) ∙ ap (λ l. flat_map steps_of turns ++ l)
    (append-nil (steps_of turn)) in
    subst (Adds a c) (sym e) (adds_both a b c (flat_map steps_of turns) (steps_of turn) h k)

told_more : {E F : Type 0} (a b c d : Option (List TraceEntry)) (turns : List (Turn E F))
    (turn : Turn E F) →
    Adds a b (flat_map entries turns) → Adds b c (Took turn.commands turn.replies turn.input ∷ [])
    → Adds c d (told_in turn.events) →
    Adds a d (flat_map entries (turns ++ turn ∷ []))
told_more a b c d turns turn h k l =
    let e = flat_map-append entries turns (turn ∷ []) ∙ ap (λ l. flat_map entries turns ++ l)
    (append-nil (entries turn)) in
    subst (Adds a d) (sym e) (adds_both a b d (flat_map entries turns) (entries turn) h
    (adds_both b c d (Took turn.commands turn.replies turn.input ∷ []) (told_in turn.events) k l))

-- what is known of an input that was taken: the flags with which it was asked for, and what was
-- told then
pub record Taken {E F : Type 0} (session : Session) (before after : Told E F)
    (commands replies : Bool) (input : Input) : Type 0 where
  pub took : Adds before.trace after.trace (Took commands replies input ∷ [])
  pub uncalled : after.calls ≡ before.calls
  pub unstepped : after.steps ≡ before.steps
  pub asked : IsAsked commands replies input.kind
  pub for_commands : (w : World) → Refines session w → commands ≡ wants_commands w
  pub for_replies : (w : World) → Refines session w → replies ≡ not (in_exchange w)
  pub later : before.faults ≤ after.faults

-- an input was finished, and the run goes on
pub goes_on : {E F : Type 0} (accepts : Acceptance) (settings : Settings) (a b c d : Told E F)
    (starved : Type 0) (count : ℕ) (session session' : Session)
    (commands replies : Bool) (input : Input) → Going accepts settings a b count session
    → Taken session b c commands replies input →
    ((w : World) → Refines session w → w.settings ≡ settings
    → StepsTo (Owes accepts w input) c d starved session' (Ok Continue)) →
    Going accepts settings a d (count + 1) session'
goes_on {E} {F} accepts settings a b c d starved count session session' commands replies input going taken
    step =
    let w = going.world in
    let done = (step w going.refines going.set).0 in
    let turn : Turn E F = record
    { input = input; commands = commands; replies = replies; events = done.events } in
    let comes = done.comes in
    record {
      turns = going.turns ++ turn ∷ [];
      world = comes.0;
      run = run_more accepts (opening_world settings) going.turns w turn comes.0 going.run (
        done.plan,
        done.owes,
        comes.1,
        (
          taken.for_commands w going.refines,
          taken.for_replies w going.refines,
          taken.asked,
        ),
      );
      called = called_more false a.calls b.calls d.calls going.turns turn going.called
          (subst (λ l. Adds l d.calls (calls_of turn)) taken.uncalled done.called);
      stepped = stepped_more a.steps b.steps d.steps going.turns turn going.stepped
          (subst (λ l. Adds l d.steps (steps_of turn)) taken.unstepped done.stepped);
      told = told_more a.trace b.trace c.trace d.trace going.turns turn going.told taken.took
          done.told;
      later = let x = going.later in let y = taken.later in let z = done.later in
          omega (arith, x, y, z);
      counted = length-append going.turns (turn ∷ []) ∙ ap (λ n. n + 1) going.counted;
      refines = comes.2;
      set = stays_set accepts settings w input done.plan done.events comes.0 done.owes comes.1
          going.set;
    }

-- an input ended the run
ended_so : {E F : Type 0} (accepts : Acceptance) (settings : Settings) (a b c d : Told E F)
    (count max : ℕ) (session session' : Session)
    (commands replies : Bool) (input : Input) → Going accepts settings a b count session
    → Taken session b c commands replies input →
    ((w : World) → Refines session w → w.settings ≡ settings
    → Steps (Owes accepts w input) c d session' (Ok Ended)) → count < max
    → Ran accepts settings a d max (Ok tt)
ended_so {E} {F} accepts settings a b c d count max session session' commands replies input going
    taken step room =
    let w = going.world in
    let done = step w going.refines going.set in
    let turn : Turn E F = record
    { input = input; commands = commands; replies = replies; events = done.events } in
    record {
      turns = going.turns;
      world = w;
      run = going.run;
      last = Some turn;
      closes = (
        subst (λ n. n < max) (sym going.counted) room,
        (taken.for_commands w going.refines, taken.for_replies w going.refines, taken.asked),
        (done.plan, done.owes, done.comes),
      );
      called = called_more false a.calls b.calls d.calls going.turns turn going.called
          (subst (λ l. Adds l d.calls (calls_of turn)) taken.uncalled done.called);
      stepped = stepped_more a.steps b.steps d.steps going.turns turn going.stepped
          (subst (λ l. Adds l d.steps (steps_of turn)) taken.unstepped done.stepped);
      told = told_more a.trace b.trace c.trace d.trace going.turns turn going.told taken.took
          done.told;
      later = let x = going.later in let y = taken.later in let z = done.later in
          omega (arith, x, y, z);
    }

pub ends : {E F : Type 0} (accepts : Acceptance) (settings : Settings) (a b c d : Told E F)
    (starved starved' : Type 0) (count max : ℕ) (session session' : Session)
    (commands replies : Bool) (input : Input) → Going accepts settings a b count session
    → Taken session b c commands replies input →
    ((w : World) → Refines session w → w.settings ≡ settings
    → StepsTo (Owes accepts w input) c d starved session' (Ok Ended)) → count < max
    → RanTo accepts settings a d starved' max (Ok tt)
unfolding ended_so
ends accepts settings a b c d starved starved' count max session session' commands replies input
    going taken step room = (
      ended_so accepts settings a b c d count max session session' commands replies input going taken
          (λ w r set. (step w r set).0) room,
      tt,
    )

-- an input was not finished
stopped_so : {E F : Type 0} (accepts : Acceptance) (settings : Settings) (a b c d : Told E F)
    (count max : ℕ) (session session' : Session)
    (commands replies : Bool) (input : Input) (e : RunError E F)
    → Going accepts settings a b count session → Taken session b c commands replies input →
    ((w : World) → Refines session w → w.settings ≡ settings
    → Steps (Owes accepts w input) c d session' (Err e)) → count < max →
    Ran accepts settings a d max (Err e)
stopped_so {E} {F} accepts settings a b c d count max session session' commands replies input e going
    taken step room =
    let w = going.world in
    let done = step w going.refines going.set in
    let turn : Turn E F = record
    { input = input; commands = commands; replies = replies; events = done.events } in
    let rises : Rose c.faults d.faults → Rose a.faults d.faults =
    λ r. let x = going.later in let y = taken.later in omega (arith, x, y, r) in
    record {
      turns = going.turns;
      world = w;
      run = going.run;
      last = Some turn;
      closes = (
        subst (λ n. n < max) (sym going.counted) room,
        (taken.for_commands w going.refines, taken.for_replies w going.refines, taken.asked),
        (
          done.plan,
          done.owes,
          caused_rose (cause_of e) done.plan (Rose c.faults d.faults)
              (Rose a.faults d.faults) done.events rises done.comes,
        ),
      );
      called = called_more (may_stop {T = Unit {0}} (Err e)) a.calls b.calls d.calls going.turns
          turn going.called
          (subst (λ l. ToldBy (may_stop {T = Unit {0}} (Err e)) l d.calls (calls_of turn))
          taken.uncalled done.called);
      stepped = stepped_more a.steps b.steps d.steps going.turns turn going.stepped
          (subst (λ l. Adds l d.steps (steps_of turn)) taken.unstepped done.stepped);
      told = told_more a.trace b.trace c.trace d.trace going.turns turn going.told taken.took
          done.told;
      later = let x = going.later in let y = taken.later in let z = done.later in
          omega (arith, x, y, z);
    }

-- .. and its frames were cut so
pub stopped : {E F : Type 0} (accepts : Acceptance) (settings : Settings) (a b c d : Told E F)
    (starved starved' : Type 0) (count max : ℕ) (session session' : Session)
    (commands replies : Bool) (input : Input) (e : RunError E F)
    → Going accepts settings a b count session → Taken session b c commands replies input →
    ((w : World) → Refines session w → w.settings ≡ settings
    → StepsTo (Owes accepts w input) c d starved session' (Err e)) → count < max →
    (starved → starved') → RanTo accepts settings a d starved' max (Err e)
unfolding stopped_so
stopped accepts settings a b c d starved starved' count max session session' commands replies input
    e going taken step room later = (
      stopped_so accepts settings a b c d count max session session' commands replies input e going
          taken (λ w r set. (step w r set).0) room,
      (let done = step going.world going.refines going.set in
          cut_later (cause_of e) starved starved' done.0.plan done.0.events later done.1),
    )

weakly : {A : Type 0} (stops : Bool) (a b : Option (List A)) (xs : List A) → Adds a b xs
    → ToldBy stops a b xs
weakly stops a b xs h = subst (ToldBy stops a b) (append-nil xs)
    (told_then stops a b b xs [] h (told_none stops b))

-- no further input was taken
no_input_so : {E F : Type 0} (accepts : Acceptance) (settings : Settings) (a b c : Told E F)
    (count max : ℕ) (session : Session) (e : RunError E F) →
    Going accepts settings a b count session → Adds b.trace c.trace [] → c.calls ≡ b.calls
    → c.steps ≡ b.steps → b.faults ≤ c.faults →
    ((w : World) → Closes accepts w count max None (Rose a.faults c.faults) (Err e))
    → Ran accepts settings a c max (Err e)
no_input_so accepts settings a b c count max session e going took uncalled unstepped later closes =
    let stops = may_stop {T = Unit {0}} (Err e) in
    record {
      turns = going.turns;
      world = going.world;
      run = going.run;
      last = None;
      closes = subst (λ n. Closes accepts going.world n max None (Rose a.faults c.faults) (Err e))
          (sym going.counted) (closes going.world);
      called = subst (λ l. ToldBy stops a.calls c.calls (flat_map calls_of l))
          (sym (append-nil going.turns))
          (weakly stops a.calls c.calls (flat_map calls_of going.turns)
          (subst (λ l. Adds a.calls l (flat_map calls_of going.turns)) (sym uncalled)
          going.called));
      stepped = subst (λ l. Adds a.steps c.steps (flat_map steps_of l))
          (sym (append-nil going.turns))
          (subst (λ l. Adds a.steps l (flat_map steps_of going.turns)) (sym unstepped)
          going.stepped);
      told = subst (λ l. Adds a.trace c.trace (flat_map entries l)) (sym (append-nil going.turns))
          (subst (Adds a.trace c.trace) (append-nil (flat_map entries going.turns))
          (adds_both a.trace b.trace c.trace (flat_map entries going.turns) [] going.told took));
      later = let x = going.later in omega (arith, x, later);
    }

no_input : {E F : Type 0} (accepts : Acceptance) (settings : Settings) (a b c : Told E F)
    (starved : Type 0) (count max : ℕ) (session : Session) (e : RunError E F) →
    Going accepts settings a b count session → Adds b.trace c.trace [] → c.calls ≡ b.calls
    → c.steps ≡ b.steps → b.faults ≤ c.faults →
    ((w : World) → Closes accepts w count max None (Rose a.faults c.faults) (Err e))
    → RanTo accepts settings a c starved max (Err e)
unfolding no_input_so
no_input accepts settings a b c starved count max session e going took uncalled unstepped later
    closes = (
      no_input_so accepts settings a b c count max session e going took uncalled unstepped later closes,
      tt,
    )

-- the link gave no further input
pub link_left : {E F : Type 0} (accepts : Acceptance) (settings : Settings) (a b c : Told E F)
    (starved : Type 0) (count max : ℕ) (session : Session)
    (fault : LinkFault) → Going accepts settings a b count session → Adds b.trace c.trace []
    → c.calls ≡ b.calls → c.steps ≡ b.steps →
    b.faults ≤ c.faults → (fault ≡ Failed → b.faults < c.faults) → count < max →
    RanTo accepts settings a c starved max (Err (error_of_link fault))
link_left accepts settings a b c starved count max session Failed going took uncalled unstepped later cause
    room =
    no_input accepts settings a b c starved count max session error.LinkFault going took uncalled unstepped
    later
    (λ w. let rose = cause refl in let more = going.later in (omega (arith, rose, more), room))
link_left accepts settings a b c starved count max session NoMemory going took uncalled unstepped later
    cause room =
    no_input accepts settings a b c starved count max session error.NoMemory going took uncalled unstepped
    later
    (λ w. omega (arith, room))

-- as many inputs were finished as there may be
pub limit_reached : {E F : Type 0} (accepts : Acceptance) (settings : Settings) (a b : Told E F)
    (starved : Type 0) (count max : ℕ) (session : Session) →
    Going accepts settings a b count session → count ≡ max → RanTo accepts settings a b starved max
    (Err error.InputLimit)
limit_reached accepts settings a b starved count max session going is =
    no_input accepts settings a b b starved count max session error.InputLimit going
    (adds_nil b.trace) refl refl
    (omega arith) (λ w. is)

-- the same of what was told under other names
pub ran_known : {E F : Type 0} (accepts : Acceptance) (settings : Settings)
    (a a' b b' : Told E F) (p p' q q' : Option ℕ) (max : ℕ)
    (result : Result (Unit {0}) (RunError E F)) → a ≡ a' → b ≡ b' → p ≡ p' → q ≡ q' →
    RanTo accepts settings a b (RoseIfKept p q) max result →
    RanTo accepts settings a' b' (RoseIfKept p' q') max result
ran_known accepts settings a a' b b' p p' q q' max result s t c d h =
    subst (λ x. RanTo accepts settings x b' (RoseIfKept p' q') max result) s
    (subst (λ x. RanTo accepts settings a x (RoseIfKept p' q') max result) t
    (subst (λ x. RanTo accepts settings a b (RoseIfKept x q') max result) c
    (subst (λ x. RanTo accepts settings a b (RoseIfKept p x) max result) d h)))

-- a run that could not begin
none_begun : (E F : Type 0) (accepts : Acceptance) (settings : Settings) (a : Told E F) (max : ℕ)
    → Ran accepts settings a a max (Err error.NoMemory)
none_begun E F accepts settings a max = record {
  turns = [];
  world = opening_world settings;
  run = refl;
  last = None;
  closes = omega arith;
  called = adds_nil a.calls;
  stepped = adds_nil a.steps;
  told = adds_nil a.trace;
  later = omega arith;
}

pub not_begun : (E F : Type 0) (accepts : Acceptance) (settings : Settings) (a : Told E F)
    (starved : Type 0) (max : ℕ) → RanTo accepts settings a a starved max (Err error.NoMemory)
unfolding none_begun
not_begun E F accepts settings a starved max = (none_begun E F accepts settings a max, tt)

-- what was run is lawful
pub laws_of : {E F : Type 0} (accepts : Acceptance) (settings : Settings) (before after : Told E F)
    (starved : Type 0) (max : ℕ) (result : Result (Unit {0}) (RunError E F)) →
    RanTo accepts settings before after starved max result →
    Laws accepts settings before after starved max result
laws_of accepts settings before after starved max result account = record {
  run = account.0;
  cut = account.1;
  lawful = λ other. lawful accepts settings before after max result other;
}

-- a handler that suits the config and the peer of a run suits its session
pub still_suits : {E F : Type 0} (suits : Config → List ℕ → Type 0) (accepts : Acceptance)
    (settings : Settings) (a b : Told E F)
    (count : ℕ) (session : Session) → Going accepts settings a b count session
    → suits settings.config settings.remote_sshid →
    IsSuited suits session
still_suits suits accepts settings a b count session going h =
    let r = going.refines in
    let config : session.server.common.config ≡ settings.config = r.server.config
    ∙ ap (λ s. s.config) going.set in
    let line : session.server.common.remote_sshid ≡ settings.remote_sshid
    = r.server.remote_sshid
    ∙ ap (λ s. s.remote_sshid) going.set in
    subst (λ c. suits c session.server.common.remote_sshid) (sym config)
    (subst (suits settings.config) (sym line) h)

-- whether this side can begin an exchange of keys is no part of a session
pub repeating : (session : Session) (settings : Settings) (repeatable : Bool) →
    Refines session (opening_world settings) →
    Refines session (opening_world (record settings { repeatable = repeatable }))
repeating session settings repeatable r = record {
  server = record {
    config = r.server.config;
    session_id = r.server.session_id;
    remote_sshid = r.server.remote_sshid;
    state = r.server.state;
    requested = r.server.requested;
    name = r.server.name;
    table = r.server.table;
    opens = r.server.opens;
    no_more_sessions = r.server.no_more_sessions;
    wanted = r.server.wanted;
    outstanding = r.server.outstanding;
    keepalives = r.server.keepalives;
    disconnected = r.server.disconnected;
    keys = r.server.keys;
  };
  live = r.live;
}
