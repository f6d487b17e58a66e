-- From payload to payload.
use Rattle.std.proofs.Common.{◌≡◌, ◌≤◌, ◌+◌, ℕ, List, [], ◌∷◌, ◌++◌, length, Option, Some, None}
use Rattle.std.proofs.Common.{Result, Ok, Err, Bool, false, not, refl, sym, ◌∙◌, ap, subst, arith}
use Rattle.std.proofs.Common.{append_assoc, inl, inr}
use Rattle.std.specs.Prelude.{flat_map, map, option_to_list}
use Rattle.std.proofs.lemmas.List.{append-nil, map-append}
use Rattle.ssh_link.specs.Faults.{Rose}
use Rattle.ssh_link.specs.Told.{Adds, ToldBy}
use Rattle.ssh_link.proofs.Tellings.{adds_nil}
use Rattle.ssh_link.specs.declared.frame.Input.{Input}
use Rattle.ssh_link.specs.declared.frame.InputKind.{InputKind}
use Rattle.ssh_link.specs.declared.frame.InputKind.TheVariants.{Payload}
use Rattle.ssh_link.specs.declared.notice.Notice.{Notice}
use Rattle.ssh_auth.specs.declared.question.Question.{Question}
use Rattle.ssh_auth.specs.Plan.{Plan, Finish, Ask, Answer, Event, Reaches, calls_in, steps_in}
use Rattle.ssh_auth.specs.Plan.{told_in}
use Rattle.ssh_auth.specs.Publickey.{Acceptance}
use Rattle.ssh_handler.specs.declared.config.Config.{Config}
use Rattle.ssh_rules.specs.declared.error.Flow.{Flow}
use Rattle.ssh_rules.specs.declared.error.Flow.TheVariants.{Continue, Ended}
use Rattle.ssh_rules.specs.declared.error.RunError.{RunError}
use Rattle.ssh_rules.specs.declared.error.RunError.TheVariants as error
use Rattle.ssh_session.specs.declared.session.Session.{Session}
use Rattle.ssh_rules.specs.Account.{Told, Concludes, Closes}
use Rattle.ssh_session.specs.Steps.{Steps}
use Rattle.ssh_session.specs.Between.{untold, OwesBehind, OwesUnlessEnded, StepsAfter}
use Rattle.ssh_rules.specs.Outcome.{Fault, Outcome, Goes, Fails}
use Rattle.ssh_rules.specs.Run.{Owes, Turn, Turns, Run, calls_of, steps_of, wants_commands}
use Rattle.ssh_rules.specs.Cause.{Cause, Wants_memory, Link_failed, Limit_reached, Faulty}
use Rattle.ssh_rules.specs.Cause.{Refused_by, Broken_by}
use Rattle.ssh_rules.specs.Cause.{IsCaused, cause_of, may_stop}
use Rattle.ssh_session.specs.Serve.{Refines, IsSuited}
use Rattle.ssh_rules.specs.World.{Settings, World, in_exchange, opening_world}
use Rattle.ssh_rules.proofs.Authorised.Run.{authorised}
use Rattle.ssh_rules.proofs.Answered.Run.{answered}
use Rattle.ssh_rules.proofs.Ledger.Sums.{ledgered}
use Rattle.ssh_rules.proofs.Ended.Run.{IsLive, run_live}
use Rattle.ssh_rules.proofs.Exchanged.Run.{exchanged, last_exchanged}
use Rattle.ssh_rules.proofs.Replied.GlobalRun.{globally_replied}
use Rattle.ssh_rules.proofs.InOrder.Run.{in_order}
use Rattle.ssh_rules.proofs.Ledger.LastInput.{last_ledgered}
use Rattle.ssh_rules.proofs.LastWord.Run.{last_word}
use Rattle.ssh_rules.proofs.Received.Run.{received}
use Rattle.ssh_rules.proofs.Replied.Run.{replied}
use Rattle.ssh_serving.proofs.Serving.{told_none, caused_rose}
use Rattle.ssh_rules.proofs.Plans.Settled.{stays_set}
use Rattle.ssh_drive.specs.Served.{kind_of, told_of, EndsSo, Served}
use Rattle.ssh_drive.proofs.Going.{told_both, rises, suits_yet}

-- these payloads were finished, and it goes on
pub record Going {E F : Type 0} (accepts : Acceptance) (settings : Settings)
    (payloads : List (List ℕ)) (before after : Told E F) (session : Session) : Type 0 where
  pub turns : List (Turn E F)
  pub world : World
  pub run : Run accepts (opening_world settings) turns world
  pub given : map kind_of turns ≡ map Payload payloads
  pub called : Adds before.calls after.calls (flat_map calls_of turns)
  pub stepped : Adds before.steps after.steps (flat_map steps_of turns)
  pub told : Adds before.trace after.trace (flat_map told_of turns)
  pub later : before.faults ≤ after.faults
  pub refines : Refines session world
  pub set : world.settings ≡ settings
  pub all_told : untold session ≡ []

pub starts : (E F : Type 0) (accepts : Acceptance) (settings : Settings) (before : Told E F)
    (session : Session) → Refines session (opening_world settings) → untold session ≡ []
    → Going accepts settings [] before before session
starts E F accepts settings before session r t = record {
  turns = [];
  world = opening_world settings;
  run = refl;
  given = refl;
  called = adds_nil before.calls;
  stepped = adds_nil before.steps;
  told = adds_nil before.trace;
  later = omega arith;
  refines = r;
  set = refl;
  all_told = t;
}

-- a handler that suits the config and the peer suits the session at each payload
pub still_suits : {E F : Type 0} (suits : Config → List ℕ → Type 0) (accepts : Acceptance)
    (settings : Settings) (payloads : List (List ℕ)) (a b : Told E F) (session : Session)
    → Going accepts settings payloads a b session → suits settings.config settings.remote_sshid
    → IsSuited suits session
still_suits suits accepts settings payloads a b session going h =
    suits_yet suits settings session going.world going.refines going.set h

-- one more
run_more : {E F : Type 0} (accepts : Acceptance) (w : World) (turns : List (Turn E F)) (mid : World)
    (turn : Turn E F) (world : World) → Run accepts w turns mid → Turns accepts mid turn world
    → Run accepts w (turns ++ turn ∷ []) world
run_more accepts w [] mid turn world h t =
    (world, subst (λ v. Turns accepts v turn world) h t, refl)
run_more accepts w (first ∷ turns) mid turn world h t =
    (h.0, h.1, run_more accepts h.0 turns mid turn world h.2 t)

told_more : {A B : Type 0} (stops : Bool) (f : A → List B) (xs : List A) (x : A)
    (a b c : Option (List B)) → Adds a b (flat_map f xs) → ToldBy stops b c (f x)
    → ToldBy stops a c (flat_map f (xs ++ x ∷ []))
told_more stops f xs x a b c h k = told_both stops f xs (x ∷ []) a b c h
    (subst (ToldBy stops b c) (sym (append-nil (f x))) k)

given_more : {E F : Type 0} (turns : List (Turn E F)) (turn : Turn E F) (payloads : List (List ℕ))
    (payload : List ℕ) → map kind_of turns ≡ map Payload payloads
    → turn.input.kind ≡ Payload payload
    → map kind_of (turns ++ turn ∷ []) ≡ map Payload (payloads ++ payload ∷ [])
given_more turns turn payloads payload h is = map-append kind_of turns (turn ∷ [])
    ∙ (ap (λ l. l ++ turn.input.kind ∷ []) h
    ∙ (ap (λ k. map Payload payloads ++ k ∷ []) is ∙ sym (map-append Payload payloads (payload ∷ []))))

-- where no notice waits and the connection was not ended, an input owes its row
owes_now : (notices : List Notice) (accepts : Acceptance) (w : World) (input : Input)
    (plan : Plan Outcome) → notices ≡ [] → IsLive w → OwesBehind notices accepts w input plan
    → Owes accepts w input plan
owes_now notices accepts w input plan none live (later, owes, is) =
    let now : plan ≡ later = rw none at is in
    subst (Owes accepts w input) (sym now)
    (subst (λ b. OwesUnlessEnded b accepts w input later) live owes)

pub steps_now : {E F : Type 0} (notices : List Notice) (accepts : Acceptance) (w : World)
    (input : Input) (c d : Told E F) (session : Session) (result : Result Flow (RunError E F))
    → notices ≡ [] → IsLive w → Steps (OwesBehind notices accepts w input) c d session result
    → Steps (Owes accepts w input) c d session result
steps_now notices accepts w input c d session result none live step = record {
  plan = step.plan;
  owes = owes_now notices accepts w input step.plan none live step.owes;
  events = step.events;
  called = step.called;
  told = step.told;
  later = step.later;
  stepped = step.stepped;
  comes = step.comes;
}

-- a session that goes on was given its input
pub taken_now : {E F : Type 0} (notices : List Notice) (accepts : Acceptance) (w : World)
    (input : Input) (c d : Told E F) (session : Session) (flow : Flow)
    → notices ≡ [] → IsLive w → StepsAfter notices accepts w input c d session (Ok flow)
    → Steps (Owes accepts w input) c d session (Ok flow)
taken_now notices accepts w input c d session flow none live (inl step) =
    steps_now notices accepts w input c d session (Ok flow) none live step
taken_now notices accepts w input c d session flow none live (inr (e, is, step)) = absurd (cc)

abbrev input_of : (moment : ℕ) → (payload : List ℕ) → Input
input_of moment payload = record { moment = moment; kind = Payload payload }

abbrev turn_of : {E F : Type 0} → World → Input → List (Event E F) → Turn E F
turn_of w input events = record {
  input = input;
  commands = wants_commands w;
  replies = not (in_exchange w);
  events = events;
}

-- a payload was finished
pub goes_on : {E F : Type 0} (accepts : Acceptance) (settings : Settings) (moment : ℕ)
    (payloads : List (List ℕ)) (payload : List ℕ) (a c d : Told E F) (session session' : Session)
    → Going accepts settings payloads a c session
    → ((w : World) → Refines session w → w.settings ≡ settings → StepsAfter (untold session) accepts w
    (input_of moment payload) c d session' (Ok Continue))
    → untold session' ≡ [] → Going accepts settings (payloads ++ payload ∷ []) a d session'
goes_on {E} {F} accepts settings moment payloads payload a c d session session' going taken told =
    let w = going.world in
    let live = run_live accepts (opening_world settings) going.turns w going.run refl in
    let done = taken_now (untold session) accepts w (input_of moment payload) c d session' Continue
    going.all_told live (taken w going.refines going.set) in
    let turn : Turn E F = turn_of w (input_of moment payload) done.events in
    let comes = done.comes in
    record {
      turns = going.turns ++ turn ∷ [];
      world = comes.0;
      run = run_more accepts (opening_world settings) going.turns w turn comes.0 going.run
          (done.plan, done.owes, comes.1, (refl, refl, refl));
      given = given_more going.turns turn payloads payload going.given refl;
      called = told_more false calls_of going.turns turn a.calls c.calls d.calls going.called
          done.called;
      stepped = told_more false steps_of going.turns turn a.steps c.steps d.steps going.stepped
          done.stepped;
      told = told_more false told_of going.turns turn a.trace c.trace d.trace going.told done.told;
      later = let x = going.later in let y = done.later in omega (arith, x, y);
      refines = comes.2;
      set = stays_set accepts settings w (input_of moment payload) done.plan done.events comes.0
          done.owes comes.1 going.set;
      all_told = told;
    }

-- those that were given, and those that are left
given_left : {E F : Type 0} (turns : List (Turn E F)) (payloads rest all : List (List ℕ))
    → map kind_of turns ≡ map Payload payloads → payloads ++ rest ≡ all
    → map kind_of turns ++ map Payload rest ≡ map Payload all
given_left turns payloads rest all h is = ap (λ l. l ++ map Payload rest) h
    ∙ (sym (map-append Payload payloads rest) ∙ ap (map Payload) is)

-- what was served, with the laws of every run that closes so
served : {E F : Type 0} (accepts : Acceptance) (settings : Settings) (all : List (List ℕ))
    (a d : Told E F) (result : Result Flow (RunError E F)) (turns : List (Turn E F))
    (w : World) (last : Option (Turn E F)) (left : List InputKind) (max : ℕ) (rose : Type 0)
    (end : Result (Unit {0}) (RunError E F)) → Run accepts (opening_world settings) turns w
    → Closes accepts w (length turns) max last rose end
    → map kind_of (turns ++ option_to_list last) ++ left ≡ map Payload all
    → (result ≡ Ok Continue → left ≡ [])
    → EndsSo accepts w last (Rose a.faults d.faults) result → a.faults ≤ d.faults
    → ToldBy (may_stop result) a.calls d.calls (flat_map calls_of (turns ++ option_to_list last))
    → Adds a.steps d.steps (flat_map steps_of (turns ++ option_to_list last))
    → Adds a.trace d.trace (flat_map told_of (turns ++ option_to_list last))
    → Served accepts settings all a d result
served accepts settings all a d result turns w last left max rose end run closes given whole ends
    later called stepped told =
    let count = length turns in
    record {
      turns = turns;
      world = w;
      run = run;
      last = last;
      left = left;
      given = given;
      all = whole;
      ends = ends;
      later = later;
      called = called;
      stepped = stepped;
      told = told;
      authorised = authorised accepts settings turns w count max last rose end run closes;
      ledger = λ earlier more is. ledgered accepts settings turns w run earlier more is;
      last_ledger = last_ledgered accepts settings turns w last run;
      answered = answered accepts settings turns w count max last rose end run closes;
      replied = replied accepts settings turns w count max last rose end run closes;
      globally_replied = globally_replied accepts settings turns w count max last rose end run
          closes;
      in_order = λ earlier more is. in_order accepts settings turns w run earlier more is;
      exchanged = exchanged accepts settings turns w run;
      last_exchanged = last_exchanged accepts settings turns w count max last rose end run closes;
      received = received accepts settings turns w count max last rose end run closes;
      last_word = last_word accepts settings turns w count max last rose end run closes;
    }

-- the last that was looked at
served_with : {E F : Type 0} (accepts : Acceptance) (settings : Settings) (moment : ℕ)
    (payloads rest all : List (List ℕ)) (payload : List ℕ) (a c d : Told E F)
    (session session' : Session) (result : Result Flow (RunError E F))
    (end : Result (Unit {0}) (RunError E F)) (going : Going accepts settings payloads a c session)
    (step : Steps (Owes accepts going.world (input_of moment payload)) c d session' result)
    → Concludes step.plan step.events (Rose c.faults d.faults) end
    → EndsSo accepts going.world
    (Some (turn_of going.world (input_of moment payload) step.events)) (Rose a.faults d.faults)
    result
    → (payloads ++ payload ∷ []) ++ rest ≡ all → (result ≡ Ok Continue → ⊥)
    → Served accepts settings all a d result
served_with {E} {F} accepts settings moment payloads rest all payload a c d session session' result
    end going step concludes ends is not =
    let w = going.world in
    let turn : Turn E F = turn_of w (input_of moment payload) step.events in
    let count = length going.turns in
    served accepts settings all a d result going.turns w (Some turn) (map Payload rest) (count + 1)
    (Rose c.faults d.faults) end going.run
    (omega arith, (refl, refl, refl), (step.plan, step.owes, concludes))
    (given_left (going.turns ++ turn ∷ []) (payloads ++ payload ∷ []) rest all
    (given_more going.turns turn payloads payload going.given refl) is)
    (λ goes. absurd (not goes)) ends
    (let x = going.later in let y = step.later in omega (arith, x, y))
    (told_more (may_stop result) calls_of going.turns turn a.calls c.calls d.calls going.called
    step.called)
    (told_more false steps_of going.turns turn a.steps c.steps d.steps going.stepped step.stepped)
    (told_more false told_of going.turns turn a.trace c.trace d.trace going.told step.told)

-- no more was looked at
served_none : {E F : Type 0} (accepts : Acceptance) (settings : Settings)
    (payloads rest all : List (List ℕ)) (a c d : Told E F) (session : Session)
    (result : Result Flow (RunError E F)) (going : Going accepts settings payloads a c session)
    → payloads ++ rest ≡ all → (result ≡ Ok Continue → rest ≡ [])
    → EndsSo {E = E} {F = F} accepts going.world None (Rose a.faults d.faults) result
    → c.faults ≤ d.faults → ToldBy (may_stop result) c.calls d.calls []
    → Adds c.steps d.steps [] → Adds c.trace d.trace [] → Served accepts settings all a d result
served_none {E} {F} accepts settings payloads rest all a c d session result going is whole ends
    later called stepped told =
    let none : Option (Turn E F) = None in
    let end : Result (Unit {0}) (RunError E F) = Err error.NoMemory in
    served accepts settings all a d result going.turns going.world none (map Payload rest)
    (length going.turns) ⊥ end going.run (omega arith)
    (subst (λ l. map kind_of l ++ map Payload rest ≡ map Payload all)
    (sym (append-nil going.turns)) (given_left going.turns payloads rest all going.given is))
    (λ goes. ap (map Payload) (whole goes)) ends
    (let x = going.later in omega (arith, x, later))
    (told_both (may_stop result) calls_of going.turns [] a.calls c.calls d.calls going.called called)
    (told_both false steps_of going.turns [] a.steps c.steps d.steps going.stepped stepped)
    (told_both false told_of going.turns [] a.trace c.trace d.trace going.told told)

-- all were finished
pub all_served : {E F : Type 0} (accepts : Acceptance) (settings : Settings)
    (payloads rest all : List (List ℕ)) (a c : Told E F) (session : Session)
    → Going accepts settings payloads a c session → payloads ++ rest ≡ all → rest ≡ []
    → Served accepts settings all a c (Ok Continue)
all_served accepts settings payloads rest all a c session going is none =
    served_none accepts settings payloads rest all a c c session (Ok Continue) going is (λ _. none)
    tt (omega arith) (told_none false c.calls) (adds_nil c.steps) (adds_nil c.trace)

-- one ended the connection
pub ended : {E F : Type 0} (accepts : Acceptance) (settings : Settings) (moment : ℕ)
    (payloads rest all : List (List ℕ)) (payload : List ℕ) (a c d : Told E F)
    (session session' : Session) → Going accepts settings payloads a c session
    → ((w : World) → Refines session w → w.settings ≡ settings → StepsAfter (untold session) accepts w
    (input_of moment payload) c d session' (Ok Ended))
    → (payloads ++ payload ∷ []) ++ rest ≡ all → Served accepts settings all a d (Ok Ended)
ended accepts settings moment payloads rest all payload a c d session session' going taken is =
    let w = going.world in
    let live = run_live accepts (opening_world settings) going.turns w going.run refl in
    let done = taken_now (untold session) accepts w (input_of moment payload) c d session' Ended
    going.all_told live (taken w going.refines going.set) in
    served_with accepts settings moment payloads rest all payload a c d session session' (Ok Ended)
    (Ok tt) going done done.comes (done.plan, done.owes, done.comes) is (λ h. cc)

-- a plan that is at its end begins with nothing
at_end : {E F : Type 0} (plan rest : Plan Outcome) (outcome : Outcome) (events : List (Event E F))
    → plan ≡ Finish outcome → Reaches plan events rest → events ≡ []
at_end plan rest outcome [] is h = refl
at_end plan rest outcome (event ∷ events) is h = absurd (rw is at h)

no_question : {E F : Type 0} (plan : Plan Outcome) (outcome : Outcome) (question : Question)
    (next : Answer question → Plan Outcome) (events : List (Event E F)) → plan ≡ Finish outcome
    → Reaches plan events (Ask question next) → ⊥
no_question plan outcome question next [] is h =
    let e : Finish outcome ≡ Ask question next = sym is ∙ h in cc
no_question plan outcome question next (event ∷ events) is h = rw is at h

pub caused_none : {E F : Type 0} (cause : Cause E F) (plan : Plan Outcome) (outcome : Outcome)
    (rose : Type 0) (events : List (Event E F)) → plan ≡ Finish outcome
    → IsCaused cause plan rose events → events ≡ []
caused_none Wants_memory plan outcome rose events is h = at_end plan h.0 outcome events is h.1
caused_none Link_failed plan outcome rose events is h = at_end plan h.1.0 outcome events is h.1.1
caused_none Limit_reached plan outcome rose events is h = absurd h
caused_none (Faulty fault) plan outcome rose events is h = at_end plan _ outcome events is h
caused_none (Refused_by e) plan outcome rose events is h =
    absurd (no_question plan outcome h.question h.next h.before is h.reaches)
caused_none (Broken_by e) plan outcome rose events is h =
    absurd (no_question plan outcome h.question h.next h.before is h.reaches)

no_fault : (plan : Plan Outcome) (w : World) (fault : Fault) {E F : Type 0}
    (events : List (Event E F)) → plan ≡ Finish (Goes w)
    → Reaches plan events (Finish (Fails fault)) → ⊥
no_fault plan w fault [] is h = let e : Finish (Goes w) ≡ Finish (Fails fault) = sym is ∙ h in cc
no_fault plan w fault (event ∷ events) is h = rw is at h

-- memory was wanting, or the link failed, before the next one was looked at
pub ends_before : {E F : Type 0} (accepts : Acceptance) (w : World) (plan : Plan Outcome)
    (rose rose' : Type 0) (events : List (Event E F)) (e : RunError E F) → plan ≡ Finish (Goes w)
    → (rose → rose') → IsCaused (cause_of e) plan rose events
    → EndsSo {E = E} {F = F} accepts w None rose' (Err e)
ends_before accepts w plan rose rose' events error.NoMemory is f h = tt
ends_before accepts w plan rose rose' events error.LinkFault is f h = f h.0
ends_before accepts w plan rose rose' events error.InputLimit is f h = h
ends_before accepts w plan rose rose' events (error.Encoding why) is f h =
    no_fault plan w _ events is h
ends_before accepts w plan rose rose' events error.Inconsistent is f h =
    no_fault plan w _ events is h
ends_before accepts w plan rose rose' events (error.Key why) is f h =
    no_fault plan w _ events is h
ends_before accepts w plan rose rose' events error.UnsupportedAuthMethod is f h =
    no_fault plan w _ events is h
ends_before accepts w plan rose rose' events (error.Handler e) is f h =
    no_question plan (Goes w) h.question h.next h.before is h.reaches
ends_before accepts w plan rose rose' events (error.Kex e) is f h =
    no_question plan (Goes w) h.question h.next h.before is h.reaches
ends_before accepts w plan rose rose' events error.ChannelsFull is f h =
    no_fault plan w _ events is h
ends_before accepts w plan rose rose' events error.KeepaliveTimeout is f h =
    no_fault plan w _ events is h
ends_before accepts w plan rose rose' events error.InactivityTimeout is f h =
    no_fault plan w _ events is h
ends_before accepts w plan rose rose' events error.Pending is f h =
    no_fault plan w _ events is h

-- one was not finished, or not looked at
stopped_by : {E F : Type 0} (accepts : Acceptance) (settings : Settings) (moment : ℕ)
    (payloads rest all : List (List ℕ)) (payload : List ℕ) (a c d : Told E F)
    (session session' : Session) (e : RunError E F) (notices : List Notice) → notices ≡ []
    → (going : Going accepts settings payloads a c session) → IsLive going.world
    → StepsAfter notices accepts going.world (input_of moment payload) c d session' (Err e)
    → (payloads ++ payload ∷ []) ++ rest ≡ all → Served accepts settings all a d (Err e)
stopped_by accepts settings moment payloads rest all payload a c d session session' e notices none
    going live (inl step) is =
    let done = steps_now notices accepts going.world (input_of moment payload) c d session' (Err e)
    none live step in
    let cause = caused_rose (cause_of e) done.plan (Rose c.faults d.faults) (Rose a.faults d.faults)
    done.events (rises a c d going.later) done.comes in
    served_with accepts settings moment payloads rest all payload a c d session session' (Err e)
    (Err e) going done done.comes (done.plan, done.owes, cause) is (λ h. cc)
stopped_by accepts settings moment payloads rest all payload a c d session session' e notices none
    going live (inr (f, same, step)) is =
    let plan : step.plan ≡ Finish (Goes going.world) = rw none at step.owes in
    let nothing = caused_none (cause_of e) step.plan (Goes going.world) (Rose c.faults d.faults)
    step.events plan step.comes in
    served_none accepts settings payloads (payload ∷ rest) all a c d session (Err e) going
    (sym (append_assoc payloads (payload ∷ []) rest) ∙ is) (λ h. cc)
    (ends_before accepts going.world step.plan (Rose c.faults d.faults) (Rose a.faults d.faults)
    step.events e plan (rises a c d going.later) step.comes) step.later
    (subst (λ l. ToldBy (may_stop {T = Flow} (Err e)) c.calls d.calls (calls_in l)) nothing
    step.called)
    (subst (λ l. Adds c.steps d.steps (steps_in l)) nothing step.stepped)
    (subst (λ l. Adds c.trace d.trace (told_in l)) nothing step.told)

pub stopped : {E F : Type 0} (accepts : Acceptance) (settings : Settings) (moment : ℕ)
    (payloads rest all : List (List ℕ)) (payload : List ℕ) (a c d : Told E F)
    (session session' : Session) (e : RunError E F) → Going accepts settings payloads a c session
    → ((w : World) → Refines session w → w.settings ≡ settings → StepsAfter (untold session) accepts w
    (input_of moment payload) c d session' (Err e))
    → (payloads ++ payload ∷ []) ++ rest ≡ all → Served accepts settings all a d (Err e)
stopped accepts settings moment payloads rest all payload a c d session session' e going taken is =
    stopped_by accepts settings moment payloads rest all payload a c d session session' e
    (untold session) going.all_told going
    (run_live accepts (opening_world settings) going.turns going.world going.run refl)
    (taken going.world going.refines going.set) is

-- it could not begin
pub not_begun : (E F : Type 0) (accepts : Acceptance) (settings : Settings)
    (payloads : List (List ℕ)) (a : Told E F)
    → Served accepts settings payloads a a (Err error.NoMemory)
not_begun E F accepts settings payloads a =
    let none : Option (Turn E F) = None in
    let end : Result (Unit {0}) (RunError E F) = Err error.NoMemory in
    served accepts settings payloads a a (Err error.NoMemory) [] (opening_world settings) none
    (map Payload payloads) 0 ⊥ end refl (omega arith) refl (λ h. absurd (cc)) tt (omega arith)
    (told_none false a.calls) (adds_nil a.steps) (adds_nil a.trace)
