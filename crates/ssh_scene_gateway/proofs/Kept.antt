-- What was kept of a gateway that served a scene is what is owed.
use Rattle.std.proofs.Common.{◌≡◌, ◌<◌, ℕ, List, [], ◌∷◌, ◌++◌, length, Option, Some, None}
use Rattle.std.proofs.Common.{Ok, Err, Bool, true, false, arith, refl, sym, ◌∙◌, ap, subst}
use Rattle.std.proofs.Common.{inl, inr, append-nil}
use Rattle.std.specs.Prelude.{flat_map, option_to_list}
use Rattle.std.proofs.lemmas.Grind.{flat_map-append}
use Rattle.ssh_link.specs.Told.{Adds}
use Rattle.ssh_link.specs.declared.frame.Input.{Input}
use Rattle.ssh_link.specs.declared.kex.KexCall.{KexCall}
use Rattle.ssh_link.specs.declared.link.TraceEntry.{TraceEntry}
use Rattle.ssh_link.specs.declared.plain_kex.PlainKexError.{PlainKexError}
use Rattle.ssh_link.specs.Supply.{left_until}
use Rattle.ssh_link.proofs.Tellings.{adds_both, adds_nil}
use Rattle.ssh_auth.specs.declared.call.Call.{Call}
use Rattle.ssh_auth.specs.declared.question.Question.{Question}
use Rattle.ssh_auth.specs.Plan.{Plan, Finish, Ask, Answer, Event, Reaches, calls_in}
use Rattle.ssh_auth.specs.Publickey.{Acceptance}
use Rattle.ssh_handler.specs.OwnCalls.{own_calls}
use Rattle.ssh_handler.specs.declared.recorded.RecordError.{RecordError}
use Rattle.ssh_rules.specs.declared.error.RunError.{RunError}
use Rattle.ssh_rules.specs.declared.error.RunError.TheVariants as run
use Rattle.ssh_rules.specs.Cause.{Cause, Wants_memory, Link_failed, Limit_reached, Faulty}
use Rattle.ssh_rules.specs.Cause.{Refused_by, Broken_by, IsCaused, cause_of}
use Rattle.ssh_rules.specs.Outcome.{Outcome, Goes, Fails, Fault}
use Rattle.ssh_rules.specs.Run.{Owes, steps_of}
use Rattle.ssh_rules.specs.World.{World, settings_of, opening_world}
use Rattle.ssh_gateway.specs.declared.error.GatewayError.TheVariants as error
use Rattle.ssh_gateway.specs.declared.targets.TargetCall.{TargetCall}
use Rattle.ssh_gateway.specs.Admitting.{admissions, TellsAdmissions}
use Rattle.ssh_gateway.specs.Answering.{answered, of_authentication}
use Rattle.ssh_gateway.specs.Board.{Board, opening_board}
use Rattle.ssh_gateway.specs.Gateway.{Gatewayed, Attended}
use Rattle.ssh_gateway.specs.Raised.{lowered}
use Rattle.ssh_gateway.specs.Serving.{Outside, IsBroken, OwesOrNothing, UnlessSilenced}
use Rattle.ssh_gateway.specs.Serving.{last_events, last_questions}
use Rattle.ssh_gateway.specs.Turns.{Rounds, link_entries, target_calls}
use Rattle.ssh_scene.specs.Queues.{Queues}
use Rattle.ssh_players.specs.Exchanged.{IsExchanged}
use Rattle.ssh_players.specs.Given.{as_given, trace_of}
use Rattle.ssh_players.specs.Played.{Failure, IsAnswered, heading, played}
use Rattle.ssh_players.specs.Played.{told_of as handler_told}
use Rattle.ssh_players.proofs.Keeping.{stepped_is, traced_is, given_same}
use Rattle.ssh_scene_gateway.specs.declared.targets.ScriptHost.{ScriptHost}
use Rattle.ssh_scene_gateway.specs.Forwarding.{ScriptRound, Ending, status_of, Closes, IsForwarded}
use Rattle.ssh_scene_gateway.specs.Forwarding.{gateway_settings, gateway_accepts, gateway_permits}
use Rattle.ssh_scene_gateway.specs.GatewayScene.{GatewayScene}
use Rattle.ssh_scene_gateway.specs.Reaching.{untouched, told_of}
use Rattle.ssh_scene_gateway.specs.Reaching.{as_given as calls_given}
use Rattle.ssh_scene_gateway.specs.Telling.{told_text}
use Rattle.ssh_scene_gateway.proofs.Admitted.{admitted_so}
use Rattle.ssh_scene_gateway.proofs.Alike.{raised}
use Rattle.ssh_scene_gateway.proofs.Reached.{reached_is}

-- an event of a turn, why it was not finished, and the error of a gateway's run
abbrev KeeperEvent : Type 0
KeeperEvent = Event (RecordError Failure) PlainKexError

abbrev KeeperError : Type 0
KeeperError = RunError (RecordError Failure) PlainKexError

abbrev KeeperCause : Type 0
KeeperCause = Cause (RecordError Failure) PlainKexError

abbrev ScriptRunError : Type 0
ScriptRunError = RunError Failure PlainKexError

-- memory that was wanting is no error of an input
not_run : (why : KeeperError) (e : ScriptRunError) → error.Run e ≡ lowered why
    → cause_of why ≡ Wants_memory → ⊥
not_run run.NoMemory e is caused = cc
not_run run.LinkFault e is caused = cc
not_run run.InputLimit e is caused = cc
not_run (run.Encoding why) e is caused = cc
not_run run.Inconsistent e is caused = cc
not_run run.Pending e is caused = cc
not_run (run.Key why) e is caused = cc
not_run run.UnsupportedAuthMethod e is caused = cc
not_run (run.Handler failure) e is caused = cc
not_run (run.Kex failure) e is caused = cc
not_run run.ChannelsFull e is caused = cc
not_run run.KeepaliveTimeout e is caused = cc
not_run run.InactivityTimeout e is caused = cc

-- ---- an outside without faults

no_way : (fault : Fault) (w : World) (events : List KeeperEvent)
    → Reaches (Finish (Goes w)) events (Finish (Fails fault)) → ⊥
no_way fault w [] e = cc
no_way fault w (event ∷ events) e = e

no_question : (question : Question) (next : Answer question → Plan Outcome) (w : World)
    (events : List KeeperEvent) → Reaches (Finish (Goes w)) events (Ask question next) → ⊥
no_question question next w [] e = cc
no_question question next w (event ∷ events) e = e

module _ (rose : Type 0) (never : rose → ⊥) where
  -- a plan that was not looked at has no cause but want of memory
  unlooked : (cause : KeeperCause) (w : World) (events : List KeeperEvent)
      → IsCaused cause (Finish (Goes w)) rose events → cause ≡ Wants_memory
  unlooked Wants_memory w events c = refl
  unlooked Link_failed w events c = absurd (never c.0)
  unlooked Limit_reached w events c = absurd c
  unlooked (Faulty fault) w events c = absurd (no_way fault w events c)
  unlooked (Refused_by e) w events c = absurd (no_question c.question c.next w c.before c.reaches)
  unlooked (Broken_by e) w events c = absurd (no_question c.question c.next w c.before c.reaches)

  -- nor does an input that was end by a fault of the link
  caused_so : (cause : KeeperCause) (plan : Plan Outcome) (events : List KeeperEvent)
      → IsCaused cause plan rose events → IsCaused cause plan ⊥ events
  caused_so Wants_memory plan events c = c
  caused_so Link_failed plan events c = absurd (never c.0)
  caused_so Limit_reached plan events c = c
  caused_so (Faulty fault) plan events c = c
  caused_so (Refused_by e) plan events c = c
  caused_so (Broken_by e) plan events c = c

  -- so an input that was not finished owes what was begun
  owed_so : (accepts : Acceptance) (w : World) (input : Input) (plan : Plan Outcome)
      (why : KeeperError) (e : ScriptRunError) (events : List KeeperEvent)
      → OwesOrNothing accepts w input plan → error.Run e ≡ lowered why
      → IsCaused (cause_of why) plan rose events → Owes accepts w input plan
  owed_so accepts w input plan why e events (inl owes) is c = owes
  owed_so accepts w input plan why e events (inr none) is c = absurd (not_run why e is
      (unlooked (cause_of why) w events
      (subst (λ p. IsCaused (cause_of why) p rose events) none c)))

-- ---- what was told

-- what two parts add, one behind the other
both_told : {A B : Type 0} (f : A → List B) (xs : List A) (last : Option A)
    (before between after : Option (List B)) → Adds before between (flat_map f xs)
    → Adds between after (flat_map f (option_to_list last))
    → Adds before after (flat_map f (xs ++ option_to_list last))
both_told f xs last before between after h k =
    subst (Adds before after) (sym (flat_map-append f xs (option_to_list last)))
    (adds_both before between after (flat_map f xs) (flat_map f (option_to_list last)) h k)

one_more : {A B : Type 0} (f : A → List B) (x : A) (before after : Option (List B))
    → Adds before after (f x) → Adds before after (flat_map f (x ∷ []))
one_more f x before after h = subst (Adds before after) (sym (append-nil (f x))) h

-- ---- the handler of authentication

told_so : (lost : Bool) (queues queues' : Queues) (all : List Question)
    (made : List (Call Failure)) → lost ≡ false
    → TellsAdmissions (heading queues) (handler_told lost queues' all) made
    → IsAnswered queues made
told_so true queues queues' all made fine h = absurd (let z : true ≡ false = fine in cc)
told_so false queues queues' all made fine h =
    let e : Some h.0 ≡ Some (heading queues' ++ played queues' all) = sym h.1 in
    let same : h.0 ≡ heading queues' ++ played queues' all = cc in
    admitted_so queues queues' all made (ap of_authentication (sym same) ∙ h.2)

not_silent : (lost : Bool) (queues : Queues) (all : List Question) → lost ≡ false
    → handler_told lost queues all ≡ None → ⊥
not_silent true queues all fine none = let z : true ≡ false = fine in cc
not_silent false queues all fine none = cc

-- ---- the whole

-- what the handler of authentication was asked in a turn, and the exchange of keys
abbrev admitted_in : ScriptRound → List (Call Failure)
admitted_in round = admissions round.turn.events

abbrev steps_in_round : ScriptRound → List (KexCall PlainKexError)
steps_in_round round = steps_of round.turn

not_fault : (e : ScriptRunError) → raised e ≡ error.TargetFault
    → ⊥
not_fault e is = cc

-- what a script's handler, exchange, link and targets have told
abbrev outside_of : (steps : List (KexCall PlainKexError)) → (trace : Option (List TraceEntry))
    → (calls : Option (List TargetCall)) → Outside PlainKexError
outside_of steps trace calls = record {
  beneath = record { steps = Some steps; trace = trace; faults = 0 };
  targets = calls;
  target_faults = 0;
}

-- what was kept: of the handler, the exchange, the link and the targets, before the run and after it
pub record Players (scene : GatewayScene) (calls' : List TargetCall) (trace' : List TraceEntry)
    : Type 0 where
  pub lost : Bool
  pub queues : Queues
  pub asked : List Question
  pub steps : List (KexCall PlainKexError)
  pub inputs : List Input
  pub moment : ℕ
  pub missed : Bool
  pub hosts : List ScriptHost
  pub told : lost ≡ false
  pub exchanged : IsExchanged false steps
  pub given : as_given (left_until moment inputs) trace' ≡ trace'
  pub kept : missed ≡ false
  pub reached : missed ≡ false → calls_given (untouched hosts) calls' ≡ calls'

abbrev at_first : GatewayScene → Outside PlainKexError
at_first scene = outside_of [] (trace_of scene.session.inputs scene.session.moment [])
    (told_of false scene.hosts [])

abbrev at_last : (scene : GatewayScene) (calls' : List TargetCall) (trace' : List TraceEntry)
    → Players scene calls' trace' → Outside PlainKexError
at_last scene calls' trace' p = outside_of p.steps (trace_of p.inputs p.moment trace')
    (told_of p.missed p.hosts calls')

-- these turns were finished, and this was the last one
as_owed : (scene : GatewayScene) (calls' : List TargetCall) (trace' : List TraceEntry)
    (p : Players scene calls' trace') (rounds : List ScriptRound) (board : Board) (world : World)
    (run : Rounds (gateway_accepts scene) (gateway_permits scene) opening_board
    (opening_world (gateway_settings scene)) rounds board world)
    (last : Option ScriptRound) (result : Ending) (status : ℕ) (text : List ℕ)
    → Closes (gateway_accepts scene) (gateway_permits scene) board world (length rounds)
    scene.session.max_inputs last result
    → IsAnswered scene.session.queues
    (flat_map admitted_in (rounds ++ option_to_list last))
    → Adds (Some []) (Some p.steps)
    (flat_map steps_in_round (rounds ++ option_to_list last))
    → Adds (trace_of scene.session.inputs scene.session.moment [])
    (trace_of p.inputs p.moment trace') (flat_map link_entries (rounds ++ option_to_list last))
    → Adds (told_of false scene.hosts []) (told_of p.missed p.hosts calls')
    (flat_map target_calls (rounds ++ option_to_list last))
    → status_of result ≡ Some status → text ≡ told_text trace' calls' result
    → IsForwarded scene status text
as_owed scene calls' trace' p rounds board world run last result status text closes answered steps
    entries targets is texts =
    let all = rounds ++ option_to_list last in
    let t = traced_is scene.session.inputs p.inputs scene.session.moment p.moment [] trace'
    (flat_map link_entries all) refl entries in
    let r = reached_is p.missed scene.hosts p.hosts [] calls' (flat_map target_calls all) p.kept refl
    p.reached targets in
    record {
      rounds = rounds;
      board = board;
      world = world;
      run = run;
      last = last;
      result = result;
      closes = closes;
      answered = answered;
      exchanged = subst (IsExchanged false) (stepped_is [] p.steps
          (flat_map steps_in_round all) refl steps) p.exchanged;
      given = given_same scene.session.inputs p.inputs scene.session.moment p.moment trace'
          (flat_map link_entries all) t.0 t.1 t.2 p.given;
      reached = r.0;
      status_is = is;
      text_is = texts ∙ ap (λ l. told_text l calls' result) t.2
          ∙ ap (λ l. told_text (flat_map link_entries all) l result) r.1;
    }

no_status : (status : ℕ) → None ≡ Some status → ⊥
no_status status e = cc

told_more : (scene : GatewayScene) (lost : Bool) (queues : Queues) (asked : List Question)
    (rounds : List ScriptRound) (round : ScriptRound) → lost ≡ false
    → TellsAdmissions (heading scene.session.queues) (handler_told lost queues asked)
    (flat_map admitted_in rounds ++ admissions round.turn.events)
    → IsAnswered scene.session.queues (flat_map admitted_in (rounds ++ round ∷ []))
told_more scene lost queues asked rounds round fine h =
    subst (IsAnswered scene.session.queues)
    (sym (flat_map-append admitted_in rounds (round ∷ [])
    ∙ ap (λ l. flat_map admitted_in rounds ++ l) (append-nil (admissions round.turn.events))))
    (told_so lost scene.session.queues queues asked _ fine h)

unsilenced : (e : ScriptRunError) (Silent P : Type 0) → (Silent → ⊥)
    → UnlessSilenced (raised e) Silent P → P
unsilenced (run.Handler e) Silent P loud (inl silent) = absurd (loud silent)
unsilenced (run.Handler e) Silent P loud (inr h) = h
unsilenced why Silent P loud h = h

no_fault : (faults : ℕ) → faults < 0 → ⊥
no_fault faults rose = absurd (omega (arith, rose))

-- the last turn was not finished
stopped : (scene : GatewayScene) (calls' : List TargetCall) (trace' : List TraceEntry)
    (p : Players scene calls' trace') (Silent : Type 0) (e : ScriptRunError) (status : ℕ)
    (text : List ℕ) (g : Gatewayed (gateway_accepts scene) (gateway_permits scene)
    (gateway_settings scene) scene.session.max_inputs (at_first scene)
    (at_last scene calls' trace' p) (Err (error.Run e)))
    (broken : IsBroken (gateway_accepts scene) (gateway_permits scene) g.board g.world g.between
    (at_last scene calls' trace' p) (error.Run e)) → (Silent → ⊥)
    → length g.rounds < scene.session.max_inputs
    → UnlessSilenced (raised e) Silent
    (TellsAdmissions (heading scene.session.queues) (handler_told p.lost p.queues p.asked)
    (flat_map admitted_in g.rounds ++ admissions (last_events (gateway_accepts scene)
    (gateway_permits scene) g.board g.world g.between (at_last scene calls' trace' p)
    (error.Run e) broken)))
    → UnlessSilenced (raised e) Silent
    (own_calls (calls_in (last_events (gateway_accepts scene) (gateway_permits scene) g.board g.world
    g.between (at_last scene calls' trace' p) (error.Run e) broken))
    ≡ flat_map answered (last_questions (gateway_accepts scene) (gateway_permits scene) g.board
    g.world g.between (at_last scene calls' trace' p) (error.Run e) broken))
    → status_of (Err (raised e)) ≡ Some status
    → text ≡ told_text trace' calls' (Err (raised e))
    → IsForwarded scene status text
stopped scene calls' trace' p Silent e status text g (inl none) loud few told own is texts =
    absurd (not_fault e none.0)
stopped scene calls' trace' p Silent e status text g (inr (inl none)) loud few told own is texts =
    absurd (no_fault g.between.beneath.faults none.1)
stopped scene calls' trace' p Silent e status text g (inr (inr (inl none))) loud few told own is
    texts =
    let round = none.round in
    as_owed scene calls' trace' p g.rounds g.board g.world g.run (Some round) (Err (error.Run e))
    status text (
      few,
      record {
        begins = none.begins;
        nothing = none.nothing;
        plan = none.plan;
        owes = owed_so (g.between.beneath.faults < 0) (no_fault g.between.beneath.faults)
            (gateway_accepts scene) g.world round.turn.input none.plan none.why e round.turn.events
            none.owes none.is none.caused;
        why = none.why;
        is = none.is;
        caused = caused_so (g.between.beneath.faults < 0) (no_fault g.between.beneath.faults)
            (cause_of none.why) none.plan round.turn.events none.caused;
        answered = unsilenced e Silent _ loud own;
      },
    )
    (told_more scene p.lost p.queues p.asked g.rounds round p.told (unsilenced e Silent _ loud told))
    (both_told steps_in_round g.rounds (Some round) (at_first scene).beneath.steps g.between.beneath.steps
    (Some p.steps) g.stepped
    (one_more steps_in_round round _ _ none.told.0))
    (both_told link_entries g.rounds (Some round) (at_first scene).beneath.trace g.between.beneath.trace
    (trace_of p.inputs p.moment trace') g.linked
    (one_more link_entries round _ _ none.told.1))
    (both_told target_calls g.rounds (Some round) (at_first scene).targets g.between.targets
    (told_of p.missed p.hosts calls') g.asked
    (one_more target_calls round _ _ none.told.2))
    is texts
stopped scene calls' trace' p Silent e status text g (inr (inr (inr none))) loud few told own is
    texts = absurd (not_fault e none.0)

-- a gateway over these that was attended so served the scene
pub forwarded : (scene : GatewayScene) (calls' : List TargetCall) (trace' : List TraceEntry)
    (p : Players scene calls' trace') (Silent : Type 0) (result : Ending) (status : ℕ)
    (text : List ℕ) → (Silent → ⊥)
    → Attended (gateway_accepts scene) (gateway_permits scene) (gateway_settings scene)
    scene.session.max_inputs Silent
    (TellsAdmissions (heading scene.session.queues) (handler_told p.lost p.queues p.asked))
    (at_first scene) (at_last scene calls' trace' p) result
    → status_of result ≡ Some status → text ≡ told_text trace' calls' result
    → IsForwarded scene status text
forwarded scene calls' trace' p Silent (Ok done) status text loud h is texts =
    let g = h.whole in
    let round = g.ends.1.0 in
    let told = g.ends.1.3 in
    as_owed scene calls' trace' p g.rounds g.board g.world g.run (Some round) (Ok done) status text
    (g.ends.0, (g.ends.1.1, g.ends.1.2))
    (told_more scene p.lost p.queues p.asked g.rounds round p.told h.admitted)
    (both_told steps_in_round g.rounds (Some round) (at_first scene).beneath.steps g.between.beneath.steps
    (Some p.steps) g.stepped
    (one_more steps_in_round round _ _ told.0))
    (both_told link_entries g.rounds (Some round) (at_first scene).beneath.trace g.between.beneath.trace
    (trace_of p.inputs p.moment trace') g.linked
    (one_more link_entries round _ _ told.1))
    (both_told target_calls g.rounds (Some round) (at_first scene).targets g.between.targets
    (told_of p.missed p.hosts calls') g.asked
    (one_more target_calls round _ _ told.2))
    is texts
forwarded scene calls' trace' p Silent (Err error.TurnLimit) status text loud h is texts =
    let g = h.whole in
    let same = g.ends.1 in
    as_owed scene calls' trace' p g.rounds g.board g.world g.run None (Err error.TurnLimit) status text
    g.ends.0
    (subst (λ l. IsAnswered scene.session.queues (flat_map admitted_in l))
    (sym (append-nil g.rounds)) (subst (IsAnswered scene.session.queues)
    (append-nil (flat_map admitted_in g.rounds))
    (told_so p.lost scene.session.queues p.queues p.asked _ p.told h.admitted)))
    (both_told steps_in_round g.rounds None (at_first scene).beneath.steps g.between.beneath.steps
    (Some p.steps) g.stepped
    (subst (λ o. Adds g.between.beneath.steps o.beneath.steps []) (sym same)
    (adds_nil g.between.beneath.steps)))
    (both_told link_entries g.rounds None (at_first scene).beneath.trace g.between.beneath.trace
    (trace_of p.inputs p.moment trace') g.linked
    (subst (λ o. Adds g.between.beneath.trace o.beneath.trace []) (sym same)
    (adds_nil g.between.beneath.trace)))
    (both_told target_calls g.rounds None (at_first scene).targets g.between.targets
    (told_of p.missed p.hosts calls') g.asked
    (subst (λ o. Adds g.between.targets o.targets []) (sym same) (adds_nil g.between.targets)))
    is texts
forwarded scene calls' trace' p Silent (Err error.NoMemory) status text loud h is texts =
    absurd (no_status status is)
forwarded scene calls' trace' p Silent (Err error.TargetFault) status text loud h is texts =
    absurd (h.whole.complete refl refl tt)
forwarded scene calls' trace' p Silent (Err (error.Run e)) status text loud h is texts =
    stopped scene calls' trace' p Silent e status text h.whole h.whole.ends.1 loud h.whole.ends.0
    h.admitted h.answered is texts

-- a handler that was not called yet tells its answers alone
fresh_told : (lost : Bool) (queues : Queues) (asked : List Question) → lost ≡ false → asked ≡ []
    → handler_told lost queues asked ≡ Some (heading queues)
fresh_told lost queues asked fine none = ap (λ b. handler_told b queues asked) fine
    ∙ (ap (handler_told false queues) none ∙ ap Some (append-nil (heading queues)))

-- the same of players that begin so, and settings that are those of the scene
pub kept : (scene : GatewayScene) (calls' : List TargetCall) (trace' : List TraceEntry)
    (p : Players scene calls' trace') (result : Ending) (status : ℕ) (text : List ℕ)
    (lost : Bool) (queues : Queues) (asked : List Question) (steps : List (KexCall PlainKexError))
    (inputs : List Input) (moment : ℕ) (trace : List TraceEntry) (missed : Bool)
    (hosts : List ScriptHost) (calls : List TargetCall) (id : List ℕ) (repeatable : Bool)
    → lost ≡ false → queues ≡ scene.session.queues → asked ≡ [] → steps ≡ []
    → inputs ≡ scene.session.inputs → moment ≡ scene.session.moment → trace ≡ []
    → missed ≡ false → hosts ≡ scene.hosts → calls ≡ [] → id ≡ scene.session.session_id
    → repeatable ≡ true
    → ((first : List (Call Failure)) → handler_told lost queues asked ≡ Some first
    → Attended (gateway_accepts scene) (gateway_permits scene)
    (settings_of scene.session.config id [] repeatable) scene.session.max_inputs
    (handler_told p.lost p.queues p.asked ≡ None)
    (TellsAdmissions first (handler_told p.lost p.queues p.asked))
    (outside_of steps (trace_of inputs moment trace) (told_of missed hosts calls))
    (at_last scene calls' trace' p) result)
    → status_of result ≡ Some status → text ≡ told_text trace' calls' result
    → IsForwarded scene status text
kept scene calls' trace' p result status text lost queues asked steps inputs moment trace missed hosts
    calls id repeatable fine same none unstepped given_inputs given_moment untaken unmissed given_hosts
    uncalled named repeats attended is texts =
    let before : outside_of steps (trace_of inputs moment trace) (told_of missed hosts calls)
    ≡ at_first scene = λ i. outside_of (unstepped i)
    (trace_of (given_inputs i) (given_moment i) (untaken i))
    (told_of (unmissed i) (given_hosts i) (uncalled i)) in
    let settings : settings_of scene.session.config id [] repeatable ≡ gateway_settings scene =
    λ i. settings_of scene.session.config (named i) [] (repeats i) in
    let first : handler_told lost queues asked ≡ Some (heading scene.session.queues) =
    fresh_told lost queues asked fine none ∙ ap (λ q. Some (heading q)) same in
    forwarded scene calls' trace' p (handler_told p.lost p.queues p.asked ≡ None) result status text
    (not_silent p.lost p.queues p.asked p.told)
    (subst (λ s. Attended (gateway_accepts scene) (gateway_permits scene) s
    scene.session.max_inputs (handler_told p.lost p.queues p.asked ≡ None)
    (TellsAdmissions (heading scene.session.queues) (handler_told p.lost p.queues p.asked))
    (at_first scene) (at_last scene calls' trace' p) result) settings
    (subst (λ b. Attended (gateway_accepts scene) (gateway_permits scene)
    (settings_of scene.session.config id [] repeatable) scene.session.max_inputs
    (handler_told p.lost p.queues p.asked ≡ None)
    (TellsAdmissions (heading scene.session.queues) (handler_told p.lost p.queues p.asked)) b
    (at_last scene calls' trace' p) result) before
    (attended (heading scene.session.queues) first)))
    is texts
