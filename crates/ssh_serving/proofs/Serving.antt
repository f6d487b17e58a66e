-- What is served one after another.
use Rattle.std.proofs.Common.{◌≡◌, Bool, true, false, List, [], ◌∷◌, ◌++◌}
use Rattle.std.proofs.Common.{Option, Result, Ok, Err, refl, sym}
use Rattle.std.proofs.Common.{◌∙◌, ap, subst, arith}
use Rattle.std.specs.Result.{IsErrAnd}
use Rattle.std.proofs.lemmas.List.{append-nil}
use Rattle.std.proofs.lemmas.Result.{err_from_is_err_and}
use Rattle.ssh_wire.specs.declared.error.WireError.{WireError}
use Rattle.ssh_wire.specs.declared.error.WireError.TheVariants as wire
use Rattle.std.specs.Prelude.{OnOk, IfErr}
use Rattle.ssh_link.specs.Faults.{Rose}
use Rattle.ssh_link.specs.Told.{Adds, AddsOne, ToldBy}
use Rattle.ssh_link.proofs.Counts.{still_counted, counted_same, counted_both}
use Rattle.ssh_link.proofs.Tellings.{adds_both, adds_nil, adds_weak, adds_then, adds_none}
use Rattle.ssh_link.specs.declared.kex.KexCall.{KexCall}
use Rattle.ssh_link.specs.declared.kex.KexFault.{KexFault}
use Rattle.ssh_link.specs.declared.kex.KexFault.TheVariants as kex
use Rattle.ssh_link.specs.declared.link.LinkFault.{LinkFault as LinkFailure}
use Rattle.ssh_link.specs.declared.link.LinkFault.TheVariants as link
use Rattle.ssh_link.specs.declared.link.TraceEntry.{TraceEntry}
use Rattle.ssh_link.specs.declared.link.TraceEntry.TheVariants.{Noticed}
use Rattle.ssh_link.specs.declared.notice.Notice.{Notice}
use Rattle.ssh_auth.specs.declared.question.Question.{Question}
use Rattle.ssh_auth.specs.Plan.{Plan, Finish, Ask, Tell, after, Answer, Answered, Event, Called}
use Rattle.ssh_auth.specs.Plan.{Stepped, Told, Refused as Refuses}
use Rattle.ssh_auth.specs.Plan.{Handler_error, Exchange_error, calls_in, steps_in, told_in}
use Rattle.ssh_auth.specs.Plan.{Reaches}
use Rattle.ssh_auth.proofs.Plans.{reaches_both, reaches_begins, reaches_follows}
use Rattle.ssh_auth.proofs.Plans.{reaches_breaks}
use Rattle.ssh_auth.proofs.Plans.{breaks_first, calls_in_both, steps_in_both}
use Rattle.ssh_auth.proofs.Plans.{told_in_both}
use Rattle.ssh_rules.specs.declared.error.Flow.TheVariants.{Continue}
use Rattle.ssh_rules.specs.declared.error.RunError.{RunError}
use Rattle.ssh_rules.specs.declared.error.RunError.TheVariants as error
use Rattle.ssh_serving.specs.declared.server.Server.{Server}
use Rattle.ssh_rules.specs.World.{World}
use Rattle.ssh_rules.specs.Failure.{run_error_of, error_of_exchange, error_of_link}
use Rattle.ssh_rules.specs.Heard.{Heard, AreSame, AsksExchangeAlone, IsExchanged, Gives}
use Rattle.ssh_rules.specs.Outcome.{Outcome, Goes, Fails, Encoding}
use Rattle.ssh_rules.specs.Acts.{Act, acts}
use Rattle.ssh_rules.specs.Cause.{Cause, Wants_memory, Link_failed, Limit_reached}
use Rattle.ssh_serving.specs.Serve.{Refines}
use Rattle.ssh_rules.specs.Cause.{Faulty, Refused_by, Broken_by, cause_of}
use Rattle.ssh_rules.specs.Cause.{IsCaused, may_stop, Hears, Puts}
use Rattle.ssh_serving.specs.Serve.{ComesTo, Serves, Does, Turned}
use Rattle.ssh_serving.specs.Serve.{Completes}

-- ---- parts of plans

-- a cause after the events by which a plan came to a rest
caused_reached : {E F : Type 0} (cause : Cause E F) (plan mid : Plan Outcome) (rose : Type 0)
    (xs ys : List (Event E F)) →
    Reaches plan xs mid → IsCaused cause mid rose ys → IsCaused cause plan rose (xs ++ ys)
caused_reached Wants_memory plan mid rose xs ys r h = reaches_begins plan mid xs ys r h
caused_reached Link_failed plan mid rose xs ys r h = (h.0, reaches_begins plan mid xs ys r h.1)
caused_reached Limit_reached plan mid rose xs ys r h = absurd h
caused_reached (Faulty fault) plan mid rose xs ys r h = reaches_follows plan mid xs ys (Fails fault)
    r h
caused_reached (Refused_by e) plan mid rose xs ys r h = reaches_breaks plan mid xs ys
    (Handler_error e) r h
caused_reached (Broken_by e) plan mid rose xs ys r h = reaches_breaks plan mid xs ys
    (Exchange_error e) r h

pub answers_reached : {T E F : Type 0} (plan mid : Plan Outcome) (next : T → World → Plan Outcome)
    (rose : Type 0)
    (xs ys : List (Event E F)) (session : Server) (result : Result T (RunError E F)) →
    Reaches plan xs mid → ComesTo mid next rose ys session result → ComesTo plan next rose
    (xs ++ ys) session result
answers_reached plan mid next rose xs ys session (Ok value) r h =
    (h.0, reaches_both plan mid (next value h.0) xs ys r h.1, h.2)
answers_reached plan mid next rose xs ys session (Err e) r h = caused_reached (cause_of e) plan mid
    rose xs ys r h

-- a rise that began earlier
pub caused_rose : {E F : Type 0} (cause : Cause E F) (plan : Plan Outcome) (rose rose' : Type 0)
    (events : List (Event E F)) →
    (rose → rose') → IsCaused cause plan rose events → IsCaused cause plan rose' events
caused_rose Wants_memory plan rose rose' events f h = h
caused_rose Link_failed plan rose rose' events f h = (f h.0, h.1)
caused_rose Limit_reached plan rose rose' events f h = h
caused_rose (Faulty fault) plan rose rose' events f h = h
caused_rose (Refused_by e) plan rose rose' events f h = h
caused_rose (Broken_by e) plan rose rose' events f h = h

pub answers_rose : {T E F : Type 0} (plan : Plan Outcome) (next : T → World → Plan Outcome)
    (rose rose' : Type 0)
    (events : List (Event E F)) (session : Server) (result : Result T (RunError E F)) →
    (rose → rose') → ComesTo plan next rose events session result → ComesTo plan next rose' events
    session result
answers_rose plan next rose rose' events session (Ok value) f h = h
answers_rose plan next rose rose' events session (Err e) f h = caused_rose (cause_of e) plan rose
    rose' events f h

-- ---- what is told meanwhile

pub told_then : {A : Type 0} (stops : Bool) (a b c : Option (List A)) (xs ys : List A) → Adds a b xs
    → ToldBy stops b c ys →
    ToldBy stops a c (xs ++ ys)
told_then true a b c xs ys h k = adds_then a b c xs ys (adds_weak a b xs h) k
told_then false a b c xs ys h k = adds_both a b c xs ys h k

pub told_none : {A : Type 0} (stops : Bool) (a : Option (List A)) → ToldBy stops a a []
told_none true a = adds_none a
told_none false a = adds_nil a

-- the same three as before
pub same_as : {E F : Type 0} (a : Heard E F) → AreSame a a
same_as a = (refl, refl, refl, refl)

pub same_both : {E F : Type 0} (a b c : Heard E F) → AreSame a b → AreSame b c → AreSame a c
same_both a b c h k = (k.0 ∙ h.0, k.1 ∙ h.1, k.2 ∙ h.2, k.3 ∙ h.3)

pub hears_then : {E F : Type 0} (stops : Bool) (a b c : Heard E F) (xs ys : List (Event E F)) →
    Hears false a b xs → Hears stops b c ys → Hears stops a c (xs ++ ys)
hears_then stops a b c xs ys h k = record {
  called = subst (ToldBy stops a.calls c.calls) (sym (calls_in_both xs ys))
      (told_then stops a.calls b.calls c.calls (calls_in xs) (calls_in ys) h.called k.called);
  told = subst (Adds a.trace c.trace) (sym (told_in_both xs ys))
      (adds_both a.trace b.trace c.trace (told_in xs) (told_in ys) h.told k.told);
  later = let x = h.later in let y = k.later in omega (arith, x, y);
  counted = counted_both a.starved b.starved c.starved h.counted k.counted;
  stepped = subst (Adds a.steps c.steps) (sym (steps_in_both xs ys))
      (adds_both a.steps b.steps c.steps (steps_in xs) (steps_in ys) h.stepped k.stepped);
  same = same_both a b c h.same k.same;
}

pub hears_nothing : {E F : Type 0} (stops : Bool) (a : Heard E F) → Hears stops a a []
hears_nothing stops a = record {
  called = told_none stops a.calls;
  told = adds_nil a.trace;
  later = omega arith;
  counted = still_counted a.starved;
  stepped = adds_nil a.steps;
  same = same_as a;
}

-- ---- one part, and then the next

-- a plan has come to a rest, and from there on it was served
unfoldable pub reached : {T E F : Type 0} (plan mid : Plan Outcome) (next : T → World → Plan Outcome)
    (a b c : Heard E F)
    (xs : List (Event E F)) (session : Server) (result : Result T (RunError E F)) →
    Hears false a b xs → Reaches plan xs mid → Serves mid next b c session result
    → Serves plan next a c session result
reached plan mid next a b c xs session result h r k = (
  xs ++ k.0,
  hears_then (may_stop result) a b c xs k.0 h k.1,
  answers_reached plan mid next (Rose a.faults c.faults) xs k.0 session result r
      (answers_rose mid next (Rose b.faults c.faults) (Rose a.faults c.faults) k.0 session result
      (λ l. let x = h.later in omega (arith, x, l)) k.2),
)

-- one part was served, and then the next
unfoldable pub served_both : {T U E F : Type 0} (value : U) (plan : Plan Outcome) (mid : U → World
    → Plan Outcome)
    (next : T → World → Plan Outcome) (a b c : Heard E F) (session session' : Server)
    (result : Result T (RunError E F)) →
    Serves plan mid a b session (Ok value) →
    ((w : World) → Refines session w → Serves (mid value w) next b c session' result) →
    Serves plan next a c session' result
served_both value plan mid next a b c session session' result h k =
    reached plan (mid value h.2.0) next a b c h.0 session' result h.1 h.2.1 (k h.2.0 h.2.2)

-- an error says nothing of what would have followed
pub served_error : {T U E F : Type 0} (plan : Plan Outcome) (mid : U → World → Plan Outcome)
    (next : T → World → Plan Outcome)
    (a b : Heard E F) (session session' : Server) (e : RunError E F) →
    Serves {T = U} plan mid a b session (Err e) → Serves {T = T} plan next a b session' (Err e)
served_error plan mid next a b session session' e h = h

pub served_then_error : {T U V E F : Type 0} (value : U) (plan : Plan Outcome) (mid : U → World
    → Plan Outcome)
    (next : T → World → Plan Outcome) (a b c : Heard E F) (session session' : Server)
    (e : RunError E F) →
    Serves plan mid a b session (Ok value) → (after : World → V → World → Plan Outcome) →
    ((w : World) → Refines session w → Serves {T = V} (mid value w) (after w) b c session' (Err e))
    → Serves plan next a c session' (Err e)
served_then_error value plan mid next a b c session session' e h after k =
    served_both value plan mid next a b c session session' (Err e) h
    (λ w r. served_error (mid value w) (after w) next b c session' session' e (k w r))

-- nothing was told, and nothing is owed before what follows
pub serves_nothing : {T E F : Type 0} (value : T) (next : T → World → Plan Outcome) (a : Heard E F)
    (w : World) (session : Server) →
    Refines session w → Serves (next value w) next a a session (Ok value)
serves_nothing value next a w session r = ([], hears_nothing false a, (w, refl, r))

-- memory was wanting before anything was told
unfoldable pub starves : {T E F : Type 0} (plan : Plan Outcome) (next : T → World → Plan Outcome)
    (a : Heard E F)
    (session : Server) →
    Serves {T = T} plan next a a session (Err error.NoMemory)
starves plan next a session = ([], hears_nothing false a, (plan, refl))

-- what nobody was told or asked of
pub quiet : {T E F : Type 0} (plan : Plan Outcome) (next : T → World → Plan Outcome) (a : Heard E F)
    (session : Server)
    (result : Result T (RunError E F)) → ComesTo plan next ⊥ [] session result
    → Serves plan next a a
    session result
quiet plan next a session result h = (
  [],
  hears_nothing (may_stop result) a,
  answers_rose plan next ⊥ (Rose a.faults a.faults) [] session result (λ x. absurd x) h,
)

-- acts that nothing follows are the whole row
pub completes : {E F : Type 0} (now : List Act) (w : World) (a b : Heard E F) (session : Server)
    (result : Result (Unit {0}) (RunError E F)) → Does now w a b session result →
    Serves (acts now w) (λ (_ : Unit {0}) world. Finish (Goes world)) a b session result
completes now w a b session result h =
    subst (λ l. Serves (acts l w) (λ (_ : Unit {0}) world. Finish (Goes world)) a b session result)
    (append-nil now) (h [])

-- ---- the link

-- the link was given this
pub gives_hears : {E F : Type 0} (entry : TraceEntry) (a b : Heard E F) →
    Gives {T = Unit {0}} a b entry (Ok tt) → Hears false a b (Told entry ∷ [])
gives_hears entry a b h = record {
  called = subst (λ c. Adds a.calls c []) (sym h.0.1) (adds_nil a.calls);
  told = h.1;
  later = h.2;
  counted = h.3;
  stepped = subst (λ s. Adds a.steps s []) (sym h.0.2) (adds_nil a.steps);
  same = h.0.0;
}

-- .. or failed
pub fails_hears : {E F : Type 0} (entry : TraceEntry) (a b : Heard E F) (fault : LinkFailure) →
    Gives {T = Unit {0}} a b entry (Err fault) →
    Hears (may_stop {T = Unit {0}} {E = E} {F = F} (Err (error_of_link fault))) a b []
fails_hears entry a b link.Failed h = record {
  called = subst (λ c. Adds a.calls c []) (sym h.0.1) (adds_nil a.calls);
  told = h.1;
  later = let x = h.2 in omega (arith, x);
  counted = h.3;
  stepped = subst (λ s. Adds a.steps s []) (sym h.0.2) (adds_nil a.steps);
  same = h.0.0;
}
fails_hears entry a b link.NoMemory h = record {
  called = subst (λ c. Adds a.calls c []) (sym h.0.1) (adds_nil a.calls);
  told = h.1;
  later = h.2;
  counted = h.3;
  stepped = subst (λ s. Adds a.steps s []) (sym h.0.2) (adds_nil a.steps);
  same = h.0.0;
}

-- the link was given what the plan owes
pub given : {E F : Type 0} (entry : TraceEntry) (next : Plan Outcome) (a b : Heard E F) (w : World)
    (session : Server) →
    Refines session w → Gives {T = Unit {0}} a b entry (Ok tt) →
    Serves (Tell entry next) (λ (_ : Unit {0}) _. next) a b session (Ok tt)
given entry next a b w session r h =
    (Told entry ∷ [], gives_hears entry a b h, (w, (refl, refl), r))

-- .. or failed
pub not_given : {T E F : Type 0} (entry : TraceEntry) (plan : Plan Outcome) (next : T → World
    → Plan Outcome) (a b : Heard E F)
    (session : Server) (fault : LinkFailure) → Gives {T = Unit {0}} a b entry (Err fault) →
    Serves {T = T} plan next a b session (Err (error_of_link fault))
not_given entry plan next a b session link.Failed h =
    ([], fails_hears entry a b link.Failed h, (h.2, (plan, refl)))
not_given entry plan next a b session link.NoMemory h =
    ([], fails_hears entry a b link.NoMemory h, (plan, refl))

-- ---- the handler

-- it was asked what the plan asks
pub asked : {E F : Type 0} (question : Question) (answer : Answer question) (next : Answer question
    → Plan Outcome) (a b : Heard E F)
    (w : World) (session : Server) → Refines session w → Puts question a b (Ok answer) →
    Serves (Ask question next) (λ given _. next given) a b session (Ok answer)
asked question answer next a b w session r h = (
  Called h.0 ∷ [],
  record {
    called = h.2.1;
    told = subst (λ t. Adds a.trace t []) (sym h.2.0.2) (adds_nil a.trace);
    later = let x = h.2.0.3 in omega (arith, x);
    counted = counted_same a.starved b.starved h.2.0.4;
    stepped = subst (λ s. Adds a.steps s []) (sym h.2.0.1) (adds_nil a.steps);
    same = h.2.0.0;
  },
  (w, (answer, h.1, refl), r),
)

-- .. and answered an error
pub asked_in_vain : {T E F : Type 0} (question : Question) (next : Answer question → Plan Outcome)
    (later : T → World → Plan Outcome)
    (a b : Heard E F) (session : Server) (e : E) → Puts question a b (Err e) →
    Serves {T = T} (Ask question next) later a b session (Err (error.Handler e))
asked_in_vain question next later a b session e h = (
  Called h.0 ∷ [],
  record {
    called = h.2.1;
    told = subst (λ t. Adds a.trace t []) (sym h.2.0.2) (adds_nil a.trace);
    later = let x = h.2.0.3 in omega (arith, x);
    counted = counted_same a.starved b.starved h.2.0.4;
    stepped = subst (λ s. Adds a.steps s []) (sym h.2.0.1) (adds_nil a.steps);
    same = h.2.0.0;
  },
  breaks_first question next (Called h.0) (Handler_error e) h.1,
)

-- ---- the exchange of keys

-- it was asked what the plan asks
unfoldable pub exchange_asked : {E F : Type 0} (question : Question) (answer : Answer question)
    (next : Answer question → Plan Outcome) (call : KexCall F) (a b : Heard E F) (w : World)
    (session : Server) → Refines session w → AsksExchangeAlone a b →
    AddsOne a.steps b.steps call → Answered {E = E} {F = F} question answer (Stepped call) →
    Serves (Ask question next) (λ given _. next given) a b session (Ok answer)
exchange_asked question answer next call a b w session r alone added is = (
  Stepped call ∷ [],
  record {
    called = subst (λ c. Adds a.calls c []) (sym alone.1) (adds_nil a.calls);
    told = subst (λ t. Adds a.trace t []) (sym alone.2) (adds_nil a.trace);
    later = let x = alone.3 in omega (arith, x);
    counted = counted_same a.starved b.starved alone.4;
    stepped = added;
    same = alone.0;
  },
  (w, (answer, is, refl), r),
)

-- .. and answered an error, or had no memory
unfoldable pub exchange_failed : {T U E F : Type 0} (question : Question)
    (next : Answer question → Plan Outcome) (later : T → World → Plan Outcome)
    (call : Result U F → KexCall F) (a b : Heard E F) (session : Server) (fault : KexFault F) →
    IsExchanged a b call (Err fault) →
    ((e : F) → Refuses {E = E} {F = F} question (Exchange_error e) (Stepped (call (Err e)))) →
    Serves {T = T} (Ask question next) later a b session (Err (error_of_exchange fault))
exchange_failed question next later call a b session (kex.Refused e) h refused = (
  Stepped (call (Err e)) ∷ [],
  record {
    called = subst (λ c. Adds a.calls c []) (sym h.0.1) (adds_nil a.calls);
    told = subst (λ t. Adds a.trace t []) (sym h.0.2) (adds_nil a.trace);
    later = let x = h.0.3 in omega (arith, x);
    counted = counted_same a.starved b.starved h.0.4;
    stepped = h.1;
    same = h.0.0;
  },
  breaks_first question next (Stepped (call (Err e))) (Exchange_error e) (refused e),
)
exchange_failed question next later call a b session kex.NoMemory h refused = (
  [],
  record {
    called = subst (λ c. Adds a.calls c []) (sym h.0.1) (adds_nil a.calls);
    told = subst (λ t. Adds a.trace t []) (sym h.0.2) (adds_nil a.trace);
    later = let x = h.0.3 in omega (arith, x);
    counted = counted_same a.starved b.starved h.0.4;
    stepped = h.1;
    same = h.0.0;
  },
  (Ask question next, refl),
)

-- ---- rows

-- acts that nothing follows are the whole row, and the run goes on
pub goes_on : {E F : Type 0} (now : List Act) (w : World) (a b : Heard E F) (session : Server)
    → Does now w a b session (Ok tt) →
    Completes (acts now w) a b session (Ok Continue)
goes_on now w a b session h = completes now w a b session (Ok tt) h

-- .. or they fail
pub stops_short : {E F : Type 0} (now : List Act) (w : World) (a b : Heard E F)
    (session session' : Server) (e : RunError E F) →
    Does now w a b session (Err e) → Completes (acts now w) a b session' (Err e)
stops_short now w a b session session' e h = completes now w a b session (Err e) h

-- the same of a plan
pub goes_on_plan : {E F : Type 0} (plan : Plan Outcome) (a b : Heard E F) (session : Server) →
    Serves plan (λ (_ : Unit {0}) world. Finish (Goes world)) a b session (Ok tt)
    → Completes plan a b session (Ok Continue)
goes_on_plan plan a b session h = h

-- fields that do not fit fail the input
pub unfit : {T E F : Type 0} (why : WireError) (next : T → World → Plan Outcome) (a : Heard E F)
    (session : Server) →
    Serves {T = T} {E = E} {F = F} (Finish (Fails (Encoding why))) next a a session
    (Err (run_error_of why))
unfit wire.NoMemory next a session = starves (Finish (Fails (Encoding wire.NoMemory))) next a
    session
unfit wire.Short next a session = ([], hears_nothing false a, refl)
unfit wire.NotUtf8 next a session = ([], hears_nothing false a, refl)
unfit (wire.Trailing left) next a session = ([], hears_nothing false a, refl)
unfit wire.TooLong next a session = ([], hears_nothing false a, refl)

-- .. and nobody was told or asked anything
unfit_at : {T : Type 0} (E F : Type 0) (why : WireError) (next : T → World → Plan Outcome)
    (session : Server) →
    ComesTo {T = T} {E = E} {F = F} (Finish (Fails (Encoding why))) next ⊥ [] session
    (Err (run_error_of why))
unfit_at E F wire.NoMemory next session = (Finish (Fails (Encoding wire.NoMemory)), refl)
unfit_at E F wire.Short next session = refl
unfit_at E F wire.NotUtf8 next session = refl
unfit_at E F (wire.Trailing left) next session = refl
unfit_at E F wire.TooLong next session = refl

pub unfit_quietly : {T E F : Type 0} (why : WireError) (next : T → World → Plan Outcome)
    (session : Server) (e : RunError E F) (result : Result T (RunError E F)) →
    IsErrAnd result (λ x. x ≡ e) → e ≡ run_error_of why →
    ComesTo {T = T} (Finish (Fails (Encoding why))) next ⊥ [] session result
unfit_quietly {T} {E} {F} why next session e result h is =
    let p = err_from_is_err_and result h in
    subst (λ r. ComesTo {T = T} (Finish (Fails (Encoding why))) next ⊥ [] session r)
    (sym (p.1 ∙ ap Err (p.2 ∙ is))) (unfit_at E F why next session)

-- nobody was told or asked anything
pub turned : {E F : Type 0} (now : List Act) (w : World) (a : Heard E F) (session : Server)
    (result : Result (Unit {0}) (RunError E F)) →
    Turned now w session result → Does now w a a session result
turned now w a session result h =
    λ later. quiet (acts (now ++ later) w) (λ (_ : Unit {0}). acts later) a session result (h later)

-- ---- what follows does not matter, or it does

pub settled : {T E F : Type 0} (value : T) (plan : Plan Outcome) (rest : T → World → Plan Outcome)
    (a b : Heard E F) (world : World)
    (session : Server) → Refines session world → Serves plan (λ (_ : Unit {0}) _. rest value world)
    a b session (Ok tt) →
    Serves plan rest a b session (Ok value)
settled value plan rest a b world session r h = (h.0, h.1, (world, h.2.1, r))

pub settled_by : {E F : Type 0} (plan : Plan Outcome) (rest : World → Plan Outcome)
    (a b : Heard E F)
    (world : World) (session : Server)
    (result : Result (Unit {0}) (RunError E F)) → Refines session world →
    Serves plan (λ (_ : Unit {0}) _. rest world) a b session result
    → Serves plan (λ (_ : Unit {0}) v. rest v) a b session result
settled_by plan rest a b world session (Ok tt) r h = settled tt plan (λ _ v. rest v) a b world
    session r h
settled_by plan rest a b world session (Err e) r h = h

-- a part of which a value is known
pub of_value : {T E F : Type 0} (value : T) (plan : Plan Outcome) (next : T → World → Plan Outcome)
    (a b : Heard E F) (session : Server) → Serves plan (λ (_ : Unit {0}). next value) a b session
    (Ok tt) → Serves plan next a b session (Ok value)
of_value value plan next a b session h = h

-- ---- an error of a part is passed on

pub passed : {T U E F : Type 0} (plan : Plan Outcome) (mid : U → World → Plan Outcome)
    (next : T → World → Plan Outcome) (a b : Heard E F)
    (session session' : Server) (e : RunError E F) (result : Result T (RunError E F))
    → IsErrAnd result (λ x. x ≡ e) →
    Serves {T = U} plan mid a b session (Err e) → Serves {T = T} plan next a b session' result
passed {T} plan mid next a b session session' e result h k =
    let p = err_from_is_err_and result h in
    subst (λ r. Serves {T = T} plan next a b session' r) (sym (p.1 ∙ ap Err p.2)) k

-- a notice was not told
pub not_noticed : {E F : Type 0} (notice : Notice) (next : Plan Outcome) (a b : Heard E F)
    (session : Server) (fault : LinkFailure) (result : Result (Unit {0}) (RunError E F)) →
    IsErrAnd result (λ e. e ≡ error_of_link fault) →
    Gives {T = Unit {0}} a b (Noticed notice) (Err fault) →
    Serves (Tell (Noticed notice) next) (λ (_ : Unit {0}) _. next) a b session result
not_noticed notice next a b session fault result is h =
    let plan = Tell (Noticed notice) next in
    passed {U = Unit {0}} plan (λ _ _. next) (λ (_ : Unit {0}) _. next) a b session session _ result is
    (not_given (Noticed notice) plan (λ (_ : Unit {0}) _. next) a b session fault h)

-- an error of a part is that of the whole, after a part that was served
pub passed_later : {T U V E F : Type 0} (value : U) (plan : Plan Outcome) (mid : U → World
    → Plan Outcome) (next : T → World → Plan Outcome)
    (later : World → V → World → Plan Outcome) (a b c : Heard E F)
    (session session' session'' : Server) (e : RunError E F)
    (result : Result T (RunError E F)) → IsErrAnd result (λ x. x ≡ e) → Serves plan mid a b session
    (Ok value) →
    ((w : World) → Refines session w → Serves {T = V} (mid value w) (later w) b c session' (Err e))
    → Serves {T = T} plan next a c session'' result
passed_later {T} value plan mid next later a b c session session' session'' e result h k l =
    let p = err_from_is_err_and result h in
    subst (λ r. Serves {T = T} plan next a c session'' r) (sym (p.1 ∙ ap Err p.2))
    (served_both value plan mid next a b c session session'' (Err e) k (λ w r. l w r))

-- memory was wanting
pub starved : {T E F : Type 0} (plan : Plan Outcome) (next : T → World → Plan Outcome)
    (a : Heard E F)
    (session : Server)
    (e : RunError E F) (result : Result T (RunError E F)) → IsErrAnd result (λ x. x ≡ e) → e
    ≡ error.NoMemory →
    Serves {T = T} plan next a a session result
starved {T} plan next a session e result h is =
    let p = err_from_is_err_and result h in
    subst (λ r. Serves {T = T} plan next a a session r) (sym (p.1 ∙ ap Err (p.2 ∙ is)))
    (starves plan next a session)

-- the world turned, or memory was wanting, and nobody was told or asked anything
pub turned_quietly : {E F : Type 0} (later : World → Plan Outcome) (world : World)
    (session : Server) (result : Result (Unit {0}) (RunError E F)) →
    OnOk result (Refines session world) → IfErr result (λ e. e ≡ error.NoMemory) →
    ComesTo (later world) (λ (_ : Unit {0}). later) ⊥ [] session result
turned_quietly later world session (Ok tt) r memory = (world, refl, r)
turned_quietly {E} {F} later world session (Err e) r memory =
    subst (λ x. ComesTo {E = E} {F = F} (later world)
    (λ (_ : Unit {0}). later) ⊥ [] session (Err x))
    (sym memory) (later world, refl)

pub turns_quietly : {E F : Type 0} (later : World → Plan Outcome) (world : World) (a : Heard E F)
    (session : Server) (result : Result (Unit {0}) (RunError E F)) →
    OnOk result (Refines session world) → IfErr result (λ e. e ≡ error.NoMemory) →
    Serves (later world) (λ (_ : Unit {0}). later) a a session result
turns_quietly later world a session result r memory =
    quiet (later world) (λ (_ : Unit {0}). later) a session result
    (turned_quietly later world session result r memory)

-- .. and nobody was told or asked anything
pub starved_quietly : {T E F : Type 0} (plan : Plan Outcome) (next : T → World → Plan Outcome)
    (session : Server) (e : RunError E F)
    (result : Result T (RunError E F)) → IsErrAnd result (λ x. x ≡ e) → e ≡ error.NoMemory →
    ComesTo {T = T} plan next ⊥ [] session result
starved_quietly {T} plan next session e result h is =
    let p = err_from_is_err_and result h in
    subst (λ r. ComesTo {T = T} plan next ⊥ [] session r) (sym (p.1 ∙ ap Err (p.2 ∙ is))) (
      plan,
      refl,
    )
