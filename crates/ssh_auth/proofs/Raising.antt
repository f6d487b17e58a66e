-- The events of a plan that asks a handler alone, as those of a session that has an exchange too.
use Rattle.std.proofs.Common.{◌≡◌, List, [], ◌∷◌, map, Ok, Err, refl, sym, ◌∙◌, ap, subst}
use Rattle.std.proofs.lemmas.List.{map-append}
use Rattle.ssh_link.specs.declared.kex.KexCall.{KexCall}
use Rattle.ssh_link.specs.declared.kex.KexCall.TheVariants as kex
use Rattle.ssh_auth.specs.declared.call.Call.{Call}
use Rattle.ssh_auth.specs.declared.question.Question.{Question}
use Rattle.ssh_auth.specs.declared.question.Question.TheVariants as asked
use Rattle.ssh_auth.specs.Plan.{Answer, Refused, Handler_error, Plan, Finish, Ask, Tell, Event}
use Rattle.ssh_auth.specs.Plan.{Called, Stepped, Told, answered, Reaches, Follows, Begins, Breaks}
use Rattle.ssh_auth.specs.Serve.{calls_alone}

-- no step of an exchange without errors is an error
abbrev raised_step : (F : Type 0) → KexCall ⊥ → KexCall F
raised_step F (kex.Begun (Ok payload)) = kex.Begun (Ok payload)
raised_step F (kex.Begun (Err none)) = absurd none
raised_step F (kex.Stepped payload (Ok step)) = kex.Stepped payload (Ok step)
raised_step F (kex.Stepped payload (Err none)) = absurd none

abbrev raised : {E : Type 0} (F : Type 0) → Event E ⊥ → Event E F
raised F (Called call) = Called call
raised F (Stepped step) = Stepped (raised_step F step)
raised F (Told entry) = Told entry

answered_raised : (E F : Type 0) (question : Question) (answer : Answer question)
    → raised {E = E} F (answered question answer) ≡ answered question answer
answered_raised E F asked.Banner banner = refl
answered_raised E F (asked.Admits admission) auth = refl
answered_raised E F (asked.Lends lent) commands = refl
answered_raised E F (asked.Judges judged) judgement = refl
answered_raised E F (asked.Listens address port) listening = refl
answered_raised E F (asked.Adjusts channel current) window = refl
answered_raised E F (asked.Done place outcome) done = refl
answered_raised E F asked.Begins payload = refl
answered_raised E F (asked.Steps payload) step = refl

refused_raised : {E : Type 0} (F : Type 0) (question : Question) (e : E) (event : Event E ⊥)
    → Refused question (Handler_error e) event →
    Refused question (Handler_error e) (raised F event)
refused_raised F asked.Banner e event h = ap (raised F) h
refused_raised F (asked.Admits admission) e event h = ap (raised F) h
refused_raised F (asked.Lends lent) e event h = (h.0, ap (raised F) h.1)
refused_raised F (asked.Judges judged) e event h = (h.0, ap (raised F) h.1)
refused_raised F (asked.Listens address port) e event h = (h.0, h.1, ap (raised F) h.2)
refused_raised F (asked.Adjusts channel current) e event h = ap (raised F) h
refused_raised F (asked.Done place outcome) e event h = ap (raised F) h
refused_raised F asked.Begins e event h = absurd h
refused_raised F (asked.Steps payload) e event h = absurd h

reaches_raised : {E O : Type 0} (F : Type 0) (plan rest : Plan O) (events : List (Event E ⊥))
    → Reaches plan events rest → Reaches plan (map (raised F) events) rest
reaches_raised F plan rest [] h = h
reaches_raised F (Finish outcome) rest (x ∷ xs) h = absurd h
reaches_raised {E} F (Ask question next) rest (x ∷ xs) h = (
  h.0,
  ap (raised F) h.1 ∙ answered_raised E F question h.0,
  reaches_raised F (next h.0) rest xs
      h.2,
)
reaches_raised F (Tell entry next) rest (x ∷ xs) h =
    (ap (raised F) h.0, reaches_raised F next rest xs h.1)

raised_calls : {E : Type 0} (F : Type 0) (calls : List (Call E))
    → map (raised F) (calls_alone calls) ≡ map Called calls
raised_calls F [] = refl
raised_calls F (x ∷ xs) = ap (λ l. Called x ∷ l) (raised_calls F xs)

-- ---- what a verdict says of its calls, said of the events of a session

pub raised_follows : {E O : Type 0} (F : Type 0) (plan : Plan O) (calls : List (Call E))
    (outcome : O) → Follows plan (calls_alone calls) outcome →
    Follows {E = E} {F = F} plan (map Called calls) outcome
raised_follows F plan calls outcome h =
    subst (λ events. Reaches plan events (Finish outcome)) (raised_calls F calls)
    (reaches_raised F plan (Finish outcome) (calls_alone calls) h)

pub raised_begins : {E O : Type 0} (F : Type 0) (plan : Plan O) (calls : List (Call E))
    → Begins plan (calls_alone calls) → Begins {E = E} {F = F} plan (map Called calls)
raised_begins F plan calls h = (
  h.0,
  subst (λ events. Reaches plan events h.0)
      (raised_calls F calls) (reaches_raised F plan h.0 (calls_alone calls) h.1),
)

pub raised_breaks : {E O : Type 0} (F : Type 0) (plan : Plan O) (calls : List (Call E)) (e : E)
    → Breaks plan (calls_alone calls) (Handler_error e) →
    Breaks {E = E} {F = F} plan (map Called calls) (Handler_error e)
raised_breaks F plan calls e h = record {
  question = h.question;
  next = h.next;
  before = map (raised F) h.before;
  last = raised F h.last;
  is = sym (raised_calls F calls) ∙ ap (map (raised F)) h.is ∙ map-append (raised F) h.before
      (h.last ∷ []);
  reaches = reaches_raised F plan (Ask h.question h.next) h.before h.reaches;
  refused = refused_raised F h.question e h.last h.refused;
}
