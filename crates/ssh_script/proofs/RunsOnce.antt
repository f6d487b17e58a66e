-- A scene has one run: its handler, its exchange and its link do the same where the same happened.
use Rattle.std.proofs.Common.{◌≡◌, ◌<◌, ℕ, arith, List, [], ◌∷◌, ◌++◌, length, Bool, true, false}
use Rattle.std.proofs.Common.{Some, None, refl, sym, ◌∙◌, ap, subst}
use Rattle.std.specs.Prelude.{flat_map, option_to_list}
use Rattle.ssh_link.specs.declared.kex.KexCall.{KexCall}
use Rattle.ssh_link.specs.declared.kex.KexCall.TheVariants as kex
use Rattle.ssh_link.specs.declared.plain_kex.PlainKexError.{PlainKexError}
use Rattle.ssh_link.specs.Supply.{Supply, next_input}
use Rattle.ssh_link.specs.Told.{ToldBy}
use Rattle.ssh_auth.specs.declared.call.Call.{Call}
use Rattle.ssh_auth.specs.declared.question.Question.{Question}
use Rattle.ssh_auth.specs.Plan.{Event, Called, Stepped, Told, calls_in, steps_in, asked_in}
use Rattle.ssh_auth.specs.Plan.{asked_in_step}
use Rattle.ssh_auth.specs.Was.{asked_of}
use Rattle.ssh_auth.proofs.Plans.{calls_in_both, steps_in_both}
use Rattle.ssh_rules.specs.Account.{Closes, Ran}
use Rattle.ssh_rules.specs.Account.{Told as Telling}
use Rattle.ssh_rules.specs.Once.{AreAnsweredAlike, AreTakenAlike, IsDetermined}
use Rattle.ssh_rules.specs.Replied.{events_of}
use Rattle.ssh_rules.specs.Run.{Turn, calls_of, steps_of, entries}
use Rattle.ssh_rules.specs.Cause.{may_stop}
use Rattle.ssh_rules.proofs.Determined.Runs.{outside_once}
use Rattle.ssh_players.specs.Exchanged.{IsExchanged}
use Rattle.ssh_players.specs.Exchanged.{after as after_step}
use Rattle.ssh_players.specs.Given.{IsGiven, left_after}
use Rattle.ssh_scene.specs.Queues.{Queues}
use Rattle.ssh_players.specs.Played.{Failure, answered, after, IsAnswered}
use Rattle.ssh_scene.specs.Scene.{Scene}
use Rattle.ssh_script.specs.Transcript.{status_of, scene_settings, scene_accepts, scene_supply}
use Rattle.ssh_script.specs.Transcript.{Writing, IsRun}
use Rattle.ssh_players.proofs.Exchanging.{first_exchanged, rest_exchanged, one_step}
use Rattle.ssh_players.proofs.Keeping.{given_later}
use Rattle.ssh_script.proofs.Faultless.{closes_by, no_link_fault}

-- an event of a run of a script, and a turn
abbrev ScriptEvent : Type 0
ScriptEvent = Event Failure PlainKexError

abbrev ScriptTurn : Type 0
ScriptTurn = Turn Failure PlainKexError

-- ---- the handler and the exchange answer alike

asks_nothing : (question : Question) → None ≡ Some question → ⊥
asks_nothing question e = cc

same_question : (one other question : Question) → Some one ≡ Some question
    → Some other ≡ Some question → one ≡ other
same_question one other question h k = cc

-- a call that the script answered is the one of its question
one_call : (queues : Queues) (x y : Call Failure) → asked_of x ≡ asked_of y
    → x ∷ [] ≡ answered queues (asked_of x) → y ∷ [] ≡ answered queues (asked_of y) → x ≡ y
one_call queues x y e h k = let z : x ∷ [] ≡ y ∷ [] = h ∙ ap (answered queues) e ∙ sym k in cc

-- a question of an exchange is put to no handler
no_call : (queues : Queues) (step : KexCall PlainKexError)
    → answered queues (asked_in_step step) ≡ []
no_call queues (kex.Begun answer) = refl
no_call queues (kex.Stepped payload answer) = refl

call_or_step : (queues : Queues) (call : Call Failure) (step : KexCall PlainKexError)
    → asked_of call ≡ asked_in_step step → call ∷ [] ≡ answered queues (asked_of call) → ⊥
call_or_step queues call step e h =
    let z : call ∷ [] ≡ [] = h ∙ ap (answered queues) e ∙ no_call queues step in cc

-- where this is left of the answers, and the peer's KEXINIT came or not, these events are answered
-- by the script
abbrev IsPlayed : Queues → (both : Bool) → List ScriptEvent → Type 0
IsPlayed queues both events = IsAnswered queues (calls_in events)
    × IsExchanged both (steps_in events)

-- what is asked first
alike_first : (queues : Queues) (both : Bool) (x y : ScriptEvent) (xs ys : List ScriptEvent)
    (question : Question) → IsPlayed queues both (x ∷ xs) → IsPlayed queues both (y ∷ ys)
    → asked_in x ≡ Some question → asked_in y ≡ Some question → x ≡ y
alike_first queues both (Called x) (Called y) xs ys question h k a b =
    ap Called (one_call queues x y (same_question (asked_of x) (asked_of y) question a b)
    h.0.0 k.0.0)
alike_first queues both (Stepped x) (Stepped y) xs ys question h k a b =
    ap Stepped (one_step both x y
    (same_question (asked_in_step x) (asked_in_step y) question a b)
    (first_exchanged both x (steps_in xs) h.1) (first_exchanged both y (steps_in ys) k.1))
alike_first queues both (Called x) (Stepped y) xs ys question h k a b =
    absurd (call_or_step queues x y
    (same_question (asked_of x) (asked_in_step y) question a b) h.0.0)
alike_first queues both (Stepped x) (Called y) xs ys question h k a b =
    absurd (call_or_step queues y x
    (same_question (asked_of y) (asked_in_step x) question b a) k.0.0)
alike_first queues both (Told one) y xs ys question h k a b = absurd (asks_nothing question a)
alike_first queues both (Called x) (Told one) xs ys question h k a b =
    absurd (asks_nothing question b)
alike_first queues both (Stepped x) (Told one) xs ys question h k a b =
    absurd (asks_nothing question b)

-- what is asked after the same has happened
alike_after : (queues : Queues) (both : Bool) (past xs ys : List ScriptEvent)
    (x y : ScriptEvent) (question : Question) → IsPlayed queues both (past ++ x ∷ xs)
    → IsPlayed queues both (past ++ y ∷ ys) → asked_in x ≡ Some question
    → asked_in y ≡ Some question → x ≡ y
alike_after queues both [] xs ys x y question h k a b =
    alike_first queues both x y xs ys question h k a b
alike_after queues both (Called call ∷ past) xs ys x y question h k a b =
    alike_after (after queues (asked_of call)) both past xs ys x y question (h.0.1, h.1)
    (k.0.1, k.1) a b
alike_after queues both (Stepped step ∷ past) xs ys x y question h k a b =
    alike_after queues (after_step both step) past xs ys x y question
    (h.0, rest_exchanged both step (steps_in (past ++ x ∷ xs)) h.1)
    (k.0, rest_exchanged both step (steps_in (past ++ y ∷ ys)) k.1) a b
alike_after queues both (Told one ∷ past) xs ys x y question h k a b =
    alike_after queues both past xs ys x y question h k a b

-- ---- the link gives alike

given_after : (supply : Supply) (past ts us : List ScriptTurn) (t u : ScriptTurn)
    → IsGiven supply (flat_map entries (past ++ t ∷ ts))
    → IsGiven supply (flat_map entries (past ++ u ∷ us)) → t.commands ≡ u.commands
    → t.replies ≡ u.replies → t.input ≡ u.input
given_after supply [] ts us t u h k c r =
    h.0 ∙ ap (λ commands. next_input commands t.replies supply) c
    ∙ ap (λ replies. next_input u.commands replies supply) r ∙ sym k.0
given_after supply (turn ∷ past) ts us t u h k c r =
    given_after (left_after supply (entries turn)) past ts us t u
    (given_later supply (entries turn) (flat_map entries (past ++ t ∷ ts)) h)
    (given_later supply (entries turn) (flat_map entries (past ++ u ∷ us)) k) c r

-- ---- two runs of a scene

calls_in_turns : (turns : List ScriptTurn) → flat_map calls_of turns ≡ calls_in (events_of turns)
calls_in_turns [] = refl
calls_in_turns (turn ∷ turns) = ap (λ calls. calls_of turn ++ calls) (calls_in_turns turns)
    ∙ sym (calls_in_both turn.events (events_of turns))

steps_in_turns : (turns : List ScriptTurn) → flat_map steps_of turns ≡ steps_in (events_of turns)
steps_in_turns [] = refl
steps_in_turns (turn ∷ turns) = ap (λ steps. steps_of turn ++ steps) (steps_in_turns turns)
    ∙ sym (steps_in_both turn.events (events_of turns))

-- the inputs that were taken
abbrev taken_in : (writing : Writing) (scene : Scene) (status : ℕ) (text : List ℕ) → IsRun writing scene status text
    → List ScriptTurn
taken_in writing scene status text h = h.turns ++ option_to_list h.last

plays : (writing : Writing) (scene : Scene) (status : ℕ) (text : List ℕ) (h : IsRun writing scene status text)
    → IsPlayed scene.queues false (events_of (taken_in writing scene status text h))
plays writing scene status text h =
    let turns = taken_in writing scene status text h in (
      subst (IsAnswered scene.queues) (calls_in_turns turns) h.answered,
      subst (IsExchanged false) (steps_in_turns turns) h.exchanged,
    )

answered_alike : (writing : Writing) (scene : Scene) (m n : ℕ) (s t : List ℕ) (h : IsRun writing scene m s)
    (k : IsRun writing scene n t)
    → AreAnsweredAlike (events_of (taken_in writing scene m s h)) (events_of (taken_in writing scene n t k))
answered_alike writing scene m n s t h k past xs ys x y question e f a b =
    alike_after scene.queues false past xs ys x y question
    (subst (IsPlayed scene.queues false) e (plays writing scene m s h))
    (subst (IsPlayed scene.queues false) f (plays writing scene n t k)) a b

taken_alike : (writing : Writing) (scene : Scene) (m n : ℕ) (s t : List ℕ) (h : IsRun writing scene m s)
    (k : IsRun writing scene n t) → AreTakenAlike (taken_in writing scene m s h) (taken_in writing scene n t k)
taken_alike writing scene m n s t h k past ts us x y e f c r =
    let P = λ (turns : List ScriptTurn). IsGiven (scene_supply scene) (flat_map entries turns) in
    given_after (scene_supply scene) past ts us x y (subst P e h.given) (subst P f k.given) c r

-- an outside that tells nothing
abbrev silent : Telling Failure PlainKexError
silent = record { calls = None; steps = None; trace = None; faults = 0 }

untold : (stops : Bool) (calls : List (Call Failure)) → ToldBy stops None None calls
untold true calls = tt
untold false calls = refl

-- a run as `ssh_rules` accounts for one
abbrev account : (writing : Writing) (scene : Scene) (status : ℕ) (text : List ℕ) (h : IsRun writing scene status text)
    → Ran (scene_accepts scene) (scene_settings scene) silent silent scene.max_inputs h.result
account writing scene status text h = record {
  turns = h.turns;
  world = h.world;
  run = h.run;
  last = h.last;
  closes = closes_by (scene_accepts scene) h.world (length h.turns) scene.max_inputs h.last ⊥
      (0 < 0) h.result (λ never. absurd never) h.closes;
  called = untold (may_stop h.result) (flat_map calls_of (h.turns ++ option_to_list h.last));
  stepped = refl;
  told = refl;
  later = omega arith;
}

no_status : (status : ℕ) → None ≡ Some status → ⊥
no_status status e = cc

-- one with a status was not cut off
determined : (writing : Writing) (scene : Scene) (status : ℕ) (text : List ℕ) (h : IsRun writing scene status text)
    → IsDetermined h.result
determined writing scene status text h = (
  λ e. no_status status (sym (ap status_of e) ∙ h.status_is),
  λ e. no_link_fault (scene_accepts scene) h.world (length h.turns) scene.max_inputs h.last
      (subst (Closes (scene_accepts scene) h.world (length h.turns) scene.max_inputs h.last ⊥) e
      h.closes),
)

same_status : (m n : ℕ) → Some m ≡ Some n → m ≡ n
same_status m n e = cc

pub run_once : (writing : Writing) (scene : Scene) (m n : ℕ) (s t : List ℕ) → IsRun writing scene m s → IsRun writing scene n t
    → (m ≡ n) × (s ≡ t)
run_once writing scene m n s t h k =
    let one = outside_once (scene_accepts scene) (scene_settings scene) silent silent silent silent
    scene.max_inputs h.result k.result (account writing scene m s h) (account writing scene n t k)
    (taken_alike writing scene m n s t h k, answered_alike writing scene m n s t h k) (determined writing scene m s h)
    (determined writing scene n t k) in
    let turns : h.turns ++ option_to_list h.last ≡ k.turns ++ option_to_list k.last =
    ap (λ turns. turns ++ option_to_list h.last) one.turns
    ∙ ap (λ last. k.turns ++ option_to_list last) one.last in
    let P = λ (turns : List ScriptTurn). writing (flat_map calls_of turns)
    (flat_map entries turns) in (
      same_status m n (sym h.status_is ∙ ap status_of one.answered ∙ k.status_is),
      h.text_is ∙ ap (λ l. P l h.result) turns
          ∙ ap (P (k.turns ++ option_to_list k.last)) one.answered ∙ sym k.text_is,
    )
