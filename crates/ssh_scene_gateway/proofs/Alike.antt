-- A script and the rule of a gateway answer the same where the same happened.
use Rattle.std.proofs.Common.{◌≡◌, List, [], ◌∷◌, ◌++◌, Bool, true, false, Some, None}
use Rattle.std.proofs.Common.{Ok, Err, refl, sym, ◌∙◌, ap, subst}
use Rattle.std.specs.Prelude.{flat_map}
use Rattle.std.proofs.lemmas.Grind.{flat_map-append}
use Rattle.ssh_link.specs.declared.kex.KexCall.{KexCall}
use Rattle.ssh_link.specs.declared.kex.KexCall.TheVariants as kex
use Rattle.ssh_link.specs.declared.plain_kex.PlainKexError.{PlainKexError}
use Rattle.ssh_auth.specs.declared.call.Call.{Call}
use Rattle.ssh_auth.specs.declared.call.Call.TheVariants as call
use Rattle.ssh_auth.specs.declared.question.Admission.TheVariants as by
use Rattle.ssh_auth.specs.declared.question.Question.{Question}
use Rattle.ssh_auth.specs.declared.question.Question.TheVariants as ask
use Rattle.ssh_auth.specs.Calls.{lent_call, judged_call}
use Rattle.ssh_auth.specs.Plan.{Answer, Answered, Refused, Handler_error, Exchange_error, Plan}
use Rattle.ssh_auth.specs.Plan.{Finish, Ask, Tell, Event, Called, Stepped, Told, Reaches, Breaks}
use Rattle.ssh_auth.specs.Plan.{calls_in, steps_in, asked_in, asked_in_step}
use Rattle.ssh_auth.specs.Was.{question_of, asked_of}
use Rattle.ssh_auth.proofs.Back.{lent_back, judged_back}
use Rattle.ssh_auth.proofs.Plans.{calls_in_both, steps_in_both}
use Rattle.ssh_handler.specs.OwnCalls.{is_own, own_calls}
use Rattle.ssh_handler.specs.declared.recorded.RecordError.{RecordError}
use Rattle.ssh_handler.specs.declared.recorded.RecordError.TheVariants as record_error
use Rattle.ssh_rules.specs.Cause.{IsCaused, cause_of}
use Rattle.ssh_rules.specs.Once.{AreAnsweredAlike}
use Rattle.ssh_rules.specs.Outcome.{Outcome}
use Rattle.ssh_rules.specs.declared.error.RunError.{RunError}
use Rattle.ssh_rules.specs.declared.error.RunError.TheVariants as run
use Rattle.ssh_gateway.specs.declared.error.GatewayError.{GatewayError}
use Rattle.ssh_gateway.specs.declared.error.GatewayError.TheVariants as error
use Rattle.ssh_gateway.specs.Admitting.{admission, admissions}
use Rattle.ssh_gateway.specs.Answering.{answered, records, lifted}
use Rattle.ssh_gateway.specs.Raised.{lowered}
use Rattle.ssh_players.specs.Exchanged.{IsExchanged}
use Rattle.ssh_players.specs.Exchanged.{left_after as both_after, after as after_step}
use Rattle.ssh_players.specs.Played.{Failure, IsAnswered}
use Rattle.ssh_players.specs.Played.{answered as by_script, after as after_question}
use Rattle.ssh_players.proofs.Exchanging.{first_exchanged, rest_exchanged, one_step}
use Rattle.ssh_scene.specs.Queues.{Queues}

-- a call of a gateway's handler, and an event of a gateway
abbrev pub KeeperCall : Type 0
KeeperCall = Call (RecordError Failure)

abbrev pub KeeperEvent : Type 0
KeeperEvent = Event (RecordError Failure) PlainKexError

-- the error of a gateway whose input raised this one
abbrev pub raised : RunError Failure PlainKexError → GatewayError Failure PlainKexError
raised e = error.Run e

-- ---- calls that are not of authentication are answered by the rule

abbrev pub IsRuled : KeeperCall → Type 0
IsRuled one = one ∷ [] ≡ answered (asked_of one)

abbrev AreRuled : List KeeperCall → Type 0
AreRuled [] = Unit {0}
AreRuled (one ∷ more) = IsRuled one × AreRuled more

ruled_as : (one : KeeperCall) (question : Question) → asked_of one ≡ question
    → one ∷ [] ≡ answered question → IsRuled one
ruled_as one question asks so = so ∙ ap answered (sym asks)

answers_ruled : (asked : List Question) → AreRuled (flat_map answered asked)
answers_ruled [] = tt
answers_ruled (ask.Banner ∷ asked) = answers_ruled asked
answers_ruled (ask.Admits admission ∷ asked) = answers_ruled asked
answers_ruled (ask.Lends lent ∷ asked) = (
  ruled_as (lent_call lent (Ok tt) (records lent)) (ask.Lends lent)
      (ap question_of (lent_back (RecordError Failure) lent (Ok tt) (records lent))) refl,
  answers_ruled asked,
)
answers_ruled (ask.Judges judged ∷ asked) = (
  ruled_as (judged_call judged (Ok false) []) (ask.Judges judged)
      (ap question_of (judged_back (RecordError Failure) judged (Ok false) [])) refl,
  answers_ruled asked,
)
answers_ruled (ask.Listens address port ∷ asked) = (refl, answers_ruled asked)
answers_ruled (ask.Adjusts channel current ∷ asked) = (refl, answers_ruled asked)
answers_ruled (ask.Done place outcome ∷ asked) = (refl, answers_ruled asked)
answers_ruled (ask.Begins ∷ asked) = answers_ruled asked
answers_ruled (ask.Steps payload ∷ asked) = answers_ruled asked

-- those among these calls are
abbrev pub OwnRuled : List KeeperCall → Type 0
OwnRuled [] = Unit {0}
OwnRuled (one ∷ more) = (is_own (asked_of one) ≡ true → IsRuled one) × OwnRuled more

not_own : (one : KeeperCall) → is_own (asked_of one) ≡ false → is_own (asked_of one) ≡ true
    → IsRuled one
not_own one h k = absurd (let z : false ≡ true = sym h ∙ k in cc)

kept_first : (one : KeeperCall) (more : List KeeperCall) → is_own (asked_of one) ≡ true
    → own_calls (one ∷ more) ≡ one ∷ own_calls more
kept_first one more is = rw is refl

left_first : (one : KeeperCall) (more : List KeeperCall) → is_own (asked_of one) ≡ false
    → own_calls (one ∷ more) ≡ own_calls more
left_first one more is = rw is refl

own_first : (own : Bool) (one : KeeperCall) (more : List KeeperCall)
    → (AreRuled (own_calls more) → OwnRuled more) → is_own (asked_of one) ≡ own
    → AreRuled (own_calls (one ∷ more)) → OwnRuled (one ∷ more)
own_first true one more later is h =
    let both : AreRuled (one ∷ own_calls more) = subst AreRuled (kept_first one more is) h in
    (λ own. both.0, later both.1)
own_first false one more later is h =
    (not_own one is, later (subst AreRuled (left_first one more is) h))

own_ruled : (calls : List KeeperCall) → AreRuled (own_calls calls) → OwnRuled calls
own_ruled [] h = tt
own_ruled (one ∷ more) h = own_first (is_own (asked_of one)) one more (own_ruled more) refl h

-- ---- calls of authentication are those of a script's handler, as they are passed on

abbrev pub IsPassed : KeeperCall → Type 0
IsPassed one = (first : Call Failure) × (admission one ≡ first ∷ []) × (one ≡ lifted first)
    × (asked_of first ≡ asked_of one)

abbrev pub IsLifted : KeeperEvent → Type 0
IsLifted (Called one) = is_own (asked_of one) ≡ false → IsPassed one
IsLifted (Stepped step) = Unit {0}
IsLifted (Told entry) = Unit {0}

abbrev pub AreLifted : List KeeperEvent → Type 0
AreLifted [] = Unit {0}
AreLifted (event ∷ events) = IsLifted event × AreLifted events

own_lifted : (one : KeeperCall) (question : Question) → asked_of one ≡ question
    → is_own question ≡ true → IsLifted (Called one)
own_lifted one question asks own not =
    absurd (let z : true ≡ false = sym (ap is_own asks ∙ own) ∙ not in cc)

answer_lifted : (question : Question) (answer : Answer question) (event : KeeperEvent)
    → Answered question answer event → IsLifted event
answer_lifted ask.Banner answer event h = subst IsLifted (sym h)
    (λ not. (call.AuthenticationBanner (Ok answer), refl, refl, refl))
answer_lifted (ask.Admits (by.None user)) answer event h = subst IsLifted (sym h)
    (λ not. (call.AuthNone user (Ok answer), refl, refl, refl))
answer_lifted (ask.Admits (by.Password user password)) answer event h = subst IsLifted (sym h)
    (λ not. (call.AuthPassword user password (Ok answer), refl, refl, refl))
answer_lifted (ask.Admits (by.PublickeyOffered user key algorithm)) answer event h =
    subst IsLifted (sym h)
    (λ not. (call.AuthPublickeyOffered user key algorithm (Ok answer), refl, refl, refl))
answer_lifted (ask.Admits (by.Publickey user key algorithm)) answer event h =
    subst IsLifted (sym h)
    (λ not. (call.AuthPublickey user key algorithm (Ok answer), refl, refl, refl))
answer_lifted (ask.Admits (by.OpensshCertificate user certificate)) answer event h =
    subst IsLifted (sym h)
    (λ not. (call.AuthOpensshCertificate user certificate (Ok answer), refl, refl, refl))
answer_lifted (ask.Admits (by.KeyboardInteractive user submethods response)) answer event h =
    subst IsLifted (sym h)
    (λ not. (call.AuthKeyboardInteractive user submethods response (Ok answer), refl, refl, refl))
answer_lifted (ask.Lends lent) answer event h = subst IsLifted (sym h)
    (own_lifted (lent_call lent (Ok tt) answer) (ask.Lends lent)
    (ap question_of (lent_back (RecordError Failure) lent (Ok tt) answer)) refl)
answer_lifted (ask.Judges judged) answer event h = subst IsLifted (sym h)
    (own_lifted (judged_call judged (Ok answer.granted) answer.commands) (ask.Judges judged)
    (ap question_of (judged_back (RecordError Failure) judged (Ok answer.granted) answer.commands))
    refl)
answer_lifted (ask.Listens address port) answer event h = subst IsLifted (sym h)
    (λ not. absurd (let z : true ≡ false = not in cc))
answer_lifted (ask.Adjusts channel current) answer event h = subst IsLifted (sym h)
    (λ not. absurd (let z : true ≡ false = not in cc))
answer_lifted (ask.Done place outcome) answer event h = subst IsLifted (sym h)
    (λ not. absurd (let z : true ≡ false = not in cc))
answer_lifted ask.Begins answer event h = subst IsLifted (sym h) tt
answer_lifted (ask.Steps payload) answer event h = subst IsLifted (sym h) tt

-- the error of a script's handler
refusal_lifted : (question : Question) (e : Failure) (event : KeeperEvent)
    → Refused question (Handler_error (record_error.Inner e)) event → IsLifted event
refusal_lifted ask.Banner e event h = subst IsLifted (sym h)
    (λ not. (call.AuthenticationBanner (Err e), refl, refl, refl))
refusal_lifted (ask.Admits (by.None user)) e event h = subst IsLifted (sym h)
    (λ not. (call.AuthNone user (Err e), refl, refl, refl))
refusal_lifted (ask.Admits (by.Password user password)) e event h = subst IsLifted (sym h)
    (λ not. (call.AuthPassword user password (Err e), refl, refl, refl))
refusal_lifted (ask.Admits (by.PublickeyOffered user key algorithm)) e event h =
    subst IsLifted (sym h)
    (λ not. (call.AuthPublickeyOffered user key algorithm (Err e), refl, refl, refl))
refusal_lifted (ask.Admits (by.Publickey user key algorithm)) e event h =
    subst IsLifted (sym h)
    (λ not. (call.AuthPublickey user key algorithm (Err e), refl, refl, refl))
refusal_lifted (ask.Admits (by.OpensshCertificate user certificate)) e event h =
    subst IsLifted (sym h)
    (λ not. (call.AuthOpensshCertificate user certificate (Err e), refl, refl, refl))
refusal_lifted (ask.Admits (by.KeyboardInteractive user submethods response)) e event h =
    subst IsLifted (sym h)
    (λ not. (call.AuthKeyboardInteractive user submethods response (Err e), refl, refl, refl))
refusal_lifted (ask.Lends lent) e event h = subst IsLifted (sym h.1)
    (own_lifted (lent_call lent (Err (record_error.Inner e)) h.0) (ask.Lends lent)
    (ap question_of (lent_back (RecordError Failure) lent (Err (record_error.Inner e)) h.0)) refl)
refusal_lifted (ask.Judges judged) e event h = subst IsLifted (sym h.1)
    (own_lifted (judged_call judged (Err (record_error.Inner e)) h.0) (ask.Judges judged)
    (ap question_of (judged_back (RecordError Failure) judged (Err (record_error.Inner e)) h.0))
    refl)
refusal_lifted (ask.Listens address port) e event h = subst IsLifted (sym h.2)
    (λ not. absurd (let z : true ≡ false = not in cc))
refusal_lifted (ask.Adjusts channel current) e event h = subst IsLifted (sym h)
    (λ not. absurd (let z : true ≡ false = not in cc))
refusal_lifted (ask.Done place outcome) e event h = subst IsLifted (sym h)
    (λ not. absurd (let z : true ≡ false = not in cc))
refusal_lifted ask.Begins e event h = absurd h
refusal_lifted (ask.Steps payload) e event h = absurd h

break_lifted : (question : Question) (f : PlainKexError) (event : KeeperEvent)
    → Refused question (Exchange_error f) event → IsLifted event
break_lifted ask.Begins f event h = subst IsLifted (sym h) tt
break_lifted (ask.Steps payload) f event h = subst IsLifted (sym h) tt
break_lifted ask.Banner f event h = absurd h
break_lifted (ask.Admits admission) f event h = absurd h
break_lifted (ask.Lends lent) f event h = absurd h
break_lifted (ask.Judges judged) f event h = absurd h
break_lifted (ask.Listens address port) f event h = absurd h
break_lifted (ask.Adjusts channel current) f event h = absurd h
break_lifted (ask.Done place outcome) f event h = absurd h

pub reaches_lifted : (plan : Plan Outcome) (events : List KeeperEvent) (rest : Plan Outcome)
    → Reaches plan events rest → AreLifted events
reaches_lifted plan [] rest h = tt
reaches_lifted (Ask question next) (event ∷ events) rest h = (
  answer_lifted question h.0 event h.1,
  reaches_lifted (next h.0) events rest h.2,
)
reaches_lifted (Tell entry next) (event ∷ events) rest h =
    (subst IsLifted (sym h.0) tt, reaches_lifted next events rest h.1)
reaches_lifted (Finish outcome) (event ∷ events) rest h = absurd h

one_more_lifted : (events : List KeeperEvent) (event : KeeperEvent) → AreLifted events
    → IsLifted event → AreLifted (events ++ event ∷ [])
one_more_lifted [] event h k = (k, tt)
one_more_lifted (first ∷ events) event h k = (h.0, one_more_lifted events event h.1 k)

refused_lifted : (plan : Plan Outcome) (events : List KeeperEvent) (e : Failure)
    → Breaks plan events (Handler_error (record_error.Inner e)) → AreLifted events
refused_lifted plan events e b = subst AreLifted (sym b.is) (one_more_lifted b.before b.last
    (reaches_lifted plan b.before (Ask b.question b.next) b.reaches)
    (refusal_lifted b.question e b.last b.refused))

broken_lifted : (plan : Plan Outcome) (events : List KeeperEvent) (f : PlainKexError)
    → Breaks plan events (Exchange_error f) → AreLifted events
broken_lifted plan events f b = subst AreLifted (sym b.is) (one_more_lifted b.before b.last
    (reaches_lifted plan b.before (Ask b.question b.next) b.reaches)
    (break_lifted b.question f b.last b.refused))

pub caused_lifted : (why : RunError (RecordError Failure) PlainKexError)
    (e : RunError Failure PlainKexError) (plan : Plan Outcome) (events : List KeeperEvent)
    → error.Run e ≡ lowered why → IsCaused (cause_of why) plan ⊥ events → AreLifted events
caused_lifted run.NoMemory e plan events is c = absurd (let z : error.Run e ≡ error.NoMemory = is in cc)
caused_lifted run.LinkFault e plan events is c = absurd c.0
caused_lifted run.InputLimit e plan events is c = absurd c
caused_lifted (run.Handler (record_error.Inner failure)) e plan events is c =
    refused_lifted plan events failure c
caused_lifted (run.Handler record_error.NoMemory) e plan events is c =
    absurd (let z : error.Run e ≡ error.NoMemory = is in cc)
caused_lifted (run.Handler record_error.Untold) e plan events is c =
    absurd (let z : error.Run e ≡ error.NoMemory = is in cc)
caused_lifted (run.Kex f) e plan events is c = broken_lifted plan events f c
caused_lifted (run.Encoding why) e plan events is c = reaches_lifted plan events _ c
caused_lifted run.Inconsistent e plan events is c = reaches_lifted plan events _ c
caused_lifted run.Pending e plan events is c = reaches_lifted plan events _ c
caused_lifted (run.Key why) e plan events is c = reaches_lifted plan events _ c
caused_lifted run.UnsupportedAuthMethod e plan events is c = reaches_lifted plan events _ c
caused_lifted run.ChannelsFull e plan events is c = reaches_lifted plan events _ c
caused_lifted run.KeepaliveTimeout e plan events is c = reaches_lifted plan events _ c
caused_lifted run.InactivityTimeout e plan events is c = reaches_lifted plan events _ c

-- ---- all of it

-- these events are answered by the rule and by the script, of which this is left
pub record IsPlayed (queues : Queues) (both : Bool) (events : List KeeperEvent) : Type 0 where
  pub own : OwnRuled (calls_in events)
  pub lifted : AreLifted events
  pub admitted : IsAnswered queues (admissions events)
  pub exchanged : IsExchanged both (steps_in events)

-- what is left behind these
abbrev pub queues_after : Queues → List (Call Failure) → Queues
queues_after queues [] = queues
queues_after queues (one ∷ more) = queues_after (after_question queues (asked_of one)) more

answered_later : (queues : Queues) (xs ys : List (Call Failure)) → IsAnswered queues (xs ++ ys)
    → IsAnswered (queues_after queues xs) ys
answered_later queues [] ys h = h
answered_later queues (x ∷ xs) ys h =
    answered_later (after_question queues (asked_of x)) xs ys h.1

exchanged_later : (both : Bool) (xs ys : List (KexCall PlainKexError))
    → IsExchanged both (xs ++ ys) → IsExchanged (both_after both xs) ys
exchanged_later both [] ys h = h
exchanged_later both (x ∷ xs) ys h =
    exchanged_later (after_step both x) xs ys (rest_exchanged both x (xs ++ ys) h)

own_later : (xs ys : List KeeperCall) → OwnRuled (xs ++ ys) → OwnRuled ys
own_later [] ys h = h
own_later (x ∷ xs) ys h = own_later xs ys h.1

lifted_later : (xs ys : List KeeperEvent) → AreLifted (xs ++ ys) → AreLifted ys
lifted_later [] ys h = h
lifted_later (x ∷ xs) ys h = lifted_later xs ys h.1

pub lifted_both : (xs ys : List KeeperEvent) → AreLifted xs → AreLifted ys → AreLifted (xs ++ ys)
lifted_both [] ys h k = k
lifted_both (x ∷ xs) ys h k = (h.0, lifted_both xs ys h.1 k)

pub ruled_both : (xs ys : List KeeperCall) → OwnRuled xs → OwnRuled ys → OwnRuled (xs ++ ys)
ruled_both [] ys h k = k
ruled_both (x ∷ xs) ys h k = (h.0, ruled_both xs ys h.1 k)

pub admissions_both : (xs ys : List KeeperEvent)
    → admissions (xs ++ ys) ≡ admissions xs ++ admissions ys
admissions_both xs ys = ap (flat_map admission) (calls_in_both xs ys)
    ∙ flat_map-append admission (calls_in xs) (calls_in ys)

pub played_later : (queues : Queues) (both : Bool) (xs ys : List KeeperEvent)
    → IsPlayed queues both (xs ++ ys)
    → IsPlayed (queues_after queues (admissions xs)) (both_after both (steps_in xs)) ys
played_later queues both xs ys h = record {
  own = own_later (calls_in xs) (calls_in ys) (subst OwnRuled (calls_in_both xs ys) h.own);
  lifted = lifted_later xs ys h.lifted;
  admitted = answered_later queues (admissions xs) (admissions ys)
      (subst (IsAnswered queues) (admissions_both xs ys) h.admitted);
  exchanged = exchanged_later both (steps_in xs) (steps_in ys)
      (subst (IsExchanged both) (steps_in_both xs ys) h.exchanged);
}

same_question : (one other question : Question) → Some one ≡ Some question
    → Some other ≡ Some question → one ≡ other
same_question one other question h k = cc

asks_nothing : (question : Question) → None ≡ Some question → ⊥
asks_nothing question e = cc

same_call : (x y : KeeperCall) → x ∷ [] ≡ y ∷ [] → x ≡ y
same_call x y e = cc

-- a call that asks what only an exchange is asked is answered by no rule
no_step : (x : KeeperCall) (step : KexCall PlainKexError) → IsRuled x
    → asked_of x ≡ asked_in_step step → ⊥
no_step x (kex.Begun answer) ruled e =
    let z : x ∷ [] ≡ [] = ruled ∙ ap answered e in cc
no_step x (kex.Stepped payload answer) ruled e =
    let z : x ∷ [] ≡ [] = ruled ∙ ap answered e in cc

own_step : (step : KexCall PlainKexError) → is_own (asked_in_step step) ≡ true
own_step (kex.Begun answer) = refl
own_step (kex.Stepped payload answer) = refl

first_admitted : (queues : Queues) (x : KeeperCall) (first : Call Failure)
    (xs : List KeeperEvent) → admission x ≡ first ∷ []
    → IsAnswered queues (admissions (Called x ∷ xs))
    → first ∷ [] ≡ by_script queues (asked_of first)
first_admitted queues x first xs is h =
    (subst (λ l. IsAnswered queues (l ++ admissions xs)) is h).0

alike_calls : (own : Bool) (queues : Queues) (both : Bool) (x y : KeeperCall)
    (xs ys : List KeeperEvent) → is_own (asked_of x) ≡ own → asked_of x ≡ asked_of y
    → IsPlayed queues both (Called x ∷ xs) → IsPlayed queues both (Called y ∷ ys) → x ≡ y
alike_calls true queues both x y xs ys own same h k = same_call x y
    (h.own.0 own ∙ (ap answered same ∙ sym (k.own.0 (ap is_own (sym same) ∙ own))))
alike_calls false queues both x y xs ys own same h k =
    let a = h.lifted.0 own in
    let b = k.lifted.0 (ap is_own (sym same) ∙ own) in
    let asks : asked_of a.0 ≡ asked_of b.0 = a.3 ∙ (same ∙ sym b.3) in
    let first : a.0 ∷ [] ≡ b.0 ∷ [] = first_admitted queues x a.0 xs a.1 h.admitted
    ∙ (ap (by_script queues) asks ∙ sym (first_admitted queues y b.0 ys b.1 k.admitted)) in
    let one : a.0 ≡ b.0 = cc in
    a.2 ∙ (ap lifted one ∙ sym b.2)

alike_first : (queues : Queues) (both : Bool) (x y : KeeperEvent) (xs ys : List KeeperEvent)
    (question : Question) → IsPlayed queues both (x ∷ xs) → IsPlayed queues both (y ∷ ys)
    → asked_in x ≡ Some question → asked_in y ≡ Some question → x ≡ y
alike_first queues both (Called x) (Called y) xs ys question h k a b =
    ap Called (alike_calls (is_own (asked_of x)) queues both x y xs ys refl
    (same_question (asked_of x) (asked_of y) question a b) h k)
alike_first queues both (Stepped x) (Stepped y) xs ys question h k a b =
    ap Stepped (one_step both x y
    (same_question (asked_in_step x) (asked_in_step y) question a b)
    (first_exchanged both x (steps_in xs) h.exchanged)
    (first_exchanged both y (steps_in ys) k.exchanged))
alike_first queues both (Called x) (Stepped y) xs ys question h k a b =
    let e = same_question (asked_of x) (asked_in_step y) question a b in
    absurd (no_step x y (h.own.0 (ap is_own e ∙ own_step y)) e)
alike_first queues both (Stepped x) (Called y) xs ys question h k a b =
    let e = same_question (asked_of y) (asked_in_step x) question b a in
    absurd (no_step y x (k.own.0 (ap is_own e ∙ own_step x)) e)
alike_first queues both (Told one) y xs ys question h k a b = absurd (asks_nothing question a)
alike_first queues both (Called x) (Told one) xs ys question h k a b =
    absurd (asks_nothing question b)
alike_first queues both (Stepped x) (Told one) xs ys question h k a b =
    absurd (asks_nothing question b)

pub answered_alike : (queues : Queues) (both : Bool) (events others : List KeeperEvent)
    → IsPlayed queues both events → IsPlayed queues both others
    → AreAnsweredAlike events others
answered_alike queues both events others h k past later rest event other question e f a b =
    alike_first (queues_after queues (admissions past)) (both_after both (steps_in past)) event other
    later rest question
    (played_later queues both past (event ∷ later) (subst (IsPlayed queues both) e h))
    (played_later queues both past (other ∷ rest) (subst (IsPlayed queues both) f k)) a b

-- the calls of these questions are answered so
pub ruled_by : (calls : List KeeperCall) (asked : List Question)
    → own_calls calls ≡ flat_map answered asked → OwnRuled calls
ruled_by calls asked e = own_ruled calls (subst AreRuled (sym e) (answers_ruled asked))
