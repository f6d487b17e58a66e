-- How far frames were handed on, from one part of an input to the next.
use Rattle.std.proofs.Common.{◌≡◌, ◌⊎◌, ℕ, List, [], ◌∷◌, ◌++◌, map, Option, Some, None}
use Rattle.std.proofs.Common.{Result, Ok, Err, false}
use Rattle.std.proofs.Common.{refl, sym, ◌∙◌, ap, subst, inl, inr, append_assoc}
use Rattle.std.specs.Result.{IsErrAnd}
use Rattle.std.proofs.lemmas.List.{append-nil}
use Rattle.std.proofs.lemmas.Result.{err_from_is_err_and}
use Rattle.ssh_link.specs.Faults.{Rose, NeverFalls, RoseIfKept}
use Rattle.ssh_link.proofs.Counts.{rose_later}
use Rattle.ssh_link.specs.Frames.{Frame}
use Rattle.ssh_link.specs.Told.{AddsOne}
use Rattle.ssh_link.specs.declared.kex.KexCall.{KexCall}
use Rattle.ssh_link.specs.declared.kex.KexCall.TheVariants.{Begun}
use Rattle.ssh_link.specs.declared.kex.KexFault.{KexFault}
use Rattle.ssh_link.specs.declared.kex.KexFault.TheVariants as kex
use Rattle.ssh_link.specs.declared.kex.KexStep.{KexStep}
use Rattle.ssh_link.specs.declared.link.TraceEntry.TheVariants.{Sent}
use Rattle.ssh_auth.specs.declared.question.Question.{Question}
use Rattle.ssh_auth.specs.declared.question.Question.TheVariants.{Begins, Steps}
use Rattle.ssh_auth.specs.Plan.{Plan, Finish, Ask, Tell, Answer, Answered, Event, Stepped, Told}
use Rattle.ssh_auth.specs.Plan.{after}
use Rattle.ssh_auth.specs.Plan.{Exchange_error, Reaches, Refused as Refuses}
use Rattle.ssh_auth.proofs.Plans.{reaches_after, reaches_both}
use Rattle.ssh_rules.specs.declared.error.Flow.{Flow}
use Rattle.ssh_rules.specs.declared.error.RunError.{RunError}
use Rattle.ssh_rules.specs.declared.error.RunError.TheVariants as error
use Rattle.ssh_rules.specs.Acts.{Act, Exchanges, Beginning, Stepping, acts, exchanged}
use Rattle.ssh_rules.specs.Acts.{frames_given, moved, tell_all}
use Rattle.ssh_rules.specs.Cause.{Cause, Wants_memory, Link_failed, Limit_reached, Faulty}
use Rattle.ssh_rules.specs.Cause.{Refused_by, Broken_by, Hears, cause_of}
use Rattle.ssh_rules.specs.Cut.{IsAtFrame, IsBehindAll, IsBehindKexinit, IsCut, OwesNoFrame}
use Rattle.ssh_rules.specs.Cut.{RefusesAsLink, RefusesInside, frames_in}
use Rattle.ssh_rules.specs.Failure.{error_of_exchange}
use Rattle.ssh_rules.specs.Heard.{Heard, AsksExchangeAlone, IsExchanged as Asks_exchange}
use Rattle.ssh_rules.specs.Outcome.{Outcome, Goes}
use Rattle.ssh_rules.specs.World.{World}
use Rattle.ssh_rules.proofs.Plans.Frameless.{frames_both, frames_later, frames_nowhere, none_caused}
use Rattle.ssh_rules.proofs.Begins.Rows.{NeverExchanges}
use Rattle.ssh_rules.proofs.Plans.Telling.{SendsGiven}
use Rattle.ssh_serving.specs.declared.server.Server.{Server}
use Rattle.ssh_serving.specs.Handing.{IsCutByLink, IsCutBefore, IsCutBehind, IsCutInRow, ServesTo}
use Rattle.ssh_serving.specs.Handing.{CompletesTo, DoesTo}
use Rattle.ssh_serving.specs.Serve.{Refines, Serves, Completes}
use Rattle.ssh_serving.proofs.Serving.{exchange_asked, exchange_failed, reached, served_both}
use Rattle.ssh_serving.proofs.Serving.{starves}

-- ---- behind events

as_link_later : {E F : Type 0} (cause : Cause E F) (starved starved' : Type 0)
    → (starved → starved') → RefusesAsLink cause starved → RefusesAsLink cause starved'
as_link_later Wants_memory starved starved' f h = f h
as_link_later Link_failed starved starved' f h = h
as_link_later Limit_reached starved starved' f h = h
as_link_later (Faulty fault) starved starved' f h = h
as_link_later (Refused_by e) starved starved' f h = h
as_link_later (Broken_by e) starved starved' f h = h

-- these events come before, and the count did not fall in them
module _ {E F : Type 0} (cause : Cause E F) (plan mid : Plan Outcome) (a b c : Option ℕ)
    (xs ys : List (Event E F)) (counted : NeverFalls a b) (reaches : Reaches plan xs mid) where
  pub by_link_then : IsCutByLink cause (RoseIfKept b c) mid ys →
      IsCutByLink cause (RoseIfKept a c) plan (xs ++ ys)
  by_link_then h = (
    as_link_later cause (RoseIfKept b c) (RoseIfKept a c) (rose_later a b c counted) h.0,
    (h.1.0, h.1.1, reaches_both plan mid (Tell (Sent h.1.0) h.1.1) xs ys reaches h.1.2),
  )

  pub before_then : frames_in xs ≡ [] → IsCutBefore cause (RoseIfKept b c) mid ys →
      IsCutBefore cause (RoseIfKept a c) plan (xs ++ ys)
  before_then none (inl (inside, still)) = inl (inside, frames_nowhere xs ys none still)
  before_then none (inr link) = inr (by_link_then link)

  all_then : IsBehindAll mid ys → IsBehindAll plan (xs ++ ys)
  all_then (rest, done, more, is, r, owes, none) = (
    rest,
    xs ++ done,
    more,
    ap (λ l. xs ++ l) is ∙ sym (append_assoc xs done more),
    reaches_both plan mid rest xs done reaches r,
    owes,
    none,
  )

  pub behind_then : IsCutBehind cause (RoseIfKept b c) mid ys →
      IsCutBehind cause (RoseIfKept a c) plan (xs ++ ys)
  behind_then (inl (inside, all)) = inl (inside, all_then all)
  behind_then (inr link) = inr (by_link_then link)

  kexinit_then : frames_in xs ≡ [] → IsBehindKexinit ys → IsBehindKexinit (xs ++ ys)
  kexinit_then none (payload, past, more, is, still, one) = (
    payload,
    xs ++ past,
    more,
    ap (λ l. xs ++ l) is ∙ sym (append_assoc xs past (Stepped (Begun (Ok payload)) ∷ more)),
    frames_nowhere xs past none still,
    one,
  )

  pub cut_then : frames_in xs ≡ [] → IsCut cause (RoseIfKept b c) mid ys →
      IsCut cause (RoseIfKept a c) plan (xs ++ ys)
  cut_then none (inl still) = inl (frames_nowhere xs ys none still)
  cut_then none (inr (inl link)) = inr (inl (by_link_then link))
  cut_then none (inr (inr (inside, inl kexinit))) =
      inr (inr (inside, inl (kexinit_then none kexinit)))
  cut_then none (inr (inr (inside, inr all))) = inr (inr (inside, inr (all_then all)))

-- a count that rose later
pub cut_later : {E F : Type 0} (cause : Cause E F) (starved starved' : Type 0)
    (plan : Plan Outcome) (events : List (Event E F)) → (starved → starved') →
    IsCut cause starved plan events → IsCut cause starved' plan events
cut_later cause starved starved' plan events f (inl none) = inl none
cut_later cause starved starved' plan events f (inr (inl (link, frame))) =
    inr (inl (as_link_later cause starved starved' f link, frame))
cut_later cause starved starved' plan events f (inr (inr all)) = inr (inr all)

-- ---- of one part, what it is of another

module _ {E F : Type 0} (cause : Cause E F) (starved : Type 0) (plan : Plan Outcome)
    (events : List (Event E F)) where
  pub before_behind : OwesNoFrame plan → IsCutBefore cause starved plan events →
      IsCutBehind cause starved plan events
  before_behind owes (inl (inside, none)) =
      inl (inside, (plan, [], events, refl, refl, owes, none))
  before_behind owes (inr link) = inr link

  pub behind_cut : IsCutBehind cause starved plan events → IsCut cause starved plan events
  behind_cut (inl (inside, all)) = inr (inr (inside, inr all))
  behind_cut (inr link) = inr (inl link)

  pub before_in_row : IsCutBefore cause starved plan events → IsCutInRow cause starved plan events
  before_in_row (inl (inside, none)) = inl none
  before_in_row (inr link) = inr (inl link)

  -- a row, and then the end of its input
  pub row_cut : (later : Outcome → Plan Outcome) → IsCutInRow cause starved plan events →
      IsCut cause starved (after plan later) events
  row_cut later (inl none) = inl none
  row_cut later (inr (inl (link, (frame, next, r)))) = inr (inl (
    link,
    (frame, after next later, reaches_after plan (Tell (Sent frame) next) later events r),
  ))
  row_cut later (inr (inr (inside, kexinit))) = inr (inr (inside, inl kexinit))

-- ---- behind this side's KEXINIT

-- what is asked first
abbrev first_question : Plan Outcome → Option Question
first_question (Ask question next) = Some question
first_question (Finish outcome) = None
first_question (Tell entry next) = None

-- no question stands behind frames that end a plan
no_question : {E F : Type 0} (frames : List Frame) (outcome : Outcome) (events : List (Event E F))
    (question : Question) (next : Answer question → Plan Outcome) →
    Reaches (tell_all (map Sent frames) (Finish outcome)) events (Ask question next) → ⊥
no_question [] outcome [] question next r =
    absurd (let no : None ≡ Some question = ap first_question r in cc)
no_question [] outcome (event ∷ events) question next r = absurd r
no_question (frame ∷ frames) outcome [] question next r =
    absurd (let no : None ≡ Some question = ap first_question r in cc)
no_question (frame ∷ frames) outcome (event ∷ events) question next r =
    no_question frames outcome events question next r.1

-- nothing happened yet where a payload is still to be taken
no_step : {E F : Type 0} (payload : List ℕ) (v : World) (events : List (Event E F))
    (next : KexStep → Plan Outcome) →
    Reaches (acts (Exchanges (Stepping payload) ∷ []) v) events (Ask (Steps payload) next) →
    events ≡ []
no_step payload v [] next r = refl
no_step payload v (event ∷ events) next r =
    absurd (no_question (frames_given r.0.frames) (Goes (moved (Stepping payload) r.0 v)) events
    (Steps payload) next r.2)

kexinit_sent : {E F : Type 0} (frames : List Frame) (payload : List ℕ) (v : World)
    (events : List (Event E F)) (next : KexStep → Plan Outcome) →
    Reaches (tell_all (map Sent frames) (acts (Exchanges (Stepping payload) ∷ []) v)) events
    (Ask (Steps payload) next) → frames_in events ≡ frames
kexinit_sent [] payload v events next r = ap frames_in (no_step payload v events next r)
kexinit_sent (frame ∷ frames) payload v [] next r =
    absurd (let no : None ≡ Some (Steps payload) = ap first_question r in cc)
kexinit_sent (frame ∷ frames) payload v (event ∷ events) next r =
    ap (λ x. frames_in (x ∷ events)) r.0
    ∙ ap (λ l. frame ∷ l) (kexinit_sent frames payload v events next r.1)

-- the exchange began, and behind its KEXINIT it went on and was cut before a frame more
pub behind_kexinit : {E F : Type 0} (cause : Cause E F) (payload : List ℕ) (w v : World)
    (a b c : Option ℕ) (xs ys : List (Event E F)) → NeverFalls a b →
    Reaches (acts (Exchanges Beginning ∷ Exchanges (Stepping payload) ∷ []) w) xs
    (acts (Exchanges (Stepping payload) ∷ []) v) →
    IsCutBefore cause (RoseIfKept b c) (acts (Exchanges (Stepping payload) ∷ []) v) ys →
    IsCutInRow cause (RoseIfKept a c)
    (acts (Exchanges Beginning ∷ Exchanges (Stepping payload) ∷ []) w) (xs ++ ys)
behind_kexinit cause payload w v a b c xs ys counted r (inr link) =
    inr (inl (by_link_then cause (acts (Exchanges Beginning ∷ Exchanges (Stepping payload) ∷ []) w)
    (acts (Exchanges (Stepping payload) ∷ []) v) a b c xs ys counted r link))
behind_kexinit cause payload w v a b c [] ys counted r (inl (inside, none)) =
    absurd (let no : Some Begins ≡ Some (Steps payload) = ap first_question r in cc)
behind_kexinit cause payload w v a b c (event ∷ xs) ys counted r (inl (inside, none)) =
    let next : KexStep → Plan Outcome = λ step. exchanged (Stepping payload) step v (acts []) in
    let sent = kexinit_sent (frames_given (r.0 ∷ [])) payload (moved Beginning r.0 w) xs next r.2
    in inr (inr (
      inside,
      (
        r.0,
        [],
        xs ++ ys,
        ap (λ x. x ∷ (xs ++ ys)) r.1,
        refl,
        frames_both xs ys ∙ (ap (λ l. frames_in xs ++ l) none ∙ (append-nil (frames_in xs)
            ∙ sent)),
      ),
    ))

-- ---- parts that were served

-- nothing stopped it
pub to_end : {T E F : Type 0} (Cuts : Cause E F → (starved : Type 0) → Plan Outcome
    → List (Event E F) → Type 0) (value : T) (plan : Plan Outcome)
    (next : T → World → Plan Outcome) (a b : Heard E F) (session : Server) →
    Serves plan next a b session (Ok value) → ServesTo Cuts plan next a b session (Ok value)
to_end Cuts value plan next a b session h = (h, tt)

-- it stopped so, and so it is otherwise
pub to_other : {T E F : Type 0} (Cuts Others : Cause E F → (starved : Type 0) → Plan Outcome
    → List (Event E F) → Type 0) (plan : Plan Outcome)
    (next : T → World → Plan Outcome) (a b : Heard E F) (session : Server)
    (result : Result T (RunError E F)) → ServesTo Cuts plan next a b session result →
    ((cause : Cause E F) (events : List (Event E F)) →
    Cuts cause (RoseIfKept a.starved b.starved) plan events →
    Others cause (RoseIfKept a.starved b.starved) plan events) →
    ServesTo Others plan next a b session result
to_other Cuts Others plan next a b session (Ok value) h f = (h.0, tt)
to_other Cuts Others plan next a b session (Err e) h f = (h.0, f (cause_of e) h.0.0 h.1)

-- an error of a part is passed on
pub passed_to : {T U E F : Type 0} (Cuts : Cause E F → (starved : Type 0) → Plan Outcome
    → List (Event E F) → Type 0) (plan : Plan Outcome) (mid : U → World → Plan Outcome)
    (next : T → World → Plan Outcome) (a b : Heard E F) (session session' : Server)
    (e : RunError E F) (result : Result T (RunError E F)) → IsErrAnd result (λ x. x ≡ e) →
    ServesTo {T = U} Cuts plan mid a b session (Err e) →
    ServesTo {T = T} Cuts plan next a b session' result
passed_to {T} Cuts plan mid next a b session session' e result h k =
    let p = err_from_is_err_and result h in
    subst (λ r. ServesTo {T = T} Cuts plan next a b session' r) (sym (p.1 ∙ ap Err p.2)) k

-- one part was served, and then the next
pub then_to : {T U E F : Type 0} (Cuts Others : Cause E F → (starved : Type 0) → Plan Outcome
    → List (Event E F) → Type 0) (value : U) (plan : Plan Outcome)
    (mid : U → World → Plan Outcome) (next : T → World → Plan Outcome) (a b c : Heard E F)
    (session session' : Server) (result : Result T (RunError E F)) →
    (first : Serves plan mid a b session (Ok value)) →
    ((w : World) → Refines session w → ServesTo Cuts (mid value w) next b c session' result) →
    ((cause : Cause E F) (w : World) (ys : List (Event E F)) → Reaches plan first.0 (mid value w) →
    Cuts cause (RoseIfKept b.starved c.starved) (mid value w) ys →
    Others cause (RoseIfKept a.starved c.starved) plan (first.0 ++ ys)) →
    ServesTo Others plan next a c session' result
unfolding served_both reached
then_to Cuts Others value plan mid next a b c session session' (Ok result) h k f =
    (served_both value plan mid next a b c session session' (Ok result) h (λ w r. (k w r).0), tt)
then_to Cuts Others value plan mid next a b c session session' (Err e) h k f = (
  served_both value plan mid next a b c session session' (Err e) h (λ w r. (k w r).0),
  f (cause_of e) h.2.0 (k h.2.0 h.2.2).0.0 h.2.1 (k h.2.0 h.2.2).1,
)

-- .. in which no frame was handed on
pub then_before : {T U E F : Type 0} (value : U) (plan : Plan Outcome)
    (mid : U → World → Plan Outcome) (next : T → World → Plan Outcome) (a b c : Heard E F)
    (session session' : Server) (result : Result T (RunError E F)) →
    (first : Serves plan mid a b session (Ok value)) → frames_in first.0 ≡ [] →
    ((w : World) → Refines session w →
    ServesTo IsCutBefore (mid value w) next b c session' result) →
    ServesTo IsCutBefore plan next a c session' result
then_before value plan mid next a b c session session' result first none k =
    then_to IsCutBefore IsCutBefore value plan mid next a b c session session' result first k
    (λ cause w ys reaches cut. before_then cause plan (mid value w) a.starved b.starved c.starved
    first.0 ys first.1.counted reaches none cut)

-- .. and the next is cut behind its frames
pub then_behind : {T U E F : Type 0} (value : U) (plan : Plan Outcome)
    (mid : U → World → Plan Outcome) (next : T → World → Plan Outcome) (a b c : Heard E F)
    (session session' : Server) (result : Result T (RunError E F)) →
    Serves plan mid a b session (Ok value) →
    ((w : World) → Refines session w →
    ServesTo IsCutBehind (mid value w) next b c session' result) →
    ServesTo IsCutBehind plan next a c session' result
then_behind value plan mid next a b c session session' result first k =
    then_to IsCutBehind IsCutBehind value plan mid next a b c session session' result first k
    (λ cause w ys reaches cut. behind_then cause plan (mid value w) a.starved b.starved c.starved
    first.0 ys first.1.counted reaches cut)

-- .. an exchange began for the peer's KEXINIT, and then it is cut before a frame more
pub then_kexinit : {E F : Type 0} (payload : List ℕ) (w : World)
    (next : Flow → World → Plan Outcome) (a b c : Heard E F) (session session' : Server)
    (result : Result Flow (RunError E F)) →
    Serves (acts (Exchanges Beginning ∷ Exchanges (Stepping payload) ∷ []) w)
    (λ (_ : Unit {0}). acts (Exchanges (Stepping payload) ∷ [])) a b session (Ok tt) →
    ((v : World) → Refines session v →
    ServesTo IsCutBefore (acts (Exchanges (Stepping payload) ∷ []) v) next b c session' result) →
    ServesTo IsCutInRow (acts (Exchanges Beginning ∷ Exchanges (Stepping payload) ∷ []) w) next a c
    session' result
then_kexinit payload w next a b c session session' result first k =
    then_to IsCutBefore IsCutInRow tt
    (acts (Exchanges Beginning ∷ Exchanges (Stepping payload) ∷ []) w)
    (λ (_ : Unit {0}). acts (Exchanges (Stepping payload) ∷ [])) next a b c session session' result
    first k (λ cause v ys reaches cut. behind_kexinit cause payload w v a.starved b.starved c.starved
    first.0 ys first.1.counted reaches cut)

-- the plan came to this, and from there on it was served
pub reached_to : {T E F : Type 0} (Cuts Others : Cause E F → (starved : Type 0) → Plan Outcome
    → List (Event E F) → Type 0) (plan mid : Plan Outcome) (next : T → World → Plan Outcome)
    (a b c : Heard E F) (xs : List (Event E F)) (session : Server)
    (result : Result T (RunError E F)) → Hears false a b xs → Reaches plan xs mid →
    ServesTo Cuts mid next b c session result →
    ((cause : Cause E F) (ys : List (Event E F)) →
    Cuts cause (RoseIfKept b.starved c.starved) mid ys →
    Others cause (RoseIfKept a.starved c.starved) plan (xs ++ ys)) →
    ServesTo Others plan next a c session result
unfolding reached
reached_to Cuts Others plan mid next a b c xs session (Ok value) h r k f =
    (reached plan mid next a b c xs session (Ok value) h r k.0, tt)
reached_to Cuts Others plan mid next a b c xs session (Err e) h r k f =
    (reached plan mid next a b c xs session (Err e) h r k.0, f (cause_of e) k.0.0 k.1)

-- memory was wanting before anything was told
pub starved_to : {T E F : Type 0} (plan : Plan Outcome) (next : T → World → Plan Outcome)
    (a : Heard E F) (session : Server) (e : RunError E F) (result : Result T (RunError E F)) →
    IsErrAnd result (λ x. x ≡ e) → e ≡ error.NoMemory →
    ServesTo IsCutBefore plan next a a session result
unfolding starves
starved_to {T} {E} {F} plan next a session e result h is =
    let p = err_from_is_err_and result h in
    subst (λ r. ServesTo {T = T} {E = E} {F = F} IsCutBefore plan next a a session r)
    (sym (p.1 ∙ ap Err (p.2 ∙ is))) (starves plan next a session, inl (tt, refl))

-- the exchange answered an error, or had no memory
pub exchange_failed_to : {T U E F : Type 0} (question : Question)
    (next : Answer question → Plan Outcome) (later : T → World → Plan Outcome)
    (call : Result U F → KexCall F) (a b : Heard E F) (session : Server) (fault : KexFault F) →
    Asks_exchange a b call (Err fault) →
    ((e : F) → Refuses {E = E} {F = F} question (Exchange_error e) (Stepped (call (Err e)))) →
    ServesTo {T = T} IsCutBefore (Ask question next) later a b session
    (Err (error_of_exchange fault))
unfolding exchange_failed
exchange_failed_to question next later call a b session (kex.Refused e) h refused = (
  exchange_failed question next later call a b session (kex.Refused e) h refused,
  inl (tt, refl),
)
exchange_failed_to question next later call a b session kex.NoMemory h refused = (
  exchange_failed question next later call a b session kex.NoMemory h refused,
  inl (tt, refl),
)

-- an answer of the exchange is no frame
pub asked_no_frame : {E F : Type 0} (question : Question) (answer : Answer question)
    (next : Answer question → Plan Outcome) (call : KexCall F) (a b : Heard E F) (w : World)
    (session : Server) (r : Refines session w) (alone : AsksExchangeAlone a b)
    (added : AddsOne a.steps b.steps call)
    (is : Answered {E = E} {F = F} question answer (Stepped call)) →
    frames_in (exchange_asked question answer next call a b w session r alone added is).0 ≡ []
unfolding exchange_asked
asked_no_frame question answer next call a b w session r alone added is = refl

-- acts that nothing follows are the whole row
pub completes_to : {E F : Type 0} (Cuts : Cause E F → (starved : Type 0) → Plan Outcome
    → List (Event E F) → Type 0) (now : List Act) (w : World) (a b : Heard E F)
    (session : Server) (result : Result (Unit {0}) (RunError E F)) →
    DoesTo Cuts now w a b session result →
    ServesTo Cuts (acts now w) (λ (_ : Unit {0}) world. Finish (Goes world)) a b session result
completes_to Cuts now w a b session result h =
    subst (λ l. ServesTo Cuts (acts l w) (λ (_ : Unit {0}) world. Finish (Goes world)) a b session
    result) (append-nil now) (h [])

-- a row that asks no exchange of keys hands no frame on
pub plain_row : {E F : Type 0} (plan : Plan Outcome) (a b : Heard E F) (session : Server)
    (result : Result Flow (RunError E F)) → NeverExchanges plan → SendsGiven plan →
    Completes plan a b session result → CompletesTo IsCutInRow plan a b session result
plain_row plan a b session (Ok flow) never sends h = (h, tt)
plain_row plan a b session (Err e) never sends h =
    (h, inl (none_caused (cause_of e) plan (Rose a.faults b.faults) h.0 never sends h.2))
