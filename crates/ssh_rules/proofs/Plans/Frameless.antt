-- A row that asks no exchange of keys anything hands no frame on: those that it writes are handed on
-- at the end of its input.
use Rattle.std.proofs.Common.{◌≡◌, List, [], ◌∷◌, ◌++◌, true, false, refl, sym, ◌∙◌, ap, subst}
use Rattle.std.proofs.Common.{None, Some, ℕ}
use Rattle.ssh_link.specs.Frames.{Frame}
use Rattle.ssh_link.specs.declared.link.TraceEntry.{TraceEntry}
use Rattle.ssh_link.specs.declared.link.TraceEntry.TheVariants.{Took, Sent, Noticed}
use Rattle.ssh_link.specs.declared.link.TraceEntry.TheVariants.{Answered as Replied_to}
use Rattle.ssh_auth.specs.declared.question.Question.{Question}
use Rattle.ssh_auth.specs.declared.question.Question.TheVariants as ask
use Rattle.ssh_auth.specs.Plan.{Plan, Finish, Ask, Tell, Answer, Event, Called, Stepped, Told}
use Rattle.ssh_auth.specs.Plan.{Handler_error, Exchange_error, OutsideError, Reaches, Breaks}
use Rattle.ssh_auth.specs.Plan.{asked_in}
use Rattle.ssh_auth.proofs.Back.{asked_so, refused_so}
use Rattle.ssh_rules.specs.Acts.{frames_given}
use Rattle.ssh_rules.specs.Cause.{Cause, Wants_memory, Link_failed, Limit_reached, Faulty}
use Rattle.ssh_rules.specs.Cause.{Refused_by, Broken_by, IsCaused}
use Rattle.ssh_rules.specs.Cut.{frames_in}
use Rattle.ssh_rules.specs.Outcome.{Outcome, Fails}
use Rattle.ssh_rules.proofs.Begins.Rows.{IsApart, NeverExchanges}
use Rattle.ssh_rules.proofs.Plans.Telling.{IsToldInTurn, Sends, SendsGiven, given_at, unsent_told}

-- ---- frames

pub frames_both : {E F : Type 0} (xs ys : List (Event E F)) →
    frames_in (xs ++ ys) ≡ frames_in xs ++ frames_in ys
frames_both [] ys = refl
frames_both (Called call ∷ xs) ys = frames_both xs ys
frames_both (Stepped step ∷ xs) ys = frames_both xs ys
frames_both (Told (Sent frame) ∷ xs) ys = ap (λ l. frame ∷ l) (frames_both xs ys)
frames_both (Told (Took commands replies input) ∷ xs) ys = frames_both xs ys
frames_both (Told (Noticed notice) ∷ xs) ys = frames_both xs ys
frames_both (Told (Replied_to ticket outcome) ∷ xs) ys = frames_both xs ys

-- none before
pub frames_later : {E F : Type 0} (xs ys : List (Event E F)) → frames_in xs ≡ [] →
    frames_in (xs ++ ys) ≡ frames_in ys
frames_later xs ys none = frames_both xs ys ∙ ap (λ l. l ++ frames_in ys) none

pub frames_nowhere : {E F : Type 0} (xs ys : List (Event E F)) → frames_in xs ≡ [] →
    frames_in ys ≡ [] → frames_in (xs ++ ys) ≡ []
frames_nowhere xs ys none later = frames_later xs ys none ∙ later

-- an answer is no frame
pub asked_frameless : {E F : Type 0} (question : Question) (event : Event E F)
    (events : List (Event E F)) → asked_in event ≡ Some question →
    frames_in (event ∷ events) ≡ frames_in events
asked_frameless question (Called call) events is = refl
asked_frameless question (Stepped step) events is = refl
asked_frameless question (Told entry) events is = absurd (cc)

-- ---- plans that ask no exchange

none_given : (question : Question) (answer : Answer question) → IsApart question →
    given_at question answer ≡ []
none_given ask.Banner answer h = refl
none_given (ask.Admits admission) answer h = refl
none_given (ask.Lends lent) answer h = refl
none_given (ask.Judges judged) answer h = refl
none_given (ask.Listens address port) answer h = refl
none_given (ask.Adjusts channel current) answer h = refl
none_given (ask.Done place outcome) answer h = refl
none_given ask.Begins answer h = absurd (let no : true ≡ false = h in cc)
none_given (ask.Steps payload) answer h = absurd (let no : true ≡ false = h in cc)

-- what is told is no frame
told_frameless : {E F : Type 0} (entry : TraceEntry) (event : Event E F)
    (events : List (Event E F)) → event ≡ Told entry → IsToldInTurn true [] entry →
    (frames_in (event ∷ events) ≡ frames_in events) × (unsent_told [] entry ≡ [])
told_frameless (Sent frame) event events is h = absurd (let no : true ≡ false = h in cc)
told_frameless (Took commands replies input) event events is h =
    (ap (λ x. frames_in (x ∷ events)) is, refl)
told_frameless (Noticed notice) event events is h = (ap (λ x. frames_in (x ∷ events)) is, refl)
told_frameless (Replied_to ticket outcome) event events is h =
    (ap (λ x. frames_in (x ∷ events)) is, refl)

pub none_in : {E F : Type 0} (plan : Plan Outcome) (events : List (Event E F))
    (rest : Plan Outcome) → NeverExchanges plan → SendsGiven plan → Reaches plan events rest →
    frames_in events ≡ []
none_in plan [] rest never sends r = refl
none_in (Ask question next) (event ∷ events) rest never sends r =
    asked_frameless question event events (asked_so question r.0 event r.1)
    ∙ none_in (next r.0) events rest (never.1 r.0)
    (subst (λ l. Sends (frames_given l) (next r.0)) (none_given question r.0 never.0)
    (sends.1 r.0)) r.2
none_in (Tell entry next) (event ∷ events) rest never sends r =
    let t = told_frameless entry event events r.0 sends.0 in
    t.0 ∙ none_in next events rest never (subst (λ l. Sends l next) t.1 sends.1) r.1
none_in (Finish outcome) (event ∷ events) rest never sends r = absurd r

none_broken : {E F : Type 0} (plan : Plan Outcome) (events : List (Event E F))
    (error : OutsideError E F) → NeverExchanges plan → SendsGiven plan →
    Breaks plan events error → frames_in events ≡ []
none_broken plan events error never sends b =
    ap frames_in b.is ∙ frames_nowhere b.before (b.last ∷ [])
    (none_in plan b.before (Ask b.question b.next) never sends b.reaches)
    (asked_frameless b.question b.last [] (refused_so b.question error b.last b.refused))

-- wherever such a plan stops, no frame was handed on
pub none_caused : {E F : Type 0} (cause : Cause E F) (plan : Plan Outcome) (rose : Type 0)
    (events : List (Event E F)) → NeverExchanges plan → SendsGiven plan →
    IsCaused cause plan rose events → frames_in events ≡ []
none_caused Wants_memory plan rose events never sends h = none_in plan events h.0 never sends h.1
none_caused Link_failed plan rose events never sends h =
    none_in plan events h.1.0 never sends h.1.1
none_caused Limit_reached plan rose events never sends h = absurd h
none_caused (Faulty fault) plan rose events never sends h =
    none_in plan events (Finish (Fails fault)) never sends h
none_caused (Refused_by e) plan rose events never sends h =
    none_broken plan events (Handler_error e) never sends h
none_caused (Broken_by e) plan rose events never sends h =
    none_broken plan events (Exchange_error e) never sends h
