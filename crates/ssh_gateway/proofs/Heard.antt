-- What an input asked, by what the gateway's handler told of it.
use Rattle.std.proofs.Common.{◌≡◌, ℕ, List, [], ◌∷◌, ◌++◌, Option, Some, None, Ok, Err}
use Rattle.std.proofs.Common.{Bool, true, false, not, refl, sym, ◌∙◌, ap}
use Rattle.std.specs.Prelude.{flat_map}
use Rattle.std.proofs.lemmas.List.{append-nil}
use Rattle.std.proofs.lemmas.List.Concat.{flat_map-append}
use Rattle.std.proofs.lemmas.List.Elements.{filter-append}
use Rattle.ssh_link.specs.Told.{Adds}
use Rattle.ssh_auth.specs.declared.call.Call.{Call}
use Rattle.ssh_auth.specs.declared.call.Call.TheVariants as called
use Rattle.ssh_auth.specs.declared.question.Question.{Question}
use Rattle.ssh_auth.specs.declared.question.Question.TheVariants as ask
use Rattle.ssh_auth.specs.Was.{asked_of, question_of}
use Rattle.ssh_auth.proofs.Back.{lent_back, judged_back}
use Rattle.ssh_handler.specs.declared.recorded.RecordError.{RecordError}
use Rattle.ssh_handler.specs.OwnCalls.{is_own, own_calls}
use Rattle.ssh_gateway.specs.Admitting.{admission}
use Rattle.ssh_gateway.specs.Answering.{named, passed, lifted, of_authentication, answered, records}
use Rattle.ssh_gateway.specs.Answering.{told_of}

abbrev own : {E : Type 0} → Call E → Bool
own call = is_own (asked_of call)

own_join : {E : Type 0} (calls more : List (Call E)) →
    own_calls (calls ++ more) ≡ own_calls calls ++ own_calls more
own_join calls more = filter-append (λ call. own call) calls more

auth_join : {E : Type 0} (calls more : List (Call E)) →
    of_authentication (calls ++ more) ≡ of_authentication calls ++ of_authentication more
auth_join calls more = filter-append (λ call. not (own call)) calls more

-- ---- one call

-- a call that is a session's own is kept among these, and left out of those of authentication
own_kept : {E : Type 0} (call : Call E) → own call ≡ true → own_calls (call ∷ []) ≡ call ∷ []
own_kept call is = rw is refl

own_left : {E : Type 0} (call : Call E) → own call ≡ true → of_authentication (call ∷ []) ≡ []
own_left call is = rw is refl

-- what is of authentication is none of a session's own, and is of authentication
sorted : {E : Type 0} (b : Bool) (call : Call E) → own call ≡ b
    → (own_calls (of_authentication (call ∷ [])) ≡ [])
    × (of_authentication (of_authentication (call ∷ [])) ≡ of_authentication (call ∷ []))
sorted true call is = let left : of_authentication (call ∷ []) ≡ [] = own_left call is in
    (ap own_calls left, ap of_authentication left ∙ sym left)
sorted false call is =
    let kept : of_authentication (call ∷ []) ≡ call ∷ [] = rw is refl in
    let none : own_calls (call ∷ []) ≡ [] = rw is refl in
    (ap own_calls kept ∙ none, ap of_authentication kept)

-- ---- what is passed on, and what is answered by the rule

passed_none : {E : Type 0} (calls : List (Call E)) → own_calls (passed calls) ≡ []
passed_none [] = refl
passed_none (call ∷ calls) = own_join (of_authentication (lifted call ∷ [])) (passed calls)
    ∙ (ap (λ l. l ++ own_calls (passed calls)) ((sorted (own (lifted call)) (lifted call) refl).0)
    ∙ passed_none calls)

passed_all : {E : Type 0} (calls : List (Call E)) → of_authentication (passed calls) ≡ passed calls
passed_all [] = refl
passed_all (call ∷ calls) = auth_join (of_authentication (lifted call ∷ [])) (passed calls)
    ∙ (ap (λ l. l ++ of_authentication (passed calls))
    ((sorted (own (lifted call)) (lifted call) refl).1)
    ∙ ap (λ l. of_authentication (lifted call ∷ []) ++ l) (passed_all calls))

-- what a question is answered by is a session's own
answer_sorted : (E : Type 0) (question : Question)
    → (own_calls {E = E} (answered question) ≡ answered question)
    × (of_authentication {E = E} (answered question) ≡ [])
answer_sorted E ask.Banner = (refl, refl)
answer_sorted E (ask.Admits admission) = (refl, refl)
answer_sorted E (ask.Lends lent) =
    let is = ap (λ w. is_own (question_of w)) (lent_back E lent (Ok tt) (records lent)) in
    (own_kept _ is, own_left _ is)
answer_sorted E (ask.Judges judged) =
    let is = ap (λ w. is_own (question_of w)) (judged_back E judged (Ok false) []) in
    (own_kept _ is, own_left _ is)
answer_sorted E (ask.Listens address port) = (refl, refl)
answer_sorted E (ask.Adjusts channel current) = (refl, refl)
answer_sorted E (ask.Done place outcome) = (refl, refl)
answer_sorted E ask.Begins = (refl, refl)
answer_sorted E (ask.Steps payload) = (refl, refl)

answers_own : (E : Type 0) (questions : List Question)
    → own_calls {E = E} (flat_map answered questions) ≡ flat_map answered questions
answers_own E [] = refl
answers_own E (question ∷ questions) =
    own_join (answered question) (flat_map answered questions)
    ∙ (ap (λ l. l ++ own_calls {E = E} (flat_map answered questions)) ((answer_sorted E question).0)
    ∙ ap (λ l. answered question ++ l) (answers_own E questions))

answers_none : (E : Type 0) (questions : List Question)
    → of_authentication {E = E} (flat_map answered questions) ≡ []
answers_none E [] = refl
answers_none E (question ∷ questions) =
    auth_join (answered question) (flat_map answered questions)
    ∙ (ap (λ l. l ++ of_authentication {E = E} (flat_map answered questions))
    ((answer_sorted E question).1)
    ∙ answers_none E questions)

-- ---- the calls of authentication, as their own handler answered them

given_back : {E : Type 0} (call : Call E)
    → flat_map admission (of_authentication (lifted call ∷ [])) ≡ of_authentication (call ∷ [])
given_back (called.AuthenticationBanner (Ok banner)) = refl
given_back (called.AuthenticationBanner (Err e)) = refl
given_back (called.AuthNone user (Ok auth)) = refl
given_back (called.AuthNone user (Err e)) = refl
given_back (called.AuthPassword user password (Ok auth)) = refl
given_back (called.AuthPassword user password (Err e)) = refl
given_back (called.AuthPublickeyOffered user key algorithm (Ok auth)) = refl
given_back (called.AuthPublickeyOffered user key algorithm (Err e)) = refl
given_back (called.AuthPublickey user key algorithm (Ok auth)) = refl
given_back (called.AuthPublickey user key algorithm (Err e)) = refl
given_back (called.AuthOpensshCertificate user certificate (Ok auth)) = refl
given_back (called.AuthOpensshCertificate user certificate (Err e)) = refl
given_back (called.AuthKeyboardInteractive user submethods response (Ok auth)) = refl
given_back (called.AuthKeyboardInteractive user submethods response (Err e)) = refl
given_back call = refl

all_back : {E : Type 0} (calls : List (Call E))
    → flat_map admission (passed calls) ≡ of_authentication calls
all_back [] = refl
all_back (call ∷ calls) =
    flat_map-append admission (of_authentication (lifted call ∷ [])) (passed calls)
    ∙ (ap (λ l. l ++ flat_map admission (passed calls)) (given_back call)
    ∙ (ap (λ l. of_authentication (call ∷ []) ++ l) (all_back calls)
    ∙ sym (auth_join (call ∷ []) calls)))

-- a call that is a session's own is none of them
own_none : {E : Type 0} (call : Call (RecordError E)) → own call ≡ true → admission call ≡ []
own_none (called.AuthenticationBanner answer) is = absurd (cc)
own_none (called.AuthNone user answer) is = absurd (cc)
own_none (called.AuthPassword user password answer) is = absurd (cc)
own_none (called.AuthPublickeyOffered user key algorithm answer) is = absurd (cc)
own_none (called.AuthPublickey user key algorithm answer) is = absurd (cc)
own_none (called.AuthOpensshCertificate user certificate answer) is = absurd (cc)
own_none (called.AuthKeyboardInteractive user submethods response answer) is = absurd (cc)
own_none call is = refl

one_admitted : {E : Type 0} (b : Bool) (call : Call (RecordError E)) → own call ≡ b
    → flat_map admission (of_authentication (call ∷ [])) ≡ admission call
one_admitted true call is =
    ap (λ l. flat_map admission l) (own_left call is) ∙ sym (own_none call is)
one_admitted false call is =
    let kept : of_authentication (call ∷ []) ≡ call ∷ [] = rw is refl in
    ap (λ l. flat_map admission l) kept ∙ append-nil (admission call)

all_admitted : {E : Type 0} (made : List (Call (RecordError E)))
    → flat_map admission (of_authentication made) ≡ flat_map admission made
all_admitted [] = refl
all_admitted (call ∷ made) =
    ap (λ l. flat_map admission l) (auth_join (call ∷ []) made)
    ∙ (flat_map-append admission (of_authentication (call ∷ [])) (of_authentication made)
    ∙ (ap (λ l. l ++ flat_map admission (of_authentication made))
    (one_admitted (own call) call refl)
    ∙ ap (λ l. admission call ++ l) (all_admitted made)))

admitted_so : {E : Type 0} (calls after : List (Call E)) (made : List (Call (RecordError E)))
    → passed after ≡ passed calls ++ of_authentication made
    → of_authentication after ≡ of_authentication calls ++ flat_map admission made
admitted_so calls after made is =
    sym (all_back after)
    ∙ (ap (λ l. flat_map admission l) is
    ∙ (flat_map-append admission (passed calls) (of_authentication made)
    ∙ (ap (λ l. l ++ flat_map admission (of_authentication made)) (all_back calls)
    ∙ ap (λ l. of_authentication calls ++ l) (all_admitted made))))

-- ---- an input

-- what was told before it and after it says whose calls they are, which of them are of
-- authentication, and what else was asked
pub record Heard {E : Type 0} (name name' : ℕ) (calls : List (Call E))
    (told : Option (List (Call E))) (asked : Option (List Question))
    (made : List (Call (RecordError E))) : Type 0 where
  pub same : name' ≡ name
  pub after : List (Call E)
  pub told_is : told ≡ Some after
  pub admitted : of_authentication after ≡ of_authentication calls ++ flat_map admission made
  pub questions : List Question
  pub kept : asked ≡ Some questions
  pub answered_is : own_calls made ≡ flat_map answered questions

heard_lists : {E : Type 0} (calls after : List (Call E)) (questions : List Question)
    (made : List (Call (RecordError E)))
    → passed after ++ flat_map answered questions ≡ (passed calls ++ []) ++ made
    → (own_calls made ≡ flat_map answered questions)
    × (passed after ≡ passed calls ++ of_authentication made)
heard_lists {E} calls after questions made is =
    let answers = flat_map answered questions in
    let all : passed after ++ answers ≡ passed calls ++ made =
    is ∙ ap (λ l. l ++ made) (append-nil (passed calls)) in
    let left : own_calls (passed after ++ answers) ≡ answers =
    own_join (passed after) answers
    ∙ (ap (λ l. l ++ own_calls answers) (passed_none after)
    ∙ answers_own (RecordError E) questions) in
    let right : own_calls (passed calls ++ made) ≡ own_calls made =
    own_join (passed calls) made ∙ ap (λ l. l ++ own_calls made) (passed_none calls) in
    let left' : of_authentication (passed after ++ answers) ≡ passed after =
    auth_join (passed after) answers
    ∙ (ap (λ l. of_authentication (passed after) ++ l) (answers_none (RecordError E) questions)
    ∙ (append-nil (of_authentication (passed after)) ∙ passed_all after)) in
    let right' : of_authentication (passed calls ++ made)
    ≡ passed calls ++ of_authentication made =
    auth_join (passed calls) made
    ∙ ap (λ l. l ++ of_authentication made) (passed_all calls) in (
      sym right ∙ (ap own_calls (sym all) ∙ left),
      sym left' ∙ (ap of_authentication all ∙ right'),
    )

same_name : {E : Type 0} (name name' : ℕ) (xs ys : List (Call E))
    → Some (named name' ∷ xs) ≡ Some (named name ∷ ys) → (name' ≡ name) × (xs ≡ ys)
same_name name name' xs ys is = (cc, cc)

pub heard : {E : Type 0} (name name' : ℕ) (calls : List (Call E)) (told : Option (List (Call E)))
    (asked : Option (List Question)) (made : List (Call (RecordError E)))
    → Adds (told_of name (Some calls) (Some [])) (told_of name' told asked) made
    → Heard name name' calls told asked made
heard name name' calls None asked made h = absurd (cc)
heard name name' calls (Some after) None made h = absurd (cc)
heard name name' calls (Some after) (Some questions) made h =
    let both = same_name name name' (passed after ++ flat_map answered questions)
    ((passed calls ++ []) ++ made) h in
    let lists = heard_lists calls after questions made both.1 in
    record {
      same = both.0;
      after = after;
      told_is = refl;
      admitted = admitted_so calls after made lists.1;
      questions = questions;
      kept = refl;
      answered_is = lists.0;
    }
