-- How plans go on from one another, and that their events determine what comes of them.
use Rattle.std.proofs.Common.{◌≡◌, List, [], ◌∷◌, ◌++◌, map, refl, sym, ◌∙◌, subst, ap}
use Rattle.std.proofs.Common.{append_assoc}
use Rattle.ssh_auth.specs.declared.call.Call.{Call}
use Rattle.ssh_auth.specs.declared.question.Question.{Question}
use Rattle.ssh_auth.specs.Plan.{Answer, Answered, Refused, OutsideError, Plan, Finish, Ask, Tell}
use Rattle.ssh_auth.specs.Plan.{after, Event, Called, Stepped, Told, calls_in, steps_in, told_in}
use Rattle.ssh_auth.specs.Plan.{Reaches, Follows, Begins, Breaks}
use Rattle.ssh_auth.proofs.Back.{answered_once}

-- ---- a plan that has come to a rest

-- it goes on as the rest does
pub reaches_both : {E F O : Type 0} (plan mid rest : Plan O) (xs ys : List (Event E F))
    → Reaches plan xs mid → Reaches mid ys rest → Reaches plan (xs ++ ys) rest
reaches_both plan mid rest [] ys h k = subst (λ p. Reaches p ys rest) (sym h) k
reaches_both (Finish planned) mid rest (x ∷ xs) ys h k = absurd h
reaches_both (Ask question next) mid rest (x ∷ xs) ys h k =
    (h.0, h.1, reaches_both (next h.0) mid rest xs ys h.2 k)
reaches_both (Tell entry next) mid rest (x ∷ xs) ys h k =
    (h.0, reaches_both next mid rest xs ys h.1 k)

-- what follows it, follows the rest
pub reaches_after : {E F A B : Type 0} (plan rest : Plan A) (later : A → Plan B)
    (xs : List (Event E F)) → Reaches plan xs rest → Reaches (after plan later) xs
    (after rest later)
reaches_after plan rest later [] h = ap (λ p. after p later) h
reaches_after (Finish planned) rest later (x ∷ xs) h = absurd h
reaches_after (Ask question next) rest later (x ∷ xs) h =
    (h.0, h.1, reaches_after (next h.0) rest later xs h.2)
reaches_after (Tell entry next) rest later (x ∷ xs) h = (h.0, reaches_after next rest later xs h.1)

pub reaches_follows : {E F O : Type 0} (plan rest : Plan O) (xs ys : List (Event E F)) (outcome : O)
    → Reaches plan xs rest → Follows rest ys outcome → Follows plan (xs ++ ys) outcome
reaches_follows plan rest xs ys outcome h k = reaches_both plan rest (Finish outcome) xs ys h k

pub reaches_begins : {E F O : Type 0} (plan rest : Plan O) (xs ys : List (Event E F))
    → Reaches plan xs rest → Begins rest ys → Begins plan (xs ++ ys)
reaches_begins plan rest xs ys h k = (k.0, reaches_both plan rest k.0 xs ys h k.1)

pub reaches_breaks : {E F O : Type 0} (plan rest : Plan O) (xs ys : List (Event E F))
    (error : OutsideError E F) → Reaches plan xs rest → Breaks rest ys error
    → Breaks plan (xs ++ ys) error
reaches_breaks plan rest xs ys error h k = record {
  question = k.question;
  next = k.next;
  before = xs ++ k.before;
  last = k.last;
  is = ap (λ l. xs ++ l) k.is ∙ sym (append_assoc xs k.before (k.last ∷ []));
  reaches = reaches_both plan rest (Ask k.question k.next) xs k.before h k.reaches;
  refused = k.refused;
}

-- ---- a first question

-- it was answered by an error
pub breaks_first : {E F O : Type 0} (question : Question) (next : Answer question → Plan O)
    (event : Event E F) (error : OutsideError E F) →
    Refused question error event → Breaks (Ask question next) (event ∷ []) error
breaks_first question next event error h = record {
  question = question;
  next = next;
  before = [];
  last = event;
  is = refl;
  reaches = refl;
  refused = h;
}

-- it was answered, and a later one by an error
pub breaks_more : {E F O : Type 0} (question : Question) (next : Answer question → Plan O)
    (answer : Answer question) (event : Event E F)
    (events : List (Event E F)) (error : OutsideError E F) → Answered question answer event
    → Breaks (next answer) events error →
    Breaks (Ask question next) (event ∷ events) error
breaks_more question next answer event events error h k = reaches_breaks (Ask question next)
    (next answer) (event ∷ []) events error (answer, h, refl) k

-- ---- all events of a plan, and then those of the one that its outcome leads to

pub follows_after : {E F A B : Type 0} (plan : Plan A) (later : A → Plan B)
    (xs ys : List (Event E F)) (a : A) (b : B) →
    Follows plan xs a → Follows (later a) ys b → Follows (after plan later) (xs ++ ys) b
follows_after plan later xs ys a b h k = reaches_follows (after plan later) (later a) xs ys b
    (reaches_after plan (Finish a) later xs h) k

pub follows_begins : {E F A B : Type 0} (plan : Plan A) (later : A → Plan B)
    (xs ys : List (Event E F)) (a : A) →
    Follows plan xs a → Begins (later a) ys → Begins (after plan later) (xs ++ ys)
follows_begins plan later xs ys a h k = reaches_begins (after plan later) (later a) xs ys
    (reaches_after plan (Finish a) later xs h) k

pub follows_breaks : {E F A B : Type 0} (plan : Plan A) (later : A → Plan B)
    (xs ys : List (Event E F)) (a : A) (error : OutsideError E F) →
    Follows plan xs a → Breaks (later a) ys error → Breaks (after plan later) (xs ++ ys) error
follows_breaks plan later xs ys a error h k = reaches_breaks (after plan later) (later a) xs ys
    error (reaches_after plan (Finish a) later xs h) k

-- the first events of a plan are the first of what it goes on to
pub begins_after : {E F A B : Type 0} (plan : Plan A) (later : A → Plan B) (xs : List (Event E F))
    → Begins plan xs → Begins (after plan later) xs
begins_after plan later xs h = (after h.0 later, reaches_after plan h.0 later xs h.1)

-- a plan that breaks, breaks what it goes on to
pub breaks_after : {E F A B : Type 0} (plan : Plan A) (later : A → Plan B) (xs : List (Event E F))
    (error : OutsideError E F) →
    Breaks plan xs error → Breaks (after plan later) xs error
breaks_after plan later xs error h = record {
  question = h.question;
  next = λ answer. after (h.next answer) later;
  before = h.before;
  last = h.last;
  is = h.is;
  reaches = reaches_after plan (Ask h.question h.next) later h.before h.reaches;
  refused = h.refused;
}

-- the events of a plan are also its first events
pub follows_is_begun : {E F O : Type 0} (plan : Plan O) (events : List (Event E F)) (outcome : O)
    → Follows plan events outcome → Begins plan events
follows_is_begun plan events outcome h = (Finish outcome, h)

-- ---- events one after another, as calls, as steps and as what the link was told

pub calls_in_both : {E F : Type 0} (xs ys : List (Event E F)) → calls_in (xs ++ ys) ≡ calls_in xs
    ++ calls_in ys
calls_in_both [] ys = refl
calls_in_both (Called x ∷ xs) ys = ap (λ l. x ∷ l) (calls_in_both xs ys)
calls_in_both (Stepped x ∷ xs) ys = calls_in_both xs ys
calls_in_both (Told x ∷ xs) ys = calls_in_both xs ys

pub steps_in_both : {E F : Type 0} (xs ys : List (Event E F)) → steps_in (xs ++ ys) ≡ steps_in xs
    ++ steps_in ys
steps_in_both [] ys = refl
steps_in_both (Called x ∷ xs) ys = steps_in_both xs ys
steps_in_both (Stepped x ∷ xs) ys = ap (λ l. x ∷ l) (steps_in_both xs ys)
steps_in_both (Told x ∷ xs) ys = steps_in_both xs ys

pub told_in_both : {E F : Type 0} (xs ys : List (Event E F)) → told_in (xs ++ ys) ≡ told_in xs
    ++ told_in ys
told_in_both [] ys = refl
told_in_both (Called x ∷ xs) ys = told_in_both xs ys
told_in_both (Stepped x ∷ xs) ys = told_in_both xs ys
told_in_both (Told x ∷ xs) ys = ap (λ l. x ∷ l) (told_in_both xs ys)

-- calls alone
pub calls_of_calls : {E : Type 0} (F : Type 0) (calls : List (Call E)) → calls_in {E = E} {F = F}
    (map Called calls) ≡ calls
calls_of_calls F [] = refl
calls_of_calls F (x ∷ xs) = ap (λ l. x ∷ l) (calls_of_calls F xs)

pub steps_of_calls : {E : Type 0} (F : Type 0) (calls : List (Call E)) → steps_in {E = E} {F = F}
    (map Called calls) ≡ []
steps_of_calls F [] = refl
steps_of_calls F (x ∷ xs) = steps_of_calls F xs

pub told_of_calls : {E : Type 0} (F : Type 0) (calls : List (Call E)) → told_in {E = E} {F = F}
    (map Called calls) ≡ []
told_of_calls F [] = refl
told_of_calls F (x ∷ xs) = told_of_calls F xs

-- ---- the events determine what comes of a plan

pub follows_once : {E F O : Type 0} (plan : Plan O) (events : List (Event E F)) (o p : O)
    → Follows plan events o → Follows plan events p → o ≡ p
follows_once (Finish planned) [] o p h k = cc
follows_once (Finish planned) (x ∷ xs) o p h k = absurd h
follows_once (Ask question next) [] o p h k = cc
follows_once (Ask question next) (x ∷ xs) o p h k =
    let e : h.0 ≡ k.0 = answered_once question h.0 k.0 x h.1 k.1 in
    follows_once (next k.0) xs o p (subst (λ a. Follows (next a) xs o) e h.2) k.2
follows_once (Tell entry next) [] o p h k = cc
follows_once (Tell entry next) (x ∷ xs) o p h k = follows_once next xs o p h.1 k.1
