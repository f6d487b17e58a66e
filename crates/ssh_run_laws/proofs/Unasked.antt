-- Acts ask nobody whether a user is let in (RFC 4252 section 5).
use Rattle.std.proofs.Common.{◌≡◌, ◌+◌, ◌∙◌, ℕ, List, [], ◌∷◌, ◌++◌, map, Bool, true, false}
use Rattle.std.proofs.Common.{cond}
use Rattle.std.proofs.Common.{Option, Some, None, refl, sym, ap, subst}
use Rattle.ssh_link.specs.declared.command.Command.{Command}
use Rattle.ssh_link.specs.declared.link.TraceEntry.{TraceEntry}
use Rattle.ssh_link.specs.declared.link.TraceEntry.TheVariants.{Noticed, Sent}
use Rattle.ssh_link.specs.declared.outcome.CommandOutcome.{CommandOutcome}
use Rattle.ssh_link.specs.declared.outcome.CommandOutcome.TheVariants.{Accepted, Opened, Refused}
use Rattle.ssh_auth.specs.declared.call.Call.{Call}
use Rattle.ssh_auth.specs.declared.question.Question.{Question}
use Rattle.ssh_auth.specs.declared.question.Question.TheVariants.{Admits}
use Rattle.ssh_auth.specs.Plan.{Plan, Finish, Ask, Tell, Answer, Event, Called, Stepped, Told}
use Rattle.ssh_auth.specs.Plan.{Follows, calls_in}
use Rattle.ssh_auth.specs.Plan as plans
use Rattle.ssh_auth.specs.Was.{Admitted_so, Was, asked_of as asked_in, question_of, was}
use Rattle.ssh_auth.proofs.Back.{asked_so}
use Rattle.ssh_rules.specs.Acts.{Act, Notes, Calls, Judges_by, Listens_by, Adjusts_by, Turns}
use Rattle.ssh_rules.specs.Acts.{Is_over, Stops, Exchanges, Exchanging, Beginning, Stepping}
use Rattle.ssh_rules.specs.Acts.{acts, done, done_all, exchange_question, frames_given, moved}
use Rattle.ssh_rules.specs.Acts.{payloads_given, tell_all, tell_done}
use Rattle.ssh_rules.specs.Effect.{Brings, Effect, effect_at}
use Rattle.ssh_rules.specs.Outcome.{Outcome, Goes, Ends, Fails}
use Rattle.ssh_rules.specs.Run.{finish_input, begins, going_out, goes_unless_ended, handed_on}
use Rattle.ssh_rules.specs.Run.{is_due}
use Rattle.ssh_rules.specs.declared.request.ChannelRequest.{ChannelRequest}
use Rattle.ssh_rules.specs.World.{World}
use Rattle.ssh_run_laws.specs.Users.{first_of, first_user, user_so}

-- ---- the first of several

pub first_none : (o : Option (List ℕ)) → first_of o None ≡ o
first_none (Some user) = refl
first_none None = refl

pub first_both : (a b c : Option (List ℕ)) → first_of (first_of a b) c ≡ first_of a (first_of b c)
first_both (Some user) b c = refl
first_both None b c = refl

pub users_both : {E : Type 0} (xs ys : List (Call E))
    → first_user (xs ++ ys) ≡ first_of (first_user xs) (first_user ys)
users_both [] ys = refl
users_both (x ∷ xs) ys =
    ap (first_of (user_so (was x))) (users_both xs ys)
    ∙ sym (first_both (user_so (was x)) (first_user xs) (first_user ys))

pub calls_both : {E F : Type 0} (xs ys : List (Event E F))
    → calls_in (xs ++ ys) ≡ calls_in xs ++ calls_in ys
calls_both [] ys = refl
calls_both (Called call ∷ xs) ys = ap (λ l. call ∷ l) (calls_both xs ys)
calls_both (Stepped step ∷ xs) ys = calls_both xs ys
calls_both (Told entry ∷ xs) ys = calls_both xs ys

-- ---- where nobody is asked whether a user is let in

abbrev pub IsElse : Question → Type 0
IsElse (Admits admission) = ⊥
IsElse _ = Unit {0}

abbrev pub AsksElse : Plan Outcome → Type 0
AsksElse (Finish outcome) = Unit {0}
AsksElse (Ask question next) = IsElse question × ((answer : Answer question) → AsksElse (next answer))
AsksElse (Tell entry next) = AsksElse next

told_else : (entries : List TraceEntry) (next : Plan Outcome) → AsksElse next
    → AsksElse (tell_all entries next)
told_else [] next h = h
told_else (entry ∷ entries) next h = told_else entries next h

done_else : (place : ℕ) (came : CommandOutcome) (next : Plan Outcome) → AsksElse next
    → AsksElse (tell_done place came next)
done_else place Accepted next h = h
done_else place (Opened channel) next h = (tt, λ _. h)
done_else place (Refused why) next h = (tt, λ _. h)

pub one_else : (does : Effect) (next : CommandOutcome → World → Plan Outcome)
    → ((came : CommandOutcome) (v : World) → AsksElse (next came v)) → AsksElse (done does next)
one_else (Brings notices came v) next h =
    told_else (map Noticed notices) (next came v) (h came v)

pub all_else : (at : Option ChannelRequest) (place : ℕ) (commands : List Command) (w : World)
    (next : World → Plan Outcome) → ((v : World) → AsksElse (next v))
    → AsksElse (done_all at place commands w next)
all_else at place [] w next h = h w
all_else at place (one ∷ commands) w next h =
    one_else (effect_at at w one) (λ came v. tell_done place came
    (done_all at (place + 1) commands v next))
    (λ came v. done_else place came (done_all at (place + 1) commands v next)
    (all_else at (place + 1) commands v next h))

step_else : (asked : Exchanging) → IsElse (exchange_question asked)
step_else Beginning = tt
step_else (Stepping payload) = tt

pub acts_else : (now : List Act) (w : World) → AsksElse (acts now w)
acts_else [] w = tt
acts_else (Notes notice ∷ later) w = acts_else later w
acts_else (Calls at lent ∷ later) w = (
  tt,
  λ commands.
      all_else at 0 commands w (acts later) (λ v. acts_else later v),
)
acts_else (Judges_by at judged by ∷ later) w = (
  tt,
  λ answer.
      all_else at 0 answer.commands w (λ v. acts later (by answer.granted v))
      (λ v. acts_else later (by answer.granted v)),
)
acts_else (Listens_by address port by ∷ later) w = (
  tt,
  λ answer.
      all_else None 0 answer.commands w (λ v. acts later (by answer.granted answer.port v))
      (λ v. acts_else later (by answer.granted answer.port v)),
)
acts_else (Adjusts_by channel current by ∷ later) w =
    (tt, λ window. acts_else later (by window w))
acts_else (Exchanges asked ∷ later) w = (
  step_else asked,
  λ answer.
      told_else (map Sent (frames_given (payloads_given asked answer)))
      (acts later (moved asked answer w)) (acts_else later (moved asked answer w)),
)
acts_else (Turns by ∷ later) w = acts_else later (by w)
acts_else (Is_over ∷ later) w = tt
acts_else (Stops why ∷ later) w = tt

else_so : {E : Type 0} (x : Was E) (question : Question) → question_of x ≡ question
    → IsElse question → user_so x ≡ None
else_so (Admitted_so admission answer) question is h = absurd (subst IsElse (sym is) h)
else_so _ question is h = refl

else_called : {E F : Type 0} (question : Question) (answer : Answer question) (call : Call E)
    → plans.Answered {E = E} {F = F} question answer (Called call) → IsElse question
    → user_so (was call) ≡ None
else_called {E} {F} question answer call a h =
    let asked = asked_so {E = E} {F = F} question answer (Called call) a in
    let same : asked_in call ≡ question = cc in
    else_so (was call) question same h

pub follows_else : {E F : Type 0} (plan : Plan Outcome) (events : List (Event E F))
    (outcome : Outcome) → AsksElse plan → Follows plan events outcome
    → first_user (calls_in events) ≡ None
follows_else plan [] outcome h f = refl
follows_else (Finish other) (event ∷ events) outcome h f = absurd f
follows_else {E} {F} (Ask question next) (Called call ∷ events) outcome h f =
    ap (λ o. first_of o (first_user (calls_in events)))
    (else_called {E = E} {F = F} question f.0 call f.1 h.0)
    ∙ follows_else (next f.0) events outcome (h.1 f.0) f.2
follows_else (Ask question next) (Stepped step ∷ events) outcome h f =
    follows_else (next f.0) events outcome (h.1 f.0) f.2
follows_else (Ask question next) (Told entry ∷ events) outcome h f =
    follows_else (next f.0) events outcome (h.1 f.0) f.2
follows_else (Tell entry next) (Called call ∷ events) outcome h f = absurd (let e = f.0 in cc)
follows_else (Tell entry next) (Stepped step ∷ events) outcome h f =
    follows_else next events outcome h f.1
follows_else (Tell entry next) (Told told ∷ events) outcome h f =
    follows_else next events outcome h f.1

ended_else : (w : World) (ended due : Bool)
    → AsksElse (cond ended (Finish (Ends w)) (acts (begins due) w))
ended_else w true due = tt
ended_else w false due = acts_else (begins due) w

pub finish_else : (ticked : Bool) (outcome : Outcome) → AsksElse (finish_input ticked outcome)
finish_else ticked (Goes w) =
    let v = handed_on w in
    told_else (map Sent (going_out w)) (goes_unless_ended ticked v)
    (ended_else v v.disconnected (is_due ticked v))
finish_else ticked (Ends w) =
    told_else (map Sent (going_out w)) (Finish (Ends (handed_on w))) tt
finish_else ticked (Fails why) = tt
