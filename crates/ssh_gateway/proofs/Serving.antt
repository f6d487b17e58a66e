-- One input, by what `Session::step` says of it.
use Rattle.std.proofs.Common.{◌≡◌, ◌≢◌, ◌⊎◌, ℕ, List, [], Option, Some, None}
use Rattle.std.proofs.Common.{Ok, Err, refl, sym, ◌∙◌, ap, subst, inl, inr, Bool, true, false}
use Rattle.std.specs.Prelude.{flat_map}
use Rattle.ssh_link.specs.Told.{Adds, ToldBy}
use Rattle.ssh_link.specs.declared.frame.Input.{Input}
use Rattle.ssh_link.specs.declared.notice.Notice.{Notice}
use Rattle.ssh_auth.specs.declared.call.Call.{Call}
use Rattle.ssh_auth.specs.declared.question.Question.{Question}
use Rattle.ssh_auth.specs.Plan.{Plan, calls_in}
use Rattle.ssh_auth.specs.Publickey.{Acceptance}
use Rattle.ssh_handler.specs.declared.recorded.RecordError.{RecordError}
use Rattle.ssh_handler.specs.declared.recorded.RecordError.TheVariants as record_error
use Rattle.ssh_handler.specs.OwnCalls.{own_calls}
use Rattle.ssh_rules.specs.declared.error.Flow.{Flow}
use Rattle.ssh_rules.specs.declared.error.Flow.TheVariants.{Continue, Ended}
use Rattle.ssh_rules.specs.declared.error.RunError.{RunError}
use Rattle.ssh_rules.specs.declared.error.RunError.TheVariants as run
use Rattle.ssh_rules.specs.Account.{Told}
use Rattle.ssh_rules.specs.Cause.{may_stop}
use Rattle.ssh_rules.specs.Outcome.{Outcome, Goes, Ends}
use Rattle.ssh_rules.specs.Run.{Owes}
use Rattle.ssh_rules.specs.World.{World}
use Rattle.ssh_session.specs.Between.{OwesNotices, StepsAfter}
use Rattle.ssh_session.specs.Steps.{Steps}
use Rattle.ssh_session.specs.declared.session.Session.{Session}
use Rattle.ssh_drive.proofs.Serving.{steps_now, taken_now}
use Rattle.ssh_gateway.specs.declared.error.GatewayError.{GatewayError}
use Rattle.ssh_gateway.specs.declared.error.GatewayError.TheVariants as error
use Rattle.ssh_gateway.specs.Admitting.{admission, admissions}
use Rattle.ssh_gateway.specs.Answering.{answered, told_of}
use Rattle.ssh_gateway.specs.Raised.{lowered}
use Rattle.ssh_gateway.specs.Serving.{Beneath, OwesOrNothing, Serves, Stops, ServesOrStops}
use Rattle.ssh_gateway.specs.Serving.{KeepsTelling, UnlessSilenced, UnlessCallbackFailed}
use Rattle.ssh_gateway.proofs.Heard.{heard}

abbrev under : {E F : Type 0} → Told E F → Beneath F
under told = record { steps = told.steps; trace = told.trace; faults = told.faults }

serves : {E F : Type 0} (accepts : Acceptance) (w : World) (input : Input) (name name' : ℕ)
    (calls : List (Call E)) (told : Option (List (Call E))) (asked : Option (List Question))
    (before after : Told (RecordError E) F) (session : Session) (flow : Flow)
    → Steps (Owes accepts w input) before after session (Ok flow)
    → before.calls ≡ told_of name (Some calls) (Some [])
    → after.calls ≡ told_of name' told asked
    → Serves accepts w input name name' calls told asked (under before) (under after) session flow
serves {E} {F} accepts w input name name' calls told asked before after session Continue step was is =
    let told_so = subst (λ b. Adds b (told_of name' told asked) (calls_in step.events)) was
    (subst (λ a. Adds before.calls a (calls_in step.events)) is step.called) in
    let h = heard name name' calls told asked (calls_in step.events) told_so in
    record {
      plan = step.plan;
      owes = step.owes;
      events = step.events;
      outcome = Goes step.comes.0;
      follows = step.comes.1;
      served = step.comes.2;
      stepped = step.stepped;
      told_link = step.told;
      same = h.same;
      admitted = (h.after, h.told_is, h.admitted);
      questions = h.questions;
      kept = h.kept;
      answered = h.answered_is;
      later = step.later;
    }
serves {E} {F} accepts w input name name' calls told asked before after session Ended step was is =
    let told_so = subst (λ b. Adds b (told_of name' told asked) (calls_in step.events)) was
    (subst (λ a. Adds before.calls a (calls_in step.events)) is step.called) in
    let h = heard name name' calls told asked (calls_in step.events) told_so in
    record {
      plan = step.plan;
      owes = step.owes;
      events = step.events;
      outcome = Ends step.comes.0;
      follows = step.comes.1;
      served = tt;
      stepped = step.stepped;
      told_link = step.told;
      same = h.same;
      admitted = (h.after, h.told_is, h.admitted);
      questions = h.questions;
      kept = h.kept;
      answered = h.answered_is;
      later = step.later;
    }

-- ---- it was not finished

-- what was told is exact, unless the handler answered an error of its own and tells no longer
told_unless : {E F : Type 0} (why : RunError (RecordError E) F) (Silent P : Type 0)
    → (may_stop {T = Flow} (Err why) ≡ false → P)
    → (may_stop {T = Flow} (Err why) ≡ true → Silent ⊎ P) → lowered why ≢ error.NoMemory
    → UnlessSilenced (lowered why) Silent P
told_unless run.NoMemory Silent P told either other = absurd (other refl)
told_unless (run.Handler (record_error.Inner e)) Silent P told either other = either refl
told_unless (run.Handler record_error.NoMemory) Silent P told either other = absurd (other refl)
told_unless (run.Handler record_error.Untold) Silent P told either other = absurd (other refl)
told_unless run.LinkFault Silent P told either other = told refl
told_unless run.InputLimit Silent P told either other = told refl
told_unless (run.Encoding e) Silent P told either other = told refl
told_unless run.Inconsistent Silent P told either other = told refl
told_unless run.Pending Silent P told either other = told refl
told_unless (run.Key e) Silent P told either other = told refl
told_unless run.UnsupportedAuthMethod Silent P told either other = told refl
told_unless (run.Kex e) Silent P told either other = told refl
told_unless run.ChannelsFull Silent P told either other = told refl
told_unless run.KeepaliveTimeout Silent P told either other = told refl
told_unless run.InactivityTimeout Silent P told either other = told refl

-- where no callback answered an error, what was told is exact
told_if : {E F : Type 0} (why : RunError (RecordError E) F) (P : Type 0)
    → (may_stop {T = Flow} (Err why) ≡ false → P) → UnlessCallbackFailed why P
told_if (run.Handler e) P told = tt
told_if why P told = told refl

-- the questions that a notebook has
abbrev kept_in : Option (List Question) → List Question
kept_in None = []
kept_in (Some questions) = questions

abbrev KeepsAll : {E : Type 0} → (name name' : ℕ) → (calls : List (Call E))
    → (told : Option (List (Call E))) → (asked : Option (List Question))
    → (made : List (Call (RecordError E))) → Type 0
KeepsAll name name' calls told asked made =
    KeepsTelling name name' calls told (flat_map admission made)
    × (own_calls made ≡ flat_map answered (kept_in asked))

keeps_all : {E : Type 0} (name name' : ℕ) (calls : List (Call E))
    (told : Option (List (Call E))) (asked : Option (List Question))
    (made : List (Call (RecordError E)))
    → Adds (told_of name (Some calls) (Some [])) (told_of name' told asked) made
    → KeepsAll name name' calls told asked made
keeps_all name name' calls told asked made tells =
    let h = heard name name' calls told asked made tells in (
      (h.same, (h.after, h.told_is, h.admitted)),
      h.answered_is ∙ ap (λ q. flat_map answered q) (sym (ap kept_in h.kept)),
    )

keeps_telling : {E : Type 0} (name name' : ℕ) (calls : List (Call E))
    (told : Option (List (Call E))) (asked : Option (List Question))
    (made : List (Call (RecordError E)))
    (stops : Bool) → stops ≡ false
    → ToldBy stops (told_of name (Some calls) (Some [])) (told_of name' told asked) made
    → KeepsAll name name' calls told asked made
keeps_telling name name' calls told asked made true never tells = absurd (cc)
keeps_telling name name' calls told asked made false goes tells =
    keeps_all name name' calls told asked made tells

-- .. or the handler of authentication tells no longer, where the notebook has what was asked
keeps_or_silent : {E : Type 0} (name name' : ℕ) (calls : List (Call E))
    (told : Option (List (Call E))) (asked : Option (List Question))
    (made : List (Call (RecordError E)))
    (stops : Bool) → (questions : List Question) × (asked ≡ Some questions) → stops ≡ true
    → ToldBy stops (told_of name (Some calls) (Some [])) (told_of name' told asked) made
    → (told ≡ None) ⊎ KeepsAll name name' calls told asked made
keeps_or_silent name name' calls told asked made false kept stops tells = absurd (cc)
keeps_or_silent name name' calls told None made true (questions, kept) stops tells = absurd (cc)
keeps_or_silent name name' calls None (Some questions) made true kept stops tells = inl refl
keeps_or_silent name name' calls (Some after) (Some questions) made true kept stops tells =
    inr (keeps_all name name' calls (Some after) (Some questions) made (ap Some tells))

stops_by : {E F : Type 0} (accepts : Acceptance) (w : World) (input : Input) (name name' : ℕ)
    (calls : List (Call E)) (told : Option (List (Call E))) (asked : Option (List Question))
    (before after : Told (RecordError E) F) (session : Session) (why : RunError (RecordError E) F)
    (e : GatewayError E F) (IsOwed : Plan Outcome → Type 0)
    → ((plan : Plan Outcome) → IsOwed plan → OwesOrNothing accepts w input plan)
    → (e ≢ error.NoMemory → e ≡ lowered why)
    → (e ≢ error.NoMemory → (questions : List Question) × (asked ≡ Some questions))
    → Steps IsOwed before after session (Err why)
    → before.calls ≡ told_of name (Some calls) (Some [])
    → after.calls ≡ told_of name' told asked
    → Stops accepts w input name name' calls told (under before) (under after) e
stops_by accepts w input name name' calls told asked before after session why e IsOwed owed named
    kept step was is =
    let called = subst (λ b. ToldBy (may_stop {T = Flow} (Err why)) b
    (told_of name' told asked) (calls_in step.events)) was
    (subst (λ a. ToldBy (may_stop {T = Flow} (Err why)) before.calls a
    (calls_in step.events)) is step.called) in
    record {
      plan = step.plan;
      owes = owed step.plan step.owes;
      events = step.events;
      why = why;
      is = named;
      caused = step.comes;
      stepped = step.stepped;
      told_link = step.told;
      later = step.later;
      questions = kept_in asked;
      exact = told_if why _ (λ goes. keeps_telling name name' calls told asked
          (calls_in step.events) (may_stop {T = Flow} (Err why)) goes called);
      handler = λ other.
          let keeps = KeepsAll name name' calls told asked (calls_in step.events) in
          let lower = named other in
          subst (λ x. UnlessSilenced x (told ≡ None) keeps) (sym lower)
          (told_unless why (told ≡ None) keeps
          (λ goes. keeps_telling name name' calls told asked (calls_in step.events)
          (may_stop {T = Flow} (Err why)) goes called)
          (λ may. keeps_or_silent name name' calls told asked (calls_in step.events)
          (may_stop {T = Flow} (Err why)) (kept other) may called)
          (subst (λ x. x ≢ error.NoMemory) lower other));
    }

pub stops : {E F : Type 0} (accepts : Acceptance) (w : World) (input : Input)
    (name name' : ℕ) (calls : List (Call E)) (told : Option (List (Call E)))
    (asked : Option (List Question)) (notices : List Notice)
    (before after : Told (RecordError E) F) (session : Session)
    (why : RunError (RecordError E) F) (e : GatewayError E F)
    → (e ≢ error.NoMemory → e ≡ lowered why)
    → (e ≢ error.NoMemory → (questions : List Question) × (asked ≡ Some questions))
    → notices ≡ [] → w.disconnected ≡ false
    → StepsAfter notices accepts w input before after session (Err why)
    → before.calls ≡ told_of name (Some calls) (Some [])
    → after.calls ≡ told_of name' told asked
    → Stops accepts w input name name' calls told (under before) (under after) e
stops {E} {F} accepts w input name name' calls told asked notices before after session why e named kept
    none live taken was is = by (subst (λ n. StepsAfter n accepts w input before after session (Err why))
    none taken)
  where
    by : StepsAfter [] accepts w input before after session (Err why)
        → Stops accepts w input name name' calls told (under before) (under after) e
    by (inl step) = stops_by accepts w input name name' calls told asked before after session why e
        (Owes accepts w input) (λ plan owes. inl owes) named kept
        (steps_now [] accepts w input before after session (Err why) refl live step) was is
    by (inr (e2, is2, step)) = stops_by accepts w input name name' calls told asked before after
        session why e (OwesNotices [] w) (λ plan owes. inr owes) named kept step was is

pub served_so : {E F : Type 0} (accepts : Acceptance) (w : World) (input : Input)
    (name name' : ℕ) (calls : List (Call E)) (told : Option (List (Call E)))
    (asked : Option (List Question)) (notices : List Notice)
    (before after : Told (RecordError E) F) (session : Session) (flow : Flow)
    → notices ≡ [] → w.disconnected ≡ false
    → StepsAfter notices accepts w input before after session (Ok flow)
    → before.calls ≡ told_of name (Some calls) (Some [])
    → after.calls ≡ told_of name' told asked
    → ServesOrStops accepts w input name name' calls told asked (under before) (under after) session
    (Ok flow)
served_so accepts w input name name' calls told asked notices before after session flow none live taken
    was is =
    serves accepts w input name name' calls told asked before after session flow
    (taken_now notices accepts w input before after session flow none live taken) was is
