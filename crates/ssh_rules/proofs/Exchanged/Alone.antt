-- A plan hands on the frames of an exchange of keys in their turn, and while one runs no others, as
-- long as the connection was not ended (RFC 4253 section 7.1).
use Rattle.std.proofs.Common.{◌≡◌, ◌&&◌, List, [], ◌∷◌, ◌++◌, map, Some, Bool, true, false, not}
use Rattle.std.proofs.Common.{cond, refl, sym, ◌∙◌, ap, subst, inl, inr}
use Rattle.ssh_link.specs.Frames.{Frame}
use Rattle.ssh_link.specs.declared.link.TraceEntry.{TraceEntry}
use Rattle.ssh_link.specs.declared.link.TraceEntry.TheVariants.{Sent}
use Rattle.ssh_auth.specs.declared.question.Question.{Question}
use Rattle.ssh_auth.specs.declared.question.Question.TheVariants as ask
use Rattle.ssh_auth.specs.Plan.{Plan, Finish, Ask, Tell, Answer, Event, Called, Stepped, Told}
use Rattle.ssh_auth.specs.Plan.{Follows, after, answered, asked_in}
use Rattle.ssh_auth.proofs.Back.{asked_so, refused_so}
use Rattle.ssh_channels.specs.Lines.{Lines, handed}
use Rattle.ssh_rules.specs.Acts.{Beginning, tell_all, acts, frames_given, moved}
use Rattle.ssh_rules.specs.Exchanged.{runs_after, runs_through, unsent_after, unsent_through}
use Rattle.ssh_rules.specs.Exchanged.{IsInTurn}
use Rattle.ssh_rules.specs.Outcome.{Outcome, Goes, Ends, Fails}
use Rattle.ssh_rules.specs.Run.{finish_input, handed_on, going_out, goes_unless_ended, begins}
use Rattle.ssh_rules.specs.Run.{is_due, is_over}
use Rattle.ssh_rules.specs.World.{World, in_exchange}
use Rattle.ssh_rules.proofs.Ended.Run.{IsLive}
use Rattle.ssh_rules.proofs.Authorised.Guards.{Walks, follows_walks}
use Rattle.ssh_rules.proofs.Exchanged.Events.{Runs, runs_then, tells_run}
use Rattle.ssh_rules.proofs.Plans.Telling.{IsToldInTurn, Sends, given_at, unsent_told, acts_given}

-- ---- plans

-- whatever is answered, the exchange's frames are told in their turn; and while one runs no others,
-- where it holds them
abbrev pub Alone : (holds running : Bool) → (unsent : List Frame) → Plan Outcome → Type 0
Alone holds running unsent (Finish outcome) = unsent ≡ []
Alone holds running unsent (Ask question next) = (unsent ≡ [])
    × ((answer : Answer question) → Alone holds (runs_then question answer running)
    (frames_given (given_at question answer)) (next answer))
Alone holds running unsent (Tell entry next) = IsToldInTurn (holds && running) unsent entry
    × Alone holds running (unsent_told unsent entry) next

pub any_turn : (holding : Bool) (unsent : List Frame) (entry : TraceEntry) →
    IsToldInTurn true unsent entry → IsToldInTurn holding unsent entry
any_turn holding (first ∷ later) entry h = h
any_turn holding [] (Sent frame) h = absurd (let no : true ≡ false = h in cc)
any_turn holding [] entry h = tt

sends_alone : (holds running : Bool) (unsent : List Frame) (plan : Plan Outcome) →
    Sends unsent plan → Alone holds running unsent plan
sends_alone holds running unsent (Finish outcome) s = s
sends_alone holds running unsent (Ask question next) s = (
  s.0,
  λ answer. sends_alone holds (runs_then question answer running)
      (frames_given (given_at question answer)) (next answer) (s.1 answer),
)
sends_alone holds running unsent (Tell entry next) s = (
  any_turn (holds && running) unsent entry s.0,
  sends_alone holds running (unsent_told unsent entry) next s.1,
)

-- where nothing is held each frame may be told
free_alone : (holds running : Bool) (frames : List Frame) (next : Plan Outcome) →
    (holds && running) ≡ false → Alone holds running [] next →
    Alone holds running [] (tell_all (map Sent frames) next)
free_alone holds running [] next is h = h
free_alone holds running (frame ∷ frames) next is h =
    (is, free_alone holds running frames next is h)

-- in an exchange nothing else is handed on, where the connection was not ended
handed_alone : (running ended : Bool) (l : Lines) (next : Plan Outcome) → ended ≡ false →
    Alone true running [] next →
    Alone true running [] (tell_all (map Sent (handed (running && not ended) l)) next)
handed_alone running true l next live h = absurd (cc)
handed_alone true false l next live h = h
handed_alone false false l next live h = free_alone true false l.written next refl h

ends_alone : (holds running ended due : Bool) (w : World) →
    Alone holds running [] (cond ended (Finish (Ends w)) (acts (begins due) w))
ends_alone holds running true due w = refl
ends_alone holds running false due w =
    sends_alone holds running [] (acts (begins due) w) (acts_given (begins due) w)

pub goes_alone : (ticked : Bool) (w : World) → IsLive w →
    Alone true (in_exchange w) [] (finish_input ticked (Goes w))
goes_alone ticked w live =
    let v = handed_on w in
    handed_alone (in_exchange w) w.disconnected w.channels.lines (goes_unless_ended ticked v) live
    (ends_alone true (in_exchange w) v.disconnected (is_due ticked v) v)

pub over_alone : (ticked : Bool) (w : World) → IsLive w →
    Alone true (in_exchange w) [] (finish_input ticked (Ends w))
over_alone ticked w live =
    handed_alone (in_exchange w) w.disconnected w.channels.lines (is_over (handed_on w)) live refl

-- where nothing is held all of an input is such
finish_free : (running ticked : Bool) (outcome : Outcome) →
    Alone false running [] (finish_input ticked outcome)
finish_free running ticked (Goes w) =
    let v = handed_on w in
    free_alone false running (going_out w) (goes_unless_ended ticked v) refl
    (ends_alone false running v.disconnected (is_due ticked v) v)
finish_free running ticked (Ends w) =
    free_alone false running (going_out w) (is_over (handed_on w)) refl refl
finish_free running ticked (Fails why) = refl

pub input_free : (running ticked : Bool) (unsent : List Frame) (plan : Plan Outcome) →
    Sends unsent plan → Alone false running unsent (after plan (finish_input ticked))
input_free running ticked unsent (Finish outcome) s =
    subst (λ l. Alone false running l (finish_input ticked outcome)) (sym s)
    (finish_free running ticked outcome)
input_free running ticked unsent (Ask question next) s = (
  s.0,
  λ answer. input_free (runs_then question answer running) ticked
      (frames_given (given_at question answer)) (next answer) (s.1 answer),
)
input_free running ticked unsent (Tell entry next) s = (
  any_turn false unsent entry s.0,
  input_free running ticked (unsent_told unsent entry) next s.1,
)

-- at the end of an input one runs where it ran, or where this side began it
begun_runs : (due : Bool) (w : World) → Runs (in_exchange w) (acts (begins due) w)
begun_runs true w = λ payload.
    tells_run true (map Sent (frames_given (payload ∷ [])))
    (Finish (Goes (moved Beginning payload w))) refl
begun_runs false w = refl

ends_run : (ended due : Bool) (w : World) →
    Runs (in_exchange w) (cond ended (Finish (Ends w)) (acts (begins due) w))
ends_run true due w = refl
ends_run false due w = begun_runs due w

goes_run : (ticked : Bool) (w : World) → Runs (in_exchange w) (finish_input ticked (Goes w))
goes_run ticked w =
    let v = handed_on w in
    tells_run (in_exchange w) (map Sent (going_out w)) (goes_unless_ended ticked v)
    (ends_run v.disconnected (is_due ticked v) v)

-- ---- events

-- each of these happens in its turn
abbrev pub AllAlone : {E F : Type 0} → (holds running : Bool) → (unsent : List Frame)
    → List (Event E F) → Type 0
AllAlone holds running unsent [] = Unit {0}
AllAlone holds running unsent (event ∷ events) = IsInTurn (holds && running) unsent event
    × AllAlone holds (runs_after running event) (unsent_after unsent event) events

pub alone_both : {E F : Type 0} (holds running : Bool) (unsent : List Frame)
    (xs ys : List (Event E F)) → AllAlone holds running unsent xs →
    AllAlone holds (runs_through running xs) (unsent_through unsent xs) ys →
    AllAlone holds running unsent (xs ++ ys)
alone_both holds running unsent [] ys h k = k
alone_both holds running unsent (x ∷ xs) ys h k =
    (h.0, alone_both holds (runs_after running x) (unsent_after unsent x) xs ys h.1 k)

pub through_both : {E F : Type 0} (running : Bool) (xs ys : List (Event E F)) →
    runs_through running (xs ++ ys) ≡ runs_through (runs_through running xs) ys
through_both running [] ys = refl
through_both running (x ∷ xs) ys = through_both (runs_after running x) xs ys

pub unsent_both : {E F : Type 0} (unsent : List Frame) (xs ys : List (Event E F)) →
    unsent_through unsent (xs ++ ys) ≡ unsent_through (unsent_through unsent xs) ys
unsent_both unsent [] ys = refl
unsent_both unsent (x ∷ xs) ys = unsent_both (unsent_after unsent x) xs ys

pub alone_at : {E F : Type 0} (holds running : Bool) (unsent : List Frame)
    (past : List (Event E F)) (event : Event E F) (more : List (Event E F)) →
    AllAlone holds running unsent (past ++ event ∷ more) →
    IsInTurn (holds && runs_through running past) (unsent_through unsent past) event
alone_at holds running unsent [] event more h = h.0
alone_at holds running unsent (x ∷ past) event more h =
    alone_at holds (runs_after running x) (unsent_after unsent x) past event more h.1

told_turn : (E F : Type 0) (holding : Bool) (unsent : List Frame) (entry : TraceEntry) →
    IsToldInTurn holding unsent entry → IsInTurn {E = E} {F = F} holding unsent (Told entry)
told_turn E F holding (first ∷ later) entry h = ap Told h
told_turn E F holding [] (Sent frame) h = h
told_turn E F holding [] entry h = tt

-- what is asked is no frame
asked_still : {E F : Type 0} (holding : Bool) (question : Question) (event : Event E F) →
    asked_in event ≡ Some question → IsInTurn holding [] event
asked_still holding question (Called call) is = tt
asked_still holding question (Stepped step) is = tt
asked_still holding question (Told entry) is = absurd (cc)

pub asked_turn : {E F : Type 0} (holding : Bool) (unsent : List Frame) (question : Question)
    (event : Event E F) → asked_in event ≡ Some question → unsent ≡ [] →
    IsInTurn holding unsent event
asked_turn holding unsent question event is none =
    subst (λ l. IsInTurn holding l event) (sym none) (asked_still holding question event is)

answered_runs : (E F : Type 0) (question : Question) (answer : Answer question)
    (running : Bool) → runs_after running (answered {E = E} {F = F} question answer)
    ≡ runs_then question answer running
answered_runs E F ask.Banner answer running = refl
answered_runs E F (ask.Admits admission) answer running = refl
answered_runs E F (ask.Lends lent) answer running = refl
answered_runs E F (ask.Judges judged) answer running = refl
answered_runs E F (ask.Listens address port) answer running = refl
answered_runs E F (ask.Adjusts channel current) answer running = refl
answered_runs E F (ask.Done place outcome) answer running = refl
answered_runs E F ask.Begins answer running = refl
answered_runs E F (ask.Steps payload) answer running = refl

pub event_runs : {E F : Type 0} (question : Question) (answer : Answer question)
    (event : Event E F) (running : Bool) → event ≡ answered question answer →
    runs_after running event ≡ runs_then question answer running
event_runs {E} {F} question answer event running is =
    ap (runs_after running) is ∙ answered_runs E F question answer running

answered_unsent : (E F : Type 0) (question : Question) (answer : Answer question) →
    unsent_after [] (answered {E = E} {F = F} question answer)
    ≡ frames_given (given_at question answer)
answered_unsent E F ask.Banner answer = refl
answered_unsent E F (ask.Admits admission) answer = refl
answered_unsent E F (ask.Lends lent) answer = refl
answered_unsent E F (ask.Judges judged) answer = refl
answered_unsent E F (ask.Listens address port) answer = refl
answered_unsent E F (ask.Adjusts channel current) answer = refl
answered_unsent E F (ask.Done place outcome) answer = refl
answered_unsent E F ask.Begins answer = refl
answered_unsent E F (ask.Steps payload) answer = refl

pub event_unsent : {E F : Type 0} (question : Question) (answer : Answer question)
    (event : Event E F) (unsent : List Frame) → event ≡ answered question answer →
    unsent ≡ [] → unsent_after unsent event ≡ frames_given (given_at question answer)
event_unsent {E} {F} question answer event unsent is none =
    ap (λ l. unsent_after l event) none
    ∙ (ap (unsent_after []) is ∙ answered_unsent E F question answer)

told_unsent : (E F : Type 0) (unsent : List Frame) (entry : TraceEntry) →
    unsent_after {E = E} {F = F} unsent (Told entry) ≡ unsent_told unsent entry
told_unsent E F unsent (Sent frame) = refl
told_unsent E F unsent entry = refl

pub entry_unsent : {E F : Type 0} (entry : TraceEntry) (event : Event E F)
    (unsent : List Frame) → event ≡ Told entry →
    unsent_after unsent event ≡ unsent_told unsent entry
entry_unsent {E} {F} entry event unsent is =
    ap (unsent_after unsent) is ∙ told_unsent E F unsent entry

-- an answered question, and then these
pub asked_alone : {E F : Type 0} (question : Question) (answer : Answer question)
    (event : Event E F) (events : List (Event E F)) (holds running : Bool)
    (unsent : List Frame) → event ≡ answered question answer → unsent ≡ [] →
    AllAlone holds (runs_then question answer running) (frames_given (given_at question answer))
    events → AllAlone holds running unsent (event ∷ events)
asked_alone question answer event events holds running unsent is none h = (
  asked_turn (holds && running) unsent question event (asked_so question answer event is) none,
  subst (λ b. AllAlone holds b (unsent_after unsent event) events)
      (sym (event_runs question answer event running is))
      (subst (λ l. AllAlone holds (runs_then question answer running) l events)
      (sym (event_unsent question answer event unsent is none)) h),
)

-- what was told
pub told_alone : {E F : Type 0} (entry : TraceEntry) (event : Event E F)
    (events : List (Event E F)) (holds running : Bool) (unsent : List Frame) →
    event ≡ Told entry → IsToldInTurn (holds && running) unsent entry →
    AllAlone holds running (unsent_told unsent entry) events →
    AllAlone holds running unsent (event ∷ events)
told_alone {E} {F} entry event events holds running unsent is turn h =
    subst (λ x. AllAlone holds running unsent (x ∷ events)) (sym is) (
      told_turn E F (holds && running) unsent entry turn,
      subst (λ l. AllAlone holds running l events) (sym (told_unsent E F unsent entry)) h,
    )

pub walks_alone : {E F : Type 0} (holds running : Bool) (unsent : List Frame)
    (plan : Plan Outcome) (events : List (Event E F)) → Alone holds running unsent plan →
    Walks plan events → AllAlone holds running unsent events
walks_alone holds running unsent plan [] h w = tt
walks_alone holds running unsent (Finish outcome) (event ∷ events) h w = absurd w
walks_alone holds running unsent (Ask question next) (event ∷ events) h (inl w) =
    asked_alone question w.0 event events holds running unsent w.1 h.0
    (walks_alone holds (runs_then question w.0 running) (frames_given (given_at question w.0))
    (next w.0) events (h.1 w.0) w.2)
walks_alone holds running unsent (Ask question next) (event ∷ events) h (inr w) = (
  asked_turn (holds && running) unsent question event (refused_so question w.0 event w.1) h.0,
  subst (AllAlone holds (runs_after running event) (unsent_after unsent event)) (sym w.2) tt,
)
walks_alone holds running unsent (Tell entry next) (event ∷ events) h w =
    told_alone entry event events holds running unsent w.0 h.0
    (walks_alone holds running (unsent_told unsent entry) next events h.1 w.1)

-- the world that was come to
follows_run : {E F : Type 0} (running : Bool) (plan : Plan Outcome) (events : List (Event E F))
    (mid : World) → Runs running plan → Follows plan events (Goes mid) →
    in_exchange mid ≡ runs_through running events
follows_run running plan [] mid h f = subst (Runs running) f h
follows_run running (Finish other) (event ∷ events) mid h f = absurd f
follows_run {E} {F} running (Ask question next) (event ∷ events) mid h f =
    subst (λ b. in_exchange mid ≡ runs_through b events)
    (sym (event_runs question f.0 event running f.1))
    (follows_run (runs_then question f.0 running) (next f.0) events mid (h f.0) f.2)
follows_run running (Tell entry next) (event ∷ events) mid h f =
    subst (λ x. in_exchange mid ≡ runs_through running (x ∷ events)) (sym f.0)
    (follows_run running next events mid h f.1)

-- behind which all frames of the exchange were handed on
follows_sent : {E F : Type 0} (holds running : Bool) (unsent : List Frame) (plan : Plan Outcome)
    (events : List (Event E F)) (outcome : Outcome) → Alone holds running unsent plan →
    Follows plan events outcome → unsent_through unsent events ≡ []
follows_sent holds running unsent plan [] outcome h f = subst (Alone holds running unsent) f h
follows_sent holds running unsent (Finish other) (event ∷ events) outcome h f = absurd f
follows_sent holds running unsent (Ask question next) (event ∷ events) outcome h f =
    subst (λ l. unsent_through l events ≡ [])
    (sym (event_unsent question f.0 event unsent f.1 h.0))
    (follows_sent holds (runs_then question f.0 running) (frames_given (given_at question f.0))
    (next f.0) events outcome (h.1 f.0) f.2)
follows_sent holds running unsent (Tell entry next) (event ∷ events) outcome h f =
    subst (λ l. unsent_through l events ≡ []) (sym (entry_unsent entry event unsent f.0))
    (follows_sent holds running (unsent_told unsent entry) next events outcome h.1 f.1)

-- ---- the end of an input that goes on

-- all happened in its turn, all frames of the exchange were handed on, and one runs now where the
-- world says so
pub record Keeps {E F : Type 0} (running : Bool) (unsent : List Frame) (events : List (Event E F))
    (mid : World) : Type 0 where
  pub alone : AllAlone true running unsent events
  pub sent : unsent_through unsent events ≡ []
  pub runs : in_exchange mid ≡ runs_through running events

never_goes : {E F : Type 0} (entries : List TraceEntry) (w : World) (events : List (Event E F))
    (mid : World) → Follows (tell_all entries (Finish (Ends w))) events (Goes mid) → ⊥
never_goes [] w [] mid f = absurd (cc)
never_goes [] w (event ∷ events) mid f = f
never_goes (entry ∷ entries) w [] mid f = absurd (cc)
never_goes (entry ∷ entries) w (event ∷ events) mid f = never_goes entries w events mid f.1

ended_goes : {E F : Type 0} (ticked : Bool) (w : World) (ended : Bool)
    (events : List (Event E F)) (mid : World) → w.disconnected ≡ ended →
    Follows (finish_input ticked (Goes w)) events (Goes mid) → IsLive w
ended_goes {E} {F} ticked w true events mid is f =
    let v = handed_on w in
    absurd (never_goes (map Sent (going_out w)) v events mid
    (subst (λ b. Follows {E = E} {F = F} (tell_all (map Sent (going_out w))
    (cond b (Finish (Ends v)) (acts (begins (is_due ticked v)) v))) events (Goes mid)) is f))
ended_goes ticked w false events mid is f = is

goes_keep : {E F : Type 0} (ticked : Bool) (w : World) (events : List (Event E F)) (mid : World) →
    Follows (finish_input ticked (Goes w)) events (Goes mid) → Keeps (in_exchange w) [] events mid
goes_keep ticked w events mid f =
    let plan = finish_input ticked (Goes w) in
    let alone = goes_alone ticked w (ended_goes ticked w w.disconnected events mid refl f) in
    record {
      alone = walks_alone true (in_exchange w) [] plan events alone
          (follows_walks plan events (Goes mid) f);
      sent = follows_sent true (in_exchange w) [] plan events (Goes mid) alone f;
      runs = follows_run (in_exchange w) plan events mid (goes_run ticked w) f;
    }

finished_keeps : {E F : Type 0} (running ticked : Bool) (outcome : Outcome)
    (events : List (Event E F)) (mid : World) → Runs running (Finish outcome) →
    Follows (finish_input ticked outcome) events (Goes mid) → Keeps running [] events mid
finished_keeps running ticked (Goes w) events mid r f =
    subst (λ b. Keeps b [] events mid) r (goes_keep ticked w events mid f)
finished_keeps running ticked (Ends w) events mid r f =
    absurd (never_goes (map Sent (going_out w)) (handed_on w) events mid f)
finished_keeps running ticked (Fails why) [] mid r f = absurd (cc)
finished_keeps running ticked (Fails why) (event ∷ events) mid r f = absurd f

pub input_keeps : {E F : Type 0} (running : Bool) (unsent : List Frame) (ticked : Bool)
    (plan : Plan Outcome) (events : List (Event E F)) (mid : World) → Runs running plan →
    Sends unsent plan → Follows (after plan (finish_input ticked)) events (Goes mid) →
    Keeps running unsent events mid
input_keeps running unsent ticked (Finish outcome) events mid r s f =
    subst (λ l. Keeps running l events mid) (sym s)
    (finished_keeps running ticked outcome events mid r f)
input_keeps running unsent ticked (Ask question next) [] mid r s f = absurd (cc)
input_keeps running unsent ticked (Ask question next) (event ∷ events) mid r s f =
    let k = input_keeps (runs_then question f.0 running) (frames_given (given_at question f.0))
    ticked (next f.0) events mid (r f.0) (s.1 f.0) f.2 in
    record {
      alone = asked_alone question f.0 event events true running unsent f.1 s.0 k.alone;
      sent = subst (λ l. unsent_through l events ≡ [])
          (sym (event_unsent question f.0 event unsent f.1 s.0)) k.sent;
      runs = subst (λ b. in_exchange mid ≡ runs_through b events)
          (sym (event_runs question f.0 event running f.1)) k.runs;
    }
input_keeps running unsent ticked (Tell entry next) [] mid r s f = absurd (cc)
input_keeps running unsent ticked (Tell entry next) (event ∷ events) mid r s f =
    let k = input_keeps running (unsent_told unsent entry) ticked next events mid r s.1 f.1 in
    record {
      alone = told_alone entry event events true running unsent f.0
          (any_turn running unsent entry s.0) k.alone;
      sent = subst (λ l. unsent_through l events ≡ [])
          (sym (entry_unsent entry event unsent f.0)) k.sent;
      runs = subst (λ x. in_exchange mid ≡ runs_through running (x ∷ events)) (sym f.0) k.runs;
    }
