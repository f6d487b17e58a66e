-- The end of an input, and the frames that are handed on at it.
use Rattle.std.proofs.Common.{◌≡◌, Bool, true, false, cond, List, [], ◌∷◌, ◌++◌, length, map}
use Rattle.std.proofs.Common.{Result, Ok, Err, refl, sym, ◌∙◌, inl}
use Rattle.std.proofs.Common.{ap, subst, arith}
use Rattle.std.proofs.lemmas.List.{append-nil, nil_from_length}
use Rattle.ssh_link.specs.Faults.{Rose, RoseIfKept}
use Rattle.ssh_link.proofs.Counts.{rose_later}
use Rattle.ssh_link.specs.Frames.{Frame}
use Rattle.ssh_link.specs.declared.link.LinkFault.{LinkFault as LinkFailure}
use Rattle.ssh_link.specs.declared.link.LinkFault.TheVariants as link
use Rattle.ssh_link.specs.declared.link.TraceEntry.{TraceEntry}
use Rattle.ssh_link.specs.declared.link.TraceEntry.TheVariants.{Sent, Noticed}
use Rattle.ssh_link.specs.declared.notice.Notice.{Notice}
use Rattle.ssh_auth.specs.Plan.{Plan, Finish, after, Event, Told}
use Rattle.ssh_auth.specs.Plan.{Handler_error, Exchange_error}
use Rattle.ssh_auth.specs.Plan.{Reaches}
use Rattle.ssh_auth.proofs.Plans.{reaches_after}
use Rattle.ssh_auth.proofs.Plans.{begins_after}
use Rattle.ssh_auth.proofs.Plans.{breaks_after}
use Rattle.ssh_rules.specs.declared.error.Flow.{Flow}
use Rattle.ssh_rules.specs.declared.error.Flow.TheVariants.{Continue, Ended}
use Rattle.ssh_rules.specs.declared.error.RunError.{RunError}
use Rattle.ssh_rules.specs.declared.error.RunError.TheVariants as error
use Rattle.ssh_serving.specs.declared.server.Server.{Server}
use Rattle.ssh_rules.specs.World.{World}
use Rattle.ssh_rules.specs.Failure.{error_of_link}
use Rattle.ssh_rules.specs.Heard.{Heard, Gives}
use Rattle.ssh_rules.specs.Outcome.{Fault, Outcome, Goes, Ends, Fails}
use Rattle.ssh_rules.specs.Acts.{Beginning, Exchanges, acts, tell_all}
use Rattle.ssh_rules.specs.Run.{begins, finish_input, goes_unless_ended, hand_on, is_due}
use Rattle.ssh_rules.specs.Cause.{Cause, Wants_memory, Link_failed, Limit_reached}
use Rattle.ssh_serving.specs.Serve.{Refines}
use Rattle.ssh_rules.specs.Cause.{Faulty, Refused_by, Broken_by, cause_of}
use Rattle.ssh_rules.specs.Cause.{Hears, IsCaused}
use Rattle.ssh_rules.specs.Cut.{IsCut, OwesNoFrame, frames_in}
use Rattle.ssh_serving.specs.Serve.{Serves}
use Rattle.ssh_rules.specs.Cause.{comes, ends_by_flow}
use Rattle.ssh_serving.specs.Serve.{Completes, TellsEach}
use Rattle.ssh_serving.specs.Handing.{ServesTo, DoesTo, CompletesTo, IsCutByLink, IsCutBefore}
use Rattle.ssh_serving.specs.Handing.{IsCutBehind, IsCutInRow}
use Rattle.ssh_serving.proofs.Serving.{hears_then, gives_hears, fails_hears, serves_nothing}
use Rattle.ssh_serving.proofs.Handing.{before_behind, behind_cut, behind_then, completes_to}
use Rattle.ssh_serving.proofs.Handing.{cut_then, reached_to, row_cut, then_to, to_other}

-- ---- the end of an input

-- what was owed is not finished, and no frame is handed on
caused_after : {E F : Type 0} (cause : Cause E F) (plan : Plan Outcome)
    (later : Outcome → Plan Outcome) (rose : Type 0) (events : List (Event E F)) →
    ((fault : Fault) → later (Fails fault) ≡ Finish (Fails fault)) →
    IsCaused cause plan rose events → IsCaused cause (after plan later) rose events
caused_after Wants_memory plan later rose events f h = begins_after plan later events h
caused_after Link_failed plan later rose events f h = (h.0, begins_after plan later events h.1)
caused_after Limit_reached plan later rose events f h = h
caused_after {E} {F} (Faulty fault) plan later rose events f h =
    subst (Reaches {E = E} {F = F} (after plan later) events) (f fault)
    (reaches_after plan (Finish (Fails fault)) later events h)
caused_after (Refused_by e) plan later rose events f h =
    breaks_after plan later events (Handler_error e) h
caused_after (Broken_by e) plan later rose events f h =
    breaks_after plan later events (Exchange_error e) h

unfinished : {E F : Type 0} (ticked : Bool) (first : Plan Outcome) (a b : Heard E F)
    (session session' : Server) (e : RunError E F) → Completes first a b session (Err e) →
    Completes (after first (finish_input ticked)) a b session' (Err e)
unfinished ticked first a b session session' e h = (
  h.0,
  h.1,
  caused_after (cause_of e) first (finish_input ticked) (Rose a.faults b.faults) h.0 (λ fault. refl)
      h.2,
)

pub unfinished_to : {E F : Type 0} (ticked : Bool) (first : Plan Outcome) (a b : Heard E F)
    (session session' : Server) (e : RunError E F) →
    CompletesTo IsCutInRow first a b session (Err e) →
    CompletesTo IsCut (after first (finish_input ticked)) a b session' (Err e)
unfolding unfinished
unfinished_to ticked first a b session session' e h = (
  unfinished ticked first a b session session' e h.0,
  row_cut (cause_of e) (RoseIfKept a.starved b.starved) first h.0.0 (finish_input ticked) h.1,
)

-- the frames of an input that was finished are handed on, and then it goes by its flow
hands_on : (ticked : Bool) (flow : Flow) (w : World) →
    finish_input ticked (comes flow w) ≡ hand_on w (ends_by_flow ticked flow)
hands_on ticked Continue w = refl
hands_on ticked Ended w = refl

pub finished_to : {E F : Type 0} (ticked : Bool) (flow : Flow) (first : Plan Outcome)
    (a b c : Heard E F) (session session' : Server) (result : Result Flow (RunError E F)) →
    (h : Completes first a b session (Ok flow)) → ((w : World) → Refines session w →
    Reaches first h.0 (Finish (comes flow w)) →
    CompletesTo IsCutBehind (hand_on w (ends_by_flow ticked flow)) b c session' result) →
    CompletesTo IsCut (after first (finish_input ticked)) a c session' result
finished_to ticked flow first a b c session session' result h k =
    let mid = finish_input ticked (comes flow h.2.0) in
    let rest = subst (λ p. CompletesTo IsCutBehind p b c session' result)
    (sym (hands_on ticked flow h.2.0)) (k h.2.0 h.2.2 h.2.1) in
    let to = reaches_after first (Finish (comes flow h.2.0)) (finish_input ticked) h.0 h.2.1 in
    reached_to IsCutBehind IsCut (after first (finish_input ticked)) mid
    (λ flow world. Finish (comes flow world)) a b c h.0 session' result h.1 to rest
    (λ cause ys cut. behind_cut cause (RoseIfKept a.starved c.starved)
    (after first (finish_input ticked)) (h.0 ++ ys)
    (behind_then cause (after first (finish_input ticked)) mid a.starved b.starved c.starved h.0 ys
    h.1.counted to cut))

pub none_left : {A : Type 0} (items : List A) → length items ≡ 0 → items ≡ []
none_left items h = nil_from_length items h

-- ---- what is told one after another

-- the link was told these
abbrev pub told_events : {A E F : Type 0} → (as_what : A → TraceEntry) → List A → List (Event E F)
told_events as_what items = map Told (map as_what items)

told_append : {A : Type 0} (E F : Type 0) (as_what : A → TraceEntry) (xs ys : List A) →
    told_events {E = E} {F = F} as_what (xs ++ ys)
    ≡ told_events as_what xs ++ told_events as_what ys
told_append E F as_what [] ys = refl
told_append E F as_what (x ∷ xs) ys =
    ap (λ l. Told (as_what x) ∷ l) (told_append E F as_what xs ys)

-- one more was told
pub told_more : {A E F : Type 0} (as_what : A → TraceEntry) (items : List A) (item : A)
    (a b c : Heard E F) → Hears false a b (told_events as_what items) →
    Gives {T = Unit {0}} b c (as_what item) (Ok tt) →
    Hears false a c (told_events as_what (items ++ item ∷ []))
told_more {A} {E} {F} as_what items item a b c h g =
    subst (Hears false a c) (sym (told_append E F as_what items (item ∷ [])))
    (hears_then false a b c (told_events as_what items) (Told (as_what item) ∷ []) h
    (gives_hears (as_what item) b c g))

-- .. or was not
none_more : {A E F : Type 0} (stops : Bool) (as_what : A → TraceEntry) (items : List A)
    (a b c : Heard E F) → Hears false a b (told_events as_what items) → Hears stops b c [] →
    Hears stops a c (told_events as_what items)
none_more stops as_what items a b c h k =
    subst (Hears stops a c) (append-nil (told_events as_what items))
    (hears_then stops a b c (told_events as_what items) [] h k)

pub not_told : {A E F : Type 0} (as_what : A → TraceEntry) (items rest later : List A) (item : A)
    (a b c : Heard E F) (fault : LinkFailure) → rest ≡ item ∷ later →
    Hears false a b (told_events as_what items) →
    Gives {T = Unit {0}} b c (as_what item) (Err fault) →
    TellsEach as_what (items ++ rest) a c (Err (error_of_link fault))
not_told as_what items rest later item a b c link.Failed is h g = (
  items,
  none_more false as_what items a b c h (fails_hears (as_what item) b c link.Failed g),
  (
    let x = h.later in let y = g.2 in omega (arith, x, y),
    (item, later, ap (λ l. items ++ l) is),
  ),
)
not_told as_what items rest later item a b c link.NoMemory is h g = (
  items,
  none_more false as_what items a b c h (fails_hears (as_what item) b c link.NoMemory g),
  (
    rose_later a.starved b.starved c.starved h.counted g.4,
    (item, later, ap (λ l. items ++ l) is),
  ),
)

-- the plan comes to what was not told
reach_told : {A : Type 0} (E F : Type 0) (as_what : A → TraceEntry) (told later : List A)
    (next : Plan Outcome) →
    Reaches {E = E} {F = F} (tell_all (map as_what (told ++ later)) next)
    (told_events as_what told) (tell_all (map as_what later) next)
reach_told E F as_what [] later next = refl
reach_told E F as_what (x ∷ told) later next =
    (refl, reach_told E F as_what told later next)

reach_so : {A : Type 0} (E F : Type 0) (as_what : A → TraceEntry) (items told later : List A)
    (next : Plan Outcome) → items ≡ told ++ later →
    Reaches {E = E} {F = F} (tell_all (map as_what items) next) (told_events as_what told)
    (tell_all (map as_what later) next)
reach_so E F as_what items told later next is =
    subst (λ l. Reaches {E = E} {F = F} (tell_all (map as_what l) next) (told_events as_what told)
    (tell_all (map as_what later) next)) (sym is)
    (reach_told E F as_what told later next)

-- as a session stands for a world
pub serves_each : {A E F : Type 0} (as_what : A → TraceEntry) (items : List A)
    (next : Plan Outcome) (a b : Heard E F) (w : World) (session : Server)
    (result : Result (Unit {0}) (RunError E F)) → Refines session w →
    TellsEach as_what items a b result →
    Serves (tell_all (map as_what items) next) (λ (_ : Unit {0}) _. next) a b session result
serves_each {A} {E} {F} as_what items next a b w session (Ok tt) r t = (
  told_events as_what t.0,
  t.1,
  (
    w,
    reach_so E F as_what items t.0 [] next
        (sym t.2 ∙ sym (append-nil t.0)),
    r,
  ),
)
serves_each {A} {E} {F} as_what items next a b w session (Err error.LinkFault) r t = (
  told_events as_what t.0,
  t.1,
  (
    t.2.0,
    (
      tell_all (map as_what (t.2.1.0 ∷ t.2.1.1)) next,
      reach_so E F as_what items t.0 (t.2.1.0 ∷ t.2.1.1) next t.2.1.2,
    ),
  ),
)
serves_each {A} {E} {F} as_what items next a b w session (Err error.NoMemory) r t = (
  told_events as_what t.0,
  t.1,
  (
    tell_all (map as_what (t.2.1.0 ∷ t.2.1.1)) next,
    reach_so E F as_what items t.0 (t.2.1.0 ∷ t.2.1.1) next t.2.1.2,
  ),
)
serves_each as_what items next a b w session (Err _) r t = absurd t.2

-- frames: where the link failed, it was to be handed the next one
serves_frames : {E F : Type 0} (frames : List Frame) (next : Plan Outcome) (a b : Heard E F)
    (w : World) (session : Server) (result : Result (Unit {0}) (RunError E F)) →
    Refines session w → TellsEach Sent frames a b result →
    ServesTo IsCutByLink (tell_all (map Sent frames) next) (λ (_ : Unit {0}) _. next) a b session
    result
unfolding serves_each
serves_frames frames next a b w session (Ok tt) r t =
    (serves_each Sent frames next a b w session (Ok tt) r t, tt)
serves_frames {E} {F} frames next a b w session (Err error.LinkFault) r t = (
  serves_each Sent frames next a b w session (Err error.LinkFault) r t,
  (
    tt,
    (
      t.2.1.0,
      tell_all (map Sent t.2.1.1) next,
      reach_so E F Sent frames t.0 (t.2.1.0 ∷ t.2.1.1) next t.2.1.2,
    ),
  ),
)
serves_frames {E} {F} frames next a b w session (Err error.NoMemory) r t = (
  serves_each Sent frames next a b w session (Err error.NoMemory) r t,
  (
    t.2.0,
    (
      t.2.1.0,
      tell_all (map Sent t.2.1.1) next,
      reach_so E F Sent frames t.0 (t.2.1.0 ∷ t.2.1.1) next t.2.1.2,
    ),
  ),
)
serves_frames frames next a b w session (Err _) r t = absurd t.2

-- all of these were told, as a session stood for a world
pub told_all : {E F : Type 0} (frames to : List Frame) (next : Plan Outcome) (a b : Heard E F)
    (w : World) (session : Server) (result : Result (Unit {0}) (RunError E F)) → frames ≡ to →
    Refines session w → TellsEach Sent frames a b result →
    ServesTo IsCutByLink (tell_all (map Sent to) next) (λ (_ : Unit {0}) _. next) a b session result
told_all frames to next a b w session result is r h =
    subst (λ l. ServesTo IsCutByLink (tell_all (map Sent l) next) (λ (_ : Unit {0}) _. next) a b
    session result) is (serves_frames frames next a b w session result r h)

-- notices: no frame was handed on
pub no_frames : (E F : Type 0) (notices : List Notice) →
    frames_in {E = E} {F = F} (told_events Noticed notices) ≡ []
no_frames E F [] = refl
no_frames E F (notice ∷ notices) = no_frames E F notices

pub serves_notices : {E F : Type 0} (notices : List Notice) (next : Plan Outcome)
    (a b : Heard E F) (w : World) (session : Server) (e : RunError E F) → Refines session w →
    TellsEach Noticed notices a b (Err e) →
    ServesTo IsCut (tell_all (map Noticed notices) next) (λ (_ : Unit {0}) _. next) a b session
    (Err e)
unfolding serves_each
serves_notices {E} {F} notices next a b w session error.LinkFault r t = (
  serves_each Noticed notices next a b w session (Err error.LinkFault) r t,
  inl (no_frames E F t.0),
)
serves_notices {E} {F} notices next a b w session error.NoMemory r t = (
  serves_each Noticed notices next a b w session (Err error.NoMemory) r t,
  inl (no_frames E F t.0),
)
serves_notices notices next a b w session _ r t = absurd t.2

-- behind notices
pub behind_notices : {T E F : Type 0} (notices : List Notice) (next : Plan Outcome)
    (later : T → World → Plan Outcome) (a b c : Heard E F) (w : World) (session session' : Server)
    (result : Result T (RunError E F)) → Refines session w → TellsEach Noticed notices a b (Ok tt)
    → ServesTo IsCut next later b c session' result →
    ServesTo IsCut (tell_all (map Noticed notices) next) later a c session' result
unfolding serves_each
behind_notices {T} {E} {F} notices next later a b c w session session' result r t h =
    let all = tell_all (map Noticed notices) next in
    then_to IsCut IsCut tt all (λ (_ : Unit {0}) _. next) later a b c session session' result
    (serves_each Noticed notices next a b w session (Ok tt) r t) (λ _ _. h)
    (λ cause _ ys reaches cut. cut_then cause all next a.starved b.starved c.starved
    (told_events Noticed t.0) ys t.1.counted reaches (no_frames E F t.0) cut)

-- ---- behind the frames of an input

-- no exchange of keys is due
pub none_begins : {E F : Type 0} (due : Bool) (w : World) (a : Heard E F) (session : Server) →
    due ≡ false → Refines session w → DoesTo IsCutBefore (begins due) w a a session (Ok tt)
none_begins true w a session none r = absurd (cc)
none_begins false w a session none r = λ later.
    (serves_nothing tt (λ (_ : Unit {0}). acts later) a w session r, tt)

-- one is
pub one_begins : {E F : Type 0} (due : Bool) (w : World) (a b : Heard E F) (session : Server)
    (result : Result (Unit {0}) (RunError E F)) → due ≡ true →
    DoesTo IsCutBefore (Exchanges Beginning ∷ []) w a b session result →
    DoesTo IsCutBefore (begins due) w a b session result
one_begins true w a b session result is h = h
one_begins false w a b session result is h = absurd (cc)

-- no frame is owed before it begins
owes_none : (due : Bool) (w : World) → OwesNoFrame (acts (begins due) w)
owes_none true w = refl
owes_none false w = tt

-- an exchange began where one is due, or did not, behind all frames
pub begun_behind : {E F : Type 0} (due : Bool) (w : World) (a b : Heard E F) (session : Server)
    (result : Result (Unit {0}) (RunError E F)) →
    DoesTo IsCutBefore (begins due) w a b session result →
    ServesTo IsCutBehind (acts (begins due) w) (λ (_ : Unit {0}) world. Finish (Goes world)) a b
    session result
begun_behind due w a b session result h =
    to_other IsCutBefore IsCutBehind (acts (begins due) w)
    (λ (_ : Unit {0}) world. Finish (Goes world)) a b session result
    (completes_to IsCutBefore (begins due) w a b session result h)
    (λ cause events cut. before_behind cause (RoseIfKept a.starved b.starved) (acts (begins due) w)
    events (owes_none due w) cut)

ends_step : {E F : Type 0} (ended due : Bool) (w : World) (a : Heard E F) (session : Server) →
    ended ≡ true → Refines session w →
    CompletesTo IsCutBehind (cond ended (Finish (Ends w)) (acts (begins due) w)) a a session
    (Ok Ended)
ends_step true due w a session is r =
    (serves_nothing Ended (λ flow world. Finish (comes flow world)) a w session r, tt)
ends_step false due w a session is r = absurd (cc)

stands_step : {E F : Type 0} (ended due : Bool) (w : World) (a b : Heard E F) (session : Server)
    (result : Result Flow (RunError E F)) → ended ≡ false →
    CompletesTo IsCutBehind (acts (begins due) w) a b session result →
    CompletesTo IsCutBehind (cond ended (Finish (Ends w)) (acts (begins due) w)) a b session result
stands_step true due w a b session result stands h = absurd (cc)
stands_step false due w a b session result stands h = h

-- the connection was ended
pub is_ended : {E F : Type 0} (ticked : Bool) (w : World) (a : Heard E F) (session : Server) →
    w.disconnected ≡ true → Refines session w →
    CompletesTo IsCutBehind (goes_unless_ended ticked w) a a session (Ok Ended)
is_ended ticked w a session is r = ends_step w.disconnected (is_due ticked w) w a session is r

-- it was not: it goes on, and an exchange of keys began where one is due
pub begun_due : {E F : Type 0} (ticked : Bool) (w : World) (a b : Heard E F) (session : Server) →
    w.disconnected ≡ false → DoesTo IsCutBefore (begins (is_due ticked w)) w a b session (Ok tt) →
    CompletesTo IsCutBehind (goes_unless_ended ticked w) a b session (Ok Continue)
begun_due ticked w a b session stands h =
    let due = is_due ticked w in
    stands_step w.disconnected due w a b session (Ok Continue) stands
    (begun_behind due w a b session (Ok tt) h)

-- .. or did not begin
pub not_begun_due : {E F : Type 0} (ticked : Bool) (w : World) (a b : Heard E F)
    (session : Server) (e : RunError E F) → w.disconnected ≡ false →
    DoesTo IsCutBefore (begins (is_due ticked w)) w a b session (Err e) →
    CompletesTo IsCutBehind (goes_unless_ended ticked w) a b session (Err e)
not_begun_due ticked w a b session e stands h =
    let due = is_due ticked w in
    stands_step w.disconnected due w a b session (Err e) stands
    (begun_behind due w a b session (Err e) h)
