-- The end of an input without one.
use Rattle.std.proofs.Common.{◌≡◌, ◌⊎◌, ℕ, Option, Bool, true, false, cond, List, [], ◌∷◌, ◌++◌, map}
use Rattle.std.proofs.Common.{Result, Ok, Err, OnErr, refl, sym, ◌∙◌, ap, subst, inl, inr}
use Rattle.ssh_link.specs.Faults.{Rose, RoseIfKept}
use Rattle.ssh_link.specs.declared.link.TraceEntry.{TraceEntry}
use Rattle.ssh_link.specs.declared.link.TraceEntry.TheVariants.{Noticed, Sent}
use Rattle.ssh_link.specs.declared.notice.Notice.{Notice}
use Rattle.ssh_auth.specs.declared.question.Question.{Question}
use Rattle.ssh_auth.specs.declared.question.Question.TheVariants as asked
use Rattle.ssh_auth.specs.Plan.{Plan, Finish, Ask, Tell, Answer, Answered, Event, Reaches}
use Rattle.ssh_auth.specs.Plan.{Handler_error, Exchange_error, Breaks, Refused, calls_in}
use Rattle.ssh_auth.proofs.Plans.{calls_in_both}
use Rattle.ssh_rules.specs.declared.error.FlushError.{FlushError}
use Rattle.ssh_rules.specs.declared.error.FlushError.TheVariants as flush
use Rattle.ssh_rules.specs.declared.error.RunError.{RunError}
use Rattle.ssh_rules.specs.declared.error.RunError.TheVariants as error
use Rattle.ssh_session.specs.declared.session.Session.{Session}
use Rattle.ssh_rules.specs.Acts.{Beginning, acts, frames_given, moved, tell_all}
use Rattle.ssh_serving.specs.declared.server.Server.{Server}
use Rattle.ssh_serving.specs.Serve as served
use Rattle.ssh_session.specs.Between.{ComesFlushed, Flushes, FlushesTo, flush_cause_of, flushed}
use Rattle.ssh_serving.specs.Handing.{DoesTo, IsCutBefore, IsCutBehind, ServesTo}
use Rattle.ssh_rules.specs.Account.{Told}
use Rattle.ssh_rules.specs.Cut.{IsCut}
use Rattle.ssh_rules.specs.Failure.{flush_error_of}
use Rattle.ssh_rules.specs.Heard.{Heard}
use Rattle.ssh_rules.specs.Outcome.{Outcome, Goes, Fails}
use Rattle.ssh_rules.specs.Outcome as outcome
use Rattle.ssh_rules.specs.Run.{begins, going_out, hand_on, handed_on, is_due}
use Rattle.ssh_rules.specs.Cause.{Cause, Wants_memory, Link_failed, Limit_reached}
use Rattle.ssh_session.specs.Serve.{IsUnchanged, Refines}
use Rattle.ssh_rules.specs.Cause.{Faulty, Refused_by, Broken_by, IsCaused, cause_of}
use Rattle.ssh_rules.specs.World.{World}
use Rattle.ssh_serving.proofs.Finishing.{begun_behind}
use Rattle.ssh_serving.proofs.Serving.{serves_nothing}
use Rattle.ssh_session.proofs.Stepping.{StandsBy, told_of}

-- what holds where a call failed, from what it says of itself
pub on_err : {T E : Type 0} (A B : Type 0) (result : Result T E) → (A → B) → OnErr result A
    → OnErr result B
on_err A B (Ok value) f h = tt
on_err A B (Err e) f h = f h

-- ---- behind the frames

ended_step : {E F : Type 0} (ended due : Bool) (w : World) (a : Heard E F) (session : Server) →
    ended ≡ true → served.Refines session w →
    ServesTo IsCutBehind (cond ended (Finish (Goes w)) (acts (begins due) w))
    (λ (_ : Unit {0}) world. Finish (Goes world)) a a session (Ok tt)
ended_step true due w a session is r =
    (serves_nothing tt (λ (_ : Unit {0}) world. Finish (Goes world)) a w session r, tt)
ended_step false due w a session is r = absurd (cc)

stands_step : {E F : Type 0} (ended due : Bool) (w : World) (a b : Heard E F) (session : Server)
    (result : Result (Unit {0}) (RunError E F)) → ended ≡ false →
    ServesTo IsCutBehind (acts (begins due) w) (λ (_ : Unit {0}) world. Finish (Goes world)) a b
    session result →
    ServesTo IsCutBehind (cond ended (Finish (Goes w)) (acts (begins due) w))
    (λ (_ : Unit {0}) world. Finish (Goes world)) a b session result
stands_step true due w a b session result stands h = absurd (cc)
stands_step false due w a b session result stands h = h

-- the connection was ended
pub flush_ended : {E F : Type 0} (w : World) (a : Heard E F) (session : Server) →
    w.disconnected ≡ true → served.Refines session w →
    ServesTo IsCutBehind (flushed w) (λ (_ : Unit {0}) world. Finish (Goes world)) a a session
    (Ok tt)
flush_ended w a session is r = ended_step w.disconnected (is_due false w) w a session is r

-- it was not: an exchange of keys began where one is due, or did not begin
pub flush_due : {E F : Type 0} (w : World) (a b : Heard E F) (session : Server)
    (result : Result (Unit {0}) (RunError E F)) → w.disconnected ≡ false →
    DoesTo IsCutBefore (begins (is_due false w)) w a b session result →
    ServesTo IsCutBehind (flushed w) (λ (_ : Unit {0}) world. Finish (Goes world)) a b session
    result
flush_due w a b session result stands h =
    let due = is_due false w in
    stands_step w.disconnected due w a b session result stands
    (begun_behind due w a b session result h)

-- ---- no other errors

-- nothing is asked but that an exchange begins, and no fault comes of it
abbrev Begins_alone : Plan Outcome → Type 0
Begins_alone (Finish (Fails fault)) = ⊥
Begins_alone (Finish other) = Unit {0}
Begins_alone (Ask question next) = (question ≡ asked.Begins)
    × ((answer : Answer question) → Begins_alone (next answer))
Begins_alone (Tell entry next) = Begins_alone next

still_alone : {E F : Type 0} (plan : Plan Outcome) (events : List (Event E F))
    (rest : Plan Outcome) → Begins_alone plan → Reaches plan events rest → Begins_alone rest
still_alone plan [] rest h r = subst Begins_alone r h
still_alone (Ask question next) (event ∷ events) rest h r =
    still_alone (next r.0) events rest (h.1 r.0) r.2
still_alone (Tell entry next) (event ∷ events) rest h r = still_alone next events rest h r.1
still_alone (Finish other) (event ∷ events) rest h r = absurd r

not_begun : {E F : Type 0} (question : Question) (last : Event E F) (e : E) →
    question ≡ asked.Begins → Refused {E = E} {F = F} question (Handler_error e) last → ⊥
not_begun {E} {F} question last e is r =
    subst (λ q. Refused {E = E} {F = F} q (Handler_error e) last) is r

-- no handler answers an error where none is asked
unasked : {E F : Type 0} (plan : Plan Outcome) (events : List (Event E F)) (e : E) →
    Begins_alone plan → Breaks plan events (Handler_error e) → ⊥
unasked plan events e h b =
    let q = still_alone plan b.before (Ask b.question b.next) h b.reaches in
    not_begun b.question b.last e q.0 b.refused

faultless : {E F : Type 0} (plan : Plan Outcome) (events : List (Event E F))
    (fault : outcome.Fault) → Begins_alone plan → Reaches plan events (Finish (Fails fault)) → ⊥
faultless plan events fault h r = still_alone plan events (Finish (Fails fault)) h r

fails_so : {E F : Type 0} (plan : Plan Outcome) (rose : Type 0) (events : List (Event E F))
    (session : Session) (e : RunError E F) → Begins_alone plan →
    IsCaused (cause_of e) plan rose events →
    ComesFlushed plan events rose session (Err (flush_error_of e))
fails_so plan rose events session error.NoMemory h k = k
fails_so plan rose events session error.LinkFault h k = k
fails_so plan rose events session error.InputLimit h k = absurd k
fails_so plan rose events session (error.Encoding why) h k =
    absurd (faultless plan events (outcome.Encoding why) h k)
fails_so plan rose events session error.Inconsistent h k =
    absurd (faultless plan events outcome.Inconsistent h k)
fails_so plan rose events session error.Pending h k =
    absurd (faultless plan events outcome.Pending h k)
fails_so plan rose events session (error.Key why) h k =
    absurd (faultless plan events (outcome.Key why) h k)
fails_so plan rose events session error.UnsupportedAuthMethod h k =
    absurd (faultless plan events outcome.Unsupported h k)
fails_so plan rose events session (error.Handler e) h k = absurd (unasked plan events e h k)
fails_so plan rose events session (error.Kex e) h k = k
fails_so plan rose events session error.ChannelsFull h k =
    absurd (faultless plan events outcome.Channels_full h k)
fails_so plan rose events session error.KeepaliveTimeout h k =
    absurd (faultless plan events outcome.Keepalive_timeout h k)
fails_so plan rose events session error.InactivityTimeout h k =
    absurd (faultless plan events outcome.Inactivity_timeout h k)

told_alone : (entries : List TraceEntry) (next : Plan Outcome) → Begins_alone next →
    Begins_alone (tell_all entries next)
told_alone [] next h = h
told_alone (entry ∷ entries) next h = told_alone entries next h

begun_alone : (ended due : Bool) (w : World) →
    Begins_alone (cond ended (Finish (Goes w)) (acts (begins due) w))
begun_alone true due w = tt
begun_alone false true w = (
  refl,
  λ answer. told_alone (map Sent (frames_given (answer ∷ [])))
      (Finish (Goes (moved Beginning answer w))) tt,
)
begun_alone false false w = tt

flushed_alone : (notices : List Notice) (w : World) →
    Begins_alone (tell_all (map Noticed notices) (hand_on w flushed))
flushed_alone notices w =
    let v = handed_on w in
    told_alone (map Noticed notices) (hand_on w flushed)
    (told_alone (map Sent (going_out w)) (flushed v)
    (begun_alone v.disconnected (is_due false v) v))

-- ---- no calls

-- whoever is asked so is no handler
begun_uncalled : {E F : Type 0} (question : Question) (answer : Answer question)
    (event : Event E F) → question ≡ asked.Begins → Answered question answer event →
    calls_in (event ∷ []) ≡ []
begun_uncalled question answer event is a =
    subst (λ q. (given : Answer q) → Answered q given event → calls_in (event ∷ []) ≡ []) (sym is)
    (λ given b. subst (λ x. calls_in (x ∷ []) ≡ []) (sym b) refl) answer a

refused_uncalled : {E F : Type 0} (question : Question) (event : Event E F) (e : F) →
    question ≡ asked.Begins → Refused {E = E} {F = F} question (Exchange_error e) event →
    calls_in (event ∷ []) ≡ []
refused_uncalled {E} {F} question event e is a =
    subst (λ q. Refused {E = E} {F = F} q (Exchange_error e) event → calls_in (event ∷ []) ≡ [])
    (sym is) (λ b. subst (λ x. calls_in (x ∷ []) ≡ []) (sym b) refl) a

both_uncalled : {E F : Type 0} (xs ys : List (Event E F)) → calls_in xs ≡ [] →
    calls_in ys ≡ [] → calls_in (xs ++ ys) ≡ []
both_uncalled xs ys h k =
    calls_in_both xs ys ∙ (ap (λ l. l ++ calls_in ys) h ∙ k)

reached_uncalled : {E F : Type 0} (plan : Plan Outcome) (events : List (Event E F))
    (rest : Plan Outcome) → Begins_alone plan → Reaches plan events rest → calls_in events ≡ []
reached_uncalled plan [] rest h r = refl
reached_uncalled (Ask question next) (event ∷ events) rest h r =
    both_uncalled (event ∷ []) events (begun_uncalled question r.0 event h.0 r.1)
    (reached_uncalled (next r.0) events rest (h.1 r.0) r.2)
reached_uncalled (Tell entry next) (event ∷ events) rest h r =
    both_uncalled (event ∷ []) events (subst (λ x. calls_in (x ∷ []) ≡ []) (sym r.0) refl)
    (reached_uncalled next events rest h r.1)
reached_uncalled (Finish other) (event ∷ events) rest h r = absurd r

broken_uncalled : {E F : Type 0} (plan : Plan Outcome) (events : List (Event E F)) (e : F) →
    Begins_alone plan → Breaks plan events (Exchange_error e) → calls_in events ≡ []
broken_uncalled plan events e h b =
    let asks = Ask b.question b.next in
    let q = still_alone plan b.before asks h b.reaches in
    ap calls_in b.is ∙ both_uncalled b.before (b.last ∷ [])
    (reached_uncalled plan b.before asks h b.reaches)
    (refused_uncalled b.question b.last e q.0 b.refused)

caused_uncalled : {E F : Type 0} (cause : Cause E F) (plan : Plan Outcome) (rose : Type 0)
    (events : List (Event E F)) → Begins_alone plan → IsCaused cause plan rose events →
    calls_in events ≡ []
caused_uncalled Wants_memory plan rose events h k = reached_uncalled plan events k.0 h k.1
caused_uncalled Link_failed plan rose events h k = reached_uncalled plan events k.1.0 h k.1.1
caused_uncalled Limit_reached plan rose events h k = absurd k
caused_uncalled (Faulty fault) plan rose events h k =
    reached_uncalled plan events (Finish (Fails fault)) h k
caused_uncalled (Refused_by e) plan rose events h k = absurd (unasked plan events e h k)
caused_uncalled (Broken_by e) plan rose events h k = broken_uncalled plan events e h k

-- how far frames were handed on
cut_nowhere : {A B C D : Type 0} → A ⊎ ((⊥ × B) ⊎ (⊥ × C)) → A ⊎ D
cut_nowhere (inl none) = inl none
cut_nowhere (inr (inl (link, frame))) = absurd link
cut_nowhere (inr (inr (inside, all))) = absurd inside

fails_cut : {E F : Type 0} (e : RunError E F) (starved : Type 0) (plan : Plan Outcome)
    (events : List (Event E F)) → IsCut (cause_of e) starved plan events →
    IsCut {E = E} {F = F} (flush_cause_of (flush_error_of e)) starved plan events
fails_cut error.NoMemory starved plan events h = h
fails_cut error.LinkFault starved plan events h = h
fails_cut (error.Kex e) starved plan events h = h
fails_cut error.InputLimit starved plan events h = cut_nowhere h
fails_cut (error.Encoding why) starved plan events h = cut_nowhere h
fails_cut error.Inconsistent starved plan events h = cut_nowhere h
fails_cut error.Pending starved plan events h = cut_nowhere h
fails_cut (error.Key why) starved plan events h = cut_nowhere h
fails_cut error.UnsupportedAuthMethod starved plan events h = cut_nowhere h
fails_cut (error.Handler e) starved plan events h = cut_nowhere h
fails_cut error.ChannelsFull starved plan events h = cut_nowhere h
fails_cut error.KeepaliveTimeout starved plan events h = cut_nowhere h
fails_cut error.InactivityTimeout starved plan events h = cut_nowhere h

-- ---- what it comes to

-- it is finished
pub flush_goes : {E F : Type 0} (notices : List Notice) (w : World) (a b : Heard E F)
    (session : Server) (session' : Session) → StandsBy session session' →
    ServesTo IsCut (tell_all (map Noticed notices) (hand_on w flushed))
    (λ (_ : Unit {0}) world. Finish (Goes world)) a b session (Ok tt) →
    FlushesTo notices w (told_of a) (told_of b) (RoseIfKept a.starved b.starved) session' (Ok tt)
flush_goes notices w a b session session' stands (h, _) =
    let owed = tell_all (map Noticed notices) (hand_on w flushed) in (
      record {
        plan = owed;
        owes = refl;
        events = h.0;
        uncalled = reached_uncalled owed h.0 (Finish (Goes h.2.0)) (flushed_alone notices w) h.2.1;
        told = h.1.told;
        later = h.1.later;
        stepped = h.1.stepped;
        comes = (h.2.0, h.2.1, stands h.2.0 h.2.2);
      },
      tt,
    )

-- it is not, and the session is spent
pub flush_fails : {E F : Type 0} (notices : List Notice) (w : World) (a b : Heard E F)
    (session : Server) (session' : Session) (e : RunError E F) →
    ServesTo IsCut (tell_all (map Noticed notices) (hand_on w flushed))
    (λ (_ : Unit {0}) world. Finish (Goes world)) a b session (Err e) →
    FlushesTo notices w (told_of a) (told_of b) (RoseIfKept a.starved b.starved) session'
    (Err (flush_error_of e))
flush_fails notices w a b session session' e (h, cut) =
    let owed = tell_all (map Noticed notices) (hand_on w flushed) in
    let rose = Rose a.faults b.faults in (
      record {
        plan = owed;
        owes = refl;
        events = h.0;
        uncalled = caused_uncalled (cause_of e) owed rose h.0 (flushed_alone notices w) h.2;
        told = h.1.told;
        later = h.1.later;
        stepped = h.1.stepped;
        comes = fails_so owed rose h.0 session' e (flushed_alone notices w) h.2;
      },
      fails_cut e (RoseIfKept a.starved b.starved) owed h.0 cut,
    )

-- it was flushed, however far the frames were handed on
pub flushes_cut : {E F : Type 0} (notices : List Notice) (w : World) (a b : Told E F)
    (starved : Type 0) (session : Session) (result : Result (Unit {0}) (FlushError F)) →
    FlushesTo notices w a b starved session result → Flushes notices w a b session result
flushes_cut notices w a b starved session result h = h.0

flush_comes_still : {E F : Type 0} (plan : Plan Outcome) (events : List (Event E F))
    (rose : Type 0) (session session' : Session) (result : Result (Unit {0}) (FlushError F)) →
    IsUnchanged session session' → ComesFlushed plan events rose session result →
    ComesFlushed plan events rose session' result
flush_comes_still plan events rose session session' (Ok done) same h =
    (h.0, h.1, same h.0 h.2)
flush_comes_still plan events rose session session' (Err flush.NoMemory) same h = h
flush_comes_still plan events rose session session' (Err flush.LinkFault) same h = h
flush_comes_still plan events rose session session' (Err (flush.Kex e)) same h = h

flushes_still : {E F : Type 0} (notices : List Notice) (w : World) (a b : Told E F)
    (session session' : Session) (result : Result (Unit {0}) (FlushError F)) →
    IsUnchanged session session' → Flushes notices w a b session result →
    Flushes notices w a b session' result
flushes_still notices w a b session session' result same h = record {
  plan = h.plan;
  owes = h.owes;
  events = h.events;
  uncalled = h.uncalled;
  told = h.told;
  later = h.later;
  stepped = h.stepped;
  comes = flush_comes_still h.plan h.events (Rose a.faults b.faults) session session' result same
      h.comes;
}

-- .. and it is so of a session that stands for the same worlds
flush_still : {E F : Type 0} (notices : List Notice) (w : World) (a b : Told E F)
    (starved : Type 0) (session session' : Session) (result : Result (Unit {0}) (FlushError F)) →
    IsUnchanged session session' → FlushesTo notices w a b starved session result →
    FlushesTo notices w a b starved session' result
unfolding flushes_still
flush_still notices w a b starved session session' (Ok done) same h =
    (flushes_still notices w a b session session' (Ok done) same h.0, tt)
flush_still notices w a b starved session session' (Err e) same h =
    (flushes_still notices w a b session session' (Err e) same h.0, h.1)

-- the same of notices, and of what was told, under other names
pub flush_known : {E F : Type 0} (notices notices' : List Notice) (w : World)
    (a a' b b' : Told E F) (p p' q q' : Option ℕ) (session session' : Session)
    (result : Result (Unit {0}) (FlushError F)) → notices ≡ notices' → a ≡ a' → b ≡ b' →
    p ≡ p' → q ≡ q' → IsUnchanged session session' →
    FlushesTo notices w a b (RoseIfKept p q) session result →
    FlushesTo notices' w a' b' (RoseIfKept p' q') session' result
flush_known notices notices' w a a' b b' p p' q q' session session' result n s t c d same h =
    subst (λ x. FlushesTo x w a' b' (RoseIfKept p' q') session' result) n
    (subst (λ x. FlushesTo notices w x b' (RoseIfKept p' q') session' result) s
    (subst (λ x. FlushesTo notices w a x (RoseIfKept p' q') session' result) t
    (subst (λ x. FlushesTo notices w a b (RoseIfKept x q') session' result) c
    (subst (λ x. FlushesTo notices w a b (RoseIfKept p x) session' result) d
    (flush_still notices w a b (RoseIfKept p q) session session' result same h)))))
