-- A server that answers as in the beginning of a script never answers an error.
use Rattle.std.proofs.Common.{◌≡◌, ◌≢◌, ◌-◌, ◌^◌, ℕ, List, [], ◌∷◌, ◌++◌, Option, Some, None, Result, Ok, Err, length, refl, sym, ◌∙◌, ap, subst, inl, inr}
use Rattle.std.specs.Prelude.{flat_map, option_to_list}
use Rattle.std.proofs.lemmas.List.Concat.{flat_map-append}
use Rattle.ssh_link.specs.declared.link.TraceEntry.{TraceEntry}
use Rattle.ssh_link.specs.declared.plain_kex.PlainKexError.{PlainKexError}
use Rattle.ssh_auth.specs.declared.call.Call.{Call}
use Rattle.ssh_auth.specs.declared.question.Admission.{Admission}
use Rattle.ssh_auth.specs.declared.question.Admission.TheVariants as by
use Rattle.ssh_auth.specs.declared.question.Question.{Question}
use Rattle.ssh_auth.specs.declared.question.Question.TheVariants as ask
use Rattle.ssh_auth.specs.Plan.{Plan, Event, Called, Stepped, Told, Handler_error, Refused, Breaks, calls_in}
use Rattle.ssh_auth.specs.Publickey.{Acceptance}
use Rattle.ssh_auth.specs.Was.{Was, Banner_so, Admitted_so, Lent_so, Judged_so, Listened_so, Adjusted_so, Done_so, was, asked_of}
use Rattle.ssh_auth.proofs.Back.{admitted_back, lent_back, judged_back}
use Rattle.ssh_rules.specs.declared.error.RunError.TheVariants.{LinkFault, Handler}
use Rattle.ssh_rules.specs.Account.{Closes}
use Rattle.ssh_rules.specs.Outcome.{Outcome as Came}
use Rattle.ssh_rules.specs.Run.{calls_of}
use Rattle.ssh_rules.specs.World.{World}
use Rattle.ssh_scene.specs.Queues.{Queues}
use Rattle.ssh_scene.specs.declared.answers.InteractiveVerdict.{InteractiveVerdict}
use Rattle.ssh_scene.specs.declared.answers.InteractiveVerdict.TheVariants.{Plain}
use Rattle.ssh_scene.specs.declared.answers.Verdict.{Verdict}
use Rattle.ssh_scene.specs.declared.answers.Verdict.TheVariants.{Accept, Reject}
use Rattle.ssh_players.specs.Queue.{rest}
use Rattle.ssh_players.specs.Played.{Failure, IsAnswered, answered, after, after_admission, banner_answer, first_verdict, grants, interactive_answer, records, verdict_on}
use Rattle.ssh_script.specs.Transcript.{scene_accepts}
use Rattle.ssh_threads.specs.Runs.{IsRunOf, IsUnfailed}
use Rattle.ssh_threads.specs.Sessions.{Outcome, FailureTurn, hall}
use Rattle.ssh_threads.proofs.Silent.{first_is}

-- ---- the queues of answers

-- the verdict is no error
abbrev IsMild : InteractiveVerdict → Type 0
IsMild one = (e : Failure) → interactive_answer one ≢ Err e

abbrev AreMild : List InteractiveVerdict → Type 0
AreMild [] = Unit {0}
AreMild (one ∷ more) = IsMild one × AreMild more

abbrev ArePlainMild : List Verdict → Type 0
ArePlainMild [] = Unit {0}
ArePlainMild (one ∷ more) = IsMild (Plain one) × ArePlainMild more

-- no answer that is left is an error
abbrev Mild : Queues → Type 0
Mild queues = ArePlainMild queues.none × ArePlainMild queues.password
    × ArePlainMild queues.offered × ArePlainMild queues.publickey
    × ArePlainMild queues.certificate × AreMild queues.interactive × (queues.banners ≡ 0)

abbrev Went : {A : Type 0} → Result A Failure → Type 0
Went (Ok value) = Unit {0}
Went (Err e) = ⊥

ok_is_no_error : {A : Type 0} (value : A) (e : Failure) → ◌≡◌ {A = Result A Failure} (Ok value) (Err e)
    → ⊥
ok_is_no_error {A} value e is = subst (Went {A = A}) is tt

accept_mild : IsMild (Plain Accept)
accept_mild e is = ok_is_no_error _ e is

reject_mild : IsMild (Plain Reject)
reject_mild e is = ok_is_no_error _ e is

mild_hall : Mild hall.queues
mild_hall = ((accept_mild, tt), tt, tt, tt, tt, tt, refl)

first_mild : (default : Verdict) (queue : List Verdict) → IsMild (Plain default) → ArePlainMild queue
    → IsMild (Plain (first_verdict default queue))
first_mild default [] m all = m
first_mild default (one ∷ more) m all = all.0

first_interactive : (default : InteractiveVerdict) (queue : List InteractiveVerdict)
    → IsMild default → AreMild queue → IsMild (first_verdict default queue)
first_interactive default [] m all = m
first_interactive default (one ∷ more) m all = all.0

rest_mild : (queue : List Verdict) → ArePlainMild queue → ArePlainMild (rest queue)
rest_mild [] all = tt
rest_mild (one ∷ more) all = all.1

rest_interactive : (queue : List InteractiveVerdict) → AreMild queue → AreMild (rest queue)
rest_interactive [] all = tt
rest_interactive (one ∷ more) all = all.1

verdict_mild : (queues : Queues) (admission : Admission) → Mild queues
    → IsMild (verdict_on queues admission)
verdict_mild queues (by.None user) m = first_mild Reject queues.none reject_mild m.0
verdict_mild queues (by.Password user password) m =
    first_mild Reject queues.password reject_mild m.1
verdict_mild queues (by.PublickeyOffered user key algorithm) m =
    first_mild Accept queues.offered accept_mild m.2
verdict_mild queues (by.Publickey user key algorithm) m =
    first_mild Reject queues.publickey reject_mild m.3
verdict_mild queues (by.OpensshCertificate user certificate) m =
    first_mild Reject queues.certificate reject_mild m.4
verdict_mild queues (by.KeyboardInteractive user submethods response) m =
    first_interactive (Plain Reject) queues.interactive reject_mild m.5

admitted_mild : (queues : Queues) (admission : Admission) → Mild queues
    → Mild (after_admission queues admission)
admitted_mild queues (by.None user) m =
    (rest_mild queues.none m.0, m.1, m.2, m.3, m.4, m.5, m.6)
admitted_mild queues (by.Password user password) m =
    (m.0, rest_mild queues.password m.1, m.2, m.3, m.4, m.5, m.6)
admitted_mild queues (by.PublickeyOffered user key algorithm) m =
    (m.0, m.1, rest_mild queues.offered m.2, m.3, m.4, m.5, m.6)
admitted_mild queues (by.Publickey user key algorithm) m =
    (m.0, m.1, m.2, rest_mild queues.publickey m.3, m.4, m.5, m.6)
admitted_mild queues (by.OpensshCertificate user certificate) m =
    (m.0, m.1, m.2, m.3, rest_mild queues.certificate m.4, m.5, m.6)
admitted_mild queues (by.KeyboardInteractive user submethods response) m =
    (m.0, m.1, m.2, m.3, m.4, rest_interactive queues.interactive m.5, m.6)

after_mild : (queues : Queues) (one : Question) → Mild queues → Mild (after queues one)
after_mild queues ask.Banner m = (m.0, m.1, m.2, m.3, m.4, m.5, ap (λ n. n - 1) m.6)
after_mild queues (ask.Admits admission) m = admitted_mild queues admission m
after_mild queues one m = m

-- ---- the calls

-- the call was answered by this error
abbrev FailsSo : Failure → Was Failure → Type 0
FailsSo e (Banner_so answer) = answer ≡ Err e
FailsSo e (Admitted_so admission answer) = answer ≡ Err e
FailsSo e (Lent_so lent answer commands) = answer ≡ Err e
FailsSo e (Judged_so judged answer commands) = answer ≡ Err e
FailsSo e (Listened_so address port port_after answer commands) = answer ≡ Err e
FailsSo e (Adjusted_so channel current answer) = answer ≡ Err e
FailsSo e (Done_so place outcome answer) = answer ≡ Err e

-- the call was answered by no error
abbrev Stands : Call Failure → Type 0
Stands call = (e : Failure) → FailsSo e (was call) → ⊥

abbrev AllStand : List (Call Failure) → Type 0
AllStand [] = Unit {0}
AllStand (call ∷ calls) = Stands call × AllStand calls

-- a call that was so stands where it was answered by no error
stands_so : (call : Call Failure) (w : Was Failure) → was call ≡ w
    → ((e : Failure) → FailsSo e w → ⊥) → Stands call
stands_so call w is none e fails = none e (subst (FailsSo e) is fails)

banner_stands : (left : ℕ) (banner : Option (List ℕ)) (e : Failure) → left ≡ 0
    → banner_answer left banner ≢ Err e
banner_stands left banner e none is =
    ok_is_no_error banner e (sym (ap (λ n. banner_answer n banner) none) ∙ is)

one_stands : (queues : Queues) (call : Call Failure) (one : Question) → Mild queues
    → call ∷ [] ≡ answered queues one → Stands call
one_stands queues call ask.Banner m h =
    stands_so call _ (ap was (first_is call _ h))
    (λ e is. banner_stands queues.banners queues.banner e m.6 is)
one_stands queues call (ask.Admits admission) m h =
    stands_so call _ (ap was (first_is call _ h) ∙ admitted_back Failure admission (interactive_answer
    (verdict_on queues admission)))
    (λ e is. verdict_mild queues admission m e is)
one_stands queues call (ask.Lends lent) m h =
    stands_so call _ (ap was (first_is call _ h) ∙ lent_back Failure lent (Ok tt)
    (records queues.standing lent)) (λ e is. ok_is_no_error tt e is)
one_stands queues call (ask.Judges judged) m h =
    stands_so call _ (ap was (first_is call _ h) ∙ judged_back Failure judged
    (Ok (grants queues.standing judged)) []) (λ e is. ok_is_no_error _ e is)
one_stands queues call (ask.Listens address port) m h =
    stands_so call _ (ap was (first_is call _ h)) (λ e is. ok_is_no_error _ e is)
one_stands queues call (ask.Adjusts channel current) m h =
    stands_so call _ (ap was (first_is call _ h)) (λ e is. ok_is_no_error _ e is)
one_stands queues call (ask.Done place outcome) m h =
    stands_so call _ (ap was (first_is call _ h)) (λ e is. ok_is_no_error _ e is)
one_stands queues call ask.Begins m h = absurd (let z : call ∷ [] ≡ [] = h in cc)
one_stands queues call (ask.Steps payload) m h = absurd (let z : call ∷ [] ≡ [] = h in cc)

all_stand : (queues : Queues) (calls : List (Call Failure)) → Mild queues → IsAnswered queues calls
    → AllStand calls
all_stand queues [] m h = tt
all_stand queues (call ∷ calls) m h = (
  one_stands queues call (asked_of call) m h.0,
  all_stand (after queues (asked_of call)) calls (after_mild queues (asked_of call) m) h.1,
)

later_stand : (before later : List (Call Failure)) → AllStand (before ++ later) → AllStand later
later_stand [] later all = all
later_stand (call ∷ before) later all = later_stand before later all.1

earlier_stand : (before later : List (Call Failure)) → AllStand (before ++ later) → AllStand before
earlier_stand [] later all = tt
earlier_stand (call ∷ before) later all = (all.0, earlier_stand before later all.1)

last_stands : (before : List (Event Failure PlainKexError)) (last : Event Failure PlainKexError)
    → AllStand (calls_in (before ++ last ∷ [])) → AllStand (calls_in (last ∷ []))
last_stands [] last all = all
last_stands (Called call ∷ before) last all = last_stands before last all.1
last_stands (Stepped step ∷ before) last all = last_stands before last all
last_stands (Told entry ∷ before) last all = last_stands before last all

-- ---- the end of a run

-- a question that was answered by an error is a call that was
error_fails : (question : Question) (e : Failure) (event : Event Failure PlainKexError)
    → Refused question (Handler_error e) event → AllStand (calls_in (event ∷ [])) → ⊥
error_fails ask.Banner e event is all =
    let s = subst (λ x. AllStand (calls_in (x ∷ []))) is all in s.0 e refl
error_fails (ask.Admits admission) e event is all =
    let s = subst (λ x. AllStand (calls_in (x ∷ []))) is all in
    s.0 e (subst (FailsSo e) (sym (admitted_back Failure admission (Err e))) refl)
error_fails (ask.Lends lent) e event is all =
    let s = subst (λ x. AllStand (calls_in (x ∷ []))) is.1 all in
    s.0 e (subst (FailsSo e) (sym (lent_back Failure lent (Err e) is.0)) refl)
error_fails (ask.Judges judged) e event is all =
    let s = subst (λ x. AllStand (calls_in (x ∷ []))) is.1 all in
    s.0 e (subst (FailsSo e) (sym (judged_back Failure judged (Err e) is.0)) refl)
error_fails (ask.Listens address port) e event is all =
    let s = subst (λ x. AllStand (calls_in (x ∷ []))) is.2 all in s.0 e refl
error_fails (ask.Adjusts channel current) e event is all =
    let s = subst (λ x. AllStand (calls_in (x ∷ []))) is all in s.0 e refl
error_fails (ask.Done place outcome) e event is all =
    let s = subst (λ x. AllStand (calls_in (x ∷ []))) is all in s.0 e refl
error_fails ask.Begins e event is all = absurd is
error_fails (ask.Steps payload) e event is all = absurd is

breaks_none : (plan : Plan Came) (events : List (Event Failure PlainKexError)) (e : Failure)
    → AllStand (calls_in events) → Breaks plan events (Handler_error e) → ⊥
breaks_none plan events e all b =
    error_fails b.question e b.last b.refused
    (last_stands b.before b.last (subst (λ l. AllStand (calls_in l)) b.is all))

closes_so : (accepts : Acceptance) (w : World) (count max : ℕ) (last : Option FailureTurn)
    (rose : Type 0) (e : Failure) → AllStand (flat_map calls_of (option_to_list last))
    → Closes accepts w count max last rose (Err (Handler e)) → ⊥
closes_so accepts w count max (Some turn) rose e all c =
    breaks_none c.2.0 turn.events e (earlier_stand (calls_of turn) [] all) c.2.2
closes_so accepts w count max None rose e all c = absurd c

abbrev IsOfLink : Outcome → Type 0
IsOfLink (Err LinkFault) = Unit {0}
IsOfLink _ = ⊥

-- a run in threads ends by no error of its handler
pub unfailed : (rose : Type 0) (trace : List TraceEntry) (outcome : Outcome)
    → IsRunOf rose trace outcome → IsUnfailed outcome
unfailed rose trace outcome (inr none) e is =
    subst IsOfLink (sym none.2 ∙ is) tt
unfailed rose trace outcome (inl s) e is =
    let all = all_stand hall.queues (flat_map calls_of (s.turns ++ option_to_list s.last)) mild_hall
    s.answered in
    let last = later_stand (flat_map calls_of s.turns) (flat_map calls_of (option_to_list s.last))
    (subst AllStand (flat_map-append calls_of s.turns (option_to_list s.last)) all) in
    closes_so (scene_accepts hall) s.world (length s.turns) (2 ^ 64 - 1) s.last rose e last
    (subst (λ result. Closes (scene_accepts hall) s.world (length s.turns) (2 ^ 64 - 1) s.last rose
    result) is s.closes)
