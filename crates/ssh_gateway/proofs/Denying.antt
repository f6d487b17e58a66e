-- Every question of an input is answered so that no channel is touched: an open is refused or is
-- answered later, and a request fails (RFC 4254 section 5).
use Rattle.std.proofs.Common.{◌≡◌, ◌∙◌, ℕ, List, [], ◌∷◌, Bool, true, false, Ok, refl, sym, ap, subst}
use Rattle.std.specs.Prelude.{flat_map}
use Rattle.ssh_wire.specs.declared.channel_id.ChannelId.{ChannelId}
use Rattle.ssh_wire.specs.declared.open_failure.ChannelOpenFailure.TheVariants.{
  AdministrativelyProhibited,
}
use Rattle.ssh_auth.specs.declared.call.Call.{Call}
use Rattle.ssh_auth.specs.declared.call.Call.TheVariants as called
use Rattle.ssh_auth.specs.declared.question.Happening.{Happening}
use Rattle.ssh_auth.specs.declared.question.Happening.TheVariants as what
use Rattle.ssh_auth.specs.declared.question.Lent.{Lent}
use Rattle.ssh_auth.specs.declared.question.Lent.TheVariants.{Succeeded, Opens, Happened}
use Rattle.ssh_auth.specs.declared.question.OpenType.{OpenType}
use Rattle.ssh_auth.specs.declared.question.OpenType.TheVariants as type
use Rattle.ssh_auth.specs.declared.question.Question.{Question}
use Rattle.ssh_auth.specs.declared.question.Question.TheVariants as ask
use Rattle.ssh_auth.specs.Calls.{lent_call, judged_call}
use Rattle.ssh_auth.specs.Plan.{Event, Called, Stepped, Told, calls_in}
use Rattle.ssh_auth.specs.Was.{Was, Banner_so, Admitted_so, Lent_so, Judged_so, was, asked_of}
use Rattle.ssh_auth.specs.Was.{question_of}
use Rattle.ssh_auth.proofs.Back.{lent_back, judged_back}
use Rattle.ssh_handler.specs.OwnCalls.{is_own, own_calls}
use Rattle.ssh_rules.proofs.Plans.Acting.{AllBuilt}
use Rattle.ssh_gateway.specs.Answering.{answered, opened, records, replied}
use Rattle.ssh_gateway.proofs.Carrying.{AreDenied, DeniedSo, IsDenial, closes}
use Rattle.ssh_gateway.proofs.Waiting.{AreFree, Next, next_of}

opened_denied : (channel : ChannelId) (t : OpenType) → AllBuilt IsDenial (opened channel t)
opened_denied channel (type.DirectTcpip host port from from_port) = tt
opened_denied channel t = ((AdministrativelyProhibited, refl), tt)

replied_denied : (channel : ChannelId) (happening : Happening)
    → AllBuilt IsDenial (replied channel happening)
replied_denied channel (what.Confirmed packet window) = tt
replied_denied channel (what.Data bytes) = tt
replied_denied channel (what.ExtendedData code bytes) = tt
replied_denied channel what.Eof = tt
replied_denied channel what.Close = tt
replied_denied channel (what.WindowAdjusted new_size) = tt
replied_denied channel happening = (tt, tt)

records_denied : (lent : Lent) → AllBuilt IsDenial (records lent)
records_denied Succeeded = tt
records_denied (Opens channel t) = opened_denied channel t
records_denied (Happened channel happening) = replied_denied channel happening

-- ---- a call

-- by the question that it answers
call_denied : {E : Type 0} (n : ℕ) (question : Question) (call : Call E)
    → answered question ≡ call ∷ [] → closes n question ≡ false → DeniedSo n (was call)
call_denied {E} n (ask.Lends lent) call is free =
    let made : lent_call lent (Ok tt) (records lent) ≡ call = cc in
    let same : was call ≡ Lent_so lent (Ok tt) (records lent) =
    ap was (sym made) ∙ lent_back E lent (Ok tt) (records lent) in
    subst (DeniedSo n) (sym same) (records_denied lent, free)
call_denied {E} n (ask.Judges judged) call is free =
    let made : judged_call judged (Ok false) [] ≡ call = cc in
    let same : was call ≡ Judged_so judged (Ok false) [] =
    ap was (sym made) ∙ judged_back E judged (Ok false) [] in
    subst (DeniedSo n) (sym same) tt
call_denied n (ask.Listens address port) call is free =
    let made : called.TcpipForward address port port (Ok false) [] ≡ call = cc in
    subst (λ c. DeniedSo n (was c)) made tt
call_denied n (ask.Adjusts channel current) call is free =
    let made : called.AdjustWindow channel current (Ok current) ≡ call = cc in
    subst (λ c. DeniedSo n (was c)) made tt
call_denied n (ask.Done place outcome) call is free =
    let made : called.CommandDone place outcome (Ok tt) ≡ call = cc in
    subst (λ c. DeniedSo n (was c)) made tt
call_denied n question call is free = absurd (cc)

-- what a session's own callbacks are not asked says nothing of it
quiet_denied : {E : Type 0} (n : ℕ) (x : Was E) → is_own (question_of x) ≡ false → DeniedSo n x
quiet_denied n (Banner_so answer) is = tt
quiet_denied n (Admitted_so admission answer) is = tt
quiet_denied n x is = absurd (cc)

-- ---- an input

abbrev Denied : {E F : Type 0} → ℕ → List (Event E F) → Type 0
Denied n events = (questions : List Question)
    → own_calls (calls_in events) ≡ flat_map answered questions → AreFree (closes n) questions
    → AreDenied n events

called_denied : {E F : Type 0} (b : Bool) (n : ℕ) (call : Call E) (events : List (Event E F))
    → is_own (asked_of call) ≡ b → Denied n events → Denied n (Called call ∷ events)
called_denied false n call events is more questions same free =
    let left : own_calls (call ∷ calls_in events) ≡ own_calls (calls_in events) = rw is refl in
    (quiet_denied n (was call) is, more questions (sym left ∙ same) free)
called_denied true n call events is more questions same free =
    let kept : own_calls (call ∷ calls_in events) ≡ call ∷ own_calls (calls_in events) =
    rw is refl in
    let next = next_of call (own_calls (calls_in events)) questions (sym kept ∙ same) in
    let parts = next.free (closes n) free in (
      call_denied n next.question call next.is parts.0,
      more next.later next.rest parts.1,
    )

-- where the close of the number's channel is not asked about
pub events_denied : {E F : Type 0} (n : ℕ) (events : List (Event E F)) → Denied n events
events_denied n [] questions same free = tt
events_denied n (Stepped step ∷ events) questions same free =
    (tt, events_denied n events questions same free)
events_denied n (Told entry ∷ events) questions same free =
    (tt, events_denied n events questions same free)
events_denied n (Called call ∷ events) questions same free =
    called_denied (is_own (asked_of call)) n call events refl (events_denied n events) questions same
    free
