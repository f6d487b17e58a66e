-- No row but a reply to this side's requests tells of one or takes one from what waits (RFC 4254
-- section 4).
use Rattle.std.proofs.Common.{◌≡◌, ℕ, List, [], ◌∷◌, ◌++◌, Bool, true, false, cond}
use Rattle.std.proofs.Common.{Option, Some, None, Ok, refl, ◌∙◌, ap, ◌==◌}
use Rattle.std.specs.Prelude.{length, bytes_eq, codes, if◌then◌else◌}
use Rattle.ssh_wire.specs.declared.channel_id.ChannelId.{ChannelId}
use Rattle.ssh_wire.specs.declared.open.OpenChannelMessage.{OpenChannelMessage}
use Rattle.ssh_wire.specs.declared.open.ChannelOpenConfirmation.{ChannelOpenConfirmation}
use Rattle.ssh_wire.specs.declared.open_failure.ChannelOpenFailure.{ChannelOpenFailure}
use Rattle.ssh_auth.specs.declared.auth_request.AuthRequest.{AuthRequest}
use Rattle.ssh_auth.specs.declared.auth_step.AuthVerdict.{AuthVerdict}
use Rattle.ssh_auth.specs.declared.auth_step.AuthVerdict.TheVariants as verdict
use Rattle.ssh_auth.specs.declared.question.Question.TheVariants.{Banner, Admits}
use Rattle.ssh_auth.specs.Plan.{Plan, Finish, Ask, Tell, Event, Follows, after}
use Rattle.ssh_auth.specs.Verdict.{AuthOutcome, Replies, verdict as verdict_on, response_verdict}
use Rattle.ssh_auth.specs.Verdict as auth
use Rattle.ssh_auth.proofs.Back.{admitted_back}
use Rattle.ssh_channels.specs.declared.adjusted.Adjusted.{Adjusted}
use Rattle.ssh_channels.specs.declared.adjusted.Adjusted.TheVariants.{Dropped, Kept, Granted}
use Rattle.ssh_channels.specs.declared.chunk.Chunk.{Chunk}
use Rattle.ssh_channels.specs.Does.{coming_of}
use Rattle.ssh_channels.specs.Entry.{Entry}
use Rattle.ssh_channels.specs.Layout.{as_uint32}
use Rattle.ssh_channels.specs.Lines.{find, next_number, aims}
use Rattle.ssh_rules.specs.declared.exchange.Passage.{Passage}
use Rattle.ssh_rules.specs.declared.exchange.Passage.TheVariants.{Begins, Steps, Barred, Late}
use Rattle.ssh_rules.specs.declared.exchange.Passage.TheVariants.{Passes}
use Rattle.ssh_rules.specs.declared.messages.Spoken.{Spoken}
use Rattle.ssh_rules.specs.declared.messages.Spoken.TheVariants as spoken
use Rattle.ssh_rules.specs.declared.handling.Handling.{Handling}
use Rattle.ssh_rules.specs.declared.handling.Handling.TheVariants.{Asks, GivenUp, Unsupported, Unknown}
use Rattle.ssh_rules.specs.declared.outstanding.Outstanding.{Outstanding}
use Rattle.ssh_rules.specs.declared.state.EncryptedState.{EncryptedState}
use Rattle.ssh_rules.specs.declared.state.EncryptedState.TheVariants.{WaitingAuthRequest}
use Rattle.ssh_rules.specs.Acts.{Act, Stops, acts}
use Rattle.ssh_rules.specs.InOrder.{recorded, awaits_within}
use Rattle.ssh_rules.specs.Outcome.{Outcome}
use Rattle.ssh_rules.specs.Reading.{Said, Disconnect, Over_cap, Service, Request, Response, Open}
use Rattle.ssh_rules.specs.Reading.{Agreed, Unfit, Without_packets, Unread}
use Rattle.ssh_rules.specs.Reading as read
use Rattle.ssh_rules.specs.Rows.{row, owed, greets, is_short, replied, concluded, where_waiting}
use Rattle.ssh_rules.specs.Rows.{spoken_acts, on_entry, on_confirmed, data_told}
use Rattle.ssh_rules.specs.Rows.{failure_acts, confirmation_acts, open_acts, global_reply}
use Rattle.ssh_rules.specs.Rows.{bound_to, aims_at, fault_of, exchange_acts}
use Rattle.ssh_rules.specs.Types.{handling}
use Rattle.ssh_rules.specs.Valid.{recorded_so}
use Rattle.ssh_rules.specs.World.{World, waits_for, lined, settles_global, unless_ended}
use Rattle.ssh_rules.specs.World.{is_there, is_waiting, target_on, request_at, settles_one}
use Rattle.ssh_rules.proofs.InOrder.Commands.{settles_same}
use Rattle.ssh_rules.proofs.InOrder.Acts.{Waits, KeepsQueue, AreCalling, calling_waits, waits_more}
use Rattle.ssh_rules.proofs.Plans.Verdicts.{EndsSo, IsBeside, verdict_beside, response_beside}

-- ---- what is said

-- it is no reply to a request of this side's
abbrev pub IsNoReply : Spoken → Type 0
IsNoReply (spoken.Settles told) = ⊥
IsNoReply _ = Unit {0}

abbrev pub SaysNoReply : Said → Type 0
SaysNoReply (read.Connection said) = IsNoReply said
SaysNoReply _ = Unit {0}

either_keeps : (b : Bool) (by : World → World) (w : World) →
    (by w).globals.outstanding ≡ w.globals.outstanding →
    (cond b w (by w)).globals.outstanding ≡ w.globals.outstanding
either_keeps true by w h = refl
either_keeps false by w h = h

-- a reply of this side's
ended_keeps : (payload : List ℕ) → KeepsQueue (unless_ended (settles_global payload))
ended_keeps payload w =
    either_keeps w.disconnected (settles_global payload) w (settles_same payload w)

confirmed_calling : (confirmed : Bool) (owes : List Act) → AreCalling owes →
    AreCalling (on_confirmed confirmed owes)
confirmed_calling true owes h = h
confirmed_calling false owes h = tt

entry_calling : (e : Option Entry) (owes : Entry → List Act) →
    ((e : Entry) → AreCalling (owes e)) → AreCalling (on_entry e owes)
entry_calling None owes h = tt
entry_calling (Some e) owes h = confirmed_calling e.confirmed (owes e) (h e)

aims_same : (channel : ChannelId) (window : ℕ) → KeepsQueue (aims_at channel window)
aims_same channel window w =
    either_keeps (window == 0) (lined (aims channel.0 (as_uint32 window))) w refl

told_calling : (adjusted : Adjusted) (channel : ChannelId) (piece : Chunk) (target : ℕ) →
    AreCalling (data_told adjusted channel piece target)
told_calling Dropped channel piece target = tt
told_calling Kept channel piece target = (refl, tt)
told_calling (Granted amount) channel piece target = (refl, (aims_same channel, tt))

failure_calling : (there waiting : Bool) (channel : ChannelId) (why : ChannelOpenFailure) →
    AreCalling (failure_acts there waiting channel why)
failure_calling there true channel why = (λ w. refl, (refl, tt))
failure_calling true false channel why = tt
failure_calling false false channel why = tt

confirmation_calling : (waiting : Bool) (message : ChannelOpenConfirmation) →
    AreCalling (confirmation_acts waiting message)
confirmation_calling true message = (λ w. refl, (refl, (refl, tt)))
confirmation_calling false message = tt

open_calling : (number : Option ℕ) (message : OpenChannelMessage) (does : Handling) →
    AreCalling (open_acts number message does)
open_calling None message (Asks type) = tt
open_calling None message GivenUp = tt
open_calling None message Unsupported = tt
open_calling None message Unknown = tt
open_calling (Some number) message (Asks type) = (λ w. refl, tt)
open_calling (Some number) message GivenUp = (λ w. refl, tt)
open_calling (Some number) message Unsupported = (λ w. refl, tt)
open_calling (Some number) message Unknown = (λ w. refl, tt)

spoken_calling : (w : World) (said : Spoken) → IsNoReply said → AreCalling (spoken_acts w said)
spoken_calling w spoken.Nothing is = tt
spoken_calling w (spoken.Grant channel amount) is =
    entry_calling (find channel.0 w.channels.lines.entries) _
    (λ e. (λ v. refl, (refl, (refl, tt))))
spoken_calling w (spoken.Data channel piece) is =
    let target = target_on channel.0 w in
    let came = coming_of (length piece.bytes) target (find channel.0 w.channels.lines.entries) in
    (λ v. refl, told_calling came channel piece target)
spoken_calling w (spoken.Tells channel message happening) is =
    entry_calling (find channel.0 w.channels.lines.entries) _ (λ e. (refl, tt))
spoken_calling w (spoken.Close channel) is =
    entry_calling (find channel.0 w.channels.lines.entries) _ (λ e. (λ v. refl, (refl, tt)))
spoken_calling w (spoken.Failed channel reason) is =
    failure_calling (is_there w channel.0) (is_waiting w channel.0) channel reason
spoken_calling w (spoken.Requests channel wanted message happening) is = (λ v. refl, (refl, tt))
spoken_calling w (spoken.RequestsAgent channel wanted) is = (
  λ v. refl,
  (
    refl,
    (
      λ granted v. either_keeps v.disconnected
          (lined (settles_one (request_at channel wanted w).place channel.0 granted)) v refl,
      tt,
    ),
  ),
)
spoken_calling w (spoken.RequestsUnknown channel wanted) is = (λ v. refl, (λ v. refl, tt))
spoken_calling w (spoken.RequestsForward wanted address port) is = (
  λ v. refl,
  (λ granted bound. ended_keeps (global_reply granted (bound_to port bound)), tt),
)
spoken_calling w (spoken.RequestsGlobally wanted judged) is =
    (λ v. refl, (λ granted. ended_keeps (global_reply granted None), tt))
spoken_calling w (spoken.RequestsGloballyUnknown wanted) is =
    (λ v. refl, (settles_same (global_reply false None), tt))
spoken_calling w (spoken.GivesUpSessions wanted) is =
    (λ v. refl, (λ v. refl, (settles_same (global_reply true None), tt)))
spoken_calling w (spoken.Settles told) is = absurd is
spoken_calling w spoken.Inconsistent is = tt

pub owed_calling : (w : World) (said : Said) → SaysNoReply said → AreCalling (owed w said)
owed_calling w (Open message) is =
    open_calling (next_number w.channels.lines) message
    (handling w.channels.no_more_sessions message.typ)
owed_calling w (Agreed message) is =
    confirmation_calling (is_waiting w message.recipient_channel) message
owed_calling w (read.Connection said) is = spoken_calling w said is
owed_calling w Unread is = tt
owed_calling w Disconnect is = tt
owed_calling w Over_cap is = (λ v. refl, tt)
owed_calling w (Unfit why) is = tt
owed_calling w Without_packets is = tt
owed_calling w _ is = tt

-- what goes to the exchange of keys
pub exchange_calling : (payload : List ℕ) (at : Passage) →
    AreCalling (exchange_acts payload at)
exchange_calling payload Begins = tt
exchange_calling payload Steps = tt
exchange_calling payload Barred = tt
exchange_calling payload Late = tt
exchange_calling payload Passes = tt

-- ---- authentication

pub replied_calling : (w : World) (moment : ℕ) (requested : Bool) (reply : List ℕ)
    (v : AuthVerdict) → AreCalling (replied w moment requested reply v)
replied_calling w moment requested reply verdict.Accepted = (λ v. refl, tt)
replied_calling w moment requested reply (verdict.Rejected none_method) = (λ v. refl, tt)
replied_calling w moment requested reply verdict.Continued = (λ v. refl, tt)

pub greets_calling : (message : Option (List ℕ)) (short : Bool) → is_short message ≡ short →
    AreCalling (greets message)
greets_calling message true is = rw is (λ w. refl, tt)
greets_calling message false is = rw is tt

-- a verdict asks for no commands, and then the reply is written
verdict_waits : {E F : Type 0} (waiting : List Outstanding) (plan : Plan AuthOutcome)
    (later : AuthOutcome → Plan Outcome) (events : List (Event E F)) (outcome : Outcome) →
    EndsSo IsBeside plan → ((o : AuthOutcome) (rest : List (Event E F)) →
    Follows (later o) rest outcome → Waits (waiting ++ awaits_within rest) outcome) →
    Follows (after plan later) events outcome → Waits (waiting ++ awaits_within events) outcome
verdict_waits waiting (Finish o) later events outcome e k f = k o events f
verdict_waits waiting (Ask question next) later [] outcome e k f = absurd (cc)
verdict_waits {E} {F} waiting (Ask (Admits admission) next) later (event ∷ events) outcome e k f =
    waits_more waiting outcome event events
    (ap recorded f.1 ∙ ap recorded_so (admitted_back E admission (Ok f.0)))
    (verdict_waits waiting (next f.0) later events outcome (e.1 f.0) k f.2)
verdict_waits waiting (Ask other next) later (event ∷ events) outcome e k f = absurd e.0
verdict_waits waiting (Tell entry next) later events outcome e k f = absurd e

concluded_waits : {E F : Type 0} (w : World) (moment : ℕ) (requested : Bool) (o : AuthOutcome)
    (events : List (Event E F)) (outcome : Outcome) →
    Follows (concluded w moment requested o) events outcome →
    Waits (w.globals.outstanding ++ awaits_within events) outcome
concluded_waits w moment requested (Replies reply v state) events outcome f =
    let u = waits_for (WaitingAuthRequest state) w in
    calling_waits (replied u moment requested reply v) u events outcome
    (replied_calling u moment requested reply v) f
concluded_waits w moment requested (auth.Fails fault) events outcome f =
    calling_waits (Stops (fault_of fault) ∷ []) w events outcome tt f

asked_waits : {E F : Type 0} (state : EncryptedState) (next : AuthRequest → Plan AuthOutcome)
    (w : World) (moment : ℕ) (requested : Bool) (events : List (Event E F)) (outcome : Outcome) →
    ((auth : AuthRequest) → EndsSo IsBeside (next auth)) →
    Follows (where_waiting state (λ auth. after (next auth) (concluded w moment requested)) (acts [] w))
    events outcome → Waits (w.globals.outstanding ++ awaits_within events) outcome
asked_waits (WaitingAuthRequest auth) next w moment requested events outcome e f =
    verdict_waits w.globals.outstanding (next auth) (concluded w moment requested) events outcome
    (e auth) (λ o rest g. concluded_waits w moment requested o rest outcome g) f
asked_waits _ next w moment requested events outcome e f =
    calling_waits [] w events outcome tt f

service_waits : {E F : Type 0} (w : World) (b : Bool) (events : List (Event E F))
    (outcome : Outcome) →
    Follows (if b then Ask Banner (λ message. acts (greets message) w) else acts [] w) events
    outcome → Waits (w.globals.outstanding ++ awaits_within events) outcome
service_waits w true [] outcome f = absurd (cc)
service_waits w true (event ∷ events) outcome f =
    waits_more w.globals.outstanding outcome event events (ap recorded f.1)
    (calling_waits (greets f.0) w events outcome (greets_calling f.0 (is_short f.0) refl) f.2)
service_waits w false events outcome f = calling_waits [] w events outcome tt f

-- ---- rows

pub row_waits : {E F : Type 0} (w : World) (moment : ℕ) (said : Said) (events : List (Event E F))
    (outcome : Outcome) → SaysNoReply said → Follows (row w moment said) events outcome →
    Waits (w.globals.outstanding ++ awaits_within events) outcome
row_waits w moment (Service name) events outcome is f =
    service_waits w (bytes_eq name (codes "ssh-userauth")) events outcome f
row_waits w moment (Request asked) events outcome is f =
    asked_waits w.user.state (λ auth. verdict_on auth asked) w moment true events outcome
    (verdict_beside asked) f
row_waits w moment (Response responded) events outcome is f =
    asked_waits w.user.state (λ auth. response_verdict auth responded) w moment w.user.requested
    events outcome (response_beside responded) f
row_waits w moment said events outcome is f =
    calling_waits (owed w said) w events outcome (owed_calling w said is) f
