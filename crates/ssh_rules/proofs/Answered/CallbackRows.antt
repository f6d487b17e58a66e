-- The callback of an open is made in a CHANNEL_OPEN alone, and once (RFC 4254 section 5.1).
use Rattle.std.proofs.Common.{◌≡◌, ◌⊎◌, ◌+◌, ℕ, List, [], ◌∷◌, map, Bool, true, false}
use Rattle.std.proofs.Common.{Option, Some, None, Result, Ok, Err}
use Rattle.std.proofs.Common.{refl, sym, ◌∙◌, ap, inl, inr}
use Rattle.std.specs.Prelude.{drop, length, bytes_eq, codes, if◌then◌else◌}
use Rattle.ssh_wire.specs.declared.channel_id.ChannelId.{ChannelId}
use Rattle.ssh_wire.specs.declared.error.WireError.{WireError}
use Rattle.ssh_keys.specs.declared.algorithm.Algorithm.{Algorithm}
use Rattle.ssh_keys.specs.declared.key_or_certificate.PublicKeyOrCertificate.{PublicKeyOrCertificate}
use Rattle.ssh_keys.specs.declared.key_or_certificate.PublicKeyOrCertificate.TheVariants.{PublicKey as Plain}
use Rattle.ssh_keys.specs.declared.key_or_certificate.PublicKeyOrCertificate.TheVariants.{Certificate}
use Rattle.ssh_keys.specs.Offers.{offered_key}
use Rattle.ssh_link.specs.Frames.{Frame}
use Rattle.ssh_link.specs.declared.command.Command.{Command}
use Rattle.ssh_link.specs.declared.command.Command.TheVariants as command
use Rattle.ssh_link.specs.declared.frame.InputKind.{InputKind}
use Rattle.ssh_link.specs.declared.frame.InputKind.TheVariants as input
use Rattle.ssh_link.specs.declared.kex.KexCall.{KexCall}
use Rattle.ssh_link.specs.declared.kex.KexCall.TheVariants as kex
use Rattle.ssh_link.specs.declared.link.TraceEntry.{TraceEntry}
use Rattle.ssh_link.specs.declared.link.TraceEntry.TheVariants.{Noticed, Sent}
use Rattle.ssh_link.specs.declared.outcome.CommandOutcome.{CommandOutcome}
use Rattle.ssh_link.specs.declared.outcome.CommandOutcome.TheVariants.{Accepted, Opened, Refused}
use Rattle.ssh_auth.specs.declared.auth.Auth.{Auth}
use Rattle.ssh_auth.specs.declared.auth.Auth.TheVariants.{Accept}
use Rattle.ssh_auth.specs.declared.auth_request.AuthRequest.{AuthRequest}
use Rattle.ssh_auth.specs.declared.auth_step.AuthVerdict.TheVariants as verdict
use Rattle.ssh_auth.specs.declared.question.Admission.TheVariants as by
use Rattle.ssh_auth.specs.declared.question.Question.{Question}
use Rattle.ssh_auth.specs.declared.question.Question.TheVariants.{Admits, Banner, Lends}
use Rattle.ssh_auth.specs.Plan.{Plan, Finish, Ask, Tell, Answer, Event, Called, Stepped, Told}
use Rattle.ssh_auth.specs.Plan.{asked_in, asked_in_step, after}
use Rattle.ssh_auth.specs.Proven.{AsksOnly}
use Rattle.ssh_auth.specs.Publickey.{Acceptance, Circumstances, Offer}
use Rattle.ssh_auth.specs.Request.{begun, is_probed, prompt_of}
use Rattle.ssh_auth.specs.Requested.{Method, None_method, Password_method, Change_method}
use Rattle.ssh_auth.specs.Requested.{Unusable_method, Broken_method, Probe_method, Misnamed_method}
use Rattle.ssh_auth.specs.Requested.{Signed_method, Interactive_method, Other_method, Unfit_method}
use Rattle.ssh_auth.specs.Requested.{Requested as Asked}
use Rattle.ssh_auth.specs.Requested as asks
use Rattle.ssh_auth.specs.Response.{Responded, Responses, Unfit_responses, Unread_responses}
use Rattle.ssh_auth.specs.Verdict.{AuthOutcome, proof, signed, permitted, method_verdict, responded}
use Rattle.ssh_auth.specs.Verdict.{verdict as verdict_on, response_verdict}
use Rattle.ssh_auth.specs.Verdict as verdicts
use Rattle.ssh_auth.specs.Was.{asked_of}
use Rattle.ssh_channels.specs.declared.adjusted.Adjusted.{Adjusted}
use Rattle.ssh_channels.specs.declared.adjusted.Adjusted.TheVariants.{Dropped, Kept, Granted}
use Rattle.ssh_channels.specs.declared.chunk.Chunk.{Chunk}
use Rattle.ssh_channels.specs.Does.{coming_of}
use Rattle.ssh_channels.specs.Entry.{Entry}
use Rattle.ssh_channels.specs.Lines.{find, next_number}
use Rattle.ssh_rules.specs.declared.gate.Gate.{Gate}
use Rattle.ssh_rules.specs.declared.gate.Gate.TheVariants as gate
use Rattle.ssh_rules.specs.declared.exchange.Passage.{Passage}
use Rattle.ssh_rules.specs.declared.exchange.Passage.TheVariants as passage
use Rattle.ssh_rules.specs.declared.messages.Spoken.{Spoken}
use Rattle.ssh_rules.specs.declared.messages.Spoken.TheVariants as spoken
use Rattle.ssh_rules.specs.declared.state.EncryptedState.{EncryptedState}
use Rattle.ssh_rules.specs.declared.state.EncryptedState.TheVariants.{WaitingAuthRequest}
use Rattle.ssh_rules.specs.Acts.{Act, Notes, Calls, Adjusts_by, Turns, Is_over, Stops, tell_all}
use Rattle.ssh_rules.specs.Acts.{tell_done, done, done_all, acts, Judges_by, Listens_by}
use Rattle.ssh_rules.specs.Acts.{Exchanges, Exchanging, Beginning, Stepping, exchange_question}
use Rattle.ssh_rules.specs.Acts.{payloads_given, frames_given, moved}
use Rattle.ssh_rules.specs.Answered.{is_open, open_asked, open_of, sends_answer}
use Rattle.ssh_rules.specs.Effect.{Effect, Brings, effect, said, effect_at}
use Rattle.ssh_rules.specs.OwnMessages.{keepalive}
use Rattle.ssh_rules.specs.Ticks.{keepalive_acts, is_too_many, ticked}
use Rattle.ssh_rules.specs.Ticks as ticks
use Rattle.ssh_rules.specs.Gate.{gate_of}
use Rattle.ssh_rules.specs.declared.handling.Handling.{Handling}
use Rattle.ssh_rules.specs.declared.handling.Handling.TheVariants.{Asks, Unsupported, Unknown, GivenUp}
use Rattle.ssh_rules.specs.Types.{handling, opening_by}
use Rattle.ssh_wire.specs.declared.open.OpenChannelMessage.{OpenChannelMessage}
use Rattle.ssh_wire.specs.declared.open.ChannelOpenConfirmation.{ChannelOpenConfirmation}
use Rattle.ssh_wire.specs.declared.open_failure.ChannelOpenFailure.{ChannelOpenFailure}
use Rattle.ssh_rules.specs.Outcome.{Outcome, Keepalive_timeout}
use Rattle.ssh_rules.specs.Reading.{Said, Service, Request, Response, Open}
use Rattle.ssh_rules.specs.Reading.{Connection, Unfit, Without_packets, Says, SaysOpen, said_of}
use Rattle.ssh_rules.specs.Reading.{Agreed, Unread, SaysConfirmation}
use Rattle.ssh_rules.specs.Rows.{row, owed, spoken_acts, open_acts, waits, greets, is_short}
use Rattle.ssh_rules.specs.Rows.{replied, concluded, where_waiting as asked_at, data_told, on_entry}
use Rattle.ssh_rules.specs.Rows.{on_confirmed, failure_acts, confirmation_acts, exchange_acts}
use Rattle.ssh_rules.specs.Run.{OwesKind, command_row}
use Rattle.ssh_rules.specs.World.{World, circumstances, hears, waits_for, is_there, is_waiting}
use Rattle.ssh_rules.specs.World.{target_on, ChannelRequest}
use Rattle.ssh_rules.proofs.Plans.Gates.{is_channel_open}
use Rattle.ssh_rules.proofs.Plans.Passing.{payload_so}

-- ---- what an event asked

no_step : {F : Type 0} (step : KexCall F) → open_asked (asked_in_step step) ≡ None
no_step (kex.Begun answer) = refl
no_step (kex.Stepped payload answer) = refl

-- an event in which this was asked is about the same open
pub asked_open : {E F : Type 0} (event : Event E F) (question : Question) →
    asked_in event ≡ Some question → open_of event ≡ open_asked question
asked_open (Called call) question is =
    let e : Some (asked_of call) ≡ Some question = is in
    let same : asked_of call ≡ question = cc in
    ap open_asked same
asked_open (Stepped step) question is =
    let e : Some (asked_in_step step) ≡ Some question = is in
    let same : asked_in_step step ≡ question = cc in
    sym (no_step step) ∙ ap open_asked same
asked_open (Told entry) question is = absurd (let e : None ≡ Some question = is in cc)

-- and nothing was sent in it
pub asked_silent : {E F : Type 0} (such : Frame → Bool) (event : Event E F) (question : Question) →
    asked_in event ≡ Some question → sends_answer such event ≡ false
asked_silent such (Called call) question is = refl
asked_silent such (Stepped step) question is = refl
asked_silent such (Told entry) question is = absurd (let e : None ≡ Some question = is in cc)

-- ---- acts

-- it is asked about no open
abbrev pub IsBeside : Question → Type 0
IsBeside question = open_asked question ≡ None

abbrev pub ActsBeside : List Act → Type 0
ActsBeside [] = Unit {0}
ActsBeside (Calls at lent ∷ later) = IsBeside (Lends lent) × ActsBeside later
ActsBeside (_ ∷ later) = ActsBeside later

pub tells_beside : (entries : List TraceEntry) (next : Plan Outcome) → AsksOnly IsBeside next →
    AsksOnly IsBeside (tell_all entries next)
tells_beside [] next h = h
tells_beside (entry ∷ entries) next h = tells_beside entries next h

done_beside : (place : ℕ) (outcome : CommandOutcome) (next : Plan Outcome) →
    AsksOnly IsBeside next → AsksOnly IsBeside (tell_done place outcome next)
done_beside place Accepted next h = h
done_beside place (Opened channel) next h = (refl, λ _. h)
done_beside place (Refused why) next h = (refl, λ _. h)

one_beside : (does : Effect) (next : CommandOutcome → World → Plan Outcome) →
    ((outcome : CommandOutcome) (world : World) → AsksOnly IsBeside (next outcome world)) →
    AsksOnly IsBeside (done does next)
one_beside (Brings notices outcome world) next h =
    tells_beside (map Noticed notices) (next outcome world) (h outcome world)

all_beside : (at : Option ChannelRequest) (place : ℕ) (commands : List Command) (w : World)
    (next : World → Plan Outcome) →
    ((world : World) → AsksOnly IsBeside (next world)) →
    AsksOnly IsBeside (done_all at place commands w next)
all_beside at place [] w next h = h w
all_beside at place (command ∷ commands) w next h =
    one_beside (effect_at at w command) (λ outcome world. tell_done place outcome
    (done_all at (place + 1) commands world next))
    (λ outcome world. done_beside place outcome (done_all at (place + 1) commands world next)
    (all_beside at (place + 1) commands world next h))

-- what an exchange of keys is asked is about no open
exchange_beside : (asked : Exchanging) → IsBeside (exchange_question asked)
exchange_beside Beginning = refl
exchange_beside (Stepping payload) = refl

pub acts_beside : (now : List Act) (w : World) → ActsBeside now → AsksOnly IsBeside (acts now w)
acts_beside [] w h = tt
acts_beside (Notes notice ∷ later) w h = acts_beside later w h
acts_beside (Calls at lent ∷ later) w h = (
  h.0,
  λ commands. all_beside at 0 commands w (acts later) (λ world. acts_beside later world h.1),
)
acts_beside (Judges_by at judged by ∷ later) w h = (
  refl,
  λ answer. all_beside at 0 answer.commands w (λ world. acts later (by answer.granted world))
      (λ world. acts_beside later (by answer.granted world) h),
)
acts_beside (Listens_by address port by ∷ later) w h = (
  refl,
  λ answer. all_beside None 0 answer.commands w
      (λ world. acts later (by answer.granted answer.port world))
      (λ world. acts_beside later (by answer.granted answer.port world) h),
)
acts_beside (Adjusts_by channel current by ∷ later) w h = (
  refl,
  λ window. acts_beside later (by window w) h,
)
acts_beside (Exchanges asked ∷ later) w h = (
  exchange_beside asked,
  λ answer. tells_beside (map Sent (frames_given (payloads_given asked answer)))
      (acts later (moved asked answer w)) (acts_beside later (moved asked answer w) h),
)
acts_beside (Turns by ∷ later) w h = acts_beside later (by w) h
acts_beside (Is_over ∷ later) w h = tt
acts_beside (Stops why ∷ later) w h = tt

-- ---- rows

entry_step : (confirmed : Bool) (owes : List Act) → ActsBeside owes →
    ActsBeside (on_confirmed confirmed owes)
entry_step true owes h = h
entry_step false owes h = tt

on_beside : (e : Option Entry) (owes : Entry → List Act) → ((e : Entry) → ActsBeside (owes e)) →
    ActsBeside (on_entry e owes)
on_beside None owes h = tt
on_beside (Some e) owes h = entry_step e.confirmed (owes e) (h e)

data_beside : (adjusted : Adjusted) (channel : ChannelId) (piece : Chunk) (target : ℕ) →
    ActsBeside (data_told adjusted channel piece target)
data_beside Dropped channel piece target = tt
data_beside Kept channel piece target = (refl, tt)
data_beside (Granted amount) channel piece target = (refl, tt)

failure_beside : (there waiting : Bool) (channel : ChannelId) (why : ChannelOpenFailure)
    → ActsBeside (failure_acts there waiting channel why)
failure_beside there true channel why = tt
failure_beside true false channel why = tt
failure_beside false false channel why = tt

confirmation_acts_beside : (waiting : Bool) (message : ChannelOpenConfirmation)
    → ActsBeside (confirmation_acts waiting message)
confirmation_acts_beside true message = (refl, tt)
confirmation_acts_beside false message = tt

spoken_beside : (w : World) (said : Spoken) → ActsBeside (spoken_acts w said)
spoken_beside w spoken.Nothing = tt
spoken_beside w (spoken.Grant channel amount) =
    on_beside (find channel.0 w.channels.lines.entries) _ (λ e. (refl, tt))
spoken_beside w (spoken.Data channel piece) =
    data_beside (coming_of (length piece.bytes) (target_on channel.0 w)
    (find channel.0 w.channels.lines.entries)) channel piece (target_on channel.0 w)
spoken_beside w (spoken.Tells channel message happening) =
    on_beside (find channel.0 w.channels.lines.entries) _ (λ e. (refl, tt))
spoken_beside w (spoken.Close channel) =
    on_beside (find channel.0 w.channels.lines.entries) _ (λ e. (refl, tt))
spoken_beside w (spoken.Failed channel reason) =
    failure_beside (is_there w channel.0) (is_waiting w channel.0) channel reason
spoken_beside w (spoken.Requests channel wanted message happening) = (refl, tt)
spoken_beside w (spoken.RequestsAgent channel wanted) = tt
spoken_beside w (spoken.RequestsUnknown channel wanted) = tt
spoken_beside w (spoken.RequestsForward wanted address port) = tt
spoken_beside w (spoken.RequestsGlobally wanted judged) = tt
spoken_beside w (spoken.RequestsGloballyUnknown wanted) = tt
spoken_beside w (spoken.GivesUpSessions wanted) = tt
spoken_beside w (spoken.Settles None) = tt
spoken_beside w (spoken.Settles (Some notice)) = tt
spoken_beside w spoken.Inconsistent = tt

-- what is said is no open of the peer's
abbrev pub IsBesideOpen : Said → Type 0
IsBesideOpen (Open message) = ⊥
IsBesideOpen _ = Unit {0}

owed_beside : (w : World) (said : Said) → IsBesideOpen said → ActsBeside (owed w said)
owed_beside w (Open message) beside = absurd beside
owed_beside w (Agreed message) beside =
    confirmation_acts_beside (is_waiting w message.recipient_channel) message
owed_beside w (Connection said) beside = spoken_beside w said
owed_beside w said beside = tt

-- ---- verdicts

proof_beside : (auth : AuthRequest) (user : List ℕ) (key : PublicKeyOrCertificate)
    (algorithm : Algorithm) → AsksOnly IsBeside (proof auth user key algorithm)
proof_beside auth user (Plain key hash) algorithm = (refl, λ answer. tt)
proof_beside auth user (Certificate certificate) algorithm = (refl, λ answer. tt)

signed_beside : (auth : AuthRequest) (user : List ℕ) (offer : Offer) (accepted : Option Bool) →
    AsksOnly IsBeside (signed auth user offer accepted)
signed_beside auth user offer None = tt
signed_beside auth user offer (Some false) = tt
signed_beside auth user offer (Some true) = proof_beside auth user offer.key offer.algorithm

permitted_beside : (auth : AuthRequest) (answer : Auth) (next : Plan AuthOutcome) →
    AsksOnly IsBeside next → AsksOnly IsBeside (permitted auth answer next)
permitted_beside auth Accept next h = h
permitted_beside auth _ next h = tt

probed_beside : (auth : AuthRequest) (user : List ℕ) (offer : Offer) (accepted : Option Bool)
    (is_probed : Bool) →
    AsksOnly IsBeside (if is_probed then signed auth user offer accepted
    else Ask (Admits (by.PublickeyOffered user (offered_key offer.key) offer.algorithm))
    (λ answer. permitted auth answer (signed auth user offer accepted)))
probed_beside auth user offer accepted true = signed_beside auth user offer accepted
probed_beside auth user offer accepted false = (
  refl,
  λ answer. permitted_beside auth answer (signed auth user offer accepted)
      (signed_beside auth user offer accepted),
)

method_beside : (auth : AuthRequest) (user : List ℕ) (method : Method) →
    AsksOnly IsBeside (method_verdict auth user method)
method_beside auth user None_method = (refl, λ answer. tt)
method_beside auth user (Password_method password) = (refl, λ answer. tt)
method_beside auth user (Change_method password new_password) = tt
method_beside auth user Unusable_method = tt
method_beside auth user Misnamed_method = tt
method_beside auth user Broken_method = tt
method_beside auth user (Probe_method offer) = (refl, λ answer. tt)
method_beside auth user (Signed_method offer accepted) =
    probed_beside auth user offer accepted (is_probed auth.current offer.name offer.blob)
method_beside auth user (Interactive_method submethods) = (refl, λ answer. tt)
method_beside auth user Other_method = tt
method_beside auth user (Unfit_method why) = tt

verdict_beside : (auth : AuthRequest) (asked : Asked) → AsksOnly IsBeside (verdict_on auth asked)
verdict_beside auth (asks.Request user method) =
    method_beside (begun auth user (codes "ssh-connection")) user method
verdict_beside auth asks.Other_service = tt
verdict_beside auth (asks.Unfit why) = tt
verdict_beside auth asks.Unread = tt

responded_beside : (auth : AuthRequest) (prompt : Option (List ℕ × List ℕ)) (said : Responded) →
    AsksOnly IsBeside (responded auth prompt said)
responded_beside auth None said = tt
responded_beside auth (Some prompt) (Responses responses) = (refl, λ answer. tt)
responded_beside auth (Some prompt) (Unfit_responses why) = tt
responded_beside auth (Some prompt) Unread_responses = tt

-- one plan and then another
pub then_beside : {A B : Type 0} (plan : Plan A) (later : A → Plan B) → AsksOnly IsBeside plan →
    ((outcome : A) → AsksOnly IsBeside (later outcome)) → AsksOnly IsBeside (after plan later)
then_beside (Finish outcome) later h k = k outcome
then_beside (Ask question next) later h k =
    (h.0, λ answer. then_beside (next answer) later (h.1 answer) k)
then_beside (Tell entry next) later h k = then_beside next later h k

concluded_beside : (w : World) (moment : ℕ) (requested : Bool) (outcome : AuthOutcome) →
    AsksOnly IsBeside (concluded w moment requested outcome)
concluded_beside w moment requested (verdicts.Replies reply verdict.Accepted state) =
    acts_beside (replied w moment requested reply verdict.Accepted)
    (waits_for (WaitingAuthRequest state) w) (refl, tt)
concluded_beside w moment requested
    (verdicts.Replies reply (verdict.Rejected none_method) state) = tt
concluded_beside w moment requested (verdicts.Replies reply verdict.Continued state) = tt
concluded_beside w moment requested (verdicts.Fails fault) = tt

state_beside : (state : EncryptedState) (next : AuthRequest → Plan AuthOutcome) (w : World)
    (moment : ℕ) (requested : Bool) → ((auth : AuthRequest) → AsksOnly IsBeside (next auth)) →
    AsksOnly IsBeside (asked_at state (λ auth. after (next auth) (concluded w moment requested))
    (acts [] w))
state_beside (WaitingAuthRequest auth) next w moment requested h =
    then_beside (next auth) (concluded w moment requested) (h auth)
    (concluded_beside w moment requested)
state_beside _ next w moment requested h = tt

greets_beside : (w : World) (message : Option (List ℕ)) (short : Bool) → is_short message ≡ short →
    AsksOnly IsBeside (acts (greets message) w)
greets_beside w message true is = rw is tt
greets_beside w message false is = rw is tt

service_beside : (w : World) (b : Bool) →
    AsksOnly IsBeside (if b then Ask Banner (λ message. acts (greets message) w) else acts [] w)
service_beside w true = (refl, λ message. greets_beside w message (is_short message) refl)
service_beside w false = tt

row_beside : (w : World) (moment : ℕ) (said : Said) → IsBesideOpen said →
    AsksOnly IsBeside (row w moment said)
row_beside w moment (Service name) beside = service_beside w (bytes_eq name (codes "ssh-userauth"))
row_beside w moment (Request asked) beside =
    state_beside w.user.state (λ auth. verdict_on auth asked) w moment true
    (λ auth. verdict_beside auth asked)
row_beside w moment (Response said) beside =
    state_beside w.user.state (λ auth. response_verdict auth said) w moment w.user.requested
    (λ auth. responded_beside (record auth { partial_success = false }) (prompt_of auth) said)
row_beside w moment said beside = acts_beside (owed w said) w (owed_beside w said beside)

-- ---- inputs

-- the first question at most is about an open
abbrev pub AsksOnce : Plan Outcome → Type 0
AsksOnce (Finish outcome) = Unit {0}
AsksOnce (Ask question next) = (answer : Answer question) → AsksOnly IsBeside (next answer)
AsksOnce (Tell entry next) = AsksOnce next

-- in a CHANNEL_OPEN one question at most, in other inputs none
abbrev pub AsksUpTo : (is_open : Bool) → Plan Outcome → Type 0
AsksUpTo true plan = AsksOnce plan
AsksUpTo false plan = AsksOnly IsBeside plan

pub none_once : (plan : Plan Outcome) → AsksOnly IsBeside plan → AsksOnce plan
none_once (Finish outcome) h = tt
none_once (Ask question next) h = h.1
none_once (Tell entry next) h = none_once next h

none_upto : (b : Bool) (plan : Plan Outcome) → AsksOnly IsBeside plan → AsksUpTo b plan
none_upto true plan h = none_once plan h
none_upto false plan h = h

opens_once : (w : World) (drawn : Option ℕ) (message : OpenChannelMessage) (does : Handling) →
    AsksOnce (acts (open_acts drawn message does) w)
opens_once w None message (Asks type) = tt
opens_once w None message GivenUp = tt
opens_once w None message Unsupported = tt
opens_once w None message Unknown = tt
opens_once w (Some number) message (Asks type) = λ commands.
    all_beside None 0 commands (waits number (opening_by message) w) (acts []) (λ world. tt)
opens_once w (Some number) message GivenUp = tt
opens_once w (Some number) message Unsupported = tt
opens_once w (Some number) message Unknown = tt

open_once : (w : World) (moment : ℕ) (fields : List ℕ) (said : Said) → SaysOpen fields said →
    AsksOnce (row w moment said)
open_once w moment fields (Open message) h =
    opens_once w (next_number w.channels.lines) message
    (handling w.channels.no_more_sessions message.typ)
open_once w moment fields Unread h = tt
open_once w moment fields Without_packets h = tt
open_once w moment fields (Unfit why) h = tt
open_once w moment fields _ h = absurd h

-- what was read by a layout is no open of the peer's, where it says none
read_beside : {S : Type 0} (says : S → Said) (read : Result S WireError) →
    ((value : S) → IsBesideOpen (says value)) → IsBesideOpen (said_of says read)
read_beside says (Ok value) h = h value
read_beside says (Err why) h = tt

confirmation_beside : (fields : List ℕ) (said : Said) → SaysConfirmation fields said
    → IsBesideOpen said
confirmation_beside fields (Agreed message) h = tt
confirmation_beside fields Without_packets h = tt
confirmation_beside fields (Unfit why) h = tt
confirmation_beside fields _ h = absurd h

-- an open is said at its gate alone
pub beside_at : (given : Circumstances) (w : World) (at : Gate) (fields : List ℕ)
    (said : Said) → Says given w at fields said →
    ((at ≡ gate.ChannelOpen) × SaysOpen fields said) ⊎ IsBesideOpen said
beside_at given w gate.ChannelOpen fields said h = inl (refl, h)
beside_at given w gate.Nothing fields said h = inr (rw h tt)
beside_at given w gate.Ends fields said h = inr (rw h tt)
beside_at given w gate.OverCap fields said h = inr (rw h tt)
beside_at given w gate.ServiceRequest fields said h =
    inr (rw h.2 (read_beside Service h.0 (λ name. tt)))
beside_at given w gate.UserauthRequest fields said h = inr (rw h.2 tt)
beside_at given w gate.InfoResponse fields said h = inr (rw h.2 tt)
beside_at given w gate.OpenConfirmation fields said h =
    inr (confirmation_beside fields said h)
beside_at given w (gate.Connection message) fields said h =
    inr (rw h.2 (read_beside Connection h.0 (λ spoken. tt)))

-- a payload that is read as an open is a CHANNEL_OPEN
pub read_open : (w : World) (payload : List ℕ) → gate_of w payload ≡ gate.ChannelOpen →
    is_open (input.Payload payload) ≡ true
read_open w payload at = ap (λ p. is_open (input.Payload p)) (is_channel_open w payload at)

payload_upto : (w : World) (moment : ℕ) (payload : List ℕ) (said : Said) →
    ((gate_of w payload ≡ gate.ChannelOpen) × SaysOpen (drop 1 payload) said) ⊎ IsBesideOpen said →
    AsksUpTo (is_open (input.Payload payload)) (row w moment said)
payload_upto w moment payload said (inl at) =
    rw (read_open w payload at.0) (open_once w moment (drop 1 payload) said at.1)
payload_upto w moment payload said (inr beside) =
    none_upto (is_open (input.Payload payload)) (row w moment said)
    (row_beside w moment said beside)

command_beside : (w : World) (ticket : ℕ) (commanded : Command) →
    AsksOnly IsBeside (command_row w ticket commanded)
command_beside w ticket commanded = one_beside (effect w commanded) _ (λ outcome world. tt)

tick_beside : (many : Bool) → ActsBeside (if many then Stops Keepalive_timeout ∷ []
    else Turns (λ v. said keepalive (ticked v)) ∷ [])
tick_beside true = tt
tick_beside false = tt

-- a payload of the exchange's, and one that does not come
passage_acts_beside : (payload : List ℕ) (passage : Passage) →
    ActsBeside (exchange_acts payload passage)
passage_acts_beside payload passage.Begins = tt
passage_acts_beside payload passage.Steps = tt
passage_acts_beside payload passage.Barred = tt
passage_acts_beside payload passage.Late = tt
passage_acts_beside payload passage.Passes = tt

pub kind_upto : (accepts : Acceptance) (w : World) (moment : ℕ) (kind : InputKind)
    (plan : Plan Outcome) → OwesKind accepts w moment kind plan → AsksUpTo (is_open kind) plan
kind_upto accepts w moment input.End plan o = rw o tt
kind_upto accepts w moment (input.Payload payload) plan o =
    let v = hears payload w in
    payload_so accepts v moment payload plan (AsksUpTo (is_open (input.Payload payload))) o
    (λ said says. payload_upto v moment payload said
    (beside_at (circumstances accepts v.settings moment) v (gate_of v payload) (drop 1 payload) said
    says))
    (λ passage. none_upto (is_open (input.Payload payload)) (acts (exchange_acts payload passage) v)
    (acts_beside (exchange_acts payload passage) v (passage_acts_beside payload passage)))
kind_upto accepts w moment (input.Command ticket commanded) plan o =
    rw o (command_beside w ticket commanded)
kind_upto accepts w moment (input.OpenReply ticket answer) plan o =
    rw o (command_beside w ticket (command.Answer answer))
kind_upto accepts w moment input.KeepaliveTick plan o =
    rw o (acts_beside (keepalive_acts w) w
    (tick_beside (is_too_many w.settings.config (ticks.one_more w.keepalives))))
kind_upto accepts w moment input.InactivityTick plan o = rw o tt
kind_upto accepts w moment input.RekeyTick plan o = rw o tt
