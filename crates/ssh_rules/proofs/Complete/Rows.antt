-- A valid input comes to no fault where each answer is fine.
use Rattle.std.proofs.Common.{◌≡◌, ◌⊎◌, ℕ, List, [], ◌∷◌, Option, Some, None, Bool}
use Rattle.std.proofs.Common.{true, false, refl, sym, ap, subst, inl, inr}
use Rattle.std.specs.Prelude.{◌^◌, drop, length, bytes_eq, codes, IsSome, if◌then◌else◌}
use Rattle.std.specs.Prelude.{Result, Ok}
use Rattle.std.proofs.lemmas.Bool.{lt-ltb}
use Rattle.ssh_wire.specs.declared.error.WireError.{WireError}
use Rattle.ssh_wire.specs.declared.channel_id.ChannelId.{ChannelId}
use Rattle.ssh_wire.specs.declared.open_failure.ChannelOpenFailure.{ChannelOpenFailure}
use Rattle.ssh_wire.specs.Field.{Text, SpellsWhole}
use Rattle.ssh_wire.specs.declared.open.OpenChannelMessage.{OpenChannelMessage}
use Rattle.ssh_wire.specs.declared.error.LayoutError.TheVariants.{Wire, Inconsistent}
use Rattle.ssh_wire.proofs.OpensOnce.{misfits_open_not_spells}
use Rattle.ssh_wire.proofs.Fields.{spells_all_once, misfits_all_not_spells}
use Rattle.ssh_wire.proofs.Fields.{misfits_whole_not_spells, spells_whole_once}
use Rattle.ssh_link.specs.declared.command.Command.{Command as Commanded}
use Rattle.ssh_link.specs.declared.command.Command.TheVariants as command
use Rattle.ssh_link.specs.declared.frame.InputKind.{InputKind}
use Rattle.ssh_link.specs.declared.frame.InputKind.TheVariants.{Payload, Command, OpenReply, End}
use Rattle.ssh_link.specs.declared.frame.InputKind.TheVariants.{KeepaliveTick, RekeyTick}
use Rattle.ssh_link.specs.declared.link.TraceEntry.TheVariants.{Answered}
use Rattle.ssh_auth.specs.declared.auth_request.AuthRequest.{AuthRequest}
use Rattle.ssh_auth.specs.declared.auth_step.AuthVerdict.TheVariants as verdict
use Rattle.ssh_auth.specs.declared.question.Question.TheVariants.{Banner}
use Rattle.ssh_auth.specs.Plan.{Plan, Finish, Ask, Tell, after}
use Rattle.ssh_auth.specs.Publickey.{Acceptance, Circumstances}
use Rattle.ssh_auth.specs.Requested.{Requested as Asked, Other_service, named_by, head_fields}
use Rattle.ssh_auth.specs.Requested.{SaysRequest}
use Rattle.ssh_auth.specs.Requested as asks
use Rattle.ssh_auth.specs.Request.{begun, prompt_of}
use Rattle.ssh_auth.specs.Response.{Responded, SaysResponses}
use Rattle.ssh_auth.specs.Verdict.{AuthOutcome, Replies, verdict as verdict_on}
use Rattle.ssh_auth.specs.Verdict.{response_verdict}
use Rattle.ssh_auth.specs.Verdict as auth
use Rattle.ssh_channels.specs.declared.adjusted.Adjusted.{Adjusted}
use Rattle.ssh_channels.specs.declared.adjusted.Adjusted.TheVariants.{Dropped, Kept, Granted}
use Rattle.ssh_channels.specs.declared.chunk.Chunk.{Chunk}
use Rattle.ssh_channels.specs.Does.{coming_of}
use Rattle.ssh_channels.specs.Lines.{find, next_number, takes_in}
use Rattle.ssh_rules.specs.declared.gate.Gate.{Gate}
use Rattle.ssh_rules.specs.declared.gate.Gate.TheVariants as gate
use Rattle.ssh_rules.specs.declared.messages.Spoken.{Spoken}
use Rattle.ssh_rules.specs.declared.messages.Spoken.TheVariants as spoken
use Rattle.ssh_rules.specs.declared.state.EncryptedState.{EncryptedState}
use Rattle.ssh_rules.specs.declared.state.EncryptedState.TheVariants.{WaitingAuthRequest}
use Rattle.ssh_rules.specs.Acts.{acts, Turns}
use Rattle.ssh_rules.specs.Effect.{Effect, Brings, effect, effect_at, said}
use Rattle.ssh_rules.specs.Gate.{gate_of}
use Rattle.ssh_rules.specs.Layout.{banner}
use Rattle.ssh_rules.specs.Types.{handling}
use Rattle.ssh_rules.specs.declared.handling.Handling.{Handling}
use Rattle.ssh_rules.specs.declared.handling.Handling.TheVariants.{Asks, GivenUp, Unsupported, Unknown}
use Rattle.ssh_rules.specs.Outcome.{Outcome, Goes, Fails, Starved}
use Rattle.ssh_rules.specs.Messages.{message_layout}
use Rattle.ssh_rules.specs.Reading.{Said, Open, Agreed, Unread, Service, Connection}
use Rattle.ssh_rules.specs.Reading.{SaysConfirmation}
use Rattle.ssh_rules.specs.Reading.{Without_packets}
use Rattle.ssh_rules.specs.Reading.{Unfit, Says, SaysOpen, ReadsAs, said_of, service}
use Rattle.ssh_rules.specs.Spelling.{Layout, Leaves, Rest, Whole, Fields, Spells}
use Rattle.ssh_rules.specs.Rows.{spoken_acts, agreed_acts, failure_acts}
use Rattle.ssh_rules.specs.Rows.{row, owed, greets, is_short, replied, concluded, where_waiting}
use Rattle.ssh_rules.specs.Rows.{fault_of, data_told, open_acts, exchange_acts}
use Rattle.ssh_rules.specs.Run.{OwesKind, OwesPassed, command_row, passage}
use Rattle.ssh_rules.specs.declared.exchange.Passage.{Passage}
use Rattle.ssh_rules.specs.declared.exchange.Passage.TheVariants.{Begins, Steps, Barred, Late}
use Rattle.ssh_rules.specs.declared.exchange.Passage.TheVariants.{Passes}
use Rattle.ssh_rules.specs.World.{World, circumstances, hears, waits_for, lined, is_there}
use Rattle.ssh_rules.specs.World.{is_waiting, target_on}
use Rattle.ssh_rules.specs.Valid.{AreValidMethodFields, AreValidFields, FitsLayout, HasNoPrompt}
use Rattle.ssh_rules.specs.Valid.{IsFineAnswer, IsFineBanner}
use Rattle.ssh_rules.specs.Valid.{IsServed, IsValidKind, IsValidPassed}
use Rattle.ssh_rules.specs.World.{World, circumstances, waits_for, lined}
use Rattle.ssh_rules.proofs.Plans.Acting.{PlanComes, EffectComes, Law, ActsCome, acts_come}
use Rattle.ssh_rules.proofs.Plans.Acting.{one_comes}
use Rattle.ssh_rules.proofs.Determined.Layouts.{confirmation_once}
use Rattle.ssh_rules.proofs.Complete.Verdicts.{IsFineReply, IsFineVerdict, method_fine, responded_fine}
use Rattle.ssh_rules.proofs.Complete.Methods.{served, shortened}
use Rattle.ssh_rules.proofs.Complete.Responses.{IsRead, response_read}
use Rattle.ssh_rules.proofs.Plans.Settled.{any_built, Any_command}
use Rattle.ssh_rules.proofs.Plans.Beside.{on_come}
use Rattle.ssh_rules.specs.OwnMessages.{keepalive}
use Rattle.ssh_rules.specs.Ticks.{ticked}

-- no fault but want of memory
abbrev pub IsNoFault : Outcome → Type 0
IsNoFault (Fails fault) = fault ≡ Starved
IsNoFault _ = Unit {0}

abbrev Any_world : World → Type 0
Any_world w = Unit {0}

-- ---- commands

-- a command leads to no fault
any_effect : (does : Effect) → EffectComes Any_world does
any_effect (Brings notices outcome world) = tt

abbrev law : InputKind → Law
law kind = record {
  such = IsFineAnswer kind;
  comes = IsNoFault;
  holds = Any_world;
  built = Any_command;
  goes = λ w h. tt;
  lends = λ lent commands s. any_built commands;
  judges = λ judged answer s. any_built answer.commands;
  listens = λ address port answer s. any_built answer.commands;
  keeps = λ at w command h b. any_effect (effect_at at w command);
}

-- ---- authentication

concluded_fine : (kind : InputKind) (w : World) (moment : ℕ) (requested : Bool)
    (outcome : AuthOutcome) → IsFineReply outcome →
    PlanComes (IsFineAnswer kind) IsNoFault (concluded w moment requested outcome)
concluded_fine kind w moment requested (Replies reply verdict.Accepted state) h =
    acts_come (law kind) (replied w moment requested reply verdict.Accepted)
    (waits_for (WaitingAuthRequest state) w) tt (tt, λ world k. tt)
concluded_fine kind w moment requested (Replies reply (verdict.Rejected none_method) state) h = tt
concluded_fine kind w moment requested (Replies reply verdict.Continued state) h = tt
concluded_fine kind w moment requested (auth.Fails fault) h = ap fault_of h

verdict_comes : (kind : InputKind) (w : World) (moment : ℕ) (requested : Bool)
    (plan : Plan AuthOutcome) → IsFineVerdict kind plan →
    PlanComes (IsFineAnswer kind) IsNoFault (after plan (concluded w moment requested))
verdict_comes kind w moment requested (Finish outcome) h = concluded_fine kind w moment requested
    outcome h
verdict_comes kind w moment requested (Ask question next) h =
    λ answer fine. verdict_comes kind w moment requested (next answer) (h answer fine)
verdict_comes kind w moment requested (Tell entry next) h = verdict_comes kind w moment requested
    next h

state_comes : (kind : InputKind) (state : EncryptedState) (next : AuthRequest → Plan AuthOutcome)
    (w : World) (moment : ℕ)
    (requested : Bool) → ((auth : AuthRequest) → state ≡ WaitingAuthRequest auth
    → IsFineVerdict kind (next auth)) →
    PlanComes (IsFineAnswer kind) IsNoFault
    (where_waiting state (λ auth. after (next auth) (concluded w moment requested)) (acts [] w))
state_comes kind (WaitingAuthRequest auth) next w moment requested h =
    verdict_comes kind w moment requested (next auth) (h auth refl)
state_comes kind _ next w moment requested h = tt

-- a valid request
request_fine : (given : Circumstances) (w : World) (payload : List ℕ) (auth : AuthRequest)
    (asked : Asked) →
    AreValidFields given w gate.UserauthRequest (drop 1 payload)
    → SaysRequest given (drop 1 payload) asked →
    IsFineVerdict (Payload payload) (verdict_on auth asked)
request_fine given w payload auth (asks.Request user method) v s =
    let once = spells_all_once head_fields (v.0, (codes "ssh-connection", (v.1, tt))) (
      user,
      (codes "ssh-connection", (s.0, tt)),
    )
    (drop 1 payload) v.2 s.1 v.3 s.2 in
    let name : v.1 ≡ s.0 = ap (λ x. x.1.1.0) once.0 in
    let valid : AreValidMethodFields given (named_by s.0) s.1 =
    subst (λ r. AreValidMethodFields given (named_by s.0) r) once.1
    (subst (λ n. AreValidMethodFields given (named_by n) v.2) name v.4) in
    method_fine (Payload payload) (begun auth user (codes "ssh-connection")) user method
    (served given (drop 1 payload) (named_by s.0) s.1 method valid s.3)
    (shortened given payload user s.0 s.1 method (named_by s.0) refl s.2 s.3)
request_fine given w payload auth asks.Unread v s = refl
request_fine given w payload auth Other_service v s =
    let once = spells_all_once head_fields (v.0, (codes "ssh-connection", (v.1, tt))) (
      s.0,
      (s.1, (s.2, tt)),
    ) (drop 1 payload) v.2 s.3 v.3 s.4 in
    absurd (s.5 (sym (ap (λ x. x.1.0) once.0)))
request_fine given w payload auth (asks.Unfit why) v s =
    absurd (misfits_all_not_spells head_fields (v.0, (codes "ssh-connection", (v.1, tt)))
    (drop 1 payload) v.2 why s v.3)

-- a valid response is read, or no prompts wait for it
valid_response : (given : Circumstances) (w : World) (fields : List ℕ) (auth : AuthRequest)
    (said : Responded) →
    w.user.state ≡ WaitingAuthRequest auth → AreValidFields given w gate.InfoResponse fields
    → SaysResponses fields said →
    (prompt_of auth ≡ None) ⊎ IsRead said
valid_response given w fields auth said at (inl none) s = inl (subst HasNoPrompt at none)
valid_response given w fields auth said at (inr v) s = inr (response_read fields v.0 said v.1 s)

-- ---- the service

greets_fine : (kind : InputKind) (w : World) (message : Option (List ℕ)) → IsFineBanner message →
    PlanComes (IsFineAnswer kind) IsNoFault (acts (greets message) w)
greets_fine kind w None fine = tt
greets_fine kind w (Some message) fine =
    let short : is_short (Some message) ≡ true = lt-ltb (length (banner message)) (2 ^ 32) fine in
    rw short tt

service_fine : (kind : InputKind) (w : World) (b : Bool) →
    PlanComes (IsFineAnswer kind) IsNoFault
    (if b then Ask Banner (λ message. acts (greets message) w) else acts [] w)
service_fine kind w true = λ message fine. greets_fine kind w message fine
service_fine kind w false = tt

-- ---- messages by their layouts

-- what fits its layout was read, and is served
fits_read : (w : World) (layout : Layout Spoken) (bytes : List ℕ) (read : Result Spoken WireError)
    → FitsLayout w layout bytes → Spells layout bytes read
    → (said : Spoken) × (read ≡ Ok said) × IsServed w said
fits_read w (Leaves says) bytes read v h = (says, h, v)
fits_read w (Rest says) bytes read v h = (says bytes, h, v)
fits_read w (Whole fields says) bytes read v (inl h) =
    let once = spells_whole_once fields v.0 h.0 bytes v.1 h.1 in
    (says h.0, h.2, subst (λ x. IsServed w (says x)) once v.2)
fits_read w (Whole fields says) bytes read v (inr h) =
    absurd (misfits_whole_not_spells fields v.0 bytes h.0 h.1 v.1)
fits_read w (Fields fields next) bytes read v (inl h) =
    let once = spells_all_once fields v.0 h.0 bytes v.1 h.1 v.2 h.2 in
    let fits = subst (λ r. FitsLayout w (next h.0) r) once.1 (subst (λ x. FitsLayout w (next x) v.1)
    once.0 v.3) in
    fits_read w (next h.0) h.1 read fits h.3
fits_read w (Fields fields next) bytes read v (inr h) =
    absurd (misfits_all_not_spells fields v.0 bytes v.1 h.0 h.1 v.2)

-- ---- channels

told_fine : (kind : InputKind) (adjusted : Adjusted) (channel : ChannelId) (piece : Chunk)
    (target : ℕ) (w : World) →
    ActsCome (law kind) (data_told adjusted channel piece target) w
told_fine kind Dropped channel piece target w = tt
told_fine kind Kept channel piece target w = λ world k. tt
told_fine kind (Granted amount) channel piece target w = λ window. (tt, λ world k. tt)

failure_fine : (kind : InputKind) (w : World) (there waiting : Bool) (channel : ChannelId)
    (reason : ChannelOpenFailure) → there ≡ false
    → ActsCome (law kind) (failure_acts there waiting channel reason) w
failure_fine kind w there true channel reason is = (tt, tt)
failure_fine kind w true false channel reason is = absurd (cc)
failure_fine kind w false false channel reason is = tt

-- what is served of a message of channels comes to no fault
spoken_fine : (kind : InputKind) (w : World) (said : Spoken) → IsServed w said
    → ActsCome (law kind) (spoken_acts w said) w
spoken_fine kind w spoken.Nothing is = tt
spoken_fine kind w (spoken.Grant channel amount) is =
    on_come (law kind) w (find channel.0 w.channels.lines.entries) _ (λ e. (tt, λ world k. tt))
spoken_fine kind w (spoken.Data channel piece) is =
    let target = target_on channel.0 w in
    let came = coming_of (length piece.bytes) target (find channel.0 w.channels.lines.entries) in
    let v = lined (takes_in channel.0 (length piece.bytes) target) w in
    (tt, told_fine kind came channel piece target v)
spoken_fine kind w (spoken.Tells channel message happening) is =
    on_come (law kind) w (find channel.0 w.channels.lines.entries) _ (λ e. λ world k. tt)
spoken_fine kind w (spoken.Close channel) is =
    on_come (law kind) w (find channel.0 w.channels.lines.entries) _ (λ e. (tt, λ world k. tt))
spoken_fine kind w (spoken.Failed channel reason) is =
    failure_fine kind w (is_there w channel.0) (is_waiting w channel.0) channel reason is
spoken_fine kind w (spoken.Requests channel wanted message happening) is = (tt, λ world k. tt)
spoken_fine kind w (spoken.RequestsAgent channel wanted) is = (tt, λ granted world k. (tt, tt))
spoken_fine kind w (spoken.RequestsUnknown channel wanted) is = (tt, (tt, tt))
spoken_fine kind w (spoken.RequestsForward wanted address port) is = (
  tt,
  λ granted bound world k. (tt, tt),
)
spoken_fine kind w (spoken.RequestsGlobally wanted judged) is = (tt, λ granted world k. (tt, tt))
spoken_fine kind w (spoken.RequestsGloballyUnknown wanted) is = (tt, (tt, tt))
spoken_fine kind w (spoken.GivesUpSessions wanted) is = (tt, (tt, (tt, tt)))
spoken_fine kind w (spoken.Settles None) is = (tt, tt)
spoken_fine kind w (spoken.Settles (Some notice)) is = (tt, tt)
spoken_fine kind w spoken.Inconsistent is = absurd is

channel_fine : (kind : InputKind) (w : World) (moment : ℕ) (layout : Layout Spoken)
    (fields : List ℕ) (said : Said) → FitsLayout w layout fields
    → ReadsAs Connection layout fields said → PlanComes (IsFineAnswer kind) IsNoFault (row w moment
    said)
channel_fine kind w moment layout fields said v h =
    let fits = fits_read w layout fields h.0 v h.1 in
    rw (h.2, fits.1) (acts_come (law kind) (spoken_acts w fits.0) w tt
    (spoken_fine kind w fits.0 fits.2))

-- ---- opens

never_some : IsSome {T = ℕ} None → ⊥
never_some h = let e : false ≡ true = h in cc

open_comes : (kind : InputKind) (w : World) (number : Option ℕ) (message : OpenChannelMessage)
    (does : Handling) → IsSome number → ActsCome (law kind) (open_acts number message does) w
open_comes kind w None message does some = absurd (never_some some)
open_comes kind w (Some number) message (Asks type) some = (tt, λ world k. tt)
open_comes kind w (Some number) message GivenUp some = (tt, tt)
open_comes kind w (Some number) message Unsupported some = (tt, tt)
open_comes kind w (Some number) message Unknown some = (tt, tt)

-- the fields of an open are no other open, and none that does not fit
open_fine : (kind : InputKind) (given : Circumstances) (w : World) (moment : ℕ) (fields : List ℕ)
    (said : Said) →
    AreValidFields given w gate.ChannelOpen fields → SaysOpen fields said →
    PlanComes (IsFineAnswer kind) IsNoFault (row w moment said)
open_fine kind given w moment fields (Open message) v h =
    acts_come (law kind) (owed w (Open message)) w tt
    (open_comes kind w (next_number w.channels.lines) message
    (handling w.channels.no_more_sessions message.typ) v.3)
open_fine kind given w moment fields Unread v h = refl
open_fine kind given w moment fields Without_packets v h =
    absurd (misfits_open_not_spells v.0 fields v.1 Inconsistent h v.2)
open_fine kind given w moment fields (Unfit why) v h =
    absurd (misfits_open_not_spells v.0 fields v.1 (Wire why) h v.2)
open_fine kind given w moment fields _ v h = absurd h

-- ---- confirmations

-- the fields of a confirmation are no other, and an open waits for it
confirmation_fine : (kind : InputKind) (given : Circumstances) (w : World) (moment : ℕ)
    (fields : List ℕ) (said : Said) →
    AreValidFields given w gate.OpenConfirmation fields → SaysConfirmation fields said →
    PlanComes (IsFineAnswer kind) IsNoFault (row w moment said)
confirmation_fine kind given w moment fields said v h =
    let is = confirmation_once fields said (Agreed v.0) h v.1 in
    rw (is, v.2) (acts_come (law kind) (agreed_acts v.0) w tt (tt, λ world k. tt))

-- ---- a payload that is valid at its gate

-- the name of a service, which was there
named_fine : (kind : InputKind) (w : World) (moment : ℕ) (fields : List ℕ)
    (read : Result (List ℕ) WireError) → ((name : List ℕ) × SpellsWhole (Text ∷ []) (name, tt)
    fields) → Spells service fields read
    → PlanComes (IsFineAnswer kind) IsNoFault (row w moment (said_of Service read))
named_fine kind w moment fields read v (inl h) =
    rw h.2 (service_fine kind w (bytes_eq h.0.0 (codes "ssh-userauth")))
named_fine kind w moment fields read v (inr h) =
    absurd (misfits_whole_not_spells (Text ∷ []) (v.0, tt) fields h.0 h.1 v.1)

fields_fine : (given : Circumstances) (w : World) (moment : ℕ) (at : Gate) (payload : List ℕ)
    (said : Said) →
    AreValidFields given w at (drop 1 payload) → Says given w at (drop 1 payload) said →
    PlanComes (IsFineAnswer (Payload payload)) IsNoFault (row w moment said)
fields_fine given w moment gate.Nothing payload said v h = rw h tt
fields_fine given w moment gate.Ends payload said v h = rw h tt
fields_fine given w moment gate.OverCap payload said v h = rw h tt
fields_fine given w moment gate.ServiceRequest payload said v h =
    rw h.2 (named_fine (Payload payload) w moment (drop 1 payload) h.0 v h.1)
fields_fine given w moment gate.UserauthRequest payload said v h =
    rw h.2 (state_comes (Payload payload) w.user.state (λ auth. verdict_on auth h.0) w moment true
    (λ auth at. request_fine given w payload auth h.0 v h.1))
fields_fine given w moment gate.InfoResponse payload said v h =
    rw h.2 (state_comes (Payload payload) w.user.state (λ auth. response_verdict auth h.0) w moment
    w.user.requested
    (λ auth at. responded_fine (Payload payload) (record auth { partial_success = false })
    (prompt_of auth) h.0
    (valid_response given w (drop 1 payload) auth h.0 at v h.1)))
fields_fine given w moment gate.ChannelOpen payload said v h = open_fine (Payload payload) given w
    moment (drop 1 payload) said v h
fields_fine given w moment gate.OpenConfirmation payload said v h =
    confirmation_fine (Payload payload) given w moment (drop 1 payload) said v h
fields_fine given w moment (gate.Connection message) payload said v h =
    channel_fine (Payload payload) w moment (message_layout w message) (drop 1 payload)
    said v h

-- ---- inputs

command_fine : (kind : InputKind) (w : World) (ticket : ℕ) (commanded : Commanded)
    → PlanComes (IsFineAnswer kind) IsNoFault (command_row w ticket commanded)
command_fine kind w ticket commanded =
    one_comes (law kind) (effect w commanded) (λ outcome world. Tell (Answered ticket outcome)
    (Finish (Goes world)))
    (any_effect (effect w commanded)) (λ outcome world k. tt)

-- a payload, by its passage
passed_fine : (accepts : Acceptance) (at : Passage) (w : World) (moment : ℕ) (payload : List ℕ)
    (plan : Plan Outcome) → IsValidPassed (circumstances accepts w.settings moment) w at payload
    → OwesPassed at accepts w moment payload plan
    → PlanComes (IsFineAnswer (Payload payload)) IsNoFault plan
passed_fine accepts Passes w moment payload plan v o =
    rw o.2 (fields_fine (circumstances accepts w.settings moment) w moment (gate_of w payload)
    payload o.0 v o.1)
passed_fine accepts Begins w moment payload plan v o =
    rw o (acts_come (law (Payload payload)) (exchange_acts payload Begins) w tt
    ((λ keys later. tt, λ keys. tt), λ x k. ((λ keys later. tt, λ keys. tt), λ y l. tt)))
passed_fine accepts Steps w moment payload plan v o =
    rw o (acts_come (law (Payload payload)) (exchange_acts payload Steps) w tt
    ((λ keys later. tt, λ keys. tt), λ x k. tt))
passed_fine accepts Barred w moment payload plan v o = absurd v
passed_fine accepts Late w moment payload plan v o = absurd v

pub kind_fine : (accepts : Acceptance) (w : World) (moment : ℕ) (kind : InputKind)
    (plan : Plan Outcome) →
    IsValidKind (circumstances accepts w.settings moment) w kind → OwesKind accepts w moment kind
    plan →
    PlanComes (IsFineAnswer kind) IsNoFault plan
kind_fine accepts w moment End plan v o = rw o tt
kind_fine accepts w moment (Payload payload) plan valid o =
    let v : World = hears payload w in
    passed_fine accepts (passage v payload) v moment payload plan valid o
kind_fine accepts w moment (Command ticket commanded) plan v o =
    rw o (command_fine (Command ticket commanded) w ticket commanded)
kind_fine accepts w moment (OpenReply ticket answer) plan v o =
    rw o (command_fine (OpenReply ticket answer) w ticket (command.Answer answer))
kind_fine accepts w moment KeepaliveTick plan v o =
    rw (o, v) (acts_come (law KeepaliveTick) (Turns (λ v. said keepalive (ticked v)) ∷ []) w tt
    (tt, tt))
kind_fine accepts w moment RekeyTick plan v o = rw o tt
kind_fine accepts w moment _ plan v o = absurd v
