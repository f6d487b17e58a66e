-- The rows are plans in which nothing of the connection comes before an answer that accepts a user.
use Rattle.std.proofs.Common.{◌≡◌, ◌≤◌, ◌⊎◌, ℕ, List, [], ◌∷◌, ◌++◌, Option, Some, None}
use Rattle.std.proofs.Common.{Bool, true, false, refl, sym, subst, inl, inr, arith}
use Rattle.std.specs.Prelude.{bytes_eq, codes, if◌then◌else◌, drop, Result, Ok, Err}
use Rattle.ssh_wire.specs.declared.error.WireError.{WireError}
use Rattle.ssh_wire.specs.Field.{number, string}
use Rattle.ssh_link.specs.Frames.{Frame}
use Rattle.ssh_link.specs.declared.frame.InputKind.{InputKind}
use Rattle.ssh_link.specs.declared.frame.InputKind.TheVariants.{Payload}
use Rattle.ssh_auth.specs.declared.auth_request.AuthRequest.{AuthRequest}
use Rattle.ssh_auth.specs.declared.auth_step.AuthVerdict.TheVariants as verdict
use Rattle.ssh_auth.specs.declared.question.Question.TheVariants.{Banner}
use Rattle.ssh_auth.specs.Plan.{Plan, Finish, Ask, Tell, after}
use Rattle.ssh_auth.specs.Proven.{IsProven}
use Rattle.ssh_auth.specs.Publickey.{Circumstances}
use Rattle.ssh_auth.specs.Request.{begun, prompt_of}
use Rattle.ssh_auth.specs.Response.{Responded}
use Rattle.ssh_auth.specs.Requested.{Requested as Asked, SaysRequest}
use Rattle.ssh_auth.specs.Requested as asks
use Rattle.ssh_auth.specs.Verdict.{AuthOutcome, Replies, verdict as verdict_on, method_verdict}
use Rattle.ssh_auth.specs.Verdict.{response_verdict}
use Rattle.ssh_auth.specs.Verdict as auth
use Rattle.ssh_auth.proofs.Proving.{verdict_only}
use Rattle.ssh_rules.specs.declared.gate.Gate.{Gate}
use Rattle.ssh_rules.specs.declared.gate.Gate.TheVariants as gate
use Rattle.ssh_rules.specs.declared.state.EncryptedState.{EncryptedState}
use Rattle.ssh_rules.specs.declared.state.EncryptedState.TheVariants.{WaitingAuthServiceRequest}
use Rattle.ssh_rules.specs.declared.state.EncryptedState.TheVariants.{WaitingAuthRequest}
use Rattle.ssh_rules.specs.declared.state.EncryptedState.TheVariants.{InitCompression}
use Rattle.ssh_rules.specs.declared.state.EncryptedState.TheVariants.{Authenticated}
use Rattle.ssh_rules.specs.Acts.{acts}
use Rattle.ssh_rules.specs.Authorised.{IsRequestOf, IsProvenRequest, IsOfChannel}
use Rattle.ssh_rules.specs.Effect.{opens, said}
use Rattle.ssh_rules.specs.Gate.{gate_of, IsRequesting}
use Rattle.ssh_rules.specs.Layout.{at_once, held, service_accept, banner, too_many_attempts}
use Rattle.ssh_rules.specs.Outcome.{Outcome}
use Rattle.ssh_rules.specs.Reading.{Said, Says, Service, said_of}
use Rattle.ssh_rules.specs.Rows.{row, greeting, greets, is_short, concluded}
use Rattle.ssh_rules.specs.Rows.{where_waiting, rejection_hold, moment_after}
use Rattle.ssh_rules.specs.World.{World}
use Rattle.ssh_rules.proofs.Plans.Gates.{IsLetIn, IsOfConnection, IsForRequest, is_userauth}
use Rattle.ssh_rules.proofs.Plans.Gates.{is_response}
use Rattle.ssh_rules.proofs.Plans.Gates.{is_for_request, is_let_in}
use Rattle.ssh_rules.proofs.Authorised.Guards.{Accepts, AreLow, IsBefore, IsClear, NamesLast, Guarded}
use Rattle.ssh_rules.proofs.Authorised.Guards.{plan_accepted}
use Rattle.ssh_rules.proofs.Authorised.Verdicts.{IsLow, IsFairReply, IsFair, method_fair}
use Rattle.ssh_rules.proofs.Authorised.Verdicts.{responded_fair, asks_weak, begun_named}
use Rattle.ssh_rules.proofs.Authorised.Verdicts.{prompt_named}

-- ---- frames of no channel

pub low_frame : (payload : List ℕ) (frame : Frame) → frame.payload ≡ payload → IsLow payload
    → IsOfChannel frame → ⊥
low_frame payload frame is low h =
    let e : low.0 ≡ h.0 = let f = low.2 in let g = h.2 in cc in
    low.3 (subst (λ m. 90 ≤ m) (sym e) h.3)

pub low_more : (xs ys : List Frame) → AreLow xs → AreLow ys → AreLow (xs ++ ys)
low_more [] ys h k = k
low_more (x ∷ xs) ys h k = (h.0, low_more xs ys h.1 k)

-- ---- who is bound

-- where the input is no request, who was named last stays so
before_unnamed : (named : List ℕ → Type 0) (kind : InputKind) (state : EncryptedState) →
    ((other : List ℕ) → IsRequestOf other kind → ⊥) → IsBefore named state
    → IsBefore (NamesLast named kind) state
before_unnamed named kind (WaitingAuthServiceRequest sent accepted) none h = tt
before_unnamed named kind (WaitingAuthRequest auth) none h = λ principal is.
    inr (none, h principal is)
before_unnamed named kind _ none h = absurd h

pub unnamed : (named : List ℕ → Type 0) (kind : InputKind) (w : World)
    → ((other : List ℕ) → IsRequestOf other kind → ⊥) →
    IsClear named w → IsClear (NamesLast named kind) w
unnamed named kind w none clear = (
  before_unnamed named kind w.user.state none clear.0,
  clear.1,
  clear.2,
  clear.3,
)

-- so does it where the payload is not read as a request: before the service is served nobody is
-- bound
before_unread : (named : List ℕ → Type 0) (w : World) (payload : List ℕ) (state : EncryptedState)
    → w.user.state ≡ state →
    (IsForRequest (gate_of w payload) → ⊥) → IsBefore named state
    → IsBefore (NamesLast named (Payload payload)) state
before_unread named w payload (WaitingAuthServiceRequest sent accepted) at other h = tt
before_unread named w payload (WaitingAuthRequest auth) at other h =
    before_unnamed named (Payload payload) (WaitingAuthRequest auth)
    (λ user r. other (subst (λ p. IsForRequest (gate_of w p)) (sym r.4)
    (is_for_request w auth r.0 at))) h
before_unread named w payload _ at other h = absurd h

unread : (named : List ℕ → Type 0) (w : World) (payload : List ℕ) (at : Gate) → gate_of w payload
    ≡ at →
    (IsForRequest at → ⊥) → IsClear named w → IsClear (NamesLast named (Payload payload)) w
unread named w payload at is other clear = (
  before_unread named w payload w.user.state refl (λ r. other (subst IsForRequest is r)) clear.0,
  clear.1,
  clear.2,
  clear.3,
)

-- ---- what a verdict comes to

concluded_guarded : (given : Circumstances) (named : List ℕ → Type 0) (a : Type 0)
    (kind : InputKind) (w : World) (moment : ℕ)
    (requested : Bool) (outcome : AuthOutcome) → (w.channels.lines.entries ≡ [])
    → (w.channels.opens ≡ []) →
    AreLow w.channels.lines.written → IsFairReply (NamesLast named kind) a outcome →
    Guarded given named a kind (concluded w moment requested outcome)
concluded_guarded given named a kind w moment requested (Replies reply verdict.Accepted state) none
    opens low h =
    plan_accepted given named a kind
    (concluded w moment requested (Replies reply verdict.Accepted state)) (h.1 refl)
concluded_guarded given named a kind w moment requested
    (Replies reply (verdict.Rejected none_method) state) none opens low h =
    let frame = held reply (moment_after moment (rejection_hold w.settings.config none_method
    w.user.requested)) in
    inr (
      h.2,
      none,
      opens,
      low_more w.channels.lines.written (frame ∷ []) low
          (low_frame reply frame refl h.0, tt),
    )
concluded_guarded given named a kind w moment requested (Replies reply verdict.Continued state) none
    opens low h =
    inr (
      h.2,
      none,
      opens,
      low_more w.channels.lines.written (at_once reply ∷ []) low
          (low_frame reply (at_once reply) refl h.0, tt),
    )
concluded_guarded given named a kind w moment requested (auth.Fails fault) none opens low h = tt

fair_guarded : (given : Circumstances) (named : List ℕ → Type 0) (a : Type 0) (kind : InputKind)
    (w : World) (moment : ℕ)
    (requested : Bool) (plan : Plan AuthOutcome) → (w.channels.lines.entries ≡ [])
    → (w.channels.opens ≡ []) →
    AreLow w.channels.lines.written → IsFair given named a kind plan →
    Guarded given named a kind (after plan (concluded w moment requested))
fair_guarded given named a kind w moment requested (Finish outcome) none opens low h =
    concluded_guarded given named a kind w moment requested outcome none opens low h
fair_guarded given named a kind w moment requested (Ask question next) none opens low h = (
  λ q. absurd (h.0 q.0),
  λ answer. fair_guarded given named (a ⊎ Accepts given named kind question answer) kind w moment
      requested (next answer)
      none opens low (h.1 answer),
)
fair_guarded given named a kind w moment requested (Tell entry next) none opens low h = absurd h

-- ---- the service

greeting_low : (message : Option (List ℕ)) → AreLow (greeting message)
greeting_low None = (
  low_frame service_accept (at_once service_accept) refl (
    6,
    string (codes "ssh-userauth"),
    refl,
    λ l. omega (arith, l),
  ),
  tt,
)
greeting_low (Some message) = (
  low_frame service_accept (at_once service_accept) refl (
    6,
    string (codes "ssh-userauth"),
    refl,
    λ l. omega (arith, l),
  ),
  (
    low_frame (banner message) (at_once (banner message)) refl (
      53,
      string message ++ string [],
      refl,
      λ l. omega (arith, l),
    ),
    tt,
  ),
)

greets_guarded : (given : Circumstances) (named : List ℕ → Type 0) (a : Type 0) (kind : InputKind)
    (w : World)
    (message : Option (List ℕ)) (short : Bool) → is_short message ≡ short → IsClear named w →
    Guarded given named a kind (acts (greets message) w)
greets_guarded given named a kind w message true is clear =
    rw is (inr (
      λ principal e. absurd (cc),
      clear.1,
      clear.2,
      low_more w.channels.lines.written (greeting message) clear.3 (greeting_low message),
    ))
greets_guarded given named a kind w message false is clear = rw is tt

service_guarded : (given : Circumstances) (named : List ℕ → Type 0) (a : Type 0) (kind : InputKind)
    (w : World) (b : Bool) →
    IsClear named w → IsClear (NamesLast named kind) w →
    Guarded given named a kind (if b then Ask Banner (λ message. acts (greets message) w) else acts
    [] w)
service_guarded given named a kind w true clear stays = (
  λ q. absurd q.0,
  λ message. greets_guarded given named (a ⊎ ⊥) kind w message (is_short message) refl clear,
)
service_guarded given named a kind w false clear stays = inr stays

-- what a service request names, or that it does not fit
named_guarded : (given : Circumstances) (named : List ℕ → Type 0) (a : Type 0) (kind : InputKind)
    (w : World) (moment : ℕ) (read : Result (List ℕ) WireError) → IsClear named w
    → IsClear (NamesLast named kind) w →
    Guarded given named a kind (row w moment (said_of Service read))
named_guarded given named a kind w moment (Ok name) clear stays =
    service_guarded given named a kind w (bytes_eq name (codes "ssh-userauth")) clear stays
named_guarded given named a kind w moment (Err why) clear stays = tt

-- ---- requests and responses

-- a payload that is read as a request is one of the user that it names
asked_guarded : (given : Circumstances) (named : List ℕ → Type 0) (a : Type 0) (w : World)
    (moment : ℕ) (payload : List ℕ)
    (auth : AuthRequest) (asked : Asked) → payload ≡ 50 ∷ drop 1 payload
    → SaysRequest given (drop 1 payload) asked →
    (w.channels.lines.entries ≡ []) → (w.channels.opens ≡ []) → AreLow w.channels.lines.written →
    Guarded given named a (Payload payload)
    (after (verdict_on auth asked) (concluded w moment true))
asked_guarded given named a w moment payload auth (asks.Request user method) is h none opens low =
    let kind = Payload payload in
    let request : IsRequestOf user kind = (
      drop 1 payload,
      codes "ssh-connection",
      h.0,
      h.1,
      is,
      h.2,
    ) in
    let state = begun auth user (codes "ssh-connection") in
    fair_guarded given named a kind w moment true (method_verdict state user method) none opens low
    (method_fair given named a kind state user method request
    (asks_weak (IsProven given (drop 1 payload)) (IsProvenRequest given kind)
    (method_verdict state user method)
    (λ question proven. (drop 1 payload, is, proven)) (verdict_only given (drop 1 payload) auth
    (asks.Request user method) h))
    (begun_named (NamesLast named kind) auth user (codes "ssh-connection") (inl request)))
asked_guarded given named a w moment payload auth asks.Other_service is h none opens low = tt
asked_guarded given named a w moment payload auth asks.Unread is h none opens low = tt
asked_guarded given named a w moment payload auth (asks.Unfit why) is h none opens low = tt

request_guarded : (given : Circumstances) (named : List ℕ → Type 0) (a : Type 0) (w : World)
    (moment : ℕ) (payload : List ℕ)
    (state : EncryptedState) (asked : Asked) → IsRequesting state → payload ≡ 50 ∷ drop 1 payload →
    SaysRequest given (drop 1 payload) asked → IsClear named w →
    Guarded given named a (Payload payload)
    (where_waiting state (λ auth. after (verdict_on auth asked) (concluded w moment true)) (acts [] w))
request_guarded given named a w moment payload (WaitingAuthRequest auth) asked requesting is h clear
    =
    asked_guarded given named a w moment payload auth asked is h clear.1 clear.2 clear.3
request_guarded given named a w moment payload _ asked requesting is h clear = absurd requesting

-- a response is the bound user's
response_guarded : (given : Circumstances) (named : List ℕ → Type 0) (a : Type 0) (w : World)
    (moment : ℕ) (requested : Bool)
    (payload : List ℕ) (state : EncryptedState) (said : Responded) → IsRequesting state → payload
    ≡ 61 ∷ drop 1 payload →
    IsBefore named state → IsBefore (NamesLast named (Payload payload)) state → IsClear named w →
    Guarded given named a (Payload payload)
    (where_waiting state (λ auth. after (response_verdict auth said) (concluded w moment requested))
    (acts [] w))
response_guarded given named a w moment requested payload (WaitingAuthRequest auth) said requesting
    is bound stays clear =
    fair_guarded given named a (Payload payload) w moment requested (response_verdict auth said)
    clear.1 clear.2 clear.3
    (responded_fair given named a (Payload payload) (record auth { partial_success = false })
    (prompt_of auth) said
    (λ shown e. ((drop 1 payload, is), prompt_named named auth.current auth.bound shown bound e))
    stays)
response_guarded given named a w moment requested payload _ said requesting is bound stays clear =
    absurd requesting

-- ---- rows

not_let_in : (named : List ℕ → Type 0) (state : EncryptedState) → IsBefore named state
    → IsLetIn state → ⊥
not_let_in named InitCompression h is = h
not_let_in named Authenticated h is = h
not_let_in named _ h is = is

-- what a message of channels says is read only after an accepted authentication
let_in_only : (given : Circumstances) (named : List ℕ → Type 0) (a : Type 0) (w : World)
    (payload : List ℕ) (at : Gate)
    (plan : Plan Outcome) → gate_of w payload ≡ at → IsOfConnection at → IsClear named w
    → Guarded given named a (Payload payload) plan
let_in_only given named a w payload at plan is of clear =
    absurd (not_let_in named w.user.state clear.0 (is_let_in w payload at is of))

pub row_guarded : (given : Circumstances) (named : List ℕ → Type 0) (a : Type 0) (w : World)
    (moment : ℕ) (payload : List ℕ)
    (said : Said) (at : Gate) → gate_of w payload ≡ at → Says given w at (drop 1 payload)
    said → IsClear named w →
    Guarded given named a (Payload payload) (row w moment said)
row_guarded given named a w moment payload said gate.Nothing is h clear =
    rw h (inr (unread named w payload gate.Nothing is (λ r. r) clear))
row_guarded given named a w moment payload said gate.Ends is h clear = rw h (inr clear.3)
row_guarded given named a w moment payload said gate.OverCap is h clear =
    let low : IsLow too_many_attempts = (
      1,
      number 14 ++ (string (codes "Too many authentication attempts") ++ string []),
      refl,
      λ l. omega (arith, l),
    ) in
    rw h (inr (low_more w.channels.lines.written (at_once too_many_attempts ∷ []) clear.3
    (low_frame too_many_attempts (at_once too_many_attempts) refl low, tt)))
row_guarded given named a w moment payload said gate.ServiceRequest is h clear =
    rw h.2 (named_guarded given named a (Payload payload) w moment h.0 clear
    (unread named w payload gate.ServiceRequest is (λ r. r) clear))
row_guarded given named a w moment payload said gate.UserauthRequest is h clear =
    let read = is_userauth w payload is in
    rw h.2 (request_guarded given named a w moment payload w.user.state h.0 read.1 read.0 h.1 clear)
row_guarded given named a w moment payload said gate.InfoResponse is h clear =
    let read = is_response w payload is in
    let stays = unread named w payload gate.InfoResponse is (λ r. r) clear in
    rw h.2 (response_guarded given named a w moment w.user.requested payload w.user.state h.0 read.1
    read.0 clear.0 stays.0 clear)
row_guarded given named a w moment payload said gate.ChannelOpen is h clear =
    let_in_only given named a w payload gate.ChannelOpen (row w moment said) is tt clear
row_guarded given named a w moment payload said gate.OpenConfirmation is h clear =
    let_in_only given named a w payload gate.OpenConfirmation (row w moment said) is tt clear
row_guarded given named a w moment payload said (gate.Connection message) is h clear =
    let_in_only given named a w payload (gate.Connection message) (row w moment said) is tt clear
