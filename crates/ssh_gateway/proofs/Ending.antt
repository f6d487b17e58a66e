-- What asks of an end: an end of file, or the close of a channel. An input asks of one at most.
use Rattle.std.proofs.Common.{◌≡◌, ◌+◌, ℕ, List, [], ◌∷◌, map, Bool, true, false, not, cond}
use Rattle.std.proofs.Common.{Option, Some, None, refl, sym, subst, length}
use Rattle.std.specs.Prelude.{bytes_eq, codes, if◌then◌else◌}
use Rattle.ssh_wire.specs.declared.open.OpenChannelMessage.{OpenChannelMessage}
use Rattle.ssh_wire.specs.declared.open.ChannelOpenConfirmation.{ChannelOpenConfirmation}
use Rattle.ssh_wire.specs.declared.open_failure.ChannelOpenFailure.{ChannelOpenFailure}
use Rattle.ssh_wire.specs.declared.channel_id.ChannelId.{ChannelId}
use Rattle.ssh_keys.specs.declared.algorithm.Algorithm.{Algorithm}
use Rattle.ssh_keys.specs.declared.key_or_certificate.PublicKeyOrCertificate.{PublicKeyOrCertificate}
use Rattle.ssh_keys.specs.declared.key_or_certificate.PublicKeyOrCertificate.TheVariants.{PublicKey as Plain}
use Rattle.ssh_keys.specs.declared.key_or_certificate.PublicKeyOrCertificate.TheVariants.{Certificate}
use Rattle.ssh_keys.specs.Offers.{offered_key}
use Rattle.ssh_link.specs.declared.command.Command.{Command}
use Rattle.ssh_link.specs.declared.command.Command.TheVariants as command
use Rattle.ssh_link.specs.declared.frame.Input.{Input}
use Rattle.ssh_link.specs.declared.frame.InputKind.{InputKind}
use Rattle.ssh_link.specs.declared.frame.InputKind.TheVariants as input
use Rattle.ssh_link.specs.declared.link.TraceEntry.{TraceEntry}
use Rattle.ssh_link.specs.declared.link.TraceEntry.TheVariants.{Noticed, Sent}
use Rattle.ssh_link.specs.declared.outcome.CommandOutcome.{CommandOutcome}
use Rattle.ssh_link.specs.declared.outcome.CommandOutcome.TheVariants.{Accepted, Opened, Refused}
use Rattle.ssh_auth.specs.declared.auth.Auth.{Auth}
use Rattle.ssh_auth.specs.declared.auth.Auth.TheVariants.{Accept}
use Rattle.ssh_auth.specs.declared.auth_request.AuthRequest.{AuthRequest}
use Rattle.ssh_auth.specs.declared.auth_step.AuthVerdict.TheVariants as verdict
use Rattle.ssh_auth.specs.declared.question.Admission.TheVariants as by
use Rattle.ssh_auth.specs.declared.question.Happening.TheVariants as what
use Rattle.ssh_auth.specs.declared.question.Lent.TheVariants.{Happened}
use Rattle.ssh_auth.specs.declared.question.Question.{Question}
use Rattle.ssh_auth.specs.declared.question.Question.TheVariants.{Admits, Banner, Lends}
use Rattle.ssh_auth.specs.Plan.{Plan, Finish, Ask, Tell, Answer}
use Rattle.ssh_auth.specs.Plan.{after}
use Rattle.ssh_auth.specs.Publickey.{Acceptance, Offer}
use Rattle.ssh_auth.specs.Request.{begun, is_probed, prompt_of}
use Rattle.ssh_auth.specs.Requested.{Method, None_method, Password_method, Change_method}
use Rattle.ssh_auth.specs.Requested.{Unusable_method, Broken_method, Probe_method, Misnamed_method}
use Rattle.ssh_auth.specs.Requested.{Signed_method, Interactive_method, Other_method, Unfit_method}
use Rattle.ssh_auth.specs.Requested.{Requested as Asked}
use Rattle.ssh_auth.specs.Requested as asks
use Rattle.ssh_auth.specs.Response.{Responded, Responses, Unfit_responses, Unread_responses}
use Rattle.ssh_auth.specs.Verdict.{AuthOutcome, proof, signed, permitted, method_verdict, responded}
use Rattle.ssh_auth.specs.Verdict.{verdict as verdict_on, response_verdict}
use Rattle.ssh_auth.specs.Verdict as verdicts
use Rattle.ssh_channels.specs.declared.adjusted.Adjusted.{Adjusted}
use Rattle.ssh_channels.specs.declared.adjusted.Adjusted.TheVariants.{Dropped, Kept, Granted}
use Rattle.ssh_channels.specs.declared.chunk.Chunk.{Chunk}
use Rattle.ssh_channels.specs.Does.{coming_of, has}
use Rattle.ssh_channels.specs.Entry.{Entry}
use Rattle.ssh_channels.specs.Lines.{find as line_of, next_number}
use Rattle.ssh_rules.specs.declared.exchange.Passage.{Passage}
use Rattle.ssh_rules.specs.declared.exchange.Passage.TheVariants as passage
use Rattle.ssh_rules.specs.declared.messages.Spoken.{Spoken}
use Rattle.ssh_rules.specs.declared.messages.Spoken.TheVariants as spoken
use Rattle.ssh_rules.specs.declared.handling.Handling.{Handling}
use Rattle.ssh_rules.specs.declared.handling.Handling.TheVariants.{Asks, Unsupported, Unknown, GivenUp}
use Rattle.ssh_rules.specs.declared.state.EncryptedState.{EncryptedState}
use Rattle.ssh_rules.specs.declared.state.EncryptedState.TheVariants.{WaitingAuthRequest}
use Rattle.ssh_rules.specs.Acts.{Act, Notes, Calls, Adjusts_by, Turns, Is_over, Stops, tell_all}
use Rattle.ssh_rules.specs.Acts.{tell_done, done, done_all, acts, Judges_by, Listens_by}
use Rattle.ssh_rules.specs.Acts.{Exchanges, Beginning, Stepping, payloads_given, frames_given}
use Rattle.ssh_rules.specs.Acts.{moved}
use Rattle.ssh_rules.specs.Effect.{Effect, Brings, effect, effect_at}
use Rattle.ssh_rules.specs.Outcome.{Outcome, Goes, Ends as Over, Fails}
use Rattle.ssh_rules.specs.Reading.{Said, Service, Request, Response, Open, Connection, Agreed}
use Rattle.ssh_rules.specs.Rows.{row, owed, spoken_acts, open_acts, greets, is_short}
use Rattle.ssh_rules.specs.Rows.{replied, concluded, where_waiting as asked_at, data_told, on_entry}
use Rattle.ssh_rules.specs.Rows.{on_confirmed, failure_acts, confirmation_acts, exchange_acts}
use Rattle.ssh_rules.specs.Run.{OwesKind, OwesPassed, Owes, command_row, going_out}
use Rattle.ssh_rules.specs.Run.{handed_on, finish_input, goes_unless_ended, begins, is_due}
use Rattle.ssh_rules.specs.Run.{asks_for_keys, passage as passage_in}
use Rattle.ssh_rules.specs.Ticks.{keepalive_acts, is_too_many}
use Rattle.ssh_rules.specs.Ticks as ticks
use Rattle.ssh_rules.specs.declared.request.ChannelRequest.{ChannelRequest}
use Rattle.ssh_rules.specs.World.{World, hears, target_on, waits_for}

-- ---- questions

-- a callback of a channel's end of file, or of its close
abbrev pub is_end : Question → Bool
is_end (Lends (Happened channel what.Eof)) = true
is_end (Lends (Happened channel what.Close)) = true
is_end _ = false

-- where one may still come, it is spent by an end
abbrev pub Spends : (ends may : Bool) → (rest : Bool → Type 0) → Type 0
Spends false may rest = rest may
Spends true true rest = rest false
Spends true false rest = ⊥

pub spends_so : (ends may : Bool) (P Q : Bool → Type 0) → ((m : Bool) → P m → Q m)
    → Spends ends may P → Spends ends may Q
spends_so false may P Q f h = f may h
spends_so true true P Q f h = f false h
spends_so true false P Q f h = absurd h

one_end : (ends : Bool) → Spends ends true (λ m. Unit {0})
one_end true = tt
one_end false = tt

-- ---- plans

-- whatever is answered, the plan asks of one end at most, and of none where none may come
abbrev pub Few : {O : Type 0} → (may : Bool) → Plan O → Type 0
Few may (Finish outcome) = Unit {0}
Few may (Ask question next) =
    Spends (is_end question) may (λ m. (answer : Answer question) → Few m (next answer))
Few may (Tell entry next) = Few may next

few_after : {A B : Type 0} (may : Bool) (plan : Plan A) (later : A → Plan B)
    → ((m : Bool) (outcome : A) → Few m (later outcome)) → Few may plan → Few may (after plan later)
few_after may (Finish outcome) later k h = k may outcome
few_after may (Ask question next) later k h =
    spends_so (is_end question) may (λ m. (answer : Answer question) → Few m (next answer))
    (λ m. (answer : Answer question) → Few m (after (next answer) later))
    (λ m g answer. few_after m (next answer) later k (g answer)) h
few_after may (Tell entry next) later k h = few_after may next later k h

few_told : (may : Bool) (entries : List TraceEntry) (next : Plan Outcome) → Few may next
    → Few may (tell_all entries next)
few_told may [] next h = h
few_told may (entry ∷ entries) next h = few_told may entries next h

few_outcome : (may : Bool) (place : ℕ) (outcome : CommandOutcome) (next : Plan Outcome)
    → Few may next → Few may (tell_done place outcome next)
few_outcome may place Accepted next h = h
few_outcome may place (Opened channel) next h = λ answer. h
few_outcome may place (Refused why) next h = λ answer. h

few_done : (may : Bool) (does : Effect) (next : CommandOutcome → World → Plan Outcome)
    → ((outcome : CommandOutcome) (world : World) → Few may (next outcome world))
    → Few may (done does next)
few_done may (Brings notices outcome world) next k =
    few_told may (map Noticed notices) (next outcome world) (k outcome world)

few_commands : (may : Bool) (at : Option ChannelRequest) (place : ℕ) (commands : List Command)
    (w : World) (next : World → Plan Outcome) → ((world : World) → Few may (next world))
    → Few may (done_all at place commands w next)
few_commands may at place [] w next k = k w
few_commands may at place (command ∷ commands) w next k =
    few_done may (effect_at at w command) (λ outcome world. tell_done place outcome
    (done_all at (place + 1) commands world next))
    (λ outcome world. few_outcome may place outcome (done_all at (place + 1) commands world next)
    (few_commands may at (place + 1) commands world next k))

-- ---- acts

abbrev FewActs : (may : Bool) → List Act → Type 0
FewActs may [] = Unit {0}
FewActs may (Notes notice ∷ later) = FewActs may later
FewActs may (Calls at lent ∷ later) = Spends (is_end (Lends lent)) may (λ m. FewActs m later)
FewActs may (Judges_by at judged turn ∷ later) = FewActs may later
FewActs may (Listens_by address port turn ∷ later) = FewActs may later
FewActs may (Adjusts_by channel current turn ∷ later) = FewActs may later
FewActs may (Exchanges asked ∷ later) = FewActs may later
FewActs may (Turns turn ∷ later) = FewActs may later
FewActs may (Is_over ∷ later) = Unit {0}
FewActs may (Stops why ∷ later) = Unit {0}

few_acts : (may : Bool) (now : List Act) (w : World) → FewActs may now → Few may (acts now w)
few_acts may [] w h = tt
few_acts may (Notes notice ∷ later) w h = few_acts may later w h
few_acts may (Calls at lent ∷ later) w h =
    spends_so (is_end (Lends lent)) may (λ m. FewActs m later)
    (λ m. (commands : Answer (Lends lent)) → Few m (done_all at 0 commands w (acts later)))
    (λ m g commands. few_commands m at 0 commands w (acts later)
    (λ world. few_acts m later world g)) h
few_acts may (Judges_by at judged turn ∷ later) w h =
    λ answer. few_commands may at 0 answer.commands w
    (λ world. acts later (turn answer.granted world))
    (λ world. few_acts may later (turn answer.granted world) h)
few_acts may (Listens_by address port turn ∷ later) w h =
    λ answer. few_commands may None 0 answer.commands w
    (λ world. acts later (turn answer.granted answer.port world))
    (λ world. few_acts may later (turn answer.granted answer.port world) h)
few_acts may (Adjusts_by channel current turn ∷ later) w h =
    λ window. few_acts may later (turn window w) h
few_acts may (Exchanges Beginning ∷ later) w h =
    λ answer. few_told may (map Sent (frames_given (payloads_given Beginning answer)))
    (acts later (moved Beginning answer w)) (few_acts may later (moved Beginning answer w) h)
few_acts may (Exchanges (Stepping payload) ∷ later) w h =
    λ answer. few_told may (map Sent (frames_given (payloads_given (Stepping payload) answer)))
    (acts later (moved (Stepping payload) answer w))
    (few_acts may later (moved (Stepping payload) answer w) h)
few_acts may (Turns turn ∷ later) w h = few_acts may later (turn w) h
few_acts may (Is_over ∷ later) w h = tt
few_acts may (Stops why ∷ later) w h = tt

-- ---- rows

few_confirmed : (confirmed : Bool) (owes : List Act) → FewActs true owes
    → FewActs true (on_confirmed confirmed owes)
few_confirmed true owes h = h
few_confirmed false owes h = tt

few_on : (e : Option Entry) (owes : Entry → List Act) → ((e : Entry) → FewActs true (owes e))
    → FewActs true (on_entry e owes)
few_on None owes k = tt
few_on (Some e) owes k = few_confirmed e.confirmed (owes e) (k e)

few_data : (adjusted : Adjusted) (channel : ChannelId) (piece : Chunk) (target : ℕ)
    → FewActs true (data_told adjusted channel piece target)
few_data Dropped channel piece target = tt
few_data Kept channel piece target = one_end _
few_data (Granted amount) channel piece target = one_end _

few_failure : (there waiting : Bool) (channel : ChannelId) (why : ChannelOpenFailure)
    → FewActs true (failure_acts there waiting channel why)
few_failure there true channel why = tt
few_failure true false channel why = tt
few_failure false false channel why = tt

few_confirmation : (waiting : Bool) (message : ChannelOpenConfirmation)
    → FewActs true (confirmation_acts waiting message)
few_confirmation true message = tt
few_confirmation false message = tt

few_open : (number : Option ℕ) (message : OpenChannelMessage) (does : Handling)
    → FewActs true (open_acts number message does)
few_open None message (Asks type) = tt
few_open None message GivenUp = tt
few_open None message Unsupported = tt
few_open None message Unknown = tt
few_open (Some number) message (Asks type) = tt
few_open (Some number) message GivenUp = tt
few_open (Some number) message Unsupported = tt
few_open (Some number) message Unknown = tt

few_spoken : (w : World) (said : Spoken) → FewActs true (spoken_acts w said)
few_spoken w spoken.Nothing = tt
few_spoken w (spoken.Grant channel amount) =
    few_on (line_of channel.0 w.channels.lines.entries) _ (λ e. tt)
few_spoken w (spoken.Data channel piece) = few_data (coming_of (length piece.bytes)
    (target_on channel.0 w) (line_of channel.0 w.channels.lines.entries)) channel piece
    (target_on channel.0 w)
few_spoken w (spoken.Tells channel message happening) =
    few_on (line_of channel.0 w.channels.lines.entries) _ (λ e. one_end _)
few_spoken w (spoken.Close channel) =
    few_on (line_of channel.0 w.channels.lines.entries) _ (λ e. tt)
few_spoken w (spoken.Failed channel reason) =
    few_failure (has (λ e. e.confirmed) channel.0 w.channels.lines)
    (has (λ e. not e.confirmed) channel.0 w.channels.lines) channel reason
few_spoken w (spoken.Requests channel wanted message happening) = one_end _
few_spoken w (spoken.RequestsAgent channel wanted) = tt
few_spoken w (spoken.RequestsUnknown channel wanted) = tt
few_spoken w (spoken.RequestsForward wanted address port) = tt
few_spoken w (spoken.RequestsGlobally wanted judged) = tt
few_spoken w (spoken.RequestsGloballyUnknown wanted) = tt
few_spoken w (spoken.GivesUpSessions wanted) = tt
few_spoken w (spoken.Settles None) = tt
few_spoken w (spoken.Settles (Some notice)) = tt
few_spoken w spoken.Inconsistent = tt

few_owed : (w : World) (said : Said) → FewActs true (owed w said)
few_owed w (Open message) = few_open (next_number w.channels.lines) message _
few_owed w (Agreed message) = few_confirmation _ message
few_owed w (Connection said) = few_spoken w said
few_owed w said = tt

-- ---- verdicts

few_proof : (auth : AuthRequest) (user : List ℕ) (key : PublicKeyOrCertificate)
    (algorithm : Algorithm) → Few true (proof auth user key algorithm)
few_proof auth user (Plain key hash) algorithm = λ answer. tt
few_proof auth user (Certificate certificate) algorithm = λ answer. tt

few_signed : (auth : AuthRequest) (user : List ℕ) (offer : Offer) (accepted : Option Bool)
    → Few true (signed auth user offer accepted)
few_signed auth user offer None = tt
few_signed auth user offer (Some false) = tt
few_signed auth user offer (Some true) = few_proof auth user offer.key offer.algorithm

few_permitted : (auth : AuthRequest) (answer : Auth) (next : Plan AuthOutcome) → Few true next
    → Few true (permitted auth answer next)
few_permitted auth Accept next h = h
few_permitted auth _ next h = tt

few_probed : (auth : AuthRequest) (user : List ℕ) (offer : Offer) (accepted : Option Bool)
    (probed : Bool) → Few true (if probed then signed auth user offer accepted
    else Ask (Admits (by.PublickeyOffered user (offered_key offer.key) offer.algorithm))
    (λ answer. permitted auth answer (signed auth user offer accepted)))
few_probed auth user offer accepted true = few_signed auth user offer accepted
few_probed auth user offer accepted false =
    λ answer. few_permitted auth answer (signed auth user offer accepted)
    (few_signed auth user offer accepted)

few_method : (auth : AuthRequest) (user : List ℕ) (method : Method)
    → Few true (method_verdict auth user method)
few_method auth user None_method = λ answer. tt
few_method auth user (Password_method password) = λ answer. tt
few_method auth user (Change_method password new_password) = tt
few_method auth user Unusable_method = tt
few_method auth user Misnamed_method = tt
few_method auth user Broken_method = tt
few_method auth user (Probe_method offer) = λ answer. tt
few_method auth user (Signed_method offer accepted) =
    few_probed auth user offer accepted (is_probed auth.current offer.name offer.blob)
few_method auth user (Interactive_method submethods) = λ answer. tt
few_method auth user Other_method = tt
few_method auth user (Unfit_method why) = tt

few_verdict : (auth : AuthRequest) (asked : Asked) → Few true (verdict_on auth asked)
few_verdict auth (asks.Request user method) =
    few_method (begun auth user (codes "ssh-connection")) user method
few_verdict auth asks.Other_service = tt
few_verdict auth (asks.Unfit why) = tt
few_verdict auth asks.Unread = tt

few_responded : (auth : AuthRequest) (prompt : Option (List ℕ × List ℕ)) (said : Responded)
    → Few true (responded auth prompt said)
few_responded auth None said = tt
few_responded auth (Some prompt) (Responses responses) = λ answer. tt
few_responded auth (Some prompt) (Unfit_responses why) = tt
few_responded auth (Some prompt) Unread_responses = tt

few_concluded : (m : Bool) (w : World) (moment : ℕ) (requested : Bool) (outcome : AuthOutcome)
    → Few m (concluded w moment requested outcome)
few_concluded m w moment requested (verdicts.Replies reply verdict.Accepted state) =
    few_acts m (replied w moment requested reply verdict.Accepted)
    (waits_for (WaitingAuthRequest state) w) tt
few_concluded m w moment requested (verdicts.Replies reply (verdict.Rejected none_method) state) = tt
few_concluded m w moment requested (verdicts.Replies reply verdict.Continued state) = tt
few_concluded m w moment requested (verdicts.Fails fault) = tt

few_state : (state : EncryptedState) (next : AuthRequest → Plan AuthOutcome) (w : World)
    (moment : ℕ) (requested : Bool) → ((auth : AuthRequest) → Few true (next auth))
    → Few true (asked_at state (λ auth. after (next auth) (concluded w moment requested))
    (acts [] w))
few_state (WaitingAuthRequest auth) next w moment requested k =
    few_after true (next auth) (concluded w moment requested)
    (λ m outcome. few_concluded m w moment requested outcome) (k auth)
few_state _ next w moment requested k = tt

few_greets : (w : World) (message : Option (List ℕ)) (short : Bool) → is_short message ≡ short
    → Few true (acts (greets message) w)
few_greets w message true is = rw is tt
few_greets w message false is = rw is tt

few_service : (w : World) (b : Bool)
    → Few true (if b then Ask Banner (λ message. acts (greets message) w) else acts [] w)
few_service w true = λ message. few_greets w message (is_short message) refl
few_service w false = tt

few_row : (w : World) (moment : ℕ) (said : Said) → Few true (row w moment said)
few_row w moment (Service name) = few_service w (bytes_eq name (codes "ssh-userauth"))
few_row w moment (Request asked) =
    few_state w.user.state (λ auth. verdict_on auth asked) w moment true
    (λ auth. few_verdict auth asked)
few_row w moment (Response said) =
    few_state w.user.state (λ auth. response_verdict auth said) w moment w.user.requested
    (λ auth. few_responded (record auth { partial_success = false }) (prompt_of auth) said)
few_row w moment said = few_acts true (owed w said) w (few_owed w said)

-- ---- inputs

few_passed : (where_to : Passage) (accepts : Acceptance) (w : World) (moment : ℕ) (payload : List ℕ)
    (plan : Plan Outcome) → OwesPassed where_to accepts w moment payload plan → Few true plan
few_passed passage.Passes accepts w moment payload plan (said, says, is) =
    subst (Few true) (sym is) (few_row w moment said)
few_passed passage.Begins accepts w moment payload plan is =
    subst (Few true) (sym is) (few_acts true (exchange_acts payload passage.Begins) w tt)
few_passed passage.Steps accepts w moment payload plan is =
    subst (Few true) (sym is) (few_acts true (exchange_acts payload passage.Steps) w tt)
few_passed passage.Barred accepts w moment payload plan is = subst (Few true) (sym is) tt
few_passed passage.Late accepts w moment payload plan is = subst (Few true) (sym is) tt

few_keepalive : (w : World) (many : Bool)
    → is_too_many w.settings.config (ticks.one_more w.keepalives) ≡ many
    → Few true (acts (keepalive_acts w) w)
few_keepalive w true is = rw is tt
few_keepalive w false is = rw is tt

few_command : (may : Bool) (w : World) (ticket : ℕ) (given : Command)
    → Few may (command_row w ticket given)
few_command may w ticket given = few_done may (effect w given) _ (λ outcome world. tt)

few_kind : (accepts : Acceptance) (w : World) (moment : ℕ) (kind : InputKind) (plan : Plan Outcome)
    → OwesKind accepts w moment kind plan → Few true plan
few_kind accepts w moment input.End plan is = subst (Few true) (sym is) tt
few_kind accepts w moment (input.Payload payload) plan owes =
    few_passed (passage_in (hears payload w) payload) accepts (hears payload w) moment payload plan
    owes
few_kind accepts w moment (input.Command ticket given) plan is =
    subst (Few true) (sym is) (few_command true w ticket given)
few_kind accepts w moment (input.OpenReply ticket answer) plan is =
    subst (Few true) (sym is) (few_command true w ticket (command.Answer answer))
few_kind accepts w moment input.KeepaliveTick plan is = subst (Few true) (sym is)
    (few_keepalive w (is_too_many w.settings.config (ticks.one_more w.keepalives)) refl)
few_kind accepts w moment input.InactivityTick plan is = subst (Few true) (sym is) tt
few_kind accepts w moment input.RekeyTick plan is = subst (Few true) (sym is) tt

few_begun : (may over due : Bool) (w : World)
    → Few may (cond over (Finish (Over w)) (acts (begins due) w))
few_begun may true due w = tt
few_begun may false true w = few_acts may (begins true) w tt
few_begun may false false w = tt

few_finish : (ticked may : Bool) (outcome : Outcome) → Few may (finish_input ticked outcome)
few_finish ticked may (Goes w) = few_told may (map Sent (going_out w))
    (goes_unless_ended ticked (handed_on w))
    (few_begun may (handed_on w).disconnected (is_due ticked (handed_on w)) (handed_on w))
few_finish ticked may (Over w) =
    few_told may (map Sent (going_out w)) (Finish (Over (handed_on w))) tt
few_finish ticked may (Fails why) = tt

pub few_owes : (accepts : Acceptance) (w : World) (given : Input) (plan : Plan Outcome)
    → Owes accepts w given plan → Few true plan
few_owes accepts w given plan (first, owes, is) = subst (Few true) (sym is)
    (few_after true first (finish_input (asks_for_keys given.kind))
    (λ m outcome. few_finish (asks_for_keys given.kind) m outcome)
    (few_kind accepts w given.moment given.kind first owes))

-- an input that is a command asks of no end
pub none_command : (accepts : Acceptance) (w : World) (given : Input) (plan : Plan Outcome)
    (moment ticket : ℕ) (what_for : Command)
    → given ≡ record { moment = moment; kind = input.Command ticket what_for }
    → Owes accepts w given plan → Few false plan
none_command accepts w given plan moment ticket what_for is owes =
    by (subst (λ i. Owes accepts w i plan) is owes)
  where
    by : Owes accepts w (record { moment = moment; kind = input.Command ticket what_for }) plan
        → Few false plan
    by (first, first_is, plan_is) = subst (Few false) (sym plan_is)
        (few_after false first (finish_input false) (λ m outcome. few_finish false m outcome)
        (subst (Few false) (sym first_is) (few_command false w ticket what_for)))
