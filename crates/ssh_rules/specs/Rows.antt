-- The reply table: what each input owes, row by row.
use Rattle.std.specs.Prelude.{ℕ, ◌+◌, ◌-◌, ◌^◌, ◌==◌, ◌&&◌, min, nat_lt, List, [], ◌∷◌, length}
use Rattle.std.specs.Prelude.{Bool, true, false, not, Option, Some, None, unwrap_or, if◌then◌else◌}
use Rattle.std.specs.Prelude.{◌++◌, bytes_eq, codes}
use Rattle.ssh_wire.specs.declared.error.WireError.TheVariants.{TooLong}
use Rattle.ssh_wire.specs.Messages.{written, request_success, forward_success, request_failure}
use Rattle.ssh_wire.specs.declared.channel_id.ChannelId.{ChannelId}
use Rattle.ssh_wire.specs.declared.open.OpenChannelMessage.{OpenChannelMessage}
use Rattle.ssh_wire.specs.declared.open.ChannelOpenConfirmation.{ChannelOpenConfirmation}
use Rattle.ssh_wire.specs.declared.open_failure.ChannelOpenFailure.{ChannelOpenFailure}
use Rattle.ssh_link.specs.Frames.{Frame}
use Rattle.ssh_link.specs.declared.notice.ChannelMsg.{ChannelMsg}
use Rattle.ssh_link.specs.declared.notice.ChannelMsg.TheVariants as msg
use Rattle.ssh_link.specs.declared.notice.Notice.{Notice}
use Rattle.ssh_link.specs.declared.notice.Notice.TheVariants as notice
use Rattle.ssh_auth.specs.declared.auth_request.AuthRequest.{AuthRequest}
use Rattle.ssh_auth.specs.declared.auth_step.AuthVerdict.{AuthVerdict}
use Rattle.ssh_auth.specs.declared.auth_step.AuthVerdict.TheVariants as verdict
use Rattle.ssh_auth.specs.declared.question.Question.TheVariants.{Banner}
use Rattle.ssh_auth.specs.declared.question.Happening.{Happening}
use Rattle.ssh_auth.specs.declared.question.Happening.TheVariants as what
use Rattle.ssh_auth.specs.declared.question.Judged.TheVariants as whether
use Rattle.ssh_auth.specs.declared.question.OpenType.{OpenType}
use Rattle.ssh_auth.specs.declared.question.Lent.TheVariants.{Succeeded, Opens, Happened}
use Rattle.ssh_auth.specs.Plan.{Plan, Ask, after}
use Rattle.ssh_auth.specs.Request.{server_request, principal_of}
use Rattle.ssh_auth.specs.Requested.{Requested as Asked}
use Rattle.ssh_auth.specs.Response.{Responded}
use Rattle.ssh_auth.specs.Verdict.{verdict as verdict_on, response_verdict, AuthOutcome as Reply}
use Rattle.ssh_auth.specs.Verdict.{Replies}
use Rattle.ssh_auth.specs.Verdict as auth
use Rattle.ssh_handler.specs.declared.config.Config.{Config}
use Rattle.ssh_channels.specs.declared.chunk.Chunk.{Chunk}
use Rattle.ssh_channels.specs.declared.chunk.DataKind.{DataKind}
use Rattle.ssh_channels.specs.declared.chunk.DataKind.TheVariants.{Plain, Extended}
use Rattle.ssh_channels.specs.Entry.{Entry, flushed, granting}
use Rattle.ssh_channels.specs.Lines.{find, takes_grant, takes_in, peer_closes, aims, drawn}
use Rattle.ssh_channels.specs.Lines.{next_number, drops_pending, confirms, fails}
use Rattle.ssh_channels.specs.Does.{coming_of, has}
use Rattle.ssh_channels.specs.Layout.{as_uint32}
use Rattle.ssh_channels.specs.declared.adjusted.Adjusted.{Adjusted}
use Rattle.ssh_channels.specs.declared.adjusted.Adjusted.TheVariants.{Dropped, Kept}
use Rattle.ssh_channels.specs.declared.adjusted.Adjusted.TheVariants.{Granted as Filled}
use Rattle.std.specs.Ordering.{nat_cmp}
use Rattle.std.specs.BTreeMap.{insert_entry}
use Rattle.ssh_keys.specs.declared.error.KeyError.TheVariants.{Blob}
use Rattle.ssh_rules.specs.Opening.{Opening}
use Rattle.ssh_rules.specs.declared.state.EncryptedState.{EncryptedState}
use Rattle.ssh_rules.specs.declared.state.EncryptedState.TheVariants.{WaitingAuthRequest}
use Rattle.ssh_rules.specs.declared.state.EncryptedState.TheVariants.{InitCompression}
use Rattle.ssh_rules.specs.declared.handling.Handling.{Handling}
use Rattle.ssh_rules.specs.declared.handling.Handling.TheVariants.{Asks, GivenUp, Unsupported}
use Rattle.ssh_rules.specs.declared.handling.Handling.TheVariants.{Unknown}
use Rattle.ssh_rules.specs.declared.messages.Spoken.{Spoken}
use Rattle.ssh_rules.specs.declared.messages.Spoken.TheVariants as spoken
use Rattle.ssh_rules.specs.Layout.{service_accept, banner, too_many_attempts, at_once, held}
use Rattle.ssh_rules.specs.Opens.{own, failure_frame}
use Rattle.ssh_rules.specs.Types.{handling, opening_by, given_up, unsupported, unknown}
use Rattle.ssh_rules.specs.Outcome.{Fault, Encoding, Inconsistent, Key, Unsupported, Starved}
use Rattle.ssh_rules.specs.Outcome.{Channels_full, Pending, Outcome}
use Rattle.ssh_rules.specs.Reading.{Said, Disconnect, Over_cap, Service, Request, Response, Open}
use Rattle.ssh_rules.specs.Reading.{Agreed, Connection, Unread, Unfit, Without_packets}
use Rattle.ssh_rules.specs.World.{World, ChannelRequest, request_at, wants_if, settles_one, target_on}
use Rattle.ssh_rules.specs.World.{waits_for, lined, writes, wants_global}
use Rattle.ssh_rules.specs.World.{settles_global, settled_first, unless_ended}
use Rattle.ssh_rules.specs.Acts.{Act, Notes, Calls, Judges_by, Listens_by, Adjusts_by, Turns}
use Rattle.ssh_rules.specs.Acts.{Exchanges, Beginning, Stepping, Is_over, Stops, acts}
use Rattle.ssh_rules.specs.declared.exchange.Passage.{Passage}
use Rattle.ssh_rules.specs.declared.exchange.Passage.TheVariants as passage

-- ---- the service (RFC 4253 section 10)

-- SERVICE_ACCEPT, and the banner where the handler gave one (RFC 4252 section 5.4)
abbrev pub greeting : Option (List ℕ) → List Frame
greeting None = at_once service_accept ∷ []
greeting (Some message) = at_once service_accept ∷ at_once (banner message) ∷ []

abbrev pub is_short : Option (List ℕ) → Bool
is_short None = true
is_short (Some message) = nat_lt (length (banner message)) (2 ^ 32)

-- requests of authentication are read from now on
abbrev pub served : World → World
served w = waits_for (WaitingAuthRequest (server_request w.settings.config.methods)) w

abbrev pub greets : Option (List ℕ) → List Act
greets message =
    if is_short message then Turns (λ w. writes (greeting message) (served w))
    ∷ [] else Stops (Encoding TooLong) ∷ []

-- authentication is offered, with what the banner callback answered; another service does nothing
abbrev pub service_row : World → List ℕ → Plan Outcome
service_row w name =
    if bytes_eq name (codes "ssh-userauth") then Ask Banner (λ message. acts (greets message) w)
    else acts [] w

-- ---- authentication (RFC 4252)

-- how long a rejection is held, in milliseconds: one of method none before any finished request has
-- a time of its own
abbrev pub rejection_hold : Config → (none_method requested : Bool) → ℕ
rejection_hold config true false = unwrap_or config.auth_rejection_time_initial
    config.auth_rejection_time
rejection_hold config none_method requested = config.auth_rejection_time

-- a moment and a time after it, which stays at the end of the numbers
abbrev pub moment_after : ℕ → ℕ → ℕ
moment_after moment time = min (moment + time) (2 ^ 64 - 1)

-- whether a USERAUTH_REQUEST was finished
abbrev pub finishes : (requested : Bool) → World → World
finishes requested w = record w { user = record w.user { requested = requested } }

-- the user whom the last request named
abbrev pub named_user : Option (List ℕ × List ℕ) → List ℕ
named_user None = []
named_user (Some (user, service)) = user

abbrev pub user_of : EncryptedState → List ℕ
user_of (WaitingAuthRequest auth) = named_user (principal_of auth)
user_of _ = []

abbrev pub lets_in : World → World
lets_in w = record w {
  user = record w.user { state = InitCompression; name = user_of w.user.state };
}

-- a reply: a rejection is held, and an accepted user is told to the handler
abbrev pub replied : World → (moment : ℕ) → (requested : Bool) → List ℕ → AuthVerdict → List Act
replied w moment requested reply verdict.Accepted =
    Turns (λ v. writes (at_once reply ∷ []) (lets_in (finishes requested v)))
    ∷ Calls None Succeeded ∷ []
replied w moment requested reply (verdict.Rejected none_method) =
    Turns (λ v. writes (held reply (moment_after moment
    (rejection_hold w.settings.config none_method w.user.requested)) ∷ [])
    (finishes requested v)) ∷ []
replied w moment requested reply verdict.Continued =
    Turns (λ v. writes (at_once reply ∷ []) (finishes requested v)) ∷ []

-- a request that gets no reply
abbrev pub fault_of : auth.Fault → Fault
fault_of (auth.Encoding why) = Encoding why
fault_of auth.Inconsistent = Inconsistent
fault_of auth.Key = Key Blob
fault_of auth.Starved = Starved
fault_of auth.Unsupported = Unsupported

-- what the verdict on a request or on a response comes to
abbrev pub reply_row : (moment : ℕ) → (requested : Bool) → List ℕ → AuthVerdict → World
    → Plan Outcome
reply_row moment requested reply verdict w = acts (replied w moment requested reply verdict) w

abbrev pub concluded : World → (moment : ℕ) → (requested : Bool) → Reply → Plan Outcome
concluded w moment requested (Replies reply verdict state) =
    reply_row moment requested reply verdict (waits_for (WaitingAuthRequest state) w)
concluded w moment requested (auth.Fails fault) = acts (Stops (fault_of fault) ∷ []) w

-- where requests are waited for
abbrev pub where_waiting : EncryptedState → (AuthRequest → Plan Outcome) → Plan Outcome → Plan Outcome
where_waiting (WaitingAuthRequest state) next other = next state
where_waiting _ next other = other

abbrev pub request_row : World → (moment : ℕ) → Asked → Plan Outcome
request_row w moment asked =
    where_waiting w.user.state (λ state. after (verdict_on state asked) (concluded w moment true))
    (acts [] w)

-- a response to prompts is no request
abbrev pub response_row : World → (moment : ℕ) → Responded → Plan Outcome
response_row w moment responded =
    where_waiting w.user.state (λ state. after (response_verdict state responded)
    (concluded w moment w.user.requested)) (acts [] w)

-- ---- channels (RFC 4254 section 5)

-- a message of a channel is told twice: to its user as a notice, and to the handler as a callback;
-- it is the request at, where there is one
abbrev pub told_at : (at : Option ChannelRequest) → ChannelId → ChannelMsg → Happening → List Act
told_at at channel message happening = Notes (notice.Channel channel message)
    ∷ Calls at (Happened channel happening) ∷ []

abbrev pub told : ChannelId → ChannelMsg → Happening → List Act
told channel message happening = told_at None channel message happening

-- the window that the channel's room is filled up to from now on: 0 leaves it as it is
abbrev pub aims_at : ChannelId → (window : ℕ) → World → World
aims_at channel window w =
    if window == 0 then w else lined (aims channel.0 (as_uint32 window)) w

-- .. for which the handler is asked where the room was filled up to this many bytes
abbrev pub aims_if : ChannelId → (filled : Option ℕ) → List Act
aims_if channel None = []
aims_if channel (Some target) = Adjusts_by channel target (aims_at channel) ∷ []

-- a message of a channel is told twice, and between both the next window is asked for, where the
-- room was filled up
abbrev pub told_and_aimed : (at : Option ChannelRequest) → ChannelId → (filled : Option ℕ)
    → ChannelMsg → Happening → List Act
told_and_aimed at channel filled message happening = Notes (notice.Channel channel message)
    ∷ aims_if channel filled ++ Calls at (Happened channel happening) ∷ []

-- on a channel that both sides agreed to, and nothing on another
abbrev pub on_confirmed : Bool → List Act → List Act
on_confirmed true owes = owes
on_confirmed false owes = []

abbrev pub on_entry : Option Entry → (Entry → List Act) → List Act
on_entry None owes = []
on_entry (Some e) owes = on_confirmed e.confirmed (owes e)

abbrev pub on : (channel : ℕ) → World → (Entry → List Act) → List Act
on channel w owes = on_entry (find channel w.channels.lines.entries) owes

-- the peer grants more: the old grants' data go first, and it is told how many bytes may still be
-- sent (section 5.2)
abbrev pub credit_left : (amount : ℕ) → Entry → ℕ
credit_left amount e = (flushed (granting amount e)).granted - (flushed (granting amount e)).framed

abbrev pub grant_acts : (channel amount credit : ℕ) → List Act
grant_acts channel amount credit =
    Turns (lined (takes_grant channel amount))
    ∷ Notes (notice.Granted (own channel) amount)
    ∷ told (own channel) (msg.WindowAdjusted credit) (what.WindowAdjusted credit)

-- data are told by their kind (section 5.2)
abbrev pub data_notice : DataKind → List ℕ → ChannelMsg
data_notice Plain bytes = msg.Data bytes
data_notice (Extended code) bytes = msg.ExtendedData bytes code

abbrev pub data_happening : DataKind → List ℕ → Happening
data_happening Plain bytes = what.Data bytes
data_happening (Extended code) bytes = what.ExtendedData code bytes

-- both are told of data, and the handler is asked for the next window where the room was filled up
abbrev pub data_note : ChannelId → Chunk → Act
data_note channel piece = Notes (notice.Channel channel (data_notice piece.kind piece.bytes))

abbrev pub data_call : ChannelId → Chunk → Act
data_call channel piece = Calls None (Happened channel (data_happening piece.kind piece.bytes))

abbrev pub data_told : Adjusted → ChannelId → Chunk → (target : ℕ) → List Act
data_told Dropped channel piece target = []
data_told Kept channel piece target = data_note channel piece ∷ data_call channel piece ∷ []
data_told (Filled amount) channel piece target =
    data_note channel piece ∷ Adjusts_by channel target (aims_at channel) ∷ data_call channel piece ∷ []

-- data come in; those that are larger than the room are dropped (section 5.2)
abbrev pub data_acts : Adjusted → ChannelId → Chunk → (target : ℕ) → List Act
data_acts adjusted channel piece target =
    Turns (lined (takes_in channel.0 (length piece.bytes) target)) ∷ data_told adjusted channel
    piece target

-- ---- opens of the peer (section 5.1)

-- the number is drawn, and waits for the answer of the open
abbrev pub waits : (number : ℕ) → Opening → World → World
waits number said w = record w {
  channels = record w.channels {
    lines = drawn (Some number) w.channels.lines;
    opens = insert_entry nat_cmp w.channels.opens number said;
  };
}

-- .. or it is refused at once, and the number is free again
abbrev pub turns_away : (number : ℕ) → (payload : List ℕ) → World → World
turns_away number payload w = writes (failure_frame number payload ∷ [])
    (lined (λ l. drops_pending number (drawn (Some number) l)) w)

-- where a number is free, the open draws it, and the handler is asked; or it is refused at once
abbrev pub asks_first : (number : Option ℕ) → Opening → OpenType → List Act
asks_first None opening type = Stops Channels_full ∷ []
asks_first (Some number) opening type = Turns (waits number opening)
    ∷ Calls None (Opens (own number) type) ∷ []

abbrev pub turns_first : (number : Option ℕ) → (payload : List ℕ) → List Act
turns_first None payload = Stops Channels_full ∷ []
turns_first (Some number) payload = Turns (turns_away number payload) ∷ []

-- one line a handling of its type
abbrev pub open_acts : (number : Option ℕ) → OpenChannelMessage → Handling → List Act
open_acts number message (Asks type) = asks_first number (opening_by message) type
open_acts number message GivenUp = turns_first number (given_up message.recipient_channel)
open_acts number message Unsupported = turns_first number (unsupported message.recipient_channel)
open_acts number message Unknown = turns_first number (unknown message.recipient_channel)

-- ---- opens of this side's (section 5.1)

-- the peer agrees: its number, its window and its packet size are known from now on
abbrev pub agreed_acts : ChannelOpenConfirmation → List Act
agreed_acts message =
    Turns (lined (confirms message.recipient_channel message.sender_channel
    message.initial_window_size message.maximum_packet_size))
    ∷ Notes (notice.Ready (own message.recipient_channel) message.initial_window_size
    message.maximum_packet_size)
    ∷ told (own message.recipient_channel)
    (msg.Open (own message.recipient_channel) message.maximum_packet_size
    message.initial_window_size)
    (what.Confirmed message.maximum_packet_size message.initial_window_size)

-- only an open that waits is agreed to
abbrev pub confirmation_acts : (is_waiting : Bool) → ChannelOpenConfirmation → List Act
confirmation_acts true message = agreed_acts message
confirmation_acts false message = Stops Inconsistent ∷ []

-- .. and refused: of no channel that does nothing, and one that is open cannot be refused
abbrev pub failure_acts : (is_there is_waiting : Bool) → ChannelId → ChannelOpenFailure → List Act
failure_acts is_there true channel reason = Turns (lined (fails channel.0))
    ∷ Notes (notice.Channel channel (msg.OpenFailure reason)) ∷ []
failure_acts true false channel reason = Stops Inconsistent ∷ []
failure_acts false false channel reason = []

-- ---- requests of the peer's (section 5.4)

-- the reply that a request wants is owed before anything is told of it
abbrev pub request_acts : ChannelRequest → (wanted : Bool) → List Act → List Act
request_acts asked wanted owes = Turns (lined (wants_if wanted asked.channel.0)) ∷ owes

-- both are told of it
abbrev pub told_request_acts : ChannelRequest → (wanted : Bool) → ChannelMsg → Happening → List Act
told_request_acts asked wanted message happening =
    request_acts asked wanted (told_at (Some asked) asked.channel message happening)

-- whether the peer's agent may be reached is for the handler to say, which is the reply where it is
-- still owed
abbrev pub agent_acts : ChannelRequest → (wanted : Bool) → List Act
agent_acts asked wanted = request_acts asked wanted
    (Notes (notice.Channel asked.channel (msg.AgentForward wanted))
    ∷ Judges_by (Some asked) (whether.AgentRequest asked.channel)
    (λ granted. unless_ended (lined (settles_one asked.place asked.channel.0 granted))) ∷ [])

-- an unknown request is refused
abbrev pub refusal_acts : ChannelRequest → (wanted : Bool) → List Act
refusal_acts asked wanted = request_acts asked wanted
    (Turns (lined (settles_one asked.place asked.channel.0 false)) ∷ [])

-- ---- global requests of the peer's, and replies to this side's (section 4)

-- REQUEST_SUCCESS has the port that was bound, where the peer left it to this side (section 7.1)
abbrev pub bound_to : (asked bound : ℕ) → Option ℕ
bound_to asked bound = if (asked == 0) && not (bound == 0) then Some bound else None

abbrev pub success_payload : (port : Option ℕ) → List ℕ
success_payload None = written request_success tt
success_payload (Some port) = written forward_success (port, tt)

abbrev pub global_reply : (granted : Bool) → (port : Option ℕ) → List ℕ
global_reply true port = success_payload port
global_reply false port = written request_failure tt

-- the users are told what came of this side's request, where it has a slot
abbrev pub notes : Option Notice → List Act
notes None = []
notes (Some what) = Notes what ∷ []

-- an open of a session is refused from now on (OpenSSH PROTOCOL section 2.2)
abbrev pub gives_up_sessions : World → World
gives_up_sessions w = record w { channels = record w.channels { no_more_sessions = true } }

-- ---- messages of the connection protocol, by what they say

abbrev pub spoken_acts : World → Spoken → List Act
spoken_acts w spoken.Nothing = []
spoken_acts w (spoken.Failed channel reason) =
    failure_acts (has (λ e. e.confirmed) channel.0 w.channels.lines)
    (has (λ e. not e.confirmed) channel.0 w.channels.lines) channel reason
spoken_acts w (spoken.Grant channel amount) =
    on channel.0 w (λ e. grant_acts channel.0 amount (credit_left amount e))
spoken_acts w (spoken.Data channel piece) = data_acts
    (coming_of (length piece.bytes) (target_on channel.0 w)
    (find channel.0 w.channels.lines.entries))
    channel piece (target_on channel.0 w)
spoken_acts w (spoken.Tells channel message happening) =
    on channel.0 w (λ e. told channel message happening)
spoken_acts w (spoken.Close channel) = on channel.0 w (λ e.
    Turns (lined (peer_closes channel.0)) ∷ told channel msg.Close what.Close)
spoken_acts w (spoken.Requests channel wanted message happening) =
    told_request_acts (request_at channel wanted w) wanted message happening
spoken_acts w (spoken.RequestsAgent channel wanted) = agent_acts (request_at channel wanted w) wanted
spoken_acts w (spoken.RequestsUnknown channel wanted) = refusal_acts (request_at channel wanted w) wanted
-- the handler says whether connections are forwarded, which is the reply where one is still wanted
spoken_acts w (spoken.RequestsForward wanted address port) =
    Turns (wants_global wanted)
    ∷ Listens_by address port (λ granted bound.
    unless_ended (settles_global (global_reply granted (bound_to port bound)))) ∷ []
spoken_acts w (spoken.RequestsGlobally wanted judged) =
    Turns (wants_global wanted)
    ∷ Judges_by None judged
    (λ granted. unless_ended (settles_global (global_reply granted None))) ∷ []
spoken_acts w (spoken.RequestsGloballyUnknown wanted) =
    Turns (wants_global wanted) ∷ Turns (settles_global (global_reply false None)) ∷ []
spoken_acts w (spoken.GivesUpSessions wanted) =
    Turns gives_up_sessions ∷ Turns (wants_global wanted)
    ∷ Turns (settles_global (global_reply true None)) ∷ []
-- the oldest request of this side's has its reply
spoken_acts w (spoken.Settles told) = Turns settled_first ∷ notes told
spoken_acts w spoken.Inconsistent = Stops Inconsistent ∷ []

-- ---- the exchange of keys (RFC 4253 section 7)

-- what goes to the exchange, and what does not come in one, by the passage of the payload
abbrev pub exchange_acts : (payload : List ℕ) → Passage → List Act
exchange_acts payload passage.Begins = Exchanges Beginning ∷ Exchanges (Stepping payload) ∷ []
exchange_acts payload passage.Steps = Exchanges (Stepping payload) ∷ []
exchange_acts payload passage.Barred = Stops Inconsistent ∷ []
exchange_acts payload passage.Late = Stops Pending ∷ []
exchange_acts payload passage.Passes = []

-- ---- one line a row

abbrev pub owed : World → Said → List Act
owed w (Open message) = open_acts (next_number w.channels.lines) message
    (handling w.channels.no_more_sessions message.typ)
owed w (Agreed message) = confirmation_acts (has (λ e. not e.confirmed)
    message.recipient_channel w.channels.lines) message
owed w Unread = Stops Starved ∷ []
owed w (Connection said) = spoken_acts w said
owed w Disconnect = Is_over ∷ []
owed w Over_cap = Turns (writes (at_once too_many_attempts ∷ [])) ∷ Is_over ∷ []
owed w (Unfit why) = Stops (Encoding why) ∷ []
owed w Without_packets = Stops Inconsistent ∷ []
owed w _ = []

-- what a payload owes by what it says
abbrev pub row : World → (moment : ℕ) → Said → Plan Outcome
row w moment (Service name) = service_row w name
row w moment (Request asked) = request_row w moment asked
row w moment (Response responded) = response_row w moment responded
row w moment said = acts (owed w said) w
