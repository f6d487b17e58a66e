-- What was sent on the channels stays what has to be sent, by the acts of rows (RFC 4254 section
-- 5).
use Rattle.std.proofs.Common.{◌≡◌, ◌<◌, ◌^◌, ◌==◌, ℕ, List, [], ◌∷◌, Bool}
use Rattle.std.proofs.Common.{true, false, Option, Some, None}
use Rattle.std.proofs.Common.{refl, sym, ◌∙◌, ap, subst, arith}
use Rattle.std.specs.Prelude.{length, bytes_eq, codes, if◌then◌else◌, cond}
use Rattle.ssh_wire.specs.declared.channel_id.ChannelId.{ChannelId}
use Rattle.ssh_wire.specs.declared.open_failure.ChannelOpenFailure.{ChannelOpenFailure}
use Rattle.ssh_link.specs.declared.command.Command.{Command}
use Rattle.ssh_link.specs.declared.link.TraceEntry.{TraceEntry}
use Rattle.ssh_link.specs.declared.link.TraceEntry.TheVariants.{Answered}
use Rattle.ssh_auth.specs.declared.auth_request.AuthRequest.{AuthRequest}
use Rattle.ssh_auth.specs.declared.auth_step.AuthVerdict.TheVariants as verdict
use Rattle.ssh_auth.specs.declared.question.Question.TheVariants.{Banner}
use Rattle.ssh_auth.specs.Plan.{Plan, Finish, Ask, Tell, after}
use Rattle.ssh_auth.specs.Verdict.{AuthOutcome, Replies, verdict as verdict_on, response_verdict}
use Rattle.ssh_auth.specs.Verdict as auth
use Rattle.ssh_channels.specs.declared.adjusted.Adjusted.{Adjusted}
use Rattle.ssh_channels.specs.declared.adjusted.Adjusted.TheVariants.{Dropped, Kept as Within}
use Rattle.ssh_channels.specs.declared.adjusted.Adjusted.TheVariants.{Granted}
use Rattle.ssh_channels.specs.declared.chunk.Chunk.{Chunk}
use Rattle.ssh_channels.specs.Calls.{Peer_close, Grant, Adjust, Drop_pending}
use Rattle.ssh_channels.specs.Calls.{Set_target, Request as Wants_one, Stage, Draw, Confirm}
use Rattle.ssh_channels.specs.Calls.{Fail_open}
use Rattle.ssh_channels.specs.Does.{does, coming_of}
use Rattle.ssh_channels.specs.Entry.{IsDue, asked}
use Rattle.ssh_channels.specs.Lines.{Lines, find, next_number, drawn, drops_pending}
use Rattle.ssh_channels.specs.Lines.{confirms, aims}
use Rattle.ssh_channels.specs.Layout.{as_uint32}
use Rattle.ssh_channels.specs.Sent.{Each, Ledgered, may_go}
use Rattle.ssh_channels.proofs.Booked.{op_kept, next_absent}
use Rattle.ssh_channels.proofs.Dues.{all_sound, op_due}
use Rattle.ssh_rules.specs.declared.state.EncryptedState.{EncryptedState}
use Rattle.ssh_rules.specs.declared.state.EncryptedState.TheVariants.{WaitingAuthRequest}
use Rattle.ssh_rules.specs.Acts.{acts}
use Rattle.ssh_rules.specs.Effect.{effect}
use Rattle.ssh_rules.specs.OwnMessages.{keepalive}
use Rattle.ssh_rules.specs.Ticks.{keepalive_acts, ticked}
use Rattle.ssh_rules.specs.Layout.{too_many_attempts, at_once, held}
use Rattle.ssh_rules.specs.Types.{handling, opening_by, given_up, unsupported, unknown}
use Rattle.ssh_rules.specs.declared.handling.Handling.{Handling}
use Rattle.ssh_rules.specs.declared.handling.Handling.TheVariants.{Asks, GivenUp, Unsupported, Unknown}
use Rattle.ssh_wire.specs.declared.open.OpenChannelMessage.{OpenChannelMessage}
use Rattle.ssh_wire.specs.declared.open.ChannelOpenConfirmation.{ChannelOpenConfirmation}
use Rattle.ssh_rules.specs.Outcome.{Goes}
use Rattle.ssh_rules.specs.declared.messages.Spoken.{Spoken}
use Rattle.ssh_rules.specs.declared.messages.Spoken.TheVariants as spoken
use Rattle.ssh_rules.specs.Reading.{Said, Disconnect, Over_cap, Service, Request, Response, Open}
use Rattle.ssh_rules.specs.Reading.{Agreed, Unread}
use Rattle.ssh_rules.specs.Reading.{Unfit, Without_packets}
use Rattle.ssh_rules.specs.Reading as read
use Rattle.ssh_rules.specs.Rows.{spoken_acts, failure_acts, confirmation_acts}
use Rattle.ssh_rules.specs.Rows.{row, owed, greeting, greets, is_short, replied, concluded}
use Rattle.ssh_rules.specs.Rows.{where_waiting, rejection_hold, moment_after}
use Rattle.ssh_rules.specs.Rows.{data_told, open_acts, turns_first, aims_at, served, lets_in}
use Rattle.ssh_rules.specs.Rows.{finishes, gives_up_sessions}
use Rattle.ssh_rules.specs.Run.{command_row}
use Rattle.ssh_rules.specs.World.{World, waits_for, lined, is_there, is_waiting, target_on}
use Rattle.ssh_rules.specs.World.{wants_if, settles_one, wants_global, settled_first, in_exchange}
use Rattle.ssh_rules.specs.World.{request_at as request_of}
use Rattle.ssh_rules.proofs.Ledger.Absent.{IsAbsent}
use Rattle.ssh_rules.proofs.Ledger.Absent.{peer_close_absent, grant_absent, adjust_absent}
use Rattle.ssh_rules.proofs.Ledger.Absent.{aims_absent, request_absent, confirmed_absent, failed_absent}
use Rattle.ssh_rules.proofs.Plans.Acting.{PlanComes, AllBuilt, Law, ActsCome, IsRekeyed, acts_come}
use Rattle.ssh_rules.proofs.Plans.Acting.{one_comes, comes_then}
use Rattle.ssh_rules.proofs.Plans.Apart.{either, forward_comes, asked_comes, unknown_comes}
use Rattle.ssh_rules.proofs.Plans.Apart.{given_up_comes, settles_comes, tick_comes}
use Rattle.ssh_rules.proofs.Plans.Settled.{Anything}
use Rattle.ssh_rules.proofs.Plans.Beside.{on_come}
use Rattle.ssh_rules.proofs.Ledger.Pending.{IsReserved, grant_pends}
use Rattle.ssh_rules.proofs.Ledger.Pending.{peer_close_pends, adjust_pends, aims_pends, request_pends}
use Rattle.ssh_rules.proofs.Ledger.Pending.{confirmed_pends, failed_pends, drawn_pending, drawn_self}
use Rattle.ssh_rules.proofs.Ledger.Pending.{dropped_pending, next_apart}
use Rattle.ssh_rules.proofs.Ledger.Waiting.{still_waiting}
use Rattle.ssh_rules.proofs.Ledger.Waiting.{inserted_waiting}
use Rattle.ssh_rules.proofs.Ledger.Commands.{ArePlain, ComesKept, Kept, call_on, effect_on, op_on}
use Rattle.ssh_rules.proofs.Ledger.Commands.{plain_kept, refusal_frame, replied_on, beside_on, said_on}
use Rattle.ssh_rules.proofs.Ledger.Commands.{settles_on, keyed_on, renewed_on}
use Rattle.ssh_rules.proofs.Plans.Requested.{wants_kept, one_kept}

abbrev Any_command : Command → Type 0
Any_command command = Unit {0}

pub any_built : (commands : List Command) → AllBuilt Any_command commands
any_built [] = tt
any_built (command ∷ commands) = (tt, any_built commands)

abbrev pub law : List TraceEntry → Law
law past = record {
  such = Anything;
  comes = ComesKept past;
  holds = Kept past;
  built = Any_command;
  goes = λ w h. h;
  lends = λ lent commands s. any_built commands;
  judges = λ judged answer s. any_built answer.commands;
  listens = λ address port answer s. any_built answer.commands;
  keeps = λ at w command h b. effect_on at past w command h;
}

-- through an exchange of keys
pub exchanged_on : (past : List TraceEntry) (w : World) → Kept past w → IsRekeyed (Kept past) w
exchanged_on past w k =
    (λ keys later. keyed_on past w keys later k, λ keys. renewed_on past w keys k)

-- ---- rows

-- the room of a channel is filled up to this window from now on
four_bytes : (window : ℕ) → as_uint32 window < 2 ^ 32
four_bytes window = omega arith

pub aims_on : (past : List TraceEntry) (channel : ChannelId) (window : ℕ) (w : World)
    → Kept past w → Kept past (aims_at channel window w)
aims_on past channel window w k =
    let target = as_uint32 window in
    let aimed = call_on past (Set_target channel.0 target) w (four_bytes window) refl
    (λ n. aims_absent n channel.0 target w.channels.lines)
    (aims_pends channel.0 target w.channels.lines) k in
    either (Kept past) (window == 0) w (lined (aims channel.0 target) w) k aimed

told_on : (past : List TraceEntry) (adjusted : Adjusted) (channel : ChannelId) (piece : Chunk)
    (target : ℕ) (w : World) → Kept past w →
    ActsCome (law past) (data_told adjusted channel piece target) w
told_on past Dropped channel piece target w k = tt
told_on past Within channel piece target w k = λ world h. tt
told_on past (Granted amount) channel piece target w k = λ window. (
  aims_on past channel window w k,
  λ world h. tt,
)

-- an open that was read names a packet size, and a window of four bytes
abbrev pub IsFairOpen : OpenChannelMessage → Type 0
IsFairOpen message = (0 < message.recipient_maximum_packet_size)
    × (message.recipient_window_size < 2 ^ 32)

-- an open that is refused at once: its number is drawn, the refusal written, the number free again
away_on : (past : List TraceEntry) (number : Option ℕ) (payload : List ℕ) (w : World) →
    next_number w.channels.lines ≡ number
    → ((n : ℕ) → may_go None (refusal_frame n payload) ≡ true) → Kept past w
    → ActsCome (law past) (turns_first number payload) w
away_on past None payload w is go k = tt
away_on past (Some n) payload w is go k =
    let lines = w.channels.lines in
    let drew = drawn (Some n) lines in
    let is_drawn : does Draw lines ≡ drew = ap (λ o. drawn o lines) is in
    let ledger : Ledgered drew past = subst (λ l. Ledgered l past) is_drawn
    (op_kept Draw lines past tt k.ledger) in
    let due : in_exchange w ≡ false → Each IsDue drew = λ out. subst (Each IsDue) is_drawn
    (op_due Draw lines refl (all_sound lines past k.ledger) (k.due out)) in
    let left = drops_pending n drew in
    let v = lined (λ _. left) w in
    let kept : Kept past v = record {
      ledger = op_kept (Drop_pending n) drew past tt ledger;
      due = λ out. op_due (Drop_pending n) drew refl (all_sound drew past ledger) (due out);
      waiting = still_waiting 0 (IsReserved lines) (IsReserved left) w.channels.opens
          (λ m h. (
            h.0,
            dropped_pending m n drew.pending (next_apart m n lines is h.1)
                (drawn_pending m n lines h.1),
          )) k.waiting;
    } in (
      op_on past (Stage (refusal_frame n payload)) v (rw (next_absent n lines is) (go n)) refl
          (λ m h. h) kept,
      tt,
    )

open_on : (past : List TraceEntry) (number : Option ℕ) (message : OpenChannelMessage)
    (does : Handling) (w : World) →
    next_number w.channels.lines ≡ number → IsFairOpen message → Kept past w
    → ActsCome (law past) (open_acts number message does) w
open_on past None message (Asks type) w is fair k = tt
open_on past (Some number) message (Asks type) w is fair k = (
  record {
    ledger = k.ledger;
    due = k.due;
    waiting = inserted_waiting 0 number (IsReserved (drawn (Some number) w.channels.lines))
        (opening_by message) w.channels.opens (omega arith) (
          (next_absent number w.channels.lines is, drawn_self number w.channels.lines),
          fair.0,
          fair.1,
        ) (still_waiting 0 (IsReserved w.channels.lines)
        (IsReserved (drawn (Some number) w.channels.lines)) w.channels.opens
        (λ m h. (h.0, drawn_pending m number w.channels.lines h.1)) k.waiting);
  },
  λ world h. tt,
)
open_on past number message GivenUp w is fair k =
    away_on past number (given_up message.recipient_channel) w is (λ n. refl) k
open_on past number message Unsupported w is fair k =
    away_on past number (unsupported message.recipient_channel) w is (λ n. refl) k
open_on past number message Unknown w is fair k =
    away_on past number (unknown message.recipient_channel) w is (λ n. refl) k

-- a confirmation that was read names a packet size, and a window of four bytes
abbrev pub IsFairConfirmation : ChannelOpenConfirmation → Type 0
IsFairConfirmation message = ((message.maximum_packet_size == 0) ≡ false)
    × (message.initial_window_size < 2 ^ 32)

abbrev pub IsFairSaid : Said → Type 0
IsFairSaid (Open message) = IsFairOpen message
IsFairSaid (Agreed message) = IsFairConfirmation message
IsFairSaid _ = Unit {0}

failure_on : (past : List TraceEntry) (w : World) (there waiting : Bool) (channel : ChannelId)
    (why : ChannelOpenFailure) → Kept past w
    → ActsCome (law past) (failure_acts there waiting channel why) w
failure_on past w there true channel why k =
    let kept = call_on past (Fail_open channel.0) w tt refl
    (λ n. failed_absent n channel.0 w.channels.lines) (failed_pends channel.0 w.channels.lines) k in
    (kept, tt)
failure_on past w true false channel why k = tt
failure_on past w false false channel why k = tt

confirmation_on : (past : List TraceEntry) (w : World) (waiting : Bool)
    (message : ChannelOpenConfirmation) → IsFairConfirmation message → Kept past w
    → ActsCome (law past) (confirmation_acts waiting message) w
confirmation_on past w true message fair k =
    let turned : Lines → Lines = confirms message.recipient_channel message.sender_channel
    message.initial_window_size message.maximum_packet_size in
    let same : does (Confirm message) w.channels.lines ≡ turned w.channels.lines =
    ap (λ b. cond b w.channels.lines (turned w.channels.lines)) fair.0 in
    let kept = call_on past (Confirm message) w fair.1 refl
    (λ n h. subst (IsAbsent n) (sym same) (confirmed_absent n message.recipient_channel
    message.sender_channel message.initial_window_size message.maximum_packet_size
    w.channels.lines h)) (ap (λ (l : Lines). l.pending) same
    ∙ confirmed_pends message.recipient_channel message.sender_channel message.initial_window_size
    message.maximum_packet_size w.channels.lines) k in
    (subst (λ l. Kept past (lined (λ _. l) w)) same kept, λ world h. tt)
confirmation_on past w false message fair k = tt

wanted_on : (past : List TraceEntry) (channel : ℕ) (wanted : Bool) (w : World) → Kept past w
    → Kept past (lined (wants_if wanted channel) w)
wanted_on past channel wanted w k =
    wants_kept (λ l. Kept past (lined (λ _. l) w)) wanted channel w.channels.lines
    (call_on past (Wants_one channel) w tt refl
    (λ n. request_absent n channel w.channels.lines) (request_pends channel w.channels.lines)) k

replied_by : (past : List TraceEntry) (place : Option ℕ) (channel : ℕ) (granted : Bool) (w : World)
    → Kept past w → Kept past (lined (settles_one place channel granted) w)
replied_by past place channel granted w k =
    one_kept (λ l. Kept past (lined (λ _. l) w)) channel granted w.channels.lines
    (replied_on past channel granted w) place k

wanting_on : (past : List TraceEntry) (wanted : Bool) (w : World) → Kept past w
    → Kept past (wants_global wanted w)
wanting_on past wanted w k = beside_on past w (wants_global wanted w) refl (λ out. out) k

first_on : (past : List TraceEntry) (w : World) → Kept past w → Kept past (settled_first w)
first_on past w k = beside_on past w (settled_first w) refl (λ out. out) k

given_up_on : (past : List TraceEntry) (w : World) → Kept past w → Kept past (gives_up_sessions w)
given_up_on past w k = record { ledger = k.ledger; due = k.due; waiting = k.waiting }

spoken_on : (past : List TraceEntry) (w : World) (said : Spoken) → Kept past w
    → ActsCome (law past) (spoken_acts w said) w
spoken_on past w spoken.Nothing k = tt
spoken_on past w (spoken.Grant channel amount) k =
    on_come (law past) w (find channel.0 w.channels.lines.entries) _
    (λ e. (
      call_on past (Grant channel.0 amount) w tt refl (λ n. grant_absent n channel.0 amount
          w.channels.lines) (grant_pends channel.0 amount w.channels.lines) k,
      λ world h. tt,
    ))
spoken_on past w (spoken.Data channel piece) k =
    let count = length piece.bytes in
    let target = target_on channel.0 w in
    let came = coming_of count target (find channel.0 w.channels.lines.entries) in
    let v = lined (does (Adjust channel.0 count target)) w in
    let kept = call_on past (Adjust channel.0 count target) w tt refl
    (λ n. adjust_absent n channel.0 count target w.channels.lines)
    (adjust_pends channel.0 count target w.channels.lines) k in
    (kept, told_on past came channel piece target v kept)
spoken_on past w (spoken.Tells channel message happening) k =
    on_come (law past) w (find channel.0 w.channels.lines.entries) _ (λ e. λ world h. tt)
spoken_on past w (spoken.Close channel) k =
    on_come (law past) w (find channel.0 w.channels.lines.entries) _
    (λ e. (
      call_on past (Peer_close channel.0) w tt refl
          (λ n. peer_close_absent n channel.0 w.channels.lines)
          (peer_close_pends channel.0 w.channels.lines) k,
      λ world h. tt,
    ))
spoken_on past w (spoken.Failed channel reason) k =
    failure_on past w (is_there w channel.0) (is_waiting w channel.0) channel reason k
spoken_on past w (spoken.Requests channel wanted message happening) k =
    (wanted_on past channel.0 wanted w k, λ world h. tt)
spoken_on past w (spoken.RequestsAgent channel wanted) k =
    let place = (request_of channel wanted w).place in (
      wanted_on past channel.0 wanted w k,
      λ granted world h. (
        either (Kept past) world.disconnected world
            (lined (settles_one place channel.0 granted) world) h
            (replied_by past place channel.0 granted world h),
        tt,
      ),
    )
spoken_on past w (spoken.RequestsUnknown channel wanted) k =
    let kept = wanted_on past channel.0 wanted w k in
    let place = (request_of channel wanted w).place in
    (kept, (replied_by past place channel.0 false (lined (wants_if wanted channel.0) w) kept, tt))
spoken_on past w (spoken.RequestsForward wanted address port) k =
    forward_comes (law past) (wanting_on past) (settles_on past) (first_on past) w wanted address
    port k
spoken_on past w (spoken.RequestsGlobally wanted judged) k =
    asked_comes (law past) (wanting_on past) (settles_on past) (first_on past) w wanted judged k
spoken_on past w (spoken.RequestsGloballyUnknown wanted) k =
    unknown_comes (law past) (wanting_on past) (settles_on past) (first_on past) w wanted k
spoken_on past w (spoken.GivesUpSessions wanted) k =
    given_up_comes (law past) (wanting_on past) (settles_on past) (first_on past) w wanted
    (given_up_on past w k)
spoken_on past w (spoken.Settles told) k =
    settles_comes (law past) (wanting_on past) (settles_on past) (first_on past) w told k
spoken_on past w spoken.Inconsistent k = tt

pub owed_on : (past : List TraceEntry) (w : World) (said : Said) → IsFairSaid said → Kept past w
    → ActsCome (law past) (owed w said) w
owed_on past w (Open message) fair k =
    open_on past (next_number w.channels.lines) message
    (handling w.channels.no_more_sessions message.typ) w refl fair k
owed_on past w (Agreed message) fair k =
    confirmation_on past w (is_waiting w message.recipient_channel) message fair k
owed_on past w Unread fair k = tt
owed_on past w (read.Connection said) fair k = spoken_on past w said k
owed_on past w Disconnect fair k = k
owed_on past w Over_cap fair k =
    let kept = plain_kept past (at_once too_many_attempts ∷ []) w (refl, tt) k in (kept, kept)
owed_on past w (Unfit why) fair k = tt
owed_on past w Without_packets fair k = tt
owed_on past w _ fair k = tt

concluded_on : (past : List TraceEntry) (w : World) (moment : ℕ) (requested : Bool)
    (outcome : AuthOutcome) → Kept past w →
    PlanComes Anything (ComesKept past) (concluded w moment requested outcome)
concluded_on past w moment requested (Replies reply verdict.Accepted state) k =
    let v = waits_for (WaitingAuthRequest state) w in
    acts_come (law past) (replied w moment requested reply verdict.Accepted) v
    (beside_on past w v refl (λ out. out) k) (
      plain_kept past (at_once reply ∷ []) (lets_in (finishes requested v)) (refl, tt)
          (beside_on past w (lets_in (finishes requested v)) refl (λ out. out) k),
      λ world h. tt,
    )
concluded_on past w moment requested (Replies reply (verdict.Rejected none_method) state) k =
    let v = finishes requested (waits_for (WaitingAuthRequest state) w) in
    plain_kept past (held reply (moment_after moment (rejection_hold w.settings.config none_method
    w.user.requested)) ∷ []) v (refl, tt)
    (beside_on past w v refl (λ out. out) k)
concluded_on past w moment requested (Replies reply verdict.Continued state) k =
    let v = finishes requested (waits_for (WaitingAuthRequest state) w) in
    plain_kept past (at_once reply ∷ []) v (refl, tt) (beside_on past w v refl (λ out. out) k)
concluded_on past w moment requested (auth.Fails fault) k = tt

asked_on : (past : List TraceEntry) (state : EncryptedState) (next : AuthRequest → Plan AuthOutcome)
    (w : World) (moment : ℕ)
    (requested : Bool) → Kept past w →
    PlanComes Anything (ComesKept past)
    (where_waiting state (λ auth. after (next auth) (concluded w moment requested)) (acts [] w))
asked_on past (WaitingAuthRequest auth) next w moment requested k =
    comes_then Anything (ComesKept past) (next auth) (concluded w moment requested)
    (λ outcome. concluded_on past w moment requested outcome k)
asked_on past _ next w moment requested k = k

greeting_plain : (message : Option (List ℕ)) → ArePlain (greeting message)
greeting_plain None = (refl, tt)
greeting_plain (Some message) = (refl, (refl, tt))

greets_on : (past : List TraceEntry) (w : World) (message : Option (List ℕ)) (short : Bool)
    → is_short message ≡ short → Kept past w →
    PlanComes Anything (ComesKept past) (acts (greets message) w)
greets_on past w message true is k =
    rw is (plain_kept past (greeting message) (served w) (greeting_plain message)
    (beside_on past w (served w) refl (λ out. out) k))
greets_on past w message false is k = rw is tt

service_on : (past : List TraceEntry) (w : World) (b : Bool) → Kept past w →
    PlanComes Anything (ComesKept past) (if b then Ask Banner (λ message. acts (greets message) w)
    else acts [] w)
service_on past w true k = λ message s. greets_on past w message (is_short message) refl k
service_on past w false k = k

pub row_kept : (past : List TraceEntry) (w : World) (moment : ℕ) (said : Said) → IsFairSaid said
    → Kept past w →
    PlanComes Anything (ComesKept past) (row w moment said)
row_kept past w moment (Service name) fair k = service_on past w
    (bytes_eq name (codes "ssh-userauth")) k
row_kept past w moment (Request asked) fair k = asked_on past w.user.state
    (λ auth. verdict_on auth asked) w moment true k
row_kept past w moment (Response responded) fair k =
    asked_on past w.user.state (λ auth. response_verdict auth responded) w moment w.user.requested k
row_kept past w moment said fair k = acts_come (law past) (owed w said) w k
    (owed_on past w said fair k)

pub command_kept : (past : List TraceEntry) (w : World) (ticket : ℕ) (commanded : Command)
    → Kept past w →
    PlanComes Anything (ComesKept past) (command_row w ticket commanded)
command_kept past w ticket commanded k =
    one_comes (law past) (effect w commanded) (λ outcome world. Tell (Answered ticket outcome)
    (Finish (Goes world)))
    (effect_on None past w commanded k) (λ outcome world h. h)

pub tick_kept : (past : List TraceEntry) (w : World) → Kept past w
    → PlanComes Anything (ComesKept past) (acts (keepalive_acts w) w)
tick_kept past w k =
    acts_come (law past) (keepalive_acts w) w k
    (tick_comes (law past) w tt
    (said_on past keepalive (ticked w) (beside_on past w (ticked w) refl (λ out. out) k)))
