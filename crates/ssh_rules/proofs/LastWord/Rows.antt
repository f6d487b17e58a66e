-- Of the frames that were written none but the last is a DISCONNECT, and that one only where the
-- connection is over (RFC 4253 section 11.1).
use Rattle.std.proofs.Common.{◌≡◌, ◌==◌, ◌||◌, ℕ, List, [], ◌∷◌, ◌++◌, map, Option, Some, None}
use Rattle.std.proofs.Common.{Bool, true, false, cond, refl, sym, subst}
use Rattle.std.specs.Prelude.{length, bytes_eq, codes, if◌then◌else◌}
use Rattle.ssh_link.specs.Frames.{Frame}
use Rattle.ssh_link.specs.declared.command.Command.{Command}
use Rattle.ssh_link.specs.declared.command.Command.TheVariants as command
use Rattle.ssh_link.specs.declared.frame.InputKind.{InputKind}
use Rattle.ssh_link.specs.declared.frame.InputKind.TheVariants as input
use Rattle.ssh_link.specs.declared.link.TraceEntry.TheVariants.{Sent, Answered}
use Rattle.ssh_auth.specs.declared.auth_step.AuthVerdict.TheVariants as verdict
use Rattle.ssh_auth.specs.declared.auth_request.AuthRequest.{AuthRequest}
use Rattle.ssh_auth.specs.declared.question.Question.TheVariants.{Banner}
use Rattle.ssh_auth.specs.Plan.{Plan, Finish, Ask, Tell, after}
use Rattle.ssh_auth.specs.Publickey.{Acceptance}
use Rattle.ssh_auth.specs.Verdict.{AuthOutcome, Replies, verdict as verdict_on, response_verdict}
use Rattle.ssh_auth.specs.Verdict as auth
use Rattle.ssh_channels.specs.Does.{coming_of}
use Rattle.ssh_channels.specs.Lines.{find, next_number, takes_in, takes_grant, peer_closes}
use Rattle.ssh_channels.specs.Lines.{confirms, fails, all_go_on, aims}
use Rattle.ssh_channels.specs.declared.adjusted.Adjusted.{Adjusted}
use Rattle.ssh_channels.specs.declared.adjusted.Adjusted.TheVariants.{Dropped, Kept, Granted}
use Rattle.ssh_channels.specs.declared.chunk.Chunk.{Chunk}
use Rattle.ssh_wire.specs.declared.channel_id.ChannelId.{ChannelId}
use Rattle.ssh_wire.specs.declared.open.OpenChannelMessage.{OpenChannelMessage}
use Rattle.ssh_wire.specs.declared.open.ChannelOpenConfirmation.{ChannelOpenConfirmation}
use Rattle.ssh_wire.specs.declared.open_failure.ChannelOpenFailure.{ChannelOpenFailure}
use Rattle.ssh_rules.specs.declared.exchange.Passage.{Passage}
use Rattle.ssh_rules.specs.declared.exchange.Passage.TheVariants.{Begins, Steps, Barred, Late}
use Rattle.ssh_rules.specs.declared.exchange.Passage.TheVariants.{Passes}
use Rattle.ssh_rules.specs.declared.messages.Spoken.{Spoken}
use Rattle.ssh_rules.specs.declared.messages.Spoken.TheVariants as spoken
use Rattle.ssh_rules.specs.declared.handling.Handling.{Handling}
use Rattle.ssh_rules.specs.declared.handling.Handling.TheVariants.{Asks, Unsupported, Unknown, GivenUp}
use Rattle.ssh_rules.specs.declared.state.EncryptedState.{EncryptedState}
use Rattle.ssh_rules.specs.declared.state.EncryptedState.TheVariants.{WaitingAuthRequest}
use Rattle.ssh_rules.specs.Acts.{Beginning, Stepping, Exchanges, acts, frames_given}
use Rattle.ssh_rules.specs.Acts.{moved, payloads_given}
use Rattle.ssh_rules.specs.Effect.{Effect, Brings, effect, refused_for, refused_or, done_by, said}
use Rattle.ssh_rules.specs.Effect.{effect_at}
use Rattle.ssh_rules.specs.Layout.{at_once, held, too_many_attempts}
use Rattle.ssh_rules.specs.Opens.{failure_frame}
use Rattle.ssh_rules.specs.Outcome.{Outcome, Goes, Ends, Fails}
use Rattle.ssh_rules.specs.OwnMessages.{disconnect_message, keepalive}
use Rattle.ssh_rules.specs.Parting.{is_disconnect}
use Rattle.ssh_rules.specs.Reading.{Said, Service, Request, Response, Open, Agreed, Connection}
use Rattle.ssh_rules.specs.Reading.{Disconnect, Over_cap, Unread, Unfit, Without_packets}
use Rattle.ssh_rules.specs.Rows.{spoken_acts, failure_acts, confirmation_acts, exchange_acts}
use Rattle.ssh_rules.specs.Rows.{row, owed, greeting, greets, is_short, served, replied}
use Rattle.ssh_rules.specs.Rows.{concluded, where_waiting, data_told, open_acts}
use Rattle.ssh_rules.specs.Rows.{global_reply, bound_to, rejection_hold, moment_after}
use Rattle.ssh_rules.specs.Rows.{waits, turns_away, lets_in, finishes, aims_at, gives_up_sessions}
use Rattle.ssh_rules.specs.Run.{OwesKind, command_row}
use Rattle.ssh_rules.specs.Ticks.{keepalive_acts, ticked}
use Rattle.ssh_rules.specs.Types.{handling, opening_by, unsupported, unknown, given_up}
use Rattle.ssh_rules.specs.World.{World, hears, is_there, is_waiting, keyed, lined}
use Rattle.ssh_rules.specs.World.{settled_first, settles_global, wants_global, waits_for, writes}
use Rattle.ssh_rules.specs.World.{target_on, ChannelRequest, request_at, wants_if, settles_one}
use Rattle.ssh_rules.proofs.Plans.Acting.{PlanComes, EffectComes, Law, ActsCome, acts_come, one_comes}
use Rattle.ssh_rules.proofs.Plans.Apart.{notes_come, refused_comes, sent_comes, tick_comes, either}
use Rattle.ssh_rules.proofs.Plans.Beside.{on_come, settles_beside, IsOther as EndsNone}
use Rattle.ssh_rules.proofs.Plans.Emptied.{told_comes}
use Rattle.ssh_rules.proofs.Ended.Run.{IsLive, effect_live, said_live, same_live}
use Rattle.ssh_rules.proofs.Plans.Passing.{moved_so, payload_so}
use Rattle.ssh_rules.proofs.Plans.Verdicts.{EndsSo, IsBeside, so_then, verdict_beside}
use Rattle.ssh_rules.proofs.Plans.Verdicts.{response_beside}
use Rattle.ssh_rules.proofs.Plans.Settled.{Anything, Any_command, any_built}
use Rattle.ssh_rules.proofs.LastWord.Commands.{NoneDisconnect, both_none, IsSilent}
use Rattle.ssh_rules.proofs.LastWord.Commands.{effect_silent, said_silent, settles_silent}
use Rattle.ssh_rules.proofs.LastWord.Commands.{all_quiet, adjust_quiet, grant_quiet, reply_quiet}
use Rattle.ssh_rules.proofs.LastWord.Commands.{peer_close_quiet, failed_quiet, confirmed_quiet}
use Rattle.ssh_rules.proofs.LastWord.Commands.{written_silent, aims_quiet, wanted_quiet, IsQuiet}
use Rattle.ssh_channels.specs.Layout.{as_uint32}
use Rattle.ssh_rules.proofs.Plans.Requested.{one_kept}

-- ---- frames

-- none of these but the last is a DISCONNECT
abbrev pub IsLastOnly : List Frame → Type 0
IsLastOnly [] = Unit {0}
IsLastOnly (frame ∷ []) = Unit {0}
IsLastOnly (frame ∷ next ∷ frames) = (is_disconnect frame ≡ false) × IsLastOnly (next ∷ frames)

none_last : (frames : List Frame) → NoneDisconnect frames → IsLastOnly frames
none_last [] h = tt
none_last (frame ∷ []) h = tt
none_last (frame ∷ next ∷ frames) h = (h.0, none_last (next ∷ frames) h.1)

one_last : (frames : List Frame) (last : Frame) → NoneDisconnect frames
    → IsLastOnly (frames ++ last ∷ [])
one_last [] last h = tt
one_last (frame ∷ []) last h = (h.0, tt)
one_last (frame ∷ next ∷ frames) last h = (h.0, one_last (next ∷ frames) last h.1)

-- where the connection was ended, none but the last, and where it was not, none
abbrev pub AreClosing : (ended : Bool) → List Frame → Type 0
AreClosing true frames = IsLastOnly frames
AreClosing false frames = NoneDisconnect frames

pub closing_last : (ended : Bool) (frames : List Frame) → AreClosing ended frames
    → IsLastOnly frames
closing_last true frames h = h
closing_last false frames h = none_last frames h

-- ---- worlds

abbrev pub IsClosing : World → Type 0
IsClosing w = AreClosing w.disconnected w.channels.lines.written

abbrev pub ComesClosing : Outcome → Type 0
ComesClosing (Goes w) = IsClosing w
ComesClosing (Ends w) = IsLastOnly w.channels.lines.written
ComesClosing (Fails why) = Unit {0}

-- the connection was not ended, and no DISCONNECT was written
abbrev pub IsOpen : World → Type 0
IsOpen w = IsLive w × IsSilent w

open_closing : (w : World) → IsLive w → IsSilent w → IsClosing w
open_closing w live silent = subst (λ b. AreClosing b w.channels.lines.written) (sym live) silent

pub closing_silent : (w : World) → IsLive w → IsClosing w → IsSilent w
closing_silent w live h = subst (λ b. AreClosing b w.channels.lines.written) live h

-- what turns the world only where it was not ended
unless_step : (b : Bool) (w v : World) → w.disconnected ≡ b → (IsOpen w → IsClosing v)
    → IsClosing w → IsClosing (cond b w v)
unless_step true w v is f h = h
unless_step false w v is f h = f (is, closing_silent w is h)

unless_closing : (w v : World) → (IsOpen w → IsClosing v) → IsClosing w
    → IsClosing (cond w.disconnected w v)
unless_closing w v f h = unless_step w.disconnected w v refl f h

-- ---- commands

both_closing : (does : Effect) → EffectComes IsLive does → EffectComes IsSilent does
    → EffectComes IsClosing does
both_closing (Brings notices outcome world) live silent = open_closing world live silent

-- once the connection was ended, each is refused
refused_closing : (ended : Bool) (w : World) (one : Command) (does : Effect) → ended ≡ true
    → IsClosing w → EffectComes IsClosing (refused_or (refused_for ended w one) w does)
refused_closing true w one does is h = h
refused_closing false w one does is h = absurd (cc)

-- the one that asks for it writes it behind the others
live_closing : (at : Option ChannelRequest) (w : World) (one : Command) → IsLive w → IsSilent w
    → IsClosing w → EffectComes IsClosing (effect_at at w one)
live_closing at w (command.Disconnect reason description language) live silent h =
    let one = command.Disconnect reason description language in
    let message = disconnect_message reason description language in
    let last = at_once message.payload in
    let frames = w.channels.lines.written in
    refused_comes IsClosing (refused_for w.disconnected w one) w (done_by at w one) h
    (sent_comes IsClosing message w h
    (subst (λ b. AreClosing (b || true) (frames ++ last ∷ [])) (sym live)
    (one_last frames last silent)))
live_closing at w one live silent h =
    both_closing (effect_at at w one) (effect_live at w one refl live)
    (effect_silent at w one tt silent)

effect_step : (at : Option ChannelRequest) (ended : Bool) (w : World) (one : Command)
    → w.disconnected ≡ ended → IsClosing w → EffectComes IsClosing (effect_at at w one)
effect_step at true w one is h = refused_closing w.disconnected w one (done_by at w one) is h
effect_step at false w one is h = live_closing at w one is (closing_silent w is h) h

abbrev law : Law
law = record {
  such = Anything;
  comes = ComesClosing;
  holds = IsClosing;
  built = Any_command;
  goes = λ w h. h;
  lends = λ lent commands s. any_built commands;
  judges = λ judged answer s. any_built answer.commands;
  listens = λ address port answer s. any_built answer.commands;
  keeps = λ at w one h b. effect_step at w.disconnected w one refl h;
}

-- ---- rows

aims_open : (channel : ChannelId) (window : ℕ) (w : World) → IsOpen w
    → IsOpen (aims_at channel window w)
aims_open channel window w o =
    either IsOpen (window == 0) w (lined (aims channel.0 (as_uint32 window)) w) o
    (o.0, aims_quiet channel.0 (as_uint32 window) w.channels.lines o.1)

told_closing : (adjusted : Adjusted) (channel : ChannelId) (piece : Chunk) (target : ℕ)
    (w : World) → IsOpen w → ActsCome law (data_told adjusted channel piece target) w
told_closing Dropped channel piece target w o = tt
told_closing Kept channel piece target w o = λ world k. tt
told_closing (Granted amount) channel piece target w o =
    λ window.
    let v = aims_at channel window w in
    let k = aims_open channel window w o in
    (open_closing v k.0 k.1, λ world k. tt)

away_closing : (number : ℕ) (payload : List ℕ) (w : World)
    → is_disconnect (failure_frame number payload) ≡ false → IsOpen w
    → IsClosing (turns_away number payload w)
away_closing number payload w other o =
    open_closing (turns_away number payload w) o.0
    (both_none w.channels.lines.written (failure_frame number payload ∷ []) o.1 (other, tt))

open_acts_closing : (number : Option ℕ) (message : OpenChannelMessage) (does : Handling)
    (w : World) → IsOpen w → ActsCome law (open_acts number message does) w
open_acts_closing None message (Asks type) w o = tt
open_acts_closing None message GivenUp w o = tt
open_acts_closing None message Unsupported w o = tt
open_acts_closing None message Unknown w o = tt
open_acts_closing (Some number) message (Asks type) w o =
    (open_closing (waits number (opening_by message) w) o.0 o.1, λ world k. tt)
open_acts_closing (Some number) message GivenUp w o =
    (away_closing number (given_up message.recipient_channel) w refl o, tt)
open_acts_closing (Some number) message Unsupported w o =
    (away_closing number (unsupported message.recipient_channel) w refl o, tt)
open_acts_closing (Some number) message Unknown w o =
    (away_closing number (unknown message.recipient_channel) w refl o, tt)

failure_closing : (w : World) (there waiting : Bool) (channel : ChannelId)
    (why : ChannelOpenFailure) → IsOpen w
    → ActsCome law (failure_acts there waiting channel why) w
failure_closing w there true channel why o =
    (open_closing (lined (fails channel.0) w) o.0 (failed_quiet channel.0 w.channels.lines o.1), tt)
failure_closing w true false channel why o = tt
failure_closing w false false channel why o = tt

confirmation_closing : (w : World) (waiting : Bool) (message : ChannelOpenConfirmation)
    → IsOpen w → ActsCome law (confirmation_acts waiting message) w
confirmation_closing w true message o = (
  open_closing (lined (confirms message.recipient_channel message.sender_channel
      message.initial_window_size message.maximum_packet_size) w) o.0
      (confirmed_quiet message.recipient_channel message.sender_channel
      message.initial_window_size message.maximum_packet_size w.channels.lines o.1),
  λ world k. tt,
)
confirmation_closing w false message o = tt

-- replies to requests
wants_closing : (channel : ChannelId) (wanted : Bool) (w : World) → IsOpen w
    → IsClosing (lined (wants_if wanted channel.0) w)
wants_closing channel wanted w o =
    open_closing (lined (wants_if wanted channel.0) w) o.0
    (wanted_quiet channel.0 wanted w.channels.lines o.1)

settled_closing : (place : Option ℕ) (channel : ChannelId) (granted : Bool) (w : World) → IsOpen w
    → IsClosing (lined (settles_one place channel.0 granted) w)
settled_closing place channel granted w o =
    open_closing (lined (settles_one place channel.0 granted) w) o.0
    (one_kept IsQuiet channel.0 granted w.channels.lines
    (λ other. reply_quiet channel.0 other granted w.channels.lines) place o.1)

global_other : (granted : Bool) (port : Option ℕ)
    → is_disconnect (at_once (global_reply granted port)) ≡ false
global_other true None = refl
global_other true (Some port) = refl
global_other false port = refl

settles_closing : (granted : Bool) (port : Option ℕ) (w : World) → IsOpen w
    → IsClosing (settles_global (global_reply granted port) w)
settles_closing granted port w o =
    let payload = global_reply granted port in
    open_closing (settles_global payload w) (settles_beside IsLive same_live payload w o.0)
    (settles_silent payload w (global_other granted port) o.1)

spoken_closing : (w : World) (said : Spoken) → IsOpen w → ActsCome law (spoken_acts w said) w
spoken_closing w spoken.Nothing o = tt
spoken_closing w (spoken.Grant channel amount) o =
    on_come law w (find channel.0 w.channels.lines.entries) _
    (λ e. (
      open_closing (lined (takes_grant channel.0 amount) w) o.0
          (grant_quiet channel.0 amount w.channels.lines o.1),
      λ world k. tt,
    ))
spoken_closing w (spoken.Data channel piece) o =
    let count = length piece.bytes in
    let came = coming_of count (target_on channel.0 w) (find channel.0 w.channels.lines.entries) in
    let v = lined (takes_in channel.0 count (target_on channel.0 w)) w in
    let silent = adjust_quiet channel.0 count (target_on channel.0 w) w.channels.lines o.1 in (
      open_closing v o.0 silent,
      told_closing came channel piece (target_on channel.0 w) v (o.0, silent),
    )
spoken_closing w (spoken.Tells channel message happening) o =
    on_come law w (find channel.0 w.channels.lines.entries) _ (λ e. λ world k. tt)
spoken_closing w (spoken.Close channel) o =
    on_come law w (find channel.0 w.channels.lines.entries) _
    (λ e. (
      open_closing (lined (peer_closes channel.0) w) o.0
          (peer_close_quiet channel.0 w.channels.lines o.1),
      λ world k. tt,
    ))
spoken_closing w (spoken.Failed channel reason) o =
    failure_closing w (is_there w channel.0) (is_waiting w channel.0) channel reason o
spoken_closing w (spoken.Requests channel wanted message happening) o =
    (wants_closing channel wanted w o, λ world k. tt)
spoken_closing w (spoken.RequestsAgent channel wanted) o =
    let place = (request_at channel wanted w).place in (
      wants_closing channel wanted w o,
      λ granted world k. (
        unless_closing world (lined (settles_one place channel.0 granted) world)
            (settled_closing place channel granted world) k,
        tt,
      ),
    )
spoken_closing w (spoken.RequestsUnknown channel wanted) o =
    let v = lined (wants_if wanted channel.0) w in
    let silent = wanted_quiet channel.0 wanted w.channels.lines o.1 in (
      wants_closing channel wanted w o,
      (settled_closing (request_at channel wanted w).place channel false v (o.0, silent), tt),
    )
spoken_closing w (spoken.RequestsForward wanted address port) o = (
  open_closing (wants_global wanted w) o.0 o.1,
  λ granted bound world k.
      let answer = bound_to port bound in (
        unless_closing world (settles_global (global_reply granted answer) world)
            (settles_closing granted answer world) k,
        tt,
      ),
)
spoken_closing w (spoken.RequestsGlobally wanted judged) o = (
  open_closing (wants_global wanted w) o.0 o.1,
  λ granted world k. (
    unless_closing world (settles_global (global_reply granted None) world)
        (settles_closing granted None world) k,
    tt,
  ),
)
spoken_closing w (spoken.RequestsGloballyUnknown wanted) o = (
  open_closing (wants_global wanted w) o.0 o.1,
  (settles_closing false None (wants_global wanted w) (o.0, o.1), tt),
)
spoken_closing w (spoken.GivesUpSessions wanted) o =
    let v = gives_up_sessions w in (
      open_closing v o.0 o.1,
      (
        open_closing (wants_global wanted v) o.0 o.1,
        (settles_closing true None (wants_global wanted v) (o.0, o.1), tt),
      ),
    )
spoken_closing w (spoken.Settles told) o =
    (open_closing (settled_first w) o.0 o.1, notes_come law told (settled_first w))
spoken_closing w spoken.Inconsistent o = tt

owed_closing : (w : World) (said : Said) → EndsNone said → IsOpen w → ActsCome law (owed w said) w
owed_closing w (Open message) is o =
    open_acts_closing (next_number w.channels.lines) message
    (handling w.channels.no_more_sessions message.typ) w o
owed_closing w (Agreed message) is o =
    confirmation_closing w (is_waiting w message.recipient_channel) message o
owed_closing w Unread is o = tt
owed_closing w (Connection said) is o = spoken_closing w said o
owed_closing w Disconnect is o = absurd is
owed_closing w Over_cap is o = absurd is
owed_closing w (Unfit why) is o = tt
owed_closing w Without_packets is o = tt
owed_closing w _ is o = tt

-- authentication
concluded_closing : (w : World) (moment : ℕ) (requested : Bool) (outcome : AuthOutcome)
    → IsBeside outcome → IsOpen w
    → PlanComes Anything ComesClosing (concluded w moment requested outcome)
concluded_closing w moment requested (Replies reply verdict.Accepted state) beside o =
    let v = waits_for (WaitingAuthRequest state) w in
    acts_come law (replied w moment requested reply verdict.Accepted) v
    (open_closing v o.0 o.1) (
      open_closing (writes (at_once reply ∷ []) (lets_in (finishes requested v))) o.0
          (written_silent (at_once reply) (lets_in (finishes requested v)) beside.1 o.1),
      λ world k. tt,
    )
concluded_closing w moment requested (Replies reply (verdict.Rejected none_method) state) beside o =
    let v = finishes requested (waits_for (WaitingAuthRequest state) w) in
    let frame = held reply (moment_after moment (rejection_hold w.settings.config none_method
    w.user.requested)) in
    open_closing (writes (frame ∷ []) v) o.0 (written_silent frame v beside.1 o.1)
concluded_closing w moment requested (Replies reply verdict.Continued state) beside o =
    let v = finishes requested (waits_for (WaitingAuthRequest state) w) in
    open_closing (writes (at_once reply ∷ []) v) o.0
    (written_silent (at_once reply) v beside.1 o.1)
concluded_closing w moment requested (auth.Fails why) beside o = tt

asked_closing : (state : EncryptedState) (next : AuthRequest → Plan AuthOutcome) (w : World)
    (moment : ℕ) (requested : Bool) → ((auth : AuthRequest) → EndsSo IsBeside (next auth))
    → IsOpen w → PlanComes Anything ComesClosing
    (where_waiting state (λ auth. after (next auth) (concluded w moment requested)) (acts [] w))
asked_closing (WaitingAuthRequest auth) next w moment requested ends o =
    so_then IsBeside Anything ComesClosing (next auth) (concluded w moment requested) (ends auth)
    (λ outcome beside. concluded_closing w moment requested outcome beside o)
asked_closing _ next w moment requested ends o = open_closing w o.0 o.1

greeting_none : (message : Option (List ℕ)) → NoneDisconnect (greeting message)
greeting_none None = (refl, tt)
greeting_none (Some message) = (refl, (refl, tt))

greets_closing : (w : World) (message : Option (List ℕ)) (short : Bool)
    → is_short message ≡ short → IsOpen w
    → PlanComes Anything ComesClosing (acts (greets message) w)
greets_closing w message true is o =
    rw is (open_closing (writes (greeting message) (served w)) o.0
    (both_none w.channels.lines.written (greeting message) o.1 (greeting_none message)))
greets_closing w message false is o = rw is tt

service_closing : (w : World) (b : Bool) → IsOpen w → PlanComes Anything ComesClosing
    (if b then Ask Banner (λ message. acts (greets message) w) else acts [] w)
service_closing w true o = λ message s. greets_closing w message (is_short message) refl o
service_closing w false o = open_closing w o.0 o.1

row_closing : (w : World) (moment : ℕ) (said : Said) → IsOpen w
    → PlanComes Anything ComesClosing (row w moment said)
row_closing w moment (Service name) o =
    service_closing w (bytes_eq name (codes "ssh-userauth")) o
row_closing w moment (Request asked) o =
    asked_closing w.user.state (λ auth. verdict_on auth asked) w moment true
    (verdict_beside asked) o
row_closing w moment (Response responded) o =
    asked_closing w.user.state (λ auth. response_verdict auth responded) w moment
    w.user.requested (response_beside responded) o
row_closing w moment Disconnect o = none_last w.channels.lines.written o.1
-- DISCONNECT is written, and the run is over
row_closing w moment Over_cap o =
    one_last w.channels.lines.written (at_once too_many_attempts) o.1
row_closing w moment said o =
    acts_come law (owed w said) w (open_closing w o.0 o.1) (owed_closing w said tt o)

-- ---- exchanges of keys

step_closing : (payload : List ℕ) (w : World) → IsOpen w
    → PlanComes Anything ComesClosing (acts (Exchanges (Stepping payload) ∷ []) w)
step_closing payload w o = λ step s.
    told_comes ComesClosing (map Sent (frames_given (payloads_given (Stepping payload) step)))
    (Finish (Goes (moved (Stepping payload) step w)))
    (moved_so IsClosing (Stepping payload) step w
    (λ keys. open_closing (keyed keys w) o.0 o.1)
    (λ keys. open_closing (keyed keys (lined all_go_on w)) o.0
    (all_quiet w.channels.lines o.1)))

exchange_closing : (payload : List ℕ) (passage : Passage) (w : World) → IsOpen w
    → PlanComes Anything ComesClosing (acts (exchange_acts payload passage) w)
exchange_closing payload Begins w o = λ answer s.
    let v = moved Beginning answer w in
    told_comes ComesClosing (map Sent (frames_given (payloads_given Beginning answer)))
    (acts (Exchanges (Stepping payload) ∷ []) v) (step_closing payload v (o.0, o.1))
exchange_closing payload Steps w o = step_closing payload w o
exchange_closing payload Barred w o = tt
exchange_closing payload Late w o = tt
exchange_closing payload Passes w o = open_closing w o.0 o.1

-- ---- inputs

command_closing : (w : World) (ticket : ℕ) (one : Command) → IsOpen w
    → PlanComes Anything ComesClosing (command_row w ticket one)
command_closing w ticket one o =
    one_comes law (effect w one) (λ outcome world. Tell (Answered ticket outcome)
    (Finish (Goes world)))
    (effect_step None w.disconnected w one refl (open_closing w o.0 o.1)) (λ outcome world k. k)

tick_closing : (w : World) → IsOpen w
    → PlanComes Anything ComesClosing (acts (keepalive_acts w) w)
tick_closing w o =
    acts_come law (keepalive_acts w) w (open_closing w o.0 o.1)
    (tick_comes law w tt (open_closing (said keepalive (ticked w))
    (said_live keepalive (ticked w) refl o.0) (said_silent keepalive (ticked w) refl o.1)))

pub kind_closing : (accepts : Acceptance) (w : World) (moment : ℕ) (kind : InputKind)
    (plan : Plan Outcome) → OwesKind accepts w moment kind plan → IsOpen w
    → PlanComes Anything ComesClosing plan
kind_closing accepts w moment input.End plan owes o =
    rw owes (none_last w.channels.lines.written o.1)
kind_closing accepts w moment (input.Payload payload) plan owes o =
    let v = hears payload w in
    payload_so accepts v moment payload plan (PlanComes Anything ComesClosing) owes
    (λ said says. row_closing v moment said (o.0, o.1))
    (λ passage. exchange_closing payload passage v (o.0, o.1))
kind_closing accepts w moment (input.Command ticket one) plan owes o =
    rw owes (command_closing w ticket one o)
kind_closing accepts w moment (input.OpenReply ticket answer) plan owes o =
    rw owes (command_closing w ticket (command.Answer answer) o)
kind_closing accepts w moment input.KeepaliveTick plan owes o = rw owes (tick_closing w o)
kind_closing accepts w moment input.InactivityTick plan owes o = rw owes tt
kind_closing accepts w moment input.RekeyTick plan owes o = rw owes (open_closing w o.0 o.1)
