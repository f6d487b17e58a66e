-- Where a command ends the connection, its DISCONNECT is the last that is written, and that is
-- handed on (RFC 4253 section 11.1).
use Rattle.std.proofs.Common.{◌≡◌, ℕ, List, [], ◌∷◌, ◌++◌, map, Option, Some, None}
use Rattle.std.proofs.Common.{Bool, true, false, cond, refl, sym, ◌∙◌, ◌==◌}
use Rattle.std.specs.Prelude.{length, bytes_eq, codes, if◌then◌else◌}
use Rattle.ssh_link.specs.Frames.{Frame}
use Rattle.ssh_link.specs.declared.command.Command.{Command}
use Rattle.ssh_link.specs.declared.command.Command.TheVariants as command
use Rattle.ssh_link.specs.declared.frame.InputKind.{InputKind}
use Rattle.ssh_link.specs.declared.frame.InputKind.TheVariants as input
use Rattle.ssh_link.specs.declared.link.TraceEntry.TheVariants.{Sent, Answered}
use Rattle.ssh_auth.specs.declared.auth_step.AuthVerdict.TheVariants as verdict
use Rattle.ssh_auth.specs.declared.auth_request.AuthRequest.{AuthRequest}
use Rattle.ssh_auth.specs.declared.question.Question.TheVariants.{Banner}
use Rattle.ssh_auth.specs.Plan.{Plan, Finish, Ask, Tell, after}
use Rattle.ssh_auth.specs.Publickey.{Acceptance}
use Rattle.ssh_auth.specs.Verdict.{AuthOutcome, Replies, verdict as verdict_on, response_verdict}
use Rattle.ssh_auth.specs.Verdict as auth
use Rattle.ssh_channels.specs.Does.{coming_of}
use Rattle.ssh_channels.specs.Lines.{find, next_number, takes_in, aims}
use Rattle.ssh_channels.specs.declared.adjusted.Adjusted.{Adjusted}
use Rattle.ssh_channels.specs.declared.adjusted.Adjusted.TheVariants.{Dropped, Kept, Granted}
use Rattle.ssh_channels.specs.declared.chunk.Chunk.{Chunk}
use Rattle.ssh_wire.specs.declared.channel_id.ChannelId.{ChannelId}
use Rattle.ssh_wire.specs.declared.open.OpenChannelMessage.{OpenChannelMessage}
use Rattle.ssh_wire.specs.declared.open.ChannelOpenConfirmation.{ChannelOpenConfirmation}
use Rattle.ssh_wire.specs.declared.open_failure.ChannelOpenFailure.{ChannelOpenFailure}
use Rattle.ssh_rules.specs.declared.exchange.Passage.{Passage}
use Rattle.ssh_rules.specs.declared.exchange.Passage.TheVariants.{Begins, Steps, Barred, Late}
use Rattle.ssh_rules.specs.declared.exchange.Passage.TheVariants.{Passes}
use Rattle.ssh_rules.specs.declared.messages.Spoken.{Spoken}
use Rattle.ssh_rules.specs.declared.messages.Spoken.TheVariants as spoken
use Rattle.ssh_rules.specs.declared.handling.Handling.{Handling}
use Rattle.ssh_rules.specs.declared.handling.Handling.TheVariants.{Asks, Unsupported, Unknown, GivenUp}
use Rattle.ssh_rules.specs.declared.state.EncryptedState.{EncryptedState}
use Rattle.ssh_rules.specs.declared.state.EncryptedState.TheVariants.{WaitingAuthRequest}
use Rattle.ssh_rules.specs.Acts.{Beginning, Stepping, Exchanges, acts, frames_given}
use Rattle.ssh_rules.specs.Acts.{moved, payloads_given}
use Rattle.ssh_rules.specs.Effect.{Effect, Brings, effect, refused_for, refused_or, done_by, said}
use Rattle.ssh_rules.specs.Effect.{effect_at}
use Rattle.ssh_rules.specs.Layout.{at_once}
use Rattle.ssh_rules.specs.Outcome.{Outcome, Goes, Ends, Fails}
use Rattle.ssh_rules.specs.OwnMessages.{disconnect_message, keepalive}
use Rattle.ssh_rules.specs.Parting.{IsParting}
use Rattle.ssh_rules.specs.Reading.{Said, Service, Request, Response, Open, Agreed, Connection}
use Rattle.ssh_rules.specs.Reading.{Disconnect, Over_cap, Unread, Unfit, Without_packets}
use Rattle.ssh_rules.specs.Rows.{spoken_acts, failure_acts, confirmation_acts, exchange_acts}
use Rattle.ssh_rules.specs.Rows.{row, owed, greets, is_short, replied, concluded, where_waiting}
use Rattle.ssh_rules.specs.Rows.{data_told, open_acts, global_reply, bound_to}
use Rattle.ssh_rules.specs.Rows.{aims_at, gives_up_sessions}
use Rattle.ssh_rules.specs.Run.{OwesKind, command_row}
use Rattle.ssh_rules.specs.Ticks.{keepalive_acts, ticked}
use Rattle.ssh_rules.specs.Types.{handling}
use Rattle.ssh_rules.specs.Valid.{disconnects}
use Rattle.ssh_rules.specs.World.{World, hears, is_there, is_waiting, lined}
use Rattle.ssh_rules.specs.World.{settles_global, wants_global, waits_for, writes, target_on}
use Rattle.ssh_rules.specs.World.{ChannelRequest, request_at, settles_one}
use Rattle.ssh_rules.proofs.Plans.Acting.{PlanComes, EffectComes, Law, ActsCome, acts_come, one_comes}
use Rattle.ssh_rules.proofs.Plans.Acting.{comes_then}
use Rattle.ssh_rules.proofs.Plans.Apart.{either, notes_come, refused_comes, sent_comes, tick_comes}
use Rattle.ssh_rules.proofs.Plans.Beside.{on_come}
use Rattle.ssh_rules.proofs.Plans.Emptied.{told_comes}
use Rattle.ssh_rules.proofs.Ended.Run.{IsLive, effect_live, said_live}
use Rattle.ssh_rules.proofs.Plans.Passing.{moved_so, payload_so}
use Rattle.ssh_rules.proofs.Plans.Settled.{Anything, Any_command, any_built}
use Rattle.ssh_channels.specs.Layout.{as_uint32}

-- ---- worlds

-- a DISCONNECT is the last of these frames
abbrev pub PartsLast : List Frame → Type 0
PartsLast frames = (before : List Frame) × (parting : Frame) × IsParting parting
    × (frames ≡ before ++ parting ∷ [])

-- where the connection was ended, a DISCONNECT is the last that was written
abbrev pub Parts : World → Type 0
Parts w = w.disconnected ≡ true → PartsLast w.channels.lines.written

abbrev pub ComesParts : Outcome → Type 0
ComesParts (Goes w) = Parts w
ComesParts (Ends w) = Parts w
ComesParts (Fails fault) = Unit {0}

-- where it was not ended
calm : {ended : Bool} {frames : List Frame} → ended ≡ false → ended ≡ true → PartsLast frames
calm live ended = absurd (let no : true ≡ false = sym ended ∙ live in cc)

-- what turns the world only where it was not ended
unless_step : (b : Bool) (w v : World) → w.disconnected ≡ b → v.disconnected ≡ w.disconnected
    → Parts w → Parts (cond b w v)
unless_step true w v ended is h = h
unless_step false w v ended is h = calm (is ∙ ended)

unless_parts : (w v : World) → v.disconnected ≡ w.disconnected → Parts w
    → Parts (cond w.disconnected w v)
unless_parts w v is h = unless_step w.disconnected w v refl is h

-- a reply to a global request ends nothing
settled_ended : (payload : List ℕ) (w : World)
    → (settles_global payload w).disconnected ≡ w.disconnected
settled_ended payload w =
    either (λ v. v.disconnected ≡ w.disconnected) w.globals.wanted
    (writes (at_once payload ∷ []) (wants_global false w)) w refl refl

-- ---- commands

live_parts : (does : Effect) → EffectComes IsLive does → EffectComes Parts does
live_parts (Brings notices outcome world) h = calm h

-- once the connection was ended, each is refused
refused_parts : (ended : Bool) (w : World) (one : Command) (does : Effect) → ended ≡ true
    → Parts w → EffectComes Parts (refused_or (refused_for ended w one) w does)
refused_parts true w one does is h = h
refused_parts false w one does is h = absurd (cc)

mild_parts : (at : Option ChannelRequest) (ended : Bool) (w : World) (one : Command)
    → w.disconnected ≡ ended → disconnects one ≡ false → Parts w
    → EffectComes Parts (effect_at at w one)
mild_parts at true w one is mild h = refused_parts w.disconnected w one (done_by at w one) is h
mild_parts at false w one is mild h =
    live_parts (effect_at at w one) (effect_live at w one mild is)

effect_parts : (at : Option ChannelRequest) (w : World) (one : Command) → Parts w
    → EffectComes Parts (effect_at at w one)
effect_parts at w (command.Disconnect reason description language) h =
    let one = command.Disconnect reason description language in
    let message = disconnect_message reason description language in
    refused_comes Parts (refused_for w.disconnected w one) w (done_by at w one) h
    (sent_comes Parts message w h (λ ended. (
      w.channels.lines.written,
      at_once message.payload,
      (reason, description, language, refl),
      refl,
    )))
effect_parts at w other h = mild_parts at w.disconnected w other refl refl h

abbrev law : Law
law = record {
  such = Anything;
  comes = ComesParts;
  holds = Parts;
  built = Any_command;
  goes = λ w h. h;
  lends = λ lent commands s. any_built commands;
  judges = λ judged answer s. any_built answer.commands;
  listens = λ address port answer s. any_built answer.commands;
  keeps = λ at w one h b. effect_parts at w one h;
}

-- ---- rows

aims_live : (channel : ChannelId) (window : ℕ) (w : World) → IsLive w
    → IsLive (aims_at channel window w)
aims_live channel window w h =
    either IsLive (window == 0) w (lined (aims channel.0 (as_uint32 window)) w) h h

told_parts : (adjusted : Adjusted) (channel : ChannelId) (piece : Chunk) (target : ℕ) (w : World)
    → IsLive w → ActsCome law (data_told adjusted channel piece target) w
told_parts Dropped channel piece target w h = tt
told_parts Kept channel piece target w h = λ world k. tt
told_parts (Granted amount) channel piece target w h =
    λ window. (calm (aims_live channel window w h), λ world k. tt)

open_parts : (number : Option ℕ) (message : OpenChannelMessage) (does : Handling) (w : World)
    → IsLive w → ActsCome law (open_acts number message does) w
open_parts None message (Asks type) w h = tt
open_parts None message GivenUp w h = tt
open_parts None message Unsupported w h = tt
open_parts None message Unknown w h = tt
open_parts (Some number) message (Asks type) w h = (calm h, λ world k. tt)
open_parts (Some number) message GivenUp w h = (calm h, tt)
open_parts (Some number) message Unsupported w h = (calm h, tt)
open_parts (Some number) message Unknown w h = (calm h, tt)

failure_parts : (w : World) (there waiting : Bool) (channel : ChannelId)
    (why : ChannelOpenFailure) → IsLive w
    → ActsCome law (failure_acts there waiting channel why) w
failure_parts w there true channel why h = (calm h, tt)
failure_parts w true false channel why h = tt
failure_parts w false false channel why h = tt

confirmation_parts : (w : World) (waiting : Bool) (message : ChannelOpenConfirmation)
    → IsLive w → ActsCome law (confirmation_acts waiting message) w
confirmation_parts w true message h = (calm h, λ world k. tt)
confirmation_parts w false message h = tt

spoken_parts : (w : World) (said : Spoken) → IsLive w → ActsCome law (spoken_acts w said) w
spoken_parts w spoken.Nothing h = tt
spoken_parts w (spoken.Grant channel amount) h =
    on_come law w (find channel.0 w.channels.lines.entries) _
    (λ e. (calm h, λ world k. tt))
spoken_parts w (spoken.Data channel piece) h =
    let came = coming_of (length piece.bytes) (target_on channel.0 w)
    (find channel.0 w.channels.lines.entries) in
    let v = lined (takes_in channel.0 (length piece.bytes) (target_on channel.0 w)) w in
    (calm h, told_parts came channel piece (target_on channel.0 w) v h)
spoken_parts w (spoken.Tells channel message happening) h =
    on_come law w (find channel.0 w.channels.lines.entries) _ (λ e. λ world k. tt)
spoken_parts w (spoken.Close channel) h =
    on_come law w (find channel.0 w.channels.lines.entries) _
    (λ e. (calm h, λ world k. tt))
spoken_parts w (spoken.Failed channel reason) h =
    failure_parts w (is_there w channel.0) (is_waiting w channel.0) channel reason h
spoken_parts w (spoken.Requests channel wanted message happening) h =
    (calm h, λ world k. tt)
spoken_parts w (spoken.RequestsAgent channel wanted) h = (
  calm h,
  λ granted world k. (
    unless_parts world
        (lined (settles_one (request_at channel wanted w).place channel.0 granted) world) refl k,
    tt,
  ),
)
spoken_parts w (spoken.RequestsUnknown channel wanted) h =
    (calm h, (calm h, tt))
spoken_parts w (spoken.RequestsForward wanted address port) h = (
  calm h,
  λ granted bound world k.
      let payload = global_reply granted (bound_to port bound) in (
        unless_parts world (settles_global payload world) (settled_ended payload world) k,
        tt,
      ),
)
spoken_parts w (spoken.RequestsGlobally wanted judged) h = (
  calm h,
  λ granted world k.
      let payload = global_reply granted None in (
        unless_parts world (settles_global payload world) (settled_ended payload world) k,
        tt,
      ),
)
spoken_parts w (spoken.RequestsGloballyUnknown wanted) h =
    let payload = global_reply false None in
    let v = wants_global wanted w in
    (calm h, (calm (settled_ended payload v ∙ h), tt))
spoken_parts w (spoken.GivesUpSessions wanted) h =
    let payload = global_reply true None in
    let v = wants_global wanted (gives_up_sessions w) in
    (calm h, (calm h, (calm (settled_ended payload v ∙ h), tt)))
spoken_parts w (spoken.Settles told) h = (calm h, notes_come law told _)
spoken_parts w spoken.Inconsistent h = tt

owed_parts : (w : World) (said : Said) → IsLive w → ActsCome law (owed w said) w
owed_parts w (Open message) h =
    open_parts (next_number w.channels.lines) message
    (handling w.channels.no_more_sessions message.typ) w h
owed_parts w (Agreed message) h =
    confirmation_parts w (is_waiting w message.recipient_channel) message h
owed_parts w Unread h = tt
owed_parts w (Connection said) h = spoken_parts w said h
owed_parts w Disconnect h = calm h
owed_parts w Over_cap h = (calm h, calm h)
owed_parts w (Unfit why) h = tt
owed_parts w Without_packets h = tt
owed_parts w _ h = tt

concluded_parts : (w : World) (moment : ℕ) (requested : Bool) (outcome : AuthOutcome) → IsLive w
    → PlanComes Anything ComesParts (concluded w moment requested outcome)
concluded_parts w moment requested (Replies reply verdict.Accepted state) h =
    acts_come law (replied w moment requested reply verdict.Accepted)
    (waits_for (WaitingAuthRequest state) w) (calm h) (calm h, λ world k. tt)
concluded_parts w moment requested (Replies reply (verdict.Rejected none_method) state) h =
    calm h
concluded_parts w moment requested (Replies reply verdict.Continued state) h = calm h
concluded_parts w moment requested (auth.Fails why) h = tt

asked_parts : (state : EncryptedState) (next : AuthRequest → Plan AuthOutcome) (w : World)
    (moment : ℕ) (requested : Bool) → IsLive w
    → PlanComes Anything ComesParts
    (where_waiting state (λ auth. after (next auth) (concluded w moment requested)) (acts [] w))
asked_parts (WaitingAuthRequest auth) next w moment requested h =
    comes_then Anything ComesParts (next auth) (concluded w moment requested)
    (λ outcome. concluded_parts w moment requested outcome h)
asked_parts _ next w moment requested h = calm h

greets_parts : (w : World) (message : Option (List ℕ)) (short : Bool)
    → is_short message ≡ short → IsLive w
    → PlanComes Anything ComesParts (acts (greets message) w)
greets_parts w message true is h = rw is (calm h)
greets_parts w message false is h = rw is tt

service_parts : (w : World) (b : Bool) → IsLive w
    → PlanComes Anything ComesParts
    (if b then Ask Banner (λ message. acts (greets message) w) else acts [] w)
service_parts w true h = λ message s. greets_parts w message (is_short message) refl h
service_parts w false h = calm h

row_parts : (w : World) (moment : ℕ) (said : Said) → IsLive w
    → PlanComes Anything ComesParts (row w moment said)
row_parts w moment (Service name) h = service_parts w (bytes_eq name (codes "ssh-userauth")) h
row_parts w moment (Request asked) h =
    asked_parts w.user.state (λ auth. verdict_on auth asked) w moment true h
row_parts w moment (Response responded) h =
    asked_parts w.user.state (λ auth. response_verdict auth responded) w moment
    w.user.requested h
row_parts w moment said h = acts_come law (owed w said) w (calm h) (owed_parts w said h)

-- ---- exchanges of keys

step_parts : (payload : List ℕ) (w : World) → IsLive w
    → PlanComes Anything ComesParts (acts (Exchanges (Stepping payload) ∷ []) w)
step_parts payload w h = λ step s.
    told_comes ComesParts (map Sent (frames_given (payloads_given (Stepping payload) step)))
    (Finish (Goes (moved (Stepping payload) step w)))
    (moved_so Parts (Stepping payload) step w (λ keys. calm h) (λ keys. calm h))

exchange_parts : (payload : List ℕ) (passage : Passage) (w : World) → IsLive w
    → PlanComes Anything ComesParts (acts (exchange_acts payload passage) w)
exchange_parts payload Begins w h = λ answer s.
    let v = moved Beginning answer w in
    told_comes ComesParts (map Sent (frames_given (payloads_given Beginning answer)))
    (acts (Exchanges (Stepping payload) ∷ []) v) (step_parts payload v h)
exchange_parts payload Steps w h = step_parts payload w h
exchange_parts payload Barred w h = tt
exchange_parts payload Late w h = tt
exchange_parts payload Passes w h = calm h

-- ---- inputs

command_parts : (w : World) (ticket : ℕ) (one : Command) → IsLive w
    → PlanComes Anything ComesParts (command_row w ticket one)
command_parts w ticket one h =
    one_comes law (effect w one) (λ outcome world. Tell (Answered ticket outcome)
    (Finish (Goes world))) (effect_parts None w one (calm h)) (λ outcome world k. k)

tick_parts : (w : World) → IsLive w → PlanComes Anything ComesParts (acts (keepalive_acts w) w)
tick_parts w h =
    acts_come law (keepalive_acts w) w (calm h)
    (tick_comes law w tt (calm (said_live keepalive (ticked w) refl h)))

pub kind_parts : (accepts : Acceptance) (w : World) (moment : ℕ) (kind : InputKind)
    (plan : Plan Outcome) → OwesKind accepts w moment kind plan → IsLive w
    → PlanComes Anything ComesParts plan
kind_parts accepts w moment input.End plan o h = rw o (calm h)
kind_parts accepts w moment (input.Payload payload) plan o h =
    let v = hears payload w in
    payload_so accepts v moment payload plan (PlanComes Anything ComesParts) o
    (λ said says. row_parts v moment said h) (λ passage. exchange_parts payload passage v h)
kind_parts accepts w moment (input.Command ticket one) plan o h =
    rw o (command_parts w ticket one h)
kind_parts accepts w moment (input.OpenReply ticket answer) plan o h =
    rw o (command_parts w ticket (command.Answer answer) h)
kind_parts accepts w moment input.KeepaliveTick plan o h = rw o (tick_parts w h)
kind_parts accepts w moment input.InactivityTick plan o h = rw o tt
kind_parts accepts w moment input.RekeyTick plan o h = rw o (calm h)
