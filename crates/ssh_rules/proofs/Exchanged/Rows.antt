-- No row and no command touches the keys: an exchange begins and goes on by its own acts alone.
use Rattle.std.proofs.Common.{◌≡◌, ℕ, List, [], ◌∷◌, Option, Some, None, Bool, true, false, cond}
use Rattle.std.proofs.Common.{refl, ◌∙◌, ap, ◌==◌}
use Rattle.std.specs.Prelude.{length}
use Rattle.ssh_wire.specs.declared.channel_id.ChannelId.{ChannelId}
use Rattle.ssh_wire.specs.declared.open.OpenChannelMessage.{OpenChannelMessage}
use Rattle.ssh_wire.specs.declared.open.ChannelOpenConfirmation.{ChannelOpenConfirmation}
use Rattle.ssh_wire.specs.declared.open_failure.ChannelOpenFailure.{ChannelOpenFailure}
use Rattle.ssh_link.specs.declared.command.Command.{Command}
use Rattle.ssh_link.specs.declared.notice.Notice.{Notice}
use Rattle.ssh_auth.specs.declared.auth_step.AuthVerdict.{AuthVerdict}
use Rattle.ssh_auth.specs.declared.auth_step.AuthVerdict.TheVariants as verdict
use Rattle.ssh_channels.specs.declared.adjusted.Adjusted.{Adjusted}
use Rattle.ssh_channels.specs.declared.adjusted.Adjusted.TheVariants.{Dropped, Kept, Granted}
use Rattle.ssh_channels.specs.declared.chunk.Chunk.{Chunk}
use Rattle.ssh_channels.specs.Does.{coming_of}
use Rattle.ssh_channels.specs.Entry.{Entry}
use Rattle.ssh_channels.specs.Lines.{find, next_number, aims}
use Rattle.ssh_rules.specs.declared.messages.Spoken.{Spoken}
use Rattle.ssh_rules.specs.declared.messages.Spoken.TheVariants as spoken
use Rattle.ssh_rules.specs.declared.handling.Handling.{Handling}
use Rattle.ssh_rules.specs.declared.handling.Handling.TheVariants.{Asks, Unsupported, Unknown, GivenUp}
use Rattle.ssh_rules.specs.Acts.{Act, Notes, Calls, Judges_by, Listens_by, Adjusts_by, Turns}
use Rattle.ssh_rules.specs.Acts.{Is_over, Stops, Exchanges}
use Rattle.ssh_rules.specs.Effect.{refused_for, done_by, effect_at}
use Rattle.ssh_rules.specs.Exchange.{is_running}
use Rattle.ssh_rules.specs.Layout.{at_once}
use Rattle.ssh_rules.specs.Reading.{Said, Disconnect, Over_cap, Open, Agreed, Unfit, Unread}
use Rattle.ssh_rules.specs.Reading.{Without_packets, Connection}
use Rattle.ssh_rules.specs.Rows.{owed, greets, is_short, replied, spoken_acts, on_entry}
use Rattle.ssh_rules.specs.Rows.{on_confirmed, data_told, failure_acts, confirmation_acts}
use Rattle.ssh_rules.specs.Rows.{open_acts, global_reply, bound_to, notes, aims_at}
use Rattle.ssh_rules.specs.Types.{handling}
use Rattle.ssh_rules.specs.World.{World, in_exchange, lined, settles_global}
use Rattle.ssh_rules.specs.World.{unless_ended, is_there, is_waiting, writes, wants_global}
use Rattle.ssh_rules.specs.World.{target_on, ChannelRequest, request_at, settles_one}
use Rattle.ssh_rules.proofs.Plans.Acting.{EffectComes}
use Rattle.ssh_rules.proofs.Plans.Apart.{refused_comes, apart_comes}
use Rattle.ssh_rules.proofs.Plans.Beside.{done_beside, settles_beside, opens_or_not_beside}
use Rattle.ssh_channels.specs.Layout.{as_uint32}

-- the keys stay as they are
abbrev pub KeepsKeys : (World → World) → Type 0
KeepsKeys by = (w : World) → (by w).keys ≡ w.keys

-- the exchange is asked nothing, and no turn of the world touches the keys
abbrev pub AreUntouched : List Act → Type 0
AreUntouched [] = Unit {0}
AreUntouched (Notes notice ∷ later) = AreUntouched later
AreUntouched (Calls at lent ∷ later) = AreUntouched later
AreUntouched (Judges_by at judged by ∷ later) = ((granted : Bool) → KeepsKeys (by granted))
    × AreUntouched later
AreUntouched (Listens_by address port by ∷ later) =
    ((granted : Bool) (bound : ℕ) → KeepsKeys (by granted bound)) × AreUntouched later
AreUntouched (Adjusts_by channel current by ∷ later) = ((window : ℕ) → KeepsKeys (by window))
    × AreUntouched later
AreUntouched (Exchanges asked ∷ later) = ⊥
AreUntouched (Turns by ∷ later) = KeepsKeys by × AreUntouched later
AreUntouched (Is_over ∷ later) = Unit {0}
AreUntouched (Stops why ∷ later) = Unit {0}

-- ---- commands

-- an exchange runs, or none
abbrev pub IsRunning : (running : Bool) → World → Type 0
IsRunning running w = in_exchange w ≡ running

pub same_runs : (running : Bool) (w v : World) → v.keys ≡ w.keys → IsRunning running w
    → IsRunning running v
same_runs running w v keys h = ap (λ k. is_running k.exchange) keys ∙ h

beside_runs : (running : Bool) (w v : World) → v.settings ≡ w.settings
    → v.disconnected ≡ w.disconnected → v.keys ≡ w.keys → IsRunning running w
    → IsRunning running v
beside_runs running w v settings ended keys h = same_runs running w v keys h

pub effect_runs : (at : Option ChannelRequest) (running : Bool) (w : World) (one : Command)
    → IsRunning running w → EffectComes (IsRunning running) (effect_at at w one)
effect_runs at running w one h =
    let holds = IsRunning running in
    refused_comes holds (refused_for w.disconnected w one) w (done_by at w one) h
    (done_beside holds (beside_runs running) at w one h
    (apart_comes holds (λ message v k. k) (settles_beside holds (beside_runs running))
    (opens_or_not_beside holds (beside_runs running)) w one h))

-- ---- acts

either_keeps : (b : Bool) (v w : World) → v.keys ≡ w.keys → (cond b v w).keys ≡ w.keys
either_keeps true v w h = h
either_keeps false v w h = refl

ended_keeps : (b : Bool) (v w : World) → v.keys ≡ w.keys → (cond b w v).keys ≡ w.keys
ended_keeps true v w h = refl
ended_keeps false v w h = h

settles_keeps : (payload : List ℕ) → KeepsKeys (settles_global payload)
settles_keeps payload w =
    either_keeps w.globals.wanted (writes (at_once payload ∷ []) (wants_global false w)) w refl

unless_keeps : (by : World → World) → KeepsKeys by → KeepsKeys (unless_ended by)
unless_keeps by h w = ended_keeps w.disconnected (by w) w (h w)

confirmed_untouched : (confirmed : Bool) (owes : List Act) → AreUntouched owes →
    AreUntouched (on_confirmed confirmed owes)
confirmed_untouched true owes h = h
confirmed_untouched false owes h = tt

entry_untouched : (e : Option Entry) (owes : Entry → List Act) →
    ((e : Entry) → AreUntouched (owes e)) → AreUntouched (on_entry e owes)
entry_untouched None owes h = tt
entry_untouched (Some e) owes h = confirmed_untouched e.confirmed (owes e) (h e)

aims_keeps : (channel : ChannelId) (window : ℕ) → KeepsKeys (aims_at channel window)
aims_keeps channel window w =
    ended_keeps (window == 0) (lined (aims channel.0 (as_uint32 window)) w) w refl

told_untouched : (adjusted : Adjusted) (channel : ChannelId) (piece : Chunk) (target : ℕ) →
    AreUntouched (data_told adjusted channel piece target)
told_untouched Dropped channel piece target = tt
told_untouched Kept channel piece target = tt
told_untouched (Granted amount) channel piece target = (aims_keeps channel, tt)

failure_untouched : (there waiting : Bool) (channel : ChannelId) (why : ChannelOpenFailure) →
    AreUntouched (failure_acts there waiting channel why)
failure_untouched there true channel why = (λ w. refl, tt)
failure_untouched true false channel why = tt
failure_untouched false false channel why = tt

confirmation_untouched : (waiting : Bool) (message : ChannelOpenConfirmation) →
    AreUntouched (confirmation_acts waiting message)
confirmation_untouched true message = (λ w. refl, tt)
confirmation_untouched false message = tt

open_untouched : (number : Option ℕ) (message : OpenChannelMessage) (does : Handling) →
    AreUntouched (open_acts number message does)
open_untouched None message (Asks type) = tt
open_untouched None message GivenUp = tt
open_untouched None message Unsupported = tt
open_untouched None message Unknown = tt
open_untouched (Some number) message (Asks type) = (λ w. refl, tt)
open_untouched (Some number) message GivenUp = (λ w. refl, tt)
open_untouched (Some number) message Unsupported = (λ w. refl, tt)
open_untouched (Some number) message Unknown = (λ w. refl, tt)

notes_untouched : (told : Option Notice) → AreUntouched (notes told)
notes_untouched None = tt
notes_untouched (Some notice) = tt

spoken_untouched : (w : World) (said : Spoken) → AreUntouched (spoken_acts w said)
spoken_untouched w spoken.Nothing = tt
spoken_untouched w (spoken.Grant channel amount) =
    entry_untouched (find channel.0 w.channels.lines.entries) _ (λ e. (λ v. refl, tt))
spoken_untouched w (spoken.Data channel piece) = (
  λ v. refl,
  told_untouched (coming_of (length piece.bytes) (target_on channel.0 w)
      (find channel.0 w.channels.lines.entries)) channel piece (target_on channel.0 w),
)
spoken_untouched w (spoken.Tells channel message happening) =
    entry_untouched (find channel.0 w.channels.lines.entries) _ (λ e. tt)
spoken_untouched w (spoken.Close channel) =
    entry_untouched (find channel.0 w.channels.lines.entries) _ (λ e. (λ v. refl, tt))
spoken_untouched w (spoken.Failed channel reason) =
    failure_untouched (is_there w channel.0) (is_waiting w channel.0) channel reason
spoken_untouched w (spoken.Requests channel wanted message happening) = (λ v. refl, tt)
spoken_untouched w (spoken.RequestsAgent channel wanted) = (
  λ v. refl,
  (
    λ granted. unless_keeps
        (lined (settles_one (request_at channel wanted w).place channel.0 granted)) (λ v. refl),
    tt,
  ),
)
spoken_untouched w (spoken.RequestsUnknown channel wanted) = (λ v. refl, (λ v. refl, tt))
spoken_untouched w (spoken.RequestsForward wanted address port) = (
  λ v. refl,
  (
    λ granted bound. unless_keeps (settles_global (global_reply granted (bound_to port bound)))
        (settles_keeps (global_reply granted (bound_to port bound))),
    tt,
  ),
)
spoken_untouched w (spoken.RequestsGlobally wanted judged) = (
  λ v. refl,
  (
    λ granted. unless_keeps (settles_global (global_reply granted None))
        (settles_keeps (global_reply granted None)),
    tt,
  ),
)
spoken_untouched w (spoken.RequestsGloballyUnknown wanted) =
    (λ v. refl, (settles_keeps (global_reply false None), tt))
spoken_untouched w (spoken.GivesUpSessions wanted) =
    (λ v. refl, (λ v. refl, (settles_keeps (global_reply true None), tt)))
spoken_untouched w (spoken.Settles told) = (λ v. refl, notes_untouched told)
spoken_untouched w spoken.Inconsistent = tt

pub owed_untouched : (w : World) (said : Said) → AreUntouched (owed w said)
owed_untouched w (Open message) =
    open_untouched (next_number w.channels.lines) message
    (handling w.channels.no_more_sessions message.typ)
owed_untouched w (Agreed message) =
    confirmation_untouched (is_waiting w message.recipient_channel) message
owed_untouched w (Connection said) = spoken_untouched w said
owed_untouched w Unread = tt
owed_untouched w Disconnect = tt
owed_untouched w Over_cap = (λ v. refl, tt)
owed_untouched w (Unfit why) = tt
owed_untouched w Without_packets = tt
owed_untouched w _ = tt

pub replied_untouched : (w : World) (moment : ℕ) (requested : Bool) (reply : List ℕ)
    (v : AuthVerdict) → AreUntouched (replied w moment requested reply v)
replied_untouched w moment requested reply verdict.Accepted = (λ v. refl, tt)
replied_untouched w moment requested reply (verdict.Rejected none_method) = (λ v. refl, tt)
replied_untouched w moment requested reply verdict.Continued = (λ v. refl, tt)

pub greets_untouched : (message : Option (List ℕ)) (short : Bool) → is_short message ≡ short →
    AreUntouched (greets message)
greets_untouched message true is = rw is (λ w. refl, tt)
greets_untouched message false is = rw is tt
