-- Rows with which no data come make no room and take none (RFC 4254 section 5.2).
use Rattle.std.proofs.Common.{◌≡◌, ◌==◌, ℕ, List, [], ◌∷◌, Bool, true, false}
use Rattle.std.proofs.Common.{Option, Some, None, refl}
use Rattle.ssh_wire.specs.declared.channel_id.ChannelId.{ChannelId}
use Rattle.ssh_wire.specs.declared.open.OpenChannelMessage.{OpenChannelMessage}
use Rattle.ssh_wire.specs.declared.open.ChannelOpenConfirmation.{ChannelOpenConfirmation}
use Rattle.ssh_wire.specs.declared.open_failure.ChannelOpenFailure.{ChannelOpenFailure}
use Rattle.ssh_link.specs.declared.notice.Notice.{Notice}
use Rattle.ssh_channels.specs.Entry.{Entry}
use Rattle.ssh_channels.specs.Lines.{find, aims, next_number, drawn, drops_pending}
use Rattle.ssh_channels.specs.Layout.{as_uint32}
use Rattle.ssh_channels.specs.Sent.{is_opening}
use Rattle.ssh_rules.specs.declared.messages.Spoken.{Spoken}
use Rattle.ssh_rules.specs.declared.messages.Spoken.TheVariants as spoken
use Rattle.ssh_rules.specs.declared.handling.Handling.{Handling}
use Rattle.ssh_rules.specs.declared.handling.Handling.TheVariants.{Asks, GivenUp, Unsupported, Unknown}
use Rattle.ssh_rules.specs.Acts.{Act}
use Rattle.ssh_rules.specs.Layout.{at_once, too_many_attempts}
use Rattle.ssh_rules.specs.Opens.{failure_frame}
use Rattle.ssh_rules.specs.Reading.{Said, Disconnect, Over_cap, Open, Agreed, Connection, Unread}
use Rattle.ssh_rules.specs.Reading.{Unfit, Without_packets}
use Rattle.ssh_rules.specs.Rows.{owed, greeting, spoken_acts, on_entry, on_confirmed, aims_at}
use Rattle.ssh_rules.specs.Rows.{failure_acts, confirmation_acts, open_acts, turns_first, notes}
use Rattle.ssh_rules.specs.Rows.{global_reply, bound_to}
use Rattle.ssh_rules.specs.Types.{handling, given_up, unsupported, unknown}
use Rattle.ssh_rules.specs.World.{World, lined, settles_global, unless_ended, is_there}
use Rattle.ssh_rules.specs.World.{is_waiting, request_at, wants_if, settles_one}
use Rattle.ssh_rules.proofs.Plans.Apart.{either}
use Rattle.ssh_rules.proofs.Received.Carried.{IsBareSpoken, IsBareSaid}
use Rattle.ssh_rules.proofs.Received.Acts.{KeepsRoom, AreBare}
use Rattle.ssh_rules.proofs.Received.Granting.{Roomy, opens_on, written_room, grant_room, peer_close_room}
use Rattle.ssh_rules.proofs.Received.Granting.{aims_room, request_room, reply_room, confirmed_room}
use Rattle.ssh_rules.proofs.Received.Granting.{failed_room}
use Rattle.ssh_rules.proofs.Measure.Calls.{AreSilent}
use Rattle.ssh_rules.proofs.Plans.Requested.{wants_kept, one_kept}
use Rattle.ssh_rules.proofs.Received.Commands.{InRoom, writes_room, settles_room}

-- ---- turns of the world

-- a reply to a request
reply_keeps : (place : Option ℕ) (channel : ℕ) (granted : Bool) →
    KeepsRoom (lined (settles_one place channel granted))
reply_keeps place channel granted n window passed grew w h = (
  h.0,
  one_kept (Roomy n passed window grew) channel granted w.channels.lines
      (reply_room n passed window grew channel granted w.channels.lines) place h.1,
)

-- the request itself
wants_keeps : (channel : ℕ) (wanted : Bool) → KeepsRoom (lined (wants_if wanted channel))
wants_keeps channel wanted n window passed grew w h = (
  h.0,
  wants_kept (Roomy n passed window grew) wanted channel w.channels.lines
      (request_room n passed window grew channel w.channels.lines) h.1,
)

settles_keeps : (payload : List ℕ) → KeepsRoom (settles_global payload)
settles_keeps payload n window passed grew w h = settles_room n window passed grew payload w h

-- .. where the connection was not ended
ended_keeps : (by : World → World) → KeepsRoom by → KeepsRoom (unless_ended by)
ended_keeps by keeps n window passed grew w h =
    either (InRoom n window passed grew) w.disconnected w (by w) h
    (keeps n window passed grew w h)

-- frames of no channel
pub plain_silent : (n : ℕ) (message : Option (List ℕ)) → AreSilent (opens_on n) (greeting message)
plain_silent n None = (refl, tt)
plain_silent n (Some message) = (refl, (refl, tt))

-- the window that the room is filled up to
pub aims_keeps : (channel : ChannelId) (window : ℕ) → KeepsRoom (aims_at channel window)
aims_keeps channel aim n window passed grew w h =
    let target = as_uint32 aim in
    either (InRoom n window passed grew) (aim == 0) w (lined (aims channel.0 target) w) h
    (h.0, aims_room n passed window grew channel.0 target w.channels.lines h.1)

-- ---- rows with which no data come

confirmed_bare : (confirmed : Bool) (owes : List Act) → AreBare owes →
    AreBare (on_confirmed confirmed owes)
confirmed_bare true owes h = h
confirmed_bare false owes h = tt

entry_bare : (e : Option Entry) (owes : Entry → List Act) →
    ((e : Entry) → AreBare (owes e)) → AreBare (on_entry e owes)
entry_bare None owes h = tt
entry_bare (Some e) owes h = confirmed_bare e.confirmed (owes e) (h e)

failure_bare : (there waiting : Bool) (channel : ChannelId) (why : ChannelOpenFailure) →
    AreBare (failure_acts there waiting channel why)
failure_bare there true channel why = (
  λ n window passed grew w h. (
    h.0,
    failed_room n passed window grew channel.0 w.channels.lines h.1,
  ),
  tt,
)
failure_bare true false channel why = tt
failure_bare false false channel why = tt

confirmation_bare : (waiting : Bool) (message : ChannelOpenConfirmation) →
    AreBare (confirmation_acts waiting message)
confirmation_bare true message = (
  λ n window passed grew w h. (
    h.0,
    confirmed_room n passed window grew message.recipient_channel message.sender_channel
        message.maximum_packet_size message.initial_window_size w.channels.lines h.1,
  ),
  (refl, tt),
)
confirmation_bare false message = tt

away_bare : (number : Option ℕ) (payload : List ℕ) → is_opening payload ≡ false →
    AreBare (turns_first number payload)
away_bare None payload unlike = tt
away_bare (Some number) payload unlike = (
  λ n window passed grew w h. writes_room n window passed grew (failure_frame number payload)
      (lined (λ l. drops_pending number (drawn (Some number) l)) w) unlike h,
  tt,
)

open_bare : (number : Option ℕ) (message : OpenChannelMessage) (does : Handling) →
    AreBare (open_acts number message does)
open_bare None message (Asks type) = tt
open_bare (Some number) message (Asks type) = (λ n window passed grew w h. h, (tt, tt))
open_bare number message GivenUp = away_bare number (given_up message.recipient_channel) refl
open_bare number message Unsupported =
    away_bare number (unsupported message.recipient_channel) refl
open_bare number message Unknown = away_bare number (unknown message.recipient_channel) refl

notes_bare : (told : Option Notice) → AreBare (notes told)
notes_bare None = tt
notes_bare (Some notice) = tt

-- it brings no data
abbrev pub IsNoData : Spoken → Type 0
IsNoData (spoken.Data channel piece) = ⊥
IsNoData _ = Unit {0}

spoken_bare : (w : World) (said : Spoken) → IsBareSpoken said → IsNoData said →
    AreBare (spoken_acts w said)
spoken_bare w spoken.Nothing is none = tt
spoken_bare w (spoken.Grant channel amount) is none =
    entry_bare (find channel.0 w.channels.lines.entries) _
    (λ e. (
      λ n window passed grew v h. (
        h.0,
        grant_room n passed window grew channel.0 amount v.channels.lines h.1,
      ),
      (refl, tt),
    ))
spoken_bare w (spoken.Data channel piece) is none = absurd none
spoken_bare w (spoken.Tells channel message happening) is none =
    entry_bare (find channel.0 w.channels.lines.entries) _ (λ e. (is, tt))
spoken_bare w (spoken.Close channel) is none =
    entry_bare (find channel.0 w.channels.lines.entries) _
    (λ e. (
      λ n window passed grew v h. (
        h.0,
        peer_close_room n passed window grew channel.0 v.channels.lines h.1,
      ),
      (refl, tt),
    ))
spoken_bare w (spoken.Failed channel reason) is none =
    failure_bare (is_there w channel.0) (is_waiting w channel.0) channel reason
spoken_bare w (spoken.Requests channel wanted message happening) is none =
    (wants_keeps channel.0 wanted, (is, tt))
spoken_bare w (spoken.RequestsAgent channel wanted) is none =
    let place = (request_at channel wanted w).place in (
      wants_keeps channel.0 wanted,
      (
        λ granted. ended_keeps (lined (settles_one place channel.0 granted))
            (reply_keeps place channel.0 granted),
        tt,
      ),
    )
spoken_bare w (spoken.RequestsUnknown channel wanted) is none = (
  wants_keeps channel.0 wanted,
  (reply_keeps (request_at channel wanted w).place channel.0 false, tt),
)
spoken_bare w (spoken.RequestsForward wanted address port) is none = (
  λ n window passed grew v h. h,
  (
    λ granted bound. ended_keeps (settles_global (global_reply granted (bound_to port bound)))
        (settles_keeps (global_reply granted (bound_to port bound))),
    tt,
  ),
)
spoken_bare w (spoken.RequestsGlobally wanted judged) is none = (
  λ n window passed grew v h. h,
  (
    λ granted. ended_keeps (settles_global (global_reply granted None))
        (settles_keeps (global_reply granted None)),
    tt,
  ),
)
spoken_bare w (spoken.RequestsGloballyUnknown wanted) is none =
    (λ n window passed grew v h. h, (settles_keeps (global_reply false None), tt))
spoken_bare w (spoken.GivesUpSessions wanted) is none = (
  λ n window passed grew v h. h,
  (λ n window passed grew v h. h, (settles_keeps (global_reply true None), tt)),
)
spoken_bare w (spoken.Settles told) is none = (λ n window passed grew v h. h, notes_bare told)
spoken_bare w spoken.Inconsistent is none = tt

-- .. and of what is read apart
abbrev pub BringsNoData : Said → Type 0
BringsNoData (Connection said) = IsNoData said
BringsNoData _ = Unit {0}

pub owed_bare : (w : World) (said : Said) → IsBareSaid said → BringsNoData said →
    AreBare (owed w said)
owed_bare w (Open message) is none =
    open_bare (next_number w.channels.lines) message
    (handling w.channels.no_more_sessions message.typ)
owed_bare w (Agreed message) is none =
    confirmation_bare (is_waiting w message.recipient_channel) message
owed_bare w (Connection said) is none = spoken_bare w said is none
owed_bare w Unread is none = tt
owed_bare w Disconnect is none = tt
owed_bare w Over_cap is none = (
  λ n window passed grew v h. (
    h.0,
    written_room n passed window grew (at_once too_many_attempts ∷ []) v.channels.lines (refl, tt)
        h.1,
  ),
  tt,
)
owed_bare w (Unfit why) is none = tt
owed_bare w Without_packets is none = tt
owed_bare w _ is none = tt
