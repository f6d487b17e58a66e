-- What holds of worlds holds through what concerns no channel: commands, global requests and their
-- replies, ticks (RFC 4254 section 4).
use Rattle.std.proofs.Common.{◌≡◌, ℕ, List, [], ◌∷◌, Bool, true, false, cond, Option, Some, None}
use Rattle.std.proofs.Common.{refl}
use Rattle.std.specs.Prelude.{if◌then◌else◌}
use Rattle.ssh_link.specs.declared.command.Command.{Command}
use Rattle.ssh_link.specs.declared.command.Command.TheVariants as command
use Rattle.ssh_link.specs.declared.notice.Notice.{Notice}
use Rattle.ssh_link.specs.declared.outcome.Refusal.{Refusal}
use Rattle.ssh_link.specs.declared.outcome.Refusal.TheVariants.{TooLong}
use Rattle.ssh_wire.specs.Messages.{written, request_success, request_failure}
use Rattle.ssh_auth.specs.declared.question.Judged.{Judged}
use Rattle.ssh_rules.specs.declared.messages.Spoken.TheVariants as spoken
use Rattle.ssh_rules.specs.Effect.{Effect, said, sends, done_apart, opens_or_not}
use Rattle.ssh_rules.specs.Effect.{refuses, accepts, is_too_long, refused_or}
use Rattle.ssh_rules.specs.GlobalReplied.{is_global_reply}
use Rattle.ssh_rules.specs.Layout.{at_once}
use Rattle.ssh_rules.specs.OwnMessages.{OwnMessage, forward_request, cancel, keepalive, ping, debug}
use Rattle.ssh_rules.specs.OwnMessages.{disconnect_message}
use Rattle.ssh_rules.specs.OwnOpens.{OwnOpen, own_open_of}
use Rattle.ssh_rules.specs.Outcome.{Keepalive_timeout, Fails}
use Rattle.ssh_rules.specs.Acts.{Stops, Turns}
use Rattle.ssh_rules.specs.Rows.{spoken_acts, bound_to, global_reply, notes, gives_up_sessions}
use Rattle.ssh_rules.specs.Ticks.{keepalive_acts, ticked, is_too_many, one_more}
use Rattle.ssh_rules.specs.World.{World, wants_global, settles_global, settled_first}
use Rattle.ssh_rules.specs.World.{unless_ended}
use Rattle.ssh_rules.proofs.Plans.Acting.{EffectComes, Law, ActsCome}

-- what holds of two worlds holds of the one that a test leads to
pub either : (holds : World → Type 0) (b : Bool) (v w : World) → holds v → holds w
    → holds (cond b v w)
either holds true v w h k = h
either holds false v w h k = k

-- ---- commands

-- a command that is refused leaves the world
pub refused_comes : (holds : World → Type 0) (why : Option Refusal) (w : World) (does : Effect)
    → holds w → EffectComes holds does → EffectComes holds (refused_or why w does)
refused_comes holds None w does h k = k
refused_comes holds (Some why) w does h k = h

sent_step : (holds : World → Type 0) (message : OwnMessage) (w : World) (long : Bool) → holds w
    → holds (said message w)
    → EffectComes holds (if long then refuses TooLong w else accepts (said message w))
sent_step holds message w true h k = h
sent_step holds message w false h k = k

-- a message is sent, or is too long
pub sent_comes : (holds : World → Type 0) (message : OwnMessage) (w : World) → holds w
    → holds (said message w) → EffectComes holds (sends message w)
sent_comes holds message w h k = sent_step holds message w (is_too_long message.payload) h k

-- what holds through each message that is sent, which is no reply to a global request, each such
-- reply and each open, holds through each command of no channel
module _ (holds : World → Type 0)
    (saying : (message : OwnMessage) (w : World)
    → is_global_reply (at_once message.payload) ≡ false → holds w → holds (said message w))
    (settling : (payload : List ℕ) (w : World) → holds w → holds (settles_global payload w))
    (opening : (asked : Option OwnOpen) (w : World) → holds w
    → EffectComes holds (opens_or_not asked w))
  where
    sent : (message : OwnMessage) (w : World) → is_global_reply (at_once message.payload) ≡ false
        → holds w → EffectComes holds (sends message w)
    sent message w unlike h = sent_comes holds message w h (saying message w unlike h)

    pub own_comes : (w : World) (one : Command) → holds w → EffectComes holds (done_apart w one)
    own_comes w (command.TcpipForward address port reply) h =
        sent (forward_request address port reply) w refl h
    own_comes w (command.CancelTcpipForward address port reply) h =
        sent (cancel address port reply) w refl h
    own_comes w command.Keepalive h = sent keepalive w refl h
    own_comes w (command.Ping slot) h = sent (ping slot) w refl h
    own_comes w command.RequestSuccess h = settling (written request_success tt) w h
    own_comes w command.RequestFailure h = settling (written request_failure tt) w h
    own_comes w (command.Debug always message language) h =
        sent (debug always message language) w refl h
    own_comes w (command.Disconnect reason description language) h =
        sent (disconnect_message reason description language) w refl h
    own_comes w other h = opening (own_open_of other) w h

-- .. and what holds through each message at all
pub apart_comes : (holds : World → Type 0)
    (saying : (message : OwnMessage) (w : World) → holds w → holds (said message w))
    (settling : (payload : List ℕ) (w : World) → holds w → holds (settles_global payload w))
    (opening : (asked : Option OwnOpen) (w : World) → holds w
    → EffectComes holds (opens_or_not asked w))
    (w : World) (one : Command) → holds w → EffectComes holds (done_apart w one)
apart_comes holds saying settling opening w one h =
    own_comes holds (λ message v unlike k. saying message v k) settling opening w one h

-- ---- rows

pub notes_come : (law : Law) (told : Option Notice) (w : World) → ActsCome law (notes told) w
notes_come law None w = tt
notes_come law (Some notice) w = tt

-- a law that holds through what the peer's global requests and the replies to this side's change
module _ (law : Law)
    (wanting : (wanted : Bool) (w : World) → law.holds w → law.holds (wants_global wanted w))
    (settling : (payload : List ℕ) (w : World) → law.holds w
    → law.holds (settles_global payload w))
    (first : (w : World) → law.holds w → law.holds (settled_first w))
  where
    pub settled_unless_ended : (payload : List ℕ) (w : World) → law.holds w
        → law.holds (unless_ended (settles_global payload) w)
    settled_unless_ended payload w h =
        either law.holds w.disconnected w (settles_global payload w) h (settling payload w h)

    pub forward_comes : (w : World) (wanted : Bool) (address : List ℕ) (port : ℕ) → law.holds w
        → ActsCome law (spoken_acts w (spoken.RequestsForward wanted address port)) w
    forward_comes w wanted address port h = (
      wanting wanted w h,
      λ granted bound world k. (
        settled_unless_ended (global_reply granted (bound_to port bound)) world k,
        tt,
      ),
    )

    pub asked_comes : (w : World) (wanted : Bool) (judged : Judged) → law.holds w
        → ActsCome law (spoken_acts w (spoken.RequestsGlobally wanted judged)) w
    asked_comes w wanted judged h = (
      wanting wanted w h,
      λ granted world k. (settled_unless_ended (global_reply granted None) world k, tt),
    )

    pub unknown_comes : (w : World) (wanted : Bool) → law.holds w
        → ActsCome law (spoken_acts w (spoken.RequestsGloballyUnknown wanted)) w
    unknown_comes w wanted h = (
      wanting wanted w h,
      (settling (global_reply false None) (wants_global wanted w) (wanting wanted w h), tt),
    )

    pub given_up_comes : (w : World) (wanted : Bool) → law.holds (gives_up_sessions w)
        → ActsCome law (spoken_acts w (spoken.GivesUpSessions wanted)) w
    given_up_comes w wanted h =
        let v = gives_up_sessions w in
        let k = wanting wanted v h in
        (h, (k, (settling (global_reply true None) (wants_global wanted v) k, tt)))

    pub settles_comes : (w : World) (told : Option Notice) → law.holds w
        → ActsCome law (spoken_acts w (spoken.Settles told)) w
    settles_comes w told h = (first w h, notes_come law told (settled_first w))

-- ---- ticks

tick_step : (law : Law) (w : World) (many : Bool) → law.comes (Fails Keepalive_timeout)
    → law.holds (said keepalive (ticked w))
    → ActsCome law (if many then Stops Keepalive_timeout ∷ []
    else Turns (λ v. said keepalive (ticked v)) ∷ []) w
tick_step law w true stops h = stops
tick_step law w false stops h = (h, tt)

-- a keepalive tick
pub tick_comes : (law : Law) (w : World) → law.comes (Fails Keepalive_timeout)
    → law.holds (said keepalive (ticked w)) → ActsCome law (keepalive_acts w) w
tick_comes law w stops h =
    tick_step law w (is_too_many w.settings.config (one_more w.keepalives)) stops h
