-- What a program does with a session that it drives itself: it serves payloads of the peer, gives
-- commands between them, lets out what waits on channels, and hands on what was written.
use Rattle.std.specs.Prelude.{◌≡◌, ◌⊎◌, ℕ, Bool, false, List, [], ◌∷◌, ◌++◌, Option, Some}
use Rattle.std.specs.Prelude.{None, Result, Ok, Err}
use Rattle.ssh_wire.specs.declared.channel_id.ChannelId.{ChannelId}
use Rattle.ssh_channels.specs.Lines.{goes_on}
use Rattle.ssh_link.specs.declared.command.Command.{Command}
use Rattle.ssh_link.specs.declared.frame.Input.{Input}
use Rattle.ssh_link.specs.declared.frame.InputKind.TheVariants as input
use Rattle.ssh_link.specs.declared.kex.KexCall.{KexCall}
use Rattle.ssh_link.specs.declared.link.TraceEntry.{TraceEntry}
use Rattle.ssh_link.specs.declared.notice.Notice.{Notice}
use Rattle.ssh_link.specs.declared.outcome.CommandOutcome.{CommandOutcome}
use Rattle.ssh_auth.specs.declared.call.Call.{Call}
use Rattle.ssh_auth.specs.Plan.{Plan, Event, Follows, calls_in, steps_in, told_in}
use Rattle.ssh_auth.specs.Publickey.{Acceptance}
use Rattle.ssh_rules.specs.declared.error.FlushError.{FlushError}
use Rattle.ssh_rules.specs.declared.error.FlushError.TheVariants as flush
use Rattle.ssh_rules.specs.declared.error.Flow.{Flow}
use Rattle.ssh_rules.specs.declared.error.Flow.TheVariants.{Continue, Ended}
use Rattle.ssh_session.specs.Between.{OwesBehind, OwesNotices, OwesFlush, goes_out_unless_ended}
use Rattle.ssh_rules.specs.Effect.{Brings, effect}
use Rattle.ssh_rules.specs.Outcome.{Outcome, Goes, Ends}
use Rattle.ssh_rules.specs.Cause.{Cause, Wants_memory, Link_failed, Broken_by, IsCaused}
use Rattle.ssh_rules.specs.Cause.{cause_of, is_refused}
use Rattle.ssh_rules.specs.World.{Settings, World, lined, opening_world, unless_ended}
use Rattle.ssh_drive.specs.declared.moves.Move.{Move}
use Rattle.ssh_drive.specs.declared.moves.Move.TheVariants.{Payload, Say, LetOut, HandOn}
use Rattle.ssh_drive.specs.declared.moves.MoveError.{MoveError}
use Rattle.ssh_drive.specs.declared.moves.MoveError.TheVariants as error

-- between two moves: how far the session has come, and the notices that commands gave and nobody
-- was told yet
pub record Place : Type 0 where
  pub world : World
  pub untold : List Notice

abbrev pub placed : World → List Notice → Place
placed world untold = record { world = world; untold = untold }

-- before the first one
abbrev pub opening_place : Settings → Place
opening_place settings = placed (opening_world settings) []

-- a move, with what happened: a payload was served, a command came to this, so many bytes of data
-- that waited on a channel were written, or what was written was handed on, for which no handler is
-- called
pub data Made (E F : Type 0) : Type 0 where
  Served : (payload : List ℕ) → (events : List (Event E F)) → Made E F
  Said : (command : Command) → (outcome : CommandOutcome) → Made E F
  Let_out : (channel : ChannelId) → (count : ℕ) → Made E F
  Handed_on : (events : List (Event (Unit {0}) F)) → Made E F

abbrev pub move_of : {E F : Type 0} → Made E F → Move
move_of (Served payload events) = Payload payload
move_of (Said command outcome) = Say command
move_of (Let_out channel count) = LetOut channel
move_of (Handed_on events) = HandOn

-- the callbacks that were made, what the exchange of keys was asked, and what the link was told
abbrev pub calls_of : {E F : Type 0} → Made E F → List (Call E)
calls_of (Served payload events) = calls_in events
calls_of _ = []

abbrev pub steps_of : {E F : Type 0} → Made E F → List (KexCall F)
steps_of (Served payload events) = steps_in events
steps_of (Said command outcome) = []
steps_of (Let_out channel count) = []
steps_of (Handed_on events) = steps_in events

abbrev pub told_of : {E F : Type 0} → Made E F → List TraceEntry
told_of (Served payload events) = told_in events
told_of (Said command outcome) = []
told_of (Let_out channel count) = []
told_of (Handed_on events) = told_in events

-- a payload that comes at this moment
abbrev pub coming : (moment : ℕ) → (payload : List ℕ) → Input
coming moment payload = record { moment = moment; kind = input.Payload payload }

-- the move was finished, and leads from one place to another: a payload owes the notices, its row
-- and the frames, a command has its effect and gives notices, what waits on a channel is written as
-- far as the peer's grants go, and handing on owes the notices and the frames
abbrev pub Leads : {E F : Type 0} → Acceptance → (moment : ℕ) → Place → Made E F → Place → Type 0
Leads accepts moment before (Served payload events) after = (plan : Plan Outcome)
    × OwesBehind before.untold accepts before.world (coming moment payload) plan
    × Follows plan events (Goes after.world) × (after.untold ≡ [])
Leads accepts moment before (Said command outcome) after = (notices : List Notice)
    × (effect before.world command ≡ Brings notices outcome after.world)
    × (after.untold ≡ before.untold ++ notices)
Leads accepts moment before (Let_out channel count) after =
    (count ≡ goes_out_unless_ended before.world channel.0)
    × (after ≡ placed (unless_ended (lined (goes_on channel.0)) before.world) before.untold)
Leads accepts moment before (Handed_on events) after = (plan : Plan Outcome)
    × OwesFlush before.untold before.world plan × Follows plan events (Goes after.world)
    × (after.untold ≡ [])

-- these one after another
abbrev pub Drives : {E F : Type 0} → Acceptance → (moment : ℕ) → Place → List (Made E F) → Place
    → Type 0
Drives accepts moment before [] after = after ≡ before
Drives accepts moment before (made ∷ more) after = (mid : Place)
    × Leads accepts moment before made mid × Drives accepts moment mid more after

-- ---- the last one

-- a payload owes its row behind the notices; or the link failed, or had no memory, as it was told
-- these, and the payload was not looked at
abbrev pub OwesOrStops : Acceptance → (moment : ℕ) → Place → (payload : List ℕ) → Plan Outcome
    → Type 0
OwesOrStops accepts moment place payload plan =
    OwesBehind place.untold accepts place.world (coming moment payload) plan
    ⊎ OwesNotices place.untold place.world plan

-- why handing on was not finished
abbrev pub flush_cause : {F : Type 0} → FlushError F → Cause (Unit {0}) F
flush_cause flush.NoMemory = Wants_memory
flush_cause flush.LinkFault = Link_failed
flush_cause (flush.Kex e) = Broken_by e

-- how it ends: all went well; a payload ended the connection, or was not finished by a cause; what
-- was written was not handed on by a cause; or memory was wanting for a command, for what a channel
-- lets out, or for the session
abbrev pub EndsSo : {E F : Type 0} → Acceptance → (moment : ℕ) → Place → Option (Made E F)
    → (rose : Type 0) → Result Flow (MoveError E F) → Type 0
EndsSo accepts moment place None rose (Ok Continue) = Unit {0}
EndsSo accepts moment place (Some (Served payload events)) rose (Ok Ended) = (plan : Plan Outcome)
    × OwesBehind place.untold accepts place.world (coming moment payload) plan
    × ((world : World) × Follows plan events (Ends world))
EndsSo accepts moment place (Some (Served payload events)) rose (Err (error.Payload e)) =
    (plan : Plan Outcome) × OwesOrStops accepts moment place payload plan
    × IsCaused (cause_of e) plan rose events
EndsSo accepts moment place (Some (Handed_on events)) rose (Err (error.HandOn e)) =
    (plan : Plan Outcome) × OwesFlush place.untold place.world plan
    × IsCaused (flush_cause e) plan rose events
EndsSo accepts moment place None rose (Err error.NoMemory) = Unit {0}
EndsSo accepts moment place _ rose _ = ⊥

-- after a callback that answered an error the handler may tell nothing
abbrev pub may_stop_telling : {E F : Type 0} → Result Flow (MoveError E F) → Bool
may_stop_telling (Err (error.Payload e)) = is_refused (cause_of e)
may_stop_telling _ = false
