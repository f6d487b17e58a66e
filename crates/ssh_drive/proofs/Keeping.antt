-- What was sent on the channels stays what has to be sent, by each move (RFC 4254 section 5).
use Rattle.std.proofs.Common.{◌≡◌, ℕ, List, [], ◌∷◌, ◌++◌, map, Bool, true, false, cond, None}
use Rattle.std.proofs.Common.{refl, sym, ◌∙◌, ap, subst, append_assoc}
use Rattle.std.specs.Prelude.{flat_map}
use Rattle.std.proofs.lemmas.List.{append-nil}
use Rattle.ssh_link.specs.declared.command.Command.{Command}
use Rattle.ssh_link.specs.declared.frame.Input.{Input}
use Rattle.ssh_link.specs.declared.link.TraceEntry.{TraceEntry}
use Rattle.ssh_link.specs.declared.link.TraceEntry.TheVariants.{Took, Sent, Noticed}
use Rattle.ssh_link.specs.declared.notice.Notice.{Notice}
use Rattle.ssh_link.specs.declared.outcome.CommandOutcome.{CommandOutcome}
use Rattle.ssh_auth.specs.Plan.{Plan, Finish, Event, Follows, told_in}
use Rattle.ssh_auth.specs.Publickey.{Acceptance}
use Rattle.ssh_channels.specs.Calls.{Flush_line}
use Rattle.ssh_channels.specs.Lines.{find, goes_on, last_left}
use Rattle.ssh_channels.specs.Sent.{IsKept, IsQuiet, since}
use Rattle.ssh_channels.proofs.Traces.{since_both}
use Rattle.ssh_rules.specs.Acts.{Beginning, acts, exchanged, frames_given, moved, tell_all}
use Rattle.ssh_session.specs.Between.{OwesBehind, flushed}
use Rattle.ssh_rules.specs.Effect.{Brings, effect}
use Rattle.ssh_rules.specs.Outcome.{Outcome, Goes}
use Rattle.ssh_rules.specs.Run.{Turn, Owes, begins, going_out, hand_on, handed_on, is_due}
use Rattle.ssh_rules.specs.World.{World, lined}
use Rattle.ssh_rules.proofs.Ledger.Absent.{goes_on_absent}
use Rattle.ssh_rules.proofs.Ledger.Pending.{goes_on_pends}
use Rattle.ssh_rules.proofs.Plans.Acting.{EffectComes}
use Rattle.ssh_rules.proofs.Ledger.Inputs.{given_quiet, all_quiet, handed_kept, owed_kept}
use Rattle.ssh_rules.proofs.Ledger.Commands.{Kept, call_on, effect_on, keyed_on, renewed_on}
use Rattle.ssh_rules.proofs.Plans.Passing.{moved_on}
use Rattle.ssh_drive.specs.Moves.{Place, Made, Served, Said, Let_out, Handed_on, Leads, Drives}
use Rattle.ssh_drive.specs.Moves.{coming, told_of}
use Rattle.ssh_drive.proofs.Behind.{told_first, owes_live}

-- ---- what is on no channel

notices_quiet : (notices : List Notice) → IsQuiet (map Noticed notices)
notices_quiet [] = tt
notices_quiet (notice ∷ notices) = notices_quiet notices

noticed_kept : (past : List TraceEntry) (notices : List Notice) (w : World) → Kept past w
    → Kept (past ++ map Noticed notices) w
noticed_kept past notices w k =
    all_quiet past (map Noticed notices) w (notices_quiet notices) k

-- ---- a payload

-- whether the link tells that it gave an input is nothing to the channels
untaken : (past more : List TraceEntry) (commands replies : Bool) (input : Input) (w : World)
    → Kept (past ++ Took commands replies input ∷ more) w → Kept (past ++ more) w
untaken past more commands replies input w k =
    let lines = w.channels.lines in
    let written = map Sent lines.written in
    let took = Took commands replies input in
    let same : (n : ℕ) → since n ((past ++ took ∷ more) ++ written)
    ≡ since n ((past ++ more) ++ written) =
    λ n. ap (since n) (append_assoc past (took ∷ more) written)
    ∙ (since_both n [] past (took ∷ (more ++ written))
    ∙ (sym (since_both n [] past (more ++ written))
    ∙ ap (since n) (sym (append_assoc past more written)))) in
    record {
      ledger = λ n. subst (IsKept (find n lines.entries) (last_left n lines.left)) (same n)
          (k.ledger n);
      due = k.due;
      waiting = k.waiting;
    }

owed_so : {E F : Type 0} (accepts : Acceptance) (past : List TraceEntry) (w : World)
    (input : Input) (plan : Plan Outcome) (events : List (Event E F)) (world : World)
    → Owes accepts w input plan → Follows plan events (Goes world) → Kept past w
    → Kept (past ++ told_in events) world
owed_so {E} {F} accepts past w input plan events world owes follows k =
    let turn : Turn E F = record {
      input = input;
      commands = false;
      replies = false;
      events = events;
    } in
    untaken past (told_in events) false false input world
    (owed_kept accepts past w turn plan world owes follows k)

-- behind the notices
joined : (past first rest all : List TraceEntry) (w : World) → all ≡ first ++ rest
    → Kept ((past ++ first) ++ rest) w → Kept (past ++ all) w
joined past first rest all w is k =
    subst (λ l. Kept (past ++ l) w) (sym is)
    (subst (λ t. Kept t w) (append_assoc past first rest) k)

served_kept : {E F : Type 0} (accepts : Acceptance) (past : List TraceEntry) (w : World)
    (notices : List Notice) (input : Input) (plan : Plan Outcome) (events : List (Event E F))
    (world : World) → OwesBehind notices accepts w input plan → Follows plan events (Goes world)
    → Kept past w → Kept (past ++ told_in events) world
served_kept accepts past w notices input plan events world (later, owes, is) follows k =
    let told = told_first (map Noticed notices) later events (Goes world)
    (subst (λ p. Follows p events (Goes world)) is follows) in
    joined past (map Noticed notices) (told_in told.0) (told_in events) world told.1
    (owed_so accepts (past ++ map Noticed notices) w input later told.0 world
    (owes_live w.disconnected accepts w input later told.0 world owes told.2) told.2
    (noticed_kept past notices w k))

-- ---- a command

said_kept : (past : List TraceEntry) (w : World) (command : Command) (notices : List Notice)
    (outcome : CommandOutcome) (world : World) → effect w command ≡ Brings notices outcome world
    → Kept past w → Kept (past ++ []) world
said_kept past w command notices outcome world is k =
    subst (λ t. Kept t world) (sym (append-nil past))
    (subst (EffectComes (Kept past)) is (effect_on None past w command k))

-- ---- what is handed on

-- nothing follows
finished_kept : {E F : Type 0} (past : List TraceEntry) (w : World) (events : List (Event E F))
    (world : World) → Follows (Finish (Goes w)) events (Goes world) → Kept past w
    → Kept (past ++ told_in events) world
finished_kept past w [] world h k =
    let same : w ≡ world = let e : Finish (Goes w) ≡ Finish (Goes world) = h in cc in
    subst (λ t. Kept t world) (sym (append-nil past)) (subst (Kept past) same k)
finished_kept past w (event ∷ events) world h k = absurd h

-- this side begins an exchange of keys
exchanged_kept : {E F : Type 0} (past : List TraceEntry) (w : World) (payload : List ℕ)
    (events : List (Event E F)) (world : World)
    → Follows (exchanged Beginning payload w (acts [])) events (Goes world) → Kept past w
    → Kept (past ++ told_in events) world
exchanged_kept past w payload events world h k =
    let frames = map Sent (frames_given (payload ∷ [])) in
    let v = moved Beginning payload w in
    let told = told_first frames (Finish (Goes v)) events (Goes world) h in
    let turned = moved_on (Kept past) Beginning payload w
    (λ keys later. keyed_on past w keys later k) (λ keys. renewed_on past w keys k) in
    joined past frames (told_in told.0) (told_in events) world told.1
    (finished_kept (past ++ frames) v told.0 world told.2
    (all_quiet past frames v (given_quiet (payload ∷ [])) turned))

begun_kept : {E F : Type 0} (due : Bool) (past : List TraceEntry) (w : World)
    (events : List (Event E F)) (world : World)
    → Follows (acts (begins due) w) events (Goes world) → Kept past w
    → Kept (past ++ told_in events) world
begun_kept false past w events world h k = finished_kept past w events world h k
begun_kept true past w [] world h k =
    absurd (let e : acts (begins true) w ≡ Finish (Goes world) = h in cc)
begun_kept true past w (event ∷ events) world (payload, stepped, follows) k =
    subst (λ l. Kept (past ++ l) world)
    (ap (λ first. told_in (first ∷ events)) (sym stepped))
    (exchanged_kept past w payload events world follows k)

flushed_kept : {E F : Type 0} (ended due : Bool) (past : List TraceEntry) (w : World)
    (events : List (Event E F)) (world : World)
    → Follows (cond ended (Finish (Goes w)) (acts (begins due) w)) events (Goes world)
    → Kept past w → Kept (past ++ told_in events) world
flushed_kept true due past w events world h k = finished_kept past w events world h k
flushed_kept false due past w events world h k = begun_kept due past w events world h k

flush_kept : {E F : Type 0} (past : List TraceEntry) (w : World) (events : List (Event E F))
    (world : World) → Follows (hand_on w flushed) events (Goes world) → Kept past w
    → Kept (past ++ told_in events) world
flush_kept past w events world h k =
    let v = handed_on w in
    let frames = map Sent (going_out w) in
    let told = told_first frames (flushed v) events (Goes world) h in
    joined past frames (told_in told.0) (told_in events) world told.1
    (flushed_kept v.disconnected (is_due false v) (past ++ frames) v told.0 world told.2
    (handed_kept past w k))

handed_on_kept : {E F : Type 0} (past : List TraceEntry) (w : World) (notices : List Notice)
    (events : List (Event E F)) (world : World)
    → Follows (tell_all (map Noticed notices) (hand_on w flushed)) events (Goes world)
    → Kept past w → Kept (past ++ told_in events) world
handed_on_kept past w notices events world h k =
    let told = told_first (map Noticed notices) (hand_on w flushed) events (Goes world) h in
    joined past (map Noticed notices) (told_in told.0) (told_in events) world told.1
    (flush_kept (past ++ map Noticed notices) w told.0 world told.2
    (noticed_kept past notices w k))

-- ---- what waits on a channel is written, unless the connection was ended

let_out_kept : (ended : Bool) (past : List TraceEntry) (n : ℕ) (w : World) → Kept past w
    → Kept past (cond ended w (lined (goes_on n) w))
let_out_kept true past n w k = k
let_out_kept false past n w k =
    call_on past (Flush_line n false) w tt refl (λ m. goes_on_absent m n w.channels.lines)
    (goes_on_pends n w.channels.lines) k

-- ---- moves

pub lead_kept : {E F : Type 0} (accepts : Acceptance) (moment : ℕ) (past : List TraceEntry)
    (before : Place) (made : Made E F) (after : Place) → Leads accepts moment before made after
    → Kept past before.world → Kept (past ++ told_of made) after.world
lead_kept accepts moment past before (Served payload events) after leads k =
    served_kept accepts past before.world before.untold (coming moment payload) leads.0 events
    after.world leads.1 leads.2 k
lead_kept accepts moment past before (Said command outcome) after leads k =
    said_kept past before.world command leads.0 outcome after.world leads.1 k
lead_kept accepts moment past before (Let_out channel count) after leads k =
    subst (λ t. Kept t after.world) (sym (append-nil past))
    (subst (λ (place : Place). Kept past place.world) (sym leads.1)
    (let_out_kept before.world.disconnected past channel.0 before.world k))
lead_kept accepts moment past before (Handed_on events) after leads k =
    handed_on_kept past before.world before.untold events after.world
    (subst (λ p. Follows p events (Goes after.world)) leads.1 leads.2) k

pub drive_kept : {E F : Type 0} (accepts : Acceptance) (moment : ℕ) (past : List TraceEntry)
    (before : Place) (made : List (Made E F)) (after : Place)
    → Drives accepts moment before made after → Kept past before.world
    → Kept (past ++ flat_map told_of made) after.world
drive_kept accepts moment past before [] after drives k =
    subst (λ t. Kept t after.world) (sym (append-nil past))
    (subst (λ place. Kept past place.world) (sym drives) k)
drive_kept accepts moment past before (one ∷ made) after drives k =
    subst (λ t. Kept t after.world) (append_assoc past (told_of one) (flat_map told_of made))
    (drive_kept accepts moment (past ++ told_of one) drives.0 made after drives.2
    (lead_kept accepts moment past before one drives.0 drives.1 k))
