-- Rows, by what is found on their channel.
use Rattle.std.proofs.Common.{◌≡◌, ◌⊎◌, inl, inr, ℕ, Bool, true, false, List, [], Option, Some}
use Rattle.std.proofs.Common.{None, length, not, Err, refl, sym, ap, subst, cond, ◌∙◌, ◌∷◌, ◌++◌}
use Rattle.std.specs.Prelude.{IsErrAnd, Result, option_to_list, map}
use Rattle.ssh_link.specs.declared.link.TraceEntry.TheVariants.{Noticed}
use Rattle.ssh_link.specs.declared.notice.Notice.{Notice}
use Rattle.std.proofs.lemmas.Result.{err_from_is_err_and}
use Rattle.ssh_wire.specs.declared.error.LayoutError.{LayoutError}
use Rattle.ssh_wire.specs.declared.error.LayoutError.TheVariants as layout
use Rattle.ssh_wire.specs.declared.error.WireError.TheVariants as wire
use Rattle.ssh_wire.specs.declared.open.OpenChannelMessage.{OpenChannelMessage}
use Rattle.ssh_wire.specs.Open.{SpellsOpen, MisfitsOpen}
use Rattle.ssh_channels.specs.declared.error.TableError.{TableError}
use Rattle.ssh_channels.specs.declared.error.TableError.TheVariants as table
use Rattle.ssh_channels.specs.declared.adjusted.Adjusted.{Adjusted}
use Rattle.ssh_channels.specs.declared.chunk.Chunk.{Chunk}
use Rattle.ssh_channels.specs.Does.{credit_after, coming_of, is_one, does}
use Rattle.ssh_channels.specs.Entry.{Entry}
use Rattle.ssh_channels.specs.Lines.{Lines, find, where_found, takes_grant, takes_in, peer_closes}
use Rattle.ssh_channels.specs.Lines.{fails, confirms}
use Rattle.ssh_channels.specs.Line.{is_opening}
use Rattle.ssh_channels.specs.Table.{has}
use Rattle.ssh_channels.specs.Calls.{Fail_open, Confirm}
use Rattle.ssh_channels.proofs.Keeping.{op_answers}
use Rattle.ssh_wire.specs.declared.channel_id.ChannelId.{ChannelId}
use Rattle.ssh_wire.specs.declared.open.ChannelOpenConfirmation.{ChannelOpenConfirmation}
use Rattle.ssh_wire.specs.declared.open_failure.ChannelOpenFailure.{ChannelOpenFailure}
use Rattle.ssh_channels.specs.Lines.{next_number}
use Rattle.ssh_auth.specs.Plan.{Plan, Finish}
use Rattle.ssh_rules.specs.declared.error.Flow.{Flow}
use Rattle.ssh_rules.specs.declared.error.RunError.{RunError}
use Rattle.ssh_serving.specs.declared.server.Server.{Server}
use Rattle.ssh_rules.specs.Acts.{Act, Stops, acts, tell_all}
use Rattle.ssh_rules.specs.Failure.{error_of_layout, error_of_table}
use Rattle.ssh_rules.specs.Heard.{Heard}
use Rattle.ssh_rules.specs.Opens.{own}
use Rattle.ssh_rules.specs.Outcome.{Outcome, Fails, Channels_full}
use Rattle.ssh_rules.specs.declared.messages.Spoken.TheVariants.{Data, Failed}
use Rattle.ssh_rules.specs.Reading.{Said, Open, Unread, Unfit, Without_packets, SaysOpen}
use Rattle.ssh_rules.specs.Rows.{on, on_entry, on_confirmed, grant_acts, credit_left, data_acts}
use Rattle.ssh_rules.specs.Rows.{spoken_acts, failure_acts, row, notes, data_told}
use Rattle.ssh_rules.proofs.Read.Misread.{full_packet}
use Rattle.ssh_rules.specs.Cause.{comes}
use Rattle.ssh_serving.specs.Serve.{Refines, ComesTo, Completes, Serves}
use Rattle.ssh_rules.specs.World.{World, lined, is_there, is_waiting, target_on}
use Rattle.ssh_serving.proofs.Serving.{unfit, starves, hears_nothing}

-- ---- a row on a channel, where there is one and where there is none

nothing_at : (found : Option Entry) (owes : Entry → List Act) → is_one (λ e. e.confirmed) found
    ≡ false → on_entry found owes ≡ []
nothing_at None owes h = refl
nothing_at (Some e) owes h = ap (λ b. on_confirmed b (owes e)) h

all_at : (found : Option Entry) (now : List Act) → is_one (λ e. e.confirmed) found ≡ true
    → on_entry found (λ _. now) ≡ now
all_at None now h = absurd (cc)
all_at (Some e) now h = ap (λ b. on_confirmed b now) h

pub nothing_on : (n : ℕ) (w : World) (owes : Entry → List Act) → is_there w n ≡ false → on n w owes
    ≡ []
nothing_on n w owes h = nothing_at (find n w.channels.lines.entries) owes h

pub all_on : (n : ℕ) (w : World) (now : List Act) → is_there w n ≡ true → on n w (λ _. now) ≡ now
all_on n w now h = all_at (find n w.channels.lines.entries) now h

-- ---- a grant

granted_if : (b : Bool) (n amount credit left : ℕ) → cond b (Some left) None ≡ Some credit →
    on_confirmed b (grant_acts n amount left) ≡ grant_acts n amount credit
granted_if true n amount credit left h = let e : left ≡ credit = cc in ap (grant_acts n amount) e
granted_if false n amount credit left h = absurd (cc)

granted_at : (found : Option Entry) (n amount credit : ℕ) → credit_after amount found ≡ Some credit
    →
    on_entry found (λ e. grant_acts n amount (credit_left amount e)) ≡ grant_acts n amount credit
granted_at None n amount credit h = absurd (cc)
granted_at (Some e) n amount credit h = granted_if e.confirmed n amount credit
    (credit_left amount e) h

pub granted_on : (n amount credit : ℕ) (w : World)
    → credit_after amount (find n w.channels.lines.entries) ≡ Some credit →
    on n w (λ e. grant_acts n amount (credit_left amount e)) ≡ grant_acts n amount credit
granted_on n amount credit w h = granted_at (find n w.channels.lines.entries) n amount credit h

ungranted_if : (b : Bool) (left : ℕ) → cond b (Some left) None ≡ None → b ≡ false
ungranted_if true left h = absurd (cc)
ungranted_if false left h = refl

ungranted_at : (found : Option Entry) (amount : ℕ) → credit_after amount found ≡ None
    → is_one (λ e. e.confirmed) found ≡ false
ungranted_at None amount h = refl
ungranted_at (Some e) amount h = ungranted_if e.confirmed (credit_left amount e) h

pub ungranted_on : (n amount : ℕ) (w : World)
    → credit_after amount (find n w.channels.lines.entries) ≡ None → is_there w n ≡ false
ungranted_on n amount w h = ungranted_at (find n w.channels.lines.entries) amount h

-- ---- what a call leaves as it is, where there is no channel

unless_there : (found : Option Entry) (change : Entry → Lines → Lines) (l : Lines)
    → is_one (λ e. e.confirmed) found ≡ false →
    where_found found (λ e l. cond e.confirmed (change e l) l) l ≡ l
unless_there None change l h = refl
unless_there (Some e) change l h = ap (λ b. cond b (change e l) l) h

stays : (w : World) (change : Lines → Lines) → change w.channels.lines ≡ w.channels.lines
    → lined change w ≡ w
stays w change h = ap (λ l. record w { channels = record w.channels { lines = l } }) h

pub not_granted : (n amount : ℕ) (w : World) (session : Server) → is_there w n ≡ false →
    Refines session (lined (takes_grant n amount) w) → Refines session w
not_granted n amount w session h r =
    subst (Refines session)
    (stays w (takes_grant n amount) (unless_there (find n w.channels.lines.entries) _
    w.channels.lines h)) r

pub not_closed : (n : ℕ) (w : World) (session : Server) → is_there w n ≡ false →
    Refines session (lined (peer_closes n) w) → Refines session w
not_closed n w session h r =
    subst (Refines session) (stays w (peer_closes n) (unless_there (find n w.channels.lines.entries)
    _ w.channels.lines h)) r

-- ---- an open

abbrev pub finish : Flow → World → Plan Outcome
finish flow world = Finish (comes flow world)

pub unread_open : {E F : Type 0} (w : World) (moment : ℕ) (fields : List ℕ) (why : LayoutError)
    (a : Heard E F) (session : Server)
    → (why ≡ layout.Wire wire.NoMemory) ⊎ MisfitsOpen fields why → (said : Said)
    × SaysOpen fields said
    × Completes (row w moment said) a a session (Err (error_of_layout why))
unread_open w moment fields why a session (inl is) =
    rw is (Unread, tt, starves {T = Flow} (row w moment Unread) finish a session)
unread_open w moment fields (layout.Wire why) a session (inr h) =
    (Unfit why, h, unfit why finish a session)
unread_open w moment fields layout.Inconsistent a session (inr h) =
    (Without_packets, h, ([], hears_nothing false a, refl))

-- what the reader read
pub opened_by : (message : OpenChannelMessage) (left fields rest : List ℕ) → left ≡ fields
    → SpellsOpen message left rest → SaysOpen fields (Open message)
opened_by message left fields rest e h = (rest, subst (λ x. SpellsOpen message x rest) e h)

-- what is owed where every number is taken
abbrev pub IsFull : (Option ℕ → List Act) → Type 0
IsFull owes = owes None ≡ Stops Channels_full ∷ []

full_row : (owes : Option ℕ → List Act) (number : Option ℕ) (later : List Act) (w : World)
    → IsFull owes → number ≡ None → acts (owes number ++ later) w ≡ Finish (Fails Channels_full)
full_row owes number later w h is =
    ap (λ o. acts (owes o ++ later) w) is ∙ ap (λ l. acts (l ++ later) w) h

pub not_drawn : (E F : Type 0) (w : World) (owes : Option ℕ → List Act) (e : TableError)
    (later : List Act) (session : Server) → IsFull owes → (e ≡ table.Inconsistent → ⊥)
    → (e ≡ table.Full → next_number w.channels.lines ≡ None) →
    ComesTo {T = Unit {0}} {E = E} {F = F} (acts (owes (next_number w.channels.lines) ++ later) w)
    (λ _. acts later) ⊥ [] session (Err (error_of_table e))
not_drawn E F w owes table.NoMemory later session h n f =
    (acts (owes (next_number w.channels.lines) ++ later) w, refl)
not_drawn E F w owes table.Inconsistent later session h n f = absurd (n refl)
not_drawn E F w owes table.Full later session h n f =
    full_row owes (next_number w.channels.lines) later w h (f refl)

pub undrawn : {E F : Type 0} (w : World) (owes : Option ℕ → List Act) (e : TableError)
    (later : List Act) (session : Server) (error : RunError E F)
    (result : Result (Unit {0}) (RunError E F)) → IsErrAnd result (λ x. x ≡ error)
    → error ≡ error_of_table e → IsFull owes → (e ≡ table.Inconsistent → ⊥)
    → (e ≡ table.Full → next_number w.channels.lines ≡ None) →
    ComesTo (acts (owes (next_number w.channels.lines) ++ later) w)
    (λ _. acts later) ⊥ [] session result
undrawn {E} {F} w owes e later session error result i is h n f =
    let p = err_from_is_err_and result i in
    subst (λ r. ComesTo {T = Unit {0}} {E = E} {F = F}
    (acts (owes (next_number w.channels.lines) ++ later) w)
    (λ _. acts later) ⊥ [] session r) (sym (p.1 ∙ ap Err (p.2 ∙ is)))
    (not_drawn E F w owes e later session h n f)

-- ---- data that come in

arrives : (n : ℕ) (w : World) (piece : Chunk) (adjusted : Adjusted) →
    coming_of (length piece.bytes) (target_on n w) (find n w.channels.lines.entries) ≡ adjusted →
    spoken_acts w (Data (own n) piece) ≡ data_acts adjusted (own n) piece (target_on n w)
arrives n w piece adjusted h = ap (λ a. data_acts a (own n) piece (target_on n w)) h

-- data come in: what follows their taking, by the table's answer
pub arrived : {E F : Type 0} (n : ℕ) (w : World) (piece : Chunk) (adjusted : Adjusted)
    (later : List Act) (a b : Heard E F) (session : Server)
    (result : Result (Unit {0}) (RunError E F)) →
    coming_of (length piece.bytes) (target_on n w) (find n w.channels.lines.entries) ≡ adjusted →
    Serves (acts (data_told adjusted (own n) piece (target_on n w) ++ later)
    (lined (takes_in n (length piece.bytes) (target_on n w)) w)) (λ (_ : Unit {0}). acts later) a b
    session result →
    Serves (acts (spoken_acts w (Data (own n) piece) ++ later) w) (λ (_ : Unit {0}). acts later) a b
    session result
arrived n w piece adjusted later a b session result h k =
    subst (λ l. Serves (acts (l ++ later) w) (λ (_ : Unit {0}). acts later) a b session result)
    (sym (arrives n w piece adjusted h)) k

pub not_inconsistent : (e : TableError) → (e ≡ table.NoMemory) ⊎ (e ≡ table.Full) → e
    ≡ table.Inconsistent → ⊥
not_inconsistent e (inl h) i = absurd (cc)
not_inconsistent e (inr h) i = absurd (cc)

-- ---- opens of this side's

-- one that is open waits no longer
not_both : (found : Option Entry) → is_one (λ e. e.confirmed) found ≡ true
    → is_one (λ e. not e.confirmed) found ≡ false
not_both None h = refl
not_both (Some e) h = ap not h

pub open_waits_not : (n : ℕ) (w : World) → is_there w n ≡ true → is_waiting w n ≡ false
open_waits_not n w h = not_both (find n w.channels.lines.entries) h

-- what a refusal does, by what is found under its number
pub failure_by : (w : World) (channel : ChannelId) (reason : ChannelOpenFailure)
    (there waiting : Bool) → is_there w channel.0 ≡ there → is_waiting w channel.0 ≡ waiting
    → spoken_acts w (Failed channel reason) ≡ failure_acts there waiting channel reason
failure_by w channel reason there waiting t v =
    ap (λ b. failure_acts b (is_waiting w channel.0) channel reason) t
    ∙ ap (λ b. failure_acts there b channel reason) v

unless_waiting : (found : Option Entry) (change : Entry → Lines → Lines) (l : Lines)
    → is_one (λ e. not e.confirmed) found ≡ false →
    where_found found (λ e l. cond (not e.confirmed) (change e l) l) l ≡ l
unless_waiting None change l h = refl
unless_waiting (Some e) change l h = ap (λ b. cond b (change e l) l) h

pub not_failed : (n : ℕ) (w : World) (session : Server) → is_waiting w n ≡ false →
    Refines session (lined (fails n) w) → Refines session w
not_failed n w session h r =
    subst (Refines session) (stays w (fails n) (unless_waiting (find n w.channels.lines.entries)
    _ w.channels.lines h)) r

-- the table's answer
pub waiting_same : (n : ℕ) (session : Server) (w : World) → Refines session w
    → has is_opening n session.table ≡ is_waiting w n
waiting_same n session w r = let e = op_answers session.table w.channels.lines r.table
    (Fail_open n) in cc

-- what a confirmation that names a packet size does
pub confirms_as : (message : ChannelOpenConfirmation) (l : Lines)
    → (message.maximum_packet_size ≡ 0 → ⊥) → does (Confirm message) l
    ≡ confirms message.recipient_channel message.sender_channel message.initial_window_size
    message.maximum_packet_size l
confirms_as message l h =
    ap (λ b. cond b l (confirms message.recipient_channel message.sender_channel
    message.initial_window_size message.maximum_packet_size l))
    (full_packet message.maximum_packet_size h)

-- ---- what came of a global request of this side's

pub noted_as : (told : Option Notice) (later : List Act) (v : World) →
    acts (notes told ++ later) v
    ≡ tell_all (map Noticed (option_to_list told)) (acts later v)
noted_as None later v = refl
noted_as (Some notice) later v = refl
