-- After each input of a run each channel has sent what it has to.
use Rattle.std.proofs.Common.{◌≡◌, ◌≢◌, ◌<◌, ℕ, List, [], ◌∷◌, ◌++◌, map, Bool, true}
use Rattle.std.proofs.Common.{false, cond, refl, sym, subst, arith}
use Rattle.std.proofs.Common.{append_assoc}
use Rattle.ssh_rules.proofs.Read.Misread.{full_packet}
use Rattle.std.specs.Prelude.{drop, flat_map, filter, Result, Ok, Err}
use Rattle.ssh_wire.specs.declared.error.WireError.{WireError}
use Rattle.std.proofs.lemmas.List.{append-nil}
use Rattle.ssh_link.specs.declared.command.Command.TheVariants as command
use Rattle.ssh_link.specs.declared.frame.InputKind.{InputKind}
use Rattle.ssh_link.specs.declared.frame.InputKind.TheVariants as input
use Rattle.ssh_link.specs.declared.link.TraceEntry.{TraceEntry}
use Rattle.ssh_link.specs.declared.link.TraceEntry.TheVariants.{Took, Sent}
use Rattle.ssh_auth.specs.declared.question.Question.{Question}
use Rattle.ssh_auth.proofs.Back.{asked_so}
use Rattle.ssh_auth.specs.Plan.{Plan, Finish, Ask, Tell, Answer, Answered, Event, Called, Stepped}
use Rattle.ssh_auth.specs.Plan.{Told, Follows, after, told_in}
use Rattle.ssh_auth.specs.Publickey.{Acceptance, Circumstances}
use Rattle.ssh_channels.specs.Entry.{IsDue}
use Rattle.ssh_channels.specs.Lines.{Lines, hands_on}
use Rattle.ssh_channels.specs.Sent.{Each, IsQuiet}
use Rattle.ssh_channels.proofs.Booked.{hands_on_kept, quiet_kept}
use Rattle.ssh_rules.specs.declared.exchange.ExchangeState.{ExchangeState}
use Rattle.ssh_rules.specs.declared.exchange.ExchangeState.TheVariants.{Idle, Own, Both}
use Rattle.ssh_rules.specs.declared.gate.Gate.{Gate}
use Rattle.ssh_rules.specs.declared.gate.Gate.TheVariants as gate
use Rattle.ssh_rules.specs.Acts.{tell_all, acts, moved, frames_given, Beginning}
use Rattle.ssh_rules.specs.Exchange.{early_with, is_of_transport, is_running}
use Rattle.ssh_rules.specs.Gate.{gate_of}
use Rattle.ssh_rules.specs.Layout.{at_once}
use Rattle.ssh_rules.specs.Opening.{Opening}
use Rattle.ssh_rules.specs.Outcome.{Outcome, Goes, Ends, Fails}
use Rattle.ssh_rules.specs.Reading.{Said, Service, Open, Agreed, SaysConfirmation, Unread}
use Rattle.ssh_rules.specs.Reading.{Connection, Without_packets}
use Rattle.ssh_rules.specs.Reading.{Unfit, Says, SaysOpen, said_of}
use Rattle.ssh_rules.specs.Run.{Turn, Turns, Run, Owes, OwesKind, handed_on, finish_input}
use Rattle.ssh_rules.specs.Run.{entries, goes_unless_ended, going_out, begins, is_due}
use Rattle.ssh_rules.specs.Run.{asks_for_keys}
use Rattle.ssh_rules.specs.World.{Settings, World, circumstances, opening_world, hears, is_held}
use Rattle.ssh_rules.proofs.Plans.Acting.{PlanComes, exchange_comes}
use Rattle.ssh_rules.proofs.Ledger.Commands.{Kept, ComesKept, beside_on, keyed_on, renewed_on}
use Rattle.ssh_rules.proofs.Plans.Passing.{moved_on, payload_so}
use Rattle.ssh_rules.proofs.Ledger.Pending.{IsReserved}
use Rattle.ssh_rules.proofs.Ledger.Waiting.{AllWaiting}
use Rattle.ssh_rules.proofs.Ledger.Acts.{IsFairSaid, law, exchanged_on, row_kept}
use Rattle.ssh_rules.proofs.Ledger.Acts.{command_kept, tick_kept}
use Rattle.ssh_rules.proofs.Plans.Settled.{Anything}
use Rattle.ssh_rules.proofs.Plans.Telling.{IsUnsent, SendsNone, kind_silent}

-- with what is told meanwhile, the channels have sent what they have to
abbrev pub Books : (past : List TraceEntry) → Plan Outcome → Type 0
Books past (Finish outcome) = ComesKept past outcome
Books past (Ask question next) = (answer : Answer question) → Books past (next answer)
Books past (Tell entry next) = Books (past ++ entry ∷ []) next

pub quiet_entry : (entry : TraceEntry) (more : List TraceEntry) → IsUnsent entry → IsQuiet more
    → IsQuiet (entry ∷ more)
quiet_entry (Sent frame) more h q = (h.0, q)
quiet_entry _ more h q = q

pub kept_quiet : (past : List TraceEntry) (entry : TraceEntry) (w : World) → IsUnsent entry
    → Kept past w → Kept (past ++ entry ∷ []) w
kept_quiet past entry w q k = record {
  ledger = quiet_kept w.channels.lines past (entry ∷ []) (quiet_entry entry [] q tt) k.ledger;
  due = k.due;
  waiting = k.waiting;
}

outcome_quiet : (past : List TraceEntry) (entry : TraceEntry) (outcome : Outcome) → IsUnsent entry
    → ComesKept past outcome →
    ComesKept (past ++ entry ∷ []) outcome
outcome_quiet past entry (Goes w) q k = kept_quiet past entry w q k
outcome_quiet past entry (Ends w) q k = kept_quiet past entry w q k
outcome_quiet past entry (Fails fault) q k = tt

plan_quiet : (past : List TraceEntry) (entry : TraceEntry) (plan : Plan Outcome) → IsUnsent entry →
    PlanComes Anything (ComesKept past) plan → PlanComes Anything (ComesKept (past ++ entry ∷ []))
    plan
plan_quiet past entry (Finish outcome) q k = outcome_quiet past entry outcome q k
plan_quiet past entry (Ask question next) q k = λ answer s. plan_quiet past entry (next answer) q
    (k answer s)
plan_quiet past entry (Tell other next) q k = plan_quiet past entry next q k

books_told : (past more : List TraceEntry) (next : Plan Outcome) → Books (past ++ more) next
    → Books past (tell_all more next)
books_told past [] next h = subst (λ t. Books t next) (append-nil past) h
books_told past (entry ∷ more) next h =
    books_told (past ++ entry ∷ []) more next
    (subst (λ t. Books t next) (sym (append_assoc past (entry ∷ []) more)) h)

-- what an exchange of keys gives is on no channel
given_step : (b : Bool) (payload : List ℕ) (payloads : List (List ℕ)) →
    IsQuiet (map Sent (frames_given payloads)) →
    IsQuiet (map Sent (map at_once (cond b (payload ∷ filter is_of_transport payloads)
    (filter is_of_transport payloads))))
given_step true payload payloads h = (refl, h)
given_step false payload payloads h = h

pub given_quiet : (payloads : List (List ℕ)) → IsQuiet (map Sent (frames_given payloads))
given_quiet [] = tt
given_quiet (payload ∷ payloads) =
    given_step (is_of_transport payload) payload payloads (given_quiet payloads)

pub all_quiet : (past more : List TraceEntry) (w : World) → IsQuiet more → Kept past w
    → Kept (past ++ more) w
all_quiet past more w q k = record {
  ledger = quiet_kept w.channels.lines past more q k.ledger;
  due = k.due;
  waiting = k.waiting;
}

-- this side begins an exchange of keys, or not
begun_books : (past : List TraceEntry) (w : World) (due : Bool) → Kept past w
    → Books past (acts (begins due) w)
begun_books past w true k = λ payload.
    let frames = map Sent (frames_given (payload ∷ [])) in
    let v = moved Beginning payload w in
    books_told past frames (Finish (Goes v))
    (all_quiet past frames v (given_quiet (payload ∷ []))
    (moved_on (Kept past) Beginning payload w (λ keys later. keyed_on past w keys later k)
    (λ keys. renewed_on past w keys k)))
begun_books past w false k = k

ended_books : (past : List TraceEntry) (w : World) (ended due : Bool) → Kept past w
    → Books past (cond ended (Finish (Ends w)) (acts (begins due) w))
ended_books past w true due k = k
ended_books past w false due k = begun_books past w due k

-- frames that are held or handed on leave the channels as they are
pub handed_due : (held : Bool) (l : Lines) → Each IsDue l → Each IsDue (hands_on held l)
handed_due true l h = h
handed_due false l h = h

handed_waiting : (held : Bool) (l : Lines) (opens : List (ℕ × Opening))
    → AllWaiting 0 (IsReserved l) opens → AllWaiting 0 (IsReserved (hands_on held l)) opens
handed_waiting true l opens h = h
handed_waiting false l opens h = h

pub handed_kept : (past : List TraceEntry) (w : World) → Kept past w
    → Kept (past ++ map Sent (going_out w)) (handed_on w)
handed_kept past w k = record {
  ledger = hands_on_kept (is_held w) w.channels.lines past k.ledger;
  due = λ out. handed_due (is_held w) w.channels.lines (k.due out);
  waiting = handed_waiting (is_held w) w.channels.lines w.channels.opens k.waiting;
}

-- the frames are handed on
finished_books : (past : List TraceEntry) (ticked : Bool) (outcome : Outcome)
    → ComesKept past outcome → Books past (finish_input ticked outcome)
finished_books past ticked (Goes w) k =
    let v = handed_on w in
    let sent = map Sent (going_out w) in
    books_told past sent (goes_unless_ended ticked v)
    (ended_books (past ++ sent) v v.disconnected (is_due ticked v) (handed_kept past w k))
finished_books past ticked (Ends w) k = books_told past (map Sent (going_out w))
    (Finish (Ends (handed_on w))) (handed_kept past w k)
finished_books past ticked (Fails fault) k = tt

row_books : (past : List TraceEntry) (ticked : Bool) (plan : Plan Outcome) → SendsNone plan
    → PlanComes Anything (ComesKept past) plan →
    Books past (after plan (finish_input ticked))
row_books past ticked (Finish outcome) s k = finished_books past ticked outcome k
row_books past ticked (Ask question next) s k = λ answer. row_books past ticked (next answer)
    (s answer) (k answer tt)
row_books past ticked (Tell entry next) s k = row_books (past ++ entry ∷ []) ticked next s.1
    (plan_quiet past entry next s.0 k)

-- an answered question is no notice
pub never_told : {E F : Type 0} (question : Question) (answer : Answer question)
    (entry : TraceEntry) → Answered {E = E} {F = F} question answer (Told entry) → ⊥
never_told question answer entry h = let e = asked_so question answer (Told entry) h in cc

follows_books : {E F : Type 0} (past : List TraceEntry) (plan : Plan Outcome)
    (events : List (Event E F)) (outcome : Outcome) → Books past plan
    → Follows plan events outcome → ComesKept (past ++ told_in events) outcome
follows_books past plan [] outcome k h = subst (λ t. ComesKept t outcome) (sym (append-nil past))
    (subst (Books past) h k)
follows_books past (Finish other) (event ∷ events) outcome k h = absurd h
follows_books {E} {F} past (Ask question next) (Called call ∷ events) outcome k h =
    follows_books past (next h.0) events outcome (k h.0) h.2
follows_books {E} {F} past (Ask question next) (Stepped step ∷ events) outcome k h =
    follows_books past (next h.0) events outcome (k h.0) h.2
follows_books {E} {F} past (Ask question next) (Told entry ∷ events) outcome k h =
    absurd (never_told question h.0 entry h.1)
follows_books past (Tell entry next) (Called call ∷ events) outcome k h =
    absurd (let e = h.0 in cc)
follows_books past (Tell entry next) (Stepped step ∷ events) outcome k h =
    absurd (let e = h.0 in cc)
follows_books {E} {F} past (Tell entry next) (Told told ∷ events) outcome k h =
    let same : told ≡ entry = let e = h.0 in cc in
    subst (λ t. ComesKept t outcome) (append_assoc past (told ∷ []) (told_in events))
    (follows_books (past ++ told ∷ []) next events outcome
    (subst (λ t. Books (past ++ t ∷ []) next) (sym same) k) h.1)

-- ---- what was read

some_packet : (n : ℕ) → n ≢ 0 → 0 < n
some_packet n h = omega (arith, h)

open_fair : (fields : List ℕ) (said : Said) → SaysOpen fields said → IsFairSaid said
open_fair fields (Open message) h =
    let opened = h.1 in
    let leads = opened.2 in
    let window = leads.4.4.2 in
    (some_packet message.recipient_maximum_packet_size opened.3, window.0)
open_fair fields Unread h = tt
open_fair fields Without_packets h = tt
open_fair fields (Unfit why) h = tt
open_fair fields _ h = absurd h

confirmation_fair : (fields : List ℕ) (said : Said) → SaysConfirmation fields said
    → IsFairSaid said
confirmation_fair fields (Agreed message) h =
    let spells = h.0 in
    let window = spells.4.4.2 in
    (full_packet message.maximum_packet_size h.1, window.0)
confirmation_fair fields Without_packets h = tt
confirmation_fair fields (Unfit why) h = tt
confirmation_fair fields _ h = absurd h

-- what was read by a layout is fair, where it says what is fair
read_fair : {S : Type 0} (says : S → Said) (read : Result S WireError)
    → ((value : S) → IsFairSaid (says value)) → IsFairSaid (said_of says read)
read_fair says (Ok value) h = h value
read_fair says (Err why) h = tt

pub fair_at : (given : Circumstances) (w : World) (at : Gate) (fields : List ℕ) (said : Said)
    → Says given w at fields said →
    IsFairSaid said
fair_at given w gate.Nothing fields said h = rw h tt
fair_at given w gate.Ends fields said h = rw h tt
fair_at given w gate.OverCap fields said h = rw h tt
fair_at given w gate.ServiceRequest fields said h = rw h.2 (read_fair Service h.0 (λ name. tt))
fair_at given w gate.UserauthRequest fields said h = rw h.2 tt
fair_at given w gate.InfoResponse fields said h = rw h.2 tt
fair_at given w gate.ChannelOpen fields said h = open_fair fields said h
fair_at given w gate.OpenConfirmation fields said h = confirmation_fair fields said h
fair_at given w (gate.Connection message) fields said h =
    rw h.2 (read_fair Connection h.0 (λ spoken. tt))

-- ---- inputs and runs

-- the bytes that come in an exchange are counted, and it goes on
pub early_runs : (payload : List ℕ) (exchange : ExchangeState) →
    is_running (early_with payload exchange) ≡ false → is_running exchange ≡ false
early_runs payload Idle h = refl
early_runs payload (Own early) h = h
early_runs payload Both h = h

pub kind_kept : (accepts : Acceptance) (past : List TraceEntry) (w : World) (moment : ℕ)
    (kind : InputKind) (plan : Plan Outcome) →
    OwesKind accepts w moment kind plan → Kept past w → PlanComes Anything (ComesKept past) plan
kind_kept accepts past w moment input.End plan o k = rw o k
kind_kept accepts past w moment (input.Payload payload) plan o k =
    let v = hears payload w in
    let heard = beside_on past w v refl (early_runs payload w.keys.exchange) k in
    payload_so accepts v moment payload plan (PlanComes Anything (ComesKept past)) o
    (λ said says. row_kept past v moment said
    (fair_at (circumstances accepts v.settings moment) v (gate_of v payload) (drop 1 payload) said
    says) heard)
    (λ passage. exchange_comes (law past) (exchanged_on past) payload passage v heard tt tt)
kind_kept accepts past w moment (input.Command ticket commanded) plan o k =
    rw o (command_kept past w ticket commanded k)
kind_kept accepts past w moment (input.OpenReply ticket answer) plan o k =
    rw o (command_kept past w ticket (command.Answer answer) k)
kind_kept accepts past w moment input.KeepaliveTick plan o k = rw o (tick_kept past w k)
kind_kept accepts past w moment input.InactivityTick plan o k = rw o tt
kind_kept accepts past w moment input.RekeyTick plan o k = rw o k

-- however an input ends
pub comes_kept : {E F : Type 0} (accepts : Acceptance) (past : List TraceEntry) (w : World)
    (turn : Turn E F) (plan : Plan Outcome) (outcome : Outcome) → Owes accepts w turn.input plan
    → Follows plan turn.events outcome → Kept past w → ComesKept (past ++ entries turn) outcome
comes_kept accepts past w turn plan outcome owes follows k =
    let took = Took turn.commands turn.replies turn.input in
    let begun = kept_quiet past took w tt k in
    let books = row_books (past ++ took ∷ []) (asks_for_keys turn.input.kind) owes.0
    (kind_silent accepts w turn.input.moment turn.input.kind owes.0 owes.1)
    (kind_kept accepts (past ++ took ∷ []) w turn.input.moment turn.input.kind owes.0 owes.1
    begun) in
    subst (λ l. ComesKept l outcome) (append_assoc past (took ∷ []) (told_in turn.events))
    (follows_books (past ++ took ∷ []) plan turn.events outcome (subst (Books (past ++ took ∷ []))
    (sym owes.2) books) follows)

pub owed_kept : {E F : Type 0} (accepts : Acceptance) (past : List TraceEntry) (w : World)
    (turn : Turn E F) (plan : Plan Outcome) (world : World) → Owes accepts w turn.input plan
    → Follows plan turn.events (Goes world) → Kept past w → Kept (past ++ entries turn) world
owed_kept accepts past w turn plan world owes follows k =
    comes_kept accepts past w turn plan (Goes world) owes follows k

turn_kept : {E F : Type 0} (accepts : Acceptance) (past : List TraceEntry) (w : World)
    (turn : Turn E F)
    (world : World) →
    Turns accepts w turn world → Kept past w → Kept (past ++ entries turn) world
turn_kept accepts past w turn world t k = owed_kept accepts past w turn t.0 world t.1 t.2 k

pub run_kept : {E F : Type 0} (accepts : Acceptance) (past : List TraceEntry) (w : World)
    (turns : List (Turn E F)) (world : World) →
    Run accepts w turns world → Kept past w → Kept (past ++ flat_map entries turns) world
run_kept accepts past w [] world run k =
    subst (λ t. Kept t world) (sym (append-nil past)) (subst (Kept past) (sym run) k)
run_kept accepts past w (turn ∷ turns) world run k =
    subst (λ t. Kept t world) (append_assoc past (entries turn) (flat_map entries turns))
    (run_kept accepts (past ++ entries turn) run.0 turns world run.2
    (turn_kept accepts past w turn run.0 run.1 k))

-- the first inputs of a run are a run
pub run_front : {E F : Type 0} (accepts : Acceptance) (w : World) (earlier later : List (Turn E F))
    (world : World) →
    Run accepts w (earlier ++ later) world → (mid : World) × Run accepts w earlier mid
run_front accepts w [] later world run = (w, refl)
run_front accepts w (turn ∷ earlier) later world run =
    let front = run_front accepts run.0 earlier later world run.2 in
    (front.0, (run.0, run.1, front.1))

pub nothing_kept : (settings : Settings) → Kept [] (opening_world settings)
nothing_kept settings = record { ledger = λ n. tt; due = λ out n. tt; waiting = tt }
