-- An input that comes outside an exchange of keys and begins none stays outside up to its end, and
-- one that ends an exchange is outside then: all that is due goes out there before this side may
-- begin one.
use Rattle.std.proofs.Common.{◌≡◌, ◌⊎◌, ◌||◌, ℕ, List, [], ◌∷◌, ◌++◌, map, Bool, true, false, cond}
use Rattle.std.proofs.Common.{refl, sym, ap, subst, inl, inr, Option, None}
use Rattle.std.specs.Prelude.{◌==◌, flat_map}
use Rattle.ssh_link.specs.declared.command.Command.{Command}
use Rattle.ssh_link.specs.declared.command.Command.TheVariants as command
use Rattle.ssh_link.specs.declared.frame.Input.{Input}
use Rattle.ssh_link.specs.declared.frame.InputKind.{InputKind}
use Rattle.ssh_link.specs.declared.frame.InputKind.TheVariants as input
use Rattle.ssh_link.specs.declared.link.TraceEntry.{TraceEntry}
use Rattle.ssh_link.specs.declared.link.TraceEntry.TheVariants.{Took, Sent, Answered}
use Rattle.ssh_auth.specs.Plan.{Plan, Finish, Ask, Tell, Event, Follows, after}
use Rattle.ssh_auth.specs.Publickey.{Acceptance}
use Rattle.ssh_channels.specs.Entry.{IsDue}
use Rattle.ssh_channels.specs.Sent.{Each, message_of}
use Rattle.ssh_rules.specs.declared.exchange.ExchangeState.{ExchangeState}
use Rattle.ssh_rules.specs.declared.exchange.ExchangeState.TheVariants.{Idle, Own, Both}
use Rattle.ssh_rules.specs.declared.exchange.Passage.TheVariants.{Passes}
use Rattle.ssh_rules.specs.Acts.{Beginning, acts, payloads_given, frames_given, moved}
use Rattle.ssh_rules.specs.Effect.{effect, refused_for, done_by, effect_at}
use Rattle.ssh_rules.specs.Exchange.{early_with, is_running, passage_in, passage_of}
use Rattle.ssh_rules.specs.Exchanged.{ends_exchange}
use Rattle.ssh_rules.specs.Ledger.{EndsOutside, is_kexinit}
use Rattle.ssh_rules.specs.Outcome.{Outcome, Goes, Ends, Fails}
use Rattle.ssh_rules.specs.Reading.{Said, Disconnect, Over_cap}
use Rattle.ssh_rules.specs.Rows.{row}
use Rattle.ssh_rules.specs.Run.{Turn, Turns, Run, Owes, OwesKind, OwesPassed, command_row}
use Rattle.ssh_rules.specs.Run.{passage, asks_for_keys, begins, entries, finish_input, going_out}
use Rattle.ssh_rules.specs.Run.{goes_unless_ended, handed_on, is_due, is_over}
use Rattle.ssh_rules.specs.Ticks.{keepalive_acts}
use Rattle.ssh_rules.specs.World.{World, hears, in_exchange, is_held, ChannelRequest}
use Rattle.ssh_rules.proofs.Plans.Acting.{PlanComes, EffectComes, Law, acts_come, one_comes}
use Rattle.ssh_rules.proofs.Answered.Run.{taken_outside}
use Rattle.ssh_rules.proofs.Plans.Apart.{refused_comes, apart_comes, tick_comes}
use Rattle.ssh_rules.proofs.Plans.Beside.{done_beside, settles_beside, opens_or_not_beside, row_beside}
use Rattle.ssh_rules.proofs.Ledger.Inputs.{kind_kept, kept_quiet, run_kept, handed_due}
use Rattle.ssh_rules.proofs.Plans.Emptied.{told_comes, comes_of, unheld}
use Rattle.ssh_rules.proofs.Ledger.Commands.{Kept, ComesKept}
use Rattle.ssh_rules.proofs.Ledger.Renewing.{Renews, renews_by, tells_renew, kind_renews}
use Rattle.ssh_rules.proofs.Ledger.Renewing.{follows_renew}
use Rattle.ssh_rules.proofs.Plans.Settled.{Anything, Any_command, any_built}
use Rattle.ssh_rules.proofs.Exchanged.Rows.{IsRunning}

-- ---- rows

abbrev pub IsIdle : World → Type 0
IsIdle w = in_exchange w ≡ false

abbrev pub ComesIdle : Outcome → Type 0
ComesIdle (Goes w) = IsIdle w
ComesIdle _ = Unit {0}

same_idle : (w v : World) → v.settings ≡ w.settings → v.disconnected ≡ w.disconnected
    → v.keys ≡ w.keys → IsIdle w → IsIdle v
same_idle w v is ended keys h = subst (λ k. is_running k.exchange ≡ false) (sym keys) h

effect_idle : (at : Option ChannelRequest) (w : World) (commanded : Command) → IsIdle w
    → EffectComes IsIdle (effect_at at w commanded)
effect_idle at w commanded h =
    refused_comes IsIdle (refused_for w.disconnected w commanded) w (done_by at w commanded) h
    (done_beside IsIdle same_idle at w commanded h
    (apart_comes IsIdle (λ message v k. k) (settles_beside IsIdle same_idle)
    (opens_or_not_beside IsIdle same_idle) w commanded h))

abbrev law : Law
law = record {
  such = Anything;
  comes = ComesIdle;
  holds = IsIdle;
  built = Any_command;
  goes = λ w h. h;
  lends = λ lent commands s. any_built commands;
  judges = λ judged answer s. any_built answer.commands;
  listens = λ address port answer s. any_built answer.commands;
  keeps = λ at w commanded h b. effect_idle at w commanded h;
}

pub row_idle : (w : World) (moment : ℕ) (said : Said) → IsIdle w
    → PlanComes Anything ComesIdle (row w moment said)
row_idle w moment Disconnect h = tt
row_idle w moment Over_cap h = tt
row_idle w moment said h = row_beside law same_idle (λ why. tt) w moment said tt h

command_idle : (w : World) (ticket : ℕ) (commanded : Command) → IsIdle w
    → PlanComes Anything ComesIdle (command_row w ticket commanded)
command_idle w ticket commanded h =
    one_comes law (effect w commanded) (λ outcome world. Tell (Answered ticket outcome)
    (Finish (Goes world))) (effect_idle None w commanded h) (λ outcome world k. k)

-- ---- where no exchange runs, all but a KEXINIT is read

passes_in : (exchange : ExchangeState) (window number : ℕ) → is_running exchange ≡ false
    → (number == 20) ≡ false → passage_in exchange window number ≡ Passes
passes_in Idle window number idle other = rw other refl
passes_in (Own early) window number idle other = absurd (cc)
passes_in Both window number idle other = absurd (cc)

pub passes_of : (exchange : ExchangeState) (window : ℕ) (payload : List ℕ)
    → is_running exchange ≡ false → (message_of payload == 20) ≡ false
    → passage_of exchange window payload ≡ Passes
passes_of exchange window [] idle other = refl
passes_of exchange window (number ∷ fields) idle other =
    passes_in exchange window number idle other

pub still_idle : (payload : List ℕ) (exchange : ExchangeState) → is_running exchange ≡ false
    → is_running (early_with payload exchange) ≡ false
still_idle payload Idle h = refl
still_idle payload (Own early) h = absurd (cc)
still_idle payload Both h = absurd (cc)

kind_idle : (accepts : Acceptance) (w : World) (moment : ℕ) (kind : InputKind)
    (plan : Plan Outcome) → OwesKind accepts w moment kind plan → is_kexinit kind ≡ false
    → IsIdle w → PlanComes Anything ComesIdle plan
kind_idle accepts w moment input.End plan o other h = rw o tt
kind_idle accepts w moment (input.Payload payload) plan o other h =
    let v = hears payload w in
    let still = still_idle payload w.keys.exchange h in
    let passes : passage v payload ≡ Passes =
    passes_of v.keys.exchange v.settings.config.window_size payload still other in
    let read = subst (λ at. OwesPassed at accepts v moment payload plan) passes o in
    rw read.2 (row_idle v moment read.0 still)
kind_idle accepts w moment (input.Command ticket commanded) plan o other h =
    rw o (command_idle w ticket commanded h)
kind_idle accepts w moment (input.OpenReply ticket answer) plan o other h =
    rw o (command_idle w ticket (command.Answer answer) h)
kind_idle accepts w moment input.KeepaliveTick plan o other h =
    rw o (acts_come law (keepalive_acts w) w h (tick_comes law w tt h))
kind_idle accepts w moment input.InactivityTick plan o other h = rw o tt
kind_idle accepts w moment input.RekeyTick plan o other h = rw o h

-- ---- the end of an input

-- nothing that was written waits, and all that is due is framed
abbrev pub IsSettled : World → Type 0
IsSettled w = (w.channels.lines.written ≡ []) × Each IsDue w.channels.lines

abbrev pub ComesSettled : Outcome → Type 0
ComesSettled (Goes w) = IsSettled w
ComesSettled _ = Unit {0}

begun_settled : (due : Bool) (w : World) → IsSettled w
    → PlanComes Anything ComesSettled (acts (begins due) w)
begun_settled true w h = λ answer s.
    told_comes ComesSettled (map Sent (frames_given (payloads_given Beginning answer)))
    (Finish (Goes (moved Beginning answer w))) h
begun_settled false w h = h

pub ended_settled : (ended due : Bool) (w : World) → IsSettled w
    → PlanComes Anything ComesSettled (cond ended (Finish (Ends w)) (acts (begins due) w))
ended_settled true due w h = tt
ended_settled false due w h = begun_settled due w h

pub handed_settled : (past : List TraceEntry) (w : World) → IsIdle w → Kept past w
    → IsSettled (handed_on w)
handed_settled past w h k = (
  unheld (in_exchange w) w.disconnected w.channels.lines h,
  handed_due (is_held w) w.channels.lines (k.due h),
)

settled : (past : List TraceEntry) (ticked : Bool) (plan : Plan Outcome)
    → PlanComes Anything ComesIdle plan → PlanComes Anything (ComesKept past) plan
    → PlanComes Anything ComesSettled (after plan (finish_input ticked))
settled past ticked (Finish (Goes w)) h k =
    let v = handed_on w in
    told_comes ComesSettled (map Sent (going_out w)) (goes_unless_ended ticked v)
    (ended_settled v.disconnected (is_due ticked v) v (handed_settled past w h k))
settled past ticked (Finish (Ends w)) h k =
    told_comes ComesSettled (map Sent (going_out w)) (is_over (handed_on w)) tt
settled past ticked (Finish (Fails fault)) h k = tt
settled past ticked (Ask question next) h k = λ answer s.
    settled past ticked (next answer) (h answer s) (k answer s)
settled past ticked (Tell entry next) h k = settled past ticked next h k

turn_settled : {E F : Type 0} (accepts : Acceptance) (past : List TraceEntry) (w : World)
    (turn : Turn E F) (mid : World) → Turns accepts w turn mid → Kept past w
    → turn.replies ≡ true → is_kexinit turn.input.kind ≡ false → IsSettled mid
turn_settled {E} {F} accepts past w turn mid t k replies other =
    let took = Took turn.commands turn.replies turn.input in
    let h = taken_outside w turn t.3 replies in
    let first = t.1.0 in
    let kind = turn.input.kind in
    comes_of ComesSettled t.0 turn.events (Goes mid)
    (subst (PlanComes Anything ComesSettled) (sym t.1.2)
    (settled (past ++ took ∷ []) (asks_for_keys kind) first
    (kind_idle accepts w turn.input.moment kind first t.1.1 other h)
    (kind_kept accepts (past ++ took ∷ []) w turn.input.moment kind first t.1.1
    (kept_quiet past took w tt k)))) t.2

-- ---- an input that ends an exchange

begun_renewed : (ended due : Bool) (w : World) → (ended ≡ true → IsSettled w)
    → Renews IsSettled ended (acts (begins due) w)
begun_renewed ended true w h = λ answer.
    tells_renew IsSettled ended (map Sent (frames_given (payloads_given Beginning answer)))
    (Finish (Goes (moved Beginning answer w))) h
begun_renewed ended false w h = h

over_renewed : (ended over due : Bool) (w : World) → (ended ≡ true → IsSettled w)
    → Renews IsSettled ended (cond over (Finish (Ends w)) (acts (begins due) w))
over_renewed ended true due w h = tt
over_renewed ended false due w h = begun_renewed ended due w h

renewed : (past : List TraceEntry) (ticked ended : Bool) (plan : Plan Outcome)
    → Renews (IsRunning false) ended plan → PlanComes Anything (ComesKept past) plan
    → Renews IsSettled ended (after plan (finish_input ticked))
renewed past ticked ended (Finish (Goes w)) h k =
    let v = handed_on w in
    tells_renew IsSettled ended (map Sent (going_out w)) (goes_unless_ended ticked v)
    (over_renewed ended v.disconnected (is_due ticked v) v
    (λ is. handed_settled past w (h is) k))
renewed past ticked ended (Finish (Ends w)) h k =
    tells_renew IsSettled ended (map Sent (going_out w)) (is_over (handed_on w)) tt
renewed past ticked ended (Finish (Fails fault)) h k = tt
renewed past ticked ended (Ask question next) h k = λ answer.
    renewed past ticked (renews_by question answer || ended) (next answer) (h answer) (k answer tt)
renewed past ticked ended (Tell entry next) h k = renewed past ticked ended next h k

pub owed_renewed : {E F : Type 0} (accepts : Acceptance) (past : List TraceEntry) (w : World)
    (came : Input) (plan : Plan Outcome) (events : List (Event E F)) (world : World)
    → Owes accepts w came plan → Follows plan events (Goes world) → Kept past w
    → ends_exchange events ≡ true → IsSettled world
owed_renewed accepts past w came plan events world o f k ends =
    follows_renew IsSettled false plan events world
    (subst (Renews IsSettled false) (sym o.2)
    (renewed past (asks_for_keys came.kind) false o.0
    (kind_renews accepts w came.moment came.kind o.0 o.1)
    (kind_kept accepts past w came.moment came.kind o.0 o.1 k))) f (ap (λ b. b || false) ends)

-- either way
ends_settled : {E F : Type 0} (accepts : Acceptance) (past : List TraceEntry) (w : World)
    (turn : Turn E F) (mid : World) → Turns accepts w turn mid → Kept past w
    → ((turn.replies ≡ true) × (is_kexinit turn.input.kind ≡ false))
    ⊎ (ends_exchange turn.events ≡ true) → IsSettled mid
ends_settled accepts past w turn mid t k (inl quiet) =
    turn_settled accepts past w turn mid t k quiet.0 quiet.1
ends_settled accepts past w turn mid t k (inr ends) =
    owed_renewed accepts past w turn.input t.0 turn.events mid t.1 t.2 k ends

-- ---- runs

run_back : {E F : Type 0} (accepts : Acceptance) (w : World) (earlier later : List (Turn E F))
    (world : World) → Run accepts w (earlier ++ later) world
    → (mid : World) × Run accepts w earlier mid × Run accepts mid later world
run_back accepts w [] later world run = (w, refl, run)
run_back accepts w (turn ∷ earlier) later world run =
    let back = run_back accepts run.0 earlier later world run.2 in
    (back.0, (run.0, run.1, back.1), back.2)

pub last_settled : {E F : Type 0} (accepts : Acceptance) (w : World) (turns : List (Turn E F))
    (world : World) → Run accepts w turns world → Kept [] w → EndsOutside turns → IsSettled world
last_settled accepts w turns world run k (earlier, turn, is, how) =
    let back = run_back accepts w earlier (turn ∷ []) world
    (subst (λ ts. Run accepts w ts world) is run) in
    let step = back.2 in
    let kept = run_kept accepts [] w earlier back.0 back.1 k in
    subst IsSettled (sym step.2)
    (ends_settled accepts (flat_map entries earlier) back.0 turn step.0 step.1 kept how)
