-- In an exchange of keys only its own frames are handed on, each once and in order, by induction
-- over a run (RFC 4253 section 7.1).
use Rattle.std.proofs.Common.{◌≡◌, ◌&&◌, ℕ, List, [], ◌∷◌, ◌++◌, Option, Some, None, Result, Bool}
use Rattle.std.proofs.Common.{true, false, not, refl, sym, ◌∙◌, ap, subst, inl, inr}
use Rattle.std.specs.List.{list_any}
use Rattle.std.specs.Prelude.{option_to_list, IfSome}
use Rattle.ssh_link.specs.Frames.{Frame}
use Rattle.ssh_link.specs.declared.command.Command.{Command}
use Rattle.ssh_link.specs.declared.command.Command.TheVariants as command
use Rattle.ssh_link.specs.declared.frame.InputKind.{InputKind}
use Rattle.ssh_link.specs.declared.frame.InputKind.TheVariants as input
use Rattle.ssh_link.specs.declared.link.TraceEntry.TheVariants.{Answered}
use Rattle.ssh_auth.specs.Plan.{Plan, Finish, Ask, Tell, Event, Follows, after, calls_in}
use Rattle.ssh_auth.specs.Publickey.{Acceptance}
use Rattle.ssh_auth.proofs.Back.{refused_so}
use Rattle.ssh_rules.specs.declared.error.RunError.{RunError}
use Rattle.ssh_rules.specs.Account.{Closes}
use Rattle.ssh_rules.specs.Acts.{frames_given}
use Rattle.ssh_rules.specs.Effect.{effect}
use Rattle.ssh_rules.specs.Exchanged.{runs_after, runs_through, runs_once, unsent_after}
use Rattle.ssh_rules.specs.Exchanged.{unsent_through, unsent_once, IsInTurn, kind_disconnects}
use Rattle.ssh_rules.specs.Exchanged.{is_disconnected_in, Exchanged, IsNextExchanged}
use Rattle.ssh_rules.specs.Outcome.{Outcome, Goes, Ends, Fails}
use Rattle.ssh_rules.specs.Reading.{Said, Disconnect, Over_cap}
use Rattle.ssh_rules.specs.Replied.{events_of}
use Rattle.ssh_rules.specs.Rows.{row}
use Rattle.ssh_rules.specs.Run.{Turn, Turns, Run, Owes, OwesKind, command_row, finish_input}
use Rattle.ssh_rules.specs.Run.{calls_of, asks_for_keys}
use Rattle.ssh_rules.specs.Ticks.{keepalive_acts, ticked}
use Rattle.ssh_rules.specs.OwnMessages.{keepalive}
use Rattle.ssh_rules.specs.Valid.{call_disconnects}
use Rattle.ssh_rules.specs.World.{Settings, World, hears, in_exchange, opening_world}
use Rattle.ssh_rules.proofs.Authorised.Run.{AllWalk, last_walks}
use Rattle.ssh_rules.proofs.Plans.Acting.{PlanComes, Law, acts_come, one_comes, exchange_comes}
use Rattle.ssh_rules.proofs.Exchanged.Alone.{AllAlone, Keeps, alone_both, through_both, unsent_both}
use Rattle.ssh_rules.proofs.Exchanged.Alone.{alone_at, any_turn, asked_alone, asked_turn, told_alone}
use Rattle.ssh_rules.proofs.Exchanged.Alone.{walks_alone, goes_alone, over_alone, input_free, input_keeps}
use Rattle.ssh_rules.proofs.Plans.Apart.{tick_comes}
use Rattle.ssh_rules.proofs.Plans.Beside.{row_beside}
use Rattle.ssh_rules.proofs.Plans.Emptied.{nothing_left}
use Rattle.ssh_rules.proofs.Ended.Run.{IsLive, IsMild, IsMildAnswer, AreMild, same_live, said_live}
use Rattle.ssh_rules.proofs.Ended.Run.{effect_live, mild_answer, mild_step, run_live}
use Rattle.ssh_rules.proofs.Authorised.Guards.{Walks}
use Rattle.ssh_rules.proofs.Plans.Passing.{payload_so}
use Rattle.ssh_rules.proofs.Exchanged.Events.{Runs, runs_then, kind_runs}
use Rattle.ssh_rules.proofs.Plans.Telling.{Sends, given_at, unsent_told, kind_given}
use Rattle.ssh_rules.proofs.Exchanged.Rows.{IsRunning}

-- ---- the finished inputs

turn_keeps : {E F : Type 0} (accepts : Acceptance) (running : Bool) (w : World)
    (turn : Turn E F) (mid : World) → Turns accepts w turn mid → IsRunning running w →
    Keeps running [] turn.events mid
turn_keeps {E} {F} accepts running w turn mid t r =
    let first = t.1.0 in
    input_keeps running [] (asks_for_keys turn.input.kind) first turn.events mid
    (kind_runs running accepts w turn.input.moment turn.input.kind first t.1.1 r)
    (kind_given accepts w turn.input.moment turn.input.kind first t.1.1)
    (subst (λ p. Follows {E = E} {F = F} p turn.events (Goes mid)) t.1.2 t.2)

pub run_keeps : {E F : Type 0} (accepts : Acceptance) (running : Bool) (w : World)
    (turns : List (Turn E F)) (world : World) → Run accepts w turns world →
    IsRunning running w → Keeps running [] (events_of turns) world
run_keeps accepts running w [] world run r =
    record { alone = tt; sent = refl; runs = ap in_exchange run ∙ r }
run_keeps accepts running w (turn ∷ turns) world run r =
    let k = turn_keeps accepts running w turn run.0 run.1 r in
    let mid = runs_through running turn.events in
    let l = run_keeps accepts mid run.0 turns world run.2 k.runs in
    record {
      alone = alone_both true running [] turn.events (events_of turns) k.alone
          (subst (λ unsent. AllAlone true mid unsent (events_of turns)) (sym k.sent) l.alone);
      sent = unsent_both [] turn.events (events_of turns)
          ∙ (ap (λ unsent. unsent_through unsent (events_of turns)) k.sent ∙ l.sent);
      runs = l.runs ∙ sym (through_both running turn.events (events_of turns));
    }

-- replies are asked for where none runs
run_known : {E F : Type 0} (accepts : Acceptance) (running : Bool) (w : World)
    (turns : List (Turn E F)) (world : World) → Run accepts w turns world →
    IsRunning running w → (before later : List (Turn E F)) (turn : Turn E F) →
    turns ≡ before ++ turn ∷ later →
    turn.replies ≡ not (runs_through running (events_of before))
run_known accepts running w [] world run r before later turn is =
    absurd (nothing_left before turn later (sym is))
run_known accepts running w (t ∷ turns) world run r [] later turn is =
    let same : t ≡ turn = cc in
    subst (λ u. u.replies ≡ not running) same (run.1.3.1 ∙ ap not r)
run_known accepts running w (t ∷ turns) world run r (p ∷ before) later turn is =
    let same : t ≡ p = cc in
    let rest : turns ≡ before ++ turn ∷ later = cc in
    let k = turn_keeps accepts running w t run.0 run.1 r in
    subst (λ u. turn.replies ≡ not (runs_through running (events_of (u ∷ before)))) same
    (run_known accepts (runs_through running t.events) run.0 turns world run.2 k.runs before later
    turn rest ∙ ap not (sym (through_both running t.events (events_of before))))

-- and behind each of them all frames of the exchange were handed on
run_sent : {E F : Type 0} (accepts : Acceptance) (running : Bool) (w : World)
    (turns : List (Turn E F)) (world : World) → Run accepts w turns world →
    IsRunning running w → (before later : List (Turn E F)) → turns ≡ before ++ later →
    unsent_once (events_of before) ≡ []
run_sent accepts running w turns world run r [] later is = refl
run_sent accepts running w [] world run r (p ∷ before) later is = absurd (cc)
run_sent accepts running w (t ∷ turns) world run r (p ∷ before) later is =
    let same : t ≡ p = cc in
    let rest : turns ≡ before ++ later = cc in
    let k = turn_keeps accepts running w t run.0 run.1 r in
    subst (λ u. unsent_once (events_of (u ∷ before)) ≡ []) same
    (unsent_both [] t.events (events_of before)
    ∙ (ap (λ unsent. unsent_through unsent (events_of before)) k.sent
    ∙ run_sent accepts (runs_through running t.events) run.0 turns world run.2 k.runs before later
    rest))

pub exchanged : {E F : Type 0} (accepts : Acceptance) (settings : Settings)
    (turns : List (Turn E F)) (world : World) → Run accepts (opening_world settings) turns world →
    Exchanged turns
exchanged accepts settings turns world run = record {
  known = λ before later turn is. run_known accepts false (opening_world settings) turns world run
      refl before later turn is;
  alone = λ past more event is.
      let k = run_keeps accepts false (opening_world settings) turns world run refl in
      alone_at true false [] past event more (subst (AllAlone true false []) is k.alone);
  all_sent = λ before later is. run_sent accepts false (opening_world settings) turns world run
      refl before later is;
}

-- ---- the last input

-- where no command ended the connection, it was not ended
abbrev pub ComesLive : Outcome → Type 0
ComesLive (Goes w) = IsLive w
ComesLive (Ends w) = IsLive w
ComesLive (Fails fault) = Unit {0}

abbrev law : Law
law = record {
  such = IsMildAnswer;
  comes = ComesLive;
  holds = IsLive;
  built = IsMild;
  goes = λ w h. h;
  lends = λ lent commands s. s;
  judges = λ judged answer s. s;
  listens = λ address port answer s. s;
  keeps = λ at w one h mild. effect_live at w one mild h;
}

row_live : (w : World) (moment : ℕ) (said : Said) → IsLive w →
    PlanComes IsMildAnswer ComesLive (row w moment said)
row_live w moment Disconnect h = h
row_live w moment Over_cap h = h
row_live w moment said h = row_beside law same_live (λ why. tt) w moment said tt h

command_live : (w : World) (ticket : ℕ) (one : Command) → IsMild one → IsLive w →
    PlanComes IsMildAnswer ComesLive (command_row w ticket one)
command_live w ticket one mild h =
    one_comes law (effect w one) (λ outcome world. Tell (Answered ticket outcome)
    (Finish (Goes world))) (effect_live None w one mild h) (λ outcome world k. k)

kind_live : (accepts : Acceptance) (w : World) (moment : ℕ) (kind : InputKind)
    (plan : Plan Outcome) → OwesKind accepts w moment kind plan → kind_disconnects kind ≡ false →
    IsLive w → PlanComes IsMildAnswer ComesLive plan
kind_live accepts w moment input.End plan o mild h = rw o h
kind_live accepts w moment (input.Payload payload) plan o mild h =
    let v = hears payload w in
    payload_so accepts v moment payload plan (PlanComes IsMildAnswer ComesLive) o
    (λ said says. row_live v moment said h)
    (λ at. exchange_comes law (λ u k. (λ keys later. k, λ keys. k)) payload at v h tt tt)
kind_live accepts w moment (input.Command ticket one) plan o mild h =
    rw o (command_live w ticket one mild h)
kind_live accepts w moment (input.OpenReply ticket answer) plan o mild h =
    rw o (command_live w ticket (command.Answer answer) refl h)
kind_live accepts w moment input.KeepaliveTick plan o mild h =
    rw o (acts_come law (keepalive_acts w) w h
    (tick_comes law w tt (said_live keepalive (ticked w) refl h)))
kind_live accepts w moment input.InactivityTick plan o mild h = rw o tt
kind_live accepts w moment input.RekeyTick plan o mild h = rw o h

finished_alone : {E F : Type 0} (running asks : Bool) (outcome : Outcome)
    (events : List (Event E F)) → Runs running (Finish outcome) → ComesLive outcome →
    Walks (finish_input asks outcome) events → AllAlone true running [] events
finished_alone running asks (Goes w) events r live walks =
    subst (λ b. AllAlone true b [] events) r
    (walks_alone true (in_exchange w) [] (finish_input asks (Goes w)) events
    (goes_alone asks w live) walks)
finished_alone running asks (Ends w) events r live walks =
    subst (λ b. AllAlone true b [] events) r
    (walks_alone true (in_exchange w) [] (finish_input asks (Ends w)) events
    (over_alone asks w live) walks)
finished_alone running asks (Fails why) events r live walks =
    walks_alone true running [] (finish_input asks (Fails why)) events refl walks

-- as far as it came, the exchange's frames were sent in their turn, and no others while it ran
input_alone : {E F : Type 0} (running asks : Bool) (unsent : List Frame) (plan : Plan Outcome)
    (events : List (Event E F)) → Runs running plan → Sends unsent plan →
    PlanComes IsMildAnswer ComesLive plan → AreMild (calls_in events) →
    Walks (after plan (finish_input asks)) events → AllAlone true running unsent events
input_alone running asks unsent (Finish outcome) events r s live mild walks =
    subst (λ l. AllAlone true running l events) (sym s)
    (finished_alone running asks outcome events r live walks)
input_alone running asks unsent (Ask question next) [] r s live mild walks = tt
input_alone {E} {F} running asks unsent (Ask question next) (event ∷ events) r s live mild
    (inl walks) =
    let both = mild_answer question walks.0 events
    (subst (λ e. AreMild {E = E} (calls_in (e ∷ events))) walks.1 mild) in
    asked_alone question walks.0 event events true running unsent walks.1 s.0
    (input_alone (runs_then question walks.0 running) asks
    (frames_given (given_at question walks.0)) (next walks.0) events (r walks.0) (s.1 walks.0)
    (live walks.0 both.0) both.1 walks.2)
input_alone running asks unsent (Ask question next) (event ∷ events) r s live mild (inr walks) = (
  asked_turn running unsent question event (refused_so question walks.0 event walks.1) s.0,
  subst (AllAlone true (runs_after running event) (unsent_after unsent event)) (sym walks.2) tt,
)
input_alone running asks unsent (Tell entry next) [] r s live mild walks = tt
input_alone {E} {F} running asks unsent (Tell entry next) (event ∷ events) r s live mild walks =
    told_alone entry event events true running unsent walks.0 (any_turn running unsent entry s.0)
    (input_alone running asks (unsent_told unsent entry) next events r s.1 live
    (subst (λ e. AreMild {E = E} (calls_in (e ∷ events))) walks.0 mild) walks.1)

-- where a command ended the connection in it, other frames are handed on too
last_alone : {E F : Type 0} (accepts : Acceptance) (running : Bool) (w : World)
    (turn : Turn E F) (plan : Plan Outcome) (ended : Bool) → Owes accepts w turn.input plan →
    IsRunning running w → IsLive w → is_disconnected_in turn ≡ ended → Walks plan turn.events →
    AllAlone (not ended) running [] turn.events
last_alone {E} {F} accepts running w turn plan true o r live wild walks =
    let kind = turn.input.kind in
    walks_alone false running [] (after o.0 (finish_input (asks_for_keys kind))) turn.events
    (input_free running (asks_for_keys kind) [] o.0
    (kind_given accepts w turn.input.moment kind o.0 o.1))
    (subst (λ p. Walks {E = E} {F = F} p turn.events) o.2 walks)
last_alone {E} {F} accepts running w turn plan false o r live mild walks =
    let kind = turn.input.kind in
    let both = mild_step (kind_disconnects kind)
    (list_any (call_disconnects {E = E}) (calls_of turn)) mild in
    input_alone running (asks_for_keys kind) [] o.0 turn.events
    (kind_runs running accepts w turn.input.moment kind o.0 o.1 r)
    (kind_given accepts w turn.input.moment kind o.0 o.1)
    (kind_live accepts w turn.input.moment kind o.0 o.1 both.0 live) both.1
    (subst (λ p. Walks {E = E} {F = F} p turn.events) o.2 walks)

-- behind what happened before it
behind : {E F : Type 0} (holds : Bool) (before past : List (Event E F)) (event : Event E F) →
    unsent_once before ≡ [] →
    IsInTurn (holds && runs_through (runs_once before) past) (unsent_once past) event →
    IsInTurn (holds && runs_once (before ++ past)) (unsent_once (before ++ past)) event
behind holds before past event sent h =
    subst (λ b. IsInTurn (holds && b) (unsent_once (before ++ past)) event)
    (sym (through_both false before past))
    (subst (λ l. IsInTurn (holds && runs_through (runs_once before) past) l event)
    (sym (unsent_both [] before past ∙ ap (λ l. unsent_through l past) sent)) h)

walk_exchanged : {E F : Type 0} (accepts : Acceptance) (w : World) (turns : List (Turn E F))
    (last : Option (Turn E F)) → in_exchange w ≡ runs_once (events_of turns) →
    unsent_once (events_of turns) ≡ [] → IsLive w → AllWalk accepts w (option_to_list last) →
    IfSome last (IsNextExchanged turns)
walk_exchanged accepts w turns None r sent live all = tt
walk_exchanged accepts w turns (Some turn) r sent live (plan, owes, walks, next, taken) = record {
  known = taken.1 ∙ ap not r;
  alone = λ past more event is.
      let holds = not (is_disconnected_in turn) in
      let running = runs_once (events_of turns) in
      let alone = last_alone accepts running w turn plan (is_disconnected_in turn) owes r live refl
      walks in
      behind holds (events_of turns) past event sent
      (alone_at holds running [] past event more (subst (AllAlone holds running []) is alone));
}

-- and in the last input too
pub last_exchanged : {E F : Type 0} (accepts : Acceptance) (settings : Settings)
    (turns : List (Turn E F)) (world : World) (count max : ℕ) (last : Option (Turn E F))
    (rose : Type 0) (result : Result (Unit {0}) (RunError E F)) →
    Run accepts (opening_world settings) turns world →
    Closes accepts world count max last rose result → IfSome last (IsNextExchanged turns)
last_exchanged accepts settings turns world count max last rose result run closes =
    let k = run_keeps accepts false (opening_world settings) turns world run refl in
    walk_exchanged accepts world turns last k.runs k.sent
    (run_live accepts (opening_world settings) turns world run refl)
    (last_walks accepts world count max last rose result closes)
