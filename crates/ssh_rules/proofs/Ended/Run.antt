-- A run ends well only by an input that ends it.
use Rattle.std.proofs.Common.{◌≡◌, ◌⊎◌, ℕ, List, [], ◌∷◌, Bool, true, false}
use Rattle.std.proofs.Common.{refl, sym, ◌∙◌, subst, inl, inr, cond, map, ◌||◌, not, Option, None}
use Rattle.std.specs.List.{list_any}
use Rattle.std.specs.Prelude.{drop, Result, Ok, Err}
use Rattle.ssh_wire.specs.declared.error.WireError.{WireError}
use Rattle.ssh_link.specs.declared.command.Command.{Command}
use Rattle.ssh_link.specs.declared.command.Command.TheVariants as command
use Rattle.ssh_link.specs.declared.frame.InputKind.{InputKind}
use Rattle.ssh_link.specs.declared.frame.InputKind.TheVariants as input
use Rattle.ssh_link.specs.declared.link.TraceEntry.TheVariants.{Answered, Sent}
use Rattle.ssh_auth.specs.declared.call.Call.{Call}
use Rattle.ssh_auth.specs.declared.question.Question.{Question}
use Rattle.ssh_auth.specs.declared.question.Question.TheVariants as ask
use Rattle.ssh_auth.specs.Calls.{admission_call, lent_call, judged_call}
use Rattle.ssh_auth.specs.Was.{was}
use Rattle.ssh_auth.proofs.Back.{lent_back, judged_back}
use Rattle.ssh_auth.specs.Plan.{Plan, Finish, Ask, Tell, Answer, Event, Follows, after, answered}
use Rattle.ssh_auth.specs.Plan.{calls_in}
use Rattle.ssh_auth.specs.Publickey.{Acceptance, Circumstances}
use Rattle.ssh_rules.specs.declared.gate.Gate.{Gate}
use Rattle.ssh_rules.specs.declared.gate.Gate.TheVariants as gate
use Rattle.ssh_rules.specs.Acts.{acts, frames_given}
use Rattle.ssh_rules.specs.Effect.{effect, done_by, done_apart, refused_for, said, sends}
use Rattle.ssh_rules.specs.Effect.{is_too_long, effect_at}
use Rattle.ssh_rules.specs.OwnMessages.{OwnMessage, forward_request, cancel, keepalive, ping, debug}
use Rattle.ssh_rules.specs.OwnMessages.{disconnect_message}
use Rattle.ssh_rules.specs.OwnOpens.{own_open_of}
use Rattle.ssh_rules.specs.Ticks.{keepalive_acts, inactivity_acts, ticked}
use Rattle.ssh_wire.specs.Messages.{written, request_success, request_failure}
use Rattle.ssh_rules.specs.Gate.{gate_of}
use Rattle.ssh_rules.specs.Outcome.{Outcome, Goes, Ends, Fails}
use Rattle.ssh_rules.specs.Reading.{Said, Service}
use Rattle.ssh_rules.specs.Reading.{Open, Agreed, SaysConfirmation}
use Rattle.ssh_rules.specs.Reading.{Unread, Connection, Unfit, Without_packets, Says}
use Rattle.ssh_rules.specs.Reading.{SaysOpen, said_of}
use Rattle.ssh_rules.specs.Rows.{row, exchange_acts}
use Rattle.ssh_rules.specs.Run.{OwesKind, OwesPayload, Owes, Turn, Turns, Run, calls_of}
use Rattle.ssh_rules.specs.Run.{command_row}
use Rattle.ssh_rules.specs.Run.{finish_input, going_out, handed_on, goes_unless_ended, begins}
use Rattle.ssh_rules.specs.Run.{is_due, asks_for_keys}
use Rattle.ssh_rules.specs.Valid.{IsEnding, IsEndingKind, disconnects, recorded_so}
use Rattle.ssh_rules.specs.Valid.{call_disconnects}
use Rattle.ssh_rules.specs.World.{World, circumstances}
use Rattle.ssh_rules.proofs.Plans.Gates.{is_disconnect}
use Rattle.ssh_rules.proofs.Plans.Acting.{PlanComes, EffectComes, AllBuilt, Law, acts_come}
use Rattle.ssh_rules.proofs.Plans.Acting.{one_comes, comes_then, told_come, exchange_comes}
use Rattle.ssh_rules.proofs.Plans.Passing.{payload_so}
use Rattle.ssh_rules.proofs.Plans.Settled.{Anything}
use Rattle.ssh_rules.specs.World.{hears, ChannelRequest}
use Rattle.ssh_rules.proofs.Plans.Apart.{sent_comes, refused_comes, tick_comes}
use Rattle.ssh_rules.proofs.Plans.Beside.{done_beside, settles_beside, opens_or_not_beside, row_beside}
use Rattle.ssh_rules.proofs.Plans.Beside.{IsOther}
use Rattle.ssh_rules.proofs.Plans.Emptied.{comes_of}

-- ---- what ends no run

-- no command of these ends the connection
abbrev pub IsMild : Command → Type 0
IsMild one = disconnects one ≡ false

-- nor one of those that the answer holds
abbrev pub IsMildAnswer : (question : Question) → Answer question → Type 0
IsMildAnswer (ask.Lends lent) commands = AllBuilt IsMild commands
IsMildAnswer (ask.Judges judged) answer = AllBuilt IsMild answer.commands
IsMildAnswer (ask.Listens address port) answer = AllBuilt IsMild answer.commands
IsMildAnswer question answer = Unit {0}

-- the connection was not ended
abbrev pub IsLive : World → Type 0
IsLive w = w.disconnected ≡ false

-- the run goes on, or a fault stops it
abbrev IsNoEnd : Outcome → Type 0
IsNoEnd (Goes w) = IsLive w
IsNoEnd (Ends w) = ⊥
IsNoEnd (Fails fault) = Unit {0}

pub same_live : (w v : World) → v.settings ≡ w.settings → v.disconnected ≡ w.disconnected
    → v.keys ≡ w.keys → IsLive w → IsLive v
same_live w v is ended keys h = ended ∙ h

-- a message that does not end the connection
pub said_live : (message : OwnMessage) (w : World) → message.ends ≡ false → IsLive w
    → IsLive (said message w)
said_live message w is h = rw (h, is) refl

sent_live : (message : OwnMessage) (w : World) → message.ends ≡ false → IsLive w
    → EffectComes IsLive (sends message w)
sent_live message w is h = sent_comes IsLive message w h (said_live message w is h)

-- or one that does, and is too long
long_live : (message : OwnMessage) (w : World) (long : Bool) → is_too_long message.payload ≡ long
    → not long ≡ false → IsLive w → EffectComes IsLive (sends message w)
long_live message w true is mild h = rw is h
long_live message w false is mild h = absurd (cc)

apart_live : (w : World) (one : Command) → IsMild one → IsLive w
    → EffectComes IsLive (done_apart w one)
apart_live w (command.TcpipForward address port reply) mild h =
    sent_live (forward_request address port reply) w refl h
apart_live w (command.CancelTcpipForward address port reply) mild h =
    sent_live (cancel address port reply) w refl h
apart_live w command.Keepalive mild h = sent_live keepalive w refl h
apart_live w (command.Ping slot) mild h = sent_live (ping slot) w refl h
apart_live w command.RequestSuccess mild h =
    settles_beside IsLive same_live (written request_success tt) w h
apart_live w command.RequestFailure mild h =
    settles_beside IsLive same_live (written request_failure tt) w h
apart_live w (command.Debug always text language) mild h =
    sent_live (debug always text language) w refl h
apart_live w (command.Disconnect reason description language) mild h =
    let message = disconnect_message reason description language in
    long_live message w (is_too_long message.payload) refl mild h
apart_live w other mild h = opens_or_not_beside IsLive same_live (own_open_of other) w h

pub effect_live : (at : Option ChannelRequest) (w : World) (one : Command) → IsMild one
    → IsLive w → EffectComes IsLive (effect_at at w one)
effect_live at w one mild h =
    refused_comes IsLive (refused_for w.disconnected w one) w (done_by at w one) h
    (done_beside IsLive same_live at w one h (apart_live w one mild h))

abbrev law : Law
law = record {
  such = IsMildAnswer;
  comes = IsNoEnd;
  holds = IsLive;
  built = IsMild;
  goes = λ w h. h;
  lends = λ lent commands s. s;
  judges = λ judged answer s. s;
  listens = λ address port answer s. s;
  keeps = λ at w one h mild. effect_live at w one mild h;
}

row_on : (w : World) (moment : ℕ) (said : Said) → IsOther said → IsLive w
    → PlanComes IsMildAnswer IsNoEnd (row w moment said)
row_on w moment said is h = row_beside law same_live (λ why. tt) w moment said is h

command_on : (w : World) (ticket : ℕ) (one : Command) → IsMild one → IsLive w
    → PlanComes IsMildAnswer IsNoEnd (command_row w ticket one)
command_on w ticket one mild h =
    one_comes law (effect w one) (λ outcome world. Tell (Answered ticket outcome)
    (Finish (Goes world))) (effect_live None w one mild h) (λ outcome world k. k)

tick_on : (w : World) → IsLive w → PlanComes IsMildAnswer IsNoEnd (acts (keepalive_acts w) w)
tick_on w h =
    acts_come law (keepalive_acts w) w h
    (tick_comes law w tt (said_live keepalive (ticked w) refl h))

-- ---- what was answered

pub mild_step : (a b : Bool) → (a || b) ≡ false → (a ≡ false) × (b ≡ false)
mild_step true b h = absurd (cc)
mild_step false b h = (refl, h)

all_mild : (commands : List Command) → list_any disconnects commands ≡ false
    → AllBuilt IsMild commands
all_mild [] h = tt
all_mild (one ∷ commands) h =
    let both = mild_step (disconnects one) (list_any disconnects commands) h in
    (both.0, all_mild commands both.1)

-- no call of these recorded a command that ends the connection
abbrev pub AreMild : {E : Type 0} → List (Call E) → Type 0
AreMild calls = list_any call_disconnects calls ≡ false

first_mild : {E : Type 0} (call : Call E) (calls : List (Call E)) → AreMild (call ∷ calls)
    → (list_any disconnects (recorded_so (was call)) ≡ false) × AreMild calls
first_mild call calls h = mild_step (call_disconnects call) (list_any call_disconnects calls) h

pub mild_answer : {E F : Type 0} (question : Question) (answer : Answer question)
    (events : List (Event E F)) → AreMild (calls_in (answered question answer ∷ events))
    → IsMildAnswer question answer × AreMild (calls_in events)
mild_answer ask.Banner answer events h = (tt, h)
mild_answer {E} {F} (ask.Admits admission) answer events h =
    (tt, (first_mild {E = E} (admission_call admission (Ok answer)) (calls_in events) h).1)
mild_answer {E} {F} (ask.Lends lent) commands events h =
    let both = first_mild {E = E} (lent_call lent (Ok tt) commands) (calls_in events) h in
    let same = lent_back E lent (Ok tt) commands in (
      all_mild commands (subst (λ x. list_any disconnects (recorded_so {E = E} x) ≡ false) same
          both.0),
      both.1,
    )
mild_answer {E} {F} (ask.Judges judged) answer events h =
    let both = first_mild {E = E} (judged_call judged (Ok answer.granted) answer.commands)
    (calls_in events) h in
    let same = judged_back E judged (Ok answer.granted) answer.commands in (
      all_mild answer.commands
          (subst (λ x. list_any disconnects (recorded_so {E = E} x) ≡ false) same both.0),
      both.1,
    )
mild_answer {E} {F} (ask.Listens address port) answer events h =
    let both = mild_step (list_any disconnects answer.commands)
    (list_any (call_disconnects {E = E}) (calls_in events)) h in
    (all_mild answer.commands both.0, both.1)
mild_answer (ask.Adjusts channel current) answer events h = (tt, h)
mild_answer (ask.Done place outcome) answer events h = (tt, h)
mild_answer ask.Begins answer events h = (tt, h)
mild_answer (ask.Steps payload) answer events h = (tt, h)

-- a plan that does not end is not come to an end
never_ends : {E F : Type 0} (plan : Plan Outcome) (events : List (Event E F)) (world : World)
    → PlanComes IsMildAnswer IsNoEnd plan → AreMild (calls_in events)
    → Follows plan events (Ends world) → ⊥
never_ends plan [] world k mild h = subst (PlanComes IsMildAnswer IsNoEnd) h k
never_ends (Finish other) (event ∷ events) world k mild h = h
never_ends {E} {F} (Ask question next) (event ∷ events) world k mild h =
    let both = mild_answer question h.0 events
    (subst (λ e. AreMild {E = E} (calls_in (e ∷ events))) h.1 mild) in
    never_ends (next h.0) events world (k h.0 both.0) both.1 h.2
never_ends {E} {F} (Tell entry next) (event ∷ events) world k mild h =
    never_ends next events world k
    (subst (λ e. AreMild {E = E} (calls_in (e ∷ events))) h.0 mild) h.1

-- an exchange of keys that this side begins ends no run
begun_on : (w : World) (due : Bool) → IsLive w
    → PlanComes IsMildAnswer IsNoEnd (acts (begins due) w)
begun_on w true h = acts_come law (begins true) w h
    ((λ keys later. h, λ keys. h), λ world k. tt)
begun_on w false h = h

goes_on : (w : World) (ended due : Bool) → w.disconnected ≡ ended → IsLive w
    → PlanComes IsMildAnswer IsNoEnd (cond ended (Finish (Ends w)) (acts (begins due) w))
goes_on w true due is h = absurd (cc)
goes_on w false due is h = begun_on w due h

finish_on : (asks : Bool) (outcome : Outcome) → IsNoEnd outcome
    → PlanComes IsMildAnswer IsNoEnd (finish_input asks outcome)
finish_on asks (Goes w) h =
    let v = handed_on w in
    told_come IsMildAnswer IsNoEnd (map Sent (going_out w)) (goes_unless_ended asks v)
    (goes_on v v.disconnected (is_due asks v) refl h)
finish_on asks (Ends w) h = absurd h
finish_on asks (Fails fault) h = tt

after_on : (asks : Bool) (plan : Plan Outcome) → PlanComes IsMildAnswer IsNoEnd plan
    → PlanComes IsMildAnswer IsNoEnd (after plan (finish_input asks))
after_on asks (Finish outcome) h = finish_on asks outcome h
after_on asks (Ask question next) h = λ answer s. after_on asks (next answer) (h answer s)
after_on asks (Tell entry next) h = after_on asks next h

-- nor is the input that owes it
input_on : {E F : Type 0} (asks : Bool) (plan : Plan Outcome) (events : List (Event E F))
    (world : World) → PlanComes IsMildAnswer IsNoEnd plan → AreMild (calls_in events)
    → Follows (after plan (finish_input asks)) events (Ends world) → ⊥
input_on asks plan events world k mild h =
    never_ends (after plan (finish_input asks)) events world (after_on asks plan k) mild h

-- ---- inputs

-- what does not fit is no end
open_said : (fields : List ℕ) (said : Said) → SaysOpen fields said → IsOther said
open_said fields (Open message) h = tt
open_said fields Unread h = tt
open_said fields Without_packets h = tt
open_said fields (Unfit why) h = tt
open_said fields _ h = absurd h

confirmation_said : (fields : List ℕ) (said : Said) → SaysConfirmation fields said → IsOther said
confirmation_said fields (Agreed message) h = tt
confirmation_said fields Without_packets h = tt
confirmation_said fields (Unfit why) h = tt
confirmation_said fields _ h = absurd h

-- what was read by a layout is no end, where it says none
read_other : {S : Type 0} (says : S → Said) (read : Result S WireError)
    → ((value : S) → IsOther (says value)) → IsOther (said_of says read)
read_other says (Ok value) h = h value
read_other says (Err why) h = tt

-- what is said at a gate that ends no run ends none
other_at : (given : Circumstances) (w : World) (at : Gate) (fields : List ℕ) (said : Said)
    → Says given w at fields said →
    (at ≡ gate.Ends) ⊎ ((at ≡ gate.OverCap) ⊎ IsOther said)
other_at given w gate.Ends fields said h = inl refl
other_at given w gate.OverCap fields said h = inr (inl refl)
other_at given w gate.Nothing fields said h = inr (inr (rw h tt))
other_at given w gate.ServiceRequest fields said h =
    inr (inr (rw h.2 (read_other Service h.0 (λ name. tt))))
other_at given w gate.UserauthRequest fields said h = inr (inr (rw h.2 tt))
other_at given w gate.InfoResponse fields said h = inr (inr (rw h.2 tt))
other_at given w gate.ChannelOpen fields said h = inr (inr (open_said fields said h))
other_at given w gate.OpenConfirmation fields said h =
    inr (inr (confirmation_said fields said h))
other_at given w (gate.Connection message) fields said h =
    inr (inr (rw h.2 (read_other Connection h.0 (λ spoken. tt))))

command_ends : {E F : Type 0} (asks : Bool) (w : World) (ticket : ℕ) (one : Command)
    (events : List (Event E F)) (world : World) (ends : Bool) → disconnects one ≡ ends → IsLive w
    → AreMild (calls_in events)
    → Follows (after (command_row w ticket one) (finish_input asks)) events (Ends world)
    → disconnects one ≡ true
command_ends asks w ticket one events world true is live mild f = is
command_ends asks w ticket one events world false is live mild f =
    absurd (input_on asks (command_row w ticket one) events world
    (command_on w ticket one is live) mild f)

-- that the peer was heard changes no gate
gate_heard : (payload : List ℕ) (w : World) → gate_of (hears payload w) payload ≡ gate_of w payload
gate_heard [] w = refl
gate_heard (n ∷ fields) w = refl

-- what was read ends a run only at a gate that does
read_ends : {E F : Type 0} (given : Circumstances) (asks : Bool) (w : World) (moment : ℕ)
    (payload : List ℕ) (said : Said) (events : List (Event E F)) (world : World)
    → Says given w (gate_of w payload) (drop 1 payload) said → IsLive w
    → AreMild (calls_in events)
    → Follows (after (row w moment said) (finish_input asks)) events (Ends world)
    → ((fields : List ℕ) × (payload ≡ 1 ∷ fields)) ⊎ (gate_of w payload ≡ gate.OverCap)
read_ends given asks w moment payload said events world says live mild f =
    elim (other_at given w (gate_of w payload) (drop 1 payload) said says) [
      | inl ends ↦ inl (drop 1 payload, is_disconnect w payload ends)
      | inr (inl over) ↦ inr over
      | inr (inr other) ↦ absurd (input_on asks (row w moment said) events world
          (row_on w moment said other live) mild f)
    ]

payload_ends : {E F : Type 0} (accepts : Acceptance) (asks : Bool) (w : World) (moment : ℕ)
    (payload : List ℕ) (first : Plan Outcome) (events : List (Event E F)) (world : World)
    → OwesPayload accepts (hears payload w) moment payload first → IsLive w
    → AreMild (calls_in events)
    → Follows (after first (finish_input asks)) events (Ends world)
    → IsEndingKind w (input.Payload payload)
payload_ends {E} {F} accepts asks w moment payload first events world o live mild f =
    let v = hears payload w in
    payload_so accepts v moment payload first
    (λ plan. Follows {E = E} {F = F} (after plan (finish_input asks)) events (Ends world)
    → IsEndingKind w (input.Payload payload)) o
    (λ said says k. subst
    (λ at. ((fields : List ℕ) × (payload ≡ 1 ∷ fields)) ⊎ (at ≡ gate.OverCap))
    (gate_heard payload w)
    (read_ends (circumstances accepts v.settings moment) asks v moment payload said events world
    says live mild k))
    (λ passage k. absurd (input_on asks (acts (exchange_acts payload passage) v) events world
    (exchange_comes law (λ u k. (λ keys later. k, λ keys. k)) payload passage v live tt tt) mild k)) f

kind_ends : {E F : Type 0} (accepts : Acceptance) (asks : Bool) (w : World) (moment : ℕ)
    (kind : InputKind) (first : Plan Outcome) (events : List (Event E F)) (world : World)
    → OwesKind accepts w moment kind first → IsLive w → AreMild (calls_in events)
    → Follows (after first (finish_input asks)) events (Ends world) → IsEndingKind w kind
kind_ends accepts asks w moment input.End first events world o live mild f = tt
kind_ends accepts asks w moment (input.Payload payload) first events world o live mild f =
    payload_ends accepts asks w moment payload first events world o live mild f
kind_ends {E} {F} accepts asks w moment (input.Command ticket one) first events world o live mild
    f =
    command_ends asks w ticket one events world (disconnects one) refl live mild
    (subst (λ q. Follows {E = E} {F = F} (after q (finish_input asks)) events (Ends world)) o f)
kind_ends {E} {F} accepts asks w moment (input.OpenReply ticket answer) first events world o live
    mild f =
    absurd (input_on asks (command_row w ticket (command.Answer answer)) events world
    (command_on w ticket (command.Answer answer) refl live) mild
    (subst (λ q. Follows {E = E} {F = F} (after q (finish_input asks)) events (Ends world)) o f))
kind_ends {E} {F} accepts asks w moment input.KeepaliveTick first events world o live mild f =
    absurd (input_on asks (acts (keepalive_acts w) w) events world (tick_on w live) mild
    (subst (λ q. Follows {E = E} {F = F} (after q (finish_input asks)) events (Ends world)) o f))
kind_ends {E} {F} accepts asks w moment input.InactivityTick first events world o live mild f =
    absurd (input_on asks (acts inactivity_acts w) events world tt mild
    (subst (λ q. Follows {E = E} {F = F} (after q (finish_input asks)) events (Ends world)) o f))
kind_ends {E} {F} accepts asks w moment input.RekeyTick first events world o live mild f =
    absurd (input_on asks (Finish (Goes w)) events world live mild
    (subst (λ q. Follows {E = E} {F = F} (after q (finish_input asks)) events (Ends world)) o f))

turn_ends : {E F : Type 0} (accepts : Acceptance) (w : World) (turn : Turn E F)
    (first : Plan Outcome)
    (world : World) (recorded : Bool) → list_any call_disconnects (calls_of turn) ≡ recorded
    → OwesKind accepts w turn.input.moment turn.input.kind first → IsLive w
    → Follows (after first (finish_input (asks_for_keys turn.input.kind))) turn.events (Ends world)
    → IsEnding w turn
turn_ends accepts w turn first world true is o live f = inr is
turn_ends accepts w turn first world false is o live f =
    inl (kind_ends accepts (asks_for_keys turn.input.kind) w turn.input.moment turn.input.kind first
    turn.events world o live is f)

-- an input by which a run ends well is one that ends it
pub ended : {E F : Type 0} (accepts : Acceptance) (w : World) (turn : Turn E F)
    (plan : Plan Outcome)
    (world : World) → Owes accepts w turn.input plan → IsLive w
    → Follows plan turn.events (Ends world) → IsEnding w turn
ended {E} {F} accepts w turn plan world o live f =
    turn_ends accepts w turn o.0 world (list_any call_disconnects (calls_of turn)) refl o.1 live
    (subst (λ q. Follows {E = E} {F = F} q turn.events (Ends world)) o.2 f)

-- ---- a run that goes on

-- in a world from which a run goes on the connection was not ended
abbrev ComesLive : Outcome → Type 0
ComesLive (Goes w) = IsLive w
ComesLive _ = Unit {0}

live_step : (w : World) (ended due : Bool) → w.disconnected ≡ ended
    → PlanComes Anything ComesLive (cond ended (Finish (Ends w)) (acts (begins due) w))
live_step w true due is = tt
live_step w false true is = λ payload s.
    told_come Anything ComesLive (map Sent (frames_given (payload ∷ []))) _ is
live_step w false false is = is

finished_live : (asks : Bool) (outcome : Outcome)
    → PlanComes Anything ComesLive (finish_input asks outcome)
finished_live asks (Goes w) =
    let v = handed_on w in
    told_come Anything ComesLive (map Sent (going_out w)) (goes_unless_ended asks v)
    (live_step v v.disconnected (is_due asks v) refl)
finished_live asks (Ends w) =
    told_come Anything ComesLive (map Sent (going_out w)) (Finish (Ends (handed_on w))) tt
finished_live asks (Fails fault) = tt

turn_live : {E F : Type 0} (accepts : Acceptance) (w : World) (turn : Turn E F) (mid : World)
    → Turns accepts w turn mid → IsLive mid
turn_live {E} {F} accepts w turn mid t =
    let asks = asks_for_keys turn.input.kind in
    comes_of ComesLive t.0 turn.events (Goes mid)
    (subst (PlanComes Anything ComesLive) (sym t.1.2)
    (comes_then Anything ComesLive t.1.0 (finish_input asks) (finished_live asks))) t.2

pub run_live : {E F : Type 0} (accepts : Acceptance) (w : World) (turns : List (Turn E F))
    (world : World) → Run accepts w turns world → IsLive w → IsLive world
run_live accepts w [] world run live = subst IsLive (sym run) live
run_live accepts w (turn ∷ turns) world run live =
    run_live accepts run.0 turns world run.2 (turn_live accepts w turn run.0 run.1)
