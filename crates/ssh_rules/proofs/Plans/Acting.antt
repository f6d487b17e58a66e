-- Laws of rows, by their acts: what each turn of the world and each command keeps, a row keeps.
use Rattle.std.proofs.Common.{ℕ, ◌+◌, Bool, true, false, cond, List, [], ◌∷◌, map, Option, None}
use Rattle.ssh_link.specs.declared.command.Command.{Command}
use Rattle.ssh_link.specs.declared.link.TraceEntry.{TraceEntry}
use Rattle.ssh_link.specs.declared.link.TraceEntry.TheVariants.{Noticed, Sent}
use Rattle.ssh_link.specs.declared.outcome.CommandOutcome.{CommandOutcome}
use Rattle.ssh_link.specs.declared.outcome.CommandOutcome.TheVariants.{Accepted, Opened, Refused}
use Rattle.ssh_auth.specs.declared.question.Judged.{Judged}
use Rattle.ssh_auth.specs.declared.question.Lent.{Lent}
use Rattle.ssh_auth.specs.declared.question.Question.{Question}
use Rattle.ssh_auth.specs.declared.question.Question.TheVariants.{Lends, Judges, Listens}
use Rattle.ssh_auth.specs.Plan.{Plan, Finish, Ask, Tell, Answer, Judgement, Listening, after}
use Rattle.ssh_channels.specs.Lines.{all_go_on}
use Rattle.ssh_rules.specs.declared.exchange.Keys.{Keys}
use Rattle.ssh_rules.specs.declared.exchange.Passage.{Passage}
use Rattle.ssh_rules.specs.declared.exchange.Passage.TheVariants.{Begins, Steps, Barred, Late}
use Rattle.ssh_rules.specs.declared.exchange.Passage.TheVariants.{Passes}
use Rattle.ssh_rules.specs.Acts.{Act, Notes, Calls, Judges_by, Listens_by, Adjusts_by, Turns}
use Rattle.ssh_rules.specs.Acts.{Is_over, Stops, tell_all, Exchanges, Exchanging, moved}
use Rattle.ssh_rules.specs.Acts.{exchange_question, payloads_given, frames_given}
use Rattle.ssh_rules.specs.Acts.{tell_done, done, done_all, acts}
use Rattle.ssh_rules.specs.Effect.{Effect, Brings, effect_at}
use Rattle.ssh_rules.specs.Outcome.{Outcome, Goes, Ends, Fails, Inconsistent, Pending}
use Rattle.ssh_rules.specs.Rows.{exchange_acts}
use Rattle.ssh_rules.specs.Run.{finish_input, going_out, handed_on, goes_unless_ended, begins}
use Rattle.ssh_rules.specs.Run.{is_due}
use Rattle.ssh_rules.specs.World.{World, keyed as rekeyed, lined, ChannelRequest}
use Rattle.ssh_rules.proofs.Plans.Passing.{AreLater, moved_on}

-- where each answer is such a one, this holds of what the plan comes to
abbrev pub PlanComes : (such : (question : Question) → Answer question → Type 0)
    → (comes : Outcome → Type 0) → Plan Outcome → Type 0
PlanComes such comes (Finish outcome) = comes outcome
PlanComes such comes (Ask question next) = (answer : Answer question) → such question answer
    → PlanComes such comes (next answer)
PlanComes such comes (Tell entry next) = PlanComes such comes next

-- what a command leads to: such a world
abbrev pub EffectComes : (holds : World → Type 0) → Effect → Type 0
EffectComes holds (Brings notices outcome world) = holds world

-- each of these commands is such a one
abbrev pub AllBuilt : (built : Command → Type 0) → List Command → Type 0
AllBuilt built [] = Unit {0}
AllBuilt built (command ∷ commands) = built command × AllBuilt built commands

-- a law: of which answers it speaks, of which outcomes, of which worlds and commands on the way;
-- worlds of which it speaks are outcomes, the commands of such an answer are such, and each leads
-- from such a world to such a world
pub record Law : Type 1 where
  pub such : (question : Question) → Answer question → Type 0
  pub comes : Outcome → Type 0
  pub holds : World → Type 0
  pub built : Command → Type 0
  pub goes : (w : World) → holds w → comes (Goes w)
  pub lends : (lent : Lent) (commands : List Command) → such (Lends lent) commands
      → AllBuilt built commands
  pub judges : (judged : Judged) (answer : Judgement) → such (Judges judged) answer
      → AllBuilt built answer.commands
  pub listens : (address : List ℕ) (port : ℕ) (answer : Listening)
      → such (Listens address port) answer → AllBuilt built answer.commands
  pub keeps : (at : Option ChannelRequest) (w : World) (command : Command) → holds w
      → built command → EffectComes holds (effect_at at w command)

-- an exchange of keys leads from this world to such a world, as it goes on and at its end
abbrev pub IsRekeyed : (holds : World → Type 0) → World → Type 0
IsRekeyed holds w =
    ((keys : Keys) → AreLater keys w → holds (rekeyed keys w))
    × ((keys : Keys) → holds (rekeyed keys (lined all_go_on w)))

-- and so from each such world
abbrev pub AreRekeyed : (holds : World → Type 0) → Type 0
AreRekeyed holds = (w : World) → holds w → IsRekeyed holds w

-- each turn of the world, and each step of an exchange, leads to such a world, from this one up to
-- the first callback or step and from any such one after it; and the end, or a fault, is such an
-- outcome
abbrev pub ActsCome : (law : Law) → List Act → World → Type 0
ActsCome law [] w = Unit {0}
ActsCome law (Notes notice ∷ later) w = ActsCome law later w
ActsCome law (Calls at lent ∷ later) w = (world : World) → law.holds world
    → ActsCome law later world
ActsCome law (Judges_by at judged by ∷ later) w = (granted : Bool) (world : World)
    → law.holds world → law.holds (by granted world) × ActsCome law later (by granted world)
ActsCome law (Listens_by address port by ∷ later) w = (granted : Bool) (bound : ℕ)
    (world : World) → law.holds world
    → law.holds (by granted bound world) × ActsCome law later (by granted bound world)
ActsCome law (Adjusts_by channel current by ∷ later) w = (window : ℕ) → law.holds (by window w)
    × ActsCome law later (by window w)
ActsCome law (Exchanges asked ∷ later) w = IsRekeyed law.holds w
    × ((world : World) → law.holds world → ActsCome law later world)
ActsCome law (Turns by ∷ later) w = law.holds (by w) × ActsCome law later (by w)
ActsCome law (Is_over ∷ later) w = law.comes (Ends w)
ActsCome law (Stops why ∷ later) w = law.comes (Fails why)

tells_come : (law : Law) (entries : List TraceEntry) (next : Plan Outcome)
    → PlanComes law.such law.comes next →
    PlanComes law.such law.comes (tell_all entries next)
tells_come law [] next h = h
tells_come law (entry ∷ entries) next h = tells_come law entries next h

told_done : (law : Law) (place : ℕ) (outcome : CommandOutcome) (next : Plan Outcome)
    → PlanComes law.such law.comes next →
    PlanComes law.such law.comes (tell_done place outcome next)
told_done law place Accepted next h = h
told_done law place (Opened channel) next h = λ _ _. h
told_done law place (Refused why) next h = λ _ _. h

-- one command, and then what follows
pub one_comes : (law : Law) (does : Effect) (next : CommandOutcome → World → Plan Outcome)
    → EffectComes law.holds does →
    ((outcome : CommandOutcome) (world : World) → law.holds world → PlanComes law.such law.comes
    (next outcome world)) →
    PlanComes law.such law.comes (done does next)
one_comes law (Brings notices outcome world) next k h = tells_come law (map Noticed notices)
    (next outcome world) (h outcome world k)

all_come : (law : Law) (at : Option ChannelRequest) (place : ℕ) (commands : List Command)
    (w : World) (next : World → Plan Outcome) → law.holds w →
    AllBuilt law.built commands →
    ((world : World) → law.holds world → PlanComes law.such law.comes (next world)) →
    PlanComes law.such law.comes (done_all at place commands w next)
all_come law at place [] w next s b h = h w s
all_come law at place (command ∷ commands) w next s b h =
    one_comes law (effect_at at w command) (λ outcome world. tell_done place outcome
    (done_all at (place + 1) commands world next))
    (law.keeps at w command s b.0)
    (λ outcome world t. told_done law place outcome (done_all at (place + 1) commands world next)
    (all_come law at (place + 1) commands world next t b.1 h))

moved_holds : (law : Law) (asked : Exchanging) (answer : Answer (exchange_question asked))
    (w : World) → IsRekeyed law.holds w → law.holds (moved asked answer w)
moved_holds law asked answer w by = moved_on law.holds asked answer w by.0 by.1

pub acts_come : (law : Law) (now : List Act) (w : World) → law.holds w → ActsCome law now w →
    PlanComes law.such law.comes (acts now w)
acts_come law [] w h k = law.goes w h
acts_come law (Notes notice ∷ later) w h k = acts_come law later w h k
acts_come law (Calls at lent ∷ later) w h k = λ commands s.
    all_come law at 0 commands w (acts later) h (law.lends lent commands s)
    (λ world t. acts_come law later world t (k world t))
acts_come law (Judges_by at judged by ∷ later) w h k = λ answer s.
    all_come law at 0 answer.commands w (λ world. acts later (by answer.granted world)) h
    (law.judges judged answer s)
    (λ world t. acts_come law later (by answer.granted world) (k answer.granted world t).0
    (k answer.granted world t).1)
acts_come law (Listens_by address port by ∷ later) w h k = λ answer s.
    all_come law None 0 answer.commands w
    (λ world. acts later (by answer.granted answer.port world)) h
    (law.listens address port answer s)
    (λ world t. acts_come law later (by answer.granted answer.port world)
    (k answer.granted answer.port world t).0 (k answer.granted answer.port world t).1)
acts_come law (Adjusts_by channel current by ∷ later) w h k = λ window s.
    acts_come law later (by window w) (k window).0 (k window).1
acts_come law (Exchanges asked ∷ later) w h k = λ answer s.
    let v = moved asked answer w in
    let t = moved_holds law asked answer w k.0 in
    tells_come law (map Sent (frames_given (payloads_given asked answer))) (acts later v)
    (acts_come law later v t (k.1 v t))
acts_come law (Turns by ∷ later) w h k = acts_come law later (by w) k.0 k.1
acts_come law (Is_over ∷ later) w h k = k
acts_come law (Stops why ∷ later) w h k = k

-- a plan, and then the one that its outcome leads to
pub comes_then : {A : Type 0} (such : (question : Question) → Answer question → Type 0)
    (comes : Outcome → Type 0)
    (plan : Plan A) (later : A → Plan Outcome)
    → ((outcome : A) → PlanComes such comes (later outcome)) →
    PlanComes such comes (after plan later)
comes_then such comes (Finish outcome) later h = h outcome
comes_then such comes (Ask question next) later h = λ answer s. comes_then such comes (next answer)
    later h
comes_then such comes (Tell entry next) later h = comes_then such comes next later h

-- the end of an input
pub told_come : (such : (question : Question) → Answer question → Type 0) (comes : Outcome → Type 0)
    (entries : List TraceEntry)
    (next : Plan Outcome) → PlanComes such comes next → PlanComes such comes (tell_all entries next)
told_come such comes [] next h = h
told_come such comes (entry ∷ entries) next h = told_come such comes entries next h

-- a world of which a law speaks comes of a step of an exchange, and a fault of what does not come
pub exchange_comes : (law : Law) (by : AreRekeyed law.holds) (payload : List ℕ)
    (passage : Passage) (w : World) → law.holds w →
    law.comes (Fails Inconsistent) → law.comes (Fails Pending) →
    PlanComes law.such law.comes (acts (exchange_acts payload passage) w)
exchange_comes law by payload Begins w h barred late =
    acts_come law (exchange_acts payload Begins) w h (by w h, λ v t. (by v t, λ u s. tt))
exchange_comes law by payload Steps w h barred late =
    acts_come law (exchange_acts payload Steps) w h (by w h, λ v t. tt)
exchange_comes law by payload Barred w h barred late = barred
exchange_comes law by payload Late w h barred late = late
exchange_comes law by payload Passes w h barred late = law.goes w h

-- what holds of both ends of an input holds of the one that it comes to
pub goes_or_ends : (comes : Outcome → Type 0) (w : World) (ended : Bool) → comes (Goes w)
    → comes (Ends w) → comes (cond ended (Ends w) (Goes w))
goes_or_ends comes w true g e = e
goes_or_ends comes w false g e = g

-- what frames that are handed on, and the keys, take nothing from
abbrev pub IsPassedOn : (comes : Outcome → Type 0) → Type 0
IsPassedOn comes = (w : World)
    → (comes (Goes w) → comes (Goes (handed_on w)) × comes (Ends (handed_on w)))
    × (comes (Ends w) → comes (Ends (handed_on w)))
    × ((keys : Keys) → comes (Goes w) → comes (Goes (rekeyed keys w)))

begin_comes : (such : (question : Question) → Answer question → Type 0) (comes : Outcome → Type 0)
    (w : World) (due : Bool) → IsPassedOn comes → comes (Goes w) →
    PlanComes such comes (acts (begins due) w)
begin_comes such comes w true passes h = λ payload s.
    told_come such comes (map Sent (frames_given (payload ∷ []))) _ ((passes w).2 _ h)
begin_comes such comes w false passes h = h

end_comes : (such : (question : Question) → Answer question → Type 0) (comes : Outcome → Type 0)
    (w : World) (ended due : Bool) → IsPassedOn comes → comes (Goes w) → comes (Ends w) →
    PlanComes such comes (cond ended (Finish (Ends w)) (acts (begins due) w))
end_comes such comes w true due passes g e = e
end_comes such comes w false due passes g e = begin_comes such comes w due passes g

finish_comes : (such : (question : Question) → Answer question → Type 0) (comes : Outcome → Type 0)
    (ticked : Bool) (outcome : Outcome) →
    IsPassedOn comes → comes outcome → PlanComes such comes (finish_input ticked outcome)
finish_comes such comes ticked (Goes w) passes h =
    let v = handed_on w in
    let g = (passes w).0 h in
    told_come such comes (map Sent (going_out w)) (goes_unless_ended ticked v)
    (end_comes such comes v v.disconnected (is_due ticked v) passes g.0 g.1)
finish_comes such comes ticked (Ends w) passes h =
    told_come such comes (map Sent (going_out w)) _ ((passes w).1 h)
finish_comes such comes ticked (Fails fault) passes h = h

pub input_comes : (such : (question : Question) → Answer question → Type 0) (comes : Outcome
    → Type 0) (ticked : Bool) (plan : Plan Outcome) →
    IsPassedOn comes → PlanComes such comes plan →
    PlanComes such comes (after plan (finish_input ticked))
input_comes such comes ticked (Finish outcome) passes h =
    finish_comes such comes ticked outcome passes h
input_comes such comes ticked (Ask question next) passes h = λ answer s.
    input_comes such comes ticked (next answer) passes (h answer s)
input_comes such comes ticked (Tell entry next) passes h =
    input_comes such comes ticked next passes h
