-- What is fixed in a run stays so.
use Rattle.std.proofs.Common.{◌≡◌, ℕ, List, [], ◌∷◌, refl, subst}
use Rattle.std.proofs.Common.{◌∙◌, Option, None}
use Rattle.ssh_link.specs.declared.command.Command.{Command}
use Rattle.ssh_link.specs.declared.command.Command.TheVariants as command
use Rattle.ssh_link.specs.declared.frame.InputKind.{InputKind}
use Rattle.ssh_link.specs.declared.frame.InputKind.TheVariants as input
use Rattle.ssh_link.specs.declared.link.TraceEntry.TheVariants.{Answered}
use Rattle.ssh_link.specs.declared.frame.Input.{Input}
use Rattle.ssh_auth.specs.declared.question.Question.{Question}
use Rattle.ssh_auth.specs.Plan.{Plan, Finish, Ask, Tell, Answer, Event, Follows, Reaches}
use Rattle.ssh_auth.specs.Publickey.{Acceptance}
use Rattle.ssh_rules.specs.Effect.{effect, refused_for, done_by, said}
use Rattle.ssh_rules.specs.Effect.{accepts, effect_at}
use Rattle.ssh_rules.specs.Outcome.{Outcome, Goes, Ends, Fails}
use Rattle.ssh_rules.specs.Reading.{Said, Disconnect, Over_cap}
use Rattle.ssh_rules.specs.Rows.{row}
use Rattle.ssh_rules.specs.Ticks.{keepalive_acts}
use Rattle.ssh_rules.specs.declared.error.Flow.{Flow}
use Rattle.ssh_rules.specs.declared.error.Flow.TheVariants.{Continue, Ended}
use Rattle.ssh_rules.specs.Run.{OwesKind, Owes, command_row, asks_for_keys}
use Rattle.ssh_rules.specs.Cause.{comes}
use Rattle.ssh_rules.specs.World.{World, Settings}
use Rattle.ssh_rules.specs.World.{hears, ChannelRequest}
use Rattle.ssh_rules.proofs.Plans.Acting.{PlanComes, EffectComes, AllBuilt, Law, acts_come}
use Rattle.ssh_rules.proofs.Plans.Acting.{one_comes, input_comes, exchange_comes}
use Rattle.ssh_rules.proofs.Plans.Passing.{payload_so}
use Rattle.ssh_rules.proofs.Plans.Apart.{refused_comes, apart_comes, tick_comes}
use Rattle.ssh_rules.proofs.Plans.Beside.{done_beside, settles_beside, opens_or_not_beside, row_beside}

abbrev pub IsSet : Settings → World → Type 0
IsSet settings w = w.settings ≡ settings

-- the world that it comes to has these settings
abbrev pub ComesSet : Settings → Outcome → Type 0
ComesSet settings (Goes w) = IsSet settings w
ComesSet settings (Ends w) = IsSet settings w
ComesSet settings (Fails fault) = Unit {0}

-- whatever is answered
abbrev pub Anything : (question : Question) → Answer question → Type 0
Anything question answer = Unit {0}

abbrev pub Any_command : Command → Type 0
Any_command command = Unit {0}

pub any_built : (commands : List Command) → AllBuilt Any_command commands
any_built [] = tt
any_built (command ∷ commands) = (tt, any_built commands)

same_set : (settings : Settings) (w v : World) → v.settings ≡ w.settings
    → v.disconnected ≡ w.disconnected → v.keys ≡ w.keys → IsSet settings w → IsSet settings v
same_set settings w v is ended keys h = is ∙ h

pub effect_set : (at : Option ChannelRequest) (settings : Settings) (w : World)
    (commanded : Command) → IsSet settings w →
    EffectComes (IsSet settings) (effect_at at w commanded)
effect_set at settings w commanded h =
    let holds = IsSet settings in
    refused_comes holds (refused_for w.disconnected w commanded) w (done_by at w commanded) h
    (done_beside holds (same_set settings) at w commanded h
    (apart_comes holds (λ message v k. k) (settles_beside holds (same_set settings))
    (opens_or_not_beside holds (same_set settings)) w commanded h))

abbrev law : Settings → Law
law settings = record {
  such = Anything;
  comes = ComesSet settings;
  holds = IsSet settings;
  built = Any_command;
  goes = λ w h. h;
  lends = λ lent commands s. any_built commands;
  judges = λ judged answer s. any_built answer.commands;
  listens = λ address port answer s. any_built answer.commands;
  keeps = λ at w command h b. effect_set at settings w command h;
}

row_set : (settings : Settings) (w : World) (moment : ℕ) (said : Said) → IsSet settings w →
    PlanComes Anything (ComesSet settings) (row w moment said)
row_set settings w moment Disconnect h = h
row_set settings w moment Over_cap h = h
row_set settings w moment said h =
    row_beside (law settings) (same_set settings) (λ why. tt) w moment said tt h

-- ---- inputs

command_set : (settings : Settings) (w : World) (ticket : ℕ) (commanded : Command)
    → IsSet settings w →
    PlanComes Anything (ComesSet settings) (command_row w ticket commanded)
command_set settings w ticket commanded h =
    one_comes (law settings) (effect w commanded) (λ outcome world. Tell (Answered ticket outcome)
    (Finish (Goes world)))
    (effect_set None settings w commanded h) (λ outcome world k. k)

kind_set : (accepts : Acceptance) (settings : Settings) (w : World) (moment : ℕ) (kind : InputKind)
    (plan : Plan Outcome) →
    OwesKind accepts w moment kind plan → IsSet settings w → PlanComes Anything (ComesSet settings)
    plan
kind_set accepts settings w moment input.End plan o h = rw o h
kind_set accepts settings w moment (input.Payload payload) plan o h =
    let v = hears payload w in
    payload_so accepts v moment payload plan (PlanComes Anything (ComesSet settings)) o
    (λ said says. row_set settings v moment said h)
    (λ passage. exchange_comes (law settings) (λ u k. (λ keys later. k, λ keys. k)) payload passage v h
    tt tt)
kind_set accepts settings w moment (input.Command ticket commanded) plan o h =
    rw o (command_set settings w ticket commanded h)
kind_set accepts settings w moment (input.OpenReply ticket answer) plan o h =
    rw o (command_set settings w ticket (command.Answer answer) h)
kind_set accepts settings w moment input.KeepaliveTick plan o h =
    rw o (acts_come (law settings) (keepalive_acts w) w h (tick_comes (law settings) w tt h))
kind_set accepts settings w moment input.InactivityTick plan o h = rw o tt
kind_set accepts settings w moment input.RekeyTick plan o h = rw o h

-- what an input leads to has the settings of the world before it
follows_set : {E F : Type 0} (settings : Settings) (plan : Plan Outcome) (events : List (Event E F))
    (outcome : Outcome) →
    PlanComes Anything (ComesSet settings) plan → Follows plan events outcome
    → ComesSet settings outcome
follows_set settings plan [] outcome k h = subst (PlanComes Anything (ComesSet settings)) h k
follows_set settings (Finish other) (event ∷ events) outcome k h = absurd h
follows_set settings (Ask question next) (event ∷ events) outcome k h = follows_set settings
    (next h.0) events outcome (k h.0 tt) h.2
follows_set settings (Tell entry next) (event ∷ events) outcome k h = follows_set settings next
    events outcome k h.1

-- so has the world that it comes to before its frames are handed on
pub kind_stays_set : {E F : Type 0} (accepts : Acceptance) (w : World) (moment : ℕ)
    (kind : InputKind) (plan : Plan Outcome) (events : List (Event E F)) (flow : Flow)
    (world : World) → OwesKind accepts w moment kind plan →
    Reaches plan events (Finish (comes flow world)) → world.settings ≡ w.settings
kind_stays_set accepts w moment kind plan events Continue world o f =
    follows_set w.settings plan events (Goes world)
    (kind_set accepts w.settings w moment kind plan o refl) f
kind_stays_set accepts w moment kind plan events Ended world o f =
    follows_set w.settings plan events (Ends world)
    (kind_set accepts w.settings w moment kind plan o refl) f

pub stays_set : {E F : Type 0} (accepts : Acceptance) (settings : Settings) (w : World)
    (input : Input) (plan : Plan Outcome)
    (events : List (Event E F)) (world : World) → Owes accepts w input plan
    → Follows plan events (Goes world) →
    w.settings ≡ settings → world.settings ≡ settings
stays_set accepts settings w input plan events world o f h =
    follows_set settings plan events (Goes world)
    (rw o.2 (input_comes Anything (ComesSet settings) (asks_for_keys input.kind) o.0
    (λ v. (λ x. (x, x), λ x. x, λ keys x. x))
    (kind_set accepts settings w input.moment input.kind o.0 o.1 h))) f
