-- How far a part of an input handed its frames on, where it stopped.
use Rattle.std.specs.Prelude.{◌≡◌, ◌⊎◌, ℕ, List, [], ◌++◌, Bool, true, false, Result, IfErr}
use Rattle.ssh_link.specs.Faults.{RoseIfKept}
use Rattle.ssh_auth.specs.Plan.{Plan, Finish, Event}
use Rattle.ssh_channels.specs.Lines.{all_go_on}
use Rattle.ssh_rules.specs.declared.error.Flow.{Flow}
use Rattle.ssh_rules.specs.declared.error.RunError.{RunError}
use Rattle.ssh_rules.specs.Acts.{Act, acts}
use Rattle.ssh_rules.specs.Cause.{Cause, cause_of, comes}
use Rattle.ssh_rules.specs.Cut.{IsAtFrame, IsBehindAll, IsBehindKexinit, RefusesAsLink}
use Rattle.ssh_rules.specs.Cut.{RefusesInside, frames_in}
use Rattle.ssh_rules.specs.Exchange.{joined, renewed}
use Rattle.ssh_rules.specs.Heard.{Heard}
use Rattle.ssh_rules.specs.Outcome.{Outcome}
use Rattle.ssh_rules.specs.World.{World, keyed, lined}
use Rattle.ssh_serving.specs.declared.server.Server.{Server}
use Rattle.ssh_serving.specs.Serve.{Serves}

-- the link failed as it was handed a frame
abbrev pub IsCutByLink : {E F : Type 0} → Cause E F → (starved : Type 0) → Plan Outcome
    → List (Event E F) → Type 0
IsCutByLink cause starved plan events = RefusesAsLink cause starved × IsAtFrame plan events

-- it did, or memory or the exchange of keys refused before a frame was handed on
abbrev pub IsCutBefore : {E F : Type 0} → Cause E F → (starved : Type 0) → Plan Outcome
    → List (Event E F) → Type 0
IsCutBefore cause starved plan events =
    (RefusesInside cause × (frames_in events ≡ [])) ⊎ IsCutByLink cause starved plan events

-- it did, or they refused behind all frames
abbrev pub IsCutBehind : {E F : Type 0} → Cause E F → (starved : Type 0) → Plan Outcome
    → List (Event E F) → Type 0
IsCutBehind cause starved plan events =
    (RefusesInside cause × IsBehindAll plan events) ⊎ IsCutByLink cause starved plan events

-- no frame was handed on, or the link failed, or they refused behind this side's KEXINIT
abbrev pub IsCutInRow : {E F : Type 0} → Cause E F → (starved : Type 0) → Plan Outcome
    → List (Event E F) → Type 0
IsCutInRow cause starved plan events = (frames_in events ≡ [])
    ⊎ IsCutByLink cause starved plan events ⊎ (RefusesInside cause × IsBehindKexinit events)

-- the plan was served, and where that stopped, the frames were cut so
abbrev pub ServesTo : {T E F : Type 0} → (IsCutSo : Cause E F → (starved : Type 0) → Plan Outcome
    → List (Event E F) → Type 0) → Plan Outcome → (T → World → Plan Outcome) → Heard E F
    → Heard E F → Server → Result T (RunError E F) → Type 0
ServesTo IsCutSo plan next before after session result =
    (serves : Serves plan next before after session result)
    × IfErr result (λ e. IsCutSo (cause_of e) (RoseIfKept before.starved after.starved) plan
    serves.0)

-- these acts were done so, whatever follows them
abbrev pub DoesTo : {E F : Type 0} → (IsCutSo : Cause E F → (starved : Type 0) → Plan Outcome
    → List (Event E F) → Type 0) → List Act → World → Heard E F → Heard E F → Server
    → Result (Unit {0}) (RunError E F) → Type 0
DoesTo IsCutSo now w before after session result = (later : List Act)
    → ServesTo IsCutSo (acts (now ++ later) w) (λ _. acts later) before after session result

-- the plan came to its end so
abbrev pub CompletesTo : {E F : Type 0} → (IsCutSo : Cause E F → (starved : Type 0)
    → Plan Outcome → List (Event E F) → Type 0) → Plan Outcome → Heard E F → Heard E F → Server
    → Result Flow (RunError E F) → Type 0
CompletesTo IsCutSo plan before after session result =
    ServesTo IsCutSo plan (λ flow world. Finish (comes flow world)) before after session result

-- ---- an exchange of keys that ends

-- what waits is written, each channel as far as its credit goes, where the new keys are in use
abbrev pub lets_out : (done : Bool) → World → World
lets_out true w = lined all_go_on w
lets_out false w = w

-- and the exchange is over then; where they are not, the peer's payload may have brought it on
abbrev pub turns_keys : (payload : List ℕ) → (done : Bool) → World → World
turns_keys payload true w = keyed renewed w
turns_keys payload false w = keyed (record w.keys { exchange = joined payload w.keys.exchange }) w
