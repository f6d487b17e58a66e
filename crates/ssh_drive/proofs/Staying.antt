-- What is fixed in a run stays so, move by move.
use Rattle.std.proofs.Common.{◌≡◌, ◌∙◌, ℕ, Bool, true, false, cond, map, refl, ap, subst, None}
use Rattle.ssh_link.specs.declared.link.TraceEntry.TheVariants.{Noticed}
use Rattle.ssh_auth.specs.Plan.{Follows}
use Rattle.ssh_auth.specs.Publickey.{Acceptance}
use Rattle.ssh_session.specs.Between.{flushed}
use Rattle.ssh_rules.specs.Outcome.{Goes}
use Rattle.ssh_rules.specs.Run.{hand_on}
use Rattle.ssh_rules.specs.World.{Settings, World, lined}
use Rattle.ssh_channels.specs.Lines.{goes_on}
use Rattle.ssh_rules.proofs.Plans.Acting.{EffectComes}
use Rattle.ssh_rules.proofs.Plans.Settled.{IsSet, effect_set, stays_set}
use Rattle.ssh_drive.specs.Moves.{Place, Made, Served, Said, Let_out, Handed_on, Leads, coming}
use Rattle.ssh_drive.proofs.Behind.{told_first, owes_live, flush_set}

let_out_set : (ended : Bool) (n : ℕ) (w : World)
    → (cond ended w (lined (goes_on n) w)).settings ≡ w.settings
let_out_set true n w = refl
let_out_set false n w = refl

pub lead_set : {E F : Type 0} (accepts : Acceptance) (settings : Settings) (moment : ℕ)
    (before : Place) (made : Made E F) (to : Place) → Leads accepts moment before made to
    → before.world.settings ≡ settings → to.world.settings ≡ settings
lead_set accepts settings moment before (Served payload events) to (plan, owes, follows, none) set =
    let w = before.world in
    let told = told_first (map Noticed before.untold) owes.0 events (Goes to.world)
    (subst (λ p. Follows p events (Goes to.world)) owes.2 follows) in
    stays_set accepts settings w (coming moment payload) owes.0 told.0 to.world
    (owes_live w.disconnected accepts w (coming moment payload) owes.0 told.0 to.world owes.1
    told.2) told.2 set
lead_set accepts settings moment before (Said command outcome) to leads set =
    subst (EffectComes (IsSet settings)) leads.1 (effect_set None settings before.world command set)
lead_set accepts settings moment before (Let_out channel count) to leads set =
    ap (λ (place : Place). place.world.settings) leads.1
    ∙ (let_out_set before.world.disconnected channel.0 before.world ∙ set)
lead_set accepts settings moment before (Handed_on events) to (plan, owes, follows, none) set =
    let told = told_first (map Noticed before.untold) (hand_on before.world flushed) events
    (Goes to.world) (subst (λ p. Follows p events (Goes to.world)) owes follows) in
    flush_set settings before.world told.0 to.world told.2 set
