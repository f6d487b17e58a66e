-- What the moves say of the frames that were sent.
use Rattle.std.proofs.Common.{◌≡◌, ℕ, List, [], ◌∷◌, ◌++◌}
use Rattle.std.specs.Prelude.{flat_map, true}
use Rattle.ssh_auth.specs.Publickey.{Acceptance}
use Rattle.ssh_rules.specs.Ledger.{SentAll}
use Rattle.ssh_rules.specs.World.{Settings}
use Rattle.ssh_rules.proofs.Ledger.Inputs.{nothing_kept}
use Rattle.ssh_rules.proofs.Ledger.Commands.{Kept}
use Rattle.ssh_rules.proofs.Ledger.Sums.{sent_so, sent_all}
use Rattle.ssh_drive.specs.Driven.{Accounted, IsOutside, hands_on}
use Rattle.ssh_drive.specs.Moves.{Place, Made, Leads, Drives, opening_place, told_of}
use Rattle.ssh_drive.proofs.Keeping.{drive_kept}
use Rattle.ssh_drive.proofs.Outside.{lead_settled}

-- from the opening world on
made_kept : {E F : Type 0} (accepts : Acceptance) (settings : Settings) (moment : ℕ)
    (made : List (Made E F)) (place : Place)
    → Drives accepts moment (opening_place settings) made place
    → Kept (flat_map told_of made) place.world
made_kept accepts settings moment made place drives =
    drive_kept accepts moment [] (opening_place settings) made place drives (nothing_kept settings)

last_sent : {E F : Type 0} (accepts : Acceptance) (settings : Settings) (moment : ℕ)
    (made : List (Made E F)) (place : Place)
    → Drives accepts moment (opening_place settings) made place → (earlier : List (Made E F))
    (last : Made E F) (before : Place) → made ≡ earlier ++ last ∷ []
    → Drives accepts moment (opening_place settings) earlier before
    → Leads accepts moment before last place → hands_on last ≡ true
    → IsOutside before last place → SentAll (flat_map told_of made) place.world.channels.lines
last_sent accepts settings moment made place drives earlier last before is first leads hands out =
    let kept = made_kept accepts settings moment made place drives in
    let settled = lead_settled accepts moment (flat_map told_of earlier) (flat_map told_of made)
    before last place leads (made_kept accepts settings moment earlier before first) kept hands
    out in
    sent_all (flat_map told_of made) place.world.channels.lines settled.0 settled.1 kept.ledger

pub accounted : {E F : Type 0} (accepts : Acceptance) (settings : Settings) (moment : ℕ)
    (made : List (Made E F)) (place : Place)
    → Drives accepts moment (opening_place settings) made place
    → Accounted accepts settings moment made place
accounted accepts settings moment made place drives =
    let kept = made_kept accepts settings moment made place drives in
    record {
      kept = kept.ledger;
      due = kept.due;
      sent = sent_so (flat_map told_of made) place.world.channels.lines kept.ledger;
      sent_all = last_sent accepts settings moment made place drives;
    }
