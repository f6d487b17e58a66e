-- Nothing of the connection is served before an accepted authentication: by induction over moves.
use Rattle.std.proofs.Common.{◌≡◌, ◌⊎◌, ℕ, List, [], ◌∷◌, ◌++◌, Option, Some, None, Result, Ok, Err}
use Rattle.std.proofs.Common.{refl, sym, ◌∙◌, ap, subst, inl, inr, append_assoc}
use Rattle.std.proofs.lemmas.List.{append-nil}
use Rattle.std.specs.Prelude.{option_to_list}
use Rattle.ssh_link.specs.declared.frame.InputKind.TheVariants as input
use Rattle.ssh_auth.specs.Plan.{Plan, Event}
use Rattle.ssh_auth.specs.Publickey.{Acceptance}
use Rattle.ssh_rules.specs.declared.error.Flow.{Flow}
use Rattle.ssh_rules.specs.declared.error.Flow.TheVariants.{Ended}
use Rattle.ssh_rules.specs.Authorised.{LastNamed, NeedsUser, SomeoneIsIn}
use Rattle.ssh_session.specs.Between.{OwesBehind, OwesFlush}
use Rattle.ssh_rules.specs.Outcome.{Outcome, Goes, Ends}
use Rattle.ssh_rules.specs.Run.{Turn}
use Rattle.ssh_rules.specs.Cause.{cause_of}
use Rattle.ssh_rules.specs.World.{Settings, World, circumstances}
use Rattle.ssh_rules.proofs.Authorised.Run.{caused_walks, clear_more}
use Rattle.ssh_rules.proofs.Plans.Emptied.{nothing_left}
use Rattle.ssh_rules.proofs.Authorised.Guards.{IsClear, Guarded, Walks, either}
use Rattle.ssh_rules.proofs.Authorised.Guards.{walks_guarded, follows_guarded, follows_walks}
use Rattle.ssh_drive.specs.declared.moves.MoveError.{MoveError}
use Rattle.ssh_drive.specs.declared.moves.MoveError.TheVariants as error
use Rattle.ssh_drive.specs.Authorised.{turn_of, served_in, NeedsUserBehind}
use Rattle.ssh_drive.specs.Authorised.{AreAuthorised}
use Rattle.ssh_drive.specs.Moves.{Place, Made, Served, Said, Let_out, Handed_on, Leads, Drives}
use Rattle.ssh_drive.specs.Moves.{OwesOrStops, EndsSo, flush_cause, opening_place}
use Rattle.ssh_drive.specs.Moves.{coming}
use Rattle.ssh_drive.proofs.Staying.{lead_set}
use Rattle.ssh_drive.proofs.Entering.{clear_stays, someone_now}
use Rattle.ssh_drive.proofs.Guarding.{behind_guarded, command_stays, let_out_clear, flush_guarded}
use Rattle.ssh_drive.proofs.Guarding.{none_accepts, notices_need_none}

-- ---- moves one after another, and a last one

-- it was begun in this place
abbrev pub IsBegun : {E F : Type 0} → Acceptance → (moment : ℕ) → Place → Made E F → Type 0
IsBegun accepts moment place (Served payload events) = (plan : Plan Outcome)
    × OwesOrStops accepts moment place payload plan × Walks plan events
IsBegun accepts moment place (Said command outcome) = Unit {0}
IsBegun accepts moment place (Let_out channel count) = Unit {0}
IsBegun accepts moment place (Handed_on events) = (plan : Plan Outcome)
    × OwesFlush place.untold place.world plan × Walks plan events

-- each of these was begun, and each but the last was finished
abbrev pub AllBegun : {E F : Type 0} → Acceptance → (moment : ℕ) → Place → List (Made E F) → Type 0
AllBegun accepts moment place [] = Unit {0}
AllBegun accepts moment place (one ∷ made) = IsBegun accepts moment place one
    × ((made ≡ []) ⊎ ((mid : Place) × Leads accepts moment place one mid
    × AllBegun accepts moment mid made))

lead_begun : {E F : Type 0} (accepts : Acceptance) (moment : ℕ) (place : Place) (one : Made E F)
    (to : Place) → Leads accepts moment place one to → IsBegun accepts moment place one
lead_begun accepts moment place (Served payload events) to (plan, owes, follows, none) =
    (plan, inl owes, follows_walks plan events (Goes to.world) follows)
lead_begun accepts moment place (Said command outcome) to leads = tt
lead_begun accepts moment place (Let_out channel count) to leads = tt
lead_begun accepts moment place (Handed_on events) to (plan, owes, follows, none) =
    (plan, owes, follows_walks plan events (Goes to.world) follows)

last_begun : {E F : Type 0} (accepts : Acceptance) (moment : ℕ) (place : Place)
    (last : Option (Made E F)) (rose : Type 0) (result : Result Flow (MoveError E F))
    → EndsSo accepts moment place last rose result
    → AllBegun accepts moment place (option_to_list last)
last_begun accepts moment place None rose result h = tt
last_begun accepts moment place (Some (Served payload events)) rose (Ok Ended)
    (plan, owes, ends) =
    ((plan, inl owes, follows_walks plan events (Ends ends.0) ends.1), inl refl)
last_begun accepts moment place (Some (Served payload events)) rose (Err (error.Payload e))
    (plan, owes, cause) =
    ((plan, owes, caused_walks (cause_of e) plan rose events cause), inl refl)
last_begun accepts moment place (Some (Handed_on events)) rose (Err (error.HandOn e))
    (plan, owes, cause) =
    ((plan, owes, caused_walks (flush_cause e) plan rose events cause), inl refl)
last_begun accepts moment place (Some other) rose result h = absurd h

all_begun : {E F : Type 0} (accepts : Acceptance) (moment : ℕ) (place : Place)
    (made : List (Made E F)) (to : Place) (last : List (Made E F))
    → Drives accepts moment place made to → AllBegun accepts moment to last
    → AllBegun accepts moment place (made ++ last)
all_begun accepts moment place [] to last drives h =
    subst (λ at. AllBegun accepts moment at last) drives h
all_begun accepts moment place (one ∷ made) to last drives h = (
  lead_begun accepts moment place one drives.0 drives.1,
  inr (drives.0, drives.1, all_begun accepts moment drives.0 made to last drives.2 h),
)

-- ---- the payloads among moves

served_both : {E F : Type 0} (moment : ℕ) (xs ys : List (Made E F))
    → served_in moment (xs ++ ys) ≡ served_in moment xs ++ served_in moment ys
served_both moment [] ys = refl
served_both moment (Served payload events ∷ xs) ys =
    ap (λ turns. turn_of moment payload events ∷ turns) (served_both moment xs ys)
served_both moment (Said command outcome ∷ xs) ys = served_both moment xs ys
served_both moment (Let_out channel count ∷ xs) ys = served_both moment xs ys
served_both moment (Handed_on events ∷ xs) ys = served_both moment xs ys

-- a move by which no handler is called
beside : {E F : Type 0} (moment : ℕ) (before : List (Made E F)) (one : Made E F)
    → served_in moment (one ∷ []) ≡ []
    → served_in moment before ≡ served_in moment (before ++ one ∷ [])
beside moment before one none =
    sym (served_both moment before (one ∷ [])
    ∙ (ap (λ turns. served_in moment before ++ turns) none
    ∙ append-nil (served_in moment before)))

-- somebody is in, or the world is one before that
abbrev IsGuarded : {E F : Type 0} → Acceptance → Settings → List (Turn E F) → World → Type 0
IsGuarded accepts settings turns w =
    SomeoneIsIn accepts settings turns ⊎ IsClear (LastNamed turns) w

-- ---- one move

payload_plan : {E F : Type 0} (accepts : Acceptance) (settings : Settings) (moment : ℕ)
    (turns : List (Turn E F)) (place : Place) (payload : List ℕ) (plan : Plan Outcome)
    → place.world.settings ≡ settings → IsGuarded accepts settings turns place.world
    → OwesBehind place.untold accepts place.world (coming moment payload) plan
    → Guarded (circumstances accepts settings moment) (LastNamed turns)
    (SomeoneIsIn accepts settings turns) (input.Payload payload) plan
payload_plan accepts settings moment turns place payload plan set h owes =
    let named = LastNamed turns in
    let a = SomeoneIsIn accepts settings turns in
    subst (λ s. Guarded (circumstances accepts s moment) named a (input.Payload payload) plan) set
    (behind_guarded accepts named a place.world moment payload place.untold plan owes h)

payload_user : {E F : Type 0} (accepts : Acceptance) (settings : Settings) (moment : ℕ)
    (turns : List (Turn E F)) (place : Place) (payload : List ℕ) (plan : Plan Outcome)
    (past more : List (Event E F)) (event : Event E F) → place.world.settings ≡ settings
    → IsGuarded accepts settings turns place.world
    → OwesOrStops accepts moment place payload plan → Walks plan (past ++ event ∷ more)
    → NeedsUser event
    → SomeoneIsIn accepts settings (turns ++ turn_of moment payload past ∷ [])
payload_user accepts settings moment turns place payload plan past more event set h (inl owes) walks
    needs =
    someone_now accepts settings turns (turn_of moment payload past)
    (walks_guarded (circumstances accepts settings moment) (LastNamed turns)
    (SomeoneIsIn accepts settings turns) (input.Payload payload) plan past event more
    (payload_plan accepts settings moment turns place payload plan set h owes) walks needs)
payload_user accepts settings moment turns place payload plan past more event set h (inr owes) walks
    needs =
    absurd (notices_need_none place.untold (Goes place.world) past more event
    (subst (λ p. Walks p (past ++ event ∷ more)) owes walks) needs)

flush_user : {E F : Type 0} (accepts : Acceptance) (settings : Settings) (moment : ℕ)
    (turns : List (Turn E F)) (place : Place) (plan : Plan Outcome)
    (past more : List (Event (Unit {0}) F)) (event : Event (Unit {0}) F)
    → IsGuarded accepts settings turns place.world
    → OwesFlush place.untold place.world plan → Walks plan (past ++ event ∷ more)
    → NeedsUser event → SomeoneIsIn accepts settings turns
flush_user accepts settings moment turns place plan past more event h owes walks needs =
    let given = circumstances accepts settings moment in
    let named = LastNamed turns in
    let a = SomeoneIsIn accepts settings turns in
    either (λ x. x) (λ x. absurd (none_accepts given named past x))
    (walks_guarded given named a input.RekeyTick plan past event more
    (subst (Guarded given named a input.RekeyTick) (sym owes)
    (flush_guarded given named a place.world place.untold h)) walks needs)

one_authorised : {E F : Type 0} (accepts : Acceptance) (settings : Settings) (moment : ℕ)
    (before : List (Made E F)) (place : Place) (one so_far : Made E F)
    → place.world.settings ≡ settings
    → IsGuarded accepts settings (served_in moment before) place.world
    → IsBegun accepts moment place one → NeedsUserBehind one so_far
    → SomeoneIsIn accepts settings (served_in moment (before ++ so_far ∷ []))
one_authorised accepts settings moment before place (Served payload events) so_far set h
    (plan, owes, walks) (past, more, event, splits, needs, is) =
    subst (λ so. SomeoneIsIn accepts settings (served_in moment (before ++ so ∷ []))) (sym is)
    (subst (SomeoneIsIn accepts settings)
    (sym (served_both moment before (Served payload past ∷ [])))
    (payload_user accepts settings moment (served_in moment before) place payload plan past more
    event set h owes (subst (Walks plan) splits walks) needs))
one_authorised accepts settings moment before place (Said command outcome) so_far set h begun needs
    = absurd needs
one_authorised accepts settings moment before place (Let_out channel count) so_far set h begun needs
    = absurd needs
one_authorised accepts settings moment before place (Handed_on events) so_far set h
    (plan, owes, walks) (past, more, event, splits, needs, is) =
    subst (λ so. SomeoneIsIn accepts settings (served_in moment (before ++ so ∷ []))) (sym is)
    (subst (SomeoneIsIn accepts settings) (beside moment before (Handed_on past) refl)
    (flush_user accepts settings moment (served_in moment before) place plan past more event h owes
    (subst (Walks plan) splits walks) needs))

-- where it leads on
one_guarded : {E F : Type 0} (accepts : Acceptance) (settings : Settings) (moment : ℕ)
    (before : List (Made E F)) (place : Place) (one : Made E F) (to : Place)
    → place.world.settings ≡ settings
    → IsGuarded accepts settings (served_in moment before) place.world
    → Leads accepts moment place one to
    → IsGuarded accepts settings (served_in moment (before ++ one ∷ [])) to.world
one_guarded accepts settings moment before place (Served payload events) to set h
    (plan, owes, follows, none) =
    let turns = served_in moment before in
    let turn = turn_of moment payload events in
    subst (λ ts. IsGuarded accepts settings ts to.world)
    (sym (served_both moment before (Served payload events ∷ [])))
    (either (λ x. inl (someone_now accepts settings turns turn x))
    (λ clear. inr (clear_more turns turn to.world clear))
    (follows_guarded (circumstances accepts settings moment) (LastNamed turns)
    (SomeoneIsIn accepts settings turns) (input.Payload payload) plan events (Goes to.world)
    (payload_plan accepts settings moment turns place payload plan set h owes) follows))
one_guarded accepts settings moment before place (Said command outcome) to set h
    (notices, is, untold) =
    let turns = served_in moment before in
    subst (λ ts. IsGuarded accepts settings ts to.world)
    (beside moment before (Said command outcome) refl)
    (command_stays accepts (LastNamed turns) (SomeoneIsIn accepts settings turns) place.world
    command notices outcome to.world is h)
one_guarded accepts settings moment before place (Let_out channel count) to set h (is, at) =
    let turns = served_in moment before in
    subst (λ ts. IsGuarded accepts settings ts to.world)
    (beside moment before (Let_out channel count) refl)
    (subst (λ (p : Place). IsGuarded accepts settings turns p.world) (sym at)
    (either (λ x. inl x) (λ clear. inr (let_out_clear place.world.disconnected (LastNamed turns)
    channel.0 place.world clear)) h))
one_guarded accepts settings moment before place (Handed_on events) to set h
    (plan, owes, follows, none) =
    let turns = served_in moment before in
    let given = circumstances accepts settings moment in
    let named = LastNamed turns in
    let a = SomeoneIsIn accepts settings turns in
    subst (λ ts. IsGuarded accepts settings ts to.world)
    (beside moment before (Handed_on events) refl)
    (either (either (λ x. inl x) (λ x. absurd (none_accepts given named events x)))
    (λ clear. inr (clear_stays named input.RekeyTick to.world (λ other r. r) clear))
    (follows_guarded given named a input.RekeyTick plan events (Goes to.world)
    (subst (Guarded given named a input.RekeyTick) (sym owes)
    (flush_guarded given named a place.world place.untold h)) follows))

-- ---- all moves

moves_authorised : {E F : Type 0} (accepts : Acceptance) (settings : Settings) (moment : ℕ)
    (before made : List (Made E F)) (place : Place) → place.world.settings ≡ settings
    → IsGuarded accepts settings (served_in moment before) place.world
    → AllBegun accepts moment place made → (pre post : List (Made E F)) (one so_far : Made E F)
    → made ≡ pre ++ one ∷ post → NeedsUserBehind one so_far
    → SomeoneIsIn accepts settings (served_in moment (before ++ (pre ++ so_far ∷ [])))
moves_authorised accepts settings moment before [] place set h begun [] post one so_far is needs =
    absurd (cc)
moves_authorised accepts settings moment before [] place set h begun (p ∷ pre) post one so_far is
    needs =
    absurd (cc)
moves_authorised accepts settings moment before (first ∷ made) place set h begun [] post one so_far
    is needs =
    let same : first ≡ one = cc in
    one_authorised accepts settings moment before place one so_far set h
    (subst (IsBegun accepts moment place) same begun.0) needs
moves_authorised accepts settings moment before (first ∷ made) place set h (begun, inl none)
    (p ∷ pre) post one so_far is needs =
    let rest : made ≡ pre ++ one ∷ post = cc in
    absurd (nothing_left pre one post (sym rest ∙ none))
moves_authorised accepts settings moment before (first ∷ made) place set h
    (begun, inr (mid, leads, all)) (p ∷ pre) post one so_far is needs =
    let same : first ≡ p = cc in
    let rest : made ≡ pre ++ one ∷ post = cc in
    subst (λ ms. SomeoneIsIn accepts settings (served_in moment ms))
    (append_assoc before (first ∷ []) (pre ++ so_far ∷ [])
    ∙ ap (λ m. before ++ (m ∷ (pre ++ so_far ∷ []))) same)
    (moves_authorised accepts settings moment (before ++ first ∷ []) made mid
    (lead_set accepts settings moment place first mid leads set)
    (one_guarded accepts settings moment before place first mid set h leads) all pre post one so_far
    rest needs)

-- from the opening world on
pub authorised : {E F : Type 0} (accepts : Acceptance) (settings : Settings) (moment : ℕ)
    (made : List (Made E F)) (place : Place) (last : Option (Made E F)) (rose : Type 0)
    (result : Result Flow (MoveError E F))
    → Drives accepts moment (opening_place settings) made place
    → EndsSo accepts moment place last rose result
    → AreAuthorised accepts settings moment (made ++ option_to_list last)
authorised accepts settings moment made place last rose result drives ends =
    λ before after one so_far is needs.
    moves_authorised accepts settings moment [] (made ++ option_to_list last)
    (opening_place settings) refl (inr (tt, refl, refl, tt))
    (all_begun accepts moment (opening_place settings) made place (option_to_list last) drives
    (last_begun accepts moment place last rose result ends)) before after one so_far is needs
