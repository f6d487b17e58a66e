-- Nothing of the connection is served before an accepted authentication (RFC 4252 section 6).
use Rattle.std.specs.Prelude.{◌≡◌, ℕ, false, List, [], ◌∷◌, ◌++◌}
use Rattle.ssh_auth.specs.Plan.{Event}
use Rattle.ssh_auth.specs.Publickey.{Acceptance}
use Rattle.ssh_rules.specs.Authorised.{NeedsUser, SomeoneIsIn}
use Rattle.ssh_rules.specs.Run.{Turn}
use Rattle.ssh_rules.specs.World.{Settings}
use Rattle.ssh_drive.specs.Moves.{Made, Served, Said, Let_out, Handed_on, coming}

-- a payload that was served, as an input of a run: nobody was asked for commands
abbrev pub turn_of : {E F : Type 0} → (moment : ℕ) → (payload : List ℕ) → List (Event E F)
    → Turn E F
turn_of moment payload events = record {
  input = coming moment payload;
  commands = false;
  replies = false;
  events = events;
}

-- the payloads among these moves: by no other is the handler called
abbrev pub served_in : {E F : Type 0} → (moment : ℕ) → List (Made E F) → List (Turn E F)
served_in moment [] = []
served_in moment (Served payload events ∷ made) =
    turn_of moment payload events ∷ served_in moment made
served_in moment (other ∷ made) = served_in moment made

-- what needs a user happens in a move, and so far it had come to this: a callback of the connection
-- is made, or a frame of a channel goes out
abbrev pub NeedsUserBehind : {E F : Type 0} → Made E F → (so_far : Made E F) → Type 0
NeedsUserBehind {E} {F} (Served payload events) so_far = (past more : List (Event E F))
    × (event : Event E F) × (events ≡ past ++ event ∷ more) × NeedsUser event
    × (so_far ≡ Served payload past)
NeedsUserBehind (Said command outcome) so_far = ⊥
NeedsUserBehind (Let_out channel count) so_far = ⊥
NeedsUserBehind {E} {F} (Handed_on events) so_far = (past more : List (Event (Unit {0}) F))
    × (event : Event (Unit {0}) F) × (events ≡ past ++ event ∷ more) × NeedsUser event
    × (so_far ≡ Handed_on past)

-- whatever needs a user has a call before it that accepted one: as this payload was served, or one
-- before it
abbrev pub AreAuthorised : {E F : Type 0} → Acceptance → Settings → (moment : ℕ)
    → List (Made E F) → Type 0
AreAuthorised {E} {F} accepts settings moment made =
    (before after : List (Made E F)) → (one so_far : Made E F) → made ≡ before ++ one ∷ after
    → NeedsUserBehind one so_far
    → SomeoneIsIn accepts settings (served_in moment (before ++ so_far ∷ []))
