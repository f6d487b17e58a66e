-- The user who was let in is the one of the first call of the handler that accepted one (RFC 4252
-- section 5.1: once a user is let in, further requests are ignored).
use Rattle.std.specs.Prelude.{◌≡◌, ℕ, List, [], ◌∷◌, flat_map, Option, Some, None, Ok}
use Rattle.ssh_auth.specs.declared.auth.Auth.TheVariants.{Accept}
use Rattle.ssh_auth.specs.declared.call.Call.{Call}
use Rattle.ssh_auth.specs.declared.question.Admission.{Admission}
use Rattle.ssh_auth.specs.declared.question.Admission.TheVariants as by
use Rattle.ssh_auth.specs.Publickey.{Acceptance}
use Rattle.ssh_auth.specs.Was.{Was, Admitted_so, was}
use Rattle.ssh_rules.specs.Run.{Turn, Run, calls_of, who}
use Rattle.ssh_rules.specs.World.{Settings, World, opening_world}

-- the user whom a call that accepts lets in; nobody is let in because a key may sign
abbrev pub user_by : Admission → Option (List ℕ)
user_by (by.None user) = Some user
user_by (by.Password user password) = Some user
user_by (by.PublickeyOffered user key algorithm) = None
user_by (by.Publickey user key algorithm) = Some user
user_by (by.OpensshCertificate user certificate) = Some user
user_by (by.KeyboardInteractive user submethods response) = Some user

abbrev pub user_so : {E : Type 0} → Was E → Option (List ℕ)
user_so (Admitted_so admission (Ok Accept)) = user_by admission
user_so _ = None

-- the first of two, where it is there
abbrev pub first_of : Option (List ℕ) → Option (List ℕ) → Option (List ℕ)
first_of (Some user) later = Some user
first_of None later = later

-- the user of the first of these calls that let one in
abbrev pub first_user : {E : Type 0} → List (Call E) → Option (List ℕ)
first_user [] = None
first_user (call ∷ calls) = first_of (user_so (was call)) (first_user calls)

-- after each input of a run the user who was let in is that one, and nobody was let in where no call
-- did it
abbrev pub UserIsFirst : (E F : Type 0) → Acceptance → Type 0
UserIsFirst E F accepts = (settings : Settings) (turns : List (Turn E F)) (world : World)
    → Run accepts (opening_world settings) turns world
    → who world.user ≡ first_user (flat_map calls_of turns)

-- .. and whoever was let in stays so through more inputs, whatever calls accept
abbrev pub UserStays : (E F : Type 0) → Acceptance → Type 0
UserStays E F accepts = (w world : World) (turns : List (Turn E F)) (user : List ℕ)
    → Run accepts w turns world → who w.user ≡ Some user → who world.user ≡ Some user
