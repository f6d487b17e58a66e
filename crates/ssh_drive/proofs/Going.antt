-- A session on its way, whatever it is given: what the two clients have in common.
use Rattle.std.proofs.Common.{◌≡◌, ◌≤◌, ℕ, List, ◌++◌, Option, Bool, sym, ◌∙◌, ap, subst, arith}
use Rattle.std.specs.Prelude.{flat_map}
use Rattle.std.proofs.lemmas.List.Concat.{flat_map-append}
use Rattle.ssh_link.specs.Faults.{Rose}
use Rattle.ssh_link.specs.Told.{Adds, ToldBy}
use Rattle.ssh_handler.specs.declared.config.Config.{Config}
use Rattle.ssh_session.specs.declared.session.Session.{Session}
use Rattle.ssh_rules.specs.Account.{Told}
use Rattle.ssh_session.specs.Serve.{Refines, IsSuited}
use Rattle.ssh_rules.specs.World.{Settings, World}
use Rattle.ssh_serving.proofs.Serving.{told_then}

-- what was told of those before, and of these
pub told_both : {A B : Type 0} (stops : Bool) (f : A → List B) (xs ys : List A)
    (a b c : Option (List B)) → Adds a b (flat_map f xs) → ToldBy stops b c (flat_map f ys)
    → ToldBy stops a c (flat_map f (xs ++ ys))
told_both stops f xs ys a b c h k = subst (ToldBy stops a c) (sym (flat_map-append f xs ys))
    (told_then stops a b c (flat_map f xs) (flat_map f ys) h k)

pub rises : {E F : Type 0} (a c d : Told E F) → a.faults ≤ c.faults → Rose c.faults d.faults
    → Rose a.faults d.faults
rises a c d x r = omega (arith, x, r)

-- a handler that suits the config and the peer suits the session, as long as these stay
pub suits_yet : (suits : Config → List ℕ → Type 0) (settings : Settings) (session : Session)
    (w : World) → Refines session w → w.settings ≡ settings
    → suits settings.config settings.remote_sshid → IsSuited suits session
suits_yet suits settings session w r set h =
    let config : session.server.common.config ≡ settings.config = r.server.config ∙ ap (λ s. s.config) set in
    let line : session.server.common.remote_sshid ≡ settings.remote_sshid
    = r.server.remote_sshid
    ∙ ap (λ s. s.remote_sshid) set in
    subst (λ c. suits c session.server.common.remote_sshid) (sym config)
    (subst (suits settings.config) (sym line) h)
