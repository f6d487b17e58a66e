-- Who was let in, and who was named, as payloads are served one after another.
use Rattle.std.proofs.Common.{◌⊎◌, ℕ, List, [], ◌∷◌, ◌++◌, refl, inl, inr}
use Rattle.ssh_link.specs.declared.frame.InputKind.{InputKind}
use Rattle.ssh_auth.specs.Publickey.{Acceptance}
use Rattle.ssh_rules.specs.Authorised.{IsRequestOf, LastNamed, SomeoneIsIn}
use Rattle.ssh_rules.specs.Run.{Turn}
use Rattle.ssh_rules.specs.World.{Settings, World, circumstances}
use Rattle.ssh_rules.proofs.Authorised.Run.{before_weak, someone_earlier, some_split}
use Rattle.ssh_rules.proofs.Authorised.Guards.{IsClear, NamesLast, SomeAccepts}

-- ---- who was named last

clear_weak : (named other : List ℕ → Type 0) (w : World)
    → ((user : List ℕ) → named user → other user) → IsClear named w → IsClear other w
clear_weak named other w f h = (before_weak named other w.user.state f h.0, h.1, h.2, h.3)

last_stays : (named : List ℕ → Type 0) (kind : InputKind) (user : List ℕ)
    → ((other : List ℕ) → IsRequestOf other kind → ⊥) → NamesLast named kind user → named user
last_stays named kind user none (inl request) = absurd (none user request)
last_stays named kind user none (inr h) = h.1

-- where the input is no request
pub clear_stays : (named : List ℕ → Type 0) (kind : InputKind) (w : World)
    → ((other : List ℕ) → IsRequestOf other kind → ⊥) → IsClear (NamesLast named kind) w
    → IsClear named w
clear_stays named kind w none h =
    clear_weak (NamesLast named kind) named w (λ user. last_stays named kind user none) h

-- ---- who is in

pub someone_now : {E F : Type 0} (accepts : Acceptance) (settings : Settings)
    (before : List (Turn E F)) (turn : Turn E F) → SomeoneIsIn accepts settings before
    ⊎ SomeAccepts (circumstances accepts settings turn.input.moment) (LastNamed before)
    turn.input.kind turn.events
    → SomeoneIsIn accepts settings (before ++ turn ∷ [])
someone_now accepts settings before turn (inl h) =
    someone_earlier accepts settings before (turn ∷ []) h
someone_now accepts settings before turn (inr h) =
    let split = some_split (circumstances accepts settings turn.input.moment) (LastNamed before)
    turn.input.kind turn.events h in
    (before, [], turn, refl, split.0, split.1, split.2, split.3, split.4)
