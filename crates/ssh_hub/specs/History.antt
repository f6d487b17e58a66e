-- Histories of a hub.
use Rattle.std.specs.Prelude.{◌≡◌, ℕ, ◌+◌, ◌==◌, Bool, true, false, if◌then◌else◌}
use Rattle.std.specs.Prelude.{List, [], ◌∷◌, ◌++◌, Option, Some, None}
use Rattle.ssh_hub.specs.World.{World}
use Rattle.ssh_hub.specs.Step.{hub_step}
use Rattle.ssh_hub.specs.declared.history.Entry.{Entry}

-- the hub after these calls
abbrev pub run : World → List Entry → World
run w [] = w
run w (e ∷ es) = run (hub_step w e.by e.call).0 es

-- each call was answered as the hub of one thread answers it there
abbrev pub IsLegal : World → List Entry → Type 0
IsLegal w [] = Unit {0}
IsLegal w (e ∷ es) = (e.reply ≡ (hub_step w e.by e.call).1) × IsLegal (hub_step w e.by e.call).0 es

-- the calls of one seat, in order
abbrev pub calls_by : ℕ → List Entry → List Entry
calls_by n [] = []
calls_by n (e ∷ es) = if e.by == n then (e ∷ calls_by n es) else calls_by n es

-- the history goes on, with no call of the seat n
abbrev pub Grows : ℕ → List Entry → List Entry → Type 0
Grows n before after = (between : List Entry) × (after ≡ before ++ between)
    × (calls_by n between ≡ [])

abbrev pub one_on : Option ℕ → Bool → Option ℕ
one_on (Some k) b = Some (k + 1)
one_on None true = Some 0
one_on None false = None

-- the place of the newest call of the seat n
abbrev pub newest : ℕ → List Entry → Option ℕ
newest n [] = None
newest n (e ∷ es) = one_on (newest n es) (e.by == n)
