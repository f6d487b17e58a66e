-- The answer to a request of the service, with its banner.
use Rattle.std.proofs.Common.{◌≡◌, ◌≤◌, ◌<◌, ◌∷◌, ◌++◌, ◌⊎◌, inl, inr, ℕ, List, [], length, true}
use Rattle.std.proofs.Common.{false, Some, Err, rules, refl}
use Rattle.std.proofs.Common.{subst, append_assoc}
use Rattle.std.specs.Prelude.{◌^◌}
use Rattle.ssh_link.specs.Frames.{Frame}
use Rattle.ssh_wire.specs.declared.error.WireError.{WireError}
use Rattle.ssh_wire.specs.declared.error.WireError.TheVariants.{NoMemory, TooLong}
use Rattle.ssh_serving.specs.declared.server.Server.{Server}
use Rattle.ssh_rules.specs.Acts.{Act, acts}
use Rattle.ssh_rules.specs.Failure.{run_error_of}
use Rattle.ssh_rules.specs.Layout.{banner}
use Rattle.ssh_rules.specs.Rows.{greets, greeting, is_short, served}
use Rattle.ssh_serving.specs.Serve.{Refines, ComesTo}
use Rattle.ssh_rules.specs.World.{World, writes}

-- frames one after another
pub both_written : (session : Server) (w : World) (one other : Frame) →
    Refines session (writes (other ∷ []) (writes (one ∷ []) w))
    → Refines session (writes (one ∷ other ∷ []) w)
both_written session w one other r =
    subst (λ fs. Refines session (record w
    { channels = record w.channels { lines = record w.channels.lines { written = fs } } }))
    (append_assoc w.channels.lines.written (one ∷ []) (other ∷ [])) r

-- a banner that is short enough
pub greeted : (message : List ℕ) (w : World) (later : List Act) → length (banner message) < 2 ^ 32 →
    acts (greets (Some message) ++ later) w
    ≡ acts later (writes (greeting (Some message)) (served w))
greeted message w later h = let t : is_short (Some message) ≡ true = search rules in rw t refl

-- .. and one that is not, or for which memory was wanting
pub not_greeted : (E F : Type 0) (message : List ℕ) (w : World) (later : List Act) (why : WireError)
    (session : Server) →
    (why ≡ NoMemory) ⊎ ((why ≡ TooLong) × (2 ^ 32 ≤ length (banner message))) →
    ComesTo {T = Unit {0}} {E = E} {F = F} (acts (greets (Some message) ++ later) w)
    (λ (_ : Unit {0}).
    acts later) ⊥ [] session
    (Err (run_error_of why))
not_greeted E F message w later why session (inl h) = rw h (
  acts (greets (Some message) ++ later) w,
  refl,
)
not_greeted E F message w later why session (inr h) =
    let l = h.1 in
    let t : is_short (Some message) ≡ false = search rules in
    rw (h.0, t) refl
