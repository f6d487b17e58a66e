-- What a seat has reserved is what its own calls make of it.
use Rattle.std.proofs.Common.{◌≡◌, ◌≢◌, ℕ, Bool, eq-eqb, ne_eqb, List, [], ◌∷◌, ◌++◌, if◌then◌else◌, Option, Some, None, refl, ap, sym, ◌∙◌, subst}
use mathlib.Core.Logic.{dite}
use native.Mathlib.Decide.{ℕ_discrete}
use Rattle.ssh_hub.specs.World.{World, Map, find}
use Rattle.ssh_hub.specs.Outcomes.{put_at}
use Rattle.ssh_hub.specs.Reserved.{reserved_after, reserved_by, reservations, or_none}
use Rattle.ssh_hub.specs.Step.{opening, hub_step}
use Rattle.ssh_hub.specs.History.{run, IsLegal, calls_by}
use Rattle.ssh_hub.specs.declared.answers.Config2.{Config2}
use Rattle.ssh_hub.specs.declared.history.Entry.{Entry}
use Rattle.ssh_hub.specs.declared.history.HubCall.{HubCall}
use Rattle.ssh_hub.specs.declared.history.HubReply.{HubReply}
use Rattle.ssh_hub.specs.declared.reservations.Reservation.{Reservation}
use Rattle.ssh_hub.proofs.Holdings.{AreDistinct, after_distinct}
use Rattle.ssh_hub.proofs.Found.{find_changed_here, find_changed_else, find_new_here, find_new_else}

module _ {X : Type 0} where
  put_here : (es : Map X) (k : ℕ) (v : X) (o : Option X) → find k es ≡ o
      → find k (put_at es k v o) ≡ Some v
  put_here es k v None is = find_new_here es k v is
  put_here es k v (Some x) is = find_changed_here es k x v is

  put_else : (es : Map X) (k c : ℕ) (v : X) (o : Option X) → find k es ≡ o → k ≢ c
      → find c (put_at es k v o) ≡ find c es
  put_else es k c v None is ne = find_new_else es k c v is ne
  put_else es k c v (Some x) is ne = find_changed_else es k c x v is ne

pub reserved_snoc : (es : List Entry) (e : Entry) (rs : List Reservation)
    → reserved_by (es ++ e ∷ []) rs ≡ reserved_after e.call e.reply (reserved_by es rs)
reserved_snoc [] e rs = refl
reserved_snoc (x ∷ xs) e rs = reserved_snoc xs e (reserved_after x.call x.reply rs)

-- a call changes what its seat has reserved
step_here : (w : World) (n : ℕ) (c : HubCall)
    → reservations n (hub_step w n c).0 ≡ reserved_after c (hub_step w n c).1 (reservations n w)
step_here w n c = ap or_none (put_here w.reserved n
    (reserved_after c (hub_step w n c).1 (reservations n w)) (find n w.reserved) refl)

-- and not what another has
step_else : (w : World) (by n : ℕ) (c : HubCall) → by ≢ n
    → reservations n (hub_step w by c).0 ≡ reservations n w
step_else w by n c ne = ap or_none (put_else w.reserved by n
    (reserved_after c (hub_step w by c).1 (reservations by w)) (find by w.reserved) refl ne)

-- no seat has a channel twice after a call
pub distinct_through : (w : World) (by : ℕ) (c : HubCall)
    → ((n : ℕ) → AreDistinct (reservations n w)) → (n : ℕ)
    → AreDistinct (reservations n (hub_step w by c).0)
distinct_through w by c alone n = dite (ℕ_discrete by n)
    (λ same. subst (λ (k : ℕ). AreDistinct (reservations k (hub_step w by c).0)) same
    (subst AreDistinct (sym (step_here w by c))
    (after_distinct c (hub_step w by c).1 (reservations by w) (alone by))))
    (λ ne. subst AreDistinct (sym (step_else w by n c ne)) (alone n))

own_through : (w : World) (log : List Entry) (n : ℕ) → IsLegal w log
    → reservations n (run w log) ≡ reserved_by (calls_by n log) (reservations n w)
own_through w [] n l = refl
own_through w (e ∷ es) n l =
    own_through (hub_step w e.by e.call).0 es n l.1
    ∙ dite (ℕ_discrete e.by n)
    (λ same. ap (reserved_by (calls_by n es))
    (subst (λ (k : ℕ). reservations k (hub_step w e.by e.call).0
    ≡ reserved_after e.call e.reply (reservations k w)) same
    (step_here w e.by e.call ∙ ap (λ (r : HubReply). reserved_after e.call r (reservations e.by w))
    (sym l.0)))
    ∙ ap (λ (b : Bool). reserved_by (if b then (e ∷ calls_by n es) else calls_by n es)
    (reservations n w)) (sym (eq-eqb e.by n same)))
    (λ ne. ap (reserved_by (calls_by n es)) (step_else w e.by n e.call ne)
    ∙ ap (λ (b : Bool). reserved_by (if b then (e ∷ calls_by n es) else calls_by n es)
    (reservations n w)) (sym (ne_eqb e.by n ne)))

pub by_own_calls : (k : Config2) (log : List Entry) (n : ℕ) → IsLegal (opening k) log
    → reservations n (run (opening k) log) ≡ reserved_by (calls_by n log) []
by_own_calls k log n l = own_through (opening k) log n l
