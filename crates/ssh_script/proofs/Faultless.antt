-- The end of a run by whether the link's faults rose.
use Rattle.std.proofs.Common.{ℕ, List, Option, Some, None, Result, Ok, Err}
use Rattle.ssh_auth.specs.Plan.{Plan, Event}
use Rattle.ssh_auth.specs.Publickey.{Acceptance}
use Rattle.ssh_rules.specs.declared.error.RunError.{RunError}
use Rattle.ssh_rules.specs.declared.error.RunError.TheVariants as error
use Rattle.ssh_rules.specs.World.{World}
use Rattle.ssh_rules.specs.Outcome.{Outcome}
use Rattle.ssh_rules.specs.Cause.{Cause, Wants_memory, Link_failed, Limit_reached, Faulty}
use Rattle.ssh_rules.specs.Cause.{Refused_by, Broken_by, cause_of, IsCaused}
use Rattle.ssh_rules.specs.Run.{Turn}
use Rattle.ssh_rules.specs.Account.{Concludes, Closes}

-- where one rise of the faults is another, a run that ends by the one ends by the other
caused_by : {E F : Type 0} (cause : Cause E F) (plan : Plan Outcome) (rose other : Type 0)
    (events : List (Event E F)) → (rose → other) → IsCaused cause plan rose events
    → IsCaused cause plan other events
caused_by Wants_memory plan rose other events so c = c
caused_by Link_failed plan rose other events so c = (so c.0, c.1)
caused_by Limit_reached plan rose other events so c = c
caused_by (Faulty fault) plan rose other events so c = c
caused_by (Refused_by e) plan rose other events so c = c
caused_by (Broken_by e) plan rose other events so c = c

concludes_by : {E F : Type 0} (plan : Plan Outcome) (rose other : Type 0)
    (events : List (Event E F)) (result : Result (Unit {0}) (RunError E F)) → (rose → other)
    → Concludes plan events rose result → Concludes plan events other result
concludes_by plan rose other events (Ok done) so c = c
concludes_by plan rose other events (Err e) so c =
    caused_by (cause_of e) plan rose other events so c

pub closes_by : {E F : Type 0} (accepts : Acceptance) (w : World) (count max : ℕ)
    (last : Option (Turn E F)) (rose other : Type 0) (result : Result (Unit {0}) (RunError E F))
    → (rose → other) → Closes accepts w count max last rose result
    → Closes accepts w count max last other result
closes_by accepts w count max (Some turn) rose other result so c =
    (c.0, c.1, (c.2.0, c.2.1, concludes_by c.2.0 rose other turn.events result so c.2.2))
closes_by accepts w count max None rose other (Err error.InputLimit) so c = c
closes_by accepts w count max None rose other (Err error.LinkFault) so c = (so c.0, c.1)
closes_by accepts w count max None rose other (Err error.NoMemory) so c = c
closes_by accepts w count max None rose other _ so c = absurd c

-- where they cannot rise, no run ends by a fault of the link
pub no_link_fault : {E F : Type 0} (accepts : Acceptance) (w : World) (count max : ℕ)
    (last : Option (Turn E F)) → Closes accepts w count max last ⊥ (Err error.LinkFault) → ⊥
no_link_fault accepts w count max (Some turn) c = c.2.2.0
no_link_fault accepts w count max None c = c.0
