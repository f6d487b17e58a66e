-- Inputs that stop a run before anybody is told or asked anything.
use Rattle.std.proofs.Common.{false, [], Err, refl}
use Rattle.ssh_auth.specs.Plan.{Plan, Finish}
use Rattle.ssh_rules.specs.declared.error.RunError.TheVariants as error
use Rattle.ssh_serving.specs.declared.server.Server.{Server}
use Rattle.ssh_rules.specs.Heard.{Heard}
use Rattle.ssh_rules.specs.Outcome.{Outcome, Fails, Inconsistent, Pending, Inactivity_timeout}
use Rattle.ssh_serving.specs.Serve.{Serves}
use Rattle.ssh_rules.specs.World.{World}
use Rattle.ssh_serving.proofs.Serving.{hears_nothing}

-- what does not come in an exchange of keys
unfoldable pub barred_input : {T E F : Type 0} (next : T → World → Plan Outcome) (a : Heard E F)
    (session : Server) →
    Serves {T = T} {E = E} {F = F} (Finish (Fails Inconsistent)) next a a session
    (Err error.Inconsistent)
barred_input next a session = ([], hears_nothing false a, refl)

unfoldable pub late_input : {T E F : Type 0} (next : T → World → Plan Outcome) (a : Heard E F)
    (session : Server) →
    Serves {T = T} {E = E} {F = F} (Finish (Fails Pending)) next a a session (Err error.Pending)
late_input next a session = ([], hears_nothing false a, refl)

-- nothing came from the peer for too long
unfoldable pub inactive_input : {T E F : Type 0} (next : T → World → Plan Outcome) (a : Heard E F)
    (session : Server) →
    Serves {T = T} {E = E} {F = F} (Finish (Fails Inactivity_timeout)) next a a session
    (Err error.InactivityTimeout)
inactive_input next a session = ([], hears_nothing false a, refl)
