-- What serving a request of authentication does.
use Rattle.std.specs.Prelude.{◌≡◌, ◌⊎◌, ℕ, List, ◌∷◌, map, Bool, true, false, Option, Result, Ok}
use Rattle.std.specs.Prelude.{Err}
use Rattle.ssh_link.specs.Told.{ToldBy}
use Rattle.ssh_keys.specs.declared.error.KeyError.TheVariants.{Blob}
use Rattle.ssh_auth.specs.declared.call.Call.{Call}
use Rattle.ssh_auth.specs.declared.auth_request.AuthRequest.{AuthRequest}
use Rattle.ssh_auth.specs.declared.auth_step.AuthStep.{AuthStep}
use Rattle.ssh_auth.specs.declared.error.AuthError.{AuthError}
use Rattle.ssh_auth.specs.declared.error.AuthError.TheVariants as error
use Rattle.ssh_auth.specs.Plan.{Plan, Finish, Event, Called, Handler_error, Follows, Begins, Breaks}
use Rattle.ssh_auth.specs.Requested.{Method}
use Rattle.ssh_auth.specs.Verdict.{AuthOutcome, Replies, Fails, Encoding, Inconsistent, Key}
use Rattle.ssh_auth.specs.Verdict.{Unsupported, Starved, method_verdict}

-- the payload has this number
abbrev pub IsNumbered : ℕ → List ℕ → Type 0
IsNumbered number payload = (fields : List ℕ) × (payload ≡ number ∷ fields)

-- the events of a plan that asks a handler alone: no exchange is asked, and a link is told nothing
abbrev pub calls_alone : {E : Type 0} → List (Call E) → List (Event E ⊥)
calls_alone calls = map Called calls

-- with these events the plan gives this answer, and leaves this state
abbrev pub Concludes : {E : Type 0} → Plan AuthOutcome → List (Event E ⊥) → AuthRequest
    → Result AuthStep (AuthError E) → Type 0
Concludes plan events auth (Ok step) = Follows plan events (Replies step.reply step.verdict auth)
Concludes plan events auth (Err error.NoMemory) = Begins plan events
Concludes plan events auth (Err (error.Encoding why)) = Follows plan events (Fails (Encoding why))
Concludes plan events auth (Err error.Inconsistent) = Follows plan events (Fails Inconsistent)
Concludes plan events auth (Err (error.Key why)) = (why ≡ Blob) × Follows plan events (Fails Key)
Concludes plan events auth (Err (error.Handler e)) = Breaks plan events (Handler_error e)
Concludes plan events auth (Err error.UnsupportedAuthMethod) = Follows plan events
    (Fails Unsupported)

-- whether a call answered an error, after which the handler may tell nothing any more
abbrev pub may_stop : {T E : Type 0} → Result T (AuthError E) → Bool
may_stop (Err (error.Handler e)) = true
may_stop _ = false

-- the same, and the handler was told these calls
abbrev pub CarriesOut : {E : Type 0} → Plan AuthOutcome → Option (List (Call E))
    → Option (List (Call E)) → AuthRequest → Result AuthStep (AuthError E) → Type 0
CarriesOut {E} plan told told' auth result = (calls : List (Call E)) × ToldBy (may_stop result) told
    told' calls × Concludes plan (calls_alone calls) auth result

-- a request of this user is served as its method's fields say it, or memory was wanting to read
-- them
abbrev pub CarriesOutMethod : {E : Type 0} → (Method → Type 0) → AuthRequest → (user : List ℕ)
    → Option (List (Call E)) → Option (List (Call E)) → AuthRequest → Result AuthStep (AuthError E)
    → Type 0
CarriesOutMethod says auth user told told' auth' result =
    ((method : Method) × says method × CarriesOut (method_verdict auth user method) told told' auth'
    result)
    ⊎ CarriesOut (Finish (Fails Starved)) told told' auth' result
