-- A response to prompts that wait.
use Rattle.std.proofs.Common.{◌≡◌, List, ℕ, Option, Some, false, Result, inl, inr, subst}
use Rattle.std.specs.Prelude.{replicate, [], ◌∷◌}
use Rattle.ssh_wire.specs.declared.error.WireError.{WireError}
use Rattle.ssh_wire.specs.Field.{Number, Bytes}
use Rattle.ssh_auth.specs.declared.call.Call.{Call}
use Rattle.ssh_auth.specs.declared.auth_request.AuthRequest.{AuthRequest}
use Rattle.ssh_auth.specs.declared.auth_step.AuthStep.{AuthStep}
use Rattle.ssh_auth.specs.declared.error.AuthError.{AuthError}
use Rattle.ssh_auth.specs.declared.error.AuthError.TheVariants as error
use Rattle.ssh_auth.specs.Failure.{auth_error_of}
use Rattle.ssh_auth.specs.Request.{prompt_of}
use Rattle.ssh_auth.specs.Response.{Responded, Unfit_responses, SaysResponses}
use Rattle.ssh_auth.specs.Verdict.{responded, response_verdict}
use Rattle.ssh_auth.specs.Serve.{CarriesOut}
use Rattle.ssh_auth.proofs.Misfits.{all_error, whole_error}

-- it is served as one to these prompts
pub prompted_response : {E : Type 0} (auth : AuthRequest) (user submethods : List ℕ)
    (said : Responded) (a b : Option (List (Call E))) (auth' : AuthRequest)
    (result : Result AuthStep (AuthError E)) →
    Some (user, submethods) ≡ prompt_of auth
    → CarriesOut (responded (record auth { partial_success = false }) (Some (user, submethods))
    said) a b auth' result →
    CarriesOut (response_verdict auth said) a b auth' result
prompted_response auth user submethods said a b auth' result is h =
    subst (λ prompt. CarriesOut (responded (record auth { partial_success = false }) prompt said) a
    b auth' result) is h

-- responses that do not fit are no want of memory
pub responses_error : (E : Type 0) (fields : List ℕ) (why : WireError) → SaysResponses fields
    (Unfit_responses why) → auth_error_of {E = E} why ≡ error.Encoding why
responses_error E fields why (inl h) = all_error E (Number ∷ []) fields why h
responses_error E fields why (inr h) = whole_error E (replicate h.0 Bytes) h.1 why h.3
