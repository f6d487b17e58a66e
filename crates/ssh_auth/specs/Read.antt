-- What the code has read, without its borrows, and why it has not.
use Rattle.std.specs.Prelude.{◌≡◌, ◌<◌, ◌^◌, ℕ, List, ◌∷◌, ◌++◌, length, drop}
use Rattle.ssh_wire.specs.Messages.{userauth_request}
use Rattle.ssh_keys.specs.declared.error.KeyError.TheVariants.{Blob}
use Rattle.ssh_auth.specs.declared.error.AuthError.{AuthError}
use Rattle.ssh_auth.specs.declared.error.AuthError.TheVariants as error
use Rattle.ssh_auth.specs.declared.request.PasswordRequest.{PasswordRequest}
use Rattle.ssh_auth.specs.declared.request.PasswordRequest.TheVariants.{Password, Change}
use Rattle.ssh_auth.specs.declared.request.Request.{Request}
use Rattle.ssh_auth.specs.Publickey.{Acceptance, Circumstances, MisfitsSignature, HoldsNoSignature}
use Rattle.ssh_auth.specs.Requested.{Method, Password_method, Change_method}

abbrev pub password_method : PasswordRequest → Method
password_method (Password password) = Password_method password.now
password_method (Change password new_password) = Change_method password.now new_password.now

-- for this reason the bytes do not end in a signature
abbrev pub SignatureFails : {E : Type 0} → List ℕ → AuthError E → Type 0
SignatureFails bytes error.NoMemory = Unit {0}
SignatureFails bytes (error.Encoding why) = MisfitsSignature bytes why
SignatureFails bytes (error.Key why) = (why ≡ Blob) × HoldsNoSignature bytes
SignatureFails bytes _ = ⊥

-- what a request is judged by
abbrev pub circumstances : Acceptance → Request → Circumstances
circumstances accepts request = record {
  accepts = accepts;
  session_id = request.session_id.now;
  moment = request.moment;
}

-- its fields after the number
abbrev pub all_fields : Request → List ℕ
all_fields request = drop 1 request.payload.now

-- the session id is no longer than a string can be, the payload is a USERAUTH_REQUEST by its number, and the fields of
-- the method end it
abbrev pub IsWhole : Request → Type 0
IsWhole request =
    (length request.session_id.now < 2 ^ 32)
    × ((front : List ℕ) × (request.payload.now ≡ userauth_request.number ∷ front ++ request.fields.now))
