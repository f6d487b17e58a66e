-- The verdict on one request of authentication, or on one response to prompts, line by line.
use Rattle.std.specs.Prelude.{ℕ, ◌^◌, List, length, Bool, true, false, nat_lt, Option, Some, None}
use Rattle.std.specs.Prelude.{unwrap_or, codes, if◌then◌else◌}
use Rattle.ssh_wire.specs.declared.error.WireError.{WireError}
use Rattle.ssh_wire.specs.declared.error.WireError.TheVariants.{TooLong}
use Rattle.ssh_wire.specs.declared.method.MethodKind.{MethodKind}
use Rattle.ssh_wire.specs.declared.method.MethodKind.TheVariants as kind
use Rattle.ssh_wire.specs.Methods.{without}
use Rattle.ssh_keys.specs.declared.algorithm.Algorithm.{Algorithm}
use Rattle.ssh_keys.specs.declared.key_or_certificate.PublicKeyOrCertificate.{PublicKeyOrCertificate}
use Rattle.ssh_keys.specs.declared.key_or_certificate.PublicKeyOrCertificate.TheVariants.{
  PublicKey
      as Plain,
}
use Rattle.ssh_keys.specs.declared.key_or_certificate.PublicKeyOrCertificate.TheVariants.{Certificate}
use Rattle.ssh_keys.specs.Offers.{offered_key}
use Rattle.ssh_auth.specs.declared.auth.Auth.{Auth}
use Rattle.ssh_auth.specs.declared.auth.Auth.TheVariants.{Reject, Accept, UnsupportedMethod}
use Rattle.ssh_auth.specs.declared.auth.Auth.TheVariants.{Partial}
use Rattle.ssh_auth.specs.declared.auth_request.AuthRequest.{AuthRequest}
use Rattle.ssh_auth.specs.declared.auth_request.CurrentRequest.TheVariants as round
use Rattle.ssh_auth.specs.declared.auth_step.AuthVerdict.{AuthVerdict}
use Rattle.ssh_auth.specs.declared.auth_step.AuthVerdict.TheVariants.{Accepted, Rejected, Continued}
use Rattle.ssh_auth.specs.declared.question.Admission.TheVariants as by
use Rattle.ssh_auth.specs.declared.question.Question.TheVariants.{Admits}
use Rattle.ssh_auth.specs.declared.reply.Rejection.{Rejection}
use Rattle.ssh_auth.specs.Layout.{failure, success, pk_ok, info_request}
use Rattle.ssh_auth.specs.Plan.{Plan, Finish, Ask}
use Rattle.ssh_auth.specs.Request.{begun, count_after, is_probed, prompt_of}
use Rattle.ssh_auth.specs.Response.{Responded, Responses, Unfit_responses, Unread_responses}
use Rattle.ssh_auth.specs.Publickey.{Offer}
use Rattle.ssh_auth.specs.Requested.{Method, None_method, Password_method, Change_method}
use Rattle.ssh_auth.specs.Requested.{Unusable_method, Broken_method, Probe_method, Misnamed_method}
use Rattle.ssh_auth.specs.Requested.{Signed_method, Interactive_method, Other_method, Unfit_method}
use Rattle.ssh_auth.specs.Requested.{Requested, Request, Other_service, Unfit, Unread}

-- why a request gets no answer
pub data Fault : Type 0 where
  -- a field does not fit
  Encoding : (why : WireError) → Fault
  -- another service than ssh-connection
  Inconsistent : Fault
  -- the blob of a key or a certificate, or a signature, does not fit its layout
  Key : Fault
  -- memory was wanting to go on, and nothing more is claimed: no answer but want of memory comes of
  -- it
  Starved : Fault
  -- keyboard-interactive, and the handler does not have it
  Unsupported : Fault

-- what comes of a request
pub data AuthOutcome : Type 0 where
  -- this payload is the reply, and this the state from then on
  Replies : (reply : List ℕ) → (verdict : AuthVerdict) → (auth : AuthRequest) → AuthOutcome
  Fails : (fault : Fault) → AuthOutcome

-- a rejection: these methods can continue, this is the flag, and the round is over
abbrev pub rejected : AuthRequest → Rejection → AuthOutcome
rejected auth rejection = Replies (failure rejection.methods rejection.partial_success)
    (Rejected rejection.none_method) (record auth {
      methods = rejection.methods;
      partial_success = rejection.partial_success;
      current = None;
      rejection_count = count_after rejection.partial_success auth.rejection_count;
    })

abbrev pub is_none : MethodKind → Bool
is_none kind.None = true
is_none _ = false

-- a request of method none or password that was refused: the method is taken away
abbrev pub taken_away : AuthRequest → (asked : MethodKind) → AuthOutcome
taken_away auth asked = rejected auth (record {
  none_method = is_none asked;
  methods = without asked auth.methods;
  partial_success = false;
})

-- what an answer to a request of method none or password means: other methods are named, or the
-- method is taken away
abbrev pub after_method : AuthRequest → (asked : MethodKind) → Auth → AuthOutcome
after_method auth asked Accept = Replies success Accepted auth
after_method auth asked (Reject methods partial) =
    rejected auth (record {
      none_method = is_none asked;
      methods = unwrap_or methods (without asked auth.methods);
      partial_success = partial;
    })
after_method auth asked UnsupportedMethod = taken_away auth asked
after_method auth asked (Partial name instructions prompts) = taken_away auth asked

-- a rejection that names these methods, where it names any, and else leaves them as they are
abbrev pub rejected_naming : AuthRequest → Option (List MethodKind) → (partial : Bool) → AuthOutcome
rejected_naming auth methods partial =
    rejected auth (record {
      none_method = false;
      methods = unwrap_or methods auth.methods;
      partial_success = partial;
    })

-- a rejection that leaves the methods as they are
abbrev pub refused : AuthRequest → AuthOutcome
refused auth = rejected auth (record {
  none_method = false;
  methods = auth.methods;
  partial_success = false;
})

-- what the answer on a key that may sign means: PK_OK, and the round is this probe; or other
-- methods are named, and none is taken away
abbrev pub after_offer : AuthRequest → Offer → Auth → AuthOutcome
after_offer auth offer Accept =
    if nat_lt (length (pk_ok offer.name offer.blob)) (2 ^ 32)
    then Replies (pk_ok offer.name offer.blob) Continued
    (record auth { current = Some (round.PublicKey offer.blob offer.name true) })
    else Fails (Encoding TooLong)
after_offer auth offer (Reject methods partial) = rejected_naming auth methods partial
after_offer auth offer UnsupportedMethod = refused auth
after_offer auth offer (Partial name instructions prompts) = refused auth

-- what the answer on a key or a certificate that has signed means
abbrev pub after_proof : AuthRequest → Auth → AuthOutcome
after_proof auth Accept = Replies success Accepted auth
after_proof auth (Reject methods partial) = rejected_naming auth methods partial
after_proof auth UnsupportedMethod = refused auth
after_proof auth (Partial name instructions prompts) = refused auth

-- what the answer in a round of keyboard-interactive means: prompts, and the round goes on; or
-- other methods are named, and none is taken away
abbrev pub after_prompts : AuthRequest → Auth → AuthOutcome
after_prompts auth Accept = Replies success Accepted auth
after_prompts auth (Reject methods partial) = rejected_naming auth methods partial
after_prompts auth UnsupportedMethod = Fails Unsupported
after_prompts auth (Partial name instructions prompts) =
    if nat_lt (length (info_request name instructions prompts)) (2 ^ 32)
    then Replies (info_request name instructions prompts) Continued auth
    else Fails (Encoding TooLong)

-- the handler is asked in a round of keyboard-interactive
abbrev pub interactive : AuthRequest → (user submethods : List ℕ) → Option (List (List ℕ))
    → Plan AuthOutcome
interactive auth user submethods response =
    Ask (Admits (by.KeyboardInteractive user submethods response))
    (λ answer. Finish (after_prompts auth answer))

-- the handler is asked whether a key, or a certificate, lets the user in
abbrev pub proof : AuthRequest → List ℕ → PublicKeyOrCertificate → Algorithm → Plan AuthOutcome
proof auth user (Plain key hash) algorithm = Ask (Admits (by.Publickey user key algorithm))
    (λ answer. Finish (after_proof auth answer))
proof auth user (Certificate certificate) algorithm =
    Ask (Admits (by.OpensshCertificate user certificate))
    (λ answer. Finish (after_proof auth answer))

-- the verifier refuses or accepts the signature of a key that may sign
abbrev pub signed : AuthRequest → List ℕ → Offer → (accepted : Option Bool) → Plan AuthOutcome
signed auth user offer None = Finish (Fails Starved)
signed auth user offer (Some false) = Finish (refused auth)
signed auth user offer (Some true) = proof auth user offer.key offer.algorithm

-- a key that was not asked about may sign only by this answer, whose methods and flag count for
-- nothing
abbrev pub permitted : AuthRequest → Auth → Plan AuthOutcome → Plan AuthOutcome
permitted auth Accept next = next
permitted auth _ next = Finish (refused auth)

-- a signed request; a key without its probe is asked about first
abbrev pub signed_verdict : AuthRequest → List ℕ → Offer → (accepted : Option Bool)
    → Plan AuthOutcome
signed_verdict auth user offer accepted =
    if is_probed auth.current offer.name offer.blob
    then signed auth user offer accepted
    else Ask (Admits (by.PublickeyOffered user (offered_key offer.key) offer.algorithm))
    (λ answer. permitted auth answer (signed auth user offer accepted))

-- a request by the method that it names, once its principal is bound
abbrev pub method_verdict : AuthRequest → List ℕ → Method → Plan AuthOutcome
method_verdict auth user None_method = Ask (Admits (by.None user))
    (λ answer. Finish (after_method auth kind.None answer))
method_verdict auth user (Password_method password) = Ask (Admits (by.Password user password))
    (λ answer. Finish (after_method auth kind.Password answer))
-- a change is not served, and its method is taken away
method_verdict auth user (Change_method password new_password) =
    Finish (taken_away auth kind.Password)
-- an unusable key, or a signature of another name
method_verdict auth user Unusable_method = Finish (refused auth)
method_verdict auth user Misnamed_method = Finish (refused auth)
method_verdict auth user Broken_method = Finish (Fails Key)
method_verdict auth user (Probe_method offer) =
    Ask (Admits (by.PublickeyOffered user (offered_key offer.key) offer.algorithm))
    (λ answer. Finish (after_offer auth offer answer))
method_verdict auth user (Signed_method offer accepted) = signed_verdict auth user offer accepted
-- a round begins, in which nothing was prompted for yet
method_verdict auth user (Interactive_method submethods) =
    interactive (record auth { current = Some (round.KeyboardInteractive submethods) }) user
    submethods None
-- a method that the server does not have takes none away
method_verdict auth user Other_method = Finish (refused auth)
method_verdict auth user (Unfit_method why) = Finish (Fails (Encoding why))

-- a request by what it says
abbrev pub verdict : AuthRequest → Requested → Plan AuthOutcome
verdict auth (Request user method) = method_verdict (begun auth user (codes "ssh-connection")) user
    method
verdict auth Other_service = Finish (Fails Inconsistent)
verdict auth (Unfit why) = Finish (Fails (Encoding why))
verdict auth Unread = Finish (Fails Starved)

-- a response to these prompts, which were shown to this user; where none wait it is refused,
-- whatever it says
abbrev pub responded : AuthRequest → Option (List ℕ × List ℕ) → Responded → Plan AuthOutcome
responded auth None said = Finish (refused auth)
responded auth (Some prompt) (Responses responses) = interactive auth prompt.0 prompt.1
    (Some responses)
responded auth (Some prompt) (Unfit_responses why) = Finish (Fails (Encoding why))
responded auth (Some prompt) Unread_responses = Finish (Fails Starved)

-- a response by what it says: no partial success is left of what was before
abbrev pub response_verdict : AuthRequest → Responded → Plan AuthOutcome
response_verdict auth said = responded (record auth { partial_success = false }) (prompt_of auth)
    said
