-- What is told of a request, or of a response, that is not served: what its fields say, and that
-- serving it asks just this.
use Rattle.std.specs.Prelude.{◌≡◌, ℕ, List, map, Bool, true, false, codes, Option, Some, None}
use Rattle.std.specs.Prelude.{option_map, MatchOption}
use Rattle.ssh_keys.specs.declared.algorithm.Algorithm.{Algorithm}
use Rattle.ssh_keys.specs.declared.key_or_certificate.PublicKeyOrCertificate.{PublicKeyOrCertificate}
use Rattle.ssh_keys.specs.declared.key_or_certificate.PublicKeyOrCertificate.TheVariants.{
  PublicKey
      as Plain,
}
use Rattle.ssh_keys.specs.declared.key_or_certificate.PublicKeyOrCertificate.TheVariants.{Certificate}
use Rattle.ssh_keys.specs.Offers.{offered_key}
use Rattle.ssh_auth.specs.declared.asked.Asked.{Asked}
use Rattle.ssh_auth.specs.declared.asked.AskedMethod.{AskedMethod}
use Rattle.ssh_auth.specs.declared.asked.AskedMethod.TheVariants as told
use Rattle.ssh_auth.specs.declared.auth.Auth.{Auth}
use Rattle.ssh_auth.specs.declared.auth.Auth.TheVariants.{Accept}
use Rattle.ssh_auth.specs.declared.auth_request.AuthRequest.{AuthRequest}
use Rattle.ssh_auth.specs.declared.question.Admission.{Admission}
use Rattle.ssh_auth.specs.declared.question.Admission.TheVariants as by
use Rattle.ssh_auth.specs.declared.question.Question.TheVariants.{Admits}
use Rattle.ssh_auth.specs.Plan.{Plan, Finish, Ask}
use Rattle.ssh_auth.specs.Proven.{AsksOnly}
use Rattle.ssh_auth.specs.Publickey.{Circumstances, Offer, IsUsable, IsAnswer}
use Rattle.ssh_auth.specs.Request.{begun, is_probed, principal_of, prompt_of}
use Rattle.ssh_auth.specs.Requested.{Method, None_method, Password_method, Probe_method}
use Rattle.ssh_auth.specs.Requested.{Signed_method, Interactive_method}
use Rattle.ssh_auth.specs.Requested.{Requested, Request, SaysRequest}
use Rattle.ssh_auth.specs.Response.{Responded, Responses, SaysResponses}
use Rattle.ssh_auth.specs.Verdict.{AuthOutcome, Fails, Starved, verdict, method_verdict}
use Rattle.ssh_auth.specs.Verdict.{response_verdict}

-- the handler is asked nothing
abbrev pub AsksNothing : Plan AuthOutcome → Type 0
AsksNothing plan = AsksOnly (λ question. ⊥) plan

-- whatever the state, the handler is asked nothing about it
abbrev pub IsSilent : Method → Type 0
IsSilent method = (auth : AuthRequest) (user : List ℕ)
    → AsksNothing (method_verdict auth user method)

-- what is told is what the request says, by a method that no verifier is asked about
abbrev pub TellsPlain : (says : Method → Type 0) → AskedMethod → Type 0
TellsPlain says told.None = says None_method
TellsPlain says (told.Password password) = says (Password_method password.now)
TellsPlain says (told.KeyboardInteractive submethods None) = says (Interactive_method submethods.now)
TellsPlain says _ = ⊥

-- it can be used where the verifier accepts what it is asked: a certificate is in its time, and the
-- name in its own signature is known
abbrev pub CanBeUsed : (moment : ℕ) → PublicKeyOrCertificate → Type 0
CanBeUsed moment key = IsUsable (λ public algorithm message signature. Unit {0}) moment key

-- what is told is what the request of this user says. A key or a certificate is asked about where it
-- can be used; and where the request is signed, the answer of the verifier that counts is the one
-- about this message and this signature
abbrev pub Tells : Circumstances → AuthRequest → (says : Method → Type 0) → (user : List ℕ)
    → AskedMethod → Type 0
Tells given auth says user (told.Probe offer) =
    CanBeUsed given.moment offer.key
    × (IsUsable given.accepts given.moment offer.key → says (Probe_method offer))
Tells given auth says user (told.Signed offer probed message signature) =
    CanBeUsed given.moment offer.key
    × (probed ≡ is_probed (begun auth user (codes "ssh-connection")).current offer.name offer.blob)
    × ((accepted : Option Bool) → IsUsable given.accepts given.moment offer.key
    → IsAnswer given.accepts (offered_key offer.key) offer.algorithm message signature accepted
    → says (Signed_method offer accepted))
Tells given auth says user method = TellsPlain says method

-- what is told of the fields of a USERAUTH_REQUEST in this state
abbrev pub TellsRequest : Circumstances → AuthRequest → (fields : List ℕ) → Option Asked → Type 0
TellsRequest given auth fields (Some asked) =
    (asked.service.now ≡ codes "ssh-connection")
    × Tells given auth (λ method. SaysRequest given fields (Request asked.user.now method))
    asked.user.now asked.method
TellsRequest given auth fields None = (said : Requested) → SaysRequest given fields said
    → AsksNothing (verdict auth said)

-- these responses to the prompts that wait for this user
abbrev pub TellsResponses : AuthRequest → (fields user : List ℕ) → AskedMethod → Type 0
TellsResponses auth fields user (told.KeyboardInteractive submethods (Some responses)) =
    (prompt_of auth ≡ Some (user, submethods.now))
    × SaysResponses fields (Responses (map (λ text. text.now) responses.items))
TellsResponses auth fields user method = ⊥

-- what is told of the fields of a USERAUTH_INFO_RESPONSE in this state
abbrev pub TellsResponse : AuthRequest → (fields : List ℕ) → Option Asked → Type 0
TellsResponse auth fields (Some asked) =
    (principal_of auth ≡ Some (asked.user.now, asked.service.now))
    × TellsResponses auth fields asked.user.now asked.method
TellsResponse auth fields None = (said : Responded) → SaysResponses fields said
    → AsksNothing (response_verdict auth said)

-- ---- what serving it asks

-- where this holds the handler is asked this, and each answer goes on so; where it does not hold,
-- the handler is asked nothing. Or memory was wanting to go on
abbrev pub AsksWhere : (holds : Type 0) → Admission → (goes_on : Auth → Plan AuthOutcome → Type 0)
    → Plan AuthOutcome → Type 0
AsksWhere holds admission goes_on (Ask (Admits asked) next) = holds × (asked ≡ admission)
    × ((answer : Auth) → goes_on answer (next answer))
AsksWhere holds admission goes_on (Finish (Fails Starved)) = Unit {0}
AsksWhere holds admission goes_on (Finish outcome) = holds → ⊥
AsksWhere holds admission goes_on plan = ⊥

-- whatever the answer, nothing more is asked
abbrev pub Ends : Auth → Plan AuthOutcome → Type 0
Ends answer plan = AsksNothing plan

-- a key that may sign goes on so, and any other answer ends it
abbrev pub MaySign : (goes_on : Plan AuthOutcome → Type 0) → Auth → Plan AuthOutcome → Type 0
MaySign goes_on Accept plan = goes_on plan
MaySign goes_on _ plan = AsksNothing plan

-- whether the key of this offer may sign; for a certificate, the key that it certifies
abbrev pub offer_admission : (user : List ℕ) → Offer → Admission
offer_admission user offer = by.PublickeyOffered user (offered_key offer.key) offer.algorithm

-- whether a key, or a certificate, that has signed lets the user in
abbrev pub proof_admission : (user : List ℕ) → PublicKeyOrCertificate → Algorithm → Admission
proof_admission user (Plain key hash) algorithm = by.Publickey user key algorithm
proof_admission user (Certificate certificate) algorithm = by.OpensshCertificate user certificate

-- the handler is asked just what is told, by a method that no verifier is asked about
abbrev pub AsksPlain : (user : List ℕ) → AskedMethod → Plan AuthOutcome → Type 0
AsksPlain user told.None plan = AsksWhere (Unit {0}) (by.None user) Ends plan
AsksPlain user (told.Password password) plan = AsksWhere (Unit {0})
    (by.Password user password.now) Ends plan
AsksPlain user (told.KeyboardInteractive submethods responses) plan =
    AsksWhere (Unit {0}) (by.KeyboardInteractive user submethods.now
    (option_map (λ texts. map (λ text. text.now) texts.items) responses)) Ends plan
AsksPlain user method plan = ⊥

-- the verifier accepts this signature of this message: of the offered key, by the algorithm of the
-- offer
abbrev pub Accepts : Circumstances → Offer → (message signature : List ℕ) → Type 0
Accepts given offer message signature = given.accepts (offered_key offer.key) offer.algorithm
    message signature

-- the handler is asked just what is told. It is asked whether the key may sign, unless a probe of it
-- was accepted, and then whether the user is let in, where the verifier accepts the signature of
-- the message that is told; nothing by a certificate that does not hold
abbrev pub AsksTold : Circumstances → (user : List ℕ) → AskedMethod → Plan AuthOutcome → Type 0
AsksTold given user (told.Probe offer) plan =
    AsksWhere (IsUsable given.accepts given.moment offer.key) (offer_admission user offer) Ends plan
AsksTold given user (told.Signed offer false message signature) plan =
    AsksWhere (IsUsable given.accepts given.moment offer.key) (offer_admission user offer)
    (MaySign (AsksWhere (Accepts given offer message signature)
    (proof_admission user offer.key offer.algorithm) Ends)) plan
AsksTold given user (told.Signed offer true message signature) plan =
    AsksWhere (IsUsable given.accepts given.moment offer.key × Accepts given offer message signature)
    (proof_admission user offer.key offer.algorithm) Ends plan
AsksTold given user method plan = AsksPlain user method plan

-- whatever the fields of a USERAUTH_REQUEST say, serving it in this state asks the handler just what
-- is told
abbrev pub RequestAsksAsTold : Circumstances → AuthRequest → (fields : List ℕ) → Option Asked → Type 0
RequestAsksAsTold given auth fields asked = (said : Requested) → SaysRequest given fields said
    → MatchOption asked (AsksNothing (verdict auth said))
    (λ asked. AsksTold given asked.user.now asked.method (verdict auth said))

-- the same of the fields of a USERAUTH_INFO_RESPONSE
abbrev pub ResponseAsksAsTold : AuthRequest → (fields : List ℕ) → Option Asked → Type 0
ResponseAsksAsTold auth fields asked = (said : Responded) → SaysResponses fields said
    → MatchOption asked (AsksNothing (response_verdict auth said))
    (λ asked. AsksPlain asked.user.now asked.method (response_verdict auth said))

-- what is told of the fields of a method is what they say, and whatever they say, the handler is
-- asked just this; or nothing is told, and whatever they say, the handler is asked nothing
abbrev pub TellsMethod : Circumstances → AuthRequest → (says : Method → Type 0) → (user : List ℕ)
    → Option AskedMethod → Type 0
TellsMethod given auth says user (Some method) =
    Tells given auth says user method
    × ((said : Method) → says said → AsksTold given user method
    (method_verdict (begun auth user (codes "ssh-connection")) user said))
TellsMethod given auth says user None = (method : Method) → says method → IsSilent method
