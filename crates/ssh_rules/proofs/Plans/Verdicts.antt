-- A verdict on a request of authentication asks whether a user is let in and nothing else, and what
-- it replies by is no reply to a global request and no DISCONNECT.
use Rattle.std.proofs.Common.{◌≡◌, ℕ, List, Option, Some, None, Bool, true, false, refl}
use Rattle.std.specs.Prelude.{◌^◌, nat_lt, length, codes, if◌then◌else◌}
use Rattle.ssh_wire.specs.declared.error.WireError.TheVariants.{TooLong}
use Rattle.ssh_wire.specs.declared.method.MethodKind.{MethodKind}
use Rattle.ssh_wire.specs.declared.method.MethodKind.TheVariants as method_kind
use Rattle.ssh_keys.specs.declared.algorithm.Algorithm.{Algorithm}
use Rattle.ssh_keys.specs.declared.key_or_certificate.PublicKeyOrCertificate.{PublicKeyOrCertificate}
use Rattle.ssh_keys.specs.declared.key_or_certificate.PublicKeyOrCertificate.TheVariants.{PublicKey as Plain}
use Rattle.ssh_keys.specs.declared.key_or_certificate.PublicKeyOrCertificate.TheVariants.{Certificate}
use Rattle.ssh_keys.specs.Offers.{offered_key}
use Rattle.ssh_auth.specs.declared.auth.Auth.{Auth}
use Rattle.ssh_auth.specs.declared.auth.Auth.TheVariants.{Reject, Accept, UnsupportedMethod}
use Rattle.ssh_auth.specs.declared.auth.Auth.TheVariants.{Partial}
use Rattle.ssh_auth.specs.declared.auth_request.AuthRequest.{AuthRequest}
use Rattle.ssh_auth.specs.declared.auth_request.CurrentRequest.TheVariants as round
use Rattle.ssh_auth.specs.declared.auth_step.AuthVerdict.TheVariants.{Continued}
use Rattle.ssh_auth.specs.declared.question.Admission.TheVariants as by
use Rattle.ssh_auth.specs.declared.question.Question.{Question}
use Rattle.ssh_auth.specs.declared.question.Question.TheVariants.{Admits}
use Rattle.ssh_auth.specs.Layout.{pk_ok, info_request}
use Rattle.ssh_auth.specs.Plan.{Plan, Finish, Ask, Tell, Answer, after}
use Rattle.ssh_auth.specs.Publickey.{Offer}
use Rattle.ssh_auth.specs.Request.{begun, is_probed, prompt_of}
use Rattle.ssh_auth.specs.Response.{Responded, Responses, Unfit_responses, Unread_responses}
use Rattle.ssh_auth.specs.Requested.{Method, None_method, Password_method, Change_method}
use Rattle.ssh_auth.specs.Requested.{Unusable_method, Broken_method}
use Rattle.ssh_auth.specs.Requested.{Probe_method, Misnamed_method, Signed_method}
use Rattle.ssh_auth.specs.Requested.{Interactive_method, Other_method, Unfit_method}
use Rattle.ssh_auth.specs.Requested.{Requested as Asked}
use Rattle.ssh_auth.specs.Requested as asks
use Rattle.ssh_auth.specs.Verdict.{AuthOutcome, Replies, Fails, Encoding, after_method}
use Rattle.ssh_auth.specs.Verdict.{after_offer, after_proof, after_prompts}
use Rattle.ssh_auth.specs.Verdict.{proof, signed, permitted, method_verdict, responded}
use Rattle.ssh_auth.specs.Verdict.{verdict as verdict_on, response_verdict}
use Rattle.ssh_rules.specs.GlobalReplied.{is_global_reply}
use Rattle.ssh_rules.specs.Layout.{at_once}
use Rattle.ssh_rules.specs.Outcome.{Outcome}
use Rattle.ssh_rules.specs.Parting.{is_disconnect}
use Rattle.ssh_rules.proofs.Plans.Acting.{PlanComes}

-- whether a user is let in
abbrev pub AsksUser : Question → Type 0
AsksUser (Admits admission) = Unit {0}
AsksUser _ = ⊥

-- nothing else is asked, nothing is told, and whatever is answered, the plan comes to such
abbrev pub EndsSo : {A : Type 0} → (such : A → Type 0) → Plan A → Type 0
EndsSo such (Finish outcome) = such outcome
EndsSo such (Ask question next) = AsksUser question
    × ((answer : Answer question) → EndsSo such (next answer))
EndsSo such (Tell entry next) = ⊥

-- a plan, and then the one that such an outcome leads to
pub so_then : {A : Type 0} (ends : A → Type 0)
    (such : (question : Question) → Answer question → Type 0) (comes : Outcome → Type 0)
    (plan : Plan A) (later : A → Plan Outcome) → EndsSo ends plan →
    ((outcome : A) → ends outcome → PlanComes such comes (later outcome)) →
    PlanComes such comes (after plan later)
so_then ends such comes (Finish outcome) later e h = h outcome e
so_then ends such comes (Ask question next) later e h = λ answer s.
    so_then ends such comes (next answer) later (e.1 answer) h
so_then ends such comes (Tell entry next) later e h = absurd e

-- it replies to no global request, and ends no connection
abbrev pub IsUnlike : List ℕ → Type 0
IsUnlike payload = (is_global_reply (at_once payload) ≡ false)
    × (is_disconnect (at_once payload) ≡ false)

abbrev pub IsBeside : AuthOutcome → Type 0
IsBeside (Replies reply verdict state) = IsUnlike reply
IsBeside (Fails fault) = Unit {0}

-- PK_OK or prompts, or nothing where they would be too long
shown_beside : (payload : List ℕ) (auth : AuthRequest) (fits : Bool) →
    IsUnlike payload →
    IsBeside (if fits then Replies payload Continued auth else Fails (Encoding TooLong))
shown_beside payload auth true is = is
shown_beside payload auth false is = tt

method_answer : (auth : AuthRequest) (asked : MethodKind) (answer : Auth) →
    IsBeside (after_method auth asked answer)
method_answer auth asked Accept = (refl, refl)
method_answer auth asked (Reject methods partial) = (refl, refl)
method_answer auth asked UnsupportedMethod = (refl, refl)
method_answer auth asked (Partial name instructions prompts) = (refl, refl)

proof_answer : (auth : AuthRequest) (answer : Auth) → IsBeside (after_proof auth answer)
proof_answer auth Accept = (refl, refl)
proof_answer auth (Reject methods partial) = (refl, refl)
proof_answer auth UnsupportedMethod = (refl, refl)
proof_answer auth (Partial name instructions prompts) = (refl, refl)

offer_answer : (auth : AuthRequest) (offer : Offer) (answer : Auth) →
    IsBeside (after_offer auth offer answer)
offer_answer auth offer Accept =
    shown_beside (pk_ok offer.name offer.blob)
    (record auth { current = Some (round.PublicKey offer.blob offer.name true) })
    (nat_lt (length (pk_ok offer.name offer.blob)) (2 ^ 32)) (refl, refl)
offer_answer auth offer (Reject methods partial) = (refl, refl)
offer_answer auth offer UnsupportedMethod = (refl, refl)
offer_answer auth offer (Partial name instructions prompts) = (refl, refl)

prompt_answer : (auth : AuthRequest) (answer : Auth) → IsBeside (after_prompts auth answer)
prompt_answer auth Accept = (refl, refl)
prompt_answer auth (Reject methods partial) = (refl, refl)
prompt_answer auth UnsupportedMethod = tt
prompt_answer auth (Partial name instructions prompts) =
    let payload = info_request name instructions prompts in
    shown_beside payload auth (nat_lt (length payload) (2 ^ 32)) (refl, refl)

proof_beside : (auth : AuthRequest) (user : List ℕ) (key : PublicKeyOrCertificate)
    (algorithm : Algorithm) → EndsSo IsBeside (proof auth user key algorithm)
proof_beside auth user (Plain key hash) algorithm = (tt, λ answer. proof_answer auth answer)
proof_beside auth user (Certificate certificate) algorithm =
    (tt, λ answer. proof_answer auth answer)

signed_beside : (auth : AuthRequest) (user : List ℕ) (offer : Offer) (accepted : Option Bool) →
    EndsSo IsBeside (signed auth user offer accepted)
signed_beside auth user offer None = tt
signed_beside auth user offer (Some false) = (refl, refl)
signed_beside auth user offer (Some true) = proof_beside auth user offer.key offer.algorithm

permitted_beside : (auth : AuthRequest) (answer : Auth) (next : Plan AuthOutcome) →
    EndsSo IsBeside next → EndsSo IsBeside (permitted auth answer next)
permitted_beside auth Accept next h = h
permitted_beside auth _ next h = (refl, refl)

asked_beside : (auth : AuthRequest) (user : List ℕ) (offer : Offer) (accepted : Option Bool)
    (is_asked : Bool) →
    EndsSo IsBeside (if is_asked then signed auth user offer accepted
    else Ask (Admits (by.PublickeyOffered user (offered_key offer.key) offer.algorithm))
    (λ answer. permitted auth answer (signed auth user offer accepted)))
asked_beside auth user offer accepted true = signed_beside auth user offer accepted
asked_beside auth user offer accepted false = (
  tt,
  λ answer. permitted_beside auth answer (signed auth user offer accepted)
      (signed_beside auth user offer accepted),
)

method_beside : (auth : AuthRequest) (user : List ℕ) (method : Method) →
    EndsSo IsBeside (method_verdict auth user method)
method_beside auth user None_method =
    (tt, λ answer. method_answer auth method_kind.None answer)
method_beside auth user (Password_method password) =
    (tt, λ answer. method_answer auth method_kind.Password answer)
method_beside auth user (Change_method password new_password) = (refl, refl)
method_beside auth user Unusable_method = (refl, refl)
method_beside auth user Misnamed_method = (refl, refl)
method_beside auth user Broken_method = tt
method_beside auth user (Probe_method offer) =
    (tt, λ answer. offer_answer auth offer answer)
method_beside auth user (Signed_method offer accepted) =
    asked_beside auth user offer accepted (is_probed auth.current offer.name offer.blob)
method_beside auth user (Interactive_method submethods) = (
  tt,
  λ answer. prompt_answer (record auth { current = Some (round.KeyboardInteractive submethods) })
      answer,
)
method_beside auth user Other_method = (refl, refl)
method_beside auth user (Unfit_method why) = tt

pub verdict_beside : (asked : Asked) (auth : AuthRequest) → EndsSo IsBeside (verdict_on auth asked)
verdict_beside (asks.Request user method) auth =
    method_beside (begun auth user (codes "ssh-connection")) user method
verdict_beside asks.Other_service auth = tt
verdict_beside (asks.Unfit why) auth = tt
verdict_beside asks.Unread auth = tt

responded_beside : (auth : AuthRequest) (prompt : Option (List ℕ × List ℕ)) (said : Responded) →
    EndsSo IsBeside (responded auth prompt said)
responded_beside auth None said = (refl, refl)
responded_beside auth (Some prompt) (Responses responses) =
    (tt, λ answer. prompt_answer auth answer)
responded_beside auth (Some prompt) (Unfit_responses why) = tt
responded_beside auth (Some prompt) Unread_responses = tt

pub response_beside : (said : Responded) (auth : AuthRequest) →
    EndsSo IsBeside (response_verdict auth said)
response_beside said auth =
    responded_beside (record auth { partial_success = false }) (prompt_of auth) said
