-- A verdict lets in the user whom the call that accepted was asked about, and nobody where none did
-- (RFC 4252 section 5).
use Rattle.std.proofs.Common.{◌≡◌, ◌&&◌, ◌∙◌, ℕ, List, Option, Some, None, Bool, true, false, refl}
use Rattle.std.proofs.Common.{sym, ap}
use Rattle.std.specs.Prelude.{◌^◌, bytes_eq, codes, if◌then◌else◌, length, nat_lt, option_map}
use Rattle.std.proofs.lemmas.Slice.Eq.{bytes_eq-Decides}
use Rattle.ssh_wire.specs.declared.error.WireError.TheVariants.{TooLong}
use Rattle.ssh_wire.specs.declared.method.MethodKind.{MethodKind}
use Rattle.ssh_wire.specs.declared.method.MethodKind.TheVariants as method_kind
use Rattle.ssh_keys.specs.declared.algorithm.Algorithm.{Algorithm}
use Rattle.ssh_keys.specs.declared.key_or_certificate.PublicKeyOrCertificate.{PublicKeyOrCertificate}
use Rattle.ssh_keys.specs.declared.key_or_certificate.PublicKeyOrCertificate.TheVariants.{PublicKey as Plain}
use Rattle.ssh_keys.specs.declared.key_or_certificate.PublicKeyOrCertificate.TheVariants.{Certificate}
use Rattle.ssh_keys.specs.Offers.{offered_key}
use Rattle.ssh_auth.specs.declared.auth.Auth.{Auth}
use Rattle.ssh_auth.specs.declared.auth.Auth.TheVariants.{Reject, Accept, UnsupportedMethod}
use Rattle.ssh_auth.specs.declared.auth.Auth.TheVariants.{Partial}
use Rattle.ssh_auth.specs.declared.auth_request.AuthRequest.{AuthRequest}
use Rattle.ssh_auth.specs.declared.auth_request.CurrentRequest.{CurrentRequest}
use Rattle.ssh_auth.specs.declared.auth_request.CurrentRequest.TheVariants as round
use Rattle.ssh_auth.specs.declared.auth_request.Principal.{Principal}
use Rattle.ssh_auth.specs.declared.auth_step.AuthVerdict.TheVariants as verdict
use Rattle.ssh_auth.specs.declared.question.Admission.{Admission}
use Rattle.ssh_auth.specs.declared.question.Admission.TheVariants as by
use Rattle.ssh_auth.specs.declared.question.Question.TheVariants.{Admits}
use Rattle.ssh_auth.specs.Layout.{pk_ok, info_request}
use Rattle.ssh_auth.specs.Plan.{Plan, Finish, Ask, Tell}
use Rattle.ssh_auth.specs.Publickey.{Offer}
use Rattle.ssh_auth.specs.Request.{begun, bound_anew, is_bound, is_probed, principal_of, prompt_in}
use Rattle.ssh_auth.specs.Request.{prompt_of}
use Rattle.ssh_auth.specs.Response.{Responded, Responses, Unfit_responses, Unread_responses}
use Rattle.ssh_auth.specs.Requested.{Method, None_method, Password_method, Change_method}
use Rattle.ssh_auth.specs.Requested.{Unusable_method, Broken_method, Probe_method, Misnamed_method}
use Rattle.ssh_auth.specs.Requested.{Signed_method, Interactive_method, Other_method, Unfit_method}
use Rattle.ssh_auth.specs.Requested.{Requested as Asked}
use Rattle.ssh_auth.specs.Requested as asks
use Rattle.ssh_auth.specs.Verdict.{AuthOutcome, Replies, Fails, Encoding, after_method, after_offer}
use Rattle.ssh_auth.specs.Verdict.{after_proof, after_prompts, interactive, method_verdict, permitted}
use Rattle.ssh_auth.specs.Verdict.{proof, responded, response_verdict, signed}
use Rattle.ssh_auth.specs.Verdict.{verdict as verdict_on}
use Rattle.ssh_rules.specs.Rows.{named_user}
use Rattle.ssh_run_laws.specs.Users.{first_of, user_by}

-- this was let in, and then this was answered
abbrev pub user_answered : Option (List ℕ) → Admission → Auth → Option (List ℕ)
user_answered let_in admission Accept = first_of let_in (user_by admission)
user_answered let_in admission _ = let_in

-- the verdict is of whoever was let in
abbrev pub IsOfUser : Option (List ℕ) → AuthOutcome → Type 0
IsOfUser let_in (Replies reply verdict.Accepted state) =
    let_in ≡ Some (named_user (principal_of state))
IsOfUser let_in (Replies reply (verdict.Rejected none_method) state) = let_in ≡ None
IsOfUser let_in (Replies reply verdict.Continued state) = let_in ≡ None
IsOfUser let_in (Fails fault) = Unit {0}

-- such a verdict, and nothing but whether a user is let in is asked before it
abbrev pub LetsIn : Option (List ℕ) → Plan AuthOutcome → Type 0
LetsIn let_in (Finish outcome) = IsOfUser let_in outcome
LetsIn let_in (Ask (Admits admission) next) =
    (answer : Auth) → LetsIn (user_answered let_in admission answer) (next answer)
LetsIn let_in (Ask other next) = ⊥
LetsIn let_in (Tell entry next) = ⊥

-- the user is the one who is bound
abbrev pub IsBoundTo : AuthRequest → List ℕ → Type 0
IsBoundTo auth user = named_user (principal_of auth) ≡ user

accepts_so : (auth : AuthRequest) (user : List ℕ) → IsBoundTo auth user
    → Some user ≡ Some (named_user (principal_of auth))
accepts_so auth user is = ap (λ u. Some u) (sym is)

shown_so : (payload : List ℕ) (auth : AuthRequest) (fits : Bool)
    → IsOfUser None (if fits then Replies payload verdict.Continued auth
    else Fails (Encoding TooLong))
shown_so payload auth true = refl
shown_so payload auth false = tt

method_so : (auth : AuthRequest) (user : List ℕ) (admission : Admission) (asked : MethodKind)
    (answer : Auth) → user_by admission ≡ Some user → IsBoundTo auth user
    → IsOfUser (user_answered None admission answer) (after_method auth asked answer)
method_so auth user admission asked Accept of is = of ∙ accepts_so auth user is
method_so auth user admission asked (Reject methods partial) of is = refl
method_so auth user admission asked UnsupportedMethod of is = refl
method_so auth user admission asked (Partial name instructions prompts) of is = refl

proof_so : (auth : AuthRequest) (user : List ℕ) (admission : Admission) (answer : Auth)
    → user_by admission ≡ Some user → IsBoundTo auth user
    → IsOfUser (user_answered None admission answer) (after_proof auth answer)
proof_so auth user admission Accept of is = of ∙ accepts_so auth user is
proof_so auth user admission (Reject methods partial) of is = refl
proof_so auth user admission UnsupportedMethod of is = refl
proof_so auth user admission (Partial name instructions prompts) of is = refl

prompts_so : (auth : AuthRequest) (user : List ℕ) (admission : Admission) (answer : Auth)
    → user_by admission ≡ Some user → IsBoundTo auth user
    → IsOfUser (user_answered None admission answer) (after_prompts auth answer)
prompts_so auth user admission Accept of is = of ∙ accepts_so auth user is
prompts_so auth user admission (Reject methods partial) of is = refl
prompts_so auth user admission UnsupportedMethod of is = tt
prompts_so auth user admission (Partial name instructions prompts) of is =
    shown_so (info_request name instructions prompts) auth
    (nat_lt (length (info_request name instructions prompts)) (2 ^ 32))

offer_so : (auth : AuthRequest) (user : List ℕ) (offer : Offer)
    (answer : Auth)
    → IsOfUser (user_answered None (by.PublickeyOffered user (offered_key offer.key)
    offer.algorithm) answer) (after_offer auth offer answer)
offer_so auth user offer Accept =
    shown_so (pk_ok offer.name offer.blob) _
    (nat_lt (length (pk_ok offer.name offer.blob)) (2 ^ 32))
offer_so auth user offer (Reject methods partial) = refl
offer_so auth user offer UnsupportedMethod = refl
offer_so auth user offer (Partial name instructions prompts) = refl

proof_lets : (auth : AuthRequest) (user : List ℕ) (key : PublicKeyOrCertificate)
    (algorithm : Algorithm) → IsBoundTo auth user → LetsIn None (proof auth user key algorithm)
proof_lets auth user (Plain key hash) algorithm is = λ answer.
    proof_so auth user (by.Publickey user key algorithm) answer refl is
proof_lets auth user (Certificate certificate) algorithm is = λ answer.
    proof_so auth user (by.OpensshCertificate user certificate) answer refl is

signed_lets : (auth : AuthRequest) (user : List ℕ) (offer : Offer) (accepted : Option Bool)
    → IsBoundTo auth user → LetsIn None (signed auth user offer accepted)
signed_lets auth user offer None is = tt
signed_lets auth user offer (Some false) is = refl
signed_lets auth user offer (Some true) is = proof_lets auth user offer.key offer.algorithm is

permitted_lets : (auth : AuthRequest) (user : List ℕ) (offer : Offer) (answer : Auth)
    (next : Plan AuthOutcome) → LetsIn None next
    → LetsIn (user_answered None (by.PublickeyOffered user (offered_key offer.key)
    offer.algorithm) answer) (permitted auth answer next)
permitted_lets auth user offer Accept next h = h
permitted_lets auth user offer (Reject methods partial) next h = refl
permitted_lets auth user offer UnsupportedMethod next h = refl
permitted_lets auth user offer (Partial name instructions prompts) next h = refl

probed_lets : (auth : AuthRequest) (user : List ℕ) (offer : Offer) (accepted : Option Bool)
    (probed : Bool) → IsBoundTo auth user
    → LetsIn None (if probed then signed auth user offer accepted
    else Ask (Admits (by.PublickeyOffered user (offered_key offer.key) offer.algorithm))
    (λ answer. permitted auth answer (signed auth user offer accepted)))
probed_lets auth user offer accepted true is = signed_lets auth user offer accepted is
probed_lets auth user offer accepted false is = λ answer.
    permitted_lets auth user offer answer (signed auth user offer accepted)
    (signed_lets auth user offer accepted is)

interactive_lets : (auth : AuthRequest) (user submethods : List ℕ)
    (response : Option (List (List ℕ))) → IsBoundTo auth user
    → LetsIn None (interactive auth user submethods response)
interactive_lets auth user submethods response is = λ answer.
    prompts_so auth user (by.KeyboardInteractive user submethods response) answer refl is

method_lets : (auth : AuthRequest) (user : List ℕ) (method : Method) → IsBoundTo auth user
    → LetsIn None (method_verdict auth user method)
method_lets auth user None_method is = λ answer.
    method_so auth user (by.None user) method_kind.None answer refl is
method_lets auth user (Password_method password) is = λ answer.
    method_so auth user (by.Password user password) method_kind.Password answer refl is
method_lets auth user (Change_method password new_password) is = refl
method_lets auth user Unusable_method is = refl
method_lets auth user Misnamed_method is = refl
method_lets auth user Broken_method is = tt
method_lets auth user (Probe_method offer) is = λ answer.
    offer_so auth user offer answer
method_lets auth user (Signed_method offer accepted) is =
    probed_lets auth user offer accepted (is_probed auth.current offer.name offer.blob) is
method_lets auth user (Interactive_method submethods) is =
    interactive_lets (record auth { current = Some (round.KeyboardInteractive submethods) }) user
    submethods None is
method_lets auth user Other_method is = refl
method_lets auth user (Unfit_method why) is = tt

-- ---- who is bound

first_so : (a b : Bool) → (a && b) ≡ true → a ≡ true
first_so true b h = refl
first_so false b h = absurd (cc)

abbrev user_bound : Option Principal → List ℕ
user_bound bound = named_user (option_map (λ (p : Principal). (p.user, p.service)) bound)

bound_so : (bound : Option Principal) (user service : List ℕ) → is_bound bound user service ≡ true
    → user_bound bound ≡ user
bound_so None user service t = absurd (cc)
bound_so (Some old) user service t =
    (bytes_eq-Decides old.user user).0
    (first_so (bytes_eq old.user user) (bytes_eq old.service service) t)

binds : (auth : AuthRequest) (user service : List ℕ) (b : Bool)
    → is_bound auth.bound user service ≡ b
    → user_bound (if b then auth else bound_anew auth user service).bound ≡ user
binds auth user service true t = bound_so auth.bound user service t
binds auth user service false t = refl

pub verdict_lets : (auth : AuthRequest) (asked : Asked) → LetsIn None (verdict_on auth asked)
verdict_lets auth (asks.Request user method) =
    let service = codes "ssh-connection" in
    method_lets (begun auth user service) user method
    (binds auth user service (is_bound auth.bound user service) refl)
verdict_lets auth asks.Other_service = tt
verdict_lets auth (asks.Unfit why) = tt
verdict_lets auth asks.Unread = tt

prompted : (current : Option CurrentRequest) (bound : Option Principal)
    (shown : List ℕ × List ℕ) → prompt_in current bound ≡ Some shown
    → user_bound bound ≡ shown.0
prompted (Some (round.KeyboardInteractive submethods)) (Some principal) shown is =
    let same : (principal.user, submethods) ≡ shown = cc in
    ap (λ (s : List ℕ × List ℕ). s.0) same
prompted _ _ shown is = absurd (cc)

responded_lets : (auth : AuthRequest) (prompt : Option (List ℕ × List ℕ)) (said : Responded)
    → ((shown : List ℕ × List ℕ) → prompt ≡ Some shown → IsBoundTo auth shown.0)
    → LetsIn None (responded auth prompt said)
responded_lets auth None said is = refl
responded_lets auth (Some prompt) (Responses responses) is =
    interactive_lets auth prompt.0 prompt.1 (Some responses) (is prompt refl)
responded_lets auth (Some prompt) (Unfit_responses why) is = tt
responded_lets auth (Some prompt) Unread_responses is = tt

pub response_lets : (auth : AuthRequest) (said : Responded)
    → LetsIn None (response_verdict auth said)
response_lets auth said =
    responded_lets (record auth { partial_success = false }) (prompt_of auth) said
    (λ shown is. prompted auth.current auth.bound shown is)
