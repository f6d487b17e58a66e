-- The verdict on a valid request comes to no fault where each answer is fine.
use Rattle.std.proofs.Common.{◌≡◌, ◌⊎◌, ℕ, List, Option, Some, None, Bool, true}
use Rattle.std.proofs.Common.{false, refl, inl, inr}
use Rattle.std.specs.Prelude.{◌^◌, nat_lt, length, if◌then◌else◌}
use Rattle.std.proofs.lemmas.Bool.{lt-ltb}
use Rattle.ssh_wire.specs.declared.error.WireError.TheVariants.{TooLong}
use Rattle.ssh_wire.specs.declared.method.MethodKind.{MethodKind}
use Rattle.ssh_wire.specs.declared.method.MethodKind.TheVariants as method_kind
use Rattle.ssh_keys.specs.declared.algorithm.Algorithm.{Algorithm}
use Rattle.ssh_keys.specs.declared.key_or_certificate.PublicKeyOrCertificate.{PublicKeyOrCertificate}
use Rattle.ssh_keys.specs.declared.key_or_certificate.PublicKeyOrCertificate.TheVariants.{PublicKey as Plain}
use Rattle.ssh_keys.specs.declared.key_or_certificate.PublicKeyOrCertificate.TheVariants.{Certificate}
use Rattle.ssh_keys.specs.Offers.{offered_key}
use Rattle.ssh_link.specs.declared.frame.InputKind.{InputKind}
use Rattle.ssh_auth.specs.declared.auth.Auth.{Auth}
use Rattle.ssh_auth.specs.declared.auth.Auth.TheVariants.{Reject, Accept, UnsupportedMethod}
use Rattle.ssh_auth.specs.declared.auth.Auth.TheVariants.{Partial}
use Rattle.ssh_auth.specs.declared.auth_request.AuthRequest.{AuthRequest}
use Rattle.ssh_auth.specs.declared.auth_request.CurrentRequest.TheVariants as round
use Rattle.ssh_auth.specs.declared.auth_step.AuthVerdict.TheVariants.{Continued}
use Rattle.ssh_auth.specs.declared.question.Admission.TheVariants as by
use Rattle.ssh_auth.specs.declared.question.Question.TheVariants.{Admits}
use Rattle.ssh_auth.specs.Layout.{pk_ok, info_request}
use Rattle.ssh_auth.specs.Plan.{Plan, Finish, Ask, Tell, Answer}
use Rattle.ssh_auth.specs.Publickey.{Offer}
use Rattle.ssh_auth.specs.Request.{is_probed}
use Rattle.ssh_auth.specs.Response.{Responded, Responses, Unfit_responses, Unread_responses}
use Rattle.ssh_auth.specs.Requested.{Method, None_method, Password_method, Change_method}
use Rattle.ssh_auth.specs.Requested.{Unusable_method, Broken_method}
use Rattle.ssh_auth.specs.Requested.{Probe_method, Misnamed_method, Signed_method}
use Rattle.ssh_auth.specs.Requested.{Interactive_method, Other_method, Unfit_method}
use Rattle.ssh_auth.specs.Verdict.{AuthOutcome, Replies, Fails, Encoding, Starved, after_method}
use Rattle.ssh_auth.specs.Verdict.{after_offer, after_proof, after_prompts}
use Rattle.ssh_auth.specs.Verdict.{proof, signed, permitted, method_verdict, responded}
use Rattle.ssh_rules.specs.Valid.{IsFineAnswer, IsFinePrompt}
use Rattle.ssh_rules.proofs.Complete.Methods.{IsServed, ShortensProbe}
use Rattle.ssh_rules.proofs.Complete.Responses.{IsRead}

-- a reply, or want of memory
abbrev pub IsFineReply : AuthOutcome → Type 0
IsFineReply (Replies reply verdict state) = Unit {0}
IsFineReply (Fails fault) = fault ≡ Starved

-- where each answer is fine, the plan comes to such
abbrev pub IsFineVerdict : InputKind → Plan AuthOutcome → Type 0
IsFineVerdict kind (Finish outcome) = IsFineReply outcome
IsFineVerdict kind (Ask question next) = (answer : Answer question) → IsFineAnswer kind question
    answer → IsFineVerdict kind (next answer)
IsFineVerdict kind (Tell entry next) = IsFineVerdict kind next

shown_fine : (payload : List ℕ) (auth : AuthRequest) (fits : Bool) → fits ≡ true →
    IsFineReply (if fits then Replies payload Continued auth else Fails (Encoding TooLong))
shown_fine payload auth true is = tt
shown_fine payload auth false is = absurd (cc)

method_answer : (auth : AuthRequest) (asked : MethodKind) (answer : Auth)
    → IsFineReply (after_method auth asked answer)
method_answer auth asked Accept = tt
method_answer auth asked (Reject methods partial) = tt
method_answer auth asked UnsupportedMethod = tt
method_answer auth asked (Partial name instructions prompts) = tt

proof_answer : (auth : AuthRequest) (answer : Auth) → IsFineReply (after_proof auth answer)
proof_answer auth Accept = tt
proof_answer auth (Reject methods partial) = tt
proof_answer auth UnsupportedMethod = tt
proof_answer auth (Partial name instructions prompts) = tt

offer_answer : (kind : InputKind) (user : List ℕ) (auth : AuthRequest) (offer : Offer)
    (answer : Auth) → ShortensProbe kind (Probe_method offer) →
    IsFineAnswer kind (Admits (by.PublickeyOffered user (offered_key offer.key) offer.algorithm))
    answer →
    IsFineReply (after_offer auth offer answer)
offer_answer kind user auth offer Accept short fine =
    shown_fine (pk_ok offer.name offer.blob)
    (record auth { current = Some (round.PublicKey offer.blob offer.name true) })
    (nat_lt (length (pk_ok offer.name offer.blob)) (2 ^ 32))
    (lt-ltb (length (pk_ok offer.name offer.blob)) (2 ^ 32) (short fine))
offer_answer kind user auth offer (Reject methods partial) short fine = tt
offer_answer kind user auth offer UnsupportedMethod short fine = tt
offer_answer kind user auth offer (Partial name instructions prompts) short fine = tt

prompt_answer : (auth : AuthRequest) (answer : Auth) → IsFinePrompt answer
    → IsFineReply (after_prompts auth answer)
prompt_answer auth Accept fine = tt
prompt_answer auth (Reject methods partial) fine = tt
prompt_answer auth UnsupportedMethod fine = absurd fine
prompt_answer auth (Partial name instructions prompts) fine =
    let payload = info_request name instructions prompts in
    shown_fine payload auth (nat_lt (length payload) (2 ^ 32))
    (lt-ltb (length payload) (2 ^ 32) fine)

proof_fine : (kind : InputKind) (auth : AuthRequest) (user : List ℕ) (key : PublicKeyOrCertificate)
    (algorithm : Algorithm) →
    IsFineVerdict kind (proof auth user key algorithm)
proof_fine kind auth user (Plain key hash) algorithm = λ answer fine. proof_answer auth answer
proof_fine kind auth user (Certificate certificate) algorithm = λ answer fine. proof_answer auth
    answer

signed_fine : (kind : InputKind) (auth : AuthRequest) (user : List ℕ) (offer : Offer)
    (accepted : Option Bool) →
    IsFineVerdict kind (signed auth user offer accepted)
signed_fine kind auth user offer None = refl
signed_fine kind auth user offer (Some false) = tt
signed_fine kind auth user offer (Some true) = proof_fine kind auth user offer.key offer.algorithm

permitted_fine : (kind : InputKind) (auth : AuthRequest) (answer : Auth) (next : Plan AuthOutcome)
    → IsFineVerdict kind next →
    IsFineVerdict kind (permitted auth answer next)
permitted_fine kind auth Accept next h = h
permitted_fine kind auth _ next h = tt

asked_fine : (kind : InputKind) (auth : AuthRequest) (user : List ℕ) (offer : Offer)
    (accepted : Option Bool) (is_asked : Bool) →
    IsFineVerdict kind (if is_asked then signed auth user offer accepted
    else Ask (Admits (by.PublickeyOffered user (offered_key offer.key) offer.algorithm))
    (λ answer. permitted auth answer (signed auth user offer accepted)))
asked_fine kind auth user offer accepted true = signed_fine kind auth user offer accepted
asked_fine kind auth user offer accepted false =
    λ answer fine. permitted_fine kind auth answer (signed auth user offer accepted)
    (signed_fine kind auth user offer accepted)

-- a method that fits its fields
pub method_fine : (kind : InputKind) (auth : AuthRequest) (user : List ℕ) (method : Method)
    → IsServed method → ShortensProbe kind method →
    IsFineVerdict kind (method_verdict auth user method)
method_fine kind auth user None_method s short = λ answer fine. method_answer auth method_kind.None
    answer
method_fine kind auth user (Password_method password) s short = λ answer fine. method_answer auth
    method_kind.Password answer
method_fine kind auth user (Change_method password new_password) s short = tt
method_fine kind auth user Unusable_method s short = tt
method_fine kind auth user Broken_method s short = absurd s
method_fine kind auth user (Probe_method offer) s short = λ answer fine. offer_answer kind user auth
    offer answer short fine
method_fine kind auth user Misnamed_method s short = tt
method_fine kind auth user (Signed_method offer accepted) s short =
    asked_fine kind auth user offer accepted (is_probed auth.current offer.name offer.blob)
method_fine kind auth user Other_method s short = tt
method_fine kind auth user (Interactive_method submethods) s short =
    λ answer fine. prompt_answer (record auth
    { current = Some (round.KeyboardInteractive submethods) }) answer fine
method_fine kind auth user (Unfit_method why) s short = absurd s

-- a response that is read, or for which no prompts wait
pub responded_fine : (kind : InputKind) (auth : AuthRequest) (prompt : Option (List ℕ × List ℕ))
    (said : Responded) →
    (prompt ≡ None) ⊎ IsRead said → IsFineVerdict kind (responded auth prompt said)
responded_fine kind auth None said v = tt
responded_fine kind auth (Some prompt) (Responses responses) v = λ answer fine. prompt_answer auth
    answer fine
responded_fine kind auth (Some prompt) (Unfit_responses why) (inl v) = absurd (cc)
responded_fine kind auth (Some prompt) (Unfit_responses why) (inr v) = absurd v
responded_fine kind auth (Some prompt) Unread_responses v = refl
