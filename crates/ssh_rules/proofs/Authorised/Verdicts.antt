-- The verdict on a request asks nothing of the connection, accepts a user only by an accepting
-- answer, and replies by no frame of a channel.
use Rattle.std.proofs.Common.{◌≡◌, ◌≤◌, ◌⊎◌, ℕ, List, [], ◌∷◌, ◌++◌, Option, Some, None, Bool, true}
use Rattle.std.proofs.Common.{false, refl, sym, ap, subst, inr, arith}
use Rattle.std.specs.Prelude.{◌&&◌, ◌^◌, nat_lt, bytes_eq, if◌then◌else◌, length}
use Rattle.std.proofs.lemmas.Slice.Eq.{bytes_eq-Decides}
use Rattle.ssh_wire.specs.declared.error.WireError.TheVariants.{TooLong}
use Rattle.ssh_wire.specs.declared.method.MethodKind.{MethodKind}
use Rattle.ssh_wire.specs.declared.method.MethodKind.TheVariants as method_kind
use Rattle.ssh_wire.specs.Field.{string}
use Rattle.ssh_wire.specs.Methods.{names_text}
use Rattle.ssh_keys.specs.declared.algorithm.Algorithm.{Algorithm}
use Rattle.ssh_keys.specs.declared.key_or_certificate.PublicKeyOrCertificate.{PublicKeyOrCertificate}
use Rattle.ssh_keys.specs.declared.key_or_certificate.PublicKeyOrCertificate.TheVariants.{PublicKey as Plain}
use Rattle.ssh_keys.specs.declared.key_or_certificate.PublicKeyOrCertificate.TheVariants.{Certificate}
use Rattle.ssh_keys.specs.Offers.{offered_key}
use Rattle.ssh_link.specs.declared.frame.InputKind.{InputKind}
use Rattle.ssh_auth.specs.declared.auth.Auth.{Auth}
use Rattle.ssh_auth.specs.declared.auth.Auth.TheVariants.{Reject, Accept, UnsupportedMethod}
use Rattle.ssh_auth.specs.declared.auth.Auth.TheVariants.{Partial}
use Rattle.ssh_auth.specs.declared.auth_request.AuthRequest.{AuthRequest}
use Rattle.ssh_auth.specs.declared.auth_request.CurrentRequest.{CurrentRequest}
use Rattle.ssh_auth.specs.declared.auth_request.CurrentRequest.TheVariants as round
use Rattle.ssh_auth.specs.declared.auth_request.Principal.{Principal}
use Rattle.ssh_auth.specs.declared.auth_step.AuthVerdict.TheVariants as verdict
use Rattle.ssh_auth.specs.Layout.{success, flag, pk_ok, prompts_fields, info_request}
use Rattle.ssh_auth.specs.declared.question.Question.{Question}
use Rattle.ssh_auth.specs.declared.question.Question.TheVariants.{Admits}
use Rattle.ssh_auth.specs.declared.question.Admission.TheVariants as by
use Rattle.ssh_auth.specs.Plan.{Plan, Finish, Ask, Tell, Answer}
use Rattle.ssh_auth.specs.Proven.{AsksOnly}
use Rattle.ssh_auth.specs.Publickey.{Circumstances, Offer}
use Rattle.ssh_auth.specs.Request.{is_bound, bound_anew, begun, is_probed, prompt_in}
use Rattle.ssh_auth.specs.Response.{Responded, Responses, Unfit_responses, Unread_responses}
use Rattle.ssh_auth.specs.Requested.{Method, None_method, Password_method, Change_method}
use Rattle.ssh_auth.specs.Requested.{Unusable_method, Broken_method}
use Rattle.ssh_auth.specs.Requested.{Probe_method, Misnamed_method, Signed_method}
use Rattle.ssh_auth.specs.Requested.{Interactive_method, Other_method, Unfit_method}
use Rattle.ssh_auth.specs.Verdict.{AuthOutcome, Replies, Fails, Encoding, is_none, rejected}
use Rattle.ssh_auth.specs.Verdict.{after_method, after_offer, after_proof, after_prompts}
use Rattle.ssh_auth.specs.Verdict.{proof, signed, permitted, method_verdict, responded}
use Rattle.ssh_rules.specs.Authorised.{IsRequestOf, IsResponse, IsProvenRequest, AsksConnection}
use Rattle.ssh_rules.proofs.Authorised.Guards.{Accepts, NamesLast}

-- ---- what is shown

-- whoever is bound is so named
abbrev pub IsNamed : (named : List ℕ → Type 0) → AuthRequest → Type 0
IsNamed named auth = (principal : Principal) → auth.bound ≡ Some principal → named principal.user

-- a payload of a lower number than those of channels
abbrev pub IsLow : List ℕ → Type 0
IsLow payload = (n : ℕ) × (rest : List ℕ) × (payload ≡ n ∷ rest) × (90 ≤ n → ⊥)

abbrev pub IsFairReply : (named : List ℕ → Type 0) → (accepted : Type 0) → AuthOutcome → Type 0
IsFairReply named accepted (Replies reply v state) = IsLow reply × (v ≡ verdict.Accepted → accepted)
    × IsNamed named state
IsFairReply named accepted (Fails fault) = Unit {0}

abbrev pub IsFair : Circumstances → (named : List ℕ → Type 0) → (accepted : Type 0) → InputKind
    → Plan AuthOutcome → Type 0
IsFair given named accepted kind (Finish outcome) = IsFairReply (NamesLast named kind) accepted
    outcome
IsFair given named accepted kind (Ask question next) = (AsksConnection question → ⊥)
    × ((answer : Answer question) → IsFair given named (accepted ⊎ Accepts given named kind question
    answer) kind (next answer))
IsFair given named accepted kind (Tell entry next) = ⊥

-- ---- replies

rejected_fair : (named : List ℕ → Type 0) (a : Type 0) (auth : AuthRequest) (none_method : Bool)
    (methods : List MethodKind)
    (partial : Bool) → IsNamed named auth →
    IsFairReply named a (rejected auth (record {
      none_method = none_method;
      methods = methods;
      partial_success = partial;
    }))
rejected_fair named a auth none_method methods partial is = (
  (51, string (names_text methods) ++ flag partial ∷ [], refl, λ l. omega (arith, l)),
  λ e. absurd (cc),
  is,
)

accepted_fair : (named : List ℕ → Type 0) (a : Type 0) (auth : AuthRequest) → IsNamed named auth → a
    →
    IsFairReply named a (Replies success verdict.Accepted auth)
accepted_fair named a auth is x = ((52, [], refl, λ l. omega (arith, l)), λ e. x, is)

-- PK_OK or prompts, or nothing where they would be too long
shown_fair : (named : List ℕ → Type 0) (a : Type 0) (auth : AuthRequest) (payload rest : List ℕ)
    (fits : Bool) →
    payload ≡ 60 ∷ rest → IsNamed named auth →
    IsFairReply named a (if fits then Replies payload verdict.Continued auth else Fails
    (Encoding TooLong))
shown_fair named a auth payload rest true is h = (
  (60, rest, is, λ l. omega (arith, l)),
  λ e. absurd (cc),
  h,
)
shown_fair named a auth payload rest false is h = tt

-- ---- answers: one that accepts lets the user in

after_method_fair : (named : List ℕ → Type 0) (a b : Type 0) (auth : AuthRequest)
    (asked : MethodKind) (answer : Auth) →
    IsNamed named auth → (answer ≡ Accept → b) → IsFairReply named (a ⊎ b)
    (after_method auth asked answer)
after_method_fair named a b auth asked Accept is h = accepted_fair named (a ⊎ b) auth is
    (inr (h refl))
after_method_fair named a b auth asked (Reject methods partial) is h =
    rejected_fair named (a ⊎ b) auth (is_none asked) _ partial is
after_method_fair named a b auth asked UnsupportedMethod is h = rejected_fair named (a ⊎ b) auth
    (is_none asked) _ false is
after_method_fair named a b auth asked (Partial name instructions prompts) is h =
    rejected_fair named (a ⊎ b) auth (is_none asked) _ false is

after_proof_fair : (named : List ℕ → Type 0) (a b : Type 0) (auth : AuthRequest) (answer : Auth) →
    IsNamed named auth → (answer ≡ Accept → b) → IsFairReply named (a ⊎ b) (after_proof auth answer)
after_proof_fair named a b auth Accept is h = accepted_fair named (a ⊎ b) auth is (inr (h refl))
after_proof_fair named a b auth (Reject methods partial) is h =
    rejected_fair named (a ⊎ b) auth false _ partial is
after_proof_fair named a b auth UnsupportedMethod is h = rejected_fair named (a ⊎ b) auth false _
    false is
after_proof_fair named a b auth (Partial name instructions prompts) is h = rejected_fair named
    (a ⊎ b) auth false _ false is

after_prompts_fair : (named : List ℕ → Type 0) (a b : Type 0) (auth : AuthRequest) (answer : Auth) →
    IsNamed named auth → (answer ≡ Accept → b) → IsFairReply named (a ⊎ b)
    (after_prompts auth answer)
after_prompts_fair named a b auth Accept is h = accepted_fair named (a ⊎ b) auth is (inr (h refl))
after_prompts_fair named a b auth (Reject methods partial) is h =
    rejected_fair named (a ⊎ b) auth false _ partial is
after_prompts_fair named a b auth UnsupportedMethod is h = tt
after_prompts_fair named a b auth (Partial name instructions prompts) is h =
    shown_fair named (a ⊎ b) auth (info_request name instructions prompts)
    (string name ++ (string instructions ++ (string [] ++ prompts_fields prompts)))
    (nat_lt (length (info_request name instructions prompts)) (2 ^ 32)) refl is

after_offer_fair : (named : List ℕ → Type 0) (a : Type 0) (auth : AuthRequest) (offer : Offer)
    (answer : Auth) →
    IsNamed named auth → IsFairReply named a (after_offer auth offer answer)
after_offer_fair named a auth offer Accept is =
    shown_fair named a (record auth { current = Some (round.PublicKey offer.blob offer.name true) })
    (pk_ok offer.name offer.blob)
    (string offer.name ++ string offer.blob) (nat_lt (length (pk_ok offer.name offer.blob))
    (2 ^ 32)) refl is
after_offer_fair named a auth offer (Reject methods partial) is = rejected_fair named a auth false _
    partial is
after_offer_fair named a auth offer UnsupportedMethod is = rejected_fair named a auth false _ false
    is
after_offer_fair named a auth offer (Partial name instructions prompts) is = rejected_fair named a
    auth false _ false is

-- ---- requests

-- questions of which more is said
pub asks_weak : {O : Type 0} (P Q : Question → Type 0) (plan : Plan O)
    → ((question : Question) → P question → Q question) →
    AsksOnly P plan → AsksOnly Q plan
asks_weak P Q (Finish outcome) f h = tt
asks_weak P Q (Ask question next) f h = (
  f question h.0,
  λ answer. asks_weak P Q (next answer) f
      (h.1 answer),
)
asks_weak P Q (Tell entry next) f h = asks_weak P Q next f h

proof_fair : (given : Circumstances) (named : List ℕ → Type 0) (a : Type 0) (kind : InputKind)
    (auth : AuthRequest)
    (user : List ℕ) (key : PublicKeyOrCertificate) (algorithm : Algorithm) →
    AsksOnly (IsProvenRequest given kind) (proof auth user key algorithm)
    → IsNamed (NamesLast named kind) auth →
    IsFair given named a kind (proof auth user key algorithm)
proof_fair given named a kind auth user (Plain key hash) algorithm h is =
    let Such = Accepts given named kind (Admits (by.Publickey user key algorithm)) in (
      λ q. q,
      λ answer. after_proof_fair (NamesLast named kind) a (Such answer) auth answer is
          (λ e. subst Such (sym e) h.0),
    )
proof_fair given named a kind auth user (Certificate certificate) algorithm h is =
    let Such = Accepts given named kind (Admits (by.OpensshCertificate user certificate)) in (
      λ q. q,
      λ answer. after_proof_fair (NamesLast named kind) a (Such answer) auth answer is
          (λ e. subst Such (sym e) h.0),
    )

signed_fair : (given : Circumstances) (named : List ℕ → Type 0) (a : Type 0) (kind : InputKind)
    (auth : AuthRequest)
    (user : List ℕ) (offer : Offer) (accepted : Option Bool) →
    AsksOnly (IsProvenRequest given kind) (signed auth user offer accepted)
    → IsNamed (NamesLast named kind) auth →
    IsFair given named a kind (signed auth user offer accepted)
signed_fair given named a kind auth user offer None h is = tt
signed_fair given named a kind auth user offer (Some false) h is =
    rejected_fair (NamesLast named kind) a auth false _ false is
signed_fair given named a kind auth user offer (Some true) h is =
    proof_fair given named a kind auth user offer.key offer.algorithm h is

permitted_fair : (given : Circumstances) (named : List ℕ → Type 0) (a : Type 0) (kind : InputKind)
    (auth : AuthRequest)
    (answer : Auth) (next : Plan AuthOutcome) → (answer ≡ Accept → IsFair given named a kind next) →
    IsNamed (NamesLast named kind) auth → IsFair given named a kind (permitted auth answer next)
permitted_fair given named a kind auth Accept next h is = h refl
permitted_fair given named a kind auth _ next h is = rejected_fair (NamesLast named kind) a auth
    false _ false is

-- a permitted plan asks only what the next one asks, where it goes on
permitted_asks : (P : Question → Type 0) (auth : AuthRequest) (answer : Auth)
    (next : Plan AuthOutcome) → answer ≡ Accept →
    AsksOnly P (permitted auth answer next) → AsksOnly P next
permitted_asks P auth Accept next e h = h
permitted_asks P auth _ next e h = absurd (cc)

asked_first_fair : (given : Circumstances) (named : List ℕ → Type 0) (a : Type 0) (kind : InputKind)
    (auth : AuthRequest)
    (user : List ℕ) (offer : Offer) (accepted : Option Bool) (is_asked : Bool) →
    AsksOnly (IsProvenRequest given kind) (if is_asked then signed auth user offer accepted
    else Ask (Admits (by.PublickeyOffered user (offered_key offer.key) offer.algorithm))
    (λ answer. permitted auth answer (signed auth user offer accepted)))
    → IsNamed (NamesLast named kind) auth →
    IsFair given named a kind (if is_asked then signed auth user offer accepted
    else Ask (Admits (by.PublickeyOffered user (offered_key offer.key) offer.algorithm))
    (λ answer. permitted auth answer (signed auth user offer accepted)))
asked_first_fair given named a kind auth user offer accepted true h is =
    signed_fair given named a kind auth user offer accepted h is
asked_first_fair given named a kind auth user offer accepted false h is =
    let Such = Accepts given named kind
    (Admits (by.PublickeyOffered user (offered_key offer.key) offer.algorithm)) in (
      λ q. q,
      λ answer. permitted_fair given named (a ⊎ Such answer) kind auth answer
          (signed auth user offer accepted)
          (λ e. signed_fair given named (a ⊎ Such answer) kind auth user offer accepted
          (permitted_asks (IsProvenRequest given kind) auth answer (signed auth user offer accepted)
          e
          (h.1 answer)) is) is,
    )

pub method_fair : (given : Circumstances) (named : List ℕ → Type 0) (a : Type 0) (kind : InputKind)
    (auth : AuthRequest)
    (user : List ℕ) (method : Method) → IsRequestOf user kind →
    AsksOnly (IsProvenRequest given kind) (method_verdict auth user method)
    → IsNamed (NamesLast named kind) auth →
    IsFair given named a kind (method_verdict auth user method)
method_fair given named a kind auth user None_method request h is =
    let Such = Accepts given named kind (Admits (by.None user)) in (
      λ q. q,
      λ answer. after_method_fair (NamesLast named kind) a (Such answer) auth
          method_kind.None answer is
          (λ e. subst Such (sym e) request),
    )
method_fair given named a kind auth user (Password_method password) request h is =
    let Such = Accepts given named kind (Admits (by.Password user password)) in (
      λ q. q,
      λ answer. after_method_fair (NamesLast named kind) a (Such answer) auth
          method_kind.Password answer is
          (λ e. subst Such (sym e) request),
    )
method_fair given named a kind auth user (Change_method password new_password) request h is =
    rejected_fair (NamesLast named kind) a auth false _ false is
method_fair given named a kind auth user Unusable_method request h is =
    rejected_fair (NamesLast named kind) a auth false _ false is
method_fair given named a kind auth user Misnamed_method request h is =
    rejected_fair (NamesLast named kind) a auth false _ false is
method_fair given named a kind auth user Broken_method request h is = tt
method_fair given named a kind auth user (Probe_method offer) request h is =
    (λ q. q, λ answer. after_offer_fair (NamesLast named kind) _ auth offer answer is)
method_fair given named a kind auth user (Signed_method offer accepted) request h is =
    asked_first_fair given named a kind auth user offer accepted (is_probed auth.current offer.name
    offer.blob) h is
method_fair given named a kind auth user (Interactive_method submethods) request h is =
    let Such = Accepts given named kind (Admits (by.KeyboardInteractive user submethods None)) in (
      λ q. q,
      λ answer. after_prompts_fair (NamesLast named kind) a (Such answer)
          (record auth { current = Some (round.KeyboardInteractive submethods) }) answer is
          (λ e. subst Such (sym e) request),
    )
method_fair given named a kind auth user Other_method request h is =
    rejected_fair (NamesLast named kind) a auth false _ false is
method_fair given named a kind auth user (Unfit_method why) request h is = tt

-- ---- responses

pub responded_fair : (given : Circumstances) (named : List ℕ → Type 0) (a : Type 0)
    (kind : InputKind) (auth : AuthRequest)
    (prompt : Option (List ℕ × List ℕ)) (said : Responded) →
    ((shown : List ℕ × List ℕ) → prompt ≡ Some shown → IsResponse kind × named shown.0)
    → IsNamed (NamesLast named kind) auth →
    IsFair given named a kind (responded auth prompt said)
responded_fair given named a kind auth None said h is = rejected_fair (NamesLast named kind) a auth
    false _ false is
responded_fair given named a kind auth (Some prompt) (Responses responses) h is =
    let Such = Accepts given named kind
    (Admits (by.KeyboardInteractive prompt.0 prompt.1 (Some responses))) in (
      λ q. q,
      λ answer. after_prompts_fair (NamesLast named kind) a (Such answer) auth answer is
          (λ e. subst Such (sym e) (h prompt refl)),
    )
responded_fair given named a kind auth (Some prompt) (Unfit_responses why) h is = tt
responded_fair given named a kind auth (Some prompt) Unread_responses h is = tt

-- ---- who is bound

first_of : (a b : Bool) → (a && b) ≡ true → a ≡ true
first_of true b h = refl
first_of false b h = absurd (cc)

same_user : (bound : Option Principal) (user service : List ℕ) (principal : Principal)
    → is_bound bound user service ≡ true →
    bound ≡ Some principal → principal.user ≡ user
same_user None user service principal t is = absurd (cc)
same_user (Some old) user service principal t is =
    let same : old ≡ principal = cc in
    subst (λ p. p.user ≡ user) same
    ((bytes_eq-Decides old.user user).0 (first_of (bytes_eq old.user user)
    (bytes_eq old.service service) t))

binds : (auth : AuthRequest) (user service : List ℕ) (b : Bool) (principal : Principal)
    → is_bound auth.bound user service ≡ b →
    (if b then auth else bound_anew auth user service).bound ≡ Some principal → principal.user
    ≡ user
binds auth user service true principal t is = same_user auth.bound user service principal t is
binds auth user service false principal t is =
    let named : Principal = record { user = user; service = service } in
    let bound : Some named ≡ Some principal = is in
    let same : named ≡ principal = cc in
    sym (ap (λ p. p.user) same)

-- a request binds the user that it names
pub begun_named : (named : List ℕ → Type 0) (auth : AuthRequest) (user service : List ℕ)
    → named user →
    IsNamed named (begun auth user service)
begun_named named auth user service h principal is =
    subst named (sym (binds auth user service (is_bound auth.bound user service) principal refl is))
    h

-- the user whom prompts wait for is the bound one
pub prompt_named : (named : List ℕ → Type 0) (current : Option CurrentRequest)
    (bound : Option Principal)
    (shown : List ℕ × List ℕ) → ((principal : Principal) → bound ≡ Some principal
    → named principal.user) →
    prompt_in current bound ≡ Some shown → named shown.0
prompt_named named (Some (round.KeyboardInteractive submethods)) (Some principal) shown h is =
    let same : (principal.user, submethods) ≡ shown = cc in
    subst (λ s. named s.0) same (h principal refl)
prompt_named named _ _ shown h is = absurd (cc)
