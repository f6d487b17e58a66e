-- A key or a certificate is asked about to let a user in only where it has signed the request.
use Rattle.std.proofs.Common.{◌≡◌, ℕ, List, [], ◌∷◌, ◌++◌, Bool, true, false, Option, Some, None}
use Rattle.std.proofs.Common.{Result, Ok, Err, refl, sym, subst}
use Rattle.std.specs.Prelude.{All, bytes_eq, codes, if◌then◌else◌}
use Rattle.std.proofs.lemmas.List.{append_cancel_left}
use Rattle.std.proofs.lemmas.List.Elements.{All-nil, All-cons, All-head, All-tail, All-same}
use Rattle.std.proofs.lemmas.List.Elements.{All-push}
use Rattle.std.proofs.lemmas.Slice.Eq.{bytes_eq-Decides}
use Rattle.ssh_wire.specs.Field.{SpellsAll}
use Rattle.ssh_link.specs.Told.{ToldBy}
use Rattle.ssh_link.proofs.Tellings.{adds_nil}
use Rattle.ssh_keys.specs.declared.algorithm.Algorithm.{Algorithm}
use Rattle.ssh_keys.specs.declared.key_or_certificate.PublicKeyOrCertificate.{PublicKeyOrCertificate}
use Rattle.ssh_keys.specs.declared.key_or_certificate.PublicKeyOrCertificate.TheVariants.{
  PublicKey
      as Plain,
}
use Rattle.ssh_keys.specs.declared.key_or_certificate.PublicKeyOrCertificate.TheVariants.{Certificate}
use Rattle.ssh_keys.specs.Offers.{offered_key}
use Rattle.ssh_auth.specs.declared.auth.Auth.{Auth}
use Rattle.ssh_auth.specs.declared.auth.Auth.TheVariants.{Accept}
use Rattle.ssh_auth.specs.declared.auth_request.AuthRequest.{AuthRequest}
use Rattle.ssh_auth.specs.declared.auth_step.AuthStep.{AuthStep}
use Rattle.ssh_auth.specs.declared.call.Call.{Call}
use Rattle.ssh_auth.specs.declared.call.Call.TheVariants.{AuthKeyboardInteractive}
use Rattle.ssh_auth.specs.declared.error.AuthError.{AuthError}
use Rattle.ssh_auth.specs.declared.error.AuthError.TheVariants as error
use Rattle.ssh_auth.specs.declared.question.Admission.TheVariants as by
use Rattle.ssh_auth.specs.declared.question.Question.{Question}
use Rattle.ssh_auth.specs.declared.question.Question.TheVariants.{Admits}
use Rattle.ssh_auth.specs.Plan.{Plan, Finish, Ask, Tell, Event, Called, asked_in, Reaches, Breaks}
use Rattle.ssh_auth.specs.Plan.{OutsideError, Handler_error}
use Rattle.ssh_auth.specs.Proven.{IsProven, IsSignedBy, IsProvenCall, IsPromptCall, AsksOnly}
use Rattle.ssh_auth.specs.Proven.{AllAdded}
use Rattle.ssh_auth.specs.Publickey.{Circumstances, Offer}
use Rattle.ssh_auth.specs.Request.{begun, is_probed}
use Rattle.ssh_auth.specs.Requested.{head_fields, Method, None_method, Password_method}
use Rattle.ssh_auth.specs.Requested.{Change_method, Unusable_method, Broken_method, Probe_method}
use Rattle.ssh_auth.specs.Requested.{Misnamed_method, Signed_method, Interactive_method}
use Rattle.ssh_auth.specs.Requested.{Other_method, Unfit_method, Named, Is_none, Is_password}
use Rattle.ssh_auth.specs.Requested.{Is_publickey, Is_interactive, Is_other, named_by, SaysMethod}
use Rattle.ssh_auth.specs.Requested.{Requested, Request, Other_service, Unfit, Unread, SaysRequest}
use Rattle.ssh_auth.specs.Verdict.{AuthOutcome, proof, signed, permitted, method_verdict, verdict}
use Rattle.ssh_auth.specs.Serve.{may_stop, calls_alone, Concludes, CarriesOut}
use Rattle.ssh_auth.specs.Was.{asked_of}
use Rattle.ssh_auth.proofs.Back.{asked_so, refused_so}

-- ---- where a plan asks only such questions, only such are asked in its events

-- the question of an event, where it has one, is such
abbrev IsSuch : (Question → Type 0) → Option Question → Type 0
IsSuch P None = Unit {0}
IsSuch P (Some question) = P question

module _ {E F : Type 0} (P : Question → Type 0) where
  abbrev AsksSuch : Event E F → Type 0
  AsksSuch event = IsSuch P (asked_in event)

  -- and the rest asks only such ones too
  reaches_only : {O : Type 0} (plan rest : Plan O) (events : List (Event E F)) → AsksOnly P plan
      → Reaches plan events rest → All AsksSuch events × AsksOnly P rest
  reaches_only plan rest [] h r = (All-nil AsksSuch, subst (AsksOnly P) r h)
  reaches_only (Finish outcome) rest (event ∷ events) h r = absurd r
  reaches_only (Ask question next) rest (event ∷ events) h r =
      let later = reaches_only (next r.0) rest events (h.1 r.0) r.2 in
      let such : AsksSuch event = subst (IsSuch P) (sym (asked_so question r.0 event r.1)) h.0 in
      (All-cons AsksSuch event events such later.0, later.1)
  reaches_only (Tell entry next) rest (event ∷ events) h r =
      let later = reaches_only next rest events h r.1 in
      let such : AsksSuch event = subst AsksSuch (sym r.0) tt in
      (All-cons AsksSuch event events such later.0, later.1)

  breaks_only : {O : Type 0} (plan : Plan O) (events : List (Event E F)) (error : OutsideError E F)
      → AsksOnly P plan → Breaks plan events error → All AsksSuch events
  breaks_only plan events error h b =
      let so_far = reaches_only plan (Ask b.question b.next) b.before h b.reaches in
      let such : AsksSuch b.last = subst (IsSuch P)
      (sym (refused_so b.question error b.last b.refused)) so_far.1.0 in
      All-same AsksSuch events (b.before ++ b.last ∷ []) b.is (All-push AsksSuch b.before b.last
      so_far.0 such)

module _ {E : Type 0} (P : Question → Type 0) where
  concludes_only : (plan : Plan AuthOutcome) (events : List (Event E ⊥)) (auth : AuthRequest)
      (result : Result AuthStep (AuthError E)) → AsksOnly P plan →
      Concludes plan events auth result → All (AsksSuch P) events
  concludes_only plan events auth (Ok step) h c = (reaches_only P plan _ events h c).0
  concludes_only plan events auth (Err error.NoMemory) h c =
      (reaches_only P plan c.0 events h c.1).0
  concludes_only plan events auth (Err (error.Encoding why)) h c =
      (reaches_only P plan _ events h c).0
  concludes_only plan events auth (Err error.Inconsistent) h c =
      (reaches_only P plan _ events h c).0
  concludes_only plan events auth (Err (error.Key why)) h c = (reaches_only P plan _ events h c.1).0
  concludes_only plan events auth (Err error.UnsupportedAuthMethod) h c =
      (reaches_only P plan _ events h c).0
  concludes_only plan events auth (Err (error.Handler e)) h c = breaks_only P plan events
      (Handler_error e) h c

-- the same of calls alone
all_asked : {E : Type 0} (P : Question → Type 0) (calls : List (Call E)) → All (AsksSuch {F = ⊥} P)
    (calls_alone calls) → All (λ call. P (asked_of call)) calls
all_asked P [] h = All-nil (λ call. P (asked_of call))
all_asked P (call ∷ calls) h =
    All-cons (λ call. P (asked_of call)) call calls (All-head (AsksSuch {F = ⊥} P) (Called call)
    (calls_alone calls) h)
    (all_asked P calls (All-tail (AsksSuch {F = ⊥} P) (Called call) (calls_alone calls) h))

-- what is added to a list that is told is what was told
all_added : {A : Type 0} (holds : A → Type 0) (may_stop : Bool) (a b : Option (List A))
    (xs : List A) → ToldBy may_stop a b xs → All holds xs → AllAdded holds a b
all_added holds true a b xs t h = λ before more old new.
    let same : before ++ more ≡ before ++ xs = subst (λ x. ToldBy true x (Some (before ++ more)) xs)
    old (subst (λ y. ToldBy true a y xs) new t) in
    subst (All holds) (sym (append_cancel_left before more xs same)) h
all_added holds false a b xs t h = λ before more old new.
    let same : Some (before ++ more) ≡ Some (before ++ xs) =
    subst (λ x. ToldBy false x (Some (before ++ more)) xs) old
    (subst (λ y. ToldBy false a y xs) new t) in
    let is : before ++ more ≡ before ++ xs = cc in
    subst (All holds) (sym (append_cancel_left before more xs is)) h

-- nothing is added to a list that stays as it was
none_added : {A : Type 0} (holds : A → Type 0) (a : Option (List A)) → AllAdded holds a a
none_added holds a = all_added holds false a a [] (adds_nil a) (All-nil holds)

-- where no call is made, none is of another kind than prompts
pub no_prompts : {E : Type 0} (a : Option (List (Call E))) → AllAdded (IsPromptCall {E = E}) a a
no_prompts {E} a = none_added (IsPromptCall {E = E}) a

-- nor is the one that asks in a round of keyboard-interactive
pub one_prompt : {E : Type 0} (may_stop : Bool) (a b : Option (List (Call E)))
    (user submethods : List ℕ) (response : Option (List (List ℕ))) (answer : Result Auth E) →
    ToldBy may_stop a b (AuthKeyboardInteractive user submethods response answer ∷ [])
    → AllAdded (IsPromptCall {E = E}) a b
one_prompt {E} may_stop a b user submethods response answer t =
    let call = AuthKeyboardInteractive user submethods response answer in
    all_added (IsPromptCall {E = E}) may_stop a b (call ∷ []) t
    (All-cons (IsPromptCall {E = E}) call [] tt (All-nil (IsPromptCall {E = E})))

-- so each call that is told is such
carried_only : {E : Type 0} (P : Question → Type 0) (plan : Plan AuthOutcome)
    (a b : Option (List (Call E))) (auth : AuthRequest) (result : Result AuthStep (AuthError E)) →
    AsksOnly P plan → CarriesOut plan a b auth result → AllAdded (λ call. P (asked_of call)) a b
carried_only P plan a b auth result h c =
    all_added (λ call. P (asked_of call)) (may_stop result) a b c.0 c.1
    (all_asked P c.0 (concludes_only P plan (calls_alone c.0) auth result h c.2))

-- ---- a signed request is proven

-- the question by which this key or certificate lets the user in is proven
abbrev pub ProvesKey : Circumstances → (fields user : List ℕ) → PublicKeyOrCertificate → Algorithm
    → Type 0
ProvesKey given fields user (Plain key hash) algorithm = IsProven given fields
    (Admits (by.Publickey user key algorithm))
ProvesKey given fields user (Certificate certificate) algorithm = IsProven given fields
    (Admits (by.OpensshCertificate user certificate))

-- where the verifier accepts its signature, a signed request is proven
abbrev pub Proves : Circumstances → (fields user : List ℕ) → Method → Type 0
Proves given fields user (Signed_method offer (Some true)) = ProvesKey given fields user offer.key
    offer.algorithm
Proves given fields user _ = Unit {0}

-- the name publickey alone names it
named_third : (a b c d : Bool) → (if a then Is_none else
    (if b then Is_password else (if c then Is_publickey else
    (if d then Is_interactive else Is_other)))) ≡ Is_publickey → c ≡ true
named_third a b true d h = refl
named_third true b false d h = cc
named_third false true false d h = cc
named_third false false false true h = cc
named_third false false false false h = cc

pub publickey_named : (name : List ℕ) → named_by name ≡ Is_publickey → name ≡ codes "publickey"
publickey_named name h =
    (bytes_eq-Decides name (codes "publickey")).0
    (named_third (bytes_eq name (codes "none")) (bytes_eq name (codes "password"))
    (bytes_eq name (codes "publickey")) (bytes_eq name (codes "keyboard-interactive")) h)

pub head_named : (fields user name other rest : List ℕ) → name ≡ other → SpellsAll head_fields
    (user, (codes "ssh-connection", (name, tt))) fields rest →
    SpellsAll head_fields (user, (codes "ssh-connection", (other, tt))) fields rest
head_named fields user name other rest is h = rw is at h

by_key : (given : Circumstances) (fields user : List ℕ) (offer : Offer)
    (key : PublicKeyOrCertificate) → offer.key ≡ key → IsSignedBy given fields user offer
    → ProvesKey given fields user key offer.algorithm
by_key given fields user offer (Plain key hash) is signed = (offer, hash, is, refl, signed)
by_key given fields user offer (Certificate certificate) is signed = (offer, is, signed)

-- what a request of this method says is proven
pub proves : (given : Circumstances) (fields user name rest : List ℕ) (method : Method)
    (named : Named) → named_by name ≡ named →
    SpellsAll head_fields (user, (codes "ssh-connection", (name, tt))) fields rest
    → SaysMethod given fields named rest method → Proves given fields user method
proves given fields user name rest (Signed_method offer (Some true)) Is_publickey is head h =
    by_key given fields user offer offer.key refl (
      rest,
      h.0,
      h.1,
      h.2,
      head_named fields user name (codes "publickey") rest (publickey_named name is) head,
      h.3,
      h.4,
      h.5,
      h.6,
      h.7.0 refl,
    )
proves given fields user name rest (Signed_method offer (Some false)) named is head h = tt
proves given fields user name rest (Signed_method offer None) named is head h = tt
proves given fields user name rest (Signed_method offer (Some true)) Is_none is head h = absurd h
proves given fields user name rest (Signed_method offer (Some true)) Is_password is head h =
    absurd h
proves given fields user name rest (Signed_method offer (Some true)) Is_interactive is head h =
    absurd h
proves given fields user name rest (Signed_method offer (Some true)) Is_other is head h = cc
proves given fields user name rest _ named is head h = tt

-- ---- the verdict asks only such questions

module _ (given : Circumstances) (fields : List ℕ) where
  proof_only : (auth : AuthRequest) (user : List ℕ) (key : PublicKeyOrCertificate)
      (algorithm : Algorithm) → ProvesKey given fields user key algorithm
      → AsksOnly (IsProven given fields) (proof auth user key algorithm)
  proof_only auth user (Plain key hash) algorithm h = (h, λ answer. tt)
  proof_only auth user (Certificate certificate) algorithm h = (h, λ answer. tt)

  signed_only : (auth : AuthRequest) (user : List ℕ) (offer : Offer) (accepted : Option Bool)
      → Proves given fields user (Signed_method offer accepted) →
      AsksOnly (IsProven given fields) (signed auth user offer accepted)
  signed_only auth user offer None h = tt
  signed_only auth user offer (Some false) h = tt
  signed_only auth user offer (Some true) h = proof_only auth user offer.key offer.algorithm h

  permitted_only : (auth : AuthRequest) (answer : Auth) (next : Plan AuthOutcome)
      → AsksOnly (IsProven given fields) next → AsksOnly (IsProven given fields)
      (permitted auth answer next)
  permitted_only auth Accept next h = h
  permitted_only auth _ next h = tt

  asked_first_only : (auth : AuthRequest) (user : List ℕ) (offer : Offer) (accepted : Option Bool)
      (is_asked : Bool) → Proves given fields user (Signed_method offer accepted) →
      AsksOnly (IsProven given fields) (if is_asked then signed auth user offer accepted
      else Ask (Admits (by.PublickeyOffered user (offered_key offer.key) offer.algorithm))
      (λ answer. permitted auth answer (signed auth user offer accepted)))
  asked_first_only auth user offer accepted true h = signed_only auth user offer accepted h
  asked_first_only auth user offer accepted false h = (
    tt,
    λ answer. permitted_only auth answer (signed auth user offer accepted)
        (signed_only auth user offer accepted h),
  )

  method_only : (auth : AuthRequest) (user : List ℕ) (method : Method) → Proves given fields user
      method → AsksOnly (IsProven given fields) (method_verdict auth user method)
  method_only auth user None_method h = (tt, λ answer. tt)
  method_only auth user (Password_method password) h = (tt, λ answer. tt)
  method_only auth user (Change_method password new_password) h = tt
  method_only auth user Unusable_method h = tt
  method_only auth user Broken_method h = tt
  method_only auth user (Probe_method offer) h = (tt, λ answer. tt)
  method_only auth user Misnamed_method h = tt
  method_only auth user (Signed_method offer accepted) h = asked_first_only auth user offer accepted
      (is_probed auth.current offer.name offer.blob) h
  method_only auth user (Interactive_method submethods) h = (tt, λ answer. tt)
  method_only auth user Other_method h = tt
  method_only auth user (Unfit_method why) h = tt

  pub verdict_only : (auth : AuthRequest) (said : Requested) → SaysRequest given fields said
      → AsksOnly (IsProven given fields) (verdict auth said)
  verdict_only auth (Request user method) h =
      method_only (begun auth user (codes "ssh-connection")) user method
      (proves given fields user h.0 h.1 method (named_by h.0) refl h.2 h.3)
  verdict_only auth Other_service h = tt
  verdict_only auth (Unfit why) h = tt
  verdict_only auth Unread h = tt

  -- where a request is served as it says, each call that is told is proven
  pub all_proven : {E : Type 0} (auth : AuthRequest) (said : Requested)
      (a b : Option (List (Call E))) (auth' : AuthRequest) (result : Result AuthStep (AuthError E))
      → SaysRequest given fields said →
      CarriesOut (verdict auth said) a b auth' result → AllAdded (IsProvenCall given fields) a b
  all_proven {E} auth said a b auth' result says served =
      carried_only (IsProven given fields) (verdict auth said) a b auth' result
      (verdict_only auth said says) served

  -- where no call is made, none is unproven
  pub none_unproven : {E : Type 0} (a : Option (List (Call E)))
      → AllAdded (IsProvenCall {E = E} given fields) a a
  none_unproven {E} a = none_added (IsProvenCall {E = E} given fields) a
